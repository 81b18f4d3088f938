-- `lists::f32_at` meets its contract: only a NaN's pattern exceeds an infinity's. Assumes nothing.
use mathlib.Core.Path.{sym, ap, ◌∙◌}
use native.Mathlib.Omega.{arith}
use lib.Ieee.{of_bits, binary32}
use Rattle.lists.proofs.Patterns.{zero_by_zero, above, within}
use Rattle.lists.proofs.f32_at.Goals as goal

pub returns-then-v-gt2139095040 : goal.returns-then-v-gt2139095040
returns-then-v-gt2139095040 c = zero_by_zero ∙ sym (ap (of_bits binary32) (sym c.u32_at-v.ensures) ∙ above c.u32_at-v.result (omega arith))

pub float_from_bits-result : goal.float_from_bits-result
float_from_bits-result c = within c.u32_at-v.result (omega arith)

-- `router::put_refused` meets its contract: the number that the refusal is told as. Assumes nothing.
use Rattle.router.proofs.Laws.{told_low}
use Rattle.pairs.specs.Pairs.{first_bad}
use native.Mathlib.Omega.{arith}
use mathlib.Core.Path.{refl}
use Rattle.router.proofs.put_refused.Goals as goal

pub put_answer-requires : goal.put_answer-requires
unfolding first_bad
put_answer-requires c = (omega (arith, c.number.ensures, told_low c.args.r), c.requires.0, omega arith, refl, refl, c.requires.1)

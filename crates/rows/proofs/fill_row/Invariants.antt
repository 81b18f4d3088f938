-- `rows::fill_row` meets its contract: the marks that are yet to be written give the whole row. Assumes nothing.
use mathlib.Core.Path.{◌≡◌}
use Prim.Native.Nat.{◌+◌}
use lib.Seq.{sets}
use lib.ListN.{length, drop}
use Rattle.std.proofs.Common.{map}
use Rattle.rows.specs.Rows.{mark_of}
use Rattle.rows.proofs.fill_row.Given as goal

abbrev pub invariant-loop-i : goal.invariant-loop-i
invariant-loop-i l = (length l.blocked ≡ length l.initial.blocked)
    × (sets l.blocked (l.from + l.i) (map mark_of (drop l.i l.cells)) ≡ sets l.initial.blocked l.from (map mark_of l.cells))

-- `rows::read_rows` meets its contract: the rows from here on give the answer and the cells of all rows. Assumes nothing.
use mathlib.Core.Path.{◌≡◌}
use Prim.Native.Nat.{◌+◌, ◌-◌, ◌*◌}
use lib.Seq.{sets}
use lib.ListN.{length}
use Rattle.rows.specs.Rows.{rows_of, cells_of}
use Rattle.rows.proofs.read_rows.Given as goal

abbrev pub invariant-loop-i : goal.invariant-loop-i
invariant-loop-i l = (length l.blocked ≡ length l.initial.blocked)
    × (rows_of (l.h - l.i) l.w (6 + l.i) l.rest ≡ rows_of l.h l.w 6 l.s)
    × (sets l.blocked (l.i * l.w) (cells_of (l.h - l.i) l.w l.rest) ≡ sets l.initial.blocked 0 (cells_of l.h l.w l.s))

-- `map_printing::put_rows` meets its contract: the rows that are yet to be stored give them all. Assumes nothing.
use mathlib.Core.Path.{◌≡◌}
use Prim.Native.Nat.{◌+◌, ◌-◌, ◌*◌}
use lib.Seq.{sets}
use lib.ListN.{length, drop}
use Rattle.map_printing.specs.Shown.{rows_text}
use Rattle.map_printing.proofs.put_rows.Given as goal

abbrev pub invariant-loop-i : goal.invariant-loop-i
invariant-loop-i l = (length l.buf ≡ length l.initial.buf) × (l.end ≡ l.at + l.i * (l.w + 5))
    × (sets l.buf l.end (rows_text (l.h - l.i) l.w (drop (l.i * l.w) l.blocked)) ≡ sets l.initial.buf l.at (rows_text l.h l.w l.blocked))

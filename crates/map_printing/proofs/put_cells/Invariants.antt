-- `map_printing::put_cells` meets its contract: the cells that are yet to be stored give the whole row. Assumes nothing.
use mathlib.Core.Path.{◌≡◌}
use Prim.Native.Nat.{◌+◌}
use lib.Seq.{sets}
use lib.ListN.{length, drop}
use Rattle.std.proofs.Common.{map}
use Rattle.map_printing.specs.Shown.{glyph_of}
use Rattle.map_printing.proofs.put_cells.Given as goal

abbrev pub invariant-loop-i : goal.invariant-loop-i
invariant-loop-i l = (length l.buf ≡ length l.initial.buf)
    × (sets l.buf (l.at + l.i) (map glyph_of (drop l.i l.cells)) ≡ sets l.initial.buf l.at (map glyph_of l.cells))

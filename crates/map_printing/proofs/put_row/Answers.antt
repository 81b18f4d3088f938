-- `map_printing::put_row` meets its contract: the word, the cells and the newline stored one after the other. Assumes nothing.
use mathlib.Core.Path.{sym, ◌∙◌}
use Prim.Native.Nat.{◌+◌}
use lib.Seq.{sets}
use lib.ListN.{length, set}
use Rattle.std.proofs.Common.{map}
use Rattle.map_printing.specs.Shown.{glyph_of}
use Rattle.map_printing.proofs.Shows.{row_stores}
use Rattle.map_printing.proofs.put_row.Goals as goal

pub returns : goal.returns
returns c =
    let a = c.args in
    let w = c.put_word-from.ensures in
    (λ i. set ((c.put_cells.ensures ∙ (λ j. sets (w.1 j) (w.0 j) (map glyph_of a.cells.now))) i) (w.0 i + length a.cells.now) 10) ∙ sym (row_stores a.buf.now a.at a.cells.now)

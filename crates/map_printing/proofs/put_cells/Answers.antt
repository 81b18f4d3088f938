-- `map_printing::put_cells` meets its contract: the cells that are yet to be stored give the whole row. Assumes nothing.
use mathlib.Core.Path.{sym, ap, ◌∙◌}
use mathlib.Core.List.{List}
use Prim.Native.Nat.{ℕ, ◌+◌}
use native.Mathlib.Omega.{arith}
use lib.Seq.{sets}
use lib.ListN.{drop_of_length-le}
use Rattle.std.proofs.Common.{map}
use Rattle.map_printing.specs.Shown.{glyph_of}
use Rattle.map_printing.proofs.put_cells.Goals as goal

pub returns : goal.returns
returns c =
    let l = c.loop-i in
    sym (ap (λ (m : List ℕ). sets l.buf (c.args.at + l.i) (map glyph_of m)) (drop_of_length-le c.args.cells.now (omega arith))) ∙ l.invariant.1

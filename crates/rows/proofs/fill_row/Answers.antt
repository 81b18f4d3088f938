-- `rows::fill_row` meets its contract: the marks that are yet to be written give the whole row. Assumes nothing.
use mathlib.Core.Path.{sym, ap, ◌∙◌}
use mathlib.Core.List.{List}
use Prim.Native.Nat.{ℕ, ◌+◌}
use native.Mathlib.Omega.{arith}
use lib.Seq.{sets}
use lib.ListN.{drop_of_length-le}
use Rattle.std.proofs.Common.{map}
use Rattle.rows.specs.Rows.{mark_of}
use Rattle.rows.proofs.fill_row.Goals as goal

pub returns : goal.returns
returns c =
    let l = c.loop-i in
    sym (ap (λ (m : List ℕ). sets l.blocked (c.args.from + l.i) (map mark_of m)) (drop_of_length-le c.args.cells.now (omega arith))) ∙ l.invariant.1

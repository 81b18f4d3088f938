-- `grid::stated` meets its contract. Assumes nothing.
use mathlib.Core.Path.{◌≡◌, sym, ◌∙◌}
use Prim.Native.Nat.{◌*◌}
use native.Mathlib.Omega.{arith}
use lib.ListN.{length}
use Rattle.cells.specs.Cells.{most_side}
use Rattle.grid.proofs.Tests
use borrow.Author.Rules.{rules}
use Rattle.grid.proofs.stated.Goals as goal

pub returns-then-legal-clause-is : goal.returns-then-legal-clause-is
returns-then-legal-clause-is c = Tests.stated_yes _ (sym c.legal.ensures ∙ c.if-legal.true)

pub returns-then-legal-clause-fits : goal.returns-then-legal-clause-fits
returns-then-legal-clause-fits c =
    let g = c.args.g in
    let lp : length g.parent ≡ most_side * most_side = search rules in
    let lk : length g.rank ≡ most_side * most_side = search rules in
    Tests.fits g (sym c.legal.ensures ∙ c.if-legal.true) (omega arith) (omega arith)

pub returns-else-legal-clause-is : goal.returns-else-legal-clause-is
returns-else-legal-clause-is c = Tests.stated_no _ (sym c.legal.ensures ∙ c.if-legal.false)

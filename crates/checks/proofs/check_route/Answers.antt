-- `checks::check_route` meets its contract: STATE, then the check over the grid's cells. Assumes nothing.
use mathlib.Core.Path.{◌≡◌, sym, ◌∙◌}
use native.Mathlib.Omega.{arith}
use lib.ListN.{length}
use Rattle.grid.proofs.Tests.{of_legal_lem}
use Rattle.checks.proofs.Laws.{check_state, check_held}
use borrow.Author.Rules.{rules}
use Rattle.checks.proofs.check_route.Goals as goal

pub returns-then-not-legal : goal.returns-then-not-legal
returns-then-not-legal c =
    let a = c.args in
    check_state a.g a.list.now (sym c.legal.ensures ∙ c.if-not-legal.true)

pub check_list-requires : goal.check_list-requires
check_list-requires c =
    let f = of_legal_lem c.args.g (sym c.legal.ensures ∙ c.if-not-legal.false) in
    let room : length c.args.g.blocked ≡ 4096 = search rules in
    (f.sides.wide, f.sides.high, omega (arith, f.cells, room))

pub returns : goal.returns
returns c =
    let a = c.args in
    c.check_list.ensures ∙ check_held a.g a.list.now (sym c.legal.ensures ∙ c.if-not-legal.false)

-- `grid::legal` tests the sides and the state. Assumes nothing.
use mathlib.Core.Path.{◌≡◌, ◌∙◌, sym}
use Prim.Native.Nat.{◌*◌}
use native.Mathlib.Omega.{arith}
use lib.ListN.{length}
use Rattle.cells.specs.Cells.{most_side}
use Rattle.cells.proofs.Cell.{area, sides_of_lem}
use Rattle.grid.proofs.Tests
use borrow.Author.Rules.{rules}
use Rattle.grid.proofs.legal.Goals as goal

pub overflow_mul-g : goal.overflow_mul-g
overflow_mul-g c = let s = sides_of_lem (sym c.sized.ensures ∙ c.if-sized.true) in omega (arith, area _ _ s.wide s.high)

pub state_ok-requires : goal.state_ok-requires
state_ok-requires c =
    let s = sides_of_lem (sym c.sized.ensures ∙ c.if-sized.true) in
    let g = c.args.g in
    let a = area g.width g.height s.wide s.high in
    let lp : length g.parent ≡ most_side * most_side = search rules in
    let lk : length g.rank ≡ most_side * most_side = search rules in
    (omega arith, omega arith)

pub returns-then-sized : goal.returns-then-sized
returns-then-sized c = c.state_ok.ensures ∙ Tests.good_size _ (sym c.sized.ensures ∙ c.if-sized.true)

pub returns-else-sized : goal.returns-else-sized
returns-else-sized c = Tests.bad_size _ (sym c.sized.ensures ∙ c.if-sized.false)

-- `grid::new` meets its contract. Assumes nothing.
use mathlib.Core.Path.{sym, ◌∙◌}
use Rattle.cells.proofs.Cell.{sides_of_lem}
use Rattle.grid.proofs.Calls
use Rattle.grid.proofs.new.Goals as goal

pub returns-then-not-sized : goal.returns-then-not-sized
returns-then-not-sized c = Calls.new_size _ _ _ (sym c.sized.ensures ∙ c.if-not-sized.true) c.made.ensures

pub made-requires-2 : goal.made-requires-2
made-requires-2 c = sides_of_lem (sym c.sized.ensures ∙ c.if-not-sized.false)

pub returns : goal.returns
returns c = Calls.new_done _ _ _ (sym c.sized.ensures ∙ c.if-not-sized.false) c.made-2.ensures

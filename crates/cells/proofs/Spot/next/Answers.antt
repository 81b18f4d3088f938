-- `cells::Spot::next` meets its contract. Assumes nothing.
use borrow.Author.Rules.{rules}
use Rattle.cells.proofs.Cell.{next_in}
use Rattle.cells.proofs.Spot.next.Goals as goal

pub returns-then-contains-2-clause-inside : goal.returns-then-contains-2-clause-inside
returns-then-contains-2-clause-inside c = next_in _ _ _ _ _ _ _ (search rules) (search rules) (search rules) (search rules) (search rules) (search rules) (search rules)

-- `questions::near`: the goal's place from its number, and the neighbourhood of the setting. Assumes nothing.
use borrow.Author.Rules.{rules}
use Rattle.questions.proofs.Answers
use Rattle.questions.proofs.near.Goals as goal

pub returns : goal.returns
returns c = Answers.near_is _ _ _ _ _ _ _ _ _ (search rules) c.find-root.ensures (rw (c.cell.ensures.sides.0, c.cell.ensures.sides.1, c.cell.ensures.place.0, c.cell.ensures.place.1) at c.near_along.ensures)

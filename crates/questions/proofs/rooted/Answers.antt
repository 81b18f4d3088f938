-- `questions::rooted` meets its contract. Assumes nothing.
use mathlib.Core.Path.{◌∙◌}
use borrow.Author.Tests.{le-ltb}
use Rattle.questions.proofs.Answers
use Rattle.questions.proofs.rooted.Goals as goal

pub returns-then-c-n : goal.returns-then-c-n
returns-then-c-n c = Answers.rooted_in _ _ _ _ _ c.if-c-n.true c.find.ensures

pub returns-else-c-n : goal.returns-else-c-n
returns-else-c-n c = le-ltb _ _ c.if-c-n.false ∙ Answers.rooted_out _ _ _ _ c.if-c-n.false

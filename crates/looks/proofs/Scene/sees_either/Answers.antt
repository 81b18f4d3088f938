-- `looks::Scene::sees_either` meets its contract. Assumes nothing.
use Rattle.looks.specs.Looks.{sees_either}
use Rattle.looks.proofs.Scene.sees_either.Goals as goal

pub returns-then-sees_on : goal.returns-then-sees_on
unfolding sees_either
returns-then-sees_on c = rw (← c.sees_on.ensures, c.if-sees_on.true)

pub returns-else-sees_on : goal.returns-else-sees_on
unfolding sees_either
returns-else-sees_on c = rw (← c.sees_on.ensures, c.if-sees_on.false) c.sees_on-else-sees_on.ensures

-- `plans::barred`: exact and approximate ask their own question. Assumes nothing.
use mathlib.Core.Path.{◌∙◌}
use Rattle.plans.specs.Plans.{barred_of}
use Rattle.plans.proofs.barred.Goals as goal

pub returns-then-approximate : goal.returns-then-approximate
unfolding barred_of
returns-then-approximate c = c.neighbours_unreachable.ensures ∙ rw (c.if-approximate.true, c.cell_of-a.ensures, c.cell_of-c.ensures)

pub returns : goal.returns
unfolding barred_of
returns c = c.unreachable.ensures ∙ rw (c.if-approximate.false, c.cell_of-a.ensures, c.cell_of-c.ensures)

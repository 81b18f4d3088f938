-- `paths::steps_between` meets its contract, by the heading. Assumes nothing.
use Rattle.std.proofs.Common.{sym, ◌∙◌}
use Rattle.paths.proofs.Legs.{leg_steps, no_steps}
use Rattle.paths.proofs.steps_between.Goals as goal

pub returns-in-Ok : goal.returns-in-Ok
returns-in-Ok c = leg_steps c.in-Ok.heading c.args.p c.args.q c.steps.result (sym c.in-Ok.is ∙ c.direction_between.ensures) c.steps.ensures

pub returns-in-Err : goal.returns-in-Err
returns-in-Err c = sym (no_steps c.in-Err.field-0 c.args.p c.args.q (sym c.in-Err.is ∙ c.direction_between.ensures))

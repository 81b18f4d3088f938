-- `search::search` meets its contract. Assumes nothing.
use Rattle.search.proofs.Turns.{search_start, search_empty, search_spent, search_hit, search_halt, search_on}
use Rattle.expansion.specs.Expand.{tables}
use mathlib.Core.Path.{ap, ◌∙◌}
use Rattle.std.specs.Prelude.{Ok}
use Rattle.search.proofs.search.Goals as goal

pub loop-work-init : goal.loop-work-init
loop-work-init c = search_start (tables c.args.blocked.now c.args.neighbours.now c.args.forced.now c.args.goals.now) _ _ c.args.work.now _ c.start_at.ensures.stays c.requires.0 c.requires.1.0 c.requires.1.1.1 c.start_at.ensures.begun

pub returns-then-limit-pops-clause-searched : goal.returns-then-limit-pops-clause-searched
returns-then-limit-pops-clause-searched c = search_spent _ _ _ _ _ _ c.loop-work.invariant c.loop-work-test.true c.if-limit-pops.true

pub returns-in-Ok-Some-clause-searched : goal.returns-in-Ok-Some-clause-searched
returns-in-Ok-Some-clause-searched c = search_hit _ _ _ _ _ _ c.loop-work.invariant c.loop-work-test.true c.if-limit-pops.false c.pop_one.new.work _ c.pop_one.ensures.popped c.in-Ok-Some.hit (c.in-Ok-Some.is ∙ ap Ok c.in-Ok-Some.field-0-is)

pub loop-work-preserved : goal.loop-work-preserved
loop-work-preserved c = search_on _ _ _ _ _ _ c.loop-work.invariant c.loop-work-test.true c.if-limit-pops.false c.pop_one.new.work _ c.pop_one.ensures.popped (c.in-Ok-None.is ∙ ap Ok c.in-Ok-None.field-0-is) c.requires.1.0 c.pop_one.ensures.stays

pub returns-in-Err-clause-searched : goal.returns-in-Err-clause-searched
returns-in-Err-clause-searched c = search_halt _ _ _ _ _ _ c.loop-work.invariant c.loop-work-test.true c.if-limit-pops.false c.pop_one.new.work _ c.pop_one.ensures.popped _ c.in-Err.is

pub returns-clause-searched : goal.returns-clause-searched
returns-clause-searched c = search_empty _ _ _ _ _ _ c.loop-work.invariant c.loop-work-test.false

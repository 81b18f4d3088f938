-- `finder::multiple_goals`: each refusal by the first test that fails; past all of them the plan is legal. Assumes nothing.
use mathlib.Core.Path.{sym, ◌∙◌}
use lib.ListN.{length}
use Rattle.finder.proofs.Laws.{stopped, several_setting, several_count, several_start, several_goals, several_asked, several_answer, count_even}
use Rattle.finder.specs.Find.{lent_ground, lengths_of, several_plan}
use Rattle.finder.proofs.multiple_goals.Goals as goal

pub returns-then-not-ready : goal.returns-then-not-ready
returns-then-not-ready c = stopped _ _ _ _ (several_plan c.args.w c.args.h c.args.s c.args.start c.args.goals.now) _ c.refused.ensures (several_setting (lent_ground c.args.w c.args.h c.args.blocked.now c.args.neighbours.now c.args.forced.now) c.args.s (lengths_of c.args.number.now c.args.place.now c.args.parent.now c.args.cost.now c.args.keys.now c.args.idx.now) c.args.start c.args.goals.now (sym c.ready.ensures ∙ c.if-not-ready.true))

pub returns-in_default : goal.returns-in_default
returns-in_default c = stopped _ _ _ _ (several_plan c.args.w c.args.h c.args.s c.args.start c.args.goals.now) _ c.refused-in_default.ensures (several_count (lent_ground c.args.w c.args.h c.args.blocked.now c.args.neighbours.now c.args.forced.now) c.args.s (lengths_of c.args.number.now c.args.place.now c.args.parent.now c.args.cost.now c.args.keys.now c.args.idx.now) c.args.start c.args.goals.now (sym c.ready.ensures ∙ c.if-not-ready.false) _ (sym c.in_default.is ∙ c.count_goals.ensures))

pub returns-then-not-legal : goal.returns-then-not-legal
returns-then-not-legal c = stopped _ _ _ _ (several_plan c.args.w c.args.h c.args.s c.args.start c.args.goals.now) _ c.refused-then-not-legal.ensures (several_start (lent_ground c.args.w c.args.h c.args.blocked.now c.args.neighbours.now c.args.forced.now) c.args.s (lengths_of c.args.number.now c.args.place.now c.args.parent.now c.args.cost.now c.args.keys.now c.args.idx.now) c.args.start c.args.goals.now (sym c.ready.ensures ∙ c.if-not-ready.false) _ (sym c.in-Ok.is ∙ c.count_goals.ensures) (sym c.legal.ensures ∙ c.if-not-legal.true))

pub bad_point-requires : goal.bad_point-requires
bad_point-requires c = count_even (length c.args.goals.now) c.in-Ok.n (sym c.in-Ok.is ∙ c.count_goals.ensures)

pub returns-in-Some : goal.returns-in-Some
returns-in-Some c = stopped _ _ _ _ (several_plan c.args.w c.args.h c.args.s c.args.start c.args.goals.now) _ c.refused-in-Some.ensures (several_goals (lent_ground c.args.w c.args.h c.args.blocked.now c.args.neighbours.now c.args.forced.now) c.args.s (lengths_of c.args.number.now c.args.place.now c.args.parent.now c.args.cost.now c.args.keys.now c.args.idx.now) c.args.start c.args.goals.now (sym c.ready.ensures ∙ c.if-not-ready.false) _ (sym c.in-Ok.is ∙ c.count_goals.ensures) (sym c.legal.ensures ∙ c.if-not-legal.false) _ (sym c.in-Some.is ∙ c.bad_point.ensures))

pub find-requires : goal.find-requires
find-requires c = several_asked c.args.w c.args.h c.args.blocked.now c.args.neighbours.now c.args.forced.now c.args.s c.args.number.now c.args.place.now c.args.parent.now c.args.cost.now c.args.keys.now c.args.idx.now c.args.start c.args.goals.now (sym c.ready.ensures ∙ c.if-not-ready.false) c.in-Ok.n (sym c.in-Ok.is ∙ c.count_goals.ensures) (sym c.legal.ensures ∙ c.if-not-legal.false) (sym c.in_default-bad_point.is ∙ c.bad_point.ensures) c.plan-p.result c.plan-p.ensures c.requires.0 c.requires.1

pub returns : goal.returns
returns c = several_answer c.args.w c.args.h c.args.blocked.now c.args.neighbours.now c.args.forced.now c.args.s c.args.number.now c.args.place.now c.args.parent.now c.args.cost.now c.args.keys.now c.args.idx.now c.args.start c.args.goals.now (sym c.ready.ensures ∙ c.if-not-ready.false) c.in-Ok.n (sym c.in-Ok.is ∙ c.count_goals.ensures) (sym c.legal.ensures ∙ c.if-not-legal.false) (sym c.in_default-bad_point.is ∙ c.bad_point.ensures) c.plan-p.result c.plan-p.ensures c.find.result (length c.args.out.now) c.args.out.now c.find.new.out c.find.ensures

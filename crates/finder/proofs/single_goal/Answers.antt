-- `finder::single_goal`: each refusal by the first test that fails; past all of them the plan is legal. Assumes nothing.
use mathlib.Core.Path.{sym, ◌∙◌}
use lib.ListN.{length}
use Rattle.finder.proofs.Laws.{stopped, single_setting, single_start, single_goal, single_barred, single_asked, single_answer}
use Rattle.finder.specs.Find.{lent_ground, lengths_of, single_plan}
use Rattle.finder.proofs.single_goal.Goals as goal

pub returns-then-not-ready : goal.returns-then-not-ready
returns-then-not-ready c = stopped _ _ _ _ (single_plan c.args.w c.args.h c.args.s c.args.approximate c.args.start c.args.goal) _ c.refused.ensures (single_setting (lent_ground c.args.w c.args.h c.args.blocked.now c.args.neighbours.now c.args.forced.now) c.args.links.now c.args.s (lengths_of c.args.number.now c.args.place.now c.args.parent.now c.args.cost.now c.args.keys.now c.args.idx.now) c.args.approximate c.args.start c.args.goal (sym c.ready.ensures ∙ c.if-not-ready.true))

pub returns-then-not-legal : goal.returns-then-not-legal
returns-then-not-legal c = stopped _ _ _ _ (single_plan c.args.w c.args.h c.args.s c.args.approximate c.args.start c.args.goal) _ c.refused-then-not-legal.ensures (single_start (lent_ground c.args.w c.args.h c.args.blocked.now c.args.neighbours.now c.args.forced.now) c.args.links.now c.args.s (lengths_of c.args.number.now c.args.place.now c.args.parent.now c.args.cost.now c.args.keys.now c.args.idx.now) c.args.approximate c.args.start c.args.goal (sym c.ready.ensures ∙ c.if-not-ready.false) (sym c.legal.ensures ∙ c.if-not-legal.true))

pub returns-then-not-legal-2 : goal.returns-then-not-legal-2
returns-then-not-legal-2 c = stopped _ _ _ _ (single_plan c.args.w c.args.h c.args.s c.args.approximate c.args.start c.args.goal) _ c.refused-then-not-legal-2.ensures (single_goal (lent_ground c.args.w c.args.h c.args.blocked.now c.args.neighbours.now c.args.forced.now) c.args.links.now c.args.s (lengths_of c.args.number.now c.args.place.now c.args.parent.now c.args.cost.now c.args.keys.now c.args.idx.now) c.args.approximate c.args.start c.args.goal (sym c.ready.ensures ∙ c.if-not-ready.false) (sym c.legal.ensures ∙ c.if-not-legal.false) (sym c.legal-2.ensures ∙ c.if-not-legal-2.true))

pub returns-then-barred : goal.returns-then-barred
returns-then-barred c = stopped _ _ _ _ (single_plan c.args.w c.args.h c.args.s c.args.approximate c.args.start c.args.goal) _ c.refused-then-barred.ensures (single_barred (lent_ground c.args.w c.args.h c.args.blocked.now c.args.neighbours.now c.args.forced.now) c.args.links.now c.args.s (lengths_of c.args.number.now c.args.place.now c.args.parent.now c.args.cost.now c.args.keys.now c.args.idx.now) c.args.approximate c.args.start c.args.goal (sym c.ready.ensures ∙ c.if-not-ready.false) (sym c.legal.ensures ∙ c.if-not-legal.false) (sym c.legal-2.ensures ∙ c.if-not-legal-2.false) (sym c.barred.ensures ∙ c.if-barred.true))

pub find-requires : goal.find-requires
find-requires c = single_asked c.args.w c.args.h c.args.blocked.now c.args.neighbours.now c.args.forced.now c.args.links.now c.args.s c.args.number.now c.args.place.now c.args.parent.now c.args.cost.now c.args.keys.now c.args.idx.now c.args.approximate c.args.start c.args.goal (sym c.ready.ensures ∙ c.if-not-ready.false) (sym c.legal.ensures ∙ c.if-not-legal.false) (sym c.legal-2.ensures ∙ c.if-not-legal-2.false) c.kind_of-kind.result c.plan-p.result c.kind_of-kind.ensures c.plan-p.ensures c.requires.0 c.requires.1.0

pub returns : goal.returns
returns c = single_answer c.args.w c.args.h c.args.blocked.now c.args.neighbours.now c.args.forced.now c.args.links.now c.args.s c.args.number.now c.args.place.now c.args.parent.now c.args.cost.now c.args.keys.now c.args.idx.now c.args.approximate c.args.start c.args.goal (sym c.ready.ensures ∙ c.if-not-ready.false) (sym c.legal.ensures ∙ c.if-not-legal.false) (sym c.legal-2.ensures ∙ c.if-not-legal-2.false) c.kind_of-kind.result c.plan-p.result c.kind_of-kind.ensures c.plan-p.ensures c.find.result (length c.args.out.now) c.args.out.now c.find.new.out (sym c.barred.ensures ∙ c.if-barred.false) c.find.ensures

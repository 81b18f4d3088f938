-- `packing::direction` meets its contract: as many steps as lead between two points in range leave room for the rest. Assumes nothing.
use Rattle.std.proofs.Common.{◌≤◌, Result, Ok, sym, ap, ◌∙◌, subst, arith}
use Rattle.points.specs.declared.Refusal.{Refusal}
use Rattle.bends.specs.declared.Heading.{Heading}
use Rattle.bends.specs.Bends.{steps_of}
use Rattle.headings.proofs.Lines.{direction_short}
use Rattle.packing.proofs.direction.Goals as goal

pub overflow_mul-result : goal.overflow_mul-result
overflow_mul-result c = omega (arith, subst (λ (k : Result Heading Refusal). steps_of k ≤ 2047) (sym c.direction_to.ensures ∙ c.in-Ok-Straight.is ∙ ap Ok c.in-Ok-Straight.field-0-is) (direction_short c.args.a c.args.b))

pub overflow_add-result : goal.overflow_add-result
overflow_add-result c = omega (arith, subst (λ (k : Result Heading Refusal). steps_of k ≤ 2047) (sym c.direction_to.ensures ∙ c.in-Ok-Straight.is ∙ ap Ok c.in-Ok-Straight.field-0-is) (direction_short c.args.a c.args.b))

pub overflow_mul-result-in-Ok-Bent : goal.overflow_mul-result-in-Ok-Bent
overflow_mul-result-in-Ok-Bent c = omega (arith, subst (λ (k : Result Heading Refusal). steps_of k ≤ 2047) (sym c.direction_to.ensures ∙ c.in-Ok-Bent.is ∙ ap Ok c.in-Ok-Bent.field-0-is) (direction_short c.args.a c.args.b))

pub overflow_add-result-in-Ok-Bent : goal.overflow_add-result-in-Ok-Bent
overflow_add-result-in-Ok-Bent c = omega (arith, subst (λ (k : Result Heading Refusal). steps_of k ≤ 2047) (sym c.direction_to.ensures ∙ c.in-Ok-Bent.is ∙ ap Ok c.in-Ok-Bent.field-0-is) (direction_short c.args.a c.args.b))

pub overflow_add-result-in-Ok-Bent-2 : goal.overflow_add-result-in-Ok-Bent-2
overflow_add-result-in-Ok-Bent-2 c = omega (arith, subst (λ (k : Result Heading Refusal). steps_of k ≤ 2047) (sym c.direction_to.ensures ∙ c.in-Ok-Bent.is ∙ ap Ok c.in-Ok-Bent.field-0-is) (direction_short c.args.a c.args.b))

-- `checks::leg_clear` meets its contract: the steps that are left are as free as the whole leg. Assumes nothing.
use Rattle.std.proofs.Common.{◌≡◌, ℕ, ◌+◌, ◌-◌, true, false, sym, ap, ◌∙◌, arith}
use Rattle.headings.specs.Headings.{span_of}
use Rattle.paths.specs.Walks.{walk_of}
use Rattle.paths.proofs.Legs.{tells_begin, leg_turn, leg_steps, no_steps}
use Rattle.checks.specs.Checks.{all_free}
use Rattle.checks.proofs.Laws.{leg_end, leg_more}
use Rattle.checks.proofs.leg_clear.Goals as goal

pub returns-in_default : goal.returns-in_default
returns-in_default c =
    let a = c.args in
    sym (leg_end a.w a.h a.blocked.now a.p a.q (span_of a.p a.q) (no_steps c.in_default.field-0 a.p a.q (sym c.in_default.is ∙ c.direction_between.ensures)))

pub loop-init : goal.loop-init
loop-init c =
    let a = c.args in
    let all : c.steps-end.result - 0 ≡ c.steps-end.result = omega arith in (
      c.requires.3,
      tells_begin c.in-Ok.heading a.p a.q (c.steps-end.result - 0) (sym c.in-Ok.is ∙ c.direction_between.ensures) (all ∙ c.steps-end.ensures),
      ap (λ (n : ℕ). all_free a.w a.h a.blocked.now (walk_of n a.p a.q)) all,
    )

pub returns-then-not-free_at : goal.returns-then-not-free_at
returns-then-not-free_at c =
    let a = c.args in
    let n = c.steps-end.result - (c.loop.counter + 1) in
    let m = c.steps-end.result - c.loop.counter in
    let t = leg_turn c.in-Ok.heading c.loop.here a.q c.onward-here.result n m c.loop.invariant.0 c.requires.4 (omega arith) c.loop.invariant.1 c.onward-here.ensures in
    let e = leg_steps c.in-Ok.heading a.p a.q c.steps-end.result (sym c.in-Ok.is ∙ c.direction_between.ensures) c.steps-end.ensures in
    leg_more a.w a.h a.blocked.now c.loop.here a.q c.onward-here.result n m false t.0 (omega arith) (sym c.if-not-free_at.true ∙ c.free_at.ensures)
    ∙ c.loop.invariant.2
    ∙ ap (λ (k : ℕ). all_free a.w a.h a.blocked.now (walk_of k a.p a.q)) e

pub loop-preserved : goal.loop-preserved
loop-preserved c =
    let a = c.args in
    let n = c.steps-end.result - (c.loop.counter + 1) in
    let m = c.steps-end.result - c.loop.counter in
    let t = leg_turn c.in-Ok.heading c.loop.here a.q c.onward-here.result n m c.loop.invariant.0 c.requires.4 (omega arith) c.loop.invariant.1 c.onward-here.ensures in
    (t.1, t.2, leg_more a.w a.h a.blocked.now c.loop.here a.q c.onward-here.result n m true t.0 (omega arith) (sym c.if-not-free_at.false ∙ c.free_at.ensures) ∙ c.loop.invariant.2)

pub returns : goal.returns
returns c =
    let a = c.args in
    let e = leg_steps c.in-Ok.heading a.p a.q c.steps-end.result (sym c.in-Ok.is ∙ c.direction_between.ensures) c.steps-end.ensures in
    sym (leg_end a.w a.h a.blocked.now c.loop.here a.q (c.steps-end.result - c.loop.counter) (omega arith))
    ∙ c.loop.invariant.2
    ∙ ap (λ (k : ℕ). all_free a.w a.h a.blocked.now (walk_of k a.p a.q)) e

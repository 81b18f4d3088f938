-- `paths::put_walk` meets its contract: the steps that are left give the whole walk. Assumes nothing.
use Rattle.std.proofs.Common.{◌≡◌, ℕ, ◌+◌, ◌-◌, ◌*◌, refl, sym, ap, ◌∙◌, arith}
use Rattle.std.proofs.lemmas.List.Edits.{sets}
use Rattle.headings.specs.Headings.{span_of}
use Rattle.paths.specs.Walks.{walk_of}
use Rattle.paths.proofs.Laws.{walk_here, walk_done}
use Rattle.paths.proofs.Legs.{tells_begin, leg_turn, leg_steps, no_steps}
use Rattle.paths.proofs.put_walk.Goals as goal

pub returns-in_default : goal.returns-in_default
returns-in_default c =
    let z = no_steps c.in_default.field-0 c.args.p c.args.q (sym c.in_default.is ∙ c.direction_between.ensures) in
    (omega (arith, z), sym (walk_done c.args.out.now c.args.at (span_of c.args.p c.args.q) c.args.p c.args.q z))

pub loop-i-init : goal.loop-i-init
loop-i-init c =
    let at : c.args.at + 0 ≡ c.args.at = omega arith in
    let all : c.steps-steps.result - 0 ≡ c.steps-steps.result = omega arith in (
      c.requires.0,
      tells_begin c.in-Ok.heading c.args.p c.args.q (c.steps-steps.result - 0) (sym c.in-Ok.is ∙ c.direction_between.ensures) (all ∙ c.steps-steps.ensures),
      refl,
      λ i. sets c.args.out.now (at i) (walk_of (all i) c.args.p c.args.q),
    )

pub loop-i-preserved : goal.loop-i-preserved
loop-i-preserved c =
    let left = c.steps-steps.result - (c.loop-i.i + 1) in
    let t = leg_turn c.in-Ok.heading c.loop-i.here c.args.q c.onward-here.result left (c.steps-steps.result - c.loop-i.i) c.loop-i.invariant.0 c.requires.1 (omega arith) c.loop-i.invariant.1 c.onward-here.ensures in (
      t.1,
      t.2,
      c.put.auto.out ∙ c.loop-i.invariant.2,
      walk_here c.loop-i.out c.put.new.out (c.args.at + 2 * c.loop-i.i) (c.args.at + 2 * (c.loop-i.i + 1)) c.loop-i.here c.args.q c.onward-here.result left (c.steps-steps.result - c.loop-i.i) t.0 c.put.ensures (omega arith) (omega arith)
          ∙ c.loop-i.invariant.3,
    )

pub returns : goal.returns
returns c =
    let e : c.steps-steps.result ≡ span_of c.args.p c.args.q = leg_steps c.in-Ok.heading c.args.p c.args.q c.steps-steps.result (sym c.in-Ok.is ∙ c.direction_between.ensures) c.steps-steps.ensures in (
      ap (λ (n : ℕ). c.args.at + 2 * n) e,
      sym (walk_done c.loop-i.out (c.args.at + 2 * c.loop-i.i) (c.steps-steps.result - c.loop-i.i) c.loop-i.here c.args.q (omega arith))
          ∙ c.loop-i.invariant.3
          ∙ ap (λ (n : ℕ). sets c.args.out.now c.args.at (walk_of n c.args.p c.args.q)) e,
    )

-- `checks::leg_clear` meets its contract: the steps that are left are as free as the whole leg. Assumes nothing.
use Rattle.std.proofs.Common.{◌≡◌, ◌-◌, T}
use Rattle.points.specs.Plane.{legal}
use Rattle.paths.specs.Walks.{walk_of}
use Rattle.paths.proofs.Legs.{Tells}
use Rattle.checks.specs.Checks.{all_free}
use Rattle.checks.proofs.leg_clear.Given as goal

abbrev pub invariant-loop : goal.invariant-loop
invariant-loop l = T (legal l.here) × Tells l.heading l.here l.q (l.end - l.counter)
    × (all_free l.w l.h l.blocked (walk_of (l.end - l.counter) l.here l.q) ≡ all_free l.w l.h l.blocked (walk_of l.end l.initial.here l.q))

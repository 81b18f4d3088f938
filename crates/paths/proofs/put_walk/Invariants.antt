-- `paths::put_walk` meets its contract: the steps that are left give the whole walk. Assumes nothing.
use Rattle.std.proofs.Common.{◌≡◌, ◌+◌, ◌-◌, ◌*◌, T, length}
use Rattle.std.proofs.lemmas.List.Edits.{sets}
use Rattle.points.specs.Plane.{legal}
use Rattle.paths.specs.Walks.{walk_of}
use Rattle.paths.proofs.Legs.{Tells}
use Rattle.paths.proofs.put_walk.Given as goal

abbrev pub invariant-loop-i : goal.invariant-loop-i
invariant-loop-i l = T (legal l.here) × Tells l.heading l.here l.q (l.steps - l.i) × (length l.out ≡ length l.initial.out)
    × (sets l.out (l.at + 2 * l.i) (walk_of (l.steps - l.i) l.here l.q) ≡ sets l.initial.out l.at (walk_of l.steps l.initial.here l.q))

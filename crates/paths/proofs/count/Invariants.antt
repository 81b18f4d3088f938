-- `paths::count` meets its contract: the room that is left is held against the path from here on. Assumes nothing.
use Rattle.std.proofs.Common.{◌≡◌, ◌+◌, ◌-◌, ◌*◌, ◌<◌, T, None, length, drop}
use Rattle.points.specs.Plane.{legal}
use Rattle.pairs.specs.Pairs.{first_bad}
use Rattle.paths.specs.Walks.{path_from, path_of}
use Rattle.paths.proofs.count.Given as goal

abbrev pub invariant-loop-k : goal.invariant-loop-k
invariant-loop-k l = T (legal l.p) × (first_bad (drop (2 * l.k) l.list) ≡ None) × (l.left < l.room)
    × (2 * (l.room - l.left) + length (path_from l.p (drop (2 * l.k) l.list)) ≡ length (path_of l.list))

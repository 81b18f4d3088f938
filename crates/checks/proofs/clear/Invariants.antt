-- `checks::clear` meets its contract: the path from here on is as free as the whole. Assumes nothing.
use Rattle.std.proofs.Common.{◌≡◌, ◌*◌, T, None, drop}
use Rattle.points.specs.Plane.{legal}
use Rattle.pairs.specs.Pairs.{first_bad}
use Rattle.paths.specs.Walks.{path_from}
use Rattle.checks.specs.Checks.{all_free, clear_of}
use Rattle.checks.proofs.clear.Given as goal

abbrev pub invariant-loop-k : goal.invariant-loop-k
invariant-loop-k l = T (legal l.p) × (first_bad (drop (2 * l.k) l.list) ≡ None)
    × (all_free l.w l.h l.blocked (path_from l.p (drop (2 * l.k) l.list)) ≡ clear_of l.w l.h l.blocked l.list)

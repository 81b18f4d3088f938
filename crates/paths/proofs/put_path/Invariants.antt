-- `paths::put_path` meets its contract: the path from here on gives the whole. Assumes nothing.
use Rattle.std.proofs.Common.{◌≡◌, ◌+◌, ◌*◌, ◌≤◌, T, None, length, drop}
use Rattle.std.proofs.lemmas.List.Edits.{sets}
use Rattle.points.specs.Plane.{legal}
use Rattle.pairs.specs.Pairs.{first_bad}
use Rattle.paths.specs.Walks.{path_from}
use Rattle.paths.proofs.put_path.Given as goal

abbrev pub invariant-loop-k : goal.invariant-loop-k
invariant-loop-k l = T (legal l.p) × (first_bad (drop (2 * l.k) l.list) ≡ None)
    × (length l.out ≡ length l.initial.out) × (l.at + length (path_from l.p (drop (2 * l.k) l.list)) ≤ length l.out)
    × (sets l.out l.at (path_from l.p (drop (2 * l.k) l.list)) ≡ sets l.initial.out 2 (path_from l.initial.p (drop 2 l.list)))

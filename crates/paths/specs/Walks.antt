-- `waypoints_to_path`: the walk by sign to each waypoint. A list of points is a list of numbers, x and y in turn. Assumes nothing: these are definitions.
use Rattle.std.specs.Prelude.{cond, Option, Some, None, Result, Ok, Err, List, [], ◌∷◌, ◌++◌, ℕ, zero, suc, ◌*◌, ◌/◌, leb, ℤ, pos, ◌+ℤ◌, ◌-ℤ◌, length}
use Rattle.std.specs.Option.{ok_or}
use Rattle.std.proofs.lemmas.List.Edits.{sets}
use Rattle.points.specs.Compass.{sign_of, moved}
use Rattle.points.specs.declared.Point.{Point}
use Rattle.std.specs.declared.cmp.Ordering.{Ordering}
use Rattle.std.specs.declared.cmp.Ordering.TheVariants.{Less, Equal, Greater}
use Rattle.points.specs.declared.Refusal.{Refusal}
use Rattle.points.specs.declared.Refusal.TheVariants.{Room}
use Rattle.bends.specs.declared.Heading.{Heading}
use Rattle.bends.specs.declared.Heading.TheVariants.{Straight, Bent}
use Rattle.headings.specs.Headings.{span_of}
use Rattle.pairs.specs.Pairs.{point, taken_of}

-- a coordinate after a step of a sign
abbrev pub step_by : ℤ → Ordering → ℤ
step_by a Less = a -ℤ pos 1
step_by a Equal = a
step_by a Greater = a +ℤ pos 1

-- one step of the sign of the coordinate difference
abbrev pub closer_to : ℤ → ℤ → ℤ
closer_to a b = step_by a (sign_of (b -ℤ a))

abbrev pub next_to : Point → Point → Point
next_to p q = record { x = closer_to p.x q.x; y = closer_to p.y q.y }

-- one step on, from a point of a leg to q whose heading is h: a straight leg repeats the step of its direction
abbrev pub onward_to : Heading → Point → Point → Point
onward_to (Straight d n) p q = moved p d.number
onward_to (Bent d n) p q = next_to p q

-- the points of n steps from p towards q
unfoldable pub walk_of : ℕ → Point → Point → List ℤ
walk_of zero p q = []
walk_of (suc n) p q = (next_to p q).x ∷ (next_to p q).y ∷ walk_of n (next_to p q) q

-- the points after p: the walk to each waypoint in turn
unfoldable pub path_from : Point → List ℤ → List ℤ
unfolding walk_of
path_from p [] = []
path_from p (x ∷ []) = []
path_from p (x ∷ y ∷ l) = walk_of (span_of p (point x y)) p (point x y) ++ path_from (point x y) l

-- the whole path, with the first waypoint
unfoldable pub path_of : List ℤ → List ℤ
unfolding path_from
path_of [] = []
path_of (x ∷ []) = []
path_of (x ∷ y ∷ l) = x ∷ y ∷ path_from (point x y) l

-- how many points the path has, if there is room for them
unfoldable pub counted_of : List ℤ → ℕ → Option ℕ
counted_of l room = cond (leb (length (path_of l)) (2 * room)) (Some (length (path_of l) / 2)) None

-- LIST, POINT, ROOM; room is how many numbers the output holds
unfoldable pub path_answer : List ℤ → ℕ → Result ℕ Refusal
path_answer l room = taken_of l (ok_or (counted_of l (room / 2)) Room)

-- success writes the first pairs, the rest of the room keeps its contents
abbrev pub path_kept : Result ℕ Refusal → List ℤ → List ℤ → List ℤ
path_kept (Ok n) l out = sets out 0 (path_of l)
path_kept (Err r) l out = out

-- What is printed is short enough for its room. Assumes nothing.
use Rattle.std.specs.Prelude.{Result, Ok, Err}
use mathlib.Core.Path.{◌≡◌, refl, ap}
use mathlib.Core.Bool.{Bool, true, false, cond}
use mathlib.Core.List.{List, [], ◌∷◌, ◌++◌}
use Prim.Native.Nat.{ℕ, ◌+◌, ◌*◌, ◌/◌, ◌≤◌}
use native.Mathlib.Omega.{arith}
use lib.Dec.{ltb}
use lib.IntN.{ℤ}
use lib.ListN.{length, take, length-append, length-take}
use lib.Seq.{sets, length-sets}
use Rattle.points.specs.declared.Refusal.{Refusal}
use Rattle.points.specs.Refusals.{told_of}
use Rattle.points.specs.declared.Refusal.{Refusal}
use Rattle.goals.specs.declared.Plan.{Plan}
use Rattle.offers.specs.Search.{Reply, found, refused}
use Rattle.trails.specs.Trail.{left_in, pairs}
use Rattle.finder.specs.Find.{answer_of, out_after, route_in}
use Rattle.points.specs.declared.Refusal.{Refusal}
use Rattle.finder.specs.declared.Found.{Found}
use Rattle.std.specs.Prelude.{Result, Ok, Err}
use Rattle.waypoints.specs.Waypoints.{single_plan}
use Rattle.grid.specs.Grids.{rebuild_outcome}
use Rattle.grid.specs.declared.Grid.{Grid}
use Rattle.checks.specs.declared.Checked.{Checked}
use Rattle.std.specs.Prelude.{Result, Ok, Err}
use Rattle.printing.specs.Render.{number_text, point_text}
use Rattle.printing.proofs.Written.{number_text_length, point_text_length}
use Rattle.pairs.specs.Pairs.{point}
use Rattle.answers.specs.Answers.{result_word, pops_word, waypoints_word, clear_word, point_word, line_word, points_text, answer_text, bad_text}
use Rattle.checks.specs.Checks.{check_of}
use Rattle.floors.specs.Floors.{read_of}
use Rattle.floors.specs.declared.MapRead.{MapRead}
use Rattle.router.specs.Route.{settings_for, exact_of, checked_text, found_text, blank, map_told, route_text, most_print}

points_short : (l : List ℤ) → length (points_text l) ≤ 10 * length l
unfolding points_text
points_short [] = omega arith
points_short (x ∷ []) = omega arith
points_short (x ∷ y ∷ l) = omega (arith, points_short l, point_text_length point_word (point x y), length-append (point_text point_word (point x y)) (points_text l))

answer_short : (n pops : ℕ) (l : List ℤ) (clear : Bool) → length (answer_text n pops l clear) ≤ 100 + 10 * length l
unfolding answer_text
answer_short n pops l clear =
    let a = number_text result_word n in
    let b = number_text pops_word pops in
    let c = number_text waypoints_word (length l / 2) in
    let d = number_text clear_word (cond clear 1 0) in
    let e = points_text l in
    omega (
      arith,
      points_short l,
      number_text_length result_word n,
      number_text_length pops_word pops,
      number_text_length waypoints_word (length l / 2),
      number_text_length clear_word (cond clear 1 0),
      length-append a (b ++ (c ++ (d ++ e))),
      length-append b (c ++ (d ++ e)),
      length-append c (d ++ e),
      length-append d e,
    )

checked_short : (c : Result Checked Refusal) (pops : ℕ) (l : List ℤ) → length (checked_text c pops l) ≤ 100 + 10 * length l
checked_short (Ok c) pops l = answer_short 0 pops l c.clear
checked_short (Err r) pops l = omega (arith, answer_short (told_of r).number pops [] false)

found_short : (g : Grid) (l : List ℤ) (pops : ℕ) (o : Result Found Refusal) → length (found_text g l pops o) ≤ 100 + 10 * length l
found_short g l pops (Ok f) = let n = f.length in omega (arith, checked_short (check_of g (take (2 * n) l)) pops (take (2 * n) l), length-take (2 * n) l)
found_short g l pops (Err r) = omega (arith, answer_short (told_of r).number pops [] false)

out_length : (out : List ℤ) (p : Plan) (r : Reply) → length (out_after out p r) ≡ length out
unfolding out_after left_in
out_length out p (found i k n s) = by (ltb (length out / 2) (length (route_in s i)))
  where
    by : (b : Bool) → length (cond b out (sets out 0 (pairs p s.nodes.place (route_in s i)))) ≡ length out
    by true = refl
    by false = length-sets out 0 (pairs p s.nodes.place (route_in s i))
out_length out p (refused w n) = refl

-- every answer fits the room that `route` lends
pub text_short : (t : List ℕ) → length (route_text t) ≤ most_print
unfolding route_text bad_text
text_short t = by (read_of t) (read_of t).outcome
  where
    by : (m : MapRead) (o : Result Unit Refusal) → length (map_told m o) ≤ most_print
    by m (Err r) =
        omega (arith, length-append (number_text result_word 12) (number_text line_word (told_of r).line), number_text_length result_word 12, number_text_length line_word (told_of r).line)
    by m (Ok u) =
        let g = (rebuild_outcome m.grid m.diagonal).grid in
        let e = exact_of g m.diagonal m.start m.goal in
        let l = out_after blank (single_plan g (settings_for m.diagonal) false m.start m.goal) e in
        omega (arith, found_short g l (answer_of (length blank) e).pops (answer_of (length blank) e).outcome, out_length blank (single_plan g (settings_for m.diagonal) false m.start m.goal) e)

-- the bytes that `route` counts stand in the list that it leaves
pub within : (n : ℕ) (t l new : List ℕ) → (n ≡ length (route_text t)) × (new ≡ sets l 0 (route_text t)) → most_print ≤ length l → n ≤ length new
within n t l new e h = omega (arith, e.0, ap length e.1, length-sets l 0 (route_text t), text_short t)

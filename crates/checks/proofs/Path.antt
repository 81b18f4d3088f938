-- Checking what `waypoints_to_path` wrote says the same as checking the list: a path walked again is the same path; and no step of it is bent. Assumes nothing.
use mathlib.Core.Path.{◌≡◌, refl, sym, ap, ◌∙◌}
use mathlib.Core.Bool.{Bool, false, cond}
use mathlib.Core.List.{List, [], ◌∷◌, ◌++◌}
use Prim.Native.Nat.{ℕ, zero, suc, ◌+◌}
use native.Mathlib.Omega.{arith}
use lib.IntN.{ℤ, ◌-ℤ◌}
use lib.ListN.{drop}
use Rattle.std.specs.Prelude.{Some, None, Ok}
use Rattle.points.specs.declared.Point.{Point}
use Rattle.pairs.specs.Pairs.{point}
use Rattle.bends.specs.Bends.{bent_of}
use Rattle.headings.specs.Headings.{heading_of, span_of}
use Rattle.headings.proofs.Lines.{near_unbent}
use Rattle.legs.specs.Legs.{bent_from, first_bent_of}
use Rattle.paths.specs.Walks.{next_to, walk_of, path_from, path_of}
use Rattle.paths.proofs.Arrives.{after, arrives}
use Rattle.paths.proofs.Again.{one_off, again, path_taken, walked}
use Rattle.pairs.proofs.Taken.{Taken, taken_is}
use Rattle.checks.specs.Checks.{all_free, clear_of, judged, check_in, unbent, PathSaysSame}

-- ---- no leg of a path is bent
step_unbent : (p q : Point) → bent_of (heading_of p (next_to p q)) ≡ false
step_unbent p q = near_unbent p (next_to p q) (omega (arith, one_off p.x (q.x -ℤ p.x))) (omega (arith, one_off p.y (q.y -ℤ p.y)))

leg_unbent : (n : ℕ) (p q : Point) (m : List ℤ) → ((k : ℕ) → bent_from k (after n p q) m ≡ None) → (k : ℕ) → bent_from k p (walk_of n p q ++ m) ≡ None
unfolding walk_of bent_from
leg_unbent zero p q m rest k = rest k
leg_unbent (suc n) p q m rest k =
    ap (λ (b : Bool). cond b (Some k) (bent_from (k + 1) (next_to p q) (walk_of n (next_to p q) q ++ m))) (step_unbent p q)
    ∙ leg_unbent n (next_to p q) q m rest (k + 1)

from_unbent : (p : Point) (l : List ℤ) (k : ℕ) → bent_from k p (path_from p l) ≡ None
unfolding path_from bent_from
from_unbent p [] k = refl
from_unbent p (x ∷ []) k = refl
from_unbent p (x ∷ y ∷ l) k =
    let q = point x y in
    leg_unbent (span_of p q) p q (path_from q l) (λ j. ap (λ (r : Point). bent_from j r (path_from q l)) (arrives p q) ∙ from_unbent q l j) k

path_unbent : (l : List ℤ) → first_bent_of (path_of l) ≡ None
unfolding path_of first_bent_of
path_unbent [] = refl
path_unbent (x ∷ []) = refl
path_unbent (x ∷ y ∷ l) = from_unbent (point x y) l 1

-- ---- the check of a list that is taken
taken : (w h : ℕ) (blocked : List ℕ) (l : List ℤ) → Taken l → check_in w h blocked l ≡ Ok (judged (clear_of w h blocked l) (first_bent_of l))
unfolding check_in
taken w h blocked l k = taken_is l (Ok (judged (clear_of w h blocked l) (first_bent_of l))) k

pub path_says_same : PathSaysSame
path_says_same w h blocked l out n e =
    let k = walked l out n e in
    ap (check_in w h blocked) k.1
    ∙ taken w h blocked (path_of l) (path_taken l k.0)
    ∙ (λ i. Ok (judged (all_free w h blocked (drop 2 (again l i))) (path_unbent l i)))
    ∙ ap unbent (sym (taken w h blocked l k.0))

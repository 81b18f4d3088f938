-- A path walked again is the same path; its points are in range where the waypoints are; and what a room holds once a path was written. Assumes nothing.
use mathlib.Core.Path.{◌≡◌, refl, sym, ap, ◌∙◌}
use mathlib.Core.Bool.{Bool, true, false, cond}
use mathlib.Core.List.{List, [], ◌∷◌, ◌++◌}
use Prim.Native.Nat.{ℕ, zero, suc, ◌+◌, ◌*◌, ◌/◌, ◌%◌, ◌≤◌, min}
use native.Mathlib.Omega.{arith}
use borrow.Author.Tests.{leb-true}
use lib.Dec.{T, leb}
use lib.IntN.{ℤ, pos, negsuc, nat_abs, ◌+ℤ◌, ◌-ℤ◌}
use lib.ListN.{length, take, drop, length-append}
use lib.Seq.{sets, sets-eq, take_at}
use denote.Floats.{is_true}
use Rattle.std.specs.Prelude.{Some, None, Result, Ok, Err}
use Rattle.std.specs.Option.{ok_or}
use Rattle.points.specs.Compass.{sign_of}
use Rattle.points.specs.Plane.{legal}
use Rattle.points.specs.declared.Point.{Point}
use Rattle.points.specs.declared.Refusal.{Refusal}
use Rattle.points.specs.declared.Refusal.TheVariants.{Room}
use Rattle.points.proofs.Halves.{sub_law, add_is, abs_is, apart}
use Rattle.pairs.specs.Pairs.{Even, point, first_bad}
use Rattle.pairs.proofs.Laws.{none_bad}
use Rattle.pairs.proofs.Taken.{Taken, taken_ok}
use Rattle.headings.specs.Headings.{span_of}
use Rattle.paths.specs.Walks.{step_by, next_to, walk_of, path_from, path_of, counted_of, path_answer, path_kept}
use Rattle.paths.proofs.Laws.{next_legal, walk_length}
use Rattle.paths.proofs.Arrives.{after, closes, arrives}

-- ---- a step leads to the next point and no further
pub one_off : (a d : ℤ) → nat_abs (step_by a (sign_of d) -ℤ a) ≡ min 1 (nat_abs d)
one_off a (pos zero) = omega (arith, sub_law a a, abs_is (a -ℤ a), apart (a -ℤ a))
one_off a (pos (suc n)) = let r = a +ℤ pos 1 in omega (arith, add_is a (pos 1), sub_law r a, abs_is (r -ℤ a), apart (r -ℤ a))
one_off a (negsuc n) = let r = a -ℤ pos 1 in omega (arith, sub_law a (pos 1), sub_law r a, abs_is (r -ℤ a), apart (r -ℤ a))

step_again : (p q : Point) (rest : List ℤ) → 1 ≤ span_of p q → path_from p ((next_to p q).x ∷ (next_to p q).y ∷ rest) ≡ (next_to p q).x ∷ (next_to p q).y ∷ path_from (next_to p q) rest
unfolding path_from walk_of
step_again p q rest h =
    let r = next_to p q in
    let one : span_of p r ≡ 1 = omega (arith, one_off p.x (q.x -ℤ p.x), one_off p.y (q.y -ℤ p.y)) in
    ap (λ (n : ℕ). walk_of n p r ++ path_from r rest) one
    ∙ ap (λ (s : Point). s.x ∷ s.y ∷ path_from r rest) (sym (ap (λ (n : ℕ). after n p r) one) ∙ arrives p r)

-- ---- a leg, and then the whole
leg_again : (n : ℕ) (p q : Point) (m : List ℤ) → n ≡ span_of p q → path_from p (walk_of n p q ++ m) ≡ walk_of n p q ++ path_from q m
unfolding walk_of
leg_again zero p q m e = ap (λ (s : Point). path_from s m) (ap (λ (k : ℕ). after k p q) e ∙ arrives p q)
leg_again (suc n) p q m e =
    let r = next_to p q in
    let near : n ≡ span_of r q = omega (arith, closes p.x q.x, closes p.y q.y) in
    step_again p q (walk_of n r q ++ m) (omega arith) ∙ ap (λ (l : List ℤ). r.x ∷ r.y ∷ l) (leg_again n r q m near)

from_again : (p : Point) (l : List ℤ) → path_from p (path_from p l) ≡ path_from p l
unfolding path_from
from_again p [] = refl
from_again p (x ∷ []) = refl
from_again p (x ∷ y ∷ l) =
    let q = point x y in
    leg_again (span_of p q) p q (path_from q l) refl ∙ ap (λ (m : List ℤ). walk_of (span_of p q) p q ++ m) (from_again q l)

pub again : (l : List ℤ) → path_of (path_of l) ≡ path_of l
unfolding path_of
again [] = refl
again (x ∷ []) = refl
again (x ∷ y ∷ l) = ap (λ (m : List ℤ). x ∷ y ∷ m) (from_again (point x y) l)

-- ---- a walk between points in range stays in range
walk_legal : (n : ℕ) (p q : Point) (m : List ℤ) → T (legal p) → T (legal q) → first_bad (walk_of n p q ++ m) ≡ first_bad m
unfolding walk_of first_bad
walk_legal zero p q m s t = refl
walk_legal (suc n) p q m s t =
    let r = next_to p q in
    ap (λ (b : Bool). cond b (first_bad (walk_of n r q ++ m)) (Some r)) (is_true (legal r) (next_legal p q s t)) ∙ walk_legal n r q m (next_legal p q s t) t

from_legal : (p : Point) (l : List ℤ) → T (legal p) → first_bad l ≡ None → first_bad (path_from p l) ≡ None
unfolding path_from first_bad
from_legal p [] t e = refl
from_legal p (x ∷ []) t e = refl
from_legal p (x ∷ y ∷ l) t e =
    let q = point x y in
    let k = none_bad (x ∷ y ∷ l) 0 (omega arith) e in
    walk_legal (span_of p q) p q (path_from q l) t k.0 ∙ from_legal q l k.0 k.1

path_legal : (l : List ℤ) → first_bad l ≡ None → first_bad (path_of l) ≡ None
unfolding path_of first_bad
path_legal [] e = refl
path_legal (x ∷ []) e = refl
path_legal (x ∷ y ∷ l) e =
    let p = point x y in
    let k = none_bad (x ∷ y ∷ l) 0 (omega arith) e in
    ap (λ (b : Bool). cond b (first_bad (path_from p l)) (Some p)) (is_true (legal p) k.0) ∙ from_legal p l k.0 k.1

-- ---- a path has both numbers of each point
from_even : (p : Point) (l : List ℤ) → Even (length (path_from p l))
unfolding path_from
from_even p [] = refl
from_even p (x ∷ []) = refl
from_even p (x ∷ y ∷ l) =
    let q = point x y in
    let n = span_of p q in
    omega (arith, length-append (walk_of n p q) (path_from q l), walk_length n p q, from_even q l)

path_even : (l : List ℤ) → Even (length (path_of l))
unfolding path_of
path_even [] = refl
path_even (x ∷ []) = refl
path_even (x ∷ y ∷ l) = omega (arith, from_even (point x y) l)

-- ---- the path of a list that is taken
path_some : (l : List ℤ) → (length l ≡ 0 → ⊥) → (length l % 2 ≡ 1 → ⊥) → length (path_of l) ≡ 0 → ⊥
unfolding path_of
path_some [] s o e = s refl
path_some (x ∷ []) s o e = o refl
path_some (x ∷ y ∷ l) s o e = omega arith

-- its path is taken too
pub path_taken : (l : List ℤ) → Taken l → Taken (path_of l)
path_taken l k = record { some = path_some l k.some k.even; even = λ e. omega (arith, path_even l); none = path_legal l k.none }

-- a list whose path was written is taken, and the path is what the room begins with
pub walked : (l out : List ℤ) (n : ℕ) → path_answer l (length out) ≡ Ok n → Taken l × (take (2 * n) (path_kept (Ok n) l out) ≡ path_of l)
unfolding path_answer counted_of
walked l out n e =
    let k = taken_ok l (ok_or (counted_of l (length out / 2)) Room) n e in
    (k.0, by (leb (length (path_of l)) (2 * (length out / 2))) (leb-true (length (path_of l)) (2 * (length out / 2))) k.1)
  where
    never : ◌≡◌ {A = Result ℕ Refusal} (Err Room) (Ok n) → ⊥
    never e = let z : ◌≡◌ {A = ℕ} 0 1 = cc in omega arith

    half : (k : ℕ) → ◌≡◌ {A = Result ℕ Refusal} (Ok k) (Ok n) → k ≡ n
    half k e = cc

    kept : length (path_of l) / 2 ≡ n → length (path_of l) ≤ 2 * (length out / 2) → take (2 * n) (sets out 0 (path_of l)) ≡ path_of l
    kept e h =
        ap (take (2 * n)) (sets-eq (path_of l) out 0 (omega arith))
        ∙ take_at (path_of l) (drop (0 + length (path_of l)) out) (2 * n) (omega (arith, path_even l))

    by : (c : Bool) → (c ≡ true → length (path_of l) ≤ 2 * (length out / 2)) → ok_or (cond c (Some (length (path_of l) / 2)) None) Room ≡ Ok n → take (2 * n) (sets out 0 (path_of l)) ≡ path_of l
    by true r e = kept (half (length (path_of l) / 2) e) (r refl)
    by false r e = absurd (never e)

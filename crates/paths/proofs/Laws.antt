-- Laws of the walk: a step stays in range, a turn of each loop, and the lengths. Assumes nothing.
use mathlib.Core.Path.{◌≡◌, refl, sym, ap, ◌∙◌, subst}
use mathlib.Core.Bool.{true}
use mathlib.Core.List.{List, [], ◌∷◌, ◌++◌}
use Prim.Native.Nat.{ℕ, zero, suc, ◌+◌, ◌-◌, ◌*◌, ◌/◌, ◌≤◌, ◌<◌}
use native.Mathlib.Omega.{arith}
use borrow.Author.Tests.{leb-true, le-leb, lt-leb}
use lib.Dec.{T, leb, le→leb}
use lib.IntN.{ℤ, pos, negsuc, ◌+ℤ◌, ◌-ℤ◌, +ℤ_idr}
use lib.ListN.{length, get_or, set, drop, length-append, drop_of_length-le}
use lib.Seq.{sets}
use lib.Signed.{mag}
use lib.Ieee.Fits.{and_i}
use mir.Syntax.{w32}
use mir.Val.{SFits}
use Rattle.std.specs.Prelude.{Option, Some, None}
use Rattle.std.specs.Option.{SomeIff}
use Rattle.std.proofs.lemmas.Option.{cond_some}
use Rattle.points.specs.Plane.{in_range, legal}
use Rattle.points.specs.Compass.{sign_of}
use Rattle.points.specs.declared.Point.{Point}
use Rattle.points.proofs.Signed.{in_halves, parts}
use Rattle.points.proofs.Halves.{sign_z, step_in, mag_of, sub_law, add_is, apart}
use Rattle.pairs.specs.Pairs.{point, point_at}
use Rattle.headings.specs.Headings.{span_of}
use Rattle.paths.specs.Walks.{step_by, closer_to, next_to, walk_of, path_from, path_of, counted_of}
use Rattle.pairs.proofs.Laws.{two_more}

in_of : (z : ℤ) → mag z < 1024 → T (in_range z)
in_of (pos n) h = le→leb n 1023 (omega arith)
in_of (negsuc n) h = and_i (leb n 1023) true (le→leb n 1023 (omega arith)) tt

in_mag : (z : ℤ) → T (in_range z) → mag z < 1024
in_mag z t = mag_of z 1024 (omega (arith, (in_halves z t).0)) (in_halves z t).1

-- ---- one step
pub low_fits : (a : ℤ) → T (in_range a) → SFits w32 (a -ℤ pos 1)
low_fits a t =
    let z = a -ℤ pos 1 in
    record { sfits = omega (arith, mag_of z 2048 (omega (arith, sub_law a (pos 1), apart z, in_halves a t)) (omega (arith, sub_law a (pos 1), apart z, in_halves a t))) }

pub high_fits : (a : ℤ) → T (in_range a) → SFits w32 (a +ℤ pos 1)
high_fits a t =
    let z = a +ℤ pos 1 in
    record { sfits = omega (arith, mag_of z 2048 (omega (arith, add_is a (pos 1), apart z, in_halves a t)) (omega (arith, add_is a (pos 1), apart z, in_halves a t))) }

pub step_is : (a d : ℤ) → a +ℤ sign_z d ≡ step_by a (sign_of d)
step_is a (pos zero) = +ℤ_idr a
step_is a (pos (suc n)) = refl
step_is a (negsuc n) = refl

pub closer_in : (a b : ℤ) → T (in_range a) → T (in_range b) → T (in_range (closer_to a b))
closer_in a b p q = subst (λ (z : ℤ). T (in_range z)) (step_is a (b -ℤ a)) (in_of (a +ℤ sign_z (b -ℤ a)) (step_in a b (in_mag a p) (in_mag b q)))

both_in : (x y : ℤ) → T (in_range x) → T (in_range y) → T (legal (point x y))
both_in x y s t = and_i (in_range x) (in_range y) s t

pub next_legal : (p q : Point) → T (legal p) → T (legal q) → T (legal (next_to p q))
next_legal p q s t =
    let a = parts p s in
    let b = parts q t in
    both_in (closer_to p.x q.x) (closer_to p.y q.y) (closer_in p.x q.x a.0 b.0) (closer_in p.y q.y a.1 b.1)

-- ---- a walk
pub walk_length : (n : ℕ) (p q : Point) → length (walk_of n p q) ≡ 2 * n
unfolding walk_of
walk_length zero p q = refl
walk_length (suc n) p q = omega (arith, walk_length n (next_to p q) q)

-- no step is left
pub walk_done : (out : List ℤ) (k left : ℕ) (p q : Point) → left ≡ 0 → sets out k (walk_of left p q) ≡ out
unfolding walk_of
walk_done out k left p q e = ap (λ (n : ℕ). sets out k (walk_of n p q)) e

-- a turn of the walk's loop: r is the next point, new the list after it is stored, n how many steps are left then
pub walk_here : (out new : List ℤ) (k j : ℕ) (p q r : Point) (n m : ℕ) → r ≡ next_to p q → new ≡ set (set out k r.x) (k + 1) r.y → j ≡ k + 2 → m ≡ suc n
    → sets new j (walk_of n r q) ≡ sets out k (walk_of m p q)
unfolding walk_of
walk_here out new k j p q r n m e f g h =
    (λ i. sets (f i) (g i) (walk_of n r q))
    ∙ (λ i. sets (set (set out k (e i).x) (one i) (e i).y) (two i) (walk_of n (e i) q))
    ∙ ap (λ (z : ℕ). sets out k (walk_of z p q)) (sym h)
  where
    one : k + 1 ≡ suc k
    one = omega arith

    two : k + 2 ≡ suc (suc k)
    two = omega arith

-- ---- the path, one waypoint at a time
module _ (l : List ℤ) (k : ℕ) where
  pub path_more : (p : Point) → 2 * k + 1 < length l → path_from p (drop (2 * k) l) ≡ walk_of (span_of p (point_at l (2 * k))) p (point_at l (2 * k)) ++ path_from (point_at l (2 * k)) (drop (2 * (k + 1)) l)
  unfolding path_from
  path_more p h = ap (path_from p) (two_more l k h)

  pub path_end : (p : Point) → length l ≤ 2 * k → path_from p (drop (2 * k) l) ≡ []
  unfolding path_from
  path_end p h = ap (path_from p) (drop_of_length-le l h)

  pub length_more : (p : Point) → 2 * k + 1 < length l → length (path_from p (drop (2 * k) l)) ≡ 2 * span_of p (point_at l (2 * k)) + length (path_from (point_at l (2 * k)) (drop (2 * (k + 1)) l))
  length_more p h =
      ap length (path_more p h)
      ∙ length-append (walk_of (span_of p (point_at l (2 * k))) p (point_at l (2 * k))) (path_from (point_at l (2 * k)) (drop (2 * (k + 1)) l))
      ∙ ap (λ (n : ℕ). n + length (path_from (point_at l (2 * k)) (drop (2 * (k + 1)) l))) (walk_length (span_of p (point_at l (2 * k))) p (point_at l (2 * k)))

-- two runs of stores, one after the other
pub sets_append : (l : List ℤ) (i : ℕ) (xs ys : List ℤ) → sets l i (xs ++ ys) ≡ sets (sets l i xs) (i + length xs) ys
sets_append l i [] ys = ap (λ (k : ℕ). sets l k ys) stay
  where
    stay : i ≡ i + 0
    stay = omega arith
sets_append l i (x ∷ xs) ys = sets_append (set l i x) (suc i) xs ys ∙ ap (λ (k : ℕ). sets (sets (set l i x) (suc i) xs) k ys) (shift i (length xs))
  where
    shift : (a b : ℕ) → suc a + b ≡ a + suc b
    shift a b = omega arith

pub stores_more : (out : List ℤ) (at : ℕ) (l : List ℤ) (k : ℕ) (p : Point) → 2 * k + 1 < length l
    → sets out at (path_from p (drop (2 * k) l)) ≡ sets (sets out at (walk_of (span_of p (point_at l (2 * k))) p (point_at l (2 * k)))) (at + 2 * span_of p (point_at l (2 * k))) (path_from (point_at l (2 * k)) (drop (2 * (k + 1)) l))
stores_more out at l k p h =
    let q = point_at l (2 * k) in
    ap (sets out at) (path_more l k p h)
    ∙ sets_append out at (walk_of (span_of p q) p q) (path_from q (drop (2 * (k + 1)) l))
    ∙ ap (λ (n : ℕ). sets (sets out at (walk_of (span_of p q) p q)) (at + n) (path_from q (drop (2 * (k + 1)) l))) (walk_length (span_of p q) p q)

-- ---- the same for a point that a call handed back
module _ (l : List ℤ) (k : ℕ) (p r : Point) (e : r ≡ point_at l (2 * k)) where
  pub length_here : 2 * k + 1 < length l → length (path_from p (drop (2 * k) l)) ≡ 2 * span_of p r + length (path_from r (drop (2 * (k + 1)) l))
  length_here h = length_more l k p h ∙ ap (λ (q : Point). 2 * span_of p q + length (path_from q (drop (2 * (k + 1)) l))) (sym e)

  -- a turn of the path's loop: the walk to r is stored, and `to` is the place after it
  pub stores_here : (out new : List ℤ) (at to : ℕ) → to ≡ at + 2 * span_of p r → new ≡ sets out at (walk_of (span_of p r) p r) → 2 * k + 1 < length l
      → sets new to (path_from r (drop (2 * (k + 1)) l)) ≡ sets out at (path_from p (drop (2 * k) l))
  stores_here out new at to d f h =
      (λ j. sets (f j) (d j) (path_from r (drop (2 * (k + 1)) l)))
      ∙ (λ j. sets (sets out at (walk_of (span_of p (e j)) p (e j))) (at + 2 * span_of p (e j)) (path_from (e j) (drop (2 * (k + 1)) l)))
      ∙ sym (stores_more out at l k p h)

-- ---- the whole path
pub path_whole : (l : List ℤ) → 1 < length l → path_of l ≡ get_or l 0 (pos 0) ∷ get_or l 1 (pos 0) ∷ path_from (point_at l 0) (drop 2 l)
unfolding path_of
path_whole l h = ap path_of (two_more l 0 h)

pub path_length : (l : List ℤ) (r : Point) → r ≡ point_at l 0 → 1 < length l → length (path_of l) ≡ 2 + length (path_from r (drop 2 l))
path_length l r e h = ap length (path_whole l h) ∙ ap (λ (q : Point). suc (suc (length (path_from q (drop 2 l))))) (sym e) ∙ two (length (path_from r (drop 2 l)))
  where
    two : (n : ℕ) → suc (suc n) ≡ 2 + n
    two n = omega arith

-- the first point stored, and then the rest
pub path_stores : (l out : List ℤ) (r : Point) → r ≡ point_at l 0 → 1 < length l → sets out 0 (path_of l) ≡ sets (set (set out 0 r.x) 1 r.y) 2 (path_from r (drop 2 l))
path_stores l out r e h = ap (sets out 0) (path_whole l h) ∙ ap (λ (q : Point). sets (set (set out 0 q.x) 1 q.y) 2 (path_from q (drop 2 l))) (sym e)

-- what is left of a room, or that it does not do
pub room_none : (r : Option ℕ) (n m : ℕ) → SomeIff r (n ≤ m) (m - n) → r ≡ None → m < n
room_none r n m s e = let f : (n ≤ m → ⊥) = subst (λ (o : Option ℕ). SomeIff o (n ≤ m) (m - n)) e s in omega arith

pub room_some : (r : Option ℕ) (n m x : ℕ) → SomeIff r (n ≤ m) (m - n) → r ≡ Some x → (n ≤ m) × (x ≡ m - n)
room_some r n m x s e = subst (λ (o : Option ℕ). SomeIff o (n ≤ m) (m - n)) e s

-- the count, by the room that is left
pub counted_over : (l : List ℤ) (room : ℕ) → 2 * room < length (path_of l) → None ≡ counted_of l room
unfolding counted_of
counted_over l room h = rw (lt-leb _ _ h)

pub counted_few : (l : List ℤ) (room n : ℕ) → length (path_of l) ≡ 2 * n → n ≤ room → Some n ≡ counted_of l room
unfolding counted_of
counted_few l room n e h = rw (le-leb (length (path_of l)) (2 * room) (omega arith)) (ap Some half)
  where
    half : n ≡ length (path_of l) / 2
    half = omega arith

pub few_room : (l : List ℤ) (room n : ℕ) → counted_of l room ≡ Some n → length (path_of l) ≤ 2 * room
unfolding counted_of
few_room l room n e = leb-true (length (path_of l)) (2 * room) (cond_some (leb (length (path_of l)) (2 * room)) (length (path_of l) / 2) n e).0

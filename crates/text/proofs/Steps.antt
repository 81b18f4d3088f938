-- The grammar's definitions, one byte at a time, at a place of a list; what is read is within its limits and within the text. Assumes nothing.
use Rattle.std.specs.Prelude.{Option, Some, None}
use mathlib.Core.Path.{◌≡◌, refl, sym, ap, ◌∙◌, subst}
use mathlib.Core.Bool.{Bool, true, false, ◌&&◌, true≢false, cond}
use mathlib.Core.List.{List, [], ◌∷◌}
use lib.IntN.{ℤ, pos, neg_ℤ, ◌-ℤ◌, +ℤ_idl}
use mir.Syntax.{w32}
use mir.Val.{SFits, to_z, of_z}
use mir.Facts.{to_z-of_z, to_z_pos}
use lib.Ieee.Fits.{and_i}
use Rattle.points.specs.Plane.{in_range, legal}
use Prim.Native.Nat.{ℕ, zero, suc, ◌+◌, ◌-◌, ◌*◌, ◌≤◌, ◌<◌}
use native.Mathlib.Numerals.{add-one}
use native.Mathlib.Omega.{arith}
use borrow.Author.Tests.{le-leb, lt-leb, eq-eqb, ne_eqb, leb-true, ltb-true, ltb-false}
use lib.Dec.{T, leb, ltb, eqb, le→leb, lit≤}
use lib.ListN.{length, take, drop, get_or, drop_of_length-le, length-drop}
use lib.Seq.{drop-cons, drop-drop, take-length}
use lib.Pointwise.{pointwise}
use Rattle.std.specs.Borrow.{Bor}
use Rattle.std.proofs.Math.Bool.{and-true}
use Rattle.text.specs.Grammar.{Reads, Num, Coord, Pair, digit, more_of, number_of, coord_of, plus, minus, pair_of, first, second, byte_is}

-- ---- what a reader answers
pub reads_none : {A : Type 0} (s : List ℕ) (form : Option (A × ℕ)) (r : Option (A × Bor (List ℕ))) → r ≡ None → form ≡ None → Reads s form r
reads_none s form r e f = subst (Reads s form) (sym e) f

pub reads_as : {A : Type 0} (s : List ℕ) (form other : Option (A × ℕ)) (r : Option (A × Bor (List ℕ))) → form ≡ other → Reads s other r → Reads s form r
reads_as {A = A} s form other r e q = subst (λ (f : Option (A × ℕ)). Reads s f r) (sym e) q

-- a text from a place on, as the slice of the bytes from there to its end
pub rest_is : (s : List ℕ) (i : ℕ) → take (length s - i) (drop i s) ≡ drop i s
rest_is s i = ap (λ (k : ℕ). take k (drop i s)) (sym (length-drop i s)) ∙ take-length (drop i s)

pub reads_from : {A : Type 0} (s : List ℕ) (form : Option (A × ℕ)) (v : A) (i : ℕ) → i ≤ length s → form ≡ Some (v, i)
    → (n : ℕ) × (form ≡ Some (v, n)) × (take (length s - i) (drop i s) ≡ drop n s) × (length (take (length s - i) (drop i s)) + n ≡ length s)
reads_from s form v i h e = (i, e, rest_is s i, ap (λ (l : List ℕ). length l + i) (rest_is s i) ∙ omega (arith, length-drop i s))

module _ (limit acc n : ℕ) (s : List ℕ) (i : ℕ) where
  abbrev pub next : ℕ
  next = acc * 10 + (get_or s i 0 - 48)

  pub more_end : length s ≤ i → more_of limit acc n (drop i s) ≡ Some (acc, n)
  unfolding more_of
  more_end h = rw (drop_of_length-le s h)

  pub more_stop : i < length s → digit (get_or s i 0) ≡ false → more_of limit acc n (drop i s) ≡ Some (acc, n)
  unfolding more_of
  more_stop h d = rw (drop-cons s i 0 h, d)

  pub more_over : i < length s → digit (get_or s i 0) ≡ true → limit < next → more_of limit acc n (drop i s) ≡ None
  unfolding more_of
  more_over h d o = rw (drop-cons s i 0 h, d, lt-leb next limit o)

  pub more_step : i < length s → digit (get_or s i 0) ≡ true → next ≤ limit → more_of limit acc n (drop i s) ≡ more_of limit next (n + 1) (drop (i + 1) s)
  unfolding more_of
  more_step h d o = rw (drop-cons s i 0 h, d, le-leb next limit o, add-one i)

pub number_none : (limit : ℕ) (s : List ℕ) → length s ≡ 0 → number_of limit s ≡ None
unfolding number_of
number_none limit [] h = refl
number_none limit (b ∷ bs) h = absurd (none h)
  where
    none : suc (length bs) ≡ 0 → ⊥
    none e = omega arith

module _ (limit : ℕ) (s : List ℕ) where
  module _ (b : ℕ) (bs : List ℕ) (e : s ≡ b ∷ bs) where
    pub number_zero : b ≡ 48 → number_of limit s ≡ Some (0, 1)
    unfolding number_of
    number_zero h = rw (e, eq-eqb b 48 h)

    pub number_wrong : (b ≡ 48 → ⊥) → digit b ≡ false → number_of limit s ≡ None
    unfolding number_of
    number_wrong h d = rw (e, ne_eqb b 48 h, d)

    pub number_more : (b ≡ 48 → ⊥) → digit b ≡ true → number_of limit s ≡ more_of limit (b - 48) 1 (drop 1 s)
    unfolding number_of
    number_more h d = rw (e, ne_eqb b 48 h, d)

-- ---- what is read is within the limit and within the text
abbrev pub Bounded : ℕ → ℕ → Num → Type 0
Bounded limit m (Some (v, n)) = (v ≤ limit) × (n ≤ m)
Bounded limit m None = Unit {0}

more_bounded : (limit acc n : ℕ) (l : List ℕ) → acc ≤ limit → Bounded limit (n + length l) (more_of limit acc n l)
unfolding more_of
more_bounded limit acc n [] h = (h, omega arith)
more_bounded limit acc n (b ∷ bs) h =
    go (digit b) (leb (acc * 10 + (b - 48)) limit) (leb-true (acc * 10 + (b - 48)) limit) (λ q. more_bounded limit (acc * 10 + (b - 48)) (n + 1) bs q)
  where
    wider : (r : Num) → Bounded limit (n + 1 + length bs) r → Bounded limit (n + suc (length bs)) r
    wider (Some (v, k)) q = (q.0, omega arith)
    wider None q = tt

    go : (d t : Bool) → (t ≡ true → acc * 10 + (b - 48) ≤ limit)
        → (acc * 10 + (b - 48) ≤ limit → Bounded limit (n + 1 + length bs) (more_of limit (acc * 10 + (b - 48)) (n + 1) bs))
        → Bounded limit (n + suc (length bs)) (cond d (cond t (more_of limit (acc * 10 + (b - 48)) (n + 1) bs) None) (Some (acc, n)))
    go true true q r = wider (more_of limit (acc * 10 + (b - 48)) (n + 1) bs) (r (q refl))
    go true false q r = tt
    go false t q r = (h, omega arith)

pub number_bounded : (limit : ℕ) (l : List ℕ) → 9 ≤ limit → Bounded limit (length l) (number_of limit l)
unfolding number_of
number_bounded limit [] h = tt
number_bounded limit (b ∷ bs) h = go (eqb b 48) (digit b) small
  where
    small : digit b ≡ true → b - 48 ≤ limit
    small e = omega (arith, leb-true b 57 (both (leb 48 b) (leb b 57) e))
      where
        both : (x y : Bool) → x && y ≡ true → y ≡ true
        both true y q = q
        both false y q = absurd (true≢false (sym q))

    go : (z d : Bool) → (d ≡ true → b - 48 ≤ limit) → Bounded limit (suc (length bs)) (cond z (Some (0, 1)) (cond d (more_of limit (b - 48) 1 bs) None))
    go true d q = (omega arith, omega arith)
    go false true q = subst (λ (m : ℕ). Bounded limit m (more_of limit (b - 48) 1 bs)) (one_more (length bs)) (more_bounded limit (b - 48) 1 bs (q refl))
      where
        one_more : (k : ℕ) → 1 + k ≡ suc k
        one_more k = omega arith
    go false false q = tt

-- ---- a byte at the front of a text
abbrev pub front : ℕ → List ℕ → Bool
front b s = pointwise eqb (take 1 s) (b ∷ [])

pub front_is : (s : List ℕ) (n b : ℕ) → byte_is s n b ≡ front b (drop n s)
front_is s n b = go (ltb n (length s)) refl
  where
    go : (t : Bool) → ltb n (length s) ≡ t → byte_is s n b ≡ front b (drop n s)
    go true e = ap (λ (t : Bool). t && eqb (get_or s n 0) b) e ∙ sym (and-true (eqb (get_or s n 0) b)) ∙ ap (front b) (sym (drop-cons s n 0 (ltb-true n (length s) e)))
    go false e = ap (λ (t : Bool). t && eqb (get_or s n 0) b) e ∙ ap (front b) (sym (drop_of_length-le s (ltb-false n (length s) e)))

pub coord_minus : (s : List ℕ) → front 45 s ≡ true → coord_of s ≡ minus (number_of 1024 (drop 1 s))
unfolding coord_of
coord_minus [] e = absurd (true≢false (sym e))
coord_minus (b ∷ bs) e = ap (λ (t : Bool). cond t (minus (number_of 1024 bs)) (plus (number_of 1023 (b ∷ bs)))) (sym (and-true (eqb b 45)) ∙ e)

pub coord_plus : (s : List ℕ) → front 45 s ≡ false → coord_of s ≡ plus (number_of 1023 s)
unfolding coord_of number_of
coord_plus [] e = refl
coord_plus (b ∷ bs) e = ap (λ (t : Bool). cond t (minus (number_of 1024 bs)) (plus (number_of 1023 (b ∷ bs)))) (sym (and-true (eqb b 45)) ∙ e)

-- ---- the machine's numbers
pub small_sfits : (v : ℕ) → v ≤ 1024 → SFits w32 (pos v)
small_sfits v h = record { sfits = omega arith }

pub small_read : (v : ℕ) → v ≤ 1024 → to_z w32 v ≡ pos v
small_read v h = to_z_pos w32 (omega arith)

negated : (v : ℕ) → v ≤ 1024 → pos 0 -ℤ to_z w32 v ≡ neg_ℤ (pos v)
negated v h = ap (λ (z : ℤ). pos 0 -ℤ z) (small_read v h) ∙ +ℤ_idl (neg_ℤ (pos v))

minus_small : (v : ℕ) → v ≤ 1024 → SFits w32 (neg_ℤ (pos v))
minus_small zero h = record { sfits = omega arith }
minus_small (suc v) h = record { sfits = omega arith }

pub minus_fits : (v : ℕ) → v ≤ 1024 → SFits w32 (pos 0 -ℤ to_z w32 v)
minus_fits v h = subst (SFits w32) (sym (negated v h)) (minus_small v h)

pub minus_read : (v n : ℕ) → (v ≡ 0 → ⊥) → v ≤ 1024 → Some ((to_z w32 (of_z w32 (pos 0 -ℤ to_z w32 v))), (n + 1)) ≡ minus (Some (v, n))
minus_read zero n z h = absurd (z refl)
minus_read (suc v) n z h = ap (λ (k : ℤ). Some (k, (n + 1))) (ap (λ (k : ℤ). to_z w32 (of_z w32 k)) (negated (suc v) h) ∙ to_z-of_z (minus_small (suc v) h))

-- ---- a coordinate that was read is in range and within the text
abbrev pub CBounded : ℕ → Coord → Type 0
CBounded m (Some (z, n)) = T (in_range z) × (n ≤ m)
CBounded m None = Unit {0}

plus_bounded : (m : ℕ) (r : Num) → Bounded 1023 m r → CBounded m (plus r)
plus_bounded m (Some (v, n)) b = (le→leb v 1023 b.0, b.1)
plus_bounded m None b = tt

minus_bounded : (m : ℕ) (r : Num) → Bounded 1024 m r → CBounded (suc m) (minus r)
minus_bounded m (Some (zero, n)) b = tt
minus_bounded m (Some ((suc v), n)) b = (and_i (leb v 1023) true (le→leb v 1023 (omega (arith, b.0))) tt, omega (arith, b.1))
minus_bounded m None b = tt

pub coord_bounded : (l : List ℕ) → CBounded (length l) (coord_of l)
unfolding coord_of
coord_bounded [] = tt
coord_bounded (b ∷ bs) = go (eqb b 45)
  where
    go : (t : Bool) → CBounded (suc (length bs)) (cond t (minus (number_of 1024 bs)) (plus (number_of 1023 (b ∷ bs))))
    go true = minus_bounded (length bs) (number_of 1024 bs) (number_bounded 1024 bs (lit≤ tt))
    go false = plus_bounded (suc (length bs)) (number_of 1023 (b ∷ bs)) (number_bounded 1023 (b ∷ bs) (lit≤ tt))

-- ---- a pair, after its first coordinate
module _ (s : List ℕ) (x : ℤ) (m : ℕ) (e : coord_of s ≡ Some (x, m)) (r : List ℕ) (d : r ≡ drop m s) where
  comma : (t : Bool) → front 44 r ≡ t → pair_of s ≡ cond t (second x m (coord_of (drop (m + 1) s))) None
  comma t q = ap (first s) e ∙ ap (λ (b : Bool). cond b (second x m (coord_of (drop (m + 1) s))) None) (front_is s m 44 ∙ ap (front 44) (sym d) ∙ q)

  pub pair_other : front 44 r ≡ false → pair_of s ≡ None
  pair_other = comma false

  pub pair_comma : front 44 r ≡ true → (q : List ℕ) → q ≡ drop 1 r → pair_of s ≡ second x m (coord_of q)
  pair_comma t q h = comma true t ∙ ap (λ (l : List ℕ). second x m (coord_of l)) (sym (h ∙ ap (drop 1) d ∙ drop-drop 1 m s))

-- ---- a pair that was read is a legal point within the text
abbrev pub PBounded : ℕ → Pair → Type 0
PBounded m (Some (p, n)) = T (legal p) × (n ≤ m)
PBounded m None = Unit {0}

pub pair_bounded : (l : List ℕ) → PBounded (length l) (pair_of l)
pair_bounded l = one (coord_of l) (coord_bounded l)
  where
    two : (x : ℤ) (m : ℕ) → T (in_range x) → m < length l → (c : Coord) → CBounded (length (drop (m + 1) l)) c → PBounded (length l) (second x m c)
    two x m t h (Some (y, n)) q = (and_i (in_range x) (in_range y) t q.0, omega (arith, q.1, length-drop (m + 1) l))
    two x m t h None q = tt

    one : (c : Coord) → CBounded (length l) c → PBounded (length l) (first l c)
    one (Some (x, m)) q = go (ltb m (length l)) (eqb (get_or l m 0) 44) (ltb-true m (length l))
      where
        go : (t e : Bool) → (t ≡ true → m < length l) → PBounded (length l) (cond (t && e) (second x m (coord_of (drop (m + 1) l))) None)
        go true true h = two x m q.0 (h refl) (coord_of (drop (m + 1) l)) (coord_bounded (drop (m + 1) l))
        go true false h = tt
        go false e h = tt
    one None q = tt

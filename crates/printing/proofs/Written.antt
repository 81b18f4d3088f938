-- Laws of what is written. Assumes nothing.
use mathlib.Core.Path.{◌≡◌, refl, sym, ap, ◌∙◌}
use mathlib.Core.Bool.{Bool, true, false, true≢false, cond}
use mathlib.Core.List.{List, [], ◌∷◌, ◌++◌}
use Prim.Native.Nat.{ℕ, zero, suc, ◌+◌, ◌*◌, ◌/◌, ◌%◌, ◌≤◌, ◌<◌}
use native.Mathlib.Nat.{add-zero}
use native.Mathlib.Omega.{arith}
use borrow.Author.Tests.{lt-ltb, le-ltb, ltb-true}
use lib.Dec.{T, ltb}
use lib.IntN.{ℤ, pos, negsuc, nat_abs, ◌-ℤ◌}
use lib.Signed.{lt_z}
use mir.Syntax.{w32}
use mir.Val.{SFits, bool_byte}
use Rattle.points.specs.Plane.{in_range}
use Rattle.points.proofs.Halves.{mag_of, sub_law, apart, abs_is}
use Rattle.points.proofs.Signed.{in_halves}
use native.Mathlib.Numerals.{add-one}
use lib.ListN.{length, set, length-append}
use lib.Seq.{sets}
use Rattle.printing.specs.Render.{digits_in, digits_of, coord_text, pair_text, number_text, point_text}
use Rattle.points.specs.declared.Point.{Point}

-- ---- the digits of a number: one, or those of its tenth part and one more
pub digits_one : (n : ℕ) → n < 10 → digits_of n ≡ (n + 48) ∷ []
unfolding digits_in
digits_one n h = rw (lt-ltb n 10 h)

-- f digits are enough below b
abbrev Enough : ℕ → ℕ → Type 0
Enough f b = (n : ℕ) → n < b → digits_in f n ≡ digits_in (suc f) n

enough_one : Enough 1 10
unfolding digits_in
enough_one n h = rw (lt-ltb n 10 h)

enough_more : (f b : ℕ) → Enough f b → Enough (suc f) (b * 10)
unfolding digits_in
enough_more f b s n h = ap (λ (l : List ℕ). cond (ltb n 10) ((n + 48) ∷ []) (l ++ ((n % 10 + 48) ∷ []))) (s (n / 10) (omega arith))

digits_more : (n : ℕ) → 10 ≤ n → n < 100000 → digits_of n ≡ digits_of (n / 10) ++ ((n % 10 + 48) ∷ [])
unfolding digits_in
digits_more n a h =
    ap (λ (t : Bool). cond t ((n + 48) ∷ []) (digits_in 4 (n / 10) ++ ((n % 10 + 48) ∷ []))) (le-ltb n 10 a)
    ∙ ap (λ (l : List ℕ). l ++ ((n % 10 + 48) ∷ [])) (enough_more 3 1000 (enough_more 2 100 (enough_more 1 10 enough_one)) (n / 10) (omega arith))

-- two runs of stores, one after the other
pub sets_append : (l : List ℕ) (i : ℕ) (xs ys : List ℕ) → sets l i (xs ++ ys) ≡ sets (sets l i xs) (i + length xs) ys
sets_append l i [] ys = ap (λ (k : ℕ). sets l k ys) (sym (add-zero i))
sets_append l i (x ∷ xs) ys = sets_append (set l i x) (suc i) xs ys ∙ ap (λ (k : ℕ). sets (sets (set l i x) (suc i) xs) k ys) (shift i (length xs))
  where
    shift : (a b : ℕ) → suc a + b ≡ a + suc b
    shift a b = omega arith

-- ---- the digits of a number, stored: those of its tenth part and one more
module _ (n : ℕ) (some : 10 ≤ n) (most : n < 100000) where
  pub digits_count : length (digits_of n) ≡ length (digits_of (n / 10)) + 1
  digits_count = ap length (digits_more n some most) ∙ length-append (digits_of (n / 10)) ((n % 10 + 48) ∷ [])

  pub digits_stores : (l : List ℕ) (i : ℕ) → sets l i (digits_of n) ≡ set (sets l i (digits_of (n / 10))) (i + length (digits_of (n / 10))) (n % 10 + 48)
  digits_stores l i = ap (sets l i) (digits_more n some most) ∙ sets_append l i (digits_of (n / 10)) ((n % 10 + 48) ∷ [])

-- ---- a coordinate, by its sign
pub text_minus : (z : ℤ) → lt_z z (pos 0) ≡ true → coord_text z ≡ 45 ∷ digits_of (nat_abs z)
text_minus (pos n) e = absurd (none n (ltb-true n 0 e))
  where
    none : (n : ℕ) → n < 0 → ⊥
    none n h = omega arith
text_minus (negsuc n) e = refl

pub text_plus : (z : ℤ) → lt_z z (pos 0) ≡ false → coord_text z ≡ digits_of (nat_abs z)
text_plus (pos n) e = refl
text_plus (negsuc n) e = absurd (true≢false e)

pub minus_in : (z : ℤ) → T (in_range z) → SFits w32 (pos 0 -ℤ z)
minus_in z t =
    let m = pos 0 -ℤ z in
    record { sfits = omega (arith, mag_of m 2048 (omega (arith, sub_law (pos 0) z, apart m, in_halves z t)) (omega (arith, sub_law (pos 0) z, apart m, in_halves z t))) }

pub abs_in : (z : ℤ) → T (in_range z) → nat_abs z ≤ 1024
abs_in z t = omega (arith, abs_is z, apart z, in_halves z t)

in_length : (f n : ℕ) → length (digits_in f n) ≤ f
unfolding digits_in
in_length zero n = omega arith
in_length (suc f) n = go (ltb n 10) (in_length f (n / 10))
  where
    go : (t : Bool) → length (digits_in f (n / 10)) ≤ f → length (cond t ((n + 48) ∷ []) (digits_in f (n / 10) ++ ((n % 10 + 48) ∷ []))) ≤ suc f
    go true h = omega arith
    go false h = omega (arith, length-append (digits_in f (n / 10)) ((n % 10 + 48) ∷ []))

pub digits_length : (n : ℕ) → length (digits_of n) ≤ 5
digits_length n = in_length 5 n

pub coord_length : (z : ℤ) → length (coord_text z) ≤ 6
coord_length (pos n) = omega (arith, digits_length n)
coord_length (negsuc n) = omega (arith, digits_length (suc n))

-- ---- a point: the word W, X, a comma, Y and a newline
pub point_stores : (l : List ℕ) (i : ℕ) (W X Y : List ℕ)
    → sets l i (W ++ ((X ++ (44 ∷ Y)) ++ (10 ∷ [])))
    ≡ set (sets (set (sets (sets l i W) (i + length W) X) (i + length W + length X) 44) (i + length W + length X + 1) Y) (i + length W + length X + 1 + length Y) 10
point_stores l i W X Y =
    let B = i + length W in
    let l₁ = sets l i W in
    sets_append l i W ((X ++ (44 ∷ Y)) ++ (10 ∷ []))
    ∙ sets_append l₁ B (X ++ (44 ∷ Y)) (10 ∷ [])
    ∙ (λ j. set (sets_append l₁ B X (44 ∷ Y) j) (B + length-append X (44 ∷ Y) j) 10)
    ∙ (λ j. set (sets (set (sets l₁ B X) (B + length X) 44) (sym (add-one (B + length X)) j) Y) (count B (length X) (length Y) j) 10)
  where
    count : (b x y : ℕ) → b + (x + suc y) ≡ b + x + 1 + y
    count b x y = omega arith

-- ---- a number's line: the word W, D and a newline
pub number_stores : (l : List ℕ) (i : ℕ) (W D : List ℕ) → sets l i (W ++ (D ++ (10 ∷ []))) ≡ set (sets (sets l i W) (i + length W) D) (i + length W + length D) 10
number_stores l i W D = sets_append l i W (D ++ (10 ∷ [])) ∙ sets_append (sets l i W) (i + length W) D (10 ∷ [])

-- ---- how long a line is
pub number_text_length : (w : List ℕ) (n : ℕ) → length (number_text w n) ≤ length w + 6
number_text_length w n = omega (arith, length-append w (digits_of n ++ (10 ∷ [])), length-append (digits_of n) (10 ∷ []), digits_length n)

pub point_text_length : (w : List ℕ) (p : Point) → length (point_text w p) ≤ length w + 14
point_text_length w p = omega (arith, length-append w (pair_text p ++ (10 ∷ [])), length-append (pair_text p) (10 ∷ []), length-append (coord_text p.x) (44 ∷ coord_text p.y), coord_length p.x, coord_length p.y)

-- ---- texts written one after the other: new is l with x at a place, and end the place after it
pub record Wrote (l : List ℕ) (at : ℕ) (x new : List ℕ) (end : ℕ) : Type 0 where
  pub ends : end ≡ at + length x
  pub holds : new ≡ sets l at x

pub then : {l x y new last : List ℕ} {at mid end : ℕ} → Wrote l at x new mid → Wrote new mid y last end → Wrote l at (x ++ y) last end
then {l} {x} {y} {new} {last} {at} {mid} {end} a b = record {
  ends = omega (arith, a.ends, b.ends, length-append x y);
  holds = b.holds ∙ (λ i. sets (a.holds i) (a.ends i) y) ∙ sym (sets_append l at x y);
}

-- ---- 1 or 0, as a flag is converted
pub flag_is : (d : Bool) → bool_byte d ≡ cond d 1 0
flag_is true = refl
flag_is false = refl

pub flag_most : (d : Bool) → cond {A = ℕ} d 1 0 ≤ 1
flag_most true = omega arith
flag_most false = omega arith

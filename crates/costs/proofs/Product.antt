-- A whole number times a factor from 0 to 16: the rounded product is finite, above -1, and at most 16 times the number. Assumes nothing.
use Rattle.std.proofs.Common.{◌≡◌, ℕ, suc, ◌+◌, ◌*◌, ◌/◌, ◌^◌, ◌<◌, ◌≤◌, min, true, false, ◌&&◌, ◌||◌, T, eqb, ltb, pos, neg_ℤ, sym, refl, ap, ◌∙◌, subst, ⊎_elim, true≢false, zero-le, le_trans, le_of_eq, suc-mul, div-lt_iff_lt-mul, mul-le-mul_left, mul-lt-mul_of_pos_right, mul-pos, mul-zero, zero-mul, mul-one, div-le_self, mul_right_comm, le_of_mul-le-mul_right, arith, lit<, lit≤, eqb→eq, ltb→lt, lt→ltb}
use native.Mathlib.Nat.{eq_of_mul-eq-mul_right, mul-mul-mul_comm}
use lib.Ieee.{Float, nan, inf, fin, binary32, up, down, round, mul, le, lt, of_int, to_unsigned, to_signed}
use lib.Ieee.Fits.{down_pos}
use lib.Ieee.Exact.{HasValue, round_exact}
use lib.Ieee.Back.{round_whole}
use lib.Ieee.Order.{round_mono}
use Rattle.costs.specs.Scale.{in_bounds, scale_of}
use mir.Facts.{or_yes, and_yes}

-- p is finite and from 0 to k, or a negative zero
abbrev pub Within : ℕ → Float → Type 0
Within k nan = ⊥
Within k (inf s) = ⊥
Within k (fin false m e) = m * up e ≤ k * down e
Within k (fin true m e) = m * up e ≡ 0

-- ---- what that gives
pub above : (k : ℕ) (p : Float) → Within k p → T (lt (fin true 1 (pos 0)) p)
unfolding lt
above k nan w = absurd w
above k (inf s) w = absurd w
above k (fin false m e) w = lt→ltb 0 (1 * down e + m * up e * 1) (omega (arith, down_pos e))
above k (fin true m e) w = lt→ltb (m * up e * 1) (1 * down e) (omega (arith, down_pos e))

pub under : (k : ℕ) (p : Float) → k < 2 ^ 64 → Within k p → T (lt p (fin false 1 (pos 64)))
unfolding lt
under k nan h w = absurd w
under k (inf s) h w = absurd w
under k (fin false m e) h w = lt→ltb (m * up e * 1) (2 ^ 64 * down e) (omega (arith, mul-lt-mul_of_pos_right h (down_pos e)))
under k (fin true m e) h w = lt→ltb 0 (m * up e * 1 + 2 ^ 64 * down e) (omega (arith, down_pos e))

-- the whole part
whole : (m k d : ℕ) → 0 < d → m ≤ k * d → m / d ≤ k
whole m k d p h = le_of_lt_suc ((div-lt_iff_lt-mul p).1 (omega (arith, suc-mul k d)))
  where
    le_of_lt_suc : m / d < suc k → m / d ≤ k
    le_of_lt_suc q = omega arith

-- cut towards zero it is at most k, at any width that holds k
pub cut_le : (b k : ℕ) (p : Float) → Within k p → to_unsigned b p ≤ k
unfolding to_unsigned
cut_le b k nan w = absurd w
cut_le b k (inf s) w = absurd w
cut_le b k (fin false m e) w = omega (arith, whole (m * up e) k (down e) (down_pos e) w)
cut_le b k (fin true m e) w = omega arith

pub cut_same : (k : ℕ) (p : Float) → k < 2 ^ 31 → Within k p → to_unsigned 64 p ≡ to_unsigned 32 p
unfolding to_unsigned
cut_same k nan h w = absurd w
cut_same k (inf s) h w = absurd w
cut_same k (fin false m e) h w = omega (arith, whole (m * up e) k (down e) (down_pos e) w)
cut_same k (fin true m e) h w = refl

-- and Rust's `as i32` gives the same
pub cut_signed : (k : ℕ) (p : Float) → k < 2 ^ 31 → Within k p → to_signed 31 p ≡ pos (to_unsigned 32 p)
unfolding to_unsigned to_signed
cut_signed k nan h w = absurd w
cut_signed k (inf s) h w = absurd w
cut_signed k (fin false m e) h w = ap pos (same (m * up e / down e) (whole (m * up e) k (down e) (down_pos e) w))
  where
    same : (q : ℕ) → q ≤ k → min q 2147483647 ≡ min q 4294967295
    same q l = omega arith
cut_signed k (fin true m e) h w = ap (λ (q : ℕ). neg_ℤ (pos (min q 2147483648))) (ap (λ (a : ℕ). a / down e) w ∙ none (down e))
  where
    none : (d : ℕ) → 0 / d ≡ 0
    none d = omega (arith, div-le_self 0 d)

-- ---- the order, as facts
le_false : (a b : ℕ) → T (ltb a b || (eqb a b && true)) → a ≤ b
le_false a b t = ⊎_elim (λ p. below p) (λ q. level q) (or_yes (ltb a b) (eqb a b && true) t)
  where
    below : T (ltb a b) → a ≤ b
    below p = omega (arith, ltb→lt a b p)

    level : T (eqb a b && true) → a ≤ b
    level q = omega (arith, eqb→eq a b (and_yes (eqb a b) true q).0)

nothing : (a b : ℕ) → 0 < b → a * b ≡ 0 → a ≡ 0
nothing a b p e = eq_of_mul-eq-mul_right b p a 0 (e ∙ sym (zero-mul b))

-- between 0 and k, each as a float
between : (lo p hi : Float) (k : ℕ) → HasValue lo false 0 1 → HasValue hi false k 1 → T (le lo p) → T (le p hi) → Within k p
unfolding le
between nan p hi k l h s t = absurd l
between (inf r) p hi k l h s t = absurd l
between (fin true a d) p hi k l h s t = absurd (true≢false l.0)
between (fin false a d) nan hi k l h s t = absurd s
between (fin false a d) (inf true) hi k l h s t = absurd s
between (fin false a d) (inf false) nan k l h s t = absurd t
between (fin false a d) (inf false) (inf r) k l h s t = absurd h
between (fin false a d) (inf false) (fin r b e) k l h s t = absurd t
between (fin false a d) (fin false m c) nan k l h s t = absurd h
between (fin false a d) (fin false m c) (inf r) k l h s t = absurd h
between (fin false a d) (fin false m c) (fin true b e) k l h s t = absurd (true≢false h.0)
between (fin false a d) (fin false m c) (fin false b e) k l h s t =
    le_of_mul-le-mul_right
    (le_trans (le_false (m * up c * down e) (b * up e * down c) t)
    (le_of_eq (ap (λ (x : ℕ). x * down c) (sym (mul-one (b * up e)) ∙ h.1) ∙ mul_right_comm k (down e) (down c))))
    (down_pos e)
between (fin false a d) (fin true m c) hi k l h s t =
    let q = and_yes (eqb (a * up d * down c) (m * up c * down d)) (eqb (a * up d * down c) 0) s in
    nothing (m * up c) (down d) (down_pos d) (sym (eqb→eq (a * up d * down c) (m * up c * down d) q.0) ∙ eqb→eq (a * up d * down c) 0 q.1)

-- a negative zero
minus_none : (p : Float) (num den : ℕ) → 0 < den → num ≡ 0 → HasValue p true num den → (k : ℕ) → Within k p
minus_none nan num den d z h k = absurd h
minus_none (inf s) num den d z h k = absurd h
minus_none (fin false m e) num den d z h k = absurd (true≢false (sym h.0))
minus_none (fin true m e) num den d z h k = nothing (m * up e) den d (h.1 ∙ ap (λ (x : ℕ). x * down e) z ∙ zero-mul (down e))

-- ---- the product of n, as the float y, and a factor x from 0 to 16
module _ (n : ℕ) (small : n ≤ 2 ^ 20) where
  top : HasValue (round binary32 false (n * 16) 1) false (n * 16) 1
  top = round_whole binary32 false (n * 16) (omega arith)

  product : (y x : Float) → HasValue y false n 1 → T (le (fin false 0 (pos 0)) x) → T (le x (fin false 1 (pos 4))) → Within (n * 16) (mul binary32 y x)
  unfolding mul le
  product nan x h s t = absurd h
  product (inf r) x h s t = absurd h
  product (fin true a d) x h s t = absurd (true≢false h.0)
  product (fin false a d) nan h s t = absurd s
  product (fin false a d) (inf true) h s t = absurd s
  product (fin false a d) (inf false) h s t = absurd t
  product (fin false a d) (fin true m e) h s t =
      let q = and_yes (eqb (0 * down e) (m * up e * 1)) (eqb (0 * down e) 0) s in
      let z : m * up e ≡ 0 = omega (arith, eqb→eq (0 * down e) (m * up e * 1) q.0) in
      let num : a * up d * (m * up e) ≡ 0 = ap (λ (x : ℕ). a * up d * x) z ∙ mul-zero (a * up d) in
      let den : 0 < down d * down e = mul-pos (down_pos d) (down_pos e) in
      minus_none (round binary32 true (a * up d * (m * up e)) (down d * down e)) (a * up d * (m * up e)) (down d * down e) den num
      (round_exact binary32 true (a * up d * (m * up e)) (down d * down e) 0 0 den (lit< tt) (lit< tt)
      (ap (λ (x : ℕ). x * 2 ^ 149) num ∙ sym (zero-mul (down d * down e))))
      (n * 16)
  product (fin false a d) (fin false m e) h s t =
      let den : 0 < down d * down e = mul-pos (down_pos d) (down_pos e) in
      let num : a * up d ≡ n * down d = sym (mul-one (a * up d)) ∙ h.1 in
      let x16 : m * up e ≤ 16 * down e = le_trans (le_of_eq (sym (mul-one (m * up e)))) (le_false (m * up e * 1) (16 * down e) t) in
      let up16 : a * up d * (m * up e) ≤ n * 16 * (down d * down e) = subst (λ (x : ℕ). x * (m * up e) ≤ n * 16 * (down d * down e)) (sym num)
      (le_trans (mul-le-mul_left (n * down d) x16) (le_of_eq (mul-mul-mul_comm n (down d) 16 (down e)))) in
      between (round binary32 false 0 1) (round binary32 false (a * up d * (m * up e)) (down d * down e)) (round binary32 false (n * 16) 1) (n * 16)
      (round_whole binary32 false 0 (lit≤ tt)) top
      (round_mono binary32 0 1 (a * up d * (m * up e)) (down d * down e) (lit< tt) den (le_trans (le_of_eq (zero-mul (down d * down e))) zero-le))
      (round_mono binary32 (a * up d * (m * up e)) (down d * down e) (n * 16) 1 den (lit< tt) (le_trans (le_of_eq (mul-one (a * up d * (m * up e)))) up16))

  -- n as an f32 is n, so the product of the code is within
  pub scaled_within : (x : Float) → T (le (fin false 0 (pos 0)) x) → T (le x (fin false 1 (pos 4))) → Within (n * 16) (mul binary32 (of_int binary32 (pos n)) x)
  unfolding of_int
  scaled_within x s t = product (round binary32 false n 1) x (round_whole binary32 false n (omega arith)) s t

  -- a factor in bounds scales n to at most 16 n, and Rust's `as i32` of the product is that number
  pub bounded : (x : Float) → T (in_bounds x) → Within (n * 16) (mul binary32 (of_int binary32 (pos n)) x)
  unfolding in_bounds
  bounded x t = let q = and_yes (le (fin false 0 (pos 0)) x) (le x (fin false 1 (pos 4))) t in scaled_within x q.0 q.1

  pub scale_le : (x : Float) → T (in_bounds x) → scale_of n x ≤ n * 16
  unfolding scale_of
  scale_le x t = cut_le 32 (n * 16) (mul binary32 (of_int binary32 (pos n)) x) (bounded x t)

  pub scale_signed : (x : Float) → T (in_bounds x) → to_signed 31 (mul binary32 (of_int binary32 (pos n)) x) ≡ pos (scale_of n x)
  unfolding scale_of
  scale_signed x t = cut_signed (n * 16) (mul binary32 (of_int binary32 (pos n)) x) (omega arith) (bounded x t)

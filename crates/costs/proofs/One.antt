-- A whole number times a factor that equals 1 is that number, cut or not. Assumes nothing.
use Rattle.std.proofs.Common.{◌≡◌, ℕ, ◌*◌, ◌^◌, ◌≤◌, true, false, T, eqb, sym, ap, ◌∙◌, true≢false, mul_assoc, mul-pos, mul-one, arith, lit<, le→leb, eqb→eq}
use lib.Ieee.{Float, nan, inf, fin, binary32, up, down, round, mul, eq, of_int, to_unsigned, in_float}
use lib.Ieee.Fits.{down_pos}
use lib.Ieee.Exact.{HasValue}
use lib.Ieee.Back.{round_whole, unsigned_back}
use lib.Ieee.Scale.{round_same}
use Rattle.costs.specs.Scale.{one, scale_of}
use mir.Facts.{and_yes}

-- y is n, and x equals 1 in whatever form: the product is rounded from n
kept : (n : ℕ) (y x : Float) → HasValue y false n 1 → T (eq x one) → mul binary32 y x ≡ round binary32 false n 1
unfolding mul eq
kept n nan x h t = absurd h
kept n (inf r) x h t = absurd h
kept n (fin true a d) x h t = absurd (true≢false h.0)
kept n (fin false a d) nan h t = absurd t
kept n (fin false a d) (inf r) h t = absurd t
kept n (fin false a d) (fin true m e) h t =
    let q = and_yes (eqb (m * up e * 1) (1 * down e)) (eqb (m * up e * 1) 0) t in
    absurd (omega (arith, down_pos e, eqb→eq (m * up e * 1) (1 * down e) q.0, eqb→eq (m * up e * 1) 0 q.1))
kept n (fin false a d) (fin false m e) h t =
    let q = and_yes (eqb (m * up e * 1) (1 * down e)) true t in
    let x1 : m * up e ≡ down e = omega (arith, eqb→eq (m * up e * 1) (1 * down e) q.0) in
    let yn : a * up d ≡ n * down d = sym (mul-one (a * up d)) ∙ h.1 in
    round_same binary32 false (a * up d * (m * up e)) (down d * down e) n 1 (mul-pos (down_pos d) (down_pos e)) (lit< tt)
    (mul-one (a * up d * (m * up e)) ∙ ap (λ (z : ℕ). a * up d * z) x1 ∙ ap (λ (z : ℕ). z * down e) yn ∙ mul_assoc n (down d) (down e))

-- a factor of 1 scales n to n
pub scale_one : (n : ℕ) (x : Float) → n ≤ 2 ^ 20 → T (eq x one) → scale_of n x ≡ n
unfolding scale_of of_int in_float
scale_one n x h t =
    ap (to_unsigned 32) (kept n (round binary32 false n 1) x (round_whole binary32 false n (omega arith)) t)
    ∙ (unsigned_back binary32 32 n (le→leb n (2 ^ 24) (omega arith)) (omega arith)).1

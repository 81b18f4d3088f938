-- Which bit patterns are a NaN's: those whose digits below the sign exceed an infinity's. Assumes nothing.
use mathlib.Core.Path.{◌≡◌, refl, sym}
use mathlib.Core.Bool.{Bool, true, false, ◌&&◌, not, true≢false}
use Prim.Native.Nat.{ℕ, ◌<◌, ◌≤◌, ◌%◌, ◌/◌}
use native.Mathlib.Omega.{arith}
use borrow.Author.Tests.{eq-eqb, ne_eqb, eqb-true}
use lib.Dec.{T, eqb}
use lib.Ieee.{nan, binary32, div, of_bits, of_fields, nan_bits, odd}

pub zero_by_zero : div binary32 (of_bits binary32 0) (of_bits binary32 0) ≡ nan
unfolding div of_bits of_fields odd
zero_by_zero = refl

pub above : (v : ℕ) → 2139095040 < v % 2147483648 → of_bits binary32 v ≡ nan
unfolding of_bits of_fields
above v h =
    let field : v % 2147483648 / 8388608 ≡ 255 = omega arith in
    let digits : (v % 8388608 ≡ 0 → ⊥) = λ e. omega arith in
    simp (field, ne_eqb (v % 8388608) 0 digits)

both : (a b : Bool) → (a ≡ true → b ≡ true) → T (not (a && not b))
both true true f = tt
both true false f = absurd (true≢false (sym (f refl)))
both false b f = tt

pub within : (v : ℕ) → v % 2147483648 ≤ 2139095040 → T (not (nan_bits binary32 v))
unfolding nan_bits
within v h = both (eqb (v % 2147483648 / 8388608) 255) (eqb (v % 8388608) 0) (λ e. eq-eqb _ _ (digits (eqb-true _ _ e)))
  where
    digits : v % 2147483648 / 8388608 ≡ 255 → v % 8388608 ≡ 0
    digits e = omega arith

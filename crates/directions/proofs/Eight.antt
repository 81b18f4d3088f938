-- A number below 8 is one of eight. Assumes nothing.
use Prim.Native.Nat.{ℕ, zero, suc, ◌<◌}
use native.Mathlib.Omega.{arith}

pub by_eight : (P : ℕ → Type 0) → P 0 → P 1 → P 2 → P 3 → P 4 → P 5 → P 6 → P 7 → (k : ℕ) → k < 8 → P k
by_eight P a b c d e f g h zero l = a
by_eight P a b c d e f g h (suc zero) l = b
by_eight P a b c d e f g h (suc (suc zero)) l = c
by_eight P a b c d e f g h (suc (suc (suc zero))) l = d
by_eight P a b c d e f g h (suc (suc (suc (suc zero)))) l = e
by_eight P a b c d e f g h (suc (suc (suc (suc (suc zero))))) l = f
by_eight P a b c d e f g h (suc (suc (suc (suc (suc (suc zero)))))) l = g
by_eight P a b c d e f g h (suc (suc (suc (suc (suc (suc (suc zero))))))) l = h
by_eight P a b c d e f g h (suc (suc (suc (suc (suc (suc (suc (suc k)))))))) l = absurd (over k l)
  where
    over : (k : ℕ) → suc (suc (suc (suc (suc (suc (suc (suc k))))))) < 8 → ⊥
    over k l = omega arith

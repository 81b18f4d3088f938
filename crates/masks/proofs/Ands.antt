-- What a bitwise and with the three bits of an even direction keeps: a test that antt computes at each of the 256 masks. Assumes nothing.
use mathlib.Core.Path.{◌≡◌, refl}
use mathlib.Core.Bool.{Bool}
use Prim.Native.Nat.{ℕ, zero, suc, ◌<◌}
use native.Mathlib.Omega.{arith}
use lib.Bits.{bit_and}
use lib.Dec.{T, eqb, eqb→eq}
use lib.ListN.{replicate}
use Rattle.masks.specs.Masks.{straight_of}
use Rattle.masks.proofs.Every.{every, at}

same : ℕ → ℕ → ℕ → ℕ → Bool
same d k m x = eqb (bit_and m k) (straight_of d m)

-- k is the mask of the bits of the direction d
Keeps : ℕ → ℕ → Type 0
Keeps d k = T (every (same d k) 0 (replicate {A = ℕ} 256 0))

keeps : (d k : ℕ) → Keeps d k → (m : ℕ) → m < 256 → bit_and m k ≡ straight_of d m
unfolding same Keeps
keeps d k t m h = eqb→eq (bit_and m k) (straight_of d m) (at (same d k) (replicate {A = ℕ} 256 0) t m h)

pub and_0 : (m : ℕ) → m < 256 → bit_and m 69 ≡ straight_of 0 m
unfolding same Keeps straight_of
and_0 = keeps 0 69 tt

pub and_2 : (m : ℕ) → m < 256 → bit_and m 21 ≡ straight_of 2 m
unfolding same Keeps straight_of
and_2 = keeps 2 21 tt

pub and_4 : (m : ℕ) → m < 256 → bit_and m 84 ≡ straight_of 4 m
unfolding same Keeps straight_of
and_4 = keeps 4 84 tt

pub and_6 : (m : ℕ) → m < 256 → bit_and m 81 ≡ straight_of 6 m
unfolding same Keeps straight_of
and_6 = keeps 6 81 tt

-- an odd direction keeps none
pub odd : (k m : ℕ) → k < 8 → (k ≡ 0 → ⊥) → (k ≡ 2 → ⊥) → (k ≡ 4 → ⊥) → (k ≡ 6 → ⊥) → ◌≡◌ {A = ℕ} 0 (straight_of k m)
unfolding straight_of
odd zero m h a b c d = absurd (a refl)
odd (suc zero) m h a b c d = refl
odd (suc (suc zero)) m h a b c d = absurd (b refl)
odd (suc (suc (suc zero))) m h a b c d = refl
odd (suc (suc (suc (suc zero)))) m h a b c d = absurd (c refl)
odd (suc (suc (suc (suc (suc zero))))) m h a b c d = refl
odd (suc (suc (suc (suc (suc (suc zero)))))) m h a b c d = absurd (d refl)
odd (suc (suc (suc (suc (suc (suc (suc zero))))))) m h a b c d = refl
odd (suc (suc (suc (suc (suc (suc (suc (suc k)))))))) m h a b c d = absurd (over k h)
  where
    over : (k : ℕ) → suc (suc (suc (suc (suc (suc (suc (suc k))))))) < 8 → ⊥
    over k h = omega arith

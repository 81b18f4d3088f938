-- Laws of a mask with one bit set or cleared: each is a test that antt computes at every mask and direction.
-- Assumes nothing.
use mathlib.Core.Path.{◌≡◌}
use Prim.Native.Nat.{ℕ, ◌-◌, ◌*◌, ◌%◌, ◌^◌, ◌<◌}
use mathlib.Core.Bool.{Bool, true, false}
use lib.Bits.{bit_and, bit_or}
use lib.Dec.{T, ltb, eqb, ltb→lt, eqb→eq}
use Rattle.cells.proofs.Small.{all, of_all}
use Rattle.refresh.specs.Refresh.{with_bit}

-- a test of a mask and a direction
pub of_all2 : (f : ℕ → ℕ → Bool) → T (all (λ m. all (f m) 8) 256) → (m d : ℕ) → m < 256 → d < 8 → T (f m d)
of_all2 f t m d hm hd = of_all (f m) 8 (of_all (λ k. all (f k) 8) 256 t m hm) d hd

within_test : Bool → ℕ → ℕ → Bool
within_test on m d = ltb (with_bit m d on) 256

pub with_bit_small : (m d : ℕ) (on : Bool) → m < 256 → d < 8 → with_bit m d on < 256
unfolding with_bit within_test
with_bit_small m d true hm hd = ltb→lt (with_bit m d true) 256 (of_all2 (within_test true) tt m d hm hd)
with_bit_small m d false hm hd = ltb→lt (with_bit m d false) 256 (of_all2 (within_test false) tt m d hm hd)

-- the mask that the code makes, as it is computed
set_test : ℕ → ℕ → Bool
set_test m d = eqb (bit_or m (1 * 2 ^ d % 256)) (with_bit m d true)

pub set_is : (m d : ℕ) → m < 256 → d < 8 → bit_or m (1 * 2 ^ d % 256) ≡ with_bit m d true
unfolding with_bit set_test
set_is m d hm hd = eqb→eq _ _ (of_all2 set_test tt m d hm hd)

clear_test : ℕ → ℕ → Bool
clear_test m d = eqb (bit_and m (255 - 1 * 2 ^ d % 256)) (with_bit m d false)

pub clear_is : (m d : ℕ) → m < 256 → d < 8 → bit_and m (255 - 1 * 2 ^ d % 256) ≡ with_bit m d false
unfolding with_bit clear_test
clear_is m d hm hd = eqb→eq _ _ (of_all2 clear_test tt m d hm hd)

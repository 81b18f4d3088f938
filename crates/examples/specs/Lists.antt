-- Numbers in a list of bytes: what the definitions of `lists` give where a mistake would give something else. Assumes nothing.
use Rattle.std.specs.Prelude.{◌≡◌, true, false, [], ◌∷◌, pos, negsuc}
use Rattle.std.specs.Float.Ieee.{of_bits}
use Rattle.std.specs.Float.{nan, inf, fin, binary32}
use Rattle.lists.specs.Numbers.{byte_at, pair_at, word_at, signed_of}

pub record Lists : Type 0 where
  -- the least byte comes first, and no byte counts twice
  pub least_first : word_at (1 ∷ 2 ∷ 3 ∷ 4 ∷ []) 0 ≡ 67305985
  -- the byte at the place, not the one before it, and 0 past the end, not the last one
  pub byte_there : (byte_at (7 ∷ 8 ∷ []) 1 ≡ 8) × (byte_at (7 ∷ 8 ∷ []) 2 ≡ 0)
  -- past the end a byte is 0, not the last one; and the first is the least
  pub past_the_end : pair_at (7 ∷ []) 0 ≡ 7
  -- the largest pattern of two bytes is -1, not 0, and so is that of four
  pub minus_one : (signed_of 32768 65535 ≡ negsuc 0) × (signed_of 2147483648 4294967295 ≡ negsuc 0)
  -- the first pattern of the upper half is the least number, not the largest
  pub lowest : (signed_of 32768 32768 ≡ negsuc 32767) × (signed_of 2147483648 2147483648 ≡ negsuc 2147483647)
  -- the first pattern above infinity's is a NaN's
  pub first_nan : of_bits binary32 2139095041 ≡ nan
  -- infinity's own is infinity
  pub infinite : of_bits binary32 2139095040 ≡ inf false
  -- the first pattern with the sign is negative zero, which keeps it
  pub negative_zero : of_bits binary32 2147483648 ≡ fin true 0 (pos 0)

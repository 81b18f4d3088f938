-- Masks of a cell's eight neighbours; directions are 0 to 7. Assumes nothing: these are definitions.
use Rattle.std.specs.Prelude.{ℕ, zero, suc, ◌+◌, ◌-◌, ◌*◌, ◌/◌, ◌%◌, ◌^◌, Bool, true, false, eqb}

abbrev pub pick : Bool → ℕ → ℕ → ℕ
pick true a b = a
pick false a b = b

-- the bit d of a mask, 0 or 1; and whether it is set
abbrev pub bit_at : ℕ → ℕ → ℕ
bit_at m d = m / 2 ^ d % 2

unfoldable pub has_bit : ℕ → ℕ → Bool
has_bit m d = eqb (bit_at m d) 1

-- the mask whose bit d is f d, for d below n
abbrev pub mask_to : (ℕ → ℕ) → ℕ → ℕ
mask_to f zero = 0
mask_to f (suc n) = mask_to f n + f n * 2 ^ n

-- forced bit d, indices modulo 8: d odd, set when neighbour bit d+3 or d+5 is clear; d even, when d+2 or d+6 is clear
abbrev pub forced_bit : ℕ → ℕ → ℕ
forced_bit m d =
    pick (eqb (d % 2) 1) (1 - bit_at m ((d + 3) % 8) * bit_at m ((d + 5) % 8))
    (1 - bit_at m ((d + 2) % 8) * bit_at m ((d + 6) % 8))

-- the forced mask of a neighbour mask
unfoldable pub forced_of : ℕ → ℕ
forced_of m = mask_to (forced_bit m) 8

-- bit k of m in its place, k modulo 8; and that bit if bit g is clear
abbrev pub keep : ℕ → ℕ → ℕ
keep m k = bit_at m (k % 8) * 2 ^ (k % 8)

abbrev pub keep_if_clear : ℕ → ℕ → ℕ → ℕ
keep_if_clear m g k = (1 - bit_at m (g % 8)) * keep m k

-- the pruned mask for travel d, diagonals on: d odd, bits d-1, d, d+1, plus d+2 if d+3 is clear, plus d+6 if d+5 is clear;
-- d even, bit d, plus d+1 if d+2 is clear, plus d+7 if d+6 is clear; all ANDed with the neighbour mask
unfoldable pub pruned_of : ℕ → ℕ → ℕ
pruned_of d m =
    pick (eqb (d % 2) 1)
    (keep m (d + 7) + keep m d + keep m (d + 1) + keep_if_clear m (d + 3) (d + 2) + keep_if_clear m (d + 5) (d + 6))
    (keep m d + keep_if_clear m (d + 2) (d + 1) + keep_if_clear m (d + 6) (d + 7))

-- diagonals off: bits d-2, d, d+2 and cardinal neighbours only, so none where d is odd
unfoldable pub straight_of : ℕ → ℕ → ℕ
straight_of d m = pick (eqb (d % 2) 1) 0 (keep m (d + 6) + keep m d + keep m (d + 2))

-- by the setting of diagonals
abbrev pub pruned_in : Bool → ℕ → ℕ → ℕ
pruned_in true d m = pruned_of d m
pruned_in false d m = straight_of d m

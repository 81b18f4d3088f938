-- Points, directions, refusals, distances, settings, masks and goals: what the definitions that the contracts cite give at small inputs.
-- Assumes nothing: these are statements. Each rules out the wrong answer that its line names.
use Rattle.std.specs.Prelude.{Some, None, Ok, Err, ◌≡◌, true, false, List, [], ◌∷◌, ℕ, zero, suc, ◌+◌, ◌%◌, ℤ, pos, negsuc, ◌-ℤ◌, nat_abs, Float}
use Rattle.std.specs.Float.{nan, inf, fin}
use Rattle.points.specs.Plane.{in_range, legal}
use Rattle.points.specs.Compass.{moved, dir, sign_of, clockwise, counterclockwise, diagonal_of, split_of}
use Rattle.bends.specs.Bends.{way_of, steps_of}
use Rattle.headings.specs.Headings.{heading_of}
use Rattle.bends.specs.declared.Heading.TheVariants.{Straight, Bent}
use Rattle.points.specs.Refusals.{told_of}
use Rattle.points.specs.declared.Point.{Point}
use Rattle.points.specs.declared.Refusal.TheVariants as refusal
use Rattle.std.specs.declared.cmp.Ordering.TheVariants.{Less, Greater}
use Rattle.costs.specs.Cost.{dist_of}
use Rattle.costs.specs.Scale.{one, sixteen, in_bounds, scale_of, scaled_of}
use Rattle.costs.specs.Limits.{new_settings, settings_ok}
use Rattle.costs.specs.declared.Settings.{Settings}
use Rattle.masks.specs.Masks.{has_bit, forced_of, pruned_in}
use Rattle.pairs.specs.Pairs.{first_bad}
use Rattle.goals.specs.Goals.{point_of, same_point, count_of, least_to, is_goal, guess_of}
use Rattle.goals.specs.declared.Goal.TheVariants.{Near, Several}
use Rattle.goals.specs.declared.Plan.{Plan}

-- the point (x,y), and a number below zero
abbrev pub at : ℤ → ℤ → Point
at x y = record { x = x; y = y }

abbrev pub minus : ℕ → ℤ
minus zero = pos 0
minus (suc n) = negsuc n

abbrev pub origin : Point
origin = at (pos 0) (pos 0)

-- one step from (5,7) in each direction
abbrev pub around : List Point
around =
    moved (at (pos 5) (pos 7)) 0 ∷ moved (at (pos 5) (pos 7)) 1 ∷ moved (at (pos 5) (pos 7)) 2 ∷ moved (at (pos 5) (pos 7)) 3
    ∷ moved (at (pos 5) (pos 7)) 4 ∷ moved (at (pos 5) (pos 7)) 5 ∷ moved (at (pos 5) (pos 7)) 6 ∷ moved (at (pos 5) (pos 7)) 7 ∷ []

-- what each refusal is told as; MAP at line 3, SAME and POINT at (5,7)
abbrev pub numbers : List ℕ
numbers =
    (told_of refusal.Size).number ∷ (told_of refusal.State).number ∷ (told_of refusal.Setting).number ∷ (told_of refusal.NoRoute).number
    ∷ (told_of refusal.Goals).number ∷ (told_of refusal.Exhausted).number ∷ (told_of refusal.Depth).number ∷ (told_of refusal.Fringe).number
    ∷ (told_of refusal.Pops).number ∷ (told_of refusal.Room).number ∷ (told_of (refusal.Same (at (pos 5) (pos 7)))).number ∷ (told_of (refusal.Map 3)).number
    ∷ (told_of refusal.List).number ∷ (told_of (refusal.BadPoint (at (pos 5) (pos 7)))).number ∷ []

-- points, directions and refusals
pub record Points : Type 0 where
  -- a wrong column or row offset of a direction, and a step by x twice
  pub offsets : around ≡
      at (pos 5) (pos 6) ∷ at (pos 6) (pos 6) ∷ at (pos 6) (pos 7) ∷ at (pos 6) (pos 8)
      ∷ at (pos 5) (pos 8) ∷ at (pos 4) (pos 8) ∷ at (pos 4) (pos 7) ∷ at (pos 4) (pos 6) ∷ []
  -- a number past 7 that is not read modulo 8
  pub modulo : moved (at (pos 5) (pos 7)) 9 ≡ at (pos 6) (pos 6)
  -- right of 7, left of 0 and the opposite of 6: a turn the other way or too far, and a number past 7
  pub eighths : ((7 + 1) % 8 ≡ 0) × ((0 + 7) % 8 ≡ 7) × ((6 + 4) % 8 ≡ 2)
  -- from 5 to 2: the difference turned round, and cut off at 0
  pub difference : (sign_of (pos 2 -ℤ pos 5) ≡ Less) × (sign_of (pos 5 -ℤ pos 2) ≡ Greater) × (nat_abs (pos 2 -ℤ pos 5) ≡ 3)
  -- 1,023 refused, or 1,024 taken
  pub range_top : (in_range (pos 1023) ≡ true) × (in_range (pos 1024) ≡ false)
  -- -1,024 refused, or -1,025 taken
  pub range_bottom : (in_range (minus 1024) ≡ true) × (in_range (minus 1025) ≡ false)
  -- x alone tested, or y alone
  pub both_tested : (legal (at (pos 1024) (pos 0)) ≡ false) × (legal (at (pos 0) (pos 1024)) ≡ false)
  -- a turn read modulo 4, and one that goes the other way
  pub turns : (clockwise (dir 7) 6 ≡ dir 5) × (counterclockwise (dir 1) 6 ≡ dir 3)
  -- a quarter for a half, and a number past 7
  pub opposite : clockwise (dir 6) 4 ≡ dir 2
  -- even directions diagonal, all of them or none
  pub diagonal : (diagonal_of 1 ≡ true) × (diagonal_of 2 ≡ false)
  -- the two cardinals of a diagonal swapped, and a cardinal that splits
  pub split : (split_of 1 ≡ Some (dir 2, dir 0)) × (split_of 5 ≡ Some (dir 6, dir 4)) × (split_of 2 ≡ None)
  -- LIST numbered as MAP, or any other number
  pub told : numbers ≡ 1 ∷ 2 ∷ 3 ∷ 4 ∷ 5 ∷ 6 ∷ 7 ∷ 8 ∷ 9 ∷ 10 ∷ 11 ∷ 12 ∷ 13 ∷ 14 ∷ []
  -- the line or the point lost
  pub carried : ((told_of (refusal.Map 3)).line ≡ 3) × ((told_of (refusal.Same (at (pos 5) (pos 7)))).point ≡ at (pos 5) (pos 7))
  -- signs swapped; and the sign alone gives the direction, aligned or not
  pub signs : (heading_of origin (at (pos 2) (pos 0)) ≡ Ok (Straight (dir 2) 2)) × (heading_of origin (at (pos 5) (minus 1)) ≡ Ok (Bent (dir 1) 5))
  -- a slant called bent, or its differences held against each other with their signs
  pub slants : (heading_of origin (at (pos 3) (pos 3)) ≡ Ok (Straight (dir 3) 3)) × (heading_of origin (at (pos 3) (minus 3)) ≡ Ok (Straight (dir 1) 3))
  -- the smaller difference told, or their sum, or what is near a slant called straight: either may be the larger
  pub larger : (heading_of origin (at (pos 4) (pos 3)) ≡ Ok (Bent (dir 3) 4)) × (heading_of origin (at (minus 3) (pos 4)) ≡ Ok (Bent (dir 5) 4))
  -- the direction of a bent one lost, or a way or steps between equal points
  pub ways : (way_of (Ok (Straight (dir 1) 3)) ≡ Some (dir 1)) × (way_of (Ok (Bent (dir 3) 4)) ≡ Some (dir 3)) × (way_of (Err refusal.State) ≡ None) × (steps_of (Err refusal.State) ≡ 0)
  -- a direction between equal points, or another point told
  pub same_refused : heading_of (at (pos 5) (pos 7)) (at (pos 5) (pos 7)) ≡ Err (refusal.Same (at (pos 5) (pos 7)))

-- settings with these limits of depth, pops and fringe; and with this factor
abbrev pub limited : ℕ → ℕ → ℕ → Settings
limited depth pops fringe = record { factor = one; diagonal = true; improved = true; depth = depth; pops = pops; fringe = fringe }

abbrev pub weighted : Float → Settings
weighted factor = record { factor = factor; diagonal = true; improved = true; depth = 0; pops = 1; fringe = 1 }

-- negative zero, and a half
abbrev pub minus_zero : Float
minus_zero = fin true 0 (pos 0)

abbrev pub half : Float
half = fin false 1 (negsuc 0)

-- distances, scaling and limits
pub record Costs : Type 0 where
  -- 42 for E, with either difference the larger
  pub halves : (dist_of true origin (at (pos 2) (pos 0)) ≡ 140) × (dist_of true origin (at (pos 0) (pos 2)) ≡ 140)
  -- 71 for C
  pub straight_price : dist_of false origin (at (pos 1) (pos 0)) ≡ 70
  -- a column held against a row
  pub unmixed : dist_of true origin (at (pos 3) (pos 1)) ≡ 239
  -- 16 refused, and the next float above it taken
  pub factor_top : (in_bounds sixteen ≡ true) × (in_bounds (fin false 8388609 (negsuc 18)) ≡ false)
  -- negative zero refused, a negative number taken
  pub factor_bottom : (in_bounds minus_zero ≡ true) × (in_bounds (fin true 1 (pos 0)) ≡ false)
  -- NaN or infinity taken
  pub factor_number : (in_bounds nan ≡ false) × (in_bounds (inf false) ≡ false)
  -- a sum for the product, and rounding up
  pub scaled : scale_of 99 half ≡ 49
  -- the usual factor changes a distance
  pub factor_one : scale_of 99 one ≡ 99
  -- negative zero scales to another number than 0, or is refused
  pub factor_minus_zero : scaled_of true minus_zero origin (at (pos 1) (pos 0)) ≡ Ok 0
  -- a new grid's settings with another factor, a flag off or a smaller limit
  pub new_ones : new_settings ≡ record { factor = fin false 1 (pos 0); diagonal = true; improved = true; depth = 64; pops = 65535; fringe = 8192 }
  -- settings with negative zero refused, with NaN taken
  pub factor_tested : (settings_ok (weighted minus_zero) ≡ true) × (settings_ok (weighted nan) ≡ false)
  -- a depth of 64 refused, 65 taken
  pub depth_top : (settings_ok (limited 64 1 1) ≡ true) × (settings_ok (limited 65 1 1) ≡ false)
  -- a depth of 0 refused
  pub depth_bottom : settings_ok (limited 0 1 1) ≡ true
  -- 65,535 pops refused, 65,536 taken
  pub pops_top : (settings_ok (limited 64 65535 1) ≡ true) × (settings_ok (limited 64 65536 1) ≡ false)
  -- one pop refused, no pop at all taken
  pub pops_bottom : (settings_ok (limited 64 1 1) ≡ true) × (settings_ok (limited 64 0 1) ≡ false)
  -- 8,192 fringe entries refused, 8,193 taken
  pub fringe_top : (settings_ok (limited 64 1 8192) ≡ true) × (settings_ok (limited 64 1 8193) ≡ false)
  -- one fringe entry refused, none taken
  pub fringe_bottom : (settings_ok (limited 64 1 1) ≡ true) × (settings_ok (limited 64 1 0) ≡ false)

-- bits, forced and pruned masks beside P1 to P9
pub record Masks : Type 0 where
  -- a direction number read modulo 7, and bits counted from the other end
  pub bit_place : (has_bit 128 (7 % 8) ≡ true) × (has_bit 128 (8 % 8) ≡ false)
  -- another neighbour looked at: with bit 6 clear the directions 0, 1, 3 and 4 are forced
  pub forced_rule : forced_of 191 ≡ 27
  -- another bit kept: bit 7 is, for travel 0 and for travel 1, if bit 6 is clear
  pub pruned_rule : (pruned_in true 0 191 ≡ 129) × (pruned_in true 1 191 ≡ 135)
  -- the setting of diagonals ignored
  pub setting_read : (pruned_in true 1 255 ≡ 7) × (pruned_in false 1 255 ≡ 0)
  -- wrong cardinals with diagonals off
  pub straight_bits : (pruned_in false 0 255 ≡ 69) × (pruned_in false 4 255 ≡ 84) × (pruned_in false 6 255 ≡ 81)

-- two goals: (5,0) and (1,0)
abbrev pub two : List ℤ
two = pos 5 ∷ pos 0 ∷ pos 1 ∷ pos 0 ∷ []

-- a search for the nearer of the two, at half the distance
abbrev pub halfway : Plan
halfway = record { start = origin; goal = Several 2; w = 1; h = 1; target = 2; settings = weighted half }

-- the goals of a search
pub record Goals : Type 0 where
  -- an odd count of numbers taken, or none
  pub odd_count : (count_of 3 ≡ Err refusal.Goals) × (count_of 0 ≡ Err refusal.Goals)
  -- 64 goals refused, 65 taken
  pub sixty_five : (count_of 128 ≡ Ok 64) × (count_of 130 ≡ Err refusal.Goals)
  -- the last goal unread, and a point in range blamed
  pub misplaced :
      (first_bad (pos 5 ∷ pos 0 ∷ pos 1 ∷ pos 1024 ∷ []) ≡ Some (at (pos 1) (pos 1024)))
      × (first_bad two ≡ None)
  -- 70 for the 99 of an approximate goal, and more than 99
  pub near : (is_goal [] true (Near origin) (at (pos 1) (pos 1)) ≡ true) × (is_goal [] true (Near origin) (at (pos 2) (pos 0)) ≡ false)
  -- the least distance unscaled (70), or the greatest scaled (175)
  pub guessed : guess_of two halfway origin ≡ 35
  -- the greatest of several distances, and their sum
  pub least : least_to two true origin 2 ≡ 70
  -- columns compared alone, and rows alone
  pub same_place :
      (same_point (at (pos 5) (pos 7)) (at (pos 5) (pos 7)) ≡ true)
      × (same_point (at (pos 5) (pos 7)) (at (pos 5) (pos 6)) ≡ false)
      × (same_point (at (pos 5) (pos 7)) (at (pos 4) (pos 7)) ≡ false)
  -- a cell's number by columns, and its row for its column
  pub placed : point_of 3 5 ≡ at (pos 2) (pos 1)
  -- the last of several goals passed
  pub several : (is_goal two true (Several 2) (at (pos 1) (pos 0)) ≡ true) × (is_goal two true (Several 2) (at (pos 1) (pos 1)) ≡ false)

pub record Ground : Type 0 where
  pub points : Points
  pub costs : Costs
  pub masks : Masks
  pub goals : Goals

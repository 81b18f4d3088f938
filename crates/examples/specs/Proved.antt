-- The table of proved examples, P1 to P12, of the definitions that the contracts cite. Assumes nothing: this is a statement.
use Rattle.std.specs.Prelude.{◌≡◌, Bool, true, false, ℕ, pos}
use Rattle.costs.specs.Cost.{dist_of}
use Rattle.masks.specs.Masks.{forced_of, pruned_in}

-- the distance from (0,0) to (x,y)
abbrev pub reach : Bool → ℕ → ℕ → ℕ
reach diagonal x y = dist_of diagonal (record { x = pos 0; y = pos 0 }) (record { x = pos x; y = pos y })

-- THE TABLE: P1 to P4 forced masks, P5 to P8 pruned, P9 diagonals off, P10 to P12 distances
pub record Examples : Type 0 where
  pub P1 : forced_of 255 ≡ 0
  pub P2 : forced_of 0 ≡ 255
  pub P3 : forced_of 254 ≡ 108
  pub P4 : forced_of 253 ≡ 0
  pub P5 : pruned_in true 0 255 ≡ 1
  pub P6 : pruned_in true 0 251 ≡ 3
  pub P7 : pruned_in true 1 255 ≡ 7
  pub P8 : pruned_in true 1 239 ≡ 15
  pub P9 : pruned_in false 2 255 ≡ 21
  pub P10 : reach true 1 0 ≡ 70
  pub P11 : reach true 3 3 ≡ 297
  pub P12 : (reach true 5 2 ≡ 408) × (reach false 5 2 ≡ 490)

-- What straight and bent mean: whether steps of one direction lead from a point to another. Assumes nothing: these are definitions and statements.
use Rattle.std.specs.Prelude.{◌≡◌, Ok, true, ℕ, zero, suc, ◌%◌, ◌<◌}
use Rattle.points.specs.Compass.{dir, moved}
use Rattle.points.specs.declared.Point.{Point}
use Rattle.points.specs.declared.Direction.{Direction}
use Rattle.bends.specs.declared.Heading.TheVariants.{Straight}
use Rattle.bends.specs.Bends.{bent_of}
use Rattle.headings.specs.Headings.{heading_of}

-- the point after n steps of the direction d
unfoldable pub ahead : ℕ → ℕ → Point → Point
ahead zero d p = p
ahead (suc n) d p = ahead n d (moved p d)

-- LAW, for whoever drives a leg or takes one from outside: straight with the direction d and the length n exactly if n steps of d, at least one, lead from a to b
pub record StraightLeads : Type 0 where
  pub leads : (a b : Point) (d : Direction) (n : ℕ) → heading_of a b ≡ Ok (Straight d n) → (0 < n) × (d.number < 8) × (ahead n d.number a ≡ b)
  pub led : (a b : Point) (d n : ℕ) → 0 < n → ahead n d a ≡ b → heading_of a b ≡ Ok (Straight (dir (d % 8)) n)

-- LAW: bent exactly if the points differ and no number of equal steps leads from a to b
pub record BentNever : Type 0 where
  pub never : (a b : Point) → bent_of (heading_of a b) ≡ true → (a ≡ b → ⊥) × ((d n : ℕ) → ahead n d a ≡ b → ⊥)
  pub bent : (a b : Point) → (a ≡ b → ⊥) → ((d n : ℕ) → ahead n d a ≡ b → ⊥) → bent_of (heading_of a b) ≡ true

-- A straight leg and its walk. Assumes nothing: these are definitions and a statement.
use Rattle.std.specs.Prelude.{◌≡◌, Ok, List, [], ◌∷◌, ℕ, zero, suc, ◌%◌, ◌<◌, ℤ}
use Rattle.points.specs.Compass.{dir, moved}
use Rattle.points.specs.declared.Point.{Point}
use Rattle.points.specs.declared.Direction.{Direction}
use Rattle.bends.specs.declared.Heading.TheVariants.{Straight}
use Rattle.headings.specs.Headings.{heading_of, span_of}
use Rattle.paths.specs.Walks.{walk_of}

-- the points of n steps of the direction d from p
unfoldable pub line_of : ℕ → ℕ → Point → List ℤ
line_of zero d p = []
line_of (suc n) d p = (moved p d).x ∷ (moved p d).y ∷ line_of n d (moved p d)

-- LAW, for whoever drives a leg or takes one from outside: a leg is straight exactly if its walk repeats one step; the walk is then the leg's length of steps of its direction
pub record StraightWalks : Type 0 where
  pub walks : (p q : Point) (d : Direction) (n : ℕ) → heading_of p q ≡ Ok (Straight d n) → walk_of (span_of p q) p q ≡ line_of n d.number p
  pub straight : (p q : Point) (d n : ℕ) → 0 < n → walk_of (span_of p q) p q ≡ line_of n d p → heading_of p q ≡ Ok (Straight (dir (d % 8)) n)

-- What an expansion is made of: a node's parent, the directions that a mask lacks, when a cell is expanded again, and a successor that is offered.
-- Assumes nothing: these are definitions.
use Rattle.std.specs.Prelude.{◌≡◌, Bool, false, not, List, Option, Some, None, ℕ, zero, suc, ◌%◌, ◌≤◌, ◌<◌, eqb, ℤ, get_or}
use Rattle.masks.specs.Masks.{has_bit}
use Rattle.goals.specs.declared.Plan.{Plan}
use Rattle.goals.specs.Goals.{both}
use Rattle.offers.specs.Search.{State, Out, offer_of, guess_at}
use Rattle.stops.specs.declared.Cell.{Cell}
use Rattle.stops.specs.Stops.{number_of, stops_at}

-- the recorded parent of a node; the start, which is node 0, has none
abbrev pub parent_of : List ℕ → ℕ → Option ℕ
parent_of parent zero = None
parent_of parent (suc i) = Some (get_or parent (suc i) 0)

-- a mask has none of the directions from `from` up to e
pub record Clear (mask from e : ℕ) : Type 0 where
  pub after : from ≤ e
  pub low : e ≤ 8
  pub clear : (k : ℕ) → from ≤ k → k < e → has_bit mask (k % 8) ≡ false

-- expanded again exactly if improved pruning is on, the direction is diagonal and the cell that it reached is neither goal nor forced
unfoldable pub again_at : List ℕ → List ℤ → Plan → ℕ → Cell → Bool
again_at forced goals p e c = both p.settings.improved (both (eqb (e % 2) 1) (not (stops_at forced goals p e c.x c.y)))

-- a cell offered at a cost
unfoldable pub give_of : List ℤ → Plan → ℕ → Cell → ℕ → State → Out
give_of goals p from c k s =
    offer_of p.settings.fringe (guess_at goals p (number_of p.w c.x c.y)) from (number_of p.w c.x c.y) k s

-- The waypoints of a found search. Assumes nothing.
use Rattle.std.specs.Prelude.{cond, List, [], Result, Ok, Err, ◌∷◌, ℕ, zero, suc, ◌/◌, ◌^◌, ◌<◌, ◌≤◌, length, get_or, ℤ, eqb, ltb}
use Rattle.std.proofs.lemmas.List.Edits.{sets}
use Rattle.goals.specs.declared.Plan.{Plan}
use Rattle.offers.specs.Search.{area_of, place_point, Sides}
use Rattle.points.specs.declared.Refusal.{Refusal}
use Rattle.points.specs.declared.Refusal.TheVariants.{Room}

-- the recorded parents from node i back to the start, reversed, and then acc. The first number is enough turns: the cost of i is, since it falls along the parents.
unfoldable pub route_of : List ℕ → ℕ → ℕ → List ℕ → List ℕ
route_of parent zero i acc = i ∷ acc
route_of parent (suc f) i acc = cond (eqb i 0) (i ∷ acc) (route_of parent f (get_or parent i 0) (i ∷ acc))

-- the nodes' points as pairs
unfoldable pub pairs : Plan → List ℕ → List ℕ → List ℤ
pairs p place [] = []
pairs p place (i ∷ l) = (place_point p (get_or place i 0)).x ∷ (place_point p (get_or place i 0)).y ∷ pairs p place l

-- ROOM if the finished list has more points than the output holds
unfoldable pub wrote_of : ℕ → List ℕ → Result ℕ Refusal
wrote_of room r = cond (ltb (room / 2) (length r)) (Err Room) (Ok (length r))

-- what the output holds then: the first pairs, and the rest as it was; all of it as it was if it is refused
unfoldable pub left_in : List ℤ → Plan → List ℕ → List ℕ → List ℤ
left_in out p place r = cond (ltb (length out / 2) (length r)) out (sets out 0 (pairs p place r))

-- each node but the start has a parent that costs less
pub record Climbs (parent cost : List ℕ) (count : ℕ) : Type 0 where
  pub parent_in : count ≤ length parent
  pub known : (i : ℕ) → i < count → 0 < i → get_or parent i 0 < count
  pub falls : (i : ℕ) → i < count → 0 < i → get_or cost (get_or parent i 0) 0 < get_or cost i 0

-- each node has a place
pub record Located (p : Plan) (place : List ℕ) (count : ℕ) : Type 0 where
  pub sides : Sides p
  pub place_in : count ≤ length place
  pub low : (i : ℕ) → i < count → get_or place i 0 ≤ area_of p

-- a node at which a route may end
pub record Tall (cost : List ℕ) (count at : ℕ) : Type 0 where
  pub inside : at < count
  pub low : get_or cost at 0 < 2 ^ 40

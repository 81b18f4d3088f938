-- The nodes of a search, and what recording a successor does to them. Assumes nothing.
use Rattle.std.specs.Prelude.{◌≡◌, Bool, true, false, cond, List, [], ◌∷◌, ◌++◌, ℕ, zero, suc, ◌+◌, ◌-◌, ◌^◌, ◌<◌, ◌≤◌, length, get_or, set, take, eqb, ltb}

-- number: by cell, one more than its insertion number, and 0 if it has none. The others: by insertion number.
pub record Nodes : Type 0 where
  pub number : List ℕ
  pub place : List ℕ
  pub parent : List ℕ
  pub cost : List ℕ
  pub count : ℕ

-- the nodes that lent slices hold: the first `count` places; what lies beyond is not looked at
abbrev pub nodes : List ℕ → List ℕ → List ℕ → List ℕ → ℕ → Nodes
nodes number place parent cost count =
    record { number = number; place = take count place; parent = take count parent; cost = take count cost; count = count }

-- whether a successor was taken, its insertion number, and the nodes then
pub record Note : Type 0 where
  pub kept : Bool
  pub index : ℕ
  pub nodes : Nodes

-- a note of its parts
abbrev pub note : Bool → ℕ → Nodes → Note
note b i s = record { kept = b; index = i; nodes = s }

-- a new cell takes the next number
unfoldable pub added : ℕ → ℕ → ℕ → Nodes → Nodes
added c p k s =
    record {
      number = set s.number c (length s.place + 1);
      place = s.place ++ (c ∷ []);
      parent = s.parent ++ (p ∷ []);
      cost = s.cost ++ (k ∷ []);
      count = s.count + 1;
    }

-- a cheaper way to a cell, which keeps its first number
unfoldable pub lowered : ℕ → ℕ → ℕ → Nodes → Nodes
lowered i p k s =
    record { number = s.number; place = s.place; parent = set s.parent i p; cost = set s.cost i k; count = s.count }

-- recording the cell c with the parent p and the cost k: if new or strictly cheaper
unfoldable pub note_of : ℕ → ℕ → ℕ → Nodes → Note
note_of c p k s =
    cond (eqb (get_or s.number c 0) 0)
    (note true (length s.place) (added c p k s))
    (cond (ltb k (get_or s.cost (get_or s.number c 0 - 1) 0))
    (note true (get_or s.number c 0 - 1) (lowered (get_or s.number c 0 - 1) p k s))
    (note false (get_or s.number c 0 - 1) s))

-- how many places of a list are not 0
unfoldable pub filled : List ℕ → ℕ
filled [] = 0
filled (zero ∷ l) = filled l
filled (suc n ∷ l) = filled l + 1

-- what recording a cell asks of the slices
pub record Able (number place parent cost : List ℕ) (count cell from : ℕ) : Type 0 where
  pub cell_in : cell < length number
  pub known : get_or number cell 0 ≤ count
  pub spare : get_or number cell 0 ≡ 0 → count < length number
  pub place_long : length number ≤ length place
  pub parent_long : length number ≤ length parent
  pub cost_long : length number ≤ length cost
  pub counted : count ≤ length number
  pub small : length number < 2 ^ 32
  pub from_small : from < 2 ^ 32

-- what holds of the nodes of a search
pub record Sound (s : Nodes) : Type 0 where
  pub counts : s.count ≡ length s.place
  pub parents : length s.parent ≡ length s.place
  pub costs : length s.cost ≡ length s.place
  pub filling : filled s.number ≡ length s.place
  pub numbered : (c : ℕ) → get_or s.number c 0 ≤ length s.place
  pub within : (i : ℕ) → i < length s.place → get_or s.place i 0 < length s.number
  pub there : (i : ℕ) → i < length s.place → get_or s.number (get_or s.place i 0) 0 ≡ i + 1
  pub back : (c i : ℕ) → get_or s.number c 0 ≡ i + 1 → get_or s.place i 0 ≡ c

-- t comes after s: no node is lost, no place changes, and a recorded cost only falls
pub record Later (s t : Nodes) : Type 0 where
  pub floor : length t.number ≡ length s.number
  pub more : length s.place ≤ length t.place
  pub falls : (i : ℕ) → i < length s.place → get_or t.cost i 0 ≤ get_or s.cost i 0
  pub stays : (i : ℕ) → i < length s.place → get_or t.place i 0 ≡ get_or s.place i 0

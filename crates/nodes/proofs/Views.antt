-- What recording a cell does to the slices is what it does to the nodes that they hold. Assumes nothing.
use mathlib.Core.Path.{◌≡◌}
use mathlib.Core.Bool.{true, false}
use mathlib.Core.List.{List, [], ◌∷◌, ◌++◌}
use Prim.Native.Nat.{ℕ, ◌+◌, ◌-◌, ◌<◌, ◌≤◌}
use native.Mathlib.Omega.{arith}
use native.Mathlib.Numerals.{add-one}
use borrow.Author.Tests.{eq-eqb, ne_eqb, lt-ltb, le-ltb}
use lib.ListN.{length, get_or, set, take}
use lib.Seq.{length-take-le, take-suc-set, take-set-lt, get_or-take}
use Rattle.nodes.specs.Nodes.{nodes, note, note_of, added, lowered, Able}

module _ (number place parent cost : List ℕ) (count cell from k : ℕ) (a : Able number place parent cost count cell from) where
  more : (l : List ℕ) (v : ℕ) → count < length l → take (count + 1) (set l count v) ≡ take count l ++ (v ∷ [])
  more l v h = rw add-one (take-suc-set l count v h)

  pub view_new : get_or number cell 0 ≡ 0
      → note true count (nodes (set number cell (count + 1)) (set place count cell) (set parent count from) (set cost count k) (count + 1)) ≡ note_of cell from k (nodes number place parent cost count)
  unfolding note_of added
  view_new z =
      let s = a.spare z in
      let l : length (take count place) ≡ count = length-take-le count place (omega (arith, a.place_long)) in
      rw (eq-eqb (get_or number cell 0) 0 z, l, more place cell (omega (arith, a.place_long)), more parent from (omega (arith, a.parent_long)), more cost k (omega (arith, a.cost_long)))

  module _ (z : get_or number cell 0 ≡ 0 → ⊥) where
    below : get_or number cell 0 - 1 < count
    below = omega (arith, a.known)

    cost_at : get_or (take count cost) (get_or number cell 0 - 1) 0 ≡ get_or cost (get_or number cell 0 - 1) 0
    cost_at = get_or-take count cost (get_or number cell 0 - 1) 0 below

    pub view_lower : k < get_or cost (get_or number cell 0 - 1) 0
        → note true (get_or number cell 0 - 1) (nodes number place (set parent (get_or number cell 0 - 1) from) (set cost (get_or number cell 0 - 1) k) count) ≡ note_of cell from k (nodes number place parent cost count)
    unfolding note_of lowered
    view_lower h =
        rw (ne_eqb (get_or number cell 0) 0 z, cost_at, lt-ltb k (get_or cost (get_or number cell 0 - 1) 0) h, take-set-lt count parent (get_or number cell 0 - 1) from below, take-set-lt count cost (get_or number cell 0 - 1) k below)

    pub view_old : get_or cost (get_or number cell 0 - 1) 0 ≤ k
        → note false (get_or number cell 0 - 1) (nodes number place parent cost count) ≡ note_of cell from k (nodes number place parent cost count)
    unfolding note_of
    view_old h =
        rw (ne_eqb (get_or number cell 0) 0 z, cost_at, le-ltb k (get_or cost (get_or number cell 0 - 1) 0) h)

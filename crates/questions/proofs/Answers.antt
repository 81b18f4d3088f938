-- Laws of the questions: a turn of the loop over the neighbours, and each answer. Assumes nothing.
use Rattle.std.specs.List.{list_any}
use mathlib.Core.Path.{refl, ◌≡◌, ap}
use mathlib.Core.Bool.{Bool, true, false, ◌||◌}
use mathlib.Core.List.{List, [], ◌∷◌}
use Prim.Native.Nat.{ℕ, ◌*◌, ◌/◌, ◌%◌, ◌≤◌, ◌<◌}
use native.Mathlib.Omega.{arith}
use lib.Dec.{eqb}
use borrow.Author.Tests.{lt-ltb, le-ltb, eq-eqb}
use Rattle.components.specs.Components.{root_of}
use Rattle.cells.specs.Cells.{cell_to}
use Rattle.joins.specs.Joins.{around}
use Rattle.questions.specs.Questions.{rooted_of, reachable_of, near_along, near_of}

pub rooted_out : (n : ℕ) (p : List ℕ) (r c : ℕ) → n ≤ c → false ≡ rooted_of n p r c
unfolding rooted_of
rooted_out n p r c h = rw (le-ltb c n h)

pub rooted_in : (n : ℕ) (p : List ℕ) (r c s : ℕ) → c < n → s ≡ root_of p c → eqb r s ≡ rooted_of n p r c
unfolding rooted_of
rooted_in n p r c s h e = rw (lt-ltb c n h, e)

-- a neighbour by its number: inside, or outside
pub next_in : (n : ℕ) (p : List ℕ) (r d c s : ℕ) → c ≡ d → c < n → s ≡ root_of p c → eqb r s ≡ rooted_of n p r d
next_in n p r d c s e h q = rw (← e) (rooted_in n p r c s h q)

pub next_out : (n : ℕ) (p : List ℕ) (r d : ℕ) → n ≡ d → false ≡ rooted_of n p r d
next_out n p r d e = rooted_out n p r d (omega arith)

module _ (n : ℕ) (p : List ℕ) (a c : ℕ) (h : a < n) where
  pub reach_root : (r : ℕ) (t : Bool) → r ≡ root_of p a → t ≡ rooted_of n p r c → t ≡ reachable_of n p a c
  unfolding reachable_of
  reach_root r t e q = rw (lt-ltb a n h, ← e) q

  pub reach_one : c < n → root_of p a ≡ root_of p c → true ≡ reachable_of n p a c
  unfolding reachable_of rooted_of
  reach_one g e = rw (lt-ltb a n h, lt-ltb c n g, eq-eqb (root_of p a) (root_of p c) e)

-- a chain that asks each direction
pub any_is : (w h : ℕ) (p : List ℕ) (r x y : ℕ) (ds : List ℕ) → list_any (λ d. rooted_of (w * h) p r (cell_to w h x y d)) ds ≡ near_along w h p r x y ds
unfolding near_along
any_is w h p r x y [] = refl
any_is w h p r x y (d ∷ ds) = ap (λ (b : Bool). rooted_of (w * h) p r (cell_to w h x y d) || b) (any_is w h p r x y ds)

module _ (w h : ℕ) (diagonal : Bool) (p : List ℕ) (a c : ℕ) where
  pub near_is : (ds : List ℕ) (r : ℕ) (t : Bool) → ds ≡ around diagonal → r ≡ root_of p a → t ≡ near_along w h p r (c % w) (c / w) ds → t ≡ near_of w h diagonal p a c
  unfolding near_of
  near_is ds r t e q s = rw (← e, ← q) s

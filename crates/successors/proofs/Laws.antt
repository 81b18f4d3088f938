-- A node's parent, by its number; the directions that a mask lacks; and three tests at once. Assumes nothing.
use mathlib.Core.Path.{◌≡◌, refl, subst, sym}
use mathlib.Core.Bool.{Bool, true, false, not}
use mathlib.Core.List.{List}
use Prim.Native.Nat.{ℕ, zero, suc, ◌+◌, ◌%◌, ◌<◌, ◌≤◌}
use native.Mathlib.Nat.{le_refl}
use native.Mathlib.Omega.{arith}
use lib.ListN.{get_or}
use Rattle.masks.specs.Masks.{has_bit}
use Rattle.goals.specs.Goals.{both}
use Rattle.nodes.proofs.Laws.{by_eq}
use Rattle.std.specs.Prelude.{Some, None}
use Rattle.successors.specs.Successors.{parent_of, Clear}

-- a node after the start has its recorded parent
pub parent_node : (parent : List ℕ) (i : ℕ) → (i ≡ 0 → ⊥) → Some (get_or parent i 0) ≡ parent_of parent i
parent_node parent zero n = absurd (n refl)
parent_node parent (suc i) n = refl

-- only the start has none
pub parent_none : (parent : List ℕ) (i : ℕ) → None ≡ parent_of parent i → i ≡ 0
parent_none parent zero e = refl
parent_none parent (suc i) e = let z : ◌≡◌ {A = ℕ} 0 1 = cc in absurd (omega arith)

-- a parent is the recorded one, of a node that is not the start
pub parent_some : (parent : List ℕ) (i up : ℕ) → Some up ≡ parent_of parent i → (0 < i) × (up ≡ get_or parent i 0)
parent_some parent zero up e = let z : ◌≡◌ {A = ℕ} 0 1 = cc in absurd (omega arith)
parent_some parent (suc i) up e = (omega arith, cc)

-- three tests that all say yes, the last by saying no
pub all_of : (a b s r : Bool) → a ≡ true → b ≡ true → r ≡ s → not r ≡ both a (both b (not s))
all_of a b s r p q e = rw (p, q, e)

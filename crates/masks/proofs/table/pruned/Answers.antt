-- `masks::table::pruned` meets its contract: each row's rule is one test that antt computes, and one law carries it to an entry. Assumes nothing.
-- the test of the entry x of direction d at mask m, and of a whole row
use mathlib.Core.Path.{◌≡◌}
use mathlib.Core.Bool.{Bool}
use mathlib.Core.List.{List}
use Prim.Native.Nat.{ℕ, ◌%◌, ◌<◌}
use native.Mathlib.Nat.{mod-lt}
use native.Mathlib.Omega.{arith}
use borrow.Author.Rules.{rules}
use lib.Dec.{T, eqb, eqb→eq, lit<}
use lib.ListN.{length, get_or}
use Rattle.masks.specs.declared.table.TheConstants.{ROW_0, ROW_1, ROW_2, ROW_3, ROW_4, ROW_5, ROW_6, ROW_7}
use Rattle.masks.specs.Masks.{pruned_of}
use Rattle.masks.proofs.Every.{both, both_left, both_right, every, at}
use Rattle.masks.proofs.table.pruned.Goals as goal

right : ℕ → ℕ → ℕ → Bool
right d m x = eqb x (pruned_of d m)

passes : ℕ → List ℕ → Bool
passes d row = both (eqb (length row) 256) (every (right d) 0 row)

-- the rule, at an entry of a row that passes
entry : (d : ℕ) (row : List ℕ) → T (passes d row) → (m : ℕ) → m < 256 → get_or row m 0 ≡ pruned_of d m
unfolding right passes
entry d row t m h = let n : length row ≡ 256 = eqb→eq (length row) 256 (both_left (eqb (length row) 256) (every (right d) 0 row) t) in
    eqb→eq (get_or row m 0) (pruned_of d m) (at (right d) row (both_right (eqb (length row) 256) (every (right d) 0 row) t) m (omega arith))

-- none of the first seven directions: the last
past : (k : ℕ) → (k ≡ 0 → ⊥) → (k ≡ 1 → ⊥) → (k ≡ 2 → ⊥) → (k ≡ 3 → ⊥) → 3 < k
past k a b c d = omega arith

last : (k : ℕ) → 3 < k → k < 8 → (k ≡ 4 → ⊥) → (k ≡ 5 → ⊥) → (k ≡ 6 → ⊥) → k ≡ 7
last k l u a b c = omega arith

pub returns-in-0 : goal.returns-in-0
unfolding right passes pruned_of
returns-in-0 c = rw c.in-0.is (entry 0 ROW_0 tt c.args.m ((search rules)))

pub returns-in-1 : goal.returns-in-1
unfolding right passes pruned_of
returns-in-1 c = rw c.in-1.is (entry 1 ROW_1 tt c.args.m ((search rules)))

pub returns-in-2 : goal.returns-in-2
unfolding right passes pruned_of
returns-in-2 c = rw c.in-2.is (entry 2 ROW_2 tt c.args.m ((search rules)))

pub returns-in-3 : goal.returns-in-3
unfolding right passes pruned_of
returns-in-3 c = rw c.in-3.is (entry 3 ROW_3 tt c.args.m ((search rules)))

pub returns-in-4 : goal.returns-in-4
unfolding right passes pruned_of
returns-in-4 c = rw c.in-4.is (entry 4 ROW_4 tt c.args.m ((search rules)))

pub returns-in-5 : goal.returns-in-5
unfolding right passes pruned_of
returns-in-5 c = rw c.in-5.is (entry 5 ROW_5 tt c.args.m ((search rules)))

pub returns-in-6 : goal.returns-in-6
unfolding right passes pruned_of
returns-in-6 c = rw c.in-6.is (entry 6 ROW_6 tt c.args.m ((search rules)))

pub returns-in_default : goal.returns-in_default
unfolding right passes pruned_of
returns-in_default c =
    let n = c.args.d % 8 in
    let e = last n (past n (search rules) (search rules) (search rules) (search rules)) (mod-lt c.args.d (lit< tt)) (search rules) (search rules) (search rules) in
    rw e (entry 7 ROW_7 tt c.args.m ((search rules)))

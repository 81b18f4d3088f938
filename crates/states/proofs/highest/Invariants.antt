-- `states::highest` meets its contract. Assumes nothing.
use Prim.Native.Nat.{ℕ, ◌<◌, ◌≤◌}
use lib.ListN.{get_or}
use Rattle.states.proofs.highest.Given as goal

abbrev pub invariant-loop-low : goal.invariant-loop-low
invariant-loop-low l = (i : ℕ) → i < l.low-index → get_or l.rank i 0 ≤ l.top

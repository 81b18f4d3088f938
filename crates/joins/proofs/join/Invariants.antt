-- `joins::join` meets its contract. Assumes nothing.
use Rattle.joins.proofs.Joins
use Rattle.joins.specs.Joins.{joined_to}
use lib.ListN.{length, drop}
use Prim.Native.Nat.{◌+◌, ◌*◌, ◌≤◌}
use mathlib.Core.Path.{◌≡◌}
use Rattle.joins.proofs.join.Given as goal

abbrev pub invariant-loop-d : goal.invariant-loop-d
invariant-loop-d l = record {
  few : l.d-index ≤ length l.ds;
  kept : Joins.Kept (200 + l.d-index) (l.at.w * l.at.h) (record { parent = l.initial.parent; rank = l.initial.rank }) (record { parent = l.parent; rank = l.rank });
  left : joined_to l.at.w l.at.h l.blocked l.at.x l.at.y (drop l.d-index l.ds) (record { parent = l.parent; rank = l.rank })
      ≡ joined_to l.at.w l.at.h l.blocked l.at.x l.at.y l.ds (record { parent = l.initial.parent; rank = l.initial.rank });
}

-- `rebuilds::rebuild` meets its contract. Assumes nothing.
use Rattle.joins.proofs.Joins
use Rattle.rebuilds.specs.Rebuilds.{columns_to, most_rank}
use Rattle.components.specs.Components.{Links}
use Prim.Native.Nat.{◌*◌}
use mathlib.Core.Path.{◌≡◌}
use Rattle.rebuilds.proofs.rebuild.Given as goal

abbrev pub invariant-loop-x : goal.invariant-loop-x
invariant-loop-x l = record {
  held : Joins.Held most_rank (l.size.w * l.size.h) (record { parent = l.initial.parent; rank = l.initial.rank }) (record { parent = l.parent; rank = l.rank });
  made : ◌≡◌ {A = Links} (record { parent = l.parent; rank = l.rank }) (columns_to l.size.w l.size.h l.diagonal l.blocked l.x (record { parent = l.initial.parent; rank = l.initial.rank }));
}

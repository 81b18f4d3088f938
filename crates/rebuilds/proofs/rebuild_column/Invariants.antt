-- `rebuilds::rebuild_column` meets its contract. Assumes nothing.
use Rattle.joins.proofs.Joins
use Rattle.rebuilds.specs.Rebuilds.{column_to, most_rank}
use Rattle.components.specs.Components.{Links}
use Prim.Native.Nat.{◌*◌}
use mathlib.Core.Path.{◌≡◌}
use Rattle.rebuilds.proofs.rebuild_column.Given as goal

abbrev pub invariant-loop-y : goal.invariant-loop-y
invariant-loop-y l = record {
  held : Joins.Held most_rank (l.size.w * l.size.h) (record { parent = l.initial.parent; rank = l.initial.rank }) (record { parent = l.parent; rank = l.rank });
  made : ◌≡◌ {A = Links} (record { parent = l.parent; rank = l.rank }) (column_to l.size.w l.size.h l.diagonal l.blocked l.x l.y (record { parent = l.initial.parent; rank = l.initial.rank }));
}

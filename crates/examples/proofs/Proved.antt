-- The table of proved examples holds: antt computes each. Assumes nothing.
use mathlib.Core.Path.{refl}
use Rattle.costs.specs.Cost.{dist_of}
use Rattle.masks.specs.Masks.{forced_of, pruned_of, straight_of}
use Rattle.examples.specs.Proved.{Examples}

pub examples : Examples
unfolding forced_of pruned_of straight_of dist_of
examples =
    record {
      P1 = refl;
      P2 = refl;
      P3 = refl;
      P4 = refl;
      P5 = refl;
      P6 = refl;
      P7 = refl;
      P8 = refl;
      P9 = refl;
      P10 = refl;
      P11 = refl;
      P12 = (refl, refl);
    }

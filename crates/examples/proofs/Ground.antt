-- The examples of points, costs, masks and goals hold: antt computes each. Assumes nothing.
use mathlib.Core.Path.{refl}
use lib.Ieee.{le, lt, eq, mul, of_int, to_unsigned, round, size, span, climb, units, odd}
use Rattle.points.specs.Compass.{split_at}
use Rattle.directions.specs.Offsets.{off_x, off_y}
use Rattle.costs.specs.Cost.{dist_of}
use Rattle.costs.specs.Scale.{in_bounds, scale_of}
use Rattle.masks.specs.Masks.{has_bit, forced_of, pruned_of, straight_of}
use Rattle.pairs.specs.Pairs.{first_bad}
use Rattle.goals.specs.Goals.{point_at, least_to, among_to, left_of, guess_of}
use Rattle.examples.specs.Ground.{Points, Costs, Masks, Goals, Ground}

points : Points
unfolding off_x off_y split_at
points =
    record {
      offsets = refl;
      modulo = refl;
      eighths = (refl, refl, refl);
      difference = (refl, refl, refl);
      range_top = (refl, refl);
      range_bottom = (refl, refl);
      both_tested = (refl, refl);
      turns = (refl, refl);
      opposite = refl;
      diagonal = (refl, refl);
      split = (refl, refl, refl);
      told = refl;
      carried = (refl, refl);
      signs = (refl, refl);
      slants = (refl, refl);
      larger = (refl, refl);
      ways = (refl, refl, refl, refl);
      same_refused = refl;
    }

costs : Costs
unfolding dist_of in_bounds scale_of le lt eq mul of_int to_unsigned round size span climb units odd
costs =
    record {
      halves = (refl, refl);
      straight_price = refl;
      unmixed = refl;
      factor_top = (refl, refl);
      factor_bottom = (refl, refl);
      factor_number = (refl, refl);
      scaled = refl;
      factor_one = refl;
      factor_minus_zero = refl;
      new_ones = refl;
      factor_tested = (refl, refl);
      depth_top = (refl, refl);
      depth_bottom = refl;
      pops_top = (refl, refl);
      pops_bottom = (refl, refl);
      fringe_top = (refl, refl);
      fringe_bottom = (refl, refl);
    }

masks : Masks
unfolding has_bit forced_of pruned_of straight_of
masks =
    record {
      bit_place = (refl, refl);
      forced_rule = refl;
      pruned_rule = (refl, refl);
      setting_read = (refl, refl);
      straight_bits = (refl, refl, refl);
    }

goals : Goals
unfolding dist_of scale_of mul of_int to_unsigned round size span climb units odd point_at first_bad least_to among_to left_of guess_of
goals =
    record {
      odd_count = (refl, refl);
      sixty_five = (refl, refl);
      misplaced = (refl, refl);
      near = (refl, refl);
      guessed = refl;
      least = refl;
      same_place = (refl, refl, refl);
      placed = refl;
      several = (refl, refl);
    }

pub ground : Ground
ground = record { points = points; costs = costs; masks = masks; goals = goals }

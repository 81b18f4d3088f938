-- The worked examples of jumps and expansions, each by computing both sides. Assumes nothing.
use mathlib.Core.Path.{◌≡◌, refl}
use mathlib.Core.Bool.{true≢false}
use mathlib.Core.List.{[], ◌∷◌}
use Prim.Native.Nat.{ℕ, zero, suc}
use native.Mathlib.Omega.{arith}
use Rattle.points.specs.declared.Point.{Point}
use Rattle.points.specs.declared.Refusal.TheVariants.{Depth}
use Rattle.masks.specs.Masks.{has_bit, pruned_of}
use Rattle.cells.specs.Cells.{cell_of}
use Rattle.goals.specs.declared.Plan.{Plan}
use Rattle.goals.specs.Goals.{goal_at}
use Rattle.nodes.specs.Nodes.{added, note_of}
use Rattle.offers.specs.Search.{State, Out, no, onward, area_of, place_point, offer_of, each, none, begin}
use Rattle.directions.specs.Offsets.{off_x, off_y}
use Rattle.stops.specs.declared.Cell.{Cell}
use Rattle.stops.specs.Stops.{spot_of, byte_at, within, free_at, stops_at}
use Rattle.looks.specs.Looks.{reach_of, run, sees_on, sees_either, turns_at}
use Rattle.jumps.specs.Jumps.{halts_at, jump_of}
use Rattle.starts.specs.Start.{free_cell, neighbour_of, toward_of}
use Rattle.successors.specs.Successors.{again_at, give_of}
use Rattle.expansion.specs.Expand.{Tables, follow_with, expand_with, deeper_at}
use Rattle.expansion.specs.Start.{spread_of, yield_of}
use Rattle.examples.specs.Jumps.{Jumps, point, cell, costs_of, bent, bent_plan}

pub jumps : Jumps
unfolding cell_of reach_of has_bit pruned_of goal_at added note_of area_of place_point offer_of each none begin off_x off_y byte_at within free_at stops_at run sees_on sees_either turns_at halts_at jump_of free_cell neighbour_of toward_of spread_of again_at give_of follow_with expand_with deeper_at yield_of
jumps =
    record {
      number_by_row = (refl, refl);
      column_first = refl;
      sides_in_order = (refl, refl);
      blocked_not_free = (refl, refl);
      byte_there_lem = refl;
      step_prices = (refl, refl);
      goal_numbers = (refl, (refl, (refl, refl)));
      goal_by_number = (refl, refl);
      forced_for_its_direction = (refl, refl);
      stops_at_the_goal = refl;
      nothing_beyond = (refl, refl);
      first_step_by_travel = refl;
      cells_ahead = (refl, (refl, refl));
      to_the_last_cell = refl;
      along_both_axes = (refl, (refl, refl));
      perpendicular_on_both_sides = (refl, refl);
      again_if_neither_goal_nor_forced = (refl, (refl, (refl, refl)));
      neighbour_prices = (refl, refl);
      neighbours_left_out = (refl, refl);
      recorded_parent = (refl, refl);
      not_passed_over = λ c. true≢false (c.clear 2 (omega arith) (omega arith));
      not_of_the_mask = refl;
      given = (refl, refl);
      start_yields_neighbours = refl;
      others_yield_jumps = refl;
      first_direction_followed = refl;
      priced_by_travel = refl;
      jumps_on = refl;
      levels_allowed = (refl, refl);
      first_met = (refl, refl);
      own_parent = refl;
      same_parent = refl;
    }

-- the mistake: expanding again takes the node as parent
mistaken : Tables → Plan → ℕ → ℕ → Point → Cell → ℕ → State → Out
mistaken t p from zero above c k s = no Depth
mistaken t p from (suc m) above c k s =
    expand_with t p (λ a node. follow_with t p from (λ b. mistaken t p from m (spot_of node.x node.y)) a node) above c k s

-- it offers the goal at 297 in place of 268
as_parent : costs_of (onward (yield_of bent (bent_plan 64) 0 0 (begin 9 4)) (mistaken bent (bent_plan 64) 2 65 (point 0 1) (cell 1 0) 99)) ≡ 0 ∷ 70 ∷ 99 ∷ 70 ∷ 297 ∷ []
unfolding has_bit pruned_of goal_at added note_of area_of place_point offer_of each none begin off_x off_y byte_at within free_at stops_at run sees_on sees_either turns_at halts_at jump_of free_cell neighbour_of toward_of spread_of again_at give_of follow_with expand_with deeper_at yield_of mistaken
as_parent = refl

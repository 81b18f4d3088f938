-- The worked examples of a grid's tables, computed. Assumes nothing.
use mathlib.Core.Path.{◌≡◌, refl, sym}
use mathlib.Core.Logic.{⊎_elim}
use mathlib.Core.Bool.{false, true≢false}
use mathlib.Core.List.{[], ◌∷◌}
use native.Mathlib.Omega.{arith}
use Rattle.directions.specs.Offsets.{off_x, off_y}
use Rattle.masks.specs.Masks.{forced_of, pruned_of, straight_of}
use Rattle.components.specs.Components.{climb, root_of, halves, halve, linked, united}
use Rattle.states.specs.States.{cell_ok}
use Rattle.cells.specs.Cells.{sized_of, cell_of, cell_at}
use Rattle.fills.specs.Fills.{free_bit, mask_of}
use Rattle.refresh.specs.Refresh.{with_bit, touched, fixed, fixed_all, masks_after}
use Rattle.joins.specs.Joins.{around, ahead, join_cell, joined_to}
use Rattle.rebuilds.specs.Rebuilds.{cell_joined, column_to, columns_to}
use Rattle.tables.specs.Tables.{new_of, edit_of, rebuild_of, update_of}
use Rattle.questions.specs.Questions.{rooted_of, reachable_of, near_along, near_of, neighbours_reachable_of, neighbours_unreachable_of}
use Rattle.grid.specs.Grids.{legal_of, stated_of, located_of, asked_of, new_grid, new_outcome, set_outcome, rebuild_grid, rebuild_outcome, update_grid, update_outcome}
use Rattle.grid.specs.Questions.{component_at, neighbour_mask_at, forced_mask_at, pruned_mask_at, reachable_from, unreachable_from, neighbours_reachable_from, neighbours_unreachable_from}
use Rattle.examples.specs.Tables.{Unions, States, Cells, Masks, Joined, Changes, Asked, Grids, Moves, gap, again}

pub unions : Unions
unfolding united linked root_of climb halve halves
unions = record { short_climb = refl; halving = refl; equal_ranks = refl; higher_on_top = refl; were_two = (refl, refl) }

pub states : States
unfolding cell_ok
states =
    record {
      rank_200 = refl;
      rank_201 = refl;
      equal_rank = refl;
      higher_rank = refl;
      no_cell = refl;
      one_root = refl;
      block_rank_201 = refl;
      equal_root = refl;
      untied_root = refl;
    }

pub cells : Cells
unfolding sized_of cell_of cell_at off_x off_y
cells =
    record {
      side_64 = refl;
      side_65 = (refl, refl);
      side_0 = (refl, refl);
      column_0 = refl;
      outside = (refl, refl, refl);
      next_cell = refl;
      off_edge = (refl, refl);
      transposed = refl;
    }

pub masks : Masks
unfolding mask_of free_bit masks_after touched with_bit fixed_all fixed forced_of cell_at off_x off_y
masks =
    record {
      zeros_filled = refl;
      numbers_filled = refl;
      forced_filled = refl;
      free_neighbour = refl;
      blocked_neighbour = refl;
      blocks_free = (refl, refl);
      neighbour_told = refl;
      told_back = refl;
      cardinal_ones = refl;
      every_one = refl;
    }

-- the joins that the examples below make
last_two : united (0 ∷ 1 ∷ 2 ∷ []) (0 ∷ 0 ∷ 0 ∷ []) 2 1 ≡ record { parent = 0 ∷ 2 ∷ 2 ∷ []; rank = 0 ∷ 0 ∷ 1 ∷ [] }
unfolding united linked root_of climb halve halves
last_two = refl

right : united (0 ∷ 1 ∷ 2 ∷ []) (0 ∷ 0 ∷ 0 ∷ []) 1 2 ≡ record { parent = 0 ∷ 1 ∷ 1 ∷ []; rank = 0 ∷ 1 ∷ 0 ∷ [] }
unfolding united linked root_of climb halve halves
right = refl

left : united (0 ∷ 1 ∷ 1 ∷ []) (0 ∷ 1 ∷ 0 ∷ []) 1 0 ≡ record { parent = 1 ∷ 1 ∷ 1 ∷ []; rank = 0 ∷ 1 ∷ 0 ∷ [] }
unfolding united linked root_of climb halve halves
left = refl

below : united (0 ∷ 1 ∷ 2 ∷ 3 ∷ []) (0 ∷ 0 ∷ 0 ∷ 0 ∷ []) 2 3 ≡ record { parent = 0 ∷ 1 ∷ 2 ∷ 2 ∷ []; rank = 0 ∷ 0 ∷ 1 ∷ 0 ∷ [] }
unfolding united linked root_of climb halve halves
below = refl

beside : united (0 ∷ 1 ∷ 2 ∷ 2 ∷ []) (0 ∷ 0 ∷ 1 ∷ 0 ∷ []) 1 3 ≡ record { parent = 0 ∷ 2 ∷ 2 ∷ 2 ∷ []; rank = 0 ∷ 0 ∷ 1 ∷ 0 ∷ [] }
unfolding united linked root_of climb halve halves
beside = refl

joined : united (0 ∷ 2 ∷ 2 ∷ 2 ∷ []) (0 ∷ 0 ∷ 1 ∷ 0 ∷ []) 3 1 ≡ record { parent = 0 ∷ 2 ∷ 2 ∷ 2 ∷ []; rank = 0 ∷ 0 ∷ 1 ∷ 0 ∷ [] }
unfolding united linked root_of climb halve halves
joined = refl

pub joins : Joined
unfolding united linked root_of climb halve halves joined_to join_cell around cell_at off_x off_y
joins = record { right_first = refl; four_joined = refl; blocked_apart = refl }

-- 3 by 1 `.#.`, rebuilt
gap_blocked : gap.blocked ≡ 0 ∷ 1 ∷ 0 ∷ []
unfolding new_of edit_of rebuild_of
gap_blocked = refl

gap_parent : gap.parent ≡ 0 ∷ 1 ∷ 2 ∷ []
unfolding new_of edit_of rebuild_of columns_to column_to cell_joined joined_to join_cell around ahead cell_at off_x off_y
gap_parent = refl

gap_rank : gap.rank ≡ 0 ∷ 0 ∷ 0 ∷ []
unfolding new_of edit_of rebuild_of columns_to column_to cell_joined joined_to join_cell around ahead cell_at off_x off_y
gap_rank = refl

gap_clean : gap.dirty ≡ false
unfolding rebuild_of
gap_clean = refl

-- its middle blocked again
again_parent : again.parent ≡ 1 ∷ 1 ∷ 1 ∷ []
unfolding edit_of joined_to join_cell around cell_at off_x off_y
again_parent = rw (gap_blocked, gap_parent, gap_rank, right, left)

again_dirty : again.dirty ≡ false
unfolding edit_of
again_dirty = rw gap_blocked gap_clean

pub changes : Changes
unfolding new_of edit_of rebuild_of update_of columns_to column_to cell_joined joined_to join_cell around ahead cell_at off_x off_y mask_of free_bit masks_after touched with_bit
changes =
    record {
      new_clean = refl;
      new_singles = refl;
      blocks = refl;
      marks = refl;
      blocks_masks = refl;
      joins_there = rw last_two;
      gap_apart = gap_parent;
      gap_clean = gap_clean;
      repeat_joins = again_parent;
      repeat_clean = again_dirty;
      column_order = rw (below, beside, joined);
      update_clean = refl;
      update_dirty = refl;
    }

pub asked : Asked
unfolding reachable_of rooted_of near_of near_along neighbours_reachable_of neighbours_unreachable_of around root_of climb cell_at off_x off_y
asked =
    record {
      apart = refl;
      together = refl;
      eighth = refl;
      not_of_four = refl;
      inside_no = refl;
      outside_no = (refl, refl);
      outside_near = (refl, refl);
      outside_far = (refl, refl);
    }

pub grids : Grids
unfolding legal_of stated_of located_of asked_of new_grid new_outcome set_outcome rebuild_grid rebuild_outcome update_grid update_outcome new_of rebuild_of update_of sized_of cell_of cell_ok component_at neighbour_mask_at forced_mask_at pruned_mask_at reachable_from unreachable_from neighbours_reachable_from neighbours_unreachable_from reachable_of rooted_of near_of near_along neighbours_reachable_of neighbours_unreachable_of around cell_at off_x off_y root_of climb pruned_of straight_of
grids =
    record {
      size_refused = refl;
      size_1 = (refl, refl);
      second_row = refl;
      sides_tested = refl;
      edit_refused = (refl, refl);
      rebuild_refused = (refl, refl);
      mark_cleared = (refl, refl);
      clean_kept = refl;
      component_there = refl;
      forced_read = refl;
      neighbours_read = refl;
      setting_read_lem = (refl, refl);
      no_said = refl;
      yes_said = refl;
      near_said = (refl, refl);
      far_said = (refl, refl);
      goal_outside = (refl, refl, refl, refl);
      start_outside = (refl, refl, refl, refl);
    }

pub moves : Moves
moves =
    record {
      far = λ s. omega (arith, s.across.0);
      slanted = λ s. ⊎_elim (λ e. true≢false (sym e)) (⊎_elim (λ e. omega (arith, e)) (λ e. omega (arith, e))) s.straight;
    }

-- Worked examples of a grid's tables: the right answer of a definition that a contract cites, where the mistake that the comment names would give another.
-- A grid of 2 by 1 has the cells 0 and 1. Direction 0 is up, 2 is right, 4 is down, 6 is left. Assumes nothing.
use Rattle.std.specs.Prelude.{◌≡◌, Bool, true, false, not, List, [], ◌∷◌, ℕ, eqb, pos, negsuc, replicate, set, Ok, Err}
use Rattle.points.specs.declared.Point.{Point}
use Rattle.points.specs.declared.Refusal.TheVariants.{Size, State, BadPoint}
use Rattle.components.specs.Components.{Links, root_of, halve, united}
use Rattle.states.specs.States.{state_ok}
use Rattle.cells.specs.Cells.{sized_of, place_of, cell_of, cell_to}
use Rattle.fills.specs.Fills.{fill_to, mask_of, new_masks, new_forced}
use Rattle.refresh.specs.Refresh.{blocks, masks_after, forced_after}
use Rattle.joins.specs.Joins.{around, joined_to}
use Rattle.tables.specs.Tables.{Tables, new_of, edit_of, rebuild_of, update_of}
use Rattle.questions.specs.Questions.{reachable_of, near_of, neighbours_reachable_of, neighbours_unreachable_of}
use Rattle.grid.specs.declared.Grid.{Grid}
use Rattle.grid.specs.Grids.{legal_of, new_outcome, set_outcome, rebuild_outcome, update_outcome}
use Rattle.grid.specs.Questions.{component_at, neighbour_mask_at, forced_mask_at, pruned_mask_at, reachable_from, unreachable_from, neighbours_reachable_from, neighbours_unreachable_from}
use Rattle.demand.specs.Walks.{Step}

-- the union-find, over the cells' parents and their ranks
pub record Unions : Type 0 where
  -- the next parent for the root, or the cell itself
  pub short_climb : root_of (1 ∷ 2 ∷ 3 ∷ 3 ∷ []) 0 ≡ 3
  -- no halving (1 ∷ 2 ∷ 3 ∷ ..), and halving that goes on at the grandparent (2 ∷ 2 ∷ 4 ∷ ..)
  pub halving : halve (1 ∷ 2 ∷ 3 ∷ 4 ∷ 4 ∷ []) 0 ≡ 2 ∷ 3 ∷ 4 ∷ 4 ∷ 4 ∷ []
  -- the wrong root on top (1 ∷ 1), the wrong rank raised (0 ∷ 1)
  pub equal_ranks : united (0 ∷ 1 ∷ []) (0 ∷ 0 ∷ []) 0 1 ≡ record { parent = 0 ∷ 0 ∷ []; rank = 1 ∷ 0 ∷ [] }
  -- the first root on top where the second ranks above it, a rank raised
  pub higher_on_top : united (0 ∷ 0 ∷ 2 ∷ []) (1 ∷ 0 ∷ 0 ∷ []) 2 1 ≡ record { parent = 0 ∷ 0 ∷ 0 ∷ []; rank = 1 ∷ 0 ∷ 0 ∷ [] }
  -- two components told as one, or one as two
  pub were_two : (not (eqb (root_of (0 ∷ 1 ∷ []) 0) (root_of (0 ∷ 1 ∷ []) 1)) ≡ true) × (not (eqb (root_of (0 ∷ 0 ∷ []) 0) (root_of (0 ∷ 0 ∷ []) 1)) ≡ false)

-- STATE, over the number of cells, their parents and their ranks
pub record States : Type 0 where
  -- rank 200 refused, rank 201 accepted
  pub rank_200 : state_ok 1 (0 ∷ []) (200 ∷ []) ≡ true
  pub rank_201 : state_ok 1 (0 ∷ []) (201 ∷ []) ≡ false
  -- a parent of equal rank accepted, one of higher rank refused
  pub equal_rank : state_ok 2 (1 ∷ 1 ∷ []) (0 ∷ 0 ∷ []) ≡ false
  pub higher_rank : state_ok 2 (1 ∷ 1 ∷ []) (0 ∷ 1 ∷ []) ≡ true
  -- a parent that is no cell accepted
  pub no_cell : state_ok 1 (1 ∷ []) (0 ∷ 1 ∷ []) ≡ false
  -- what a glance at 64 cells must not take: a rank of 201, and children of a root that does not rank above them
  pub one_root : state_ok 64 (replicate 64 0) (1 ∷ replicate 63 0) ≡ true
  pub block_rank_201 : state_ok 64 (set (replicate 64 0) 63 63) (set (1 ∷ replicate 63 0) 63 201) ≡ false
  pub equal_root : state_ok 64 (replicate 64 0) (replicate {A = ℕ} 64 0) ≡ false
  pub untied_root : state_ok 64 (replicate 64 0) (1 ∷ replicate 63 2) ≡ false

-- the cell numbers, of a grid of 3 by 2
pub record Cells : Type 0 where
  -- 64 refused, 65 or 0 accepted
  pub side_64 : sized_of 64 64 ≡ true
  pub side_65 : (sized_of 65 1 ≡ false) × (sized_of 1 65 ≡ false)
  pub side_0 : (sized_of 0 1 ≡ false) × (sized_of 1 0 ≡ false)
  -- column 0 outside
  pub column_0 : place_of (pos 0) 3 ≡ 0
  -- column 3, column -1 or row 2 inside
  pub outside : (place_of (pos 3) 3 ≡ 3) × (place_of (negsuc 0) 3 ≡ 3) × (cell_of 3 2 (record { x = pos 0; y = pos 2 }) ≡ 6)
  -- another neighbour than the one below on the right
  pub next_cell : cell_to 3 2 0 0 3 ≡ 4
  -- a step off the right edge to the next row's first cell (3), one off the left edge to a cell
  pub off_edge : (cell_to 3 2 2 0 2 ≡ 6) × (cell_to 3 2 0 1 6 ≡ 6)
  -- columns and rows mixed (7)
  pub transposed : cell_of 3 2 (record { x = pos 2; y = pos 1 }) ≡ 5

-- the masks of a grid's cells
pub record Masks : Type 0 where
  -- what lies past the cells filled too, or the last cell left out
  pub zeros_filled : fill_to (λ i. 0) (7 ∷ 7 ∷ 7 ∷ []) 2 ≡ 0 ∷ 0 ∷ 7 ∷ []
  pub numbers_filled : fill_to (λ i. i) (7 ∷ 7 ∷ 7 ∷ []) 2 ≡ 0 ∷ 1 ∷ 7 ∷ []
  -- the neighbour masks for the forced ones (4 ∷ 64), or what lies past the cells filled too
  pub forced_filled : new_forced 2 1 (7 ∷ 7 ∷ []) (7 ∷ 7 ∷ []) (7 ∷ 7 ∷ 7 ∷ []) ≡ 255 ∷ 255 ∷ 7 ∷ []
  -- a neighbour that is outside or blocked taken as free
  pub free_neighbour : new_masks 2 1 (7 ∷ 7 ∷ []) (7 ∷ 7 ∷ []) ≡ 4 ∷ 64 ∷ []
  pub blocked_neighbour : mask_of 2 1 (0 ∷ 1 ∷ []) 0 0 ≡ 0
  -- an edit that frees taken for one that blocks, one that blocks a free cell not
  pub blocks_free : (blocks 1 (0 ∷ []) 0 0 false ≡ false) × (blocks 1 (0 ∷ []) 0 0 true ≡ true)
  -- another bit of the neighbour told (4 ∷ 64), the cell told itself (4 ∷ 0)
  pub neighbour_told : masks_after 2 1 (4 ∷ 64 ∷ []) 1 0 false ≡ 0 ∷ 64 ∷ []
  pub told_back : masks_after 2 1 (0 ∷ 64 ∷ []) 1 0 true ≡ 4 ∷ 64 ∷ []
  -- with diagonals off, the diagonal neighbour's forced mask worked out again, or a cardinal one's not
  pub cardinal_ones : forced_after 2 2 false (0 ∷ 0 ∷ 0 ∷ 0 ∷ []) (7 ∷ 7 ∷ 7 ∷ 7 ∷ []) 0 0 false ≡ 255 ∷ 255 ∷ 255 ∷ 7 ∷ []
  pub every_one : forced_after 2 2 true (0 ∷ 0 ∷ 0 ∷ 0 ∷ []) (7 ∷ 7 ∷ 7 ∷ 7 ∷ []) 0 0 false ≡ 255 ∷ 255 ∷ 255 ∷ 255 ∷ []

-- a cell joined with its free neighbours, in the order of an edit: blocked cells, parents and ranks of w by h cells
abbrev pub joined : ℕ → ℕ → List ℕ → List ℕ → List ℕ → ℕ → ℕ → Bool → Links
joined w h blocked p k x y diagonal = joined_to w h blocked x y (around diagonal) (record { parent = p; rank = k })

pub record Joined : Type 0 where
  -- the left neighbour first (0 ∷ 0 ∷ 0)
  pub right_first : (joined 3 1 (0 ∷ 0 ∷ 0 ∷ []) (0 ∷ 1 ∷ 2 ∷ []) (1 ∷ 0 ∷ 1 ∷ []) 1 0 true).parent ≡ 2 ∷ 2 ∷ 2 ∷ []
  -- the diagonal neighbour with diagonals off
  pub four_joined : (joined 2 2 (0 ∷ 0 ∷ 0 ∷ 0 ∷ []) (0 ∷ 1 ∷ 2 ∷ 3 ∷ []) (0 ∷ 0 ∷ 0 ∷ 0 ∷ []) 0 0 false).parent ≡ 0 ∷ 0 ∷ 0 ∷ 3 ∷ []
  -- a blocked neighbour
  pub blocked_apart : (joined 2 1 (0 ∷ 1 ∷ []) (0 ∷ 1 ∷ []) (0 ∷ 0 ∷ []) 0 0 true).parent ≡ 0 ∷ 1 ∷ []

-- room for the tables of n cells, with anything in it
abbrev pub room : ℕ → Tables
room n = record { blocked = replicate n 7; masks = replicate n 7; forced = replicate n 7; parent = replicate n 7; rank = replicate n 7; dirty = true }

-- a new grid of 1 by 1, its cell blocked; a new grid of 1 by 3 whose last cell is freed again
abbrev pub shut : Tables
shut = edit_of 1 1 true (new_of 1 1 (room 1)) 0 0 true

abbrev pub freed : Tables
freed = edit_of 1 3 true (new_of 1 3 (room 3)) 0 2 false

-- 3 by 1 `.#.`, rebuilt; and its middle blocked again
abbrev pub gap : Tables
gap = rebuild_of 3 1 true (edit_of 3 1 true (new_of 3 1 (room 3)) 1 0 true)

abbrev pub again : Tables
again = edit_of 3 1 true gap 1 0 true

-- 2 by 2, its first cell blocked, rebuilt with diagonals off
abbrev pub corner : Tables
corner = rebuild_of 2 2 false (record { blocked = 1 ∷ 0 ∷ 0 ∷ 0 ∷ []; masks = []; forced = []; parent = replicate 4 7; rank = replicate 4 7; dirty = true })

-- new, edits, rebuilds and updates
pub record Changes : Type 0 where
  -- a new grid that is dirty, or of one component
  pub new_clean : (new_of 2 1 (room 2)).dirty ≡ false
  pub new_singles : (new_of 2 1 (room 2)).parent ≡ 0 ∷ 1 ∷ []
  -- an edit that changes nothing, or marks nothing
  pub blocks : shut.blocked ≡ 1 ∷ []
  pub marks : shut.dirty ≡ true
  -- blocked told as free (4)
  pub blocks_masks : (edit_of 2 1 true (new_of 2 1 (room 2)) 1 0 true).masks ≡ 0 ∷ 64 ∷ []
  -- joins at another cell: at (0,0) they give 0 ∷ 0 ∷ 2
  pub joins_there : freed.parent ≡ 0 ∷ 2 ∷ 2 ∷ []
  -- a rebuild that joins through a blocked cell, or leaves the mark
  pub gap_apart : gap.parent ≡ 0 ∷ 1 ∷ 2 ∷ []
  pub gap_clean : gap.dirty ≡ false
  -- a repeated "blocked" ignored: it joins, so that the ends share a component, and stays clean
  pub repeat_joins : again.parent ≡ 1 ∷ 1 ∷ 1 ∷ []
  pub repeat_clean : again.dirty ≡ false
  -- a rebuild by rows, whose component is 1
  pub column_order : corner.parent ≡ 0 ∷ 2 ∷ 2 ∷ 2 ∷ []
  -- an update that rebuilds a clean grid, or not a dirty one
  pub update_clean : (update_of 2 1 true (new_of 2 1 (room 2))).parent ≡ 0 ∷ 1 ∷ []
  pub update_dirty : (update_of 1 1 true shut).dirty ≡ false

-- the questions, over parents: singletons, but for one. Cell 2 is outside a grid of 2 by 1
pub record Asked : Type 0 where
  -- yes for all, the start asked of itself
  pub apart : reachable_of 2 (0 ∷ 1 ∷ []) 0 1 ≡ false
  -- no for all
  pub together : reachable_of 2 (0 ∷ 0 ∷ []) 0 1 ≡ true
  -- the last of eight neighbours left out, a diagonal one taken with diagonals off
  pub eighth : near_of 2 2 true (0 ∷ 1 ∷ 2 ∷ 3 ∷ []) 0 3 ≡ true
  pub not_of_four : near_of 2 2 false (0 ∷ 1 ∷ 2 ∷ 3 ∷ []) 0 3 ≡ false
  -- near taken for not near
  pub inside_no : neighbours_unreachable_of 2 1 true (0 ∷ 1 ∷ []) 0 1 ≡ false
  -- other answers than document 01's where the goal is outside, or the start: cell 2 read as a cell would give the other answer each time
  pub outside_no : (reachable_of 2 (0 ∷ 0 ∷ []) 0 2 ≡ false) × (reachable_of 2 (0 ∷ 0 ∷ []) 2 0 ≡ false)
  pub outside_near : (neighbours_reachable_of 2 1 false (0 ∷ 1 ∷ []) 1 2 ≡ true) × (neighbours_reachable_of 2 1 false (0 ∷ 1 ∷ []) 2 0 ≡ true)
  pub outside_far : (neighbours_unreachable_of 2 1 true (0 ∷ 0 ∷ []) 0 2 ≡ true) × (neighbours_unreachable_of 2 1 true (0 ∷ 0 ∷ []) 2 0 ≡ true)

-- a grid of 2 by 1: singletons, with bytes that tell its tables apart; the same not dirty; one of 1 by 2 whose second row has a rank of 201; and one of 0 by 1
abbrev pub pair : Grid
pair = record { width = 2; height = 1; dirty = true; blocked = 0 ∷ 0 ∷ []; neighbours = 255 ∷ 64 ∷ []; forced = 9 ∷ 8 ∷ []; parent = 0 ∷ 1 ∷ []; rank = 0 ∷ 0 ∷ [] }

abbrev pub clean : Grid
clean = record { width = 2; height = 1; dirty = false; blocked = 0 ∷ 0 ∷ []; neighbours = 255 ∷ 64 ∷ []; forced = 9 ∷ 8 ∷ []; parent = 0 ∷ 1 ∷ []; rank = 0 ∷ 0 ∷ [] }

abbrev pub broken : Grid
broken = record { width = 1; height = 2; dirty = false; blocked = 0 ∷ 0 ∷ []; neighbours = 0 ∷ 0 ∷ []; forced = 0 ∷ 0 ∷ []; parent = 0 ∷ 1 ∷ []; rank = 0 ∷ 201 ∷ [] }

abbrev pub thin : Grid
thin = record { width = 0; height = 1; dirty = false; blocked = []; neighbours = []; forced = []; parent = []; rank = [] }

abbrev pub at : ℕ → ℕ → Point
at x y = record { x = pos x; y = pos y }

-- the public calls on a grid
pub record Grids : Type 0 where
  -- no refusal, or a grid of 1 by 2 with it
  pub size_refused : (new_outcome 65 1).outcome ≡ Err Size
  pub size_1 : ((new_outcome 65 1).grid.width ≡ 1) × ((new_outcome 65 1).grid.height ≡ 1)
  -- one row tested for all, or the sides untested
  pub second_row : legal_of broken ≡ false
  pub sides_tested : legal_of thin ≡ false
  -- a refusal that changes the grid: STATE and POINT hand it back
  pub edit_refused : (set_outcome broken true (at 0 0) true ≡ record { outcome = Err State; grid = broken }) × (set_outcome pair true (at 2 0) true ≡ record { outcome = Err (BadPoint (at 2 0)); grid = pair })
  pub rebuild_refused : (rebuild_outcome broken true ≡ record { outcome = Err State; grid = broken }) × (update_outcome broken true ≡ record { outcome = Err State; grid = broken })
  -- the mark left
  pub mark_cleared : ((rebuild_outcome pair true).grid.dirty ≡ false) × ((update_outcome pair true).grid.dirty ≡ false)
  -- a clean grid rebuilt by an update (0 ∷ 0)
  pub clean_kept : update_outcome clean true ≡ record { outcome = Ok tt; grid = clean }
  -- the component of cell 0
  pub component_there : component_at pair (at 1 0) ≡ Ok 1
  -- neighbours for forced, and the other way round
  pub forced_read : forced_mask_at pair (at 1 0) ≡ Ok 8
  pub neighbours_read : neighbour_mask_at pair (at 1 0) ≡ Ok 64
  -- the setting unread
  pub setting_read_lem : (pruned_mask_at pair true (at 0 0) 2 ≡ Ok 4) × (pruned_mask_at pair false (at 0 0) 2 ≡ Ok 21)
  -- yes for no, and no for yes
  pub no_said : reachable_from pair (at 0 0) (at 1 0) ≡ Ok false
  pub yes_said : unreachable_from pair (at 0 0) (at 1 0) ≡ Ok true
  -- the neighbour questions' answers turned round, and the goal asked in place of its neighbours: (0,0) is beside (1,0), and not beside itself
  pub near_said : (neighbours_reachable_from pair true (at 0 0) (at 1 0) ≡ Ok true) × (neighbours_reachable_from pair true (at 0 0) (at 0 0) ≡ Ok false)
  pub far_said : (neighbours_unreachable_from pair true (at 0 0) (at 1 0) ≡ Ok false) × (neighbours_unreachable_from pair true (at 0 0) (at 0 0) ≡ Ok true)
  -- other answers than document 01's where the goal is outside, or the start: reachable no, the others yes; a point outside read as a cell would give the other answer
  pub goal_outside :
      (reachable_from pair (at 0 0) (at 2 0) ≡ Ok false) × (unreachable_from pair (at 0 0) (at 2 0) ≡ Ok true)
      × (neighbours_reachable_from pair false (at 1 0) (at 2 0) ≡ Ok true) × (neighbours_unreachable_from pair false (at 0 0) (at 2 0) ≡ Ok true)
  pub start_outside :
      (reachable_from pair (at 0 1) (at 0 0) ≡ Ok false) × (unreachable_from pair (at 0 1) (at 0 0) ≡ Ok true)
      × (neighbours_reachable_from pair false (at 0 1) (at 0 0) ≡ Ok true) × (neighbours_unreachable_from pair false (at 0 1) (at 1 0) ≡ Ok true)

-- the moves of demand 3's walks
pub record Moves : Type 0 where
  -- a step of two columns
  pub far : Step true 0 0 2 0 → ⊥
  -- a slanted step with diagonals off
  pub slanted : Step false 0 0 1 1 → ⊥

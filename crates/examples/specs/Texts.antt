-- Lines, map texts, paths, route checks, what is printed, and the numbers for C and Rust: what the definitions that the contracts cite give at small inputs.
-- Assumes nothing: these are statements. Each rules out the wrong answer that its line names.
use Rattle.std.specs.Prelude.{◌≡◌, Some, Ok, Err, Bool, true, false, List, [], ◌∷◌, ◌++◌, ℕ, ◌+◌, ◌*◌, ◌%◌, ℤ, pos, negsuc, length, set, None, Result}
use Rattle.std.specs.Float.{nan}
use Rattle.std.proofs.lemmas.List.Edits.{sets}
use Rattle.points.specs.declared.Point.{Point}
use Rattle.points.specs.declared.Refusal.{Refusal}
use Rattle.points.specs.declared.Refusal.TheVariants as refusal
use Rattle.costs.specs.Scale.{one, scaled_of}
use Rattle.masks.specs.Masks.{pruned_in}
use Rattle.grid.specs.Grids.{legal_of}
use Rattle.grid.specs.declared.Grid.{Grid}
use Rattle.text.specs.Grammar.{number_of, coord_of, pair_of}
use Rattle.lines.specs.Lines.{starts_with, number_line, point_line}
use Rattle.printing.specs.Render.{digits_of, coord_text, number_text, point_text}
use Rattle.rows.specs.Rows.{bad_line, rows_of, cells_of}
use Rattle.maps.specs.Maps.{width_word, flag_line, diagonal_word, head_of, with_head, map_of}
use Rattle.maps.specs.declared.Header.{Header}
use Rattle.map_printing.specs.Shown.{map_text}
use Rattle.pairs.specs.Pairs.{point_at, first_bad}
use Rattle.paths.specs.Walks.{path_of, path_answer, path_kept}
use Rattle.legs.specs.Legs.{first_bent_of}
use Rattle.checks.specs.declared.Checked.{Checked}
use Rattle.checks.specs.Checks.{judged, check_in}
use Rattle.answers.specs.Answers.{answer_text, bad_text}
use Rattle.floors.specs.Floors.{read_of, shown_of, put_of}
use Rattle.router.specs.Route.{settings_for, checked_text, route_text}
use Rattle.headings.specs.Headings.{direction_of}
use Rattle.packing.specs.Packing.{flag_of, point_of, heading_packed, measure_packed, refused_as}
use Rattle.replies.specs.Replies.{value_reply, written_reply}
use Rattle.boundary.specs.Lent.{ground_ok}
use Rattle.boundary.specs.Texts.{printed_of}

-- the point (x,y)
abbrev pub at : ℕ → ℕ → Point
at x y = record { x = pos x; y = pos y }

-- lines that are read and written
pub record Lines : Type 0 where
  -- a plus for a minus: -7 is written `-7`
  pub minus : coord_text (negsuc 6) ≡ 45 ∷ 55 ∷ []
  -- `+7` or `-0` taken, or a minus lost: -7 is read
  pub signs : (coord_of (43 ∷ 55 ∷ []) ≡ None) × (coord_of (45 ∷ 48 ∷ []) ≡ None) × (coord_of (45 ∷ 55 ∷ []) ≡ Some (negsuc 6, 2))
  -- a wrong count of bytes: `0` is one byte, `64` two
  pub count : (number_of 1024 (48 ∷ 10 ∷ []) ≡ Some (0, 1)) × (number_of 1024 (54 ∷ 52 ∷ 10 ∷ []) ≡ Some (64, 2))
  -- another separator than a comma taken, or the second coordinate lost: `1,2` is three bytes, `1;2` is no point
  pub pairs : (pair_of (49 ∷ 44 ∷ 50 ∷ []) ≡ Some (at 1 2, 3)) × (pair_of (49 ∷ 59 ∷ 50 ∷ []) ≡ None)
  -- a word that is cut off taken, or another word
  pub words : (starts_with width_word (119 ∷ 105 ∷ 100 ∷ []) ≡ false) × (starts_with (97 ∷ []) (98 ∷ []) ≡ false) × (starts_with (97 ∷ []) (97 ∷ 98 ∷ []) ≡ true)
  -- a point's line with no newline taken: `=1,2` is five bytes with it
  pub points : (point_line (61 ∷ []) (61 ∷ 49 ∷ 44 ∷ 50 ∷ []) ≡ None) × (point_line (61 ∷ []) (61 ∷ 49 ∷ 44 ∷ 50 ∷ 10 ∷ []) ≡ Some (at 1 2, 5))
  -- a word written short or elsewhere: `ab` at place 1, the rest kept
  pub word_put : sets {A = ℕ} (9 ∷ 9 ∷ 9 ∷ 9 ∷ []) 1 (97 ∷ 98 ∷ []) ≡ 9 ∷ 97 ∷ 98 ∷ 9 ∷ []
  -- the newline or the word left out: `=64` and `=-7,2`, each with a newline
  pub put : (number_text (61 ∷ []) 64 ≡ 61 ∷ 54 ∷ 52 ∷ 10 ∷ []) × (point_text (61 ∷ []) (record { x = negsuc 6; y = pos 2 }) ≡ 61 ∷ 45 ∷ 55 ∷ 44 ∷ 50 ∷ 10 ∷ [])
  -- a leading zero taken: `width=03`
  pub leading_zero : number_line width_word 1024 (119 ∷ 105 ∷ 100 ∷ 116 ∷ 104 ∷ 61 ∷ 48 ∷ 51 ∷ 10 ∷ []) ≡ None
  -- a line with no newline taken: `width=3` is eight bytes with it
  pub newline : (number_line width_word 1024 (119 ∷ 105 ∷ 100 ∷ 116 ∷ 104 ∷ 61 ∷ 51 ∷ []) ≡ None) × (number_line width_word 1024 (119 ∷ 105 ∷ 100 ∷ 116 ∷ 104 ∷ 61 ∷ 51 ∷ 10 ∷ []) ≡ Some (3, 8))
  -- a coordinate out of range taken, or one in range refused
  pub range : (coord_of (49 ∷ 48 ∷ 50 ∷ 51 ∷ []) ≡ Some (pos 1023, 4)) × (coord_of (49 ∷ 48 ∷ 50 ∷ 52 ∷ []) ≡ None) × (coord_of (45 ∷ 49 ∷ 48 ∷ 50 ∷ 52 ∷ []) ≡ Some (negsuc 1023, 5)) × (coord_of (45 ∷ 49 ∷ 48 ∷ 50 ∷ 53 ∷ []) ≡ None)
  -- digits turned round or lost
  pub digits : (digits_of 65534 ≡ 54 ∷ 53 ∷ 53 ∷ 51 ∷ 52 ∷ []) × (digits_of 0 ≡ 48 ∷ [])

-- document 01's map, with the byte d for its diagonal flag, and any rows
abbrev pub head_on : ℕ → List ℕ → List ℕ
head_on d rest =
    (119 ∷ 105 ∷ 100 ∷ 116 ∷ 104 ∷ 61 ∷ 51 ∷ 10 ∷ [])
    ++ ((104 ∷ 101 ∷ 105 ∷ 103 ∷ 104 ∷ 116 ∷ 61 ∷ 49 ∷ 10 ∷ [])
    ++ ((100 ∷ 105 ∷ 97 ∷ 103 ∷ 111 ∷ 110 ∷ 97 ∷ 108 ∷ 61 ∷ [])
    ++ (d
    ∷ (10 ∷ 115 ∷ 116 ∷ 97 ∷ 114 ∷ 116 ∷ 61 ∷ 48 ∷ 44 ∷ 48 ∷ 10 ∷ [])
    ++ ((103 ∷ 111 ∷ 97 ∷ 108 ∷ 61 ∷ 50 ∷ 44 ∷ 48 ∷ 10 ∷ [])
    ++ rest))))

-- `row=...`, `row=.#.` and `row=.x.`
abbrev pub clear_row : List ℕ
clear_row = 114 ∷ 111 ∷ 119 ∷ 61 ∷ 46 ∷ 46 ∷ 46 ∷ 10 ∷ []

abbrev pub wall : List ℕ
wall = 114 ∷ 111 ∷ 119 ∷ 61 ∷ 46 ∷ 35 ∷ 46 ∷ 10 ∷ []

abbrev pub bad_row : List ℕ
bad_row = 114 ∷ 111 ∷ 119 ∷ 61 ∷ 46 ∷ 120 ∷ 46 ∷ 10 ∷ []

-- what the lines before the rows say, with `diagonal=1`
abbrev pub header : Header
header = record { width = 3; height = 1; diagonal = true; start = at 0 0; goal = at 2 0 }

-- map texts that are read and written
pub record Maps : Type 0 where
  -- another map than the text says
  pub whole : map_of (head_on 49 wall) ≡ Ok header
  -- `diagonal=2` taken: its line is 3
  pub diagonal : (flag_line diagonal_word (100 ∷ 105 ∷ 97 ∷ 103 ∷ 111 ∷ 110 ∷ 97 ∷ 108 ∷ 61 ∷ 50 ∷ 10 ∷ []) ≡ None) × (map_of (head_on 50 wall) ≡ Err (bad_line 3))
  -- a free cell read as blocked
  pub free : cells_of 1 3 wall ≡ 0 ∷ 1 ∷ 0 ∷ []
  -- text after the last row taken: its line is 7
  pub more : map_of (head_on 49 (wall ++ (10 ∷ []))) ≡ Err (bad_line 7)
  -- the wrong line of a bad row: the first row is line 6, the second line 7
  pub line : (map_of (head_on 49 bad_row) ≡ Err (bad_line 6)) × (rows_of 2 3 6 (wall ++ bad_row) ≡ Err (bad_line 7))
  -- 8,192 bytes refused, or 8,193 taken: the line is 0 if too long
  pub most : ((t : List ℕ) → length t ≡ 8192 → map_of t ≡ with_head t (head_of t)) × ((t : List ℕ) → length t ≡ 8193 → map_of t ≡ Err (bad_line 0))
  -- another letter, or another order of lines
  pub glyph : map_text header (0 ∷ 1 ∷ 0 ∷ []) ≡ head_on 49 wall
  -- the setting lost: `diagonal=0`
  pub setting : (read_of (head_on 48 wall)).diagonal ≡ false
  -- a refused text with another grid than a new one of 1 by 1, or with another line: the empty text lacks line 1
  pub nothing : ((read_of []).outcome ≡ Err (refusal.Map 1)) × ((read_of []).grid.width ≡ 1) × ((read_of []).grid.height ≡ 1) × ((read_of []).grid.dirty ≡ false)
  -- a clean mark: the components of a map that was read are yet to be rebuilt
  pub dirty : (read_of (head_on 49 wall)).grid.dirty ≡ true
  -- written where the longest text does not fit: 8,191 bytes are ROOM, 8,192 are not
  pub room : ((g : Grid) → legal_of g ≡ true → put_of 8191 g true (at 0 0) (at 2 0) ≡ Err refusal.Room)
      × ((g : Grid) → legal_of g ≡ true → put_of 8192 g true (at 0 0) (at 2 0) ≡ Ok (length (shown_of g true (at 0 0) (at 2 0))))

-- from (2,0) to (0,1)
abbrev pub slope : List ℤ
slope = pos 2 ∷ pos 0 ∷ pos 0 ∷ pos 1 ∷ []

-- the route check on `.#.`
abbrev pub on_wall : List ℤ → Result Checked Refusal
on_wall l = check_in 3 1 (0 ∷ 1 ∷ 0 ∷ []) l

-- and on `.#.` over `...`
abbrev pub on_bench : List ℤ → Result Checked Refusal
on_bench l = check_in 3 2 (0 ∷ 1 ∷ 0 ∷ 0 ∷ 0 ∷ 0 ∷ []) l

-- clear or not, with no bent leg
abbrev pub none_bent : Bool → Result Checked Refusal
none_bent clear = Ok (judged clear None)

-- paths and route checks
pub record Walks : Type 0 where
  -- another point of a list, or its numbers exchanged
  pub read : point_at (pos 1 ∷ pos 2 ∷ pos 3 ∷ pos 4 ∷ []) 2 ≡ at 3 4
  -- the last point out of range blamed for the first
  pub first_blamed : first_bad (pos 0 ∷ pos 0 ∷ pos 1024 ∷ pos 0 ∷ pos 0 ∷ pos 1024 ∷ []) ≡ Some (at 1024 0)
  -- a point's numbers exchanged, or the rest of the list changed
  pub stored : set (set (pos 9 ∷ pos 9 ∷ pos 9 ∷ []) 1 (pos 3)) 2 (pos 4) ≡ pos 9 ∷ pos 3 ∷ pos 4 ∷ []
  -- a step away from the waypoint: the walk is by sign
  pub sign : path_of slope ≡ pos 2 ∷ pos 0 ∷ pos 1 ∷ pos 1 ∷ pos 0 ∷ pos 1 ∷ []
  -- room for one less: three points fit in room for three
  pub room : (path_answer slope 6 ≡ Ok 3) × (path_answer slope 5 ≡ Err refusal.Room)
  -- another place: the first pairs are written, the rest of the room is kept
  pub place : path_kept (Ok 1) (pos 2 ∷ pos 0 ∷ []) (pos 9 ∷ pos 8 ∷ pos 7 ∷ []) ≡ pos 2 ∷ pos 0 ∷ pos 7 ∷ []
  -- another refusal: an empty list and an odd one are LIST, then a point out of range is POINT, also where there is no room
  pub refused : (path_answer [] 0 ≡ Err refusal.List) × (path_answer (pos 1 ∷ []) 6 ≡ Err refusal.List)
      × (path_answer (pos 0 ∷ pos 1024 ∷ []) 0 ≡ Err (refusal.BadPoint (at 0 1024)))
  -- a blocked waypoint clear, or the first one looked at: to (1,0) it is not clear, from (1,0) it is
  pub clear : (on_wall (pos 0 ∷ pos 0 ∷ pos 1 ∷ pos 0 ∷ []) ≡ none_bent false) × (on_wall (pos 1 ∷ pos 0 ∷ pos 2 ∷ pos 0 ∷ []) ≡ none_bent true)
  -- the waypoints alone looked at: from (0,0) to (2,0) the way leads over (1,0)
  pub between : on_wall (pos 0 ∷ pos 0 ∷ pos 2 ∷ pos 0 ∷ []) ≡ none_bent false
  -- a repeated first point looked at, or not where the walk comes back to it: (1,0), (1,0) is clear, and (1,0), (2,0), (1,0) is not
  pub first : (on_wall (pos 1 ∷ pos 0 ∷ pos 1 ∷ pos 0 ∷ []) ≡ none_bent true) × (on_wall (pos 1 ∷ pos 0 ∷ pos 2 ∷ pos 0 ∷ pos 1 ∷ pos 0 ∷ []) ≡ none_bent false)
  -- a waypoint outside clear
  pub outside : on_wall (pos 0 ∷ pos 0 ∷ pos 3 ∷ pos 0 ∷ []) ≡ none_bent false
  -- a first point outside looked at, or what is walked outside after it not: from (-1,0) to (0,0) it is clear, from (-2,0) it is not
  pub within : (on_wall (negsuc 0 ∷ pos 0 ∷ pos 0 ∷ pos 0 ∷ []) ≡ none_bent true) × (on_wall (negsuc 1 ∷ pos 0 ∷ pos 0 ∷ pos 0 ∷ []) ≡ none_bent false)
  -- another walk of a bent leg: that from (0,0) to (2,1) goes over (1,1), and that from (2,1) to (0,0) over (1,0)
  pub bent : (on_bench (pos 0 ∷ pos 0 ∷ pos 2 ∷ pos 1 ∷ []) ≡ Ok (judged true (Some 1))) × (on_bench (pos 2 ∷ pos 1 ∷ pos 0 ∷ pos 0 ∷ []) ≡ Ok (judged false (Some 1)))
  -- legs counted from 0, equal points no leg or a bent one, the last bent leg for the first, or one named where there is none
  pub legs : (first_bent_of (pos 0 ∷ pos 0 ∷ pos 0 ∷ pos 0 ∷ pos 2 ∷ pos 1 ∷ pos 0 ∷ pos 0 ∷ []) ≡ Some 2) × (first_bent_of (pos 0 ∷ pos 0 ∷ pos 0 ∷ pos 0 ∷ []) ≡ None)
      × (first_bent_of (pos 0 ∷ pos 0 ∷ []) ≡ None) × (first_bent_of (pos 0 ∷ pos 0 ∷ pos 3 ∷ negsuc 2 ∷ pos 3 ∷ pos 5 ∷ []) ≡ None)
  -- the bend sought only up to the first blocked cell, or only where the list is clear: leg 1 is blocked at (1,0), and leg 2 is bent
  pub beyond : on_bench (pos 0 ∷ pos 0 ∷ pos 2 ∷ pos 0 ∷ pos 0 ∷ pos 1 ∷ []) ≡ Ok (judged false (Some 2))
  -- another refusal of the check
  pub unheard : (on_wall [] ≡ Err refusal.List) × (on_wall (pos 0 ∷ []) ≡ Err refusal.List)
      × (on_wall (pos 0 ∷ pos 1024 ∷ []) ≡ Err (refusal.BadPoint (at 0 1024)))

-- the waypoints of document 01's map with `row=...`
abbrev pub three : List ℤ
three = pos 0 ∷ pos 0 ∷ pos 1 ∷ pos 0 ∷ pos 2 ∷ pos 0 ∷ []

-- what `route` prints
pub record Prints : Type 0 where
  -- 13 for 12: a bad line gives `result=12` and its number
  pub bad_line : bad_text 3 ≡ 114 ∷ 101 ∷ 115 ∷ 117 ∷ 108 ∷ 116 ∷ 61 ∷ 49 ∷ 50 ∷ 10 ∷ 108 ∷ 105 ∷ 110 ∷ 101 ∷ 61 ∷ 51 ∷ 10 ∷ []
  -- result and pops mixed, or a route where there is none
  pub refused : answer_text 4 0 [] false ≡ 114 ∷ 101 ∷ 115 ∷ 117 ∷ 108 ∷ 116 ∷ 61 ∷ 52 ∷ 10 ∷ 112 ∷ 111 ∷ 112 ∷ 115 ∷ 61 ∷ 48 ∷ 10 ∷ 119 ∷ 97 ∷ 121 ∷ 112 ∷ 111 ∷ 105 ∷ 110 ∷ 116 ∷ 115 ∷ 61 ∷ 48 ∷ 10 ∷ 99 ∷ 108 ∷ 101 ∷ 97 ∷ 114 ∷ 61 ∷ 48 ∷ 10 ∷ []
  -- document 01's two maps from text to text: `row=...` is found with three pops and clear, `row=.#.` refused with 4
  pub routed : (route_text (head_on 49 clear_row) ≡ checked_text (none_bent true) 3 three) × (route_text (head_on 49 wall) ≡ answer_text 4 0 [] false)
  -- clear turned round, or a line for the bent leg: document 01's seven lines, and the fourth where the check says no and names leg 2
  pub clear : (checked_text (none_bent true) 3 three ≡ (114 ∷ 101 ∷ 115 ∷ 117 ∷ 108 ∷ 116 ∷ 61 ∷ 48 ∷ 10 ∷ 112 ∷ 111 ∷ 112 ∷ 115 ∷ 61 ∷ 51 ∷ 10 ∷ 119 ∷ 97 ∷ 121 ∷ 112 ∷ 111 ∷ 105 ∷ 110 ∷ 116 ∷ 115 ∷ 61 ∷ 51 ∷ 10 ∷ []) ++ ((99 ∷ 108 ∷ 101 ∷ 97 ∷ 114 ∷ 61 ∷ 49 ∷ 10 ∷ []) ++ (112 ∷ 111 ∷ 105 ∷ 110 ∷ 116 ∷ 61 ∷ 48 ∷ 44 ∷ 48 ∷ 10 ∷ 112 ∷ 111 ∷ 105 ∷ 110 ∷ 116 ∷ 61 ∷ 49 ∷ 44 ∷ 48 ∷ 10 ∷ 112 ∷ 111 ∷ 105 ∷ 110 ∷ 116 ∷ 61 ∷ 50 ∷ 44 ∷ 48 ∷ 10 ∷ [])))
      × (checked_text (Ok (judged false (Some 2))) 3 three ≡ (114 ∷ 101 ∷ 115 ∷ 117 ∷ 108 ∷ 116 ∷ 61 ∷ 48 ∷ 10 ∷ 112 ∷ 111 ∷ 112 ∷ 115 ∷ 61 ∷ 51 ∷ 10 ∷ 119 ∷ 97 ∷ 121 ∷ 112 ∷ 111 ∷ 105 ∷ 110 ∷ 116 ∷ 115 ∷ 61 ∷ 51 ∷ 10 ∷ []) ++ ((99 ∷ 108 ∷ 101 ∷ 97 ∷ 114 ∷ 61 ∷ 48 ∷ 10 ∷ []) ++ (112 ∷ 111 ∷ 105 ∷ 110 ∷ 116 ∷ 61 ∷ 48 ∷ 44 ∷ 48 ∷ 10 ∷ 112 ∷ 111 ∷ 105 ∷ 110 ∷ 116 ∷ 61 ∷ 49 ∷ 44 ∷ 48 ∷ 10 ∷ 112 ∷ 111 ∷ 105 ∷ 110 ∷ 116 ∷ 61 ∷ 50 ∷ 44 ∷ 48 ∷ 10 ∷ [])))
  -- the setting read into another field: other settings are a new grid's
  pub setting : ((settings_for false).diagonal ≡ false) × ((settings_for false).improved ≡ true)

-- the numbers for C and Rust
pub record Numbers : Type 0 where
  -- the wrong flag read: diagonals on, travel 0
  pub flag : pruned_in (flag_of 1) (0 % 8) 251 ≡ 3
  -- a point mixed: from (0,0) to (1,0) at factor 1
  pub point : measure_packed (scaled_of (flag_of 1) one (point_of (pos 0) (pos 0)) (point_of (pos 1) (pos 0))) (point_of (pos 0) (pos 0)) ≡ 70
  -- the wrong point blamed: POINT is 14, with 256 more for the first and 512 more for the second
  pub blamed : (measure_packed (scaled_of true one (at 1024 0) (at 0 0)) (at 1024 0) ≡ 4294967296 * 270) × (measure_packed (scaled_of true one (at 0 0) (at 1024 0)) (at 0 0) ≡ 4294967296 * 526)
  -- a point told of where none is to blame: SETTING, 3, and SAME, 11, come as their numbers alone
  pub unblamed : (measure_packed (scaled_of true nan (at 0 0) (at 1 0)) (at 0 0) ≡ 4294967296 * 3) × (heading_packed (direction_of (at 0 0) (at 0 0)) (at 0 0) ≡ 4294967296 * 11)
  -- another place of the direction, the bend or the steps in the number: from (0,0) to (3,3) and to (5,1) it is direction 3
  pub heading : (heading_packed (direction_of (at 0 0) (at 3 3)) (at 0 0) ≡ 16 * 3 + 3) × (heading_packed (direction_of (at 0 0) (at 5 1)) (at 0 0) ≡ 16 * 5 + 8 + 3)
  -- a short table taken: two cells and one place
  pub short : (ground_ok 2 1 (0 ∷ []) (0 ∷ 1 ∷ []) (0 ∷ 0 ∷ []) ≡ false) × (ground_ok 2 1 (0 ∷ 0 ∷ []) (0 ∷ 1 ∷ []) (0 ∷ 0 ∷ []) ≡ true)
  -- room that is just enough refused: 82,100 bytes
  pub room : ((t : List ℕ) → printed_of t 82100 ≡ length (route_text t)) × ((t : List ℕ) → printed_of t 82099 ≡ refused_as refusal.Room)
  -- another count of points
  pub points : written_reply (Ok 3) ≡ value_reply 3

pub record Texts : Type 0 where
  pub lines : Lines
  pub maps : Maps
  pub walks : Walks
  pub prints : Prints
  pub numbers : Numbers

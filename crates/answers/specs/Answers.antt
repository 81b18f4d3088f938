-- What `route` prints: refusal number (0 found), pops, number of waypoints, route check (1 clear, 0 not clear or no route), then the waypoints;
-- of a bad text `result=12` and `line=n`. Assumes nothing: these are definitions.
use Rattle.std.specs.Prelude.{Bool, cond, List, [], ◌∷◌, ◌++◌, ℕ, ◌/◌, ℤ, length}
use Rattle.printing.specs.Render.{number_text, point_text}
use Rattle.pairs.specs.Pairs.{point}

-- "result=", "pops=", "waypoints=", "clear=", "point=", "line="
abbrev pub result_word : List ℕ
result_word = 114 ∷ 101 ∷ 115 ∷ 117 ∷ 108 ∷ 116 ∷ 61 ∷ []

abbrev pub pops_word : List ℕ
pops_word = 112 ∷ 111 ∷ 112 ∷ 115 ∷ 61 ∷ []

abbrev pub waypoints_word : List ℕ
waypoints_word = 119 ∷ 97 ∷ 121 ∷ 112 ∷ 111 ∷ 105 ∷ 110 ∷ 116 ∷ 115 ∷ 61 ∷ []

abbrev pub clear_word : List ℕ
clear_word = 99 ∷ 108 ∷ 101 ∷ 97 ∷ 114 ∷ 61 ∷ []

abbrev pub point_word : List ℕ
point_word = 112 ∷ 111 ∷ 105 ∷ 110 ∷ 116 ∷ 61 ∷ []

abbrev pub line_word : List ℕ
line_word = 108 ∷ 105 ∷ 110 ∷ 101 ∷ 61 ∷ []

-- a line for each point of a list of numbers, x and y in turn
unfoldable pub points_text : List ℤ → List ℕ
points_text [] = []
points_text (x ∷ []) = []
points_text (x ∷ y ∷ l) = point_text point_word (point x y) ++ points_text l

unfoldable pub answer_text : ℕ → ℕ → List ℤ → Bool → List ℕ
answer_text number pops l clear =
    number_text result_word number
    ++ (number_text pops_word pops
    ++ (number_text waypoints_word (length l / 2)
    ++ (number_text clear_word (cond clear 1 0)
    ++ points_text l)))

unfoldable pub bad_text : ℕ → List ℕ
bad_text line = number_text result_word 12 ++ number_text line_word line

-- The map text: lines `width=`, `height=`, `diagonal=` (0 or 1), `start=x,y`, `goal=x,y`, then `height` lines `row=` of `width` cells, and nothing after them.
-- A text is the list of its bytes. Assumes nothing: these are definitions.
use Rattle.std.specs.Prelude.{◌≡◌, None, Some, Result, Ok, Err, MatchResult, Bool, cond, ◌&&◌, List, [], ◌∷◌, ℕ, ◌+◌, T, leb, ltb, eqb, length, drop}
use Rattle.std.proofs.lemmas.List.Edits.{sets}
use Rattle.std.specs.Borrow.{Bor}
use Rattle.points.specs.Plane.{legal}
use Rattle.points.specs.declared.Point.{Point}
use Rattle.cells.specs.Cells.{most_side}
use Rattle.lines.specs.Lines.{number_line, point_line}
use Rattle.text.specs.Grammar.{Num, Pair}
use Rattle.rows.specs.Rows.{bad_line, Rows, rows_of, cells_of}
use Rattle.rows.specs.declared.BadLine.{BadLine}
use Rattle.maps.specs.declared.Header.{Header}

-- "width=", "height=", "diagonal=", "start=", "goal="
abbrev pub width_word : List ℕ
width_word = 119 ∷ 105 ∷ 100 ∷ 116 ∷ 104 ∷ 61 ∷ []

abbrev pub height_word : List ℕ
height_word = 104 ∷ 101 ∷ 105 ∷ 103 ∷ 104 ∷ 116 ∷ 61 ∷ []

abbrev pub diagonal_word : List ℕ
diagonal_word = 100 ∷ 105 ∷ 97 ∷ 103 ∷ 111 ∷ 110 ∷ 97 ∷ 108 ∷ 61 ∷ []

abbrev pub start_word : List ℕ
start_word = 115 ∷ 116 ∷ 97 ∷ 114 ∷ 116 ∷ 61 ∷ []

abbrev pub goal_word : List ℕ
goal_word = 103 ∷ 111 ∷ 97 ∷ 108 ∷ 61 ∷ []

-- a side from 1 to the longest
abbrev pub side_ok : ℕ → Bool
side_ok n = leb 1 n && leb n most_side

-- a size outside its range makes its line bad
abbrev pub side_of : Num → Num
side_of (Some (v, n)) = cond (side_ok v) (Some (v, n)) None
side_of None = None

unfoldable pub size_line : List ℕ → List ℕ → Num
size_line word l = side_of (number_line word 1024 l)

-- 0 or 1
abbrev pub flag_of : Num → Num
flag_of (Some (v, n)) = cond (leb v 1) (Some (v, n)) None
flag_of None = None

unfoldable pub flag_line : List ℕ → List ℕ → Num
flag_line word l = flag_of (number_line word 9 l)

-- a header that was read, with the count of its bytes, or the first bad line
abbrev pub Head : Type 0
Head = Result (Header × ℕ) BadLine

-- a map that was read, or the first bad line
abbrev pub Reading : Type 0
Reading = Result Header BadLine

-- a reader answers what the text l begins with: the header, and the text after its bytes, or the first bad line
abbrev pub ReadsHead : List ℕ → Head → Result (Header × Bor (List ℕ)) BadLine → Type 0
ReadsHead l form answer = MatchResult answer (λ p. (n : ℕ) × (form ≡ Ok (p.0, n)) × (p.1.now ≡ drop n l)) (λ e. form ≡ Err e)

-- the five lines before the rows, each after the ones before it; k counts the bytes read
abbrev pub after_goal : ℕ → ℕ → ℕ → Point → ℕ → Pair → Head
after_goal w h d start k (Some (goal, n)) = Ok (record { width = w; height = h; diagonal = eqb d 1; start = start; goal = goal }, k + n)
after_goal w h d start k None = Err (bad_line 5)

abbrev pub after_start : List ℕ → ℕ → ℕ → ℕ → ℕ → Pair → Head
after_start t w h d k (Some (start, n)) = after_goal w h d start (k + n) (point_line goal_word (drop (k + n) t))
after_start t w h d k None = Err (bad_line 4)

abbrev pub after_diagonal : List ℕ → ℕ → ℕ → ℕ → Num → Head
after_diagonal t w h k (Some (d, n)) = after_start t w h d (k + n) (point_line start_word (drop (k + n) t))
after_diagonal t w h k None = Err (bad_line 3)

abbrev pub after_height : List ℕ → ℕ → ℕ → Num → Head
after_height t w k (Some (h, n)) = after_diagonal t w h (k + n) (flag_line diagonal_word (drop (k + n) t))
after_height t w k None = Err (bad_line 2)

abbrev pub after_width : List ℕ → Num → Head
after_width t (Some (w, n)) = after_height t w n (size_line height_word (drop n t))
after_width t None = Err (bad_line 1)

unfoldable pub head_of : List ℕ → Head
head_of t = after_width t (size_line width_word t)

-- sides and points in range
pub record Fair (m : Header) : Type 0 where
  pub wide : T (side_ok m.width)
  pub high : T (side_ok m.height)
  pub start : T (legal m.start)
  pub goal : T (legal m.goal)

abbrev pub with_rows : Header → Rows → Reading
with_rows m (Ok u) = Ok m
with_rows m (Err e) = Err e

abbrev pub with_head : List ℕ → Head → Reading
with_head t (Ok (m, used)) = with_rows m (rows_of m.height m.width 6 (drop used t))
with_head t (Err e) = Err e

-- the most bytes of a map text
abbrev pub most_text : ℕ
most_text = 8192

-- the map of a text, or the first bad or missing line from 1, or 0 if too long
unfoldable pub map_of : List ℕ → Reading
map_of t = cond (ltb most_text (length t)) (Err (bad_line 0)) (with_head t (head_of t))

-- the table with the text's cells in it
abbrev pub into_table : List ℕ → Head → List ℕ → List ℕ
into_table t (Ok (m, used)) table = sets table 0 (cells_of m.height m.width (drop used t))
into_table t (Err e) table = table

unfoldable pub cells_into : List ℕ → List ℕ → List ℕ
cells_into t table = cond (ltb most_text (length t)) table (into_table t (head_of t) table)

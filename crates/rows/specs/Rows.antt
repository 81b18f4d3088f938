-- The rows of a map text: lines `row=` of `.` (free) and `#`, and nothing after them. A text is the list of its bytes. Assumes nothing: these are definitions.
use Rattle.std.specs.Prelude.{◌≡◌, Option, MatchOption, Result, Ok, Err, length, take, Bool, true, false, cond, ◌&&◌, ◌||◌, List, [], ◌∷◌, ◌++◌, ℕ, zero, suc, ◌+◌, eqb, drop}
use Rattle.std.specs.Borrow.{Bor}
use Rattle.lines.specs.Lines.{starts_with}
use Rattle.rows.specs.declared.BadLine.{BadLine}

-- "row="
abbrev pub row_word : List ℕ
row_word = 114 ∷ 111 ∷ 119 ∷ 61 ∷ []

-- `.` (free) or `#`
abbrev pub is_cell : ℕ → Bool
is_cell b = eqb b 46 || eqb b 35

-- w cells and a newline
unfoldable pub cells_then : ℕ → List ℕ → Bool
cells_then zero [] = false
cells_then zero (b ∷ l) = eqb b 10
cells_then (suc w) [] = false
cells_then (suc w) (b ∷ l) = is_cell b && cells_then w l

-- a line `row=` of w cells
unfoldable pub row_ok : ℕ → List ℕ → Bool
row_ok w l = starts_with row_word l && cells_then w (drop 4 l)

-- a reader answers the w cells of the row that the text l begins with, and the text after the row
abbrev pub ReadsRow : ℕ → List ℕ → Option (Bor (List ℕ) × Bor (List ℕ)) → Type 0
ReadsRow w l answer = MatchOption answer
    (row_ok w l ≡ false)
    (λ p. (row_ok w l ≡ true) × (p.0.now ≡ take w (drop 4 l)) × (length p.0.now ≡ w) × (p.1.now ≡ drop (w + 5) l) × (length p.1.now + (w + 5) ≡ length l))

-- a line is the first bad one
abbrev pub bad_line : ℕ → BadLine
bad_line n = record { line = n }

-- whether the rows are all good, or the first bad line
abbrev pub Rows : Type 0
Rows = Result (Unit {0}) BadLine

-- h rows of w cells, the first of them in the line of that number, and nothing after them
unfoldable pub rows_of : ℕ → ℕ → ℕ → List ℕ → Rows
rows_of zero w line [] = Ok tt
rows_of zero w line (b ∷ l) = Err (bad_line line)
rows_of (suc h) w line l = cond (row_ok w l) (rows_of h w (line + 1) (drop (w + 5) l)) (Err (bad_line line))

-- what a table holds of a cell: 1 where it is blocked
abbrev pub mark_of : ℕ → ℕ
mark_of b = cond (eqb b 35) 1 0

-- the first w of the text, as a table holds them
unfoldable pub marks : ℕ → List ℕ → List ℕ
marks zero l = []
marks (suc w) [] = []
marks (suc w) (b ∷ l) = mark_of b ∷ marks w l

-- the cells of h rows, up to the first bad one
unfoldable pub cells_of : ℕ → ℕ → List ℕ → List ℕ
cells_of zero w l = []
cells_of (suc h) w l = cond (row_ok w l) (marks w (drop 4 l) ++ cells_of h w (drop (w + 5) l)) []

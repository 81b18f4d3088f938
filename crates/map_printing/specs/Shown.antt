-- The text of a map: its sides, the flag, its two points, and its cells as a table holds them, row by row. Assumes nothing: these are definitions.
use Rattle.std.specs.Prelude.{cond, List, [], ◌∷◌, ◌++◌, ℕ, zero, suc, eqb, drop}
use Rattle.printing.specs.Render.{number_text, point_text}
use Rattle.rows.specs.Rows.{row_word}
use Rattle.maps.specs.Maps.{width_word, height_word, diagonal_word, start_word, goal_word}
use Rattle.maps.specs.declared.Header.{Header}

-- `.` where the table has 0, else `#`
abbrev pub glyph_of : ℕ → ℕ
glyph_of b = cond (eqb b 0) 46 35

-- the first w cells of a table
unfoldable pub shown : ℕ → List ℕ → List ℕ
shown zero l = []
shown (suc w) [] = []
shown (suc w) (b ∷ l) = glyph_of b ∷ shown w l

-- a line `row=` of w cells
unfoldable pub row_text : ℕ → List ℕ → List ℕ
row_text w l = row_word ++ (shown w l ++ (10 ∷ []))

-- h rows of w cells
unfoldable pub rows_text : ℕ → ℕ → List ℕ → List ℕ
rows_text zero w l = []
rows_text (suc h) w l = row_text w l ++ rows_text h w (drop w l)

-- the text of a map
unfoldable pub map_text : Header → List ℕ → List ℕ
map_text m cells =
    number_text width_word m.width
    ++ (number_text height_word m.height
    ++ (number_text diagonal_word (cond m.diagonal 1 0)
    ++ (point_text start_word m.start
    ++ (point_text goal_word m.goal
    ++ rows_text m.height m.width cells))))

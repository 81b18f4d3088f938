-- What is wrong with a map text at the line that its reader refuses. A text is the list of its bytes. Assumes nothing: these are definitions.
use Rattle.std.specs.Prelude.{None, Some, cond, List, [], ◌∷◌, ℕ, ◌+◌, ◌-◌, leb, ltb, eqb, drop}
use Rattle.text.specs.Grammar.{Num}
use Rattle.lines.specs.Lines.{starts_with, number_line}
use Rattle.rows.specs.Rows.{row_word, is_cell}
use Rattle.maps.specs.Maps.{width_word, height_word}
use Rattle.faults.specs.declared.Fault.{Fault}
use Rattle.faults.specs.declared.Fault.TheVariants.{TooLong, ByteOrderMark, Missing, CarriageReturn, NoNewline, Form, Letter, Short, Long, TooMany}

-- a newline is one
abbrev pub newlines : ℕ → ℕ
newlines b = cond (eqb b 10) 1 0

-- the text from a line on, the lines counted from 1: nothing where it has fewer
unfoldable pub from_line : ℕ → List ℕ → List ℕ
from_line n [] = []
from_line n (b ∷ t) = cond (ltb 1 n) (from_line (n - newlines b) t) (b ∷ t)

-- the number that a line says after its word, 0 where it says none
abbrev pub number_in : Num → ℕ
number_in (Some (v, n)) = v
number_in None = 0

unfoldable pub said_in : List ℕ → List ℕ → ℕ
said_in word l = number_in (number_line word 1024 l)

-- a carriage return in the line with which a text begins, no newline at its end, or else the other fault
unfoldable pub line_fault : Fault → List ℕ → Fault
line_fault other [] = NoNewline
line_fault other (b ∷ l) = cond (eqb b 10) other (cond (eqb b 13) CarriageReturn (line_fault other l))

-- a row of k cells, where it is not w of them
abbrev pub counted : ℕ → ℕ → Fault
counted w k = cond (ltb k w) (Short k w) (Long k w)

-- the cells of a row from column k on: the first letter that is none, or how many they are
unfoldable pub cells_fault : ℕ → ℕ → List ℕ → Fault
cells_fault w k [] = counted w k
cells_fault w k (b ∷ l) = cond (eqb b 10) (counted w k) (cond (is_cell b) (cells_fault w (k + 1) l) (Letter k b))

unfoldable pub row_fault : ℕ → List ℕ → Fault
row_fault w l = cond (starts_with row_word l) (cells_fault w 0 (drop 4 l)) Form

-- UTF-8's byte order mark
abbrev pub mark_word : List ℕ
mark_word = 239 ∷ 187 ∷ 191 ∷ []

-- line n of the text t, where t goes on with l: five lines, then the rows, as many as the height says
abbrev pub bad_line : List ℕ → ℕ → List ℕ → Fault
bad_line t n l =
    cond (ltb n 6)
    (line_fault Form l)
    (cond (leb (said_in height_word (from_line 2 t)) (n - 6))
    TooMany
    (line_fault (row_fault (said_in width_word (from_line 1 t)) l) l))

abbrev pub fault_at : List ℕ → ℕ → List ℕ → Fault
fault_at t n [] = Missing
fault_at t n (b ∷ l) = bad_line t n (b ∷ l)

-- what is wrong with the text t at line n, the first bad or missing one from 1, or 0 if t is too long
unfoldable pub fault_of : List ℕ → ℕ → Fault
fault_of t n = cond (eqb n 0) TooLong (cond (starts_with mark_word t) ByteOrderMark (fault_at t n (from_line n t)))

-- What is wrong with a map text: what the definitions of `faults` give where a mistake would give something else. Assumes nothing.
use Rattle.std.specs.Prelude.{◌≡◌, List, [], ◌∷◌, ◌++◌, ℕ}
use Rattle.faults.specs.Faults.{mark_word, fault_of}
use Rattle.faults.specs.declared.Fault.TheVariants.{TooLong, ByteOrderMark, Missing, CarriageReturn, NoNewline, Form, Letter, Short, Long, TooMany}
use Rattle.rows.specs.Rows.{row_word}
use Rattle.examples.specs.Texts.{head_on, wall, bad_row}

-- document 01's map with other cells in its row
abbrev pub row_on : List ℕ → List ℕ
row_on cells = head_on 49 (row_word ++ cells)

pub record Faults : Type 0 where
  -- a short row told as a long one: `row=..` and `row=....` where the width is 3
  pub counts : (fault_of (row_on (46 ∷ 46 ∷ 10 ∷ [])) 6 ≡ Short 2 3) × (fault_of (row_on (46 ∷ 46 ∷ 46 ∷ 46 ∷ 10 ∷ [])) 6 ≡ Long 4 3)
  -- a letter that is no cell told in another column, or counted as a cell: the x of `row=.x.`
  pub letter : fault_of (head_on 49 bad_row) 6 ≡ Letter 1 120
  -- text after the last row told as a bad row, be it a good one
  pub more : (fault_of (head_on 49 (wall ++ (10 ∷ []))) 7 ≡ TooMany) × (fault_of (head_on 49 (wall ++ wall)) 7 ≡ TooMany)
  -- a missing line told as one without a newline
  pub missing : (fault_of (head_on 49 []) 6 ≡ Missing) × (fault_of [] 1 ≡ Missing)
  -- no newline told as a missing line
  pub newline : fault_of (row_on (46 ∷ 46 ∷ 46 ∷ [])) 6 ≡ NoNewline
  -- a carriage return told as a letter, or as a line of another form: one ends `width=3` and `row=.`
  pub return : (fault_of (119 ∷ 105 ∷ 100 ∷ 116 ∷ 104 ∷ 61 ∷ 51 ∷ 13 ∷ 10 ∷ []) 1 ≡ CarriageReturn) × (fault_of (row_on (46 ∷ 13 ∷ 10 ∷ [])) 6 ≡ CarriageReturn)
  -- a byte order mark not seen
  pub mark : fault_of (mark_word ++ head_on 49 wall) 1 ≡ ByteOrderMark
  -- a line of another form told as a row's fault: `diagonal=2`, and a row without its word
  pub form : (fault_of (head_on 50 wall) 3 ≡ Form) × (fault_of (head_on 49 (46 ∷ 46 ∷ 46 ∷ 10 ∷ [])) 6 ≡ Form)
  -- line 0 told as the first line
  pub long : fault_of (head_on 49 wall) 0 ≡ TooLong

-- A row by its parts; the rows, one line at a time. Assumes nothing.
use mathlib.Core.Path.{◌≡◌, refl, sym, ap, ◌∙◌, subst}
use mathlib.Core.Bool.{Bool, true, false, cond, ◌&&◌}
use mathlib.Core.List.{List, [], ◌∷◌, ◌++◌}
use Prim.Native.Nat.{ℕ, zero, suc, ◌+◌, ◌*◌, ◌≤◌, ◌<◌}
use native.Mathlib.Nat.{suc-mul}
use native.Mathlib.Omega.{arith}
use lib.Dec.{eqb}
use lib.ListN.{length, take, drop, drop_of_length-le}
use lib.Pointwise.{pointwise}
use lib.Seq.{sets, drop-drop}
use Rattle.std.specs.Prelude.{Option, None, Err, Ok}
use Rattle.std.specs.Borrow.{Bor}
use Rattle.std.specs.List.{list_all}
use Rattle.std.proofs.Common.{map}
use Rattle.std.proofs.Math.Bool.{and-true}
use Rattle.std.proofs.Math.Nat.{mul-le-mul_right}
use Rattle.text.proofs.Steps.{front}
use Rattle.lines.proofs.Laws.{begins}
use Rattle.printing.proofs.Written.{sets_append}
use Rattle.rows.specs.Rows.{bad_line, is_cell, cells_then, row_word, row_ok, rows_of, mark_of, marks, cells_of, ReadsRow}

pub no_row : (w : ℕ) (s : List ℕ) (answer : Option (Bor (List ℕ) × Bor (List ℕ))) → answer ≡ None → row_ok w s ≡ false → ReadsRow w s answer
no_row w s answer e f = subst (ReadsRow w s) (sym e) f

-- ---- w cells and a newline
then_is : (w : ℕ) (l : List ℕ) → cells_then w l ≡ list_all is_cell (take w l) && front 10 (drop w l)
unfolding cells_then
then_is zero [] = refl
then_is zero (b ∷ l) = sym (and-true (eqb b 10))
then_is (suc w) [] = refl
then_is (suc w) (b ∷ l) = ap (λ (t : Bool). is_cell b && t) (then_is w l) ∙ sym (three (is_cell b) (list_all is_cell (take w l)) (front 10 (drop w l)))
  where
    three : (x y z : Bool) → (x && y) && z ≡ x && (y && z)
    three true y z = refl
    three false y z = refl

-- ---- a row, by its parts: l is the text after the word, cells its first w bytes, and r the text after them
module _ (w : ℕ) (s : List ℕ) where
  pub row_other : pointwise eqb (take 4 s) row_word ≡ false → row_ok w s ≡ false
  unfolding row_ok
  row_other e = ap (λ (t : Bool). t && cells_then w (drop 4 s)) (begins row_word s ∙ e)

  module _ (e : pointwise eqb (take 4 s) row_word ≡ true) (l : List ℕ) (d : l ≡ drop 4 s) where
    row_is : row_ok w s ≡ list_all is_cell (take w l) && front 10 (drop w l)
    unfolding row_ok
    row_is = ap (λ (t : Bool). t && cells_then w (drop 4 s)) (begins row_word s ∙ e) ∙ ap (cells_then w) (sym d) ∙ then_is w l

    pub row_short : length l < w → row_ok w s ≡ false
    row_short h = row_is ∙ ap (λ (q : List ℕ). list_all is_cell (take w l) && front 10 q) (drop_of_length-le l (omega arith)) ∙ and_false (list_all is_cell (take w l))
      where
        and_false : (b : Bool) → b && false ≡ false
        and_false true = refl
        and_false false = refl

    module _ (cells : List ℕ) (c : cells ≡ take w l) (t : Bool) where
      pub row_cells : list_all is_cell cells ≡ false → row_ok w s ≡ false
      row_cells h = row_is ∙ ap (λ (b : Bool). b && front 10 (drop w l)) (ap (list_all is_cell) (sym c) ∙ h)

      pub row_end : list_all is_cell cells ≡ true → (r : List ℕ) → r ≡ drop w l → front 10 r ≡ t → row_ok w s ≡ t
      row_end h r f g = row_is ∙ ap (λ (b : Bool). b && front 10 (drop w l)) (ap (list_all is_cell) (sym c) ∙ h) ∙ ap (front 10) (sym f) ∙ g

-- the text after a row
pub after_row : (s l r q : List ℕ) (w : ℕ) → l ≡ drop 4 s → r ≡ drop w l → q ≡ drop 1 r → q ≡ drop (w + 5) s
after_row s l r q w a b c = c ∙ ap (drop 1) (b ∙ ap (drop w) a ∙ drop-drop w 4 s) ∙ drop-drop 1 (4 + w) s ∙ ap (λ (k : ℕ). drop k s) (omega arith)

pub row_room : (i h w : ℕ) → i < h → i * w + w ≤ h * w
row_room i h w e = omega (arith, mul-le-mul_right {m = suc i} {n = h} w (omega arith), suc-mul i w)

-- ---- the marks of a row
marks_map : (w : ℕ) (l : List ℕ) → marks w l ≡ map mark_of (take w l)
unfolding marks
marks_map zero l = refl
marks_map (suc w) [] = refl
marks_map (suc w) (b ∷ l) = ap (λ (m : List ℕ). mark_of b ∷ m) (marks_map w l)

map_length : (l : List ℕ) → length (map mark_of l) ≡ length l
map_length [] = refl
map_length (b ∷ l) = ap suc (map_length l)

-- ---- the rows, one at a time: left rows are to come
module _ (s : List ℕ) (w line : ℕ) where
  pub rows_bad : (left n : ℕ) → left ≡ suc n → row_ok w s ≡ false → Err (bad_line line) ≡ rows_of left w line s
  unfolding rows_of
  rows_bad left n z e =
      sym (ap (λ (k : ℕ). rows_of k w line s) z ∙ ap (λ (t : Bool). cond t (rows_of n w (line + 1) (drop (w + 5) s)) (Err (bad_line line))) e)

  pub rows_more : (left n : ℕ) → left ≡ suc n → row_ok w s ≡ true → (q : List ℕ) → q ≡ drop (w + 5) s → rows_of n w (line + 1) q ≡ rows_of left w line s
  unfolding rows_of
  rows_more left n z e q d =
      ap (rows_of n w (line + 1)) d
      ∙ sym (ap (λ (k : ℕ). rows_of k w line s) z ∙ ap (λ (t : Bool). cond t (rows_of n w (line + 1) (drop (w + 5) s)) (Err (bad_line line))) e)

  pub rows_rest : (left : ℕ) → left ≡ 0 → 0 < length s → Err (bad_line line) ≡ rows_of left w line s
  unfolding rows_of
  rows_rest left z h = sym (ap (λ (k : ℕ). rows_of k w line s) z ∙ by s h)
    where
      by : (l : List ℕ) → 0 < length l → rows_of 0 w line l ≡ Err (bad_line line)
      by [] e = absurd (never e)
        where
          never : 0 < 0 → ⊥
          never e = omega arith
      by (b ∷ l) e = refl

  pub rows_good : (left : ℕ) → left ≡ 0 → length s ≡ 0 → Ok tt ≡ rows_of left w line s
  unfolding rows_of
  rows_good left z h = sym (ap (λ (k : ℕ). rows_of k w line s) z ∙ by s h)
    where
      by : (l : List ℕ) → length l ≡ 0 → rows_of 0 w line l ≡ Ok tt
      by [] e = refl
      by (b ∷ l) e = absurd (never (length l) e)
        where
          never : (n : ℕ) → suc n ≡ 0 → ⊥
          never n e = omega arith

module _ (s : List ℕ) (w : ℕ) (t : List ℕ) (cell : ℕ) where
  pub cells_done : (left : ℕ) → left ≡ 0 → sets t cell (cells_of left w s) ≡ t
  unfolding cells_of
  cells_done left z = ap (λ (k : ℕ). sets t cell (cells_of k w s)) z

  pub cells_bad : (left : ℕ) → row_ok w s ≡ false → sets t cell (cells_of left w s) ≡ t
  unfolding cells_of
  cells_bad zero e = refl
  cells_bad (suc n) e = ap (λ (b : Bool). sets t cell (cond b (marks w (drop 4 s) ++ cells_of n w (drop (w + 5) s)) [])) e

  -- a turn: new is the table after the row's marks, and then the place of the next row
  pub cells_more : (left n : ℕ) → left ≡ suc n → row_ok w s ≡ true → (cells q new : List ℕ) (then : ℕ)
      → cells ≡ take w (drop 4 s) → length cells ≡ w → q ≡ drop (w + 5) s → new ≡ sets t cell (map mark_of cells) → then ≡ cell + w
      → sets new then (cells_of n w q) ≡ sets t cell (cells_of left w s)
  unfolding cells_of
  cells_more left n z e cells q new then c long d f p =
      let R = cells_of n w (drop (w + 5) s) in
      let m : map mark_of cells ≡ marks w (drop 4 s) = ap (map mark_of) c ∙ sym (marks_map w (drop 4 s)) in
      let count : cell + w ≡ cell + length (map mark_of cells) = ap (λ (k : ℕ). cell + k) (sym (map_length cells ∙ long)) in
      (λ j. sets (f j) ((p ∙ count) j) (cells_of n w (d j)))
      ∙ sym (sets_append t cell (map mark_of cells) R)
      ∙ ap (λ (l : List ℕ). sets t cell (l ++ R)) m
      ∙ sym (ap (λ (k : ℕ). sets t cell (cells_of k w s)) z ∙ ap (λ (b : Bool). sets t cell (cond b (marks w (drop 4 s) ++ R) [])) e)

-- The text of a map, one cell or one row at a time, and its length. Assumes nothing.
use mathlib.Core.Path.{◌≡◌, refl, sym, ap, ◌∙◌}
use mathlib.Core.List.{List, [], ◌∷◌, ◌++◌}
use Prim.Native.Nat.{ℕ, zero, suc, ◌+◌, ◌*◌, ◌≤◌}
use native.Mathlib.Nat.{mul-le-mul, suc-mul}
use native.Mathlib.Omega.{arith}
use lib.ListN.{length, take, drop, set, length-drop, length-append}
use lib.Seq.{sets}
use Rattle.std.proofs.lemmas.List.{length-take-le}
use Rattle.cells.specs.Cells.{most_side}
use Rattle.printing.proofs.Written.{sets_append, number_stores}
use Rattle.rows.specs.Rows.{row_word}
use Rattle.map_printing.specs.Shown.{glyph_of, shown, row_text, rows_text}
use Rattle.std.proofs.Common.{map}

-- ---- the cells of a row
shown_map : (l : List ℕ) → shown (length l) l ≡ map glyph_of l
unfolding shown
shown_map [] = refl
shown_map (b ∷ l) = ap (λ (m : List ℕ). glyph_of b ∷ m) (shown_map l)

shown_take : (w : ℕ) (l : List ℕ) → shown w (take w l) ≡ shown w l
unfolding shown
shown_take zero l = refl
shown_take (suc w) [] = refl
shown_take (suc w) (b ∷ l) = ap (λ (m : List ℕ). glyph_of b ∷ m) (shown_take w l)

shown_length : (w : ℕ) (l : List ℕ) → w ≤ length l → length (shown w l) ≡ w
unfolding shown
shown_length zero l h = refl
shown_length (suc w) [] h = absurd (none h)
  where
    none : suc w ≤ 0 → ⊥
    none e = omega arith
shown_length (suc w) (b ∷ l) h = ap suc (shown_length w l (omega arith))

pub map_length : (l : List ℕ) → length (map glyph_of l) ≡ length l
map_length [] = refl
map_length (b ∷ l) = ap suc (map_length l)

-- ---- a row
pub row_stores : (t : List ℕ) (at : ℕ) (l : List ℕ) → sets t at (row_text (length l) l) ≡ set (sets (sets t at row_word) (at + 4) (map glyph_of l)) (at + 4 + length l) 10
unfolding row_text
row_stores t at l =
    ap (λ (m : List ℕ). sets t at (row_word ++ (m ++ (10 ∷ [])))) (shown_map l) ∙ number_stores t at row_word (map glyph_of l)
    ∙ ap (λ (k : ℕ). set (sets (sets t at row_word) (at + 4) (map glyph_of l)) (at + 4 + k) 10) (map_length l)

pub row_text_length : (w : ℕ) (l : List ℕ) → w ≤ length l → length (row_text w l) ≡ w + 5
unfolding row_text
row_text_length w l h = omega (arith, shown_length w l h, length-append (shown w l) (10 ∷ []))

-- the line of a row that was cut from a longer list
pub row_cut : (w : ℕ) (l cells : List ℕ) → w ≤ length l → cells ≡ take w l → row_text (length cells) cells ≡ row_text w l
unfolding row_text
row_cut w l cells h e =
    (λ j. row_word ++ (shown ((ap length e ∙ length-take-le w l h) j) (e j) ++ (10 ∷ [])))
    ∙ ap (λ (m : List ℕ). row_word ++ (m ++ (10 ∷ []))) (shown_take w l)

-- ---- the rows
module _ (l : List ℕ) (w : ℕ) (t : List ℕ) (k : ℕ) where
  pub rows_text_done : (left : ℕ) → left ≡ 0 → sets t k (rows_text left w l) ≡ t
  unfolding rows_text
  rows_text_done left z = ap (λ (n : ℕ). sets t k (rows_text n w l)) z

  -- a turn: new is the list after the row, and then the place of the next one
  pub rows_text_more : (left n : ℕ) → left ≡ suc n → w ≤ length l → (new q : List ℕ) (then : ℕ) → new ≡ sets t k (row_text w l) → q ≡ drop w l → then ≡ k + (w + 5)
      → sets new then (rows_text n w q) ≡ sets t k (rows_text left w l)
  unfolding rows_text
  rows_text_more left n z h new q then f d p =
      (λ j. sets (f j) ((p ∙ ap (λ (m : ℕ). k + m) (sym (row_text_length w l h))) j) (rows_text n w (d j)))
      ∙ sym (sets_append t k (row_text w l) (rows_text n w (drop w l)))
      ∙ sym (ap (λ (m : ℕ). sets t k (rows_text m w l)) z)

pub rows_text_length : (h w : ℕ) (l : List ℕ) → h * w ≤ length l → length (rows_text h w l) ≡ h * (w + 5)
unfolding rows_text
rows_text_length zero w l e = omega arith
rows_text_length (suc h) w l e =
    let cells = suc-mul h w in
    let lines = suc-mul h (w + 5) in
    omega (arith, length-append (row_text w l) (rows_text h w (drop w l)), row_text_length w l (omega (arith, cells, e)), rows_text_length h w (drop w l) (omega (arith, cells, e, length-drop w l)), lines)

pub rows_most : (w h : ℕ) → w ≤ most_side → h ≤ most_side → h * (w + 5) ≤ most_side * (most_side + 5)
rows_most w h a b = mul-le-mul {m₂ = most_side + 5} b (omega arith)

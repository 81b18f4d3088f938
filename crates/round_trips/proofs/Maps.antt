-- A map that is written is read back as the same map: its lines in turn, then its rows. Assumes nothing.
use Rattle.std.specs.Prelude.{Some, None, Ok, Err}
use mathlib.Core.Path.{◌≡◌, refl, sym, ap, ◌∙◌}
use mathlib.Core.Bool.{Bool, true, false, cond, ◌&&◌}
use mathlib.Core.List.{List, [], ◌∷◌, ◌++◌, append_assoc}
use Prim.Native.Nat.{ℕ, zero, suc, ◌+◌, ◌*◌, ◌≤◌}
use native.Mathlib.Nat.{suc-mul}
use native.Mathlib.Omega.{arith}
use borrow.Author.Tests.{le-ltb}
use lib.Dec.{T, eqb}
use lib.ListN.{length, drop, length-append, length-drop}
use lib.Seq.{sets, drop-drop, drop_at}
use Rattle.cells.specs.Cells.{most_side}
use Rattle.lines.specs.Lines.{point_line}
use Rattle.printing.specs.Render.{number_text, point_text}
use Rattle.printing.proofs.Written.{number_text_length, point_text_length}
use Rattle.rows.specs.Rows.{bad_line, is_cell, cells_then, row_ok, rows_of, mark_of, marks, cells_of}
use Rattle.maps.specs.Maps.{side_ok, side_of, size_line, flag_of, flag_line, width_word, height_word, diagonal_word, start_word, goal_word, after_width, after_height, after_diagonal, after_start, after_goal, head_of, Fair, with_rows, with_head, most_text, map_of, into_table, cells_into}
use Rattle.maps.specs.declared.Header.{Header}
use Rattle.maps.proofs.Laws.{side_most}
use Rattle.map_printing.specs.Shown.{glyph_of, shown, row_text, rows_text, map_text}
use Rattle.map_printing.proofs.Shows.{row_text_length, rows_text_length, rows_most}
use Rattle.round_trips.specs.RoundTrips.{flags}
use Rattle.round_trips.proofs.Lines.{sides, digits, number_line_again, line_again}

none : (n : ℕ) → suc n ≤ 0 → ⊥
none n h = omega arith

-- past a part of a text
skip : (t : List ℕ) (k : ℕ) (x y : List ℕ) → drop k t ≡ x ++ y → drop (k + length x) t ≡ y
skip t k x y e = sym (drop-drop (length x) k t) ∙ ap (drop (length x)) e ∙ drop_at x y (length x) refl

-- ---- the lines before the rows
is : (b : Bool) → T b → b ≡ true
is true t = refl
is false t = absurd t

size_again : (word : List ℕ) (n : ℕ) → T (side_ok n) → (rest : List ℕ) → size_line word (number_text word n ++ rest) ≡ Some (n, (length (number_text word n)))
unfolding size_line
size_again word n h rest =
    ap side_of (number_line_again 1024 sides n (omega (arith, side_most n h)) word rest)
    ∙ ap (λ (t : Bool). cond t (Some (n, (length (number_text word n)))) None) (is (side_ok n) h)

flag_again : (word : List ℕ) (d : Bool) (rest : List ℕ) → flag_line word (number_text word (cond d 1 0) ++ rest) ≡ Some ((cond d 1 0), (length (number_text word (cond d 1 0))))
unfolding flag_line
flag_again word true rest = ap flag_of (number_line_again 9 digits 1 (omega arith) word rest)
flag_again word false rest = ap flag_of (number_line_again 9 digits 0 (omega arith) word rest)

flag_back : (d : Bool) → eqb (cond d 1 0) 1 ≡ d
flag_back true = refl
flag_back false = refl

-- a header's lines before any rows
module _ (m : Header) (fair : Fair m) (rows : List ℕ) where
  abbrev f₁ : List ℕ
  f₁ = number_text width_word m.width

  abbrev f₂ : List ℕ
  f₂ = number_text height_word m.height

  abbrev f₃ : List ℕ
  f₃ = number_text diagonal_word (cond m.diagonal 1 0)

  abbrev f₄ : List ℕ
  f₄ = point_text start_word m.start

  abbrev f₅ : List ℕ
  f₅ = point_text goal_word m.goal

  abbrev text : List ℕ
  text = f₁ ++ (f₂ ++ (f₃ ++ (f₄ ++ (f₅ ++ rows))))

  abbrev used : ℕ
  used = length f₁ + length f₂ + length f₃ + length f₄ + length f₅

  past₁ : drop (length f₁) text ≡ f₂ ++ (f₃ ++ (f₄ ++ (f₅ ++ rows)))
  past₁ = drop_at f₁ (f₂ ++ (f₃ ++ (f₄ ++ (f₅ ++ rows)))) (length f₁) refl

  past₂ : drop (length f₁ + length f₂) text ≡ f₃ ++ (f₄ ++ (f₅ ++ rows))
  past₂ = skip text (length f₁) f₂ (f₃ ++ (f₄ ++ (f₅ ++ rows))) past₁

  past₃ : drop (length f₁ + length f₂ + length f₃) text ≡ f₄ ++ (f₅ ++ rows)
  past₃ = skip text (length f₁ + length f₂) f₃ (f₄ ++ (f₅ ++ rows)) past₂

  past₄ : drop (length f₁ + length f₂ + length f₃ + length f₄) text ≡ f₅ ++ rows
  past₄ = skip text (length f₁ + length f₂ + length f₃) f₄ (f₅ ++ rows) past₃

  past₅ : drop used text ≡ rows
  past₅ = skip text (length f₁ + length f₂ + length f₃ + length f₄) f₅ rows past₄

  head_again : head_of text ≡ Ok (m, used)
  unfolding head_of
  head_again =
      ap (after_width text) (size_again width_word m.width fair.wide (f₂ ++ (f₃ ++ (f₄ ++ (f₅ ++ rows)))))
      ∙ ap (after_height text m.width (length f₁)) (ap (size_line height_word) past₁ ∙ size_again height_word m.height fair.high (f₃ ++ (f₄ ++ (f₅ ++ rows))))
      ∙ ap (after_diagonal text m.width m.height (length f₁ + length f₂)) (ap (flag_line diagonal_word) past₂ ∙ flag_again diagonal_word m.diagonal (f₄ ++ (f₅ ++ rows)))
      ∙ ap (after_start text m.width m.height (cond m.diagonal 1 0) (length f₁ + length f₂ + length f₃)) (ap (point_line start_word) past₃ ∙ line_again m.start fair.start start_word (f₅ ++ rows))
      ∙ ap (after_goal m.width m.height (cond m.diagonal 1 0) m.start (length f₁ + length f₂ + length f₃ + length f₄)) (ap (point_line goal_word) past₄ ∙ line_again m.goal fair.goal goal_word rows)
      ∙ (λ i. Ok ((record { width = m.width; height = m.height; diagonal = flag_back m.diagonal i; start = m.start; goal = m.goal }), used))

  short : length rows ≤ most_side * (most_side + 5) → length text ≤ most_text
  short h =
      omega (
        arith,
        h,
        length-append f₁ (f₂ ++ (f₃ ++ (f₄ ++ (f₅ ++ rows)))),
        length-append f₂ (f₃ ++ (f₄ ++ (f₅ ++ rows))),
        length-append f₃ (f₄ ++ (f₅ ++ rows)),
        length-append f₄ (f₅ ++ rows),
        length-append f₅ rows,
        number_text_length width_word m.width,
        number_text_length height_word m.height,
        number_text_length diagonal_word (cond m.diagonal 1 0),
        point_text_length start_word m.start,
        point_text_length goal_word m.goal,
      )

-- ---- the rows
cell_again : (b : ℕ) → (is_cell (glyph_of b) ≡ true) × (mark_of (glyph_of b) ≡ cond (eqb b 0) 0 1)
cell_again b = by (eqb b 0)
  where
    by : (t : Bool) → (is_cell (cond t 46 35) ≡ true) × (mark_of (cond t 46 35) ≡ cond t 0 1)
    by true = (refl, refl)
    by false = (refl, refl)

shown_again : (w : ℕ) (l rest : List ℕ) → w ≤ length l → (cells_then w (shown w l ++ (10 ∷ rest)) ≡ true) × (marks w (shown w l ++ (10 ∷ rest)) ≡ flags w l)
unfolding cells_then marks shown flags
shown_again zero l rest h = (refl, refl)
shown_again (suc w) [] rest h = absurd (none w h)
shown_again (suc w) (b ∷ l) rest h =
    let r = shown_again w l rest (omega arith) in
    ((λ i. (cell_again b).0 i && r.0 i), (λ i. (cell_again b).1 i ∷ r.1 i))

module _ (w : ℕ) (l rest : List ℕ) (h : w ≤ length l) where
  abbrev after : List ℕ
  after = shown w l ++ (10 ∷ rest)

  four : drop 4 (row_text w l ++ rest) ≡ after
  unfolding row_text
  four = append_assoc (shown w l) (10 ∷ []) rest

  row_again : row_ok w (row_text w l ++ rest) ≡ true
  unfolding row_ok row_text
  row_again = ap (cells_then w) four ∙ (shown_again w l rest h).0

  marks_again : marks w (drop 4 (row_text w l ++ rest)) ≡ flags w l
  marks_again = ap (marks w) four ∙ (shown_again w l rest h).1

  row_past : drop (w + 5) (row_text w l ++ rest) ≡ rest
  row_past = drop_at (row_text w l) rest (w + 5) (row_text_length w l h)

flags_append : (a b : ℕ) (l : List ℕ) → a ≤ length l → flags (a + b) l ≡ flags a l ++ flags b (drop a l)
unfolding flags
flags_append zero b l h = ap (λ (n : ℕ). flags n l) same
  where
    same : 0 + b ≡ b
    same = omega arith
flags_append (suc a) b [] h = absurd (none a h)
flags_append (suc a) b (x ∷ l) h = ap (λ (n : ℕ). flags n (x ∷ l)) next ∙ ap (λ (r : List ℕ). cond (eqb x 0) 0 1 ∷ r) (flags_append a b l (omega arith))
  where
    next : suc a + b ≡ suc (a + b)
    next = omega arith

rows_again : (h w line : ℕ) (l : List ℕ) → h * w ≤ length l → (rows_of h w line (rows_text h w l) ≡ Ok tt) × (cells_of h w (rows_text h w l) ≡ flags (h * w) l)
unfolding rows_of cells_of rows_text flags
rows_again zero w line l e = (refl, ap (λ (n : ℕ). flags n l) none_yet)
  where
    none_yet : 0 ≡ 0 * w
    none_yet = omega arith
rows_again (suc h) w line l e =
    let cells : suc h * w ≡ w + h * w = omega (arith, suc-mul h w) in
    let enough : w ≤ length l = omega (arith, cells, e) in
    let rest = rows_text h w (drop w l) in
    let t = row_text w l ++ rest in
    let r = rows_again h w (line + 1) (drop w l) (omega (arith, cells, e, length-drop w l)) in (
      ap (λ (b : Bool). cond b (rows_of h w (line + 1) (drop (w + 5) t)) (Err (bad_line line))) (row_again w l rest enough)
          ∙ ap (rows_of h w (line + 1)) (row_past w l rest enough) ∙ r.0,
      ap (λ (b : Bool). cond b (marks w (drop 4 t) ++ cells_of h w (drop (w + 5) t)) []) (row_again w l rest enough)
          ∙ (λ i. marks_again w l rest enough i ++ cells_of h w (row_past w l rest enough i))
          ∙ ap (λ (c : List ℕ). flags w l ++ c) r.1
          ∙ sym (ap (λ (n : ℕ). flags n l) cells ∙ flags_append w (h * w) l enough),
    )

-- a map's text is read back as the map, and its cells as the table has them
pub map_again : (m : Header) (cells table : List ℕ) → Fair m → m.height * m.width ≤ length cells
    → (map_of (map_text m cells) ≡ Ok m) × (cells_into (map_text m cells) table ≡ sets table 0 (flags (m.height * m.width) cells))
unfolding map_of cells_into map_text
map_again m cells table fair room =
    let rows = rows_text m.height m.width cells in
    let t = map_text m cells in
    let r = rows_again m.height m.width 6 cells room in
    let most = rows_most m.width m.height (side_most m.width fair.wide) (side_most m.height fair.high) in
    let fits = le-ltb most_text (length t) (short m fair rows (omega (arith, rows_text_length m.height m.width cells room, most))) in (
      ap (λ (b : Bool). cond b (Err (bad_line 0)) (with_head t (head_of t))) fits
          ∙ ap (with_head t) (head_again m fair rows)
          ∙ ap (with_rows m) (ap (rows_of m.height m.width 6) (past₅ m fair rows) ∙ r.0),
      ap (λ (b : Bool). cond b table (into_table t (head_of t) table)) fits
          ∙ ap (λ q. into_table t q table) (head_again m fair rows)
          ∙ ap (sets table 0) (ap (cells_of m.height m.width) (past₅ m fair rows) ∙ r.1),
    )

-- The header, one line at a time, and what a header that was read says; the whole text. Assumes nothing.
use Rattle.std.specs.Prelude.{Option, Some, None, Result, Ok, Err}
use Rattle.std.specs.Option.{ok_or}
use Rattle.std.specs.Borrow.{Bor}
use mathlib.Core.Path.{◌≡◌, refl, sym, ap, ◌∙◌, subst}
use mathlib.Core.Bool.{Bool, true, false, cond, ◌&&◌}
use mathlib.Core.List.{List}
use Prim.Native.Nat.{ℕ, ◌+◌, ◌≤◌, ◌<◌}
use native.Mathlib.Omega.{arith}
use borrow.Author.Tests.{leb-true, lt-ltb, le-ltb}
use lib.Dec.{T, leb, eqb}
use lib.ListN.{length, drop, length-drop}
use lib.Seq.{sets, drop-drop}
use Rattle.points.specs.Plane.{legal}
use Rattle.points.specs.declared.Point.{Point}
use Rattle.cells.specs.Cells.{most_side, sized_of}
use Rattle.lines.specs.Lines.{number_line, point_line}
use Rattle.text.proofs.Steps.{Bounded, PBounded}
use Rattle.lines.proofs.Laws.{number_line_bounded, point_line_bounded}
use Rattle.text.specs.Grammar.{Reads, Num, Pair}
use Rattle.rows.specs.declared.BadLine.{BadLine}
use Rattle.rows.specs.Rows.{bad_line, Rows, rows_of, cells_of}
use Rattle.maps.specs.Maps.{Head, ReadsHead, side_ok, side_of, size_line, flag_of, flag_line, width_word, height_word, diagonal_word, start_word, goal_word, after_goal, after_start, after_diagonal, after_height, after_width, head_of, Fair, with_rows, with_head, most_text, map_of, into_table, cells_into}
use Rattle.maps.specs.declared.Header.{Header}

-- ---- a side, and 0 or 1
and_true : (b : Bool) → b && true ≡ b
and_true true = refl
and_true false = refl

pub sized_one : (v : ℕ) → sized_of v 1 ≡ side_ok v
unfolding sized_of
sized_one v = ap (λ (t : Bool). leb 1 v && t) (and_true (leb v most_side))

pub size_by : (word l : List ℕ) (r : Num) → number_line word 1024 l ≡ r → size_line word l ≡ side_of r
unfolding size_line
size_by word l r e = ap side_of e

pub flag_by : (word l : List ℕ) (r : Num) → number_line word 9 l ≡ r → flag_line word l ≡ flag_of r
unfolding flag_line
flag_by word l r e = ap flag_of e

-- ---- what a header that was read says: its sides and points are in range, and it lies within the text
abbrev pub SBounded : ℕ → Num → Type 0
SBounded m (Some (v, n)) = T (side_ok v) × (n ≤ m)
SBounded m None = Unit {0}

pub size_bounded : (word l : List ℕ) → SBounded (length l) (size_line word l)
unfolding size_line
size_bounded word l = go (number_line word 1024 l) (number_line_bounded word 1024 l (omega arith))
  where
    go : (r : Num) → Bounded 1024 (length l) r → SBounded (length l) (side_of r)
    go (Some (v, n)) b = by (side_ok v) refl
      where
        by : (t : Bool) → side_ok v ≡ t → SBounded (length l) (cond t (Some (v, n)) None)
        by true e = (subst T (sym e) tt, b.1)
        by false e = tt
    go None b = tt

pub flag_bounded : (word l : List ℕ) → Bounded 9 (length l) (flag_line word l)
unfolding flag_line
flag_bounded word l = go (number_line word 9 l) (number_line_bounded word 9 l (omega arith))
  where
    go : (r : Num) → Bounded 9 (length l) r → Bounded 9 (length l) (flag_of r)
    go (Some (v, n)) b = by (leb v 1)
      where
        by : (t : Bool) → Bounded 9 (length l) (cond t (Some (v, n)) None)
        by true = b
        by false = tt
    go None b = tt

abbrev pub HBounded : ℕ → Head → Type 0
HBounded n (Ok (m, k)) = Fair m × (k ≤ n)
HBounded n (Err e) = Unit {0}

further : (t : List ℕ) (k n : ℕ) → k ≤ length t → n ≤ length (drop k t) → k + n ≤ length t
further t k n h e = omega (arith, length-drop k t)

module _ (t : List ℕ) (w : ℕ) (wide : T (side_ok w)) where
  module _ (h : ℕ) (high : T (side_ok h)) (d : ℕ) where
    goal_fair : (start : Point) → T (legal start) → (k : ℕ) → k ≤ length t → (r : Pair) → PBounded (length (drop k t)) r → HBounded (length t) (after_goal w h d start k r)
    goal_fair start s k q (Some (goal, n)) b = (record { wide = wide; high = high; start = s; goal = b.0 }, further t k n q b.1)
    goal_fair start s k q None b = tt

    start_fair : (k : ℕ) → k ≤ length t → (r : Pair) → PBounded (length (drop k t)) r → HBounded (length t) (after_start t w h d k r)
    start_fair k q (Some (start, n)) b = goal_fair start b.0 (k + n) (further t k n q b.1) (point_line goal_word (drop (k + n) t)) (point_line_bounded goal_word (drop (k + n) t))
    start_fair k q None b = tt

  diagonal_fair : (h : ℕ) → T (side_ok h) → (k : ℕ) → k ≤ length t → (r : Num) → Bounded 9 (length (drop k t)) r → HBounded (length t) (after_diagonal t w h k r)
  diagonal_fair h high k q (Some (d, n)) b = start_fair h high d (k + n) (further t k n q b.1) (point_line start_word (drop (k + n) t)) (point_line_bounded start_word (drop (k + n) t))
  diagonal_fair h high k q None b = tt

  height_fair : (k : ℕ) → k ≤ length t → (r : Num) → SBounded (length (drop k t)) r → HBounded (length t) (after_height t w k r)
  height_fair k q (Some (h, n)) b = diagonal_fair h b.0 (k + n) (further t k n q b.1) (flag_line diagonal_word (drop (k + n) t)) (flag_bounded diagonal_word (drop (k + n) t))
  height_fair k q None b = tt

pub head_fair : (t : List ℕ) → HBounded (length t) (head_of t)
unfolding head_of
head_fair t = go (size_line width_word t) (size_bounded width_word t)
  where
    go : (r : Num) → SBounded (length t) r → HBounded (length t) (after_width t r)
    go (Some (w, n)) b = height_fair t w b.0 n b.1 (size_line height_word (drop n t)) (size_bounded height_word (drop n t))
    go None b = tt

-- ---- the header's lines, each read in the text after the one before it
refused : {A : Type 0} (s : List ℕ) (form : Option (A × ℕ)) (o : Option (A × Bor (List ℕ))) → Reads s form o → o ≡ None → form ≡ None
refused s form o h e = subst (Reads s form) e h

abbrev error : {A : Type 0} → Result A BadLine → BadLine
error (Ok a) = bad_line 0
error (Err e) = e

pub head_refused : (t : List ℕ) (r : Result (Header × Bor (List ℕ)) BadLine) (e : BadLine) (line : ℕ) {A : Type 0} (s : List ℕ) (form : Option (A × ℕ)) (o : Option (A × Bor (List ℕ)))
    → r ≡ Err e → Err e ≡ ok_or o (bad_line line) → o ≡ None → Reads s form o → (g : Option (A × ℕ) → Head) → head_of t ≡ g form → g None ≡ Err (bad_line line) → ReadsHead t (head_of t) r
head_refused t r e line {A = A} s form o a b n h g f k =
    subst (ReadsHead t (head_of t)) (sym a) (f ∙ ap g (refused s form o h n) ∙ k ∙ ap Err (sym (ap error (b ∙ ap (λ (q : Option (A × Bor (List ℕ))). ok_or q (bad_line line)) n))))

pub got : {A : Type 0} (s : List ℕ) (form : Option (A × ℕ)) (o : Option (A × Bor (List ℕ))) (v : A) (r : Bor (List ℕ)) → Reads s form o → o ≡ Some (v, r) → (n : ℕ) × (form ≡ Some (v, n)) × (r.now ≡ drop n s) × (length r.now + n ≡ length s)
got s form o v r h e = subst (Reads s form) e h

later : (t l r : List ℕ) (k n : ℕ) → l ≡ drop k t → r ≡ drop n l → r ≡ drop (k + n) t
later t l r k n a b = b ∙ ap (drop n) a ∙ drop-drop n k t

pub from_width : (t : List ℕ) → head_of t ≡ after_width t (size_line width_word t)
unfolding head_of
from_width t = refl

module _ (t : List ℕ) (w a : ℕ) (q1 : size_line width_word t ≡ Some (w, a)) (s1 : List ℕ) (d1 : s1 ≡ drop a t) where
  pub from_height : head_of t ≡ after_height t w a (size_line height_word s1)
  from_height = from_width t ∙ ap (after_width t) q1 ∙ ap (λ (l : List ℕ). after_height t w a (size_line height_word l)) (sym d1)

  module _ (h b : ℕ) (q2 : size_line height_word s1 ≡ Some (h, b)) (s2 : List ℕ) (d2 : s2 ≡ drop b s1) where
    e2 : s2 ≡ drop (a + b) t
    e2 = later t s1 s2 a b d1 d2

    pub from_diagonal : head_of t ≡ after_diagonal t w h (a + b) (flag_line diagonal_word s2)
    from_diagonal = from_height ∙ ap (after_height t w a) q2 ∙ ap (λ (l : List ℕ). after_diagonal t w h (a + b) (flag_line diagonal_word l)) (sym e2)

    module _ (d c : ℕ) (q3 : flag_line diagonal_word s2 ≡ Some (d, c)) (s3 : List ℕ) (d3 : s3 ≡ drop c s2) where
      e3 : s3 ≡ drop (a + b + c) t
      e3 = later t s2 s3 (a + b) c e2 d3

      pub from_start : head_of t ≡ after_start t w h d (a + b + c) (point_line start_word s3)
      from_start = from_diagonal ∙ ap (after_diagonal t w h (a + b)) q3 ∙ ap (λ (l : List ℕ). after_start t w h d (a + b + c) (point_line start_word l)) (sym e3)

      module _ (start : Point) (e : ℕ) (q4 : point_line start_word s3 ≡ Some (start, e)) (s4 : List ℕ) (d4 : s4 ≡ drop e s3) where
        e4 : s4 ≡ drop (a + b + c + e) t
        e4 = later t s3 s4 (a + b + c) e e3 d4

        pub from_goal : head_of t ≡ after_goal w h d start (a + b + c + e) (point_line goal_word s4)
        from_goal = from_start ∙ ap (after_start t w h d (a + b + c)) q4 ∙ ap (λ (l : List ℕ). after_goal w h d start (a + b + c + e) (point_line goal_word l)) (sym e4)

        pub whole_head : (goal : Point) (n : ℕ) → point_line goal_word s4 ≡ Some (goal, n) → head_of t ≡ Ok (record { width = w; height = h; diagonal = eqb d 1; start = start; goal = goal }, a + b + c + e + n)
        whole_head goal n q5 = from_goal ∙ ap (after_goal w h d start (a + b + c + e)) q5

        pub after_head : (s5 : List ℕ) (n : ℕ) → s5 ≡ drop n s4 → s5 ≡ drop (a + b + c + e + n) t
        after_head s5 n d5 = later t s4 s5 (a + b + c + e) n e4 d5

-- a side in range
pub side_most : (n : ℕ) → T (side_ok n) → n ≤ most_side
side_most n t = leb-true n most_side (is (leb 1 n) (leb n most_side) t)
  where
    is : (a b : Bool) → T (a && b) → b ≡ true
    is true true t = refl
    is true false t = absurd t
    is false b t = absurd t

-- ---- the whole text
module _ (t table : List ℕ) where
  pub map_long : most_text < length t → (Err (bad_line 0) ≡ map_of t) × (table ≡ cells_into t table)
  unfolding map_of cells_into
  map_long h = (sym (ap (λ (b : Bool). cond b (Err (bad_line 0)) (with_head t (head_of t))) (lt-ltb most_text (length t) h)), sym (ap (λ (b : Bool). cond b table (into_table t (head_of t) table)) (lt-ltb most_text (length t) h)))

  module _ (short : length t ≤ most_text) where
    map_by : (r : Head) → head_of t ≡ r → (map_of t ≡ with_head t r) × (cells_into t table ≡ into_table t r table)
    unfolding map_of cells_into
    map_by r e = (
      ap (λ (b : Bool). cond b (Err (bad_line 0)) (with_head t (head_of t))) (le-ltb most_text (length t) short) ∙ ap (with_head t) e,
      ap (λ (b : Bool). cond b table (into_table t (head_of t) table)) (le-ltb most_text (length t) short) ∙ ap (λ (q : Head). into_table t q table) e,
    )

    pub map_head : (n : BadLine) → head_of t ≡ Err n → (Err n ≡ map_of t) × (table ≡ cells_into t table)
    map_head n e = (sym (map_by (Err n) e).0, sym (map_by (Err n) e).1)

    pub map_rows : (m : Header) (k : ℕ) → head_of t ≡ Ok (m, k) → (r : Rows) → rows_of m.height m.width 6 (drop k t) ≡ r → with_rows m r ≡ map_of t
    map_rows m k e r f = sym ((map_by (Ok (m, k)) e).0 ∙ ap (with_rows m) f)

    pub map_cells : (m : Header) (k : ℕ) → head_of t ≡ Ok (m, k) → sets table 0 (cells_of m.height m.width (drop k t)) ≡ cells_into t table
    map_cells m k e = sym (map_by (Ok (m, k)) e).1

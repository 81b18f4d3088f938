-- The definitions one byte at a time, at a place of the text. Assumes nothing.
use mathlib.Core.Path.{◌≡◌, refl, sym, ap, ◌∙◌}
use mathlib.Core.Bool.{Bool, true, false, cond, ◌&&◌}
use mathlib.Core.List.{List, [], ◌∷◌}
use Prim.Native.Nat.{ℕ, suc, ◌+◌, ◌-◌, ◌≤◌, ◌<◌}
use native.Mathlib.Numerals.{add-one}
use borrow.Author.Tests.{eqb-true, eqb-false, eq-eqb, ne_eqb, lt-ltb, le-ltb, lt-leb, le-leb}
use lib.ListN.{length, take, drop, get_or, drop_of_length-le}
use lib.Seq.{drop-cons}
use lib.Pointwise.{pointwise}
use lib.Dec.{eqb}
use native.Mathlib.Omega.{arith}
use Rattle.text.specs.Grammar.{Num}
use Rattle.lines.proofs.Laws.{begins}
use Rattle.lines.specs.Lines.{starts_with, number_line}
use Rattle.rows.specs.Rows.{row_word, is_cell}
use Rattle.maps.specs.Maps.{width_word, height_word}
use Rattle.faults.specs.Faults.{newlines, from_line, number_in, said_in, line_fault, counted, cells_fault, row_fault, mark_word, bad_line, fault_at, fault_of}
use Rattle.faults.specs.declared.Fault.{Fault}
use Rattle.faults.specs.declared.Fault.TheVariants.{TooLong, ByteOrderMark, Missing, CarriageReturn, NoNewline, Form, Letter, TooMany}

-- ---- the text from a line on
pub from_first : (n : ℕ) (l : List ℕ) → n ≤ 1 → from_line n l ≡ l
unfolding from_line
from_first n [] h = refl
from_first n (b ∷ l) h = rw (le-ltb 1 n h)

module _ (s : List ℕ) (i n : ℕ) where
  pub from_end : length s ≤ i → from_line n (drop i s) ≡ drop i s
  unfolding from_line
  from_end h = rw (drop_of_length-le s h)

  pub from_more : 1 < n → i < length s → from_line n (drop i s) ≡ from_line (n - newlines (get_or s i 0)) (drop (i + 1) s)
  unfolding from_line
  from_more m h = rw (drop-cons s i 0 h, lt-ltb 1 n m, add-one i)

-- ---- a line
module _ (s : List ℕ) (i : ℕ) (other : Fault) where
  pub line_end : length s ≤ i → line_fault other (drop i s) ≡ NoNewline
  unfolding line_fault
  line_end h = rw (drop_of_length-le s h)

  pub line_newline : i < length s → get_or s i 0 ≡ 10 → line_fault other (drop i s) ≡ other
  unfolding line_fault
  line_newline h e = rw (drop-cons s i 0 h, eq-eqb (get_or s i 0) 10 e)

  pub line_return : i < length s → (get_or s i 0 ≡ 10 → ⊥) → get_or s i 0 ≡ 13 → line_fault other (drop i s) ≡ CarriageReturn
  unfolding line_fault
  line_return h d e = rw (drop-cons s i 0 h, ne_eqb (get_or s i 0) 10 d, eq-eqb (get_or s i 0) 13 e)

  pub line_more : i < length s → (get_or s i 0 ≡ 10 → ⊥) → (get_or s i 0 ≡ 13 → ⊥) → line_fault other (drop i s) ≡ line_fault other (drop (i + 1) s)
  unfolding line_fault
  line_more h d e = rw (drop-cons s i 0 h, ne_eqb (get_or s i 0) 10 d, ne_eqb (get_or s i 0) 13 e, add-one i)

-- ---- the cells of a row
module _ (s : List ℕ) (i w k : ℕ) where
  pub cells_end : length s ≤ i → cells_fault w k (drop i s) ≡ counted w k
  unfolding cells_fault
  cells_end h = rw (drop_of_length-le s h)

  pub cells_newline : i < length s → get_or s i 0 ≡ 10 → cells_fault w k (drop i s) ≡ counted w k
  unfolding cells_fault
  cells_newline h e = rw (drop-cons s i 0 h, eq-eqb (get_or s i 0) 10 e)

  pub cells_letter : i < length s → (get_or s i 0 ≡ 10 → ⊥) → is_cell (get_or s i 0) ≡ false → cells_fault w k (drop i s) ≡ Letter k (get_or s i 0)
  unfolding cells_fault
  cells_letter h d e = rw (drop-cons s i 0 h, ne_eqb (get_or s i 0) 10 d, e)

  pub cells_more : i < length s → (get_or s i 0 ≡ 10 → ⊥) → is_cell (get_or s i 0) ≡ true → cells_fault w k (drop i s) ≡ cells_fault w (k + 1) (drop (i + 1) s)
  unfolding cells_fault
  cells_more h d e = rw (drop-cons s i 0 h, ne_eqb (get_or s i 0) 10 d, e, add-one i)

-- ---- a row
pub row_other : (s : List ℕ) (w : ℕ) → pointwise eqb (take 4 s) row_word ≡ false → row_fault w s ≡ Form
unfolding row_fault
row_other s w e = ap (λ (t : Bool). cond t (cells_fault w 0 (drop 4 s)) Form) (begins row_word s ∙ e)

pub row_cells : (s : List ℕ) (w : ℕ) → pointwise eqb (take 4 s) row_word ≡ true → (l : List ℕ) → l ≡ drop 4 s → row_fault w s ≡ cells_fault w 0 l
unfolding row_fault
row_cells s w e l d = ap (λ (t : Bool). cond t (cells_fault w 0 (drop 4 s)) Form) (begins row_word s ∙ e) ∙ ap (cells_fault w 0) (sym d)

-- ---- the number that a line says
pub said_is : (word l k : List ℕ) (r : Num) → number_line word 1024 k ≡ r → k ≡ l → number_in r ≡ said_in word l
unfolding said_in
said_is word l k r e f = ap number_in (sym e) ∙ ap (λ (m : List ℕ). number_in (number_line word 1024 m)) f

-- ---- the text
same_byte : (a b : ℕ) → eqb a b ≡ eqb b a
same_byte a b = go (eqb b a) refl
  where
    go : (t : Bool) → eqb b a ≡ t → eqb a b ≡ t
    go true e = eq-eqb a b (sym (eqb-true b a e))
    go false e = ne_eqb a b (λ q. eqb-false b a e (sym q))

-- as `starts_with` of a slice answers it
word_at : (w s : List ℕ) → starts_with w s ≡ pointwise eqb w (take (length w) s)
word_at [] s = refl
word_at (b ∷ bs) [] = refl
word_at (b ∷ bs) (c ∷ cs) = λ i. same_byte c b i && word_at bs cs i

module _ (t : List ℕ) (n : ℕ) where
  pub too_long : n ≡ 0 → fault_of t n ≡ TooLong
  unfolding fault_of
  too_long z = rw (eq-eqb n 0 z)

  pub marked : (n ≡ 0 → ⊥) → pointwise eqb mark_word (take 3 t) ≡ true → fault_of t n ≡ ByteOrderMark
  unfolding fault_of
  marked z m = rw (ne_eqb n 0 z, word_at mark_word t ∙ m)

  module _ (l : List ℕ) (z : n ≡ 0 → ⊥) (m : pointwise eqb mark_word (take 3 t) ≡ false) (e : l ≡ from_line n t) where
    from_at : fault_of t n ≡ fault_at t n l
    unfolding fault_of
    from_at = rw (ne_eqb n 0 z, word_at mark_word t ∙ m, e)

    pub missing : length l ≡ 0 → fault_of t n ≡ Missing
    missing h = from_at ∙ by l h
      where
        by : (k : List ℕ) → length k ≡ 0 → fault_at t n k ≡ Missing
        by [] h = refl
        by (b ∷ k) h = absurd (never (length k) h)
          where
            never : (j : ℕ) → suc j ≡ 0 → ⊥
            never j e = omega arith

    pub there : (length l ≡ 0 → ⊥) → fault_of t n ≡ bad_line t n l
    there h = from_at ∙ by l h
      where
        by : (k : List ℕ) → (length k ≡ 0 → ⊥) → fault_at t n k ≡ bad_line t n k
        by [] h = absurd (h refl)
        by (b ∷ k) h = refl

  pub head_line : (l : List ℕ) → n < 6 → bad_line t n l ≡ line_fault Form l
  head_line l h = rw (lt-ltb n 6 h)

  pub too_many : (l : List ℕ) → 6 ≤ n → said_in height_word (from_line 2 t) ≤ n - 6 → bad_line t n l ≡ TooMany
  too_many l h k = rw (le-ltb n 6 h, le-leb (said_in height_word (from_line 2 t)) (n - 6) k)

  pub row_line : (l : List ℕ) → 6 ≤ n → n - 6 < said_in height_word (from_line 2 t) → bad_line t n l ≡ line_fault (row_fault (said_in width_word (from_line 1 t)) l) l
  row_line l h k = rw (le-ltb n 6 h, lt-leb (said_in height_word (from_line 2 t)) (n - 6) k)

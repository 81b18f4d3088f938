-- A word, one byte at a time; a line by its parts, and within the text. Assumes nothing.
use Rattle.std.specs.Prelude.{Some, None}
use lib.Pointwise.{pointwise}
use mathlib.Core.Path.{◌≡◌, refl, sym, ap, ◌∙◌}
use mathlib.Core.Bool.{Bool, true, false, ◌&&◌, cond}
use mathlib.Core.List.{List, [], ◌∷◌}
use Prim.Native.Nat.{ℕ, ◌+◌, ◌≤◌, ◌<◌}
use native.Mathlib.Omega.{arith}
use borrow.Author.Tests.{ltb-true}
use lib.Dec.{ltb, eqb}
use lib.ListN.{length, take, drop, get_or, length-drop}
use lib.Seq.{drop-drop}
use Rattle.points.specs.declared.Point.{Point}
use Rattle.text.specs.Grammar.{Num, Pair, number_of, pair_of}
use Rattle.text.proofs.Steps.{front, front_is, Bounded, number_bounded, PBounded, pair_bounded}
use Rattle.lines.specs.Lines.{starts_with, number_end, point_end, number_line, point_line}

-- ---- a word
pub begins : (w s : List ℕ) → starts_with w s ≡ pointwise eqb (take (length w) s) w
begins [] s = refl
begins (b ∷ bs) [] = refl
begins (b ∷ bs) (c ∷ cs) = ap (λ (t : Bool). eqb c b && t) (begins bs cs)

-- ---- a line, where the word is followed by l, and the number or the point by r
module _ (w : List ℕ) (limit : ℕ) (s : List ℕ) where
  pub number_line_other : pointwise eqb (take (length w) s) w ≡ false → number_line w limit s ≡ None
  unfolding number_line
  number_line_other e = ap (λ (t : Bool). cond t (number_end (length w) (drop (length w) s) (number_of limit (drop (length w) s))) None) (begins w s ∙ e)

  module _ (l : List ℕ) (e : pointwise eqb (take (length w) s) w ≡ true) (d : l ≡ drop (length w) s) where
    pub number_line_rest : number_line w limit s ≡ number_end (length w) l (number_of limit l)
    unfolding number_line
    number_line_rest =
        ap (λ (t : Bool). cond t (number_end (length w) (drop (length w) s) (number_of limit (drop (length w) s))) None) (begins w s ∙ e)
        ∙ ap (λ (l : List ℕ). number_end (length w) l (number_of limit l)) (sym d)

    pub number_line_none : number_of limit l ≡ None → number_line w limit s ≡ None
    number_line_none q = number_line_rest ∙ ap (number_end (length w) l) q

    pub number_line_some : (v n : ℕ) → number_of limit l ≡ Some (v, n) → (r : List ℕ) → r ≡ drop n l → (t : Bool) → front 10 r ≡ t → number_line w limit s ≡ cond t (Some (v, length w + n + 1)) None
    number_line_some v n q r h t f = number_line_rest ∙ ap (number_end (length w) l) q ∙ ap (λ (b : Bool). cond b (Some (v, length w + n + 1)) None) (front_is l n 10 ∙ ap (front 10) (sym h) ∙ f)

module _ (w s : List ℕ) where
  pub point_line_other : pointwise eqb (take (length w) s) w ≡ false → point_line w s ≡ None
  unfolding point_line
  point_line_other e = ap (λ (t : Bool). cond t (point_end (length w) (drop (length w) s) (pair_of (drop (length w) s))) None) (begins w s ∙ e)

  module _ (l : List ℕ) (e : pointwise eqb (take (length w) s) w ≡ true) (d : l ≡ drop (length w) s) where
    pub point_line_rest : point_line w s ≡ point_end (length w) l (pair_of l)
    unfolding point_line
    point_line_rest =
        ap (λ (t : Bool). cond t (point_end (length w) (drop (length w) s) (pair_of (drop (length w) s))) None) (begins w s ∙ e)
        ∙ ap (λ (l : List ℕ). point_end (length w) l (pair_of l)) (sym d)

    pub point_line_none : pair_of l ≡ None → point_line w s ≡ None
    point_line_none q = point_line_rest ∙ ap (point_end (length w) l) q

    pub point_line_some : (p : Point) (n : ℕ) → pair_of l ≡ Some (p, n) → (r : List ℕ) → r ≡ drop n l → (t : Bool) → front 10 r ≡ t → point_line w s ≡ cond t (Some (p, length w + n + 1)) None
    point_line_some p n q r h t f = point_line_rest ∙ ap (point_end (length w) l) q ∙ ap (λ (b : Bool). cond b (Some (p, length w + n + 1)) None) (front_is l n 10 ∙ ap (front 10) (sym h) ∙ f)

-- the text after a line of a word of k bytes, n bytes and a newline
pub after_line : (s l r q : List ℕ) (k n : ℕ) → l ≡ drop k s → r ≡ drop n l → q ≡ drop 1 r → q ≡ drop (k + n + 1) s
after_line s l r q k n a b c = c ∙ ap (drop 1) (b ∙ ap (drop n) a ∙ drop-drop n k s) ∙ drop-drop 1 (k + n) s

-- ---- a line that was read is within the text
pub number_line_bounded : (w : List ℕ) (limit : ℕ) (l : List ℕ) → 9 ≤ limit → Bounded limit (length l) (number_line w limit l)
unfolding number_line
number_line_bounded w limit l h = go (starts_with w l)
  where
    ends : (r : Num) → Bounded limit (length (drop (length w) l)) r → Bounded limit (length l) (number_end (length w) (drop (length w) l) r)
    ends (Some (v, n)) b = fin (ltb n (length (drop (length w) l))) (eqb (get_or (drop (length w) l) n 0) 10) (ltb-true n (length (drop (length w) l)))
      where
        fin : (t e : Bool) → (t ≡ true → n < length (drop (length w) l)) → Bounded limit (length l) (cond (t && e) (Some (v, length w + n + 1)) None)
        fin true true q = (b.0, omega (arith, q refl, length-drop (length w) l))
        fin true false q = tt
        fin false e q = tt
    ends None b = tt

    go : (t : Bool) → Bounded limit (length l) (cond t (number_end (length w) (drop (length w) l) (number_of limit (drop (length w) l))) None)
    go true = ends (number_of limit (drop (length w) l)) (number_bounded limit (drop (length w) l) h)
    go false = tt

pub point_line_bounded : (w l : List ℕ) → PBounded (length l) (point_line w l)
unfolding point_line
point_line_bounded w l = go (starts_with w l)
  where
    ends : (r : Pair) → PBounded (length (drop (length w) l)) r → PBounded (length l) (point_end (length w) (drop (length w) l) r)
    ends (Some (p, n)) b = fin (ltb n (length (drop (length w) l))) (eqb (get_or (drop (length w) l) n 0) 10) (ltb-true n (length (drop (length w) l)))
      where
        fin : (t e : Bool) → (t ≡ true → n < length (drop (length w) l)) → PBounded (length l) (cond (t && e) (Some (p, length w + n + 1)) None)
        fin true true q = (b.0, omega (arith, q refl, length-drop (length w) l))
        fin true false q = tt
        fin false e q = tt
    ends None b = tt

    go : (t : Bool) → PBounded (length l) (cond t (point_end (length w) (drop (length w) l) (pair_of (drop (length w) l))) None)
    go true = ends (pair_of (drop (length w) l)) (pair_bounded (drop (length w) l))
    go false = tt

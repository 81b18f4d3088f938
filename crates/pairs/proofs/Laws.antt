-- A list of points, two numbers at a time. Assumes nothing.
use mathlib.Core.Path.{◌≡◌, sym, ap, ◌∙◌, subst}
use mathlib.Core.Bool.{Bool, true, false, cond}
use mathlib.Core.List.{List, ◌∷◌}
use Prim.Native.Nat.{ℕ, suc, ◌+◌, ◌*◌, ◌≤◌, ◌<◌}
use native.Mathlib.Omega.{arith}
use lib.Dec.{T}
use lib.IntN.{ℤ, pos}
use lib.ListN.{length, get_or, drop, drop_of_length-le}
use lib.Seq.{drop-cons}
use Rattle.std.proofs.lemmas.Option.{none-some}
use Rattle.points.specs.Plane.{legal}
use Rattle.points.specs.declared.Point.{Point}
use Rattle.pairs.specs.Pairs.{point_at, first_bad}
use Rattle.std.specs.Prelude.{Some, None}

-- point number k and the points after it
module _ (l : List ℤ) (k : ℕ) where
  pub two_more : 2 * k + 1 < length l → drop (2 * k) l ≡ get_or l (2 * k) (pos 0) ∷ get_or l (2 * k + 1) (pos 0) ∷ drop (2 * (k + 1)) l
  two_more h =
      drop-cons l (2 * k) (pos 0) (omega arith)
      ∙ ap (λ (r : List ℤ). get_or l (2 * k) (pos 0) ∷ r) (ap (λ (n : ℕ). drop n l) one ∙ drop-cons l (2 * k + 1) (pos 0) h ∙ ap (λ (n : ℕ). get_or l (2 * k + 1) (pos 0) ∷ drop n l) two)
    where
      one : suc (2 * k) ≡ 2 * k + 1
      one = omega arith

      two : suc (2 * k + 1) ≡ 2 * (k + 1)
      two = omega arith

  pub bad_more : 2 * k + 1 < length l → first_bad (drop (2 * k) l) ≡ cond (legal (point_at l (2 * k))) (first_bad (drop (2 * (k + 1)) l)) (Some (point_at l (2 * k)))
  unfolding first_bad
  bad_more h = ap first_bad (two_more h)

  -- by what a call handed back: the point p, and t whether it is legal
  pub bad_by : (p : Point) (t : Bool) → p ≡ point_at l (2 * k) → t ≡ legal p → 2 * k + 1 < length l → cond t (first_bad (drop (2 * (k + 1)) l)) (Some p) ≡ first_bad (drop (2 * k) l)
  bad_by p t e f h = (λ i. cond ((f ∙ ap legal e) i) (first_bad (drop (2 * (k + 1)) l)) (Some (e i))) ∙ sym (bad_more h)

  pub bad_end : length l ≤ 2 * k → first_bad (drop (2 * k) l) ≡ None
  unfolding first_bad
  bad_end h = ap first_bad (drop_of_length-le l h)

  -- past a list with no bad point: this point is legal, and none of the rest is bad
  pub none_bad : 2 * k + 1 < length l → first_bad (drop (2 * k) l) ≡ None → T (legal (point_at l (2 * k))) × (first_bad (drop (2 * (k + 1)) l) ≡ None)
  none_bad h e = go (legal (point_at l (2 * k))) (sym (bad_more h) ∙ e)
    where
      go : (t : Bool) → cond t (first_bad (drop (2 * (k + 1)) l)) (Some (point_at l (2 * k))) ≡ None → T t × (first_bad (drop (2 * (k + 1)) l) ≡ None)
      go true q = (tt, q)
      go false q = absurd (none-some (point_at l (2 * k)) (sym q))

-- a point that a call handed back is legal where the list's is
pub legal_here : (l : List ℤ) (i : ℕ) (r : Point) → r ≡ point_at l i → T (legal (point_at l i)) → T (legal r)
legal_here l i r e t = subst (λ (q : Point). T (legal q)) (sym e) t

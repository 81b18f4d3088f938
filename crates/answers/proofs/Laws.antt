-- The lines of the waypoints, one at a time. Assumes nothing.
use mathlib.Core.Path.{◌≡◌, sym, ap, ◌∙◌}
use mathlib.Core.List.{List, [], ◌++◌}
use Prim.Native.Nat.{ℕ, ◌+◌, ◌*◌, ◌≤◌, ◌<◌}
use native.Mathlib.Omega.{arith}
use lib.IntN.{ℤ}
use lib.ListN.{length, drop, drop_of_length-le, length-append}
use lib.Seq.{sets}
use Rattle.points.specs.declared.Point.{Point}
use Rattle.printing.specs.Render.{point_text}
use Rattle.printing.proofs.Written.{sets_append}
use Rattle.pairs.specs.Pairs.{point_at}
use Rattle.pairs.proofs.Laws.{two_more}
use Rattle.answers.specs.Answers.{point_word, points_text}

pub points_end : (l : List ℤ) (i : ℕ) → length l ≤ 2 * i → points_text (drop (2 * i) l) ≡ []
unfolding points_text
points_end l i h = ap points_text (drop_of_length-le l h)

module _ (l : List ℤ) (i : ℕ) (r : Point) (e : r ≡ point_at l (2 * i)) (h : 2 * i + 1 < length l) where
  more : points_text (drop (2 * i) l) ≡ point_text point_word r ++ points_text (drop (2 * (i + 1)) l)
  unfolding points_text
  more = ap points_text (two_more l i h) ∙ ap (λ (p : Point). point_text point_word p ++ points_text (drop (2 * (i + 1)) l)) (sym e)

  module _ (k end : ℕ) (f : end ≡ k + length (point_text point_word r)) where
    pub points_count : end + length (points_text (drop (2 * (i + 1)) l)) ≡ k + length (points_text (drop (2 * i) l))
    points_count = omega (arith, f, ap length more, length-append (point_text point_word r) (points_text (drop (2 * (i + 1)) l)))

    pub points_stores : (buf new : List ℕ) → new ≡ sets buf k (point_text point_word r) → sets new end (points_text (drop (2 * (i + 1)) l)) ≡ sets buf k (points_text (drop (2 * i) l))
    points_stores buf new g =
        (λ j. sets (g j) (f j) (points_text (drop (2 * (i + 1)) l)))
        ∙ sym (ap (sets buf k) more ∙ sets_append buf k (point_text point_word r) (points_text (drop (2 * (i + 1)) l)))

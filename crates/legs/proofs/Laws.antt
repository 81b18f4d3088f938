-- The first bent leg, one leg at a time. Assumes nothing.
use mathlib.Core.Path.{◌≡◌, sym, ap, ◌∙◌}
use mathlib.Core.Bool.{Bool, cond}
use mathlib.Core.List.{List}
use Prim.Native.Nat.{ℕ, ◌+◌, ◌*◌, ◌≤◌, ◌<◌}
use lib.IntN.{ℤ}
use lib.ListN.{length, drop, drop_of_length-le}
use Rattle.points.specs.declared.Point.{Point}
use Rattle.bends.specs.declared.Heading.{Heading}
use Rattle.bends.specs.Bends.{bent_of}
use Rattle.headings.specs.Headings.{heading_of}
use Rattle.pairs.specs.Pairs.{point_at}
use Rattle.pairs.proofs.Laws.{two_more}
use Rattle.legs.specs.Legs.{bent_from, first_bent_of}
use Rattle.std.specs.Prelude.{Some, None, Result}
use Rattle.points.specs.declared.Refusal.{Refusal}

module _ (l : List ℤ) where
  pub bent_begin : (p : Point) → p ≡ point_at l 0 → 1 < length l → bent_from 1 p (drop 2 l) ≡ first_bent_of l
  unfolding first_bent_of
  bent_begin p e some = ap (λ (q : Point). bent_from 1 q (drop 2 l)) e ∙ sym (ap first_bent_of (two_more l 0 some))

  pub bent_end : (k : ℕ) (p : Point) → length l ≤ 2 * k → bent_from k p (drop (2 * k) l) ≡ None
  unfolding bent_from
  bent_end k p e = ap (bent_from k p) (drop_of_length-le l e)

  -- q is the next waypoint, and t whether the leg to it is bent, by the heading h that a call handed back
  pub bent_more : (k : ℕ) (p q : Point) (h : Result Heading Refusal) (t : Bool) → q ≡ point_at l (2 * k) → 2 * k + 1 < length l → h ≡ heading_of p q → t ≡ bent_of h
      → cond t (Some k) (bent_from (k + 1) q (drop (2 * (k + 1)) l)) ≡ bent_from k p (drop (2 * k) l)
  unfolding bent_from
  bent_more k p q h t e more f g =
      sym (ap (bent_from k p) (two_more l k more)
      ∙ ap (λ (r : Point). cond (bent_of (heading_of p r)) (Some k) (bent_from (k + 1) r (drop (2 * (k + 1)) l))) (sym e)
      ∙ ap (λ (b : Bool). cond b (Some k) (bent_from (k + 1) q (drop (2 * (k + 1)) l))) (sym (g ∙ ap bent_of f)))

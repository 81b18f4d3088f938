-- The route check, step by step and leg by leg, and by its tests. Assumes nothing.
use mathlib.Core.Path.{◌≡◌, refl, sym, ap, ◌∙◌}
use mathlib.Core.Bool.{Bool, true, false, ◌&&◌, and_assoc}
use mathlib.Core.List.{List, [], ◌∷◌, ◌++◌}
use Prim.Native.Nat.{ℕ, suc, ◌+◌, ◌*◌, ◌%◌, ◌≤◌, ◌<◌}
use native.Mathlib.Omega.{arith}
use borrow.Author.Tests.{lt-ltb, le-ltb}
use lib.Dec.{eqb}
use lib.IntN.{ℤ}
use lib.ListN.{length, get_or, drop}
use Rattle.std.specs.Prelude.{Err}
use Rattle.points.specs.declared.Point.{Point}
use Rattle.points.specs.declared.Refusal.TheVariants.{State}
use Rattle.cells.specs.Cells.{cell_of}
use Rattle.grid.specs.Grids.{legal_of}
use Rattle.grid.specs.declared.Grid.{Grid}
use Rattle.pairs.specs.Pairs.{Even, point, point_at}
use Rattle.headings.specs.Headings.{span_of}
use Rattle.paths.specs.Walks.{next_to, walk_of, path_from}
use Rattle.paths.proofs.Laws.{walk_length, path_more, path_end, path_whole}
use Rattle.checks.specs.Checks.{free_at, all_free, clear_of, check_in, check_of}

-- ---- a point
module _ (w h : ℕ) (blocked : List ℕ) where
  -- c is its cell
  pub free_out : (p : Point) (c : ℕ) → c ≡ cell_of w h p → w * h ≤ c → false ≡ free_at w h blocked p
  unfolding free_at
  free_out p c f e = sym (ap (λ (t : Bool). t && eqb (get_or blocked (cell_of w h p) 0) 0) (le-ltb (cell_of w h p) (w * h) (omega arith)))

  pub free_in : (p : Point) (c : ℕ) → c ≡ cell_of w h p → c < w * h → eqb (get_or blocked c 0) 0 ≡ free_at w h blocked p
  unfolding free_at
  free_in p c f e = ap (λ (n : ℕ). eqb (get_or blocked n 0) 0) f ∙ sym (ap (λ (t : Bool). t && eqb (get_or blocked (cell_of w h p) 0) 0) (lt-ltb (cell_of w h p) (w * h) (omega arith)))

  -- ---- points before others
  all_append : (xs ys : List ℤ) → Even (length xs) → all_free w h blocked (xs ++ ys) ≡ all_free w h blocked xs && all_free w h blocked ys
  unfolding all_free
  all_append [] ys e = refl
  all_append (x ∷ []) ys e = absurd (odd e)
    where
      odd : 1 % 2 ≡ 0 → ⊥
      odd e = omega arith
  all_append (x ∷ y ∷ xs) ys e = ap (λ (t : Bool). free_at w h blocked (point x y) && t) (all_append xs ys (omega (arith, e))) ∙ sym (and_assoc (free_at w h blocked (point x y)) (all_free w h blocked xs) (all_free w h blocked ys))

  -- ---- a leg, one step at a time
  pub leg_end : (p q : Point) (left : ℕ) → left ≡ 0 → all_free w h blocked (walk_of left p q) ≡ true
  unfolding walk_of all_free
  leg_end p q left e = ap (λ (n : ℕ). all_free w h blocked (walk_of n p q)) e

  -- r is the next point, t whether it is free, and n how many steps are left then
  pub leg_more : (p q r : Point) (n m : ℕ) (t : Bool) → r ≡ next_to p q → m ≡ suc n → t ≡ free_at w h blocked r
      → t && all_free w h blocked (walk_of n r q) ≡ all_free w h blocked (walk_of m p q)
  unfolding walk_of all_free
  leg_more p q r n m t e more f =
      (λ j. f j && all_free w h blocked (walk_of n r q))
      ∙ ap (λ (s : Point). free_at w h blocked s && all_free w h blocked (walk_of n s q)) e
      ∙ ap (λ (k : ℕ). all_free w h blocked (walk_of k p q)) (sym more)

  -- ---- the path, one leg at a time
  module _ (l : List ℤ) where
    pub clear_begin : (p : Point) → p ≡ point_at l 0 → 1 < length l → all_free w h blocked (path_from p (drop 2 l)) ≡ clear_of w h blocked l
    clear_begin p e some = ap (λ (q : Point). all_free w h blocked (path_from q (drop 2 l))) e ∙ ap (λ (m : List ℤ). all_free w h blocked (drop 2 m)) (sym (path_whole l some))

    pub clear_end : (k : ℕ) (p : Point) → length l ≤ 2 * k → all_free w h blocked (path_from p (drop (2 * k) l)) ≡ true
    unfolding all_free
    clear_end k p e = ap (all_free w h blocked) (path_end l k p e)

    -- q is the next waypoint, and t whether the leg to it is clear
    pub clear_more : (k : ℕ) (p q : Point) (t : Bool) → q ≡ point_at l (2 * k) → 2 * k + 1 < length l → t ≡ all_free w h blocked (walk_of (span_of p q) p q)
        → t && all_free w h blocked (path_from q (drop (2 * (k + 1)) l)) ≡ all_free w h blocked (path_from p (drop (2 * k) l))
    clear_more k p q t e more f =
        sym (ap (all_free w h blocked) (path_more l k p more)
        ∙ ap (λ (r : Point). all_free w h blocked (walk_of (span_of p r) p r ++ path_from r (drop (2 * (k + 1)) l))) (sym e)
        ∙ all_append (walk_of (span_of p q) p q) (path_from q (drop (2 * (k + 1)) l)) (omega (arith, walk_length (span_of p q) p q))
        ∙ ap (λ (b : Bool). b && all_free w h blocked (path_from q (drop (2 * (k + 1)) l))) (sym f))

-- ---- the check on a grid: STATE first
module _ (g : Grid) (l : List ℤ) where
  pub check_state : legal_of g ≡ false → Err State ≡ check_of g l
  unfolding check_of
  check_state e = rw e

  pub check_held : legal_of g ≡ true → check_in g.width g.height g.blocked l ≡ check_of g l
  unfolding check_of
  check_held e = rw e

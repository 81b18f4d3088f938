-- Walks: an equivalence, and what follows from a law on one move. Assumes nothing.
use mathlib.Core.Path.{refl, sym, ◌∙◌}
use mathlib.Core.Logic.{⊎_elim, inl, inr}
use mathlib.Core.Bool.{Bool}
use mathlib.Core.List.{List}
use Prim.Native.Nat.{ℕ}
use Rattle.components.specs.Components.{Same}
use Rattle.demand.specs.Walks.{Step, Move, Walk, stay, move}

pub step_back : {diagonal : Bool} {x y i j : ℕ} → Step diagonal x y i j → Step diagonal i j x y
step_back s =
    record {
      across = (s.across.1, s.across.0);
      along = (s.along.1, s.along.0);
      straight = ⊎_elim (λ d. inl d) (λ e. inr (⊎_elim (λ p. inl (sym p)) (λ q. inr (sym q)) e)) s.straight;
    }

module _ {w h : ℕ} {blocked : List ℕ} {diagonal : Bool} where
  pub move_back : {a c : ℕ} → Move w h blocked diagonal a c → Move w h blocked diagonal c a
  move_back m =
      record {
        x = m.i;
        y = m.j;
        i = m.x;
        j = m.y;
        from = m.to;
        to = m.from;
        leaves = m.enters;
        enters = m.leaves;
        step = step_back m.step;
      }

  pub one : {a c : ℕ} → Move w h blocked diagonal a c → Walk w h blocked diagonal a c
  one m = move stay m

  pub on : {a b c : ℕ} → Walk w h blocked diagonal a b → Walk w h blocked diagonal b c → Walk w h blocked diagonal a c
  on p stay = p
  on p (move q m) = move (on p q) m

  pub back : {a c : ℕ} → Walk w h blocked diagonal a c → Walk w h blocked diagonal c a
  back stay = stay
  back (move q m) = on (one (move_back m)) (back q)

  -- what holds of each move, and carries on, holds of a walk
  pub walk_same : (p : List ℕ) → ((a c : ℕ) → Move w h blocked diagonal a c → Same p a c) → (a c : ℕ) → Walk w h blocked diagonal a c → Same p a c
  walk_same p f a c stay = refl
  walk_same p f a c (move {b = b} q m) = walk_same p f a b q ∙ f b c m

  pub walk_map : (blocked' : List ℕ) → ((a c : ℕ) → Move w h blocked diagonal a c → Move w h blocked' diagonal a c) → {a c : ℕ} → Walk w h blocked diagonal a c → Walk w h blocked' diagonal a c
  walk_map blocked' f stay = stay
  walk_map blocked' f (move {b = b} {c = c} q m) = move (walk_map blocked' f q) (f b c m)

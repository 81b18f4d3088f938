-- `looks::Scene::sees_beside` meets its contract: it looks to the right first, and the definition names the left first. Assumes nothing.
use mathlib.Core.Path.{◌≡◌, refl, ◌∙◌}
use mathlib.Core.Bool.{Bool, true, false}
use mathlib.Core.List.{List}
use Prim.Native.Nat.{ℕ}
use lib.IntN.{ℤ}
use borrow.Author.Tests.{eq-eqb, ne_eqb}
use Rattle.goals.specs.declared.Plan.{Plan}
use Rattle.goals.specs.Goals.{either}
use Rattle.looks.specs.Looks.{sees_on, sees_either, turns_at}
use Rattle.looks.proofs.Scene.sees_beside.Goals as goal

either_exchanged : (a b : Bool) → either a b ≡ either b a
either_exchanged true true = refl
either_exchanged true false = refl
either_exchanged false true = refl
either_exchanged false false = refl

sees_exchanged : (blocked forced : List ℕ) (goals : List ℤ) (p : Plan) (d e x y : ℕ) → sees_either blocked forced goals p d e x y ≡ sees_either blocked forced goals p e d x y
unfolding sees_either
sees_exchanged blocked forced goals p d e x y = either_exchanged (sees_on blocked forced goals p d x y) (sees_on blocked forced goals p e x y)

pub returns-then-d-eq1 : goal.returns-then-d-eq1
unfolding turns_at
returns-then-d-eq1 c = rw (eq-eqb _ 1 c.if-d-eq1.true, ← c.left_of-left.ensures.0, ← c.right_of-right.ensures.0) (c.sees_either.ensures ∙ sees_exchanged _ _ _ _ _ _ _ _)

pub returns-else-d-eq1 : goal.returns-else-d-eq1
unfolding turns_at
returns-else-d-eq1 c = rw (ne_eqb _ 1 c.if-d-eq1.false)

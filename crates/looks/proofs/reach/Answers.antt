-- `looks::reach` meets its contract. Assumes nothing.
-- neither offset is 1
use mathlib.Core.Path.{◌≡◌}
use Prim.Native.Nat.{ℕ, min}
use borrow.Author.Tests.{eq-eqb, ne_eqb}
use Rattle.looks.specs.Looks.{ahead_of, reach_of}
use Rattle.looks.proofs.reach.Goals as goal

least : (ox oy w h x y a b m : ℕ) → (ox ≡ 1 → ⊥) → (oy ≡ 1 → ⊥) → a ≡ ahead_of ox w x → b ≡ ahead_of oy h y → m ≡ min a b → m ≡ reach_of ox oy w h x y
unfolding reach_of
least ox oy w h x y a b m n o e f g = rw (ne_eqb ox 1 n, ne_eqb oy 1 o, ← e, ← f) g

pub returns-then-ox-eq1 : goal.returns-then-ox-eq1
unfolding reach_of
returns-then-ox-eq1 c = rw (eq-eqb _ _ c.if-ox-eq1.true) c.ahead.ensures

pub returns-then-oy-eq1 : goal.returns-then-oy-eq1
unfolding reach_of
returns-then-oy-eq1 c = rw (ne_eqb _ _ c.if-ox-eq1.false, eq-eqb _ _ c.if-oy-eq1.true) c.ahead-across.ensures

pub returns : goal.returns
returns c = least _ _ _ _ _ _ _ _ _ c.if-ox-eq1.false c.if-oy-eq1.false c.ahead-across.ensures c.ahead-down.ensures c.min.ensures

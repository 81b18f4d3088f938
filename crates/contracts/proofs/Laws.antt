-- An equation allows one value, and two equations one pair. Assumes nothing.
use Rattle.std.specs.Prelude.{Result}
use mathlib.Core.Path.{◌≡◌, ap, sym, ◌∙◌}
use Rattle.points.specs.declared.Refusal.{Refusal}
use Rattle.grid.specs.declared.Change.{Change}
use Rattle.grid.specs.declared.Grid.{Grid}

pub equal : {A : Type 0} {d x y : A} → x ≡ d → y ≡ d → x ≡ y
equal p q = p ∙ sym q

pub both : {A B : Type 0} {d x y : A} {o u v : B} → (x ≡ d) × (u ≡ o) → (y ≡ d) × (v ≡ o) → (x ≡ y) × (u ≡ v)
both p q = (equal p.0 q.0, equal p.1 q.1)

-- an outcome and a grid, told by one change
pub change : {d : Change} {x y : Result Unit Refusal} {g h : Grid} → record { outcome = x; grid = g } ≡ d → record { outcome = y; grid = h } ≡ d → (x ≡ y) × (g ≡ h)
change p q = let e = equal p q in (ap (λ (c : Change). c.outcome) e, ap (λ (c : Change). c.grid) e)

-- where the second is told by the first
pub by_first : {A B : Type 0} {d x y : A} {u v : B} (kept : A → B) → (x ≡ d) × (u ≡ kept x) → (y ≡ d) × (v ≡ kept y) → (x ≡ y) × (u ≡ v)
by_first kept p q = let s = equal p.0 q.0 in (s, p.1 ∙ ap kept s ∙ sym q.1)

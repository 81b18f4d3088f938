-- What a point that passed the test of its range is. Assumes nothing.
use Rattle.std.proofs.Common.{◌≡◌, ℕ, Bool, true, false, cond, T, Result, Ok, Err, refl, sym, ap, ◌∙◌, subst, arith}
use Rattle.points.specs.Plane.{legal}
use Rattle.points.specs.Refusals.{checked_of, of_legal}
use Rattle.points.specs.declared.Point.{Point}
use Rattle.points.specs.declared.Refusal.{Refusal}
use Rattle.points.specs.declared.Refusal.TheVariants.{BadPoint}

-- it is the point, and in range
pub checked_ok : (p q : Point) (r : Result Point Refusal) → r ≡ checked_of p → r ≡ Ok q → (q ≡ p) × T (legal q)
checked_ok p q r e f = go (legal p) (λ t. t) (sym e ∙ f)
  where
    same : ◌≡◌ {A = Result Point Refusal} (Ok p) (Ok q) → q ≡ p
    same h = cc

    never : ◌≡◌ {A = Result Point Refusal} (Err (BadPoint p)) (Ok q) → ⊥
    never h = let z : ◌≡◌ {A = ℕ} 0 1 = cc in omega arith

    go : (b : Bool) → (T b → T (legal p)) → cond b (Ok p) (Err (BadPoint p)) ≡ Ok q → (q ≡ p) × T (legal q)
    go true t h = (same h, subst (λ (s : Point). T (legal s)) (sym (same h)) (t tt))
    go false t h = absurd (never h)

-- an answer about two points that both passed
pub both_checked : {X : Type 0} (f : Point → Point → Result X Refusal) (a b p q : Point) (r s : Result Point Refusal) → r ≡ checked_of a → r ≡ Ok p → s ≡ checked_of b → s ≡ Ok q → f p q ≡ of_legal a b (f a b)
both_checked f a b p q r s e f' g h =
    let k = checked_ok a p r e f' in
    let l = checked_ok b q s g h in
    (λ i. f (k.0 i) (l.0 i)) ∙ go (legal a) (legal b) (subst (λ (t : Point). T (legal t)) k.0 k.1) (subst (λ (t : Point). T (legal t)) l.0 l.1)
  where
    go : (s t : Bool) → T s → T t → f a b ≡ cond s (cond t (f a b) (Err (BadPoint b))) (Err (BadPoint a))
    go true true u v = refl
    go true false u v = absurd v
    go false t u v = absurd u

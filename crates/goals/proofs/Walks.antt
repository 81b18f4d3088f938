-- Going through a list of goals: one turn of each loop, and its end. Assumes nothing.
use mathlib.Core.Path.{◌≡◌, refl, sym, ap, ◌∙◌, subst}
use mathlib.Core.Bool.{Bool, true, false}
use mathlib.Core.List.{List}
use Prim.Native.Nat.{ℕ, zero, suc, ◌+◌, ◌-◌, ◌*◌, ◌<◌, ◌≤◌, min}
use native.Mathlib.Omega.{arith}
use native.Mathlib.Numerals.{add-one}
use native.Mathlib.Nat.{zero-add}
use lib.Dec.{T}
use lib.IntN.{ℤ}
use lib.ListN.{length, drop}
use Rattle.points.specs.Plane.{legal}
use Rattle.points.specs.declared.Point.{Point}
use Rattle.pairs.specs.Pairs as pairs
use Rattle.pairs.specs.Pairs.{first_bad}
use Rattle.pairs.proofs.Laws.{none_bad}
use Rattle.costs.specs.Cost.{dist_of}
use Rattle.std.specs.Prelude.{cond, Some, None}
use Rattle.std.proofs.lemmas.Option.{none-some}
use Rattle.goals.specs.Goals.{point_at, same_point, among_to, least_to, Legals}

module _ (gs : List ℤ) (n i : ℕ) where
  left_suc : i < n → n - i ≡ suc (n - (i + 1))
  left_suc h = omega arith

  left_none : n ≤ i → n - i ≡ 0
  left_none h = omega arith

  module _ (p : Point) where
    pub among_hit : i < n → same_point p (point_at gs i) ≡ true → true ≡ among_to gs p (n - i) i
    unfolding among_to
    among_hit h e = rw (left_suc h, e)

    pub among_next : i < n → same_point p (point_at gs i) ≡ false → among_to gs p (n - (i + 1)) (i + 1) ≡ among_to gs p (n - i) i
    unfolding among_to
    among_next h e = rw (left_suc h, e)

    pub among_end : n ≤ i → false ≡ among_to gs p (n - i) i
    unfolding among_to
    among_end h = rw (left_none h)

  pub least_next : (d : Bool) (p : Point) → min (least_to gs d p i) (dist_of d p (point_at gs i)) ≡ least_to gs d p (i + 1)
  unfolding least_to
  least_next d p = rw (add-one i)

-- a goal that a call handed back is in range
pub legal_of : (gs : List ℤ) (n i : ℕ) (p : Point) → Legals gs n → i < n → p ≡ pairs.point_at gs (2 * i) → T (legal p)
unfolding point_at
legal_of gs n i p k h e = subst (λ (q : Point). T (legal q)) (sym e) (k.each i h)

-- the first alone
pub least_first : (gs : List ℤ) (d : Bool) (p : Point) → dist_of d p (point_at gs 0) ≡ least_to gs d p 1
unfolding least_to
least_first gs d p = go (dist_of d p (point_at gs 0))
  where
    go : (n : ℕ) → n ≡ min n n
    go n = omega arith

-- where none of the goals is out of range, each is in range
clean : (gs : List ℤ) (i : ℕ) → 2 * i ≤ length gs → None ≡ first_bad gs → first_bad (drop (2 * i) gs) ≡ None
clean gs zero l e = sym e
clean gs (suc i) l e = ap (λ (k : ℕ). first_bad (drop (2 * k) gs)) next ∙ (none_bad gs i (omega arith) (clean gs i (omega arith) e)).1
  where
    next : suc i ≡ i + 1
    next = omega arith

pub legals : (gs : List ℤ) (n : ℕ) → 2 * n ≤ length gs → None ≡ first_bad gs → Legals gs n
unfolding point_at
legals gs n l e = record { long = omega arith; each = λ i h. (none_bad gs i (omega arith) (clean gs i (omega arith) e)).0 }

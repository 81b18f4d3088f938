-- A list that is taken: neither empty nor odd, with no point out of range. Assumes nothing.
use Rattle.std.proofs.Common.{◌≡◌, ℕ, ◌%◌, Bool, true, false, cond, eqb, List, ℤ, length, Option, Some, None, Result, Ok, Err, refl, arith}
use borrow.Author.Tests.{ne_eqb, eqb-false}
use Rattle.points.specs.declared.Point.{Point}
use Rattle.points.specs.declared.Refusal.{Refusal}
use Rattle.points.specs.declared.Refusal.TheVariants.{List as ListBroken, BadPoint}
use Rattle.pairs.specs.Pairs.{first_bad, blamed_of, taken_of}

pub record Taken (l : List ℤ) : Type 0 where
  pub some : length l ≡ 0 → ⊥
  pub even : length l % 2 ≡ 1 → ⊥
  pub none : first_bad l ≡ None

-- its answer is the one that follows
pub taken_is : {X : Type 0} (l : List ℤ) (r : Result X Refusal) → Taken l → taken_of l r ≡ r
taken_is l r k = λ i. cond (ne_eqb (length l) 0 k.some i) (Err ListBroken) (cond (ne_eqb (length l % 2) 1 k.even i) (Err ListBroken) (blamed_of (k.none i) r))

-- a list with an answer is taken, and the answer is the one that follows
pub taken_ok : {X : Type 0} (l : List ℤ) (r : Result X Refusal) (x : X) → taken_of l r ≡ Ok x → Taken l × (r ≡ Ok x)
taken_ok {X} l r x = go (eqb (length l) 0) (eqb (length l % 2) 1) (first_bad l) (eqb-false (length l) 0) (eqb-false (length l % 2) 1) (λ e. e)
  where
    never : (w : Refusal) → ◌≡◌ {A = Result X Refusal} (Err w) (Ok x) → ⊥
    never w e = let z : ◌≡◌ {A = ℕ} 0 1 = cc in omega arith

    go : (a b : Bool) (f : Option Point) → (a ≡ false → length l ≡ 0 → ⊥) → (b ≡ false → length l % 2 ≡ 1 → ⊥) → (f ≡ None → first_bad l ≡ None)
        → cond a (Err ListBroken) (cond b (Err ListBroken) (blamed_of f r)) ≡ Ok x → Taken l × (r ≡ Ok x)
    go false false None s o g e = (record { some = s refl; even = o refl; none = g refl }, e)
    go false false (Some p) s o g e = absurd (never (BadPoint p) e)
    go false true f s o g e = absurd (never ListBroken e)
    go true b f s o g e = absurd (never ListBroken e)

-- a list that is refused, whatever follows
pub taken_err : {X Y : Type 0} (l : List ℤ) (x : X) (s : Result Y Refusal) (w : Refusal) → taken_of l (Ok x) ≡ Err w → taken_of l s ≡ Err w
taken_err {X} {Y} l x s w = go (eqb (length l) 0) (eqb (length l % 2) 1) (first_bad l)
  where
    never : ◌≡◌ {A = Result X Refusal} (Ok x) (Err w) → ⊥
    never e = let z : ◌≡◌ {A = ℕ} 0 1 = cc in omega arith

    over : (v : Refusal) → ◌≡◌ {A = Result X Refusal} (Err v) (Err w) → ◌≡◌ {A = Result Y Refusal} (Err v) (Err w)
    over v e = let z : v ≡ w = cc in (λ i. Err (z i))

    go : (a b : Bool) (f : Option Point) → ◌≡◌ {A = Result X Refusal} (cond a (Err ListBroken) (cond b (Err ListBroken) (blamed_of f (Ok x)))) (Err w)
        → ◌≡◌ {A = Result Y Refusal} (cond a (Err ListBroken) (cond b (Err ListBroken) (blamed_of f s))) (Err w)
    go false false None e = absurd (never e)
    go false false (Some p) e = over (BadPoint p) e
    go false true f e = over ListBroken e
    go true b f e = over ListBroken e

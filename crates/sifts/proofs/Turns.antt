-- The turns of sift_up and sift_down_to_bottom, one equation each, and an induction over each. Assumes nothing.
use mathlib.Core.Path.{◌≡◌, refl, sym, subst}
use mathlib.Core.Bool.{Bool, true, false, cond}
use mathlib.Core.List.{List}
use mathlib.Core.Logic.{⊎_elim, ◌⊎◌, inl, inr}
use Prim.Native.Nat.{ℕ, zero, suc, ◌+◌, ◌*◌, ◌<◌, ◌≤◌}
use native.Mathlib.Omega.{arith}
use borrow.Author.Tests.{le-leb, lt-leb, lt-ltb, le-ltb, leb-true, leb-false, eqb-true, eqb-false}
use lib.Dec.{leb, eqb}
use lib.ListN.{set}
use Rattle.sifts.specs.declared.Entry.{Entry}
use Rattle.sifts.specs.Sifts.{at, parent, up, down, largest}

pub le_or_lt : (a b : ℕ) → (a ≤ b) ⊎ (b < a)
le_or_lt a b = go (leb a b) refl
  where
    go : (t : Bool) → leb a b ≡ t → (a ≤ b) ⊎ (b < a)
    go true q = inl (leb-true a b q)
    go false q = inr (leb-false a b q)

pub eq_or_ne : (a b : ℕ) → (a ≡ b) ⊎ (a ≡ b → ⊥)
eq_or_ne a b = go (eqb a b) refl
  where
    go : (t : Bool) → eqb a b ≡ t → (a ≡ b) ⊎ (a ≡ b → ⊥)
    go true q = inl (eqb-true a b q)
    go false q = inr (eqb-false a b q)

-- by cases, with the numbers first, so that each case's argument has its type when the case is read
pub by_order : (a b : ℕ) {P : Type 0} → (a ≤ b → P) → (b < a → P) → P
by_order a b f g = ⊎_elim f g (le_or_lt a b)

pub by_eq : (a b : ℕ) {P : Type 0} → (a ≡ b → P) → ((a ≡ b → ⊥) → P) → P
by_eq a b f g = ⊎_elim f g (eq_or_ne a b)

pick_same : (t : Bool) (l : List Entry) → cond t l l ≡ l
pick_same true l = refl
pick_same false l = refl

-- at the root
pub up_root : (f : ℕ) (l : List Entry) (p : ℕ) (e : Entry) → p ≤ 0 → up f l p e ≡ set l p e
unfolding up
up_root zero l p e h = refl
up_root (suc f) l p e h = simp (le-leb p 0 h)

-- below a parent that is no less
pub up_stop : (f : ℕ) (l : List Entry) (p : ℕ) (e : Entry) → e.key ≤ (at l (parent p)).key → up f l p e ≡ set l p e
unfolding up
up_stop zero l p e h = refl
up_stop (suc f) l p e h = simp (le-leb _ _ h) (pick_same (leb p 0) (set l p e))

-- a turn
pub up_turn : (f : ℕ) (l : List Entry) (p : ℕ) (e : Entry) → 0 < p → (at l (parent p)).key < e.key → up (suc f) l p e ≡ up f (set l p (at l (parent p))) (parent p) e
unfolding up
up_turn f l p e h k = simp (lt-leb p 0 h, lt-leb _ _ k)

-- the same, with turns to spare
pub up_next : (f : ℕ) (l : List Entry) (p : ℕ) (e : Entry) → p ≤ f → 0 < p → (at l (parent p)).key < e.key → (g : ℕ) × (parent p ≤ g) × (up f l p e ≡ up g (set l p (at l (parent p))) (parent p) e)
up_next zero l p e b h k = absurd (omega arith)
up_next (suc f) l p e b h k = (f, omega arith, up_turn f l p e h k)

-- what is kept by a turn, Q, and gives R at the end
pub up_ind : (e : Entry) (Q : List Entry → ℕ → Type 0) (R : List Entry → Type 0)
    → ((l : List Entry) (p : ℕ) → Q l p → (0 < p → e.key ≤ (at l (parent p)).key) → R (set l p e))
    → ((l : List Entry) (p : ℕ) → Q l p → 0 < p → (at l (parent p)).key < e.key → Q (set l p (at l (parent p))) (parent p))
    → (f : ℕ) (l : List Entry) (p : ℕ) → p ≤ f → Q l p → R (up f l p e)
up_ind e Q R stop turn zero l p b q = subst R (sym (up_root zero l p e b)) (stop l p q (λ h. absurd (omega arith)))
up_ind e Q R stop turn (suc f) l p b q =
    by_order p 0
    (λ h. subst R (sym (up_root (suc f) l p e h)) (stop l p q (λ k. absurd (omega arith))))
    (λ h. by_order e.key (at l (parent p)).key
    (λ k. subst R (sym (up_stop (suc f) l p e k)) (stop l p q (λ _. k)))
    (λ k. subst R (sym (up_turn f l p e h k)) (up_ind e Q R stop turn f (set l p (at l (parent p))) (parent p) (omega arith) (turn l p q h k))))

-- the hole has two children
pub down_two : (f n : ℕ) (l : List Entry) (p : ℕ) (e : Entry) → 2 * p + 1 + 1 < n → down (suc f) n l p e ≡ down f n (set l p (at l (largest l (2 * p + 1)))) (largest l (2 * p + 1)) e
unfolding down
down_two f n l p e h = simp (lt-ltb _ _ h)

-- it has one
pub down_one : (f n : ℕ) (l : List Entry) (p : ℕ) (e : Entry) → n ≤ 2 * p + 1 + 1 → 2 * p + 1 < n → down (suc f) n l p e ≡ up (2 * p + 1) (set l p (at l (2 * p + 1))) (2 * p + 1) e
unfolding down
down_one f n l p e h k = simp (le-ltb _ _ h, lt-ltb _ _ k)

-- it is a leaf
pub down_leaf : (f n : ℕ) (l : List Entry) (p : ℕ) (e : Entry) → n ≤ 2 * p + 1 → down f n l p e ≡ up p l p e
unfolding down
down_leaf zero n l p e h = refl
down_leaf (suc f) n l p e h =
    let k : n ≤ 2 * p + 1 + 1 = omega arith in
    simp (le-ltb _ _ h, le-ltb _ _ k)

-- the child that the hole goes to: one of the two, and no other is larger
pub record Best (l : List Entry) (n p c : ℕ) : Type 0 where
  pub child : parent c ≡ p
  pub below : p < c
  pub within : c < n
  pub most : (i : ℕ) → 0 < i → i < n → parent i ≡ p → (at l i).key ≤ (at l c).key

best_two : (l : List Entry) (n p : ℕ) → 2 * p + 1 + 1 < n → Best l n p (largest l (2 * p + 1))
best_two l n p h = ⊎_elim first second (le_or_lt (at l (2 * p + 1)).key (at l (2 * p + 1 + 1)).key)
  where
    child_of : (i : ℕ) → 0 < i → parent i ≡ p → (i ≡ 2 * p + 1) ⊎ (i ≡ 2 * p + 1 + 1)
    child_of i a q = by_order i (2 * p + 1) (λ b. inl (omega arith)) (λ b. inr (omega arith))

    first : (at l (2 * p + 1)).key ≤ (at l (2 * p + 1 + 1)).key → Best l n p (largest l (2 * p + 1))
    first k = rw (le-leb _ _ k) (record {
      child = omega arith;
      below = omega arith;
      within = omega arith;
      most = λ i a b q. ⊎_elim (λ z. rw z k) (λ z. rw z (omega arith)) (child_of i a q);
    })

    second : (at l (2 * p + 1 + 1)).key < (at l (2 * p + 1)).key → Best l n p (largest l (2 * p + 1))
    second k = rw (lt-leb _ _ k) (record {
      child = omega arith;
      below = omega arith;
      within = omega arith;
      most = λ i a b q. ⊎_elim (λ z. rw z (omega arith)) (λ z. rw z (omega arith)) (child_of i a q);
    })

best_one : (l : List Entry) (n p : ℕ) → n ≤ 2 * p + 1 + 1 → 2 * p + 1 < n → Best l n p (2 * p + 1)
best_one l n p h k = record {
  child = omega arith;
  below = omega arith;
  within = k;
  most = λ i a b q. let z : i ≡ 2 * p + 1 = omega arith in rw z (omega arith);
}

-- a turn with turns to spare
pub down_next : (f n : ℕ) (l : List Entry) (p : ℕ) (e : Entry) → n ≤ p + f → 2 * p + 1 + 1 < n
    → (g : ℕ) × (n ≤ largest l (2 * p + 1) + g) × (down f n l p e ≡ down g n (set l p (at l (largest l (2 * p + 1)))) (largest l (2 * p + 1)) e)
down_next zero n l p e b h = absurd (omega arith)
down_next (suc f) n l p e b h = (f, omega (arith, (best_two l n p h).below), down_two f n l p e h)

-- what is kept by a turn, Q, and gives R where the entry rises from a leaf
pub down_ind : (n : ℕ) (e : Entry) (Q : List Entry → ℕ → Type 0) (R : List Entry → Type 0)
    → ((l : List Entry) (p : ℕ) → Q l p → n ≤ 2 * p + 1 → R (up p l p e))
    → ((l : List Entry) (p c : ℕ) → Q l p → Best l n p c → Q (set l p (at l c)) c)
    → (f : ℕ) (l : List Entry) (p : ℕ) → n ≤ p + f → Q l p → R (down f n l p e)
down_ind n e Q R leaf turn zero l p b q = subst R (sym (down_leaf zero n l p e (omega arith))) (leaf l p q (omega arith))
down_ind n e Q R leaf turn (suc f) l p b q =
    by_order n (2 * p + 1 + 1)
    (λ h. by_order n (2 * p + 1)
    (λ k. subst R (sym (down_leaf (suc f) n l p e k)) (leaf l p q k))
    (λ k. subst R (sym (down_one f n l p e h k)) (leaf (set l p (at l (2 * p + 1))) (2 * p + 1) (turn l p (2 * p + 1) q (best_one l n p h k)) (omega arith))))
    (λ h. subst R (sym (down_two f n l p e h))
    (down_ind n e Q R leaf turn f (set l p (at l (largest l (2 * p + 1)))) (largest l (2 * p + 1)) (omega (arith, (best_two l n p h).below)) (turn l p (largest l (2 * p + 1)) q (best_two l n p h))))

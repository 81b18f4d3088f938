-- The laws of a push and of a pop: the length, the entries, the order, and that the first entry is the largest. Assumes nothing.
use mathlib.Core.Path.{◌≡◌, refl, ap, sym, ◌∙◌, subst}
use mathlib.Core.List.{List, [], ◌∷◌, ◌++◌}
use Prim.Native.Nat.{ℕ, zero, suc, ◌+◌, ◌-◌, ◌*◌, ◌<◌, ◌≤◌}
use native.Mathlib.Omega.{arith}
use native.Mathlib.Nat.{le_refl}
use borrow.Author.Tests.{le-leb, lt-leb}
use lib.ListN.{length, set, take, length-set, length-append, get_or-append}
use lib.Seq.{get_or-set_same, get_or-set_other, get_or-take, length-take-le}
use Rattle.sifts.specs.declared.Entry.{Entry}
use Rattle.sifts.specs.Sifts.{entry, at, parent, up, down}
use Rattle.fringe.specs.Fringe.{push, top, rest}
use Rattle.fringe.specs.Order.{Each, Ordered}
use Rattle.sifts.proofs.Turns.{by_order, by_eq, up_ind, down_ind, Best}

-- ---- a place of a list

at_same : (l : List Entry) (p : ℕ) (x : Entry) → p < length l → at (set l p x) p ≡ x
at_same l p x h = get_or-set_same l p x (entry 0 0) h

at_other : (l : List Entry) (p : ℕ) (x : Entry) (i : ℕ) → (i ≡ p → ⊥) → at (set l p x) i ≡ at l i
at_other l p x i h = get_or-set_other l p i x (entry 0 0) h

key_same : (l : List Entry) (p : ℕ) (x : Entry) (i : ℕ) → p < length l → i ≡ p → (at (set l p x) i).key ≡ x.key
key_same l p x i h q = ap (λ (j : ℕ). (at (set l p x) j).key) q ∙ ap (λ (y : Entry). y.key) (at_same l p x h)

key_other : (l : List Entry) (p : ℕ) (x : Entry) (i : ℕ) → (i ≡ p → ⊥) → (at (set l p x) i).key ≡ (at l i).key
key_other l p x i h = ap (λ (y : Entry). y.key) (at_other l p x i h)

key_at : (l : List Entry) (i j : ℕ) → i ≡ j → (at l i).key ≡ (at l j).key
key_at l i j q = ap (λ (k : ℕ). (at l k).key) q

-- ---- lengths

length_up : (l : List Entry) (p : ℕ) (e : Entry) → length (up p l p e) ≡ length l
length_up l p e =
    up_ind e (λ r q. length r ≡ length l) (λ r. length r ≡ length l)
    (λ r q h s. length-set r q e ∙ h)
    (λ r q h a b. length-set r q _ ∙ h)
    p l p (le_refl p) refl

length_down : (n : ℕ) (l : List Entry) (e : Entry) → length (down n n l 0 e) ≡ length l
length_down n l e =
    down_ind n e (λ r q. length r ≡ length l) (λ r. length r ≡ length l)
    (λ r q h s. length_up r q e ∙ h)
    (λ r q c h b. length-set r q _ ∙ h)
    n l 0 (omega arith) refl

pub length_push : (l : List Entry) (e : Entry) → length (push l e) ≡ length l + 1
unfolding push
length_push l e = length_up (l ++ (e ∷ [])) (length l) e ∙ length-append l (e ∷ [])

-- what a pop leaves, at one entry and at more
rest_short : (l : List Entry) → length l ≤ 1 → rest l ≡ []
unfolding rest
rest_short l h = simp (le-leb (length l) 1 h)

rest_long : (l : List Entry) → 1 < length l → rest l ≡ down (length l - 1) (length l - 1) (take (length l - 1) l) 0 (at l (length l - 1))
unfolding rest
rest_long l h = simp (lt-leb (length l) 1 h)

pub length_rest : (l : List Entry) → length (rest l) ≡ length l - 1
length_rest l =
    by_order (length l) 1
    (λ h. let q : length (rest l) ≡ 0 = ap length (rest_short l h) in omega arith)
    (λ h. ap length (rest_long l h) ∙ length_down (length l - 1) (take (length l - 1) l) _ ∙ length-take-le (length l - 1) l (omega arith))

-- ---- the entries

module _ (P : Entry → Type 0) (e : Entry) where
  -- e is a P, and so is each entry but the one in the hole
  record Hole (l : List Entry) (p : ℕ) : Type 0 where
    inside : p < length l
    here : P e
    others : (i : ℕ) → i < length l → (i ≡ p → ⊥) → P (at l i)

  module _ (l : List Entry) (p c : ℕ) (c-in : c < length l) (apart : c ≡ p → ⊥) where
    move : Hole l p → Hole (set l p (at l c)) c
    move w = record {
      inside = rw length-set c-in;
      here = w.here;
      others = λ i h ne.
          let h' : i < length l = rw length-set at h in
          by_eq i p
          (λ z. subst P (sym (ap (at (set l p (at l c))) z ∙ at_same l p (at l c) w.inside)) (w.others c c-in apart))
          (λ z. subst P (sym (at_other l p (at l c) i z)) (w.others i h' z));
    }

  fill : (l : List Entry) (p : ℕ) → Hole l p → Each P (set l p e)
  fill l p w i h =
      let h' : i < length l = rw length-set at h in
      by_eq i p
      (λ z. subst P (sym (ap (at (set l p e)) z ∙ at_same l p e w.inside)) w.here)
      (λ z. subst P (sym (at_other l p e i z)) (w.others i h' z))

  each_up : (l : List Entry) (p : ℕ) → Hole l p → Each P (up p l p e)
  each_up l p w =
      up_ind e Hole (Each P)
      (λ r q h s. fill r q h)
      (λ r q h a b. move r q (parent q) (lower q r a h.inside) (λ z. absurd (omega arith)) h)
      p l p (le_refl p) w
    where
      lower : (q : ℕ) (r : List Entry) → 0 < q → q < length r → parent q < length r
      lower q r a b = omega arith

  -- the sink, where the hole's list is the n entries of the heap
  module _ (n : ℕ) where
    each_down : (l : List Entry) → length l ≡ n → Hole l 0 → Each P (down n n l 0 e)
    each_down l q w =
        down_ind n e (λ r p. (length r ≡ n) × Hole r p) (Each P)
        (λ r p h s. each_up r p h.1)
        (λ r p c h b. (length-set r p (at r c) ∙ h.0, move r p c (inside r c h.0 b.within) (apart p c b.below) h.1))
        n l 0 (omega arith) (q, w)
      where
        inside : (r : List Entry) (c : ℕ) → length r ≡ n → c < n → c < length r
        inside r c a b = omega arith

        apart : (p c : ℕ) → p < c → c ≡ p → ⊥
        apart p c a b = omega arith

module _ (P : Entry → Type 0) where
  at_front : (l : List Entry) (e : Entry) (i : ℕ) → i < length l → at (l ++ (e ∷ [])) i ≡ at l i
  at_front l e i h = get_or-append l (e ∷ []) (entry 0 0) i h

  -- each entry of push l e is e or one of l
  pub each_push : (l : List Entry) (e : Entry) → P e → Each P l → Each P (push l e)
  unfolding push
  each_push l e h w =
      let long : length (l ++ (e ∷ [])) ≡ length l + 1 = length-append l (e ∷ []) in
      each_up P e (l ++ (e ∷ [])) (length l) (record {
        inside = omega arith;
        here = h;
        others = λ i a ne. let b : i < length l = omega arith in subst P (sym (at_front l e i b)) (w i b);
      })

  at_take : (m : ℕ) (l : List Entry) (i : ℕ) → i < m → at (take m l) i ≡ at l i
  at_take m l i h = get_or-take m l i (entry 0 0) h

  -- the entry popped and each that is left are entries of l
  pub each_rest : (l : List Entry) → 0 < length l → Each P l → P (top l) × Each P (rest l)
  unfolding top
  each_rest l pos w = (
    w 0 pos,
    by_order (length l) 1
        (λ h. subst (Each P) (sym (rest_short l h)) (λ i a. absurd (omega arith)))
        (λ h.
        let long : length (take (length l - 1) l) ≡ length l - 1 = length-take-le (length l - 1) l (omega arith) in
        subst (Each P) (sym (rest_long l h))
        (each_down P (at l (length l - 1)) (length l - 1) (take (length l - 1) l) long (record {
          inside = omega arith;
          here = w (length l - 1) (omega arith);
          others = λ i a ne. let b : i < length l - 1 = omega arith in subst P (sym (at_take (length l - 1) l i b)) (w i (omega arith));
        }))),
  )

-- ---- the order

-- the order holds but at the hole p; e, and its parent too, are no less than the hole's children
record Rises (e : Entry) (l : List Entry) (p : ℕ) : Type 0 where
  inside : p < length l
  others : (i : ℕ) → 0 < i → i < length l → (i ≡ p → ⊥) → (parent i ≡ p → ⊥) → (at l i).key ≤ (at l (parent i)).key
  kids : (i : ℕ) → 0 < i → i < length l → parent i ≡ p → (at l i).key ≤ e.key
  grand : (i : ℕ) → 0 < i → i < length l → parent i ≡ p → 0 < p → (at l i).key ≤ (at l (parent p)).key

module _ (e : Entry) (l : List Entry) (p : ℕ) (w : Rises e l p) where
  risen : (0 < p → e.key ≤ (at l (parent p)).key) → Ordered (set l p e)
  risen s i pos h =
      let h' : i < length l = rw length-set at h in
      by_eq i p
      (λ z.
      let pp : 0 < p = omega arith in
      let up : parent i ≡ p → ⊥ = omega arith in
      omega (arith, s pp, key_same l p e i w.inside z, key_other l p e (parent i) up, key_at l (parent i) (parent p) (ap parent z)))
      (λ z. by_eq (parent i) p
      (λ y. omega (arith, w.kids i pos h' y, key_other l p e i z, key_same l p e (parent i) w.inside y))
      (λ y. omega (arith, w.others i pos h' z y, key_other l p e i z, key_other l p e (parent i) y)))

  rising : 0 < p → (at l (parent p)).key < e.key → Rises e (set l p (at l (parent p))) (parent p)
  rising pp less = record {
    inside = rw length-set inside';
    others = λ i pos h ni npi.
        let h' : i < length l = rw length-set at h in
        let z : i ≡ p → ⊥ = λ q. npi (ap parent q) in
        by_eq (parent i) p
        (λ y. omega (arith, w.grand i pos h' y pp, key_other l p (at l (parent p)) i z, key_same l p (at l (parent p)) (parent i) w.inside y))
        (λ y. omega (arith, w.others i pos h' z y, key_other l p (at l (parent p)) i z, key_other l p (at l (parent p)) (parent i) y));
    kids = λ i pos h q. let b = below i pos (rw length-set at h) q in omega arith;
    grand = λ i pos h q qp.
        let b = below i pos (rw length-set at h) q in
        let n1 : parent p ≡ p → ⊥ = omega arith in
        let n2 : parent (parent p) ≡ p → ⊥ = omega arith in
        omega (arith, w.others (parent p) qp inside' n1 n2, key_other l p (at l (parent p)) (parent (parent p)) n2);
  }
    where
      inside' : parent p < length l
      inside' = omega (arith, w.inside)

      -- after the turn, each child of the new hole is at most the old parent
      below : (i : ℕ) → 0 < i → i < length l → parent i ≡ parent p → (at (set l p (at l (parent p))) i).key ≤ (at l (parent p)).key
      below i pos h q =
          by_eq i p
          (λ z. omega (arith, key_same l p (at l (parent p)) i w.inside z))
          (λ z. let y : parent i ≡ p → ⊥ = omega arith in omega (arith, w.others i pos h z y, key_other l p (at l (parent p)) i z, key_at l (parent i) (parent p) q))

ordered_up : (e : Entry) (l : List Entry) (p : ℕ) → Rises e l p → Ordered (up p l p e)
ordered_up e l p w = up_ind e (Rises e) Ordered (λ r q h s. risen e r q h s) (λ r q h a b. rising e r q h a b) p l p (le_refl p) w

-- the order holds but at the hole p, whose parent is no less than its children
record Sinks (n : ℕ) (l : List Entry) (p : ℕ) : Type 0 where
  long : length l ≡ n
  inside : p < n
  others : (i : ℕ) → 0 < i → i < n → (i ≡ p → ⊥) → (parent i ≡ p → ⊥) → (at l i).key ≤ (at l (parent i)).key
  grand : (i : ℕ) → 0 < i → i < n → parent i ≡ p → 0 < p → (at l i).key ≤ (at l (parent p)).key

sinking : (n : ℕ) (l : List Entry) (p c : ℕ) → Sinks n l p → Best l n p c → Sinks n (set l p (at l c)) c
sinking n l p c w b = record {
  long = length-set l p (at l c) ∙ w.long;
  inside = b.within;
  others = λ i pos h ni npi.
      by_eq i p
      (λ z.
      let pp : 0 < p = omega arith in
      let up : parent i ≡ p → ⊥ = omega arith in
      omega (arith, w.grand c cpos b.within b.child pp, key_same l p (at l c) i in_l z, key_other l p (at l c) (parent i) up, key_at l (parent i) (parent p) (ap parent z)))
      (λ z. by_eq (parent i) p
      (λ y. omega (arith, b.most i pos h y, key_other l p (at l c) i z, key_same l p (at l c) (parent i) in_l y))
      (λ y. omega (arith, w.others i pos h z y, key_other l p (at l c) i z, key_other l p (at l c) (parent i) y)));
  grand = λ i pos h q cp.
      let z : i ≡ p → ⊥ = omega (arith, b.below) in
      let y : parent i ≡ p → ⊥ = omega (arith, b.below) in
      omega (arith, w.others i pos h z y, key_other l p (at l c) i z, key_same l p (at l c) (parent c) in_l b.child, key_at l (parent i) c q);
}
  where
    cpos : 0 < c
    cpos = omega (arith, b.below)

    in_l : p < length l
    in_l = omega (arith, w.long, w.inside)

-- at a leaf it has no children
landed : (n : ℕ) (e : Entry) (l : List Entry) (p : ℕ) → Sinks n l p → n ≤ 2 * p + 1 → Rises e l p
landed n e l p w leaf = record {
  inside = omega (arith, w.long, w.inside);
  others = λ i pos h ni npi. w.others i pos (omega (arith, w.long)) ni npi;
  kids = λ i pos h q. absurd (omega (arith, w.long));
  grand = λ i pos h q pp. absurd (omega (arith, w.long));
}

-- a push keeps the order
pub ordered_push : (l : List Entry) (e : Entry) → Ordered l → Ordered (push l e)
unfolding push
ordered_push l e w =
    let long : length (l ++ (e ∷ [])) ≡ length l + 1 = length-append l (e ∷ []) in
    ordered_up e (l ++ (e ∷ [])) (length l) (record {
      inside = omega arith;
      others = λ i pos h ni npi.
          let a : i < length l = omega arith in
          let b : parent i < length l = omega arith in
          omega (arith, w i pos a, ap (λ (y : Entry). y.key) (get_or-append l (e ∷ []) (entry 0 0) i a), ap (λ (y : Entry). y.key) (get_or-append l (e ∷ []) (entry 0 0) (parent i) b));
      kids = λ i pos h q. absurd (omega arith);
      grand = λ i pos h q pp. absurd (omega arith);
    })

-- a pop keeps the order
pub ordered_rest : (l : List Entry) → Ordered l → Ordered (rest l)
ordered_rest l w =
    by_order (length l) 1
    (λ h. subst Ordered (sym (rest_short l h)) (λ i pos a. absurd (omega arith)))
    (λ h.
    let long : length (take (length l - 1) l) ≡ length l - 1 = length-take-le (length l - 1) l (omega arith) in
    subst Ordered (sym (rest_long l h))
    (down_ind (length l - 1) (at l (length l - 1)) (Sinks (length l - 1)) Ordered
    (λ r p s leaf. ordered_up (at l (length l - 1)) r p (landed (length l - 1) (at l (length l - 1)) r p s leaf))
    (λ r p c s b. sinking (length l - 1) r p c s b)
    (length l - 1) (take (length l - 1) l) 0 (omega arith)
    (record {
      long = long;
      inside = omega arith;
      others = λ i pos a ni npi.
          let b : parent i < length l - 1 = omega arith in
          omega (arith, w i pos (omega arith), ap (λ (y : Entry). y.key) (get_or-take (length l - 1) l i (entry 0 0) a), ap (λ (y : Entry). y.key) (get_or-take (length l - 1) l (parent i) (entry 0 0) b));
      grand = λ i pos a q pp. absurd (omega arith);
    })))

first_most : (l : List Entry) → Ordered l → (f i : ℕ) → i ≤ f → i < length l → (at l i).key ≤ (at l 0).key
first_most l w zero i b h = let z : i ≡ 0 = omega arith in omega (arith, key_at l i 0 z)
first_most l w (suc f) i b h =
    by_order i 0
    (λ z. let z' : i ≡ 0 = omega arith in omega (arith, key_at l i 0 z'))
    (λ pos.
    let lo : parent i ≤ f = omega arith in
    let lm : parent i < length l = omega arith in
    let ih = first_most l w f (parent i) lo lm in
    omega (arith, w i pos h))

-- a pop takes the largest key
pub top_most : (l : List Entry) → Ordered l → Each (λ x. x.key ≤ (top l).key) l
unfolding top
top_most l w i h = first_most l w i i (le_refl i) h

pub ordered_nil : Ordered []
ordered_nil i pos h = absurd (omega arith)

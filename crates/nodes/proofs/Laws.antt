-- The laws of recording: what holds of the nodes still does, and what comes later. Assumes nothing.
use mathlib.Core.Path.{◌≡◌, refl, ap, sym, ◌∙◌, subst}
use mathlib.Core.Bool.{Bool, true, false}
use mathlib.Core.List.{List, [], ◌∷◌, ◌++◌}
use Prim.Native.Nat.{ℕ, zero, suc, ◌+◌, ◌-◌, ◌<◌, ◌≤◌, zero-le}
use native.Mathlib.Nat.{le_refl, not-suc-le-zero, le_of_suc-le-suc}
use native.Mathlib.Omega.{arith}
use borrow.Author.Tests.{eq-eqb, ne_eqb, lt-ltb, le-ltb, eqb-true, eqb-false, ltb-true, ltb-false}
use lib.Dec.{eqb, ltb}
use lib.ListN.{length, get_or, set, length-set, length-append, get_or-append}
use lib.Seq.{get_or-set_same, get_or-set_other, get_or_at}
use Rattle.nodes.specs.Nodes.{Nodes, Note, note, note_of, added, lowered, filled, Sound, Later}

pub by_eq {ℓ} : (a b : ℕ) {P : Type ℓ} → (a ≡ b → P) → ((a ≡ b → ⊥) → P) → P
by_eq a b {P} f g = go (eqb a b) refl
  where
    go : (t : Bool) → eqb a b ≡ t → P
    go true q = f (eqb-true a b q)
    go false q = g (eqb-false a b q)

pub by-lt {ℓ} : (a b : ℕ) {P : Type ℓ} → (a < b → P) → (b ≤ a → P) → P
by-lt a b {P} f g = go (ltb a b) refl
  where
    go : (t : Bool) → ltb a b ≡ t → P
    go true q = f (ltb-true a b q)
    go false q = g (ltb-false a b q)

-- recording by its three cases
module _ (c p k : ℕ) (s : Nodes) (P : Note → Type 1) where
  note_cases :
      (get_or s.number c 0 ≡ 0 → P (note true (length s.place) (added c p k s)))
      → ((get_or s.number c 0 ≡ 0 → ⊥) → k < get_or s.cost (get_or s.number c 0 - 1) 0 → P (note true (get_or s.number c 0 - 1) (lowered (get_or s.number c 0 - 1) p k s)))
      → ((get_or s.number c 0 ≡ 0 → ⊥) → get_or s.cost (get_or s.number c 0 - 1) 0 ≤ k → P (note false (get_or s.number c 0 - 1) s))
      → P (note_of c p k s)
  unfolding note_of
  note_cases f g h =
      by_eq (get_or s.number c 0) 0
      (λ z. rw (eq-eqb (get_or s.number c 0) 0 z) (f z))
      (λ z. by-lt k (get_or s.cost (get_or s.number c 0 - 1) 0)
      (λ l. rw (ne_eqb (get_or s.number c 0) 0 z, lt-ltb k (get_or s.cost (get_or s.number c 0 - 1) 0) l) (g z l))
      (λ l. rw (ne_eqb (get_or s.number c 0) 0 z, le-ltb k (get_or s.cost (get_or s.number c 0 - 1) 0) l) (h z l)))

-- a place that is 0 is one that may still be filled
pub filled_le : (l : List ℕ) → filled l ≤ length l
unfolding filled
filled_le [] = zero-le
filled_le (zero ∷ l) = omega (arith, filled_le l)
filled_le (suc n ∷ l) = omega (arith, filled_le l)

pub filled_lt : (l : List ℕ) (i : ℕ) → i < length l → get_or l i 0 ≡ 0 → filled l < length l
unfolding filled
filled_lt [] i h z = absurd (not-suc-le-zero h)
filled_lt (zero ∷ l) i h z = omega (arith, filled_le l)
filled_lt (suc n ∷ l) zero h z = absurd (omega arith)
filled_lt (suc n ∷ l) (suc i) h z = omega (arith, filled_lt l i (le_of_suc-le-suc h) z)

pub filled_set : (l : List ℕ) (i v : ℕ) → i < length l → get_or l i 0 ≡ 0 → filled (set l i (suc v)) ≡ filled l + 1
unfolding filled
filled_set [] i v h z = absurd (not-suc-le-zero h)
filled_set (zero ∷ l) zero v h z = refl
filled_set (suc n ∷ l) zero v h z = absurd (omega arith)
filled_set (zero ∷ l) (suc i) v h z = filled_set l i v (le_of_suc-le-suc h) z
filled_set (suc n ∷ l) (suc i) v h z = ap (λ (m : ℕ). m + 1) (filled_set l i v (le_of_suc-le-suc h) z)

-- one more at the end: an old index, and the last
snoc_old : (l : List ℕ) (v i : ℕ) → i < length l → get_or (l ++ (v ∷ [])) i 0 ≡ get_or l i 0
snoc_old l v i h = get_or-append l (v ∷ []) 0 i h

snoc_new : (l : List ℕ) (v i : ℕ) → length l ≡ i → get_or (l ++ (v ∷ [])) i 0 ≡ v
snoc_new l v i h = get_or_at l v [] 0 i h

snoc_length : (l : List ℕ) (v : ℕ) → length (l ++ (v ∷ [])) ≡ length l + 1
snoc_length l v = length-append l (v ∷ [])

-- a new cell
module _ (c p k : ℕ) (s : Nodes) (d : Sound s) (hc : c < length s.number) (z : get_or s.number c 0 ≡ 0) where
  number_at : (e : ℕ) → (e ≡ c → ⊥) → get_or (set s.number c (length s.place + 1)) e 0 ≡ get_or s.number e 0
  number_at e ne = get_or-set_other s.number c e (length s.place + 1) 0 ne

  number_same : get_or (set s.number c (length s.place + 1)) c 0 ≡ length s.place + 1
  number_same = get_or-set_same s.number c (length s.place + 1) 0 hc

  -- an old place is not the new cell
  apart : (i : ℕ) → i < length s.place → get_or s.place i 0 ≡ c → ⊥
  apart i h q = omega (arith, d.there i h, ap (λ (e : ℕ). get_or s.number e 0) q)

  numbered' : (e : ℕ) → get_or (set s.number c (length s.place + 1)) e 0 ≤ length s.place + 1
  numbered' e =
      by_eq e c
      (λ q. omega (arith, number_same, ap (λ (x : ℕ). get_or (set s.number c (length s.place + 1)) x 0) q))
      (λ q. omega (arith, number_at e q, d.numbered e))

  there' : (i : ℕ) → i < length s.place + 1 → get_or (set s.number c (length s.place + 1)) (get_or (s.place ++ (c ∷ [])) i 0) 0 ≡ i + 1
  there' i h =
      by-lt i (length s.place)
      (λ l. rw (snoc_old s.place c i l) (number_at (get_or s.place i 0) (apart i l) ∙ d.there i l))
      (λ l.
      let e : length s.place ≡ i = omega arith in
      rw (snoc_new s.place c i e) (number_same ∙ ap (λ (x : ℕ). x + 1) e))

  back' : (e i : ℕ) → get_or (set s.number c (length s.place + 1)) e 0 ≡ i + 1 → get_or (s.place ++ (c ∷ [])) i 0 ≡ e
  back' e i q =
      by_eq e c
      (λ w.
      let x : length s.place ≡ i = omega (arith, q, number_same, ap (λ (x : ℕ). get_or (set s.number c (length s.place + 1)) x 0) w) in
      snoc_new s.place c i x ∙ sym w)
      (λ w.
      let y : get_or s.number e 0 ≡ i + 1 = sym (number_at e w) ∙ q in
      let l : i < length s.place = omega (arith, d.numbered e, y) in
      snoc_old s.place c i l ∙ d.back e i y)

  within' : (i : ℕ) → i < length s.place + 1 → get_or (s.place ++ (c ∷ [])) i 0 < length s.number
  within' i h =
      by-lt i (length s.place)
      (λ l. rw (snoc_old s.place c i l) (d.within i l))
      (λ l.
      let e : length s.place ≡ i = omega arith in
      rw (snoc_new s.place c i e) hc)

  filling' : filled (set s.number c (length s.place + 1)) ≡ length s.place + 1
  filling' = let e : length s.place + 1 ≡ suc (length s.place) = omega arith in
      ap (λ (x : ℕ). filled (set s.number c x)) e ∙ filled_set s.number c (length s.place) hc z ∙ ap (λ (x : ℕ). x + 1) d.filling

  added_sound : Sound (added c p k s)
  unfolding added
  added_sound =
      record {
        counts = ap (λ (x : ℕ). x + 1) d.counts ∙ sym (snoc_length s.place c);
        parents = snoc_length s.parent p ∙ ap (λ (x : ℕ). x + 1) d.parents ∙ sym (snoc_length s.place c);
        costs = snoc_length s.cost k ∙ ap (λ (x : ℕ). x + 1) d.costs ∙ sym (snoc_length s.place c);
        filling = filling' ∙ sym (snoc_length s.place c);
        numbered = λ e. rw (snoc_length s.place c) (numbered' e);
        within = λ i h. rw length-set (within' i (rw (snoc_length s.place c) at h));
        there = λ i h. there' i (rw (snoc_length s.place c) at h);
        back = back';
      }

  added_later : Later s (added c p k s)
  unfolding added
  added_later =
      record {
        floor = length-set s.number c (length s.place + 1);
        more = omega (arith, snoc_length s.place c);
        falls = λ i h. let l : i < length s.cost = omega (arith, d.costs) in omega (arith, snoc_old s.cost k i l);
        stays = λ i h. snoc_old s.place c i h;
      }

  -- a fact of each node, its parent and its cost
  added_each : (Q : ℕ → ℕ → ℕ → Type 0) → Q (length s.place) p k → ((i : ℕ) → i < length s.place → Q i (get_or s.parent i 0) (get_or s.cost i 0))
      → (i : ℕ) → i < length (added c p k s).place → Q i (get_or (added c p k s).parent i 0) (get_or (added c p k s).cost i 0)
  unfolding added
  added_each Q here others i h =
      by-lt i (length s.place)
      (λ l.
      let lp : i < length s.parent = omega (arith, d.parents) in
      let lc : i < length s.cost = omega (arith, d.costs) in
      rw (snoc_old s.parent p i lp, snoc_old s.cost k i lc) (others i l))
      (λ l.
      let e : length s.place ≡ i = omega (arith, snoc_length s.place c) in
      let ep : length s.parent ≡ i = omega (arith, d.parents) in
      let ec : length s.cost ≡ i = omega (arith, d.costs) in
      rw (snoc_new s.parent p i ep, snoc_new s.cost k i ec) (subst (λ (x : ℕ). Q x p k) e here))

  added_places : (Q : ℕ → ℕ → Type 0) → Q (length s.place) c → ((i : ℕ) → i < length s.place → Q i (get_or s.place i 0)) → (i : ℕ) → i < length (added c p k s).place → Q i (get_or (added c p k s).place i 0)
  unfolding added
  added_places Q here others i h =
      by-lt i (length s.place)
      (λ l. rw (snoc_old s.place c i l) (others i l))
      (λ l.
      let e : length s.place ≡ i = omega (arith, snoc_length s.place c) in
      rw (snoc_new s.place c i e) (subst (λ (x : ℕ). Q x c) e here))

  added_in : length s.place < length (added c p k s).place
  unfolding added
  added_in = omega (arith, snoc_length s.place c)

  added_cost : get_or (added c p k s).cost (length s.place) 0 ≡ k
  unfolding added
  added_cost = snoc_new s.cost k (length s.place) d.costs

-- a cheaper way
module _ (j p k : ℕ) (s : Nodes) (d : Sound s) (hj : j < length s.place) where
  lowered_sound : Sound (lowered j p k s)
  unfolding lowered
  lowered_sound =
      record {
        counts = d.counts;
        parents = length-set s.parent j p ∙ d.parents;
        costs = length-set s.cost j k ∙ d.costs;
        filling = d.filling;
        numbered = d.numbered;
        within = d.within;
        there = d.there;
        back = d.back;
      }

  lowered_later : k ≤ get_or s.cost j 0 → Later s (lowered j p k s)
  unfolding lowered
  lowered_later l =
      record {
        floor = refl;
        more = le_refl (length s.place);
        falls = λ i h. by_eq i j
            (λ q.
            let e : get_or (set s.cost j k) i 0 ≡ k = ap (λ (x : ℕ). get_or (set s.cost j k) x 0) q ∙ get_or-set_same s.cost j k 0 (omega (arith, d.costs)) in
            omega (arith, e, ap (λ (x : ℕ). get_or s.cost x 0) q))
            (λ q. omega (arith, get_or-set_other s.cost j i k 0 q));
        stays = λ i h. refl;
      }

  lowered_each : (Q : ℕ → ℕ → ℕ → Type 0) → Q j p k → ((i : ℕ) → i < length s.place → Q i (get_or s.parent i 0) (get_or s.cost i 0))
      → (i : ℕ) → i < length (lowered j p k s).place → Q i (get_or (lowered j p k s).parent i 0) (get_or (lowered j p k s).cost i 0)
  unfolding lowered
  lowered_each Q here others i h =
      by_eq i j
      (λ q.
      let ep : get_or (set s.parent j p) i 0 ≡ p = ap (λ (x : ℕ). get_or (set s.parent j p) x 0) q ∙ get_or-set_same s.parent j p 0 (omega (arith, d.parents)) in
      let ec : get_or (set s.cost j k) i 0 ≡ k = ap (λ (x : ℕ). get_or (set s.cost j k) x 0) q ∙ get_or-set_same s.cost j k 0 (omega (arith, d.costs)) in
      rw (ep, ec) (subst (λ (x : ℕ). Q x p k) (sym q) here))
      (λ q. rw (get_or-set_other s.parent j i p 0 q, get_or-set_other s.cost j i k 0 q) (others i h))

  lowered_places : (Q : ℕ → ℕ → Type 0) → ((i : ℕ) → i < length s.place → Q i (get_or s.place i 0)) → (i : ℕ) → i < length (lowered j p k s).place → Q i (get_or (lowered j p k s).place i 0)
  unfolding lowered
  lowered_places Q others = others

  lowered_in : j < length (lowered j p k s).place
  unfolding lowered
  lowered_in = hj

  lowered_cost : get_or (lowered j p k s).cost j 0 ≡ k
  unfolding lowered
  lowered_cost = get_or-set_same s.cost j k 0 (omega (arith, d.costs))

-- recording a cell that is on the floor
pub record Took (c p k : ℕ) (s : Nodes) (r : Note) : Type 1 where
  pub sound : Sound r.nodes
  pub later : Later s r.nodes
  pub index_in : r.index < length r.nodes.place
  pub each : (Q : ℕ → ℕ → ℕ → Type 0) → (r.kept ≡ true → Q r.index p k) → ((i : ℕ) → i < length s.place → Q i (get_or s.parent i 0) (get_or s.cost i 0))
      → (i : ℕ) → i < length r.nodes.place → Q i (get_or r.nodes.parent i 0) (get_or r.nodes.cost i 0)
  pub places : (Q : ℕ → ℕ → Type 0) → Q r.index c → ((i : ℕ) → i < length s.place → Q i (get_or s.place i 0)) → (i : ℕ) → i < length r.nodes.place → Q i (get_or r.nodes.place i 0)
  pub cost_at : r.kept ≡ true → get_or r.nodes.cost r.index 0 ≡ k
  pub less : r.kept ≡ true → r.index < length s.place → k < get_or s.cost r.index 0
  pub same : r.kept ≡ false → r.nodes ≡ s

pub later_refl : (s : Nodes) → Later s s
later_refl s = record { floor = refl; more = le_refl (length s.place); falls = λ i h. le_refl (get_or s.cost i 0); stays = λ i h. refl }

pub later_trans : (s t u : Nodes) → Later s t → Later t u → Later s u
later_trans s t u a b =
    record {
      floor = b.floor ∙ a.floor;
      more = omega (arith, a.more, b.more);
      falls = λ i h. let g : i < length t.place = omega (arith, a.more) in omega (arith, a.falls i h, b.falls i g);
      stays = λ i h. let g : i < length t.place = omega (arith, a.more) in b.stays i g ∙ a.stays i h;
    }

pub took : (c p k : ℕ) (s : Nodes) → Sound s → c < length s.number → Took c p k s (note_of c p k s)
took c p k s d hc =
    note_cases c p k s (Took c p k s)
    (λ z. record {
      sound = added_sound c p k s d hc z;
      later = added_later c p k s d hc z;
      index_in = added_in c p k s d hc z;
      each = λ Q here others. added_each c p k s d hc z Q (here refl) others;
      places = added_places c p k s d hc z;
      cost_at = λ b. added_cost c p k s d hc z;
      less = λ b h. absurd (irr h);
      same = λ b. absurd (clash b);
    })
    (λ z l.
    let hj : get_or s.number c 0 - 1 < length s.place = omega (arith, d.numbered c) in
    record {
      sound = lowered_sound (get_or s.number c 0 - 1) p k s d hj;
      later = lowered_later (get_or s.number c 0 - 1) p k s d hj (omega arith);
      index_in = lowered_in (get_or s.number c 0 - 1) p k s d hj;
      each = λ Q here others. lowered_each (get_or s.number c 0 - 1) p k s d hj Q (here refl) others;
      places = λ Q here others. lowered_places (get_or s.number c 0 - 1) p k s d hj Q others;
      cost_at = λ b. lowered_cost (get_or s.number c 0 - 1) p k s d hj;
      less = λ b h. l;
      same = λ b. absurd (clash b);
    })
    (λ z l. record {
      sound = d;
      later = later_refl s;
      index_in = omega (arith, d.numbered c);
      each = λ Q here others. others;
      places = λ Q here others. others;
      cost_at = λ b. absurd (clash (sym b));
      less = λ b h. absurd (clash (sym b));
      same = λ b. refl;
    })
  where
    clash : true ≡ false → ⊥
    clash b = let z : ◌≡◌ {A = ℕ} 0 1 = cc in omega arith

    irr : length s.place < length s.place → ⊥
    irr h = omega arith

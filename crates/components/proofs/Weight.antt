-- No union makes a forest heavier. So a forest that was made of at most 2 ^ m singletons has no rank above m, whatever is joined. Assumes nothing.
use mathlib.Core.Path.{◌≡◌, refl, sym, ap, ◌∙◌}
use mathlib.Core.Logic.{⊎_elim, inl}
use mathlib.Core.Bool.{cond}
use mathlib.Core.List.{List}
use Prim.Native.Nat.{ℕ, zero, suc, ◌+◌, ◌^◌, ◌≤◌, ◌<◌}
use native.Mathlib.Omega.{arith}
use native.Mathlib.Decide.{ℕ_discrete, dec_le}
use native.Mathlib.Nat.{pow-succ'}
use native.Mathlib.Numerals.{add-one}
use lib.Pow.{pow-lt}
use lib.ListN.{length, get_or, set}
use lib.Seq.{get_or-set_same, get_or-set_other}
use lib.Dec.{eqb}
use borrow.Author.Tests.{eq-eqb, ne_eqb}
use Rattle.components.specs.Components.{Forest, root_of, halves, halve, linked, united, sum, weight, Light}
use Rattle.components.proofs.Roots

sum_le : (n : ℕ) (v w : ℕ → ℕ) → ((i : ℕ) → i < n → v i ≤ w i) → sum n v ≤ sum n w
unfolding sum
sum_le zero v w h = omega arith
sum_le (suc n) v w h = omega (arith, sum_le n v w (λ i l. h i (omega arith)), h n (omega arith))

sum_part : (n : ℕ) (w : ℕ → ℕ) (i : ℕ) → i < n → w i ≤ sum n w
unfolding sum
sum_part zero w i h = absurd (omega arith)
sum_part (suc n) w i h = part (ℕ_discrete i n) (λ l. sum_part n w i l)
  where
    part : Dec (i ≡ n) → (i < n → w i ≤ sum n w) → w i ≤ sum n w + w n
    part (yes e) f = rw e (omega arith)
    part (no d) f = omega (arith, f (omega arith))

-- w without what it has at i
off : ℕ → (ℕ → ℕ) → ℕ → ℕ
off i w j = cond (eqb j i) 0 (w j)

off_at : (i : ℕ) (w : ℕ → ℕ) (j : ℕ) → j ≡ i → off i w j ≡ 0
unfolding off
off_at i w j e = rw (eq-eqb j i e)

off_other : (i : ℕ) (w : ℕ → ℕ) (j : ℕ) → (j ≡ i → ⊥) → off i w j ≡ w j
unfolding off
off_other i w j d = rw (ne_eqb j i d)

sum_same : (n : ℕ) (v w : ℕ → ℕ) → ((i : ℕ) → i < n → v i ≡ w i) → sum n v ≡ sum n w
unfolding sum
sum_same zero v w h = refl
sum_same (suc n) v w h = omega (arith, sum_same n v w (λ i l. h i (omega arith)), h n (omega arith))

sum_off : (n : ℕ) (w : ℕ → ℕ) (i : ℕ) → i < n → sum n w ≡ w i + sum n (off i w)
unfolding sum
sum_off zero w i h = absurd (omega arith)
sum_off (suc n) w i h = part (ℕ_discrete i n) (λ l. sum_off n w i l)
  where
    part : Dec (i ≡ n) → (i < n → sum n w ≡ w i + sum n (off i w)) → sum n w + w n ≡ w i + (sum n (off i w) + off i w n)
    part (yes e) f = omega (arith, ap w e, off_at i w n (sym e), sum_same n (off i w) w (λ j l. off_other i w j (λ q. omega arith)))
    part (no d) f = omega (arith, f (omega arith), off_other i w n (λ q. d (sym q)))

-- two places exchange weight, and none gains
sum_two : (n : ℕ) (v w : ℕ → ℕ) (r s : ℕ) → r < n → s < n → (r ≡ s → ⊥) → v r + v s ≤ w r + w s
    → ((i : ℕ) → i < n → (i ≡ r → ⊥) → (i ≡ s → ⊥) → v i ≤ w i) → sum n v ≤ sum n w
sum_two n v w r s hr hs ne le h =
    omega (
      arith,
      sum_off n v r hr,
      sum_off n (off r v) s hs,
      sum_off n w r hr,
      sum_off n (off r w) s hs,
      off_other r v s (λ q. ne (sym q)),
      off_other r w s (λ q. ne (sym q)),
      sum_le n (off s (off r v)) (off s (off r w)) (λ i l. rest i l (ℕ_discrete i s) (ℕ_discrete i r)),
    )
  where
    rest : (i : ℕ) → i < n → Dec (i ≡ s) → Dec (i ≡ r) → off s (off r v) i ≤ off s (off r w) i
    rest i l (yes e) d = omega (arith, off_at s (off r v) i e)
    rest i l (no d) (yes e) = omega (arith, off_other s (off r v) i d, off_at r v i e)
    rest i l (no d) (no d') =
        omega (arith, off_other s (off r v) i d, off_other s (off r w) i d, off_other r v i d', off_other r w i d', h i l d' d)

weight_root : (p k : List ℕ) (i : ℕ) → get_or p i 0 ≡ i → weight p k i ≡ 2 ^ get_or k i 0
unfolding weight
weight_root p k i e = rw (eq-eqb (get_or p i 0) i e)

weight_below : (p k : List ℕ) (i : ℕ) → (get_or p i 0 ≡ i → ⊥) → weight p k i ≡ 0
unfolding weight
weight_below p k i d = rw (ne_eqb (get_or p i 0) i d)

-- a cell weighs by its own parent and rank
weight_same : (p k q l : List ℕ) (i : ℕ) → get_or q i 0 ≡ get_or p i 0 → get_or l i 0 ≡ get_or k i 0 → weight q l i ≡ weight p k i
unfolding weight
weight_same p k q l i e f = rw (e, f)

abbrev Total : ℕ → List ℕ → List ℕ → ℕ
Total n p k = sum n (weight p k)

-- a cell r gets another parent s: it is no root, and weighs nothing
lower : (n : ℕ) (p k : List ℕ) (r s : ℕ) → n ≤ length p → r < n → (r ≡ s → ⊥) → Total n (set p r s) k ≤ Total n p k
lower n p k r s long hr ne = sum_le n (weight (set p r s) k) (weight p k) (λ i l. at i (ℕ_discrete i r))
  where
    at : (i : ℕ) → Dec (i ≡ r) → weight (set p r s) k i ≤ weight p k i
    at i (yes e) =
        let z : get_or (set p r s) i 0 ≡ s = ap (λ (j : ℕ). get_or (set p r s) j 0) e ∙ get_or-set_same p r s 0 (omega arith) in
        omega (arith, weight_below (set p r s) k i (λ q. ne (sym e ∙ sym q ∙ z)))
    at i (no d) = omega (arith, weight_same p k (set p r s) k i (get_or-set_other p r i s 0 d) refl)

module _ {b n : ℕ} {p k : List ℕ} (F : Forest b n p k) (x : ℕ) (h : x < n) where
  turn_weighs : Total n (Roots.turn p x) k ≤ Total n p k
  turn_weighs =
      ⊎_elim (λ e. rw (Roots.turn_here p x e) (omega arith))
      (λ w.
      let g = get_or p (get_or p x 0) 0 in
      lower n p k x g F.in_p h (λ e. omega (arith, Roots.turn_higher F x h w.1, ap (λ (m : ℕ). get_or k m 0) e)))
      (F.up x h)

halves_weighs : {b n : ℕ} {k : List ℕ} (small : b ≤ 255) (f : ℕ) (p : List ℕ) (x : ℕ) → Forest b n p k → x < n → Total n (halves f p x) k ≤ Total n p k
unfolding halves
halves_weighs small zero p x F h = omega arith
halves_weighs small (suc f) p x F h =
    omega (arith, halves_weighs small f (Roots.turn p x) (get_or p x 0) (Roots.turn_legal F x h small) (Roots.next_in F x h), turn_weighs F x h)

pub halve_weighs : {b n : ℕ} {p k : List ℕ} (F : Forest b n p k) (small : b ≤ 255) (x : ℕ) (h : x < n) → Total n (halve p x) k ≤ Total n p k
unfolding halve
halve_weighs F small x h = halves_weighs small 256 _ x F h

module _ {b n : ℕ} {p k : List ℕ} (F : Forest b n p k) (r s : ℕ) (hr : r < n) (hs : s < n)
    (fr : get_or p r 0 ≡ r) (fs : get_or p s 0 ≡ s) (ne : r ≡ s → ⊥) where
  -- two roots of one rank become one of the next
  raise_weighs : get_or k r 0 ≡ get_or k s 0 → Total n (set p s r) (set k r (get_or k r 0 + 1)) ≤ Total n p k
  raise_weighs tied =
      let q = set p s r in
      let l = set k r (get_or k r 0 + 1) in
      sum_two n (weight q l) (weight p k) r s hr hs ne
      (omega (
        arith,
        weight_root q l r (get_or-set_other p s r r 0 ne ∙ fr),
        ap (λ (m : ℕ). 2 ^ m) (get_or-set_same k r (get_or k r 0 + 1) 0 (omega (arith, F.in_k)) ∙ add-one (get_or k r 0)),
        pow-succ' 2 (get_or k r 0),
        weight_below q l s (λ e. ne (sym (get_or-set_same p s r 0 (omega (arith, F.in_p))) ∙ e)),
        weight_root p k r fr,
        weight_root p k s fs,
        ap (λ (m : ℕ). 2 ^ m) tied,
      ))
      (λ i h d d'. omega (arith, weight_same p k q l i (get_or-set_other p s i r 0 d') (get_or-set_other k r i (get_or k r 0 + 1) 0 d)))

  linked_weighs : Total n (linked p k r s).parent (linked p k r s).rank ≤ Total n p k
  linked_weighs =
      Roots.linked_cases (λ u. Total n u.parent u.rank ≤ Total n p k) p k r s
      (λ _. lower n p k r s F.in_p hr ne)
      (λ _. lower n p k s r F.in_p hs (λ e. ne (sym e)))
      raise_weighs

-- a root's rank is bounded by what the forest weighs, and any other's by its root's
pub light : {b n : ℕ} {p k : List ℕ} (m : ℕ) → Forest b n p k → Total n p k ≤ 2 ^ m → Light m n p k
light {b} {n} {p} {k} m F t =
    record {
      forest = record { in_p = F.in_p; in_k = F.in_k; low = low; up = F.up };
      weighs = t;
    }
  where
    root : (r : ℕ) → r < n → get_or p r 0 ≡ r → Dec (get_or k r 0 ≤ m) → get_or k r 0 ≤ m
    root r h e (yes l) = l
    root r h e (no d) =
        absurd (omega (arith, pow-lt {i = m} {j = get_or k r 0} (omega arith), sum_part n (weight p k) r h, weight_root p k r e))

    low : (i : ℕ) → i < n → get_or k i 0 ≤ m
    low = Roots.upward F (λ a. get_or k a 0 ≤ m) (λ r h e. root r h e (dec_le (get_or k r 0) m)) (λ a h hn hi ih. omega arith)

-- LAW: a union keeps a light forest light: no rank rises above m
module _ {m n : ℕ} {p k : List ℕ} (L : Light m n p k) (small : m ≤ 254) (x y : ℕ) (hx : x < n) (hy : y < n) where
  halved_weighs : Total n (halve (halve p x) y) k ≤ Total n p k
  halved_weighs =
      let F = L.forest in
      omega (arith, halve_weighs F (omega arith) x hx, halve_weighs (Roots.halve_legal F (omega arith) x hx) (omega arith) y hy)

  united_weighs : Total n (united p k x y).parent (united p k x y).rank ≤ Total n p k
  united_weighs =
      let F = L.forest in
      Roots.united_cases (λ u. Total n u.parent u.rank ≤ Total n p k) p k x y
      (λ _. omega arith)
      (λ _. halved_weighs)
      (λ ne.
      omega (
        arith,
        halved_weighs,
        linked_weighs (Roots.halved_legal F small x y hx hy) (root_of p x) (root_of p y) (Roots.root_in F x hx) (Roots.root_in F y hy)
            (Roots.halved_fixed F small x y hx hy x hx) (Roots.halved_fixed F small x y hx hy y hy) ne,
      ))

  pub united_light : Light m n (united p k x y).parent (united p k x y).rank
  united_light = light m (Roots.united_law L.forest small x y hx hy).legal (omega (arith, united_weighs, L.weighs))

-- singletons
sum_ones : (n : ℕ) (w : ℕ → ℕ) → ((i : ℕ) → i < n → w i ≡ 1) → sum n w ≡ n
unfolding sum
sum_ones zero w h = refl
sum_ones (suc n) w h = omega (arith, sum_ones n w (λ i l. h i (omega arith)), h n (omega arith))

pub singles_light : (m n : ℕ) (p k : List ℕ) → n ≤ length p → n ≤ length k → ((i : ℕ) → i < n → get_or p i 0 ≡ i) → ((i : ℕ) → i < n → get_or k i 0 ≡ 0)
    → n ≤ 2 ^ m → Light m n p k
singles_light m n p k hp hk own flat small =
    record {
      forest = record { in_p = hp; in_k = hk; low = λ i h. omega (arith, flat i h); up = λ i h. inl (own i h) };
      weighs = omega (arith, sum_ones n (weight p k) (λ i h. weight_root p k i (own i h) ∙ ap (λ (j : ℕ). 2 ^ j) (flat i h)));
    }

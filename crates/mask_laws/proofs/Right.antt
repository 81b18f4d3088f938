-- An edit keeps every neighbour mask what the blocked cells alone give. By bits: a bit of a cell's mask is changed by the one direction
-- that leads from the edited cell to it. Over lists and sides of any size.
-- Assumes nothing.
use Prim.Native.Nat.{ℕ, zero, suc, ◌+◌, ◌-◌, ◌*◌, ◌%◌, ◌≤◌, ◌<◌}
use mathlib.Core.Path.{◌≡◌, refl, sym, ap, ◌∙◌, subst}
use mathlib.Core.Bool.{Bool, true, false, cond, ◌&&◌}
use mathlib.Core.List.{List}
use mathlib.Core.Logic.{⊎_elim, ◌⊎◌, inl, inr}
use native.Mathlib.Omega.{arith}
use borrow.Author.Tests.{lt-ltb, le-ltb, eq-eqb, ne_eqb, eqb-true, eqb-false}
use lib.Dec.{ltb, eqb, eqb→eq}
use lib.ListN.{get_or, set, length}
use lib.Seq.{get_or-set_same, get_or-set_other}
use Rattle.directions.proofs.Eight.{by_eight}
use Rattle.directions.specs.Offsets.{off_x, off_y}
use Rattle.masks.specs.Masks.{bit_at, mask_to, forced_bit, forced_of}
use Rattle.cells.specs.Cells.{cell_to}
use Rattle.cells.proofs.Small.{all, of_all}
use Rattle.cells.proofs.Cell.{cell_lt, cell_in, le_or_gt, same_cell, in_or_out}
use Rattle.refresh.specs.Refresh.{with_bit, touched, touched_to, masks_after}
use Rattle.refresh.proofs.Bits.{of_all2, with_bit_small}
use Rattle.refresh.proofs.Updates.{length_touched_to}
use Rattle.fills.specs.Fills.{free_bit, mask_of, MasksRight}
use Rattle.fills.proofs.Fills.{free_small, mask_small}

-- two laws of masks: each is a test that antt computes at every mask and direction
get_test : Bool → ℕ → ℕ → ℕ → Bool
get_test on m d e = eqb (bit_at (with_bit m d on) e) (cond (eqb e d) (cond on 1 0) (bit_at m e))

-- a bit of the mask with its bit d set or cleared
pub bit_with : (m d e : ℕ) (on : Bool) → m < 256 → d < 8 → e < 8
    → bit_at (with_bit m d on) e ≡ cond (eqb e d) (cond on 1 0) (bit_at m e)
unfolding with_bit get_test
bit_with m d e true hm hd he =
    eqb→eq _ _ (of_all (get_test true m d) 8 (of_all2 (λ m d. all (get_test true m d) 8) tt m d hm hd) e he)
bit_with m d e false hm hd he =
    eqb→eq _ _ (of_all (get_test false m d) 8 (of_all2 (λ m d. all (get_test false m d) 8) tt m d hm hd) e he)

whole_test : ℕ → Bool
whole_test m = eqb (mask_to (bit_at m) 8) m

-- a mask is its bits
pub mask_bits : (m : ℕ) → m < 256 → mask_to (bit_at m) 8 ≡ m
unfolding whole_test
mask_bits m hm = eqb→eq _ _ (of_all whole_test 256 tt m hm)

eq_or_ne : (a b : ℕ) → (a ≡ b) ⊎ (a ≡ b → ⊥)
eq_or_ne a b = go (eqb a b) refl
  where
    go : (t : Bool) → eqb a b ≡ t → (a ≡ b) ⊎ (a ≡ b → ⊥)
    go true e = inl (eqb-true a b e)
    go false e = inr (eqb-false a b e)

-- a direction and its opposite undo each other
off_sum_x : (e : ℕ) → e < 8 → off_x e + off_x ((e + 4) % 8) ≡ 2
unfolding off_x
off_sum_x = by_eight (λ e. off_x e + off_x ((e + 4) % 8) ≡ 2) refl refl refl refl refl refl refl refl

off_sum_y : (e : ℕ) → e < 8 → off_y e + off_y ((e + 4) % 8) ≡ 2
unfolding off_y
off_sum_y = by_eight (λ e. off_y e + off_y ((e + 4) % 8) ≡ 2) refl refl refl refl refl refl refl refl

-- the way back
pub opposite : (w h x y i j e : ℕ) → i < w → j < h → x < w → y < h → e < 8
    → cell_to w h i j e ≡ y * w + x → cell_to w h x y ((e + 4) % 8) ≡ j * w + i
opposite w h x y i j e hi hj hx hy he q =
    ⊎_elim (λ out. absurd (omega (arith, cell_lt w h x y hx hy, sym out ∙ q))) back
    (in_or_out w h (i + off_x e) (j + off_y e))
  where
    back : ((1 ≤ i + off_x e) × (i + off_x e ≤ w) × (1 ≤ j + off_y e) × (j + off_y e ≤ h))
        → cell_to w h x y ((e + 4) % 8) ≡ j * w + i
    back (a, b, c, d) =
        let z = same_cell w (i + off_x e - 1) (j + off_y e - 1) x y (omega arith) hx (sym (cell_in w h _ _ a b c d) ∙ q) in
        let p = x + off_x ((e + 4) % 8) in
        let r = y + off_y ((e + 4) % 8) in
        let ep : p ≡ i + 1 = omega (arith, z.0, off_sum_x e he) in
        let er : r ≡ j + 1 = omega (arith, z.1, off_sum_y e he) in
        let e1 : p - 1 ≡ i = omega arith in
        let e2 : r - 1 ≡ j = omega arith in
        cell_in w h p r (omega arith) (omega arith) (omega arith) (omega arith) ∙ rw (e1, e2)

pub get_pick : (b : Bool) (a l : List ℕ) (c : ℕ) → get_or a c 0 ≡ get_or l c 0 → get_or (cond b a l) c 0 ≡ get_or l c 0
get_pick true a l c e = e
get_pick false a l c e = refl

ltb_suc : (f n : ℕ) → (f ≡ n → ⊥) → ltb f (suc n) ≡ ltb f n
ltb_suc f n ne =
    ⊎_elim (λ l. let m : f < n = omega (arith, ne) in lt-ltb f (suc n) (omega arith) ∙ sym (lt-ltb f n m))
    (λ g. le-ltb f (suc n) (omega arith) ∙ sym (le-ltb f n (omega arith))) (le_or_gt f n)

-- a bit of a mask that is made of bits
pub bit_mask : (f : ℕ → ℕ) → ((k : ℕ) → f k < 2) → (e : ℕ) → e < 8 → bit_at (mask_to f 8) e ≡ f e
bit_mask f small =
    let s0 = small 0 in let s1 = small 1 in let s2 = small 2 in let s3 = small 3 in
    let s4 = small 4 in let s5 = small 5 in let s6 = small 6 in let s7 = small 7 in
    by_eight (λ e. bit_at (mask_to f 8) e ≡ f e) (omega arith) (omega arith) (omega arith) (omega arith)
    (omega arith) (omega arith) (omega arith) (omega arith)

mask_ext : (f g : ℕ → ℕ) (n : ℕ) → ((k : ℕ) → k < n → f k ≡ g k) → mask_to f n ≡ mask_to g n
mask_ext f g zero h = refl
mask_ext f g (suc n) h = rw (mask_ext f g n (λ k l. h k (omega arith)), h n (omega arith))

module _ (w h x y : ℕ) (on : Bool) where
  pub touched_hit : (l : List ℕ) (d c : ℕ) → cell_to w h x y d ≡ c → c < w * h → c < length l
      → get_or (touched w h l x y on d) c 0 ≡ with_bit (get_or l c 0) ((d + 4) % 8) on
  unfolding touched
  touched_hit l d c e hc hl = rw (e, lt-ltb c (w * h) hc, get_or-set_same l c _ 0 hl)

  pub touched_miss : (l : List ℕ) (d c : ℕ) → (cell_to w h x y d ≡ c → ⊥) → get_or (touched w h l x y on d) c 0 ≡ get_or l c 0
  unfolding touched
  touched_miss l d c ne =
      get_pick (ltb (cell_to w h x y d) (w * h)) _ l c (get_or-set_other l (cell_to w h x y d) c _ 0 (λ q. ne (sym q)))

  -- what one direction does to a bit
  bit_step : (L : List ℕ) (c n e f old : ℕ) → c < w * h → c < length L → get_or L c 0 < 256 → n < 8 → e < 8 → f ≡ (e + 4) % 8
      → bit_at (get_or L c 0) e ≡ cond (ltb f n && eqb (cell_to w h x y f) c) (cond on 1 0) old
      → bit_at (get_or (touched w h L x y on n) c 0) e ≡ cond (ltb f (suc n) && eqb (cell_to w h x y f) c) (cond on 1 0) old
  bit_step L c n e f old hc hl hm hn he ef ih =
      ⊎_elim
      (λ q.
      let a = ap (λ k. bit_at k e) (touched_hit L n c q hc hl) ∙ bit_with (get_or L c 0) ((n + 4) % 8) e on hm (omega arith) he in
      ⊎_elim (λ t.
      let r = ap (λ k. eqb (cell_to w h x y k) c) t ∙ eq-eqb (cell_to w h x y n) c q in
      a ∙ rw (eq-eqb e ((n + 4) % 8) (omega arith), r, lt-ltb f (suc n) (omega arith)))
      (λ t. a ∙ rw (ne_eqb e ((n + 4) % 8) (λ z. t (omega arith)), ltb_suc f n t) ih)
      (eq_or_ne f n))
      (λ q.
      let a = ap (λ k. bit_at k e) (touched_miss L n c q) in
      ⊎_elim (λ t.
      let r = ap (λ k. eqb (cell_to w h x y k) c) t ∙ ne_eqb (cell_to w h x y n) c q in
      a ∙ (rw (r, le-ltb f n (omega arith)) at ih) ∙ sym (rw (r, lt-ltb f (suc n) (omega arith))))
      (λ t. a ∙ rw (ltb_suc f n t) ih)
      (eq_or_ne f n))
      (eq_or_ne (cell_to w h x y n) c)

  module _ (l : List ℕ) (c : ℕ) (hc : c < w * h) (hl : c < length l) (hm : get_or l c 0 < 256) where
    lg : (n : ℕ) → c < length (touched_to w h l x y on n)
    lg n = omega (arith, length_touched_to w h x y on l n)

    pub small_to : (n : ℕ) → n ≤ 8 → get_or (touched_to w h l x y on n) c 0 < 256
    small_to zero le = hm
    small_to (suc n) le =
        let m = small_to n (omega arith) in
        ⊎_elim (λ e. rw (touched_hit (touched_to w h l x y on n) n c e hc (lg n))
        (with_bit_small (get_or (touched_to w h l x y on n) c 0) ((n + 4) % 8) on m (omega arith)))
        (λ ne. rw (touched_miss (touched_to w h l x y on n) n c ne) m)
        (eq_or_ne (cell_to w h x y n) c)

    bits_to : (e : ℕ) → e < 8 → (n : ℕ) → n ≤ 8
        → bit_at (get_or (touched_to w h l x y on n) c 0) e
        ≡ cond (ltb ((e + 4) % 8) n && eqb (cell_to w h x y ((e + 4) % 8)) c) (cond on 1 0) (bit_at (get_or l c 0) e)
    bits_to e he zero le = rw (le-ltb ((e + 4) % 8) 0 (omega arith))
    bits_to e he (suc n) le =
        bit_step (touched_to w h l x y on n) c n e ((e + 4) % 8) (bit_at (get_or l c 0) e) hc (lg n) (small_to n (omega arith)) (omega arith) he refl
        (bits_to e he n (omega arith))

-- the edited cell, as its neighbours see it
free_hit : (w h : ℕ) (blocked : List ℕ) (i j e k v : ℕ) → cell_to w h i j e ≡ k → k < w * h → k < length blocked
    → free_bit w h (set blocked k v) i j e ≡ cond (eqb v 0) 1 0
unfolding free_bit
free_hit w h blocked i j e k v q hk hl = rw (q, lt-ltb k (w * h) hk, get_or-set_same blocked k v 0 hl)

free_miss : (w h : ℕ) (blocked : List ℕ) (i j e k v : ℕ) → (cell_to w h i j e ≡ k → ⊥)
    → free_bit w h (set blocked k v) i j e ≡ free_bit w h blocked i j e
unfolding free_bit
free_miss w h blocked i j e k v q = rw (get_or-set_other blocked k (cell_to w h i j e) v 0 q)

-- THE LAW: if every neighbour mask is what the blocked cells give, so it is after an edit
pub masks_kept : (w h : ℕ) (blocked neighbours : List ℕ) (x y v : ℕ) → x < w → y < h → w * h ≤ length blocked → w * h ≤ length neighbours
    → MasksRight w h blocked neighbours → MasksRight w h (set blocked (y * w + x) v) (masks_after w h neighbours x y (eqb v 0))
unfolding MasksRight masks_after mask_of
masks_kept w h blocked neighbours x y v hx hy hb hn right i j hi hj =
    let c = j * w + i in
    let k = y * w + x in
    let on = eqb v 0 in
    let hc = cell_lt w h i j hi hj in
    let hk = cell_lt w h x y hx hy in
    let small = subst (λ m. m < 256) (sym (right i j hi hj)) (mask_small (free_bit w h blocked i j) (free_small w h blocked i j)) in
    let a = get_or (touched_to w h neighbours x y on 8) c 0 in
    let at : (e : ℕ) → e < 8 → bit_at a e ≡ free_bit w h (set blocked k v) i j e =
    λ e he.
    let old = ap (λ m. bit_at m e) (right i j hi hj) ∙ bit_mask (free_bit w h blocked i j) (free_small w h blocked i j) e he in
    let z = rw (lt-ltb ((e + 4) % 8) 8 (omega arith)) at (bits_to w h x y on neighbours c hc (omega arith) small e he 8 (omega arith)) in
    ⊎_elim
    (λ q. (rw (eq-eqb _ c (opposite w h x y i j e hi hj hx hy he q)) at z) ∙ sym (free_hit w h blocked i j e k v q hk (omega arith)))
    (λ q.
    let back : cell_to w h x y ((e + 4) % 8) ≡ c → ⊥ =
    λ t. let r : ((e + 4) % 8 + 4) % 8 ≡ e = omega arith in q (subst (λ d. cell_to w h i j d ≡ k) r (opposite w h i j x y ((e + 4) % 8) hx hy hi hj (omega arith) t)) in
    (rw (ne_eqb _ c back) at z) ∙ old ∙ sym (free_miss w h blocked i j e k v q))
    (eq_or_ne (cell_to w h i j e) k)
    in
    sym (mask_bits a (small_to w h x y on neighbours c hc (omega arith) small 8 (omega arith))) ∙ mask_ext (bit_at a) (free_bit w h (set blocked k v) i j) 8 at

-- the forced mask looks at the cardinal neighbours alone, so a diagonal bit does not change it
module _ (m k : ℕ) (on : Bool) (hm : m < 256) (hk : k < 8) (odd : k % 2 ≡ 1) where
  even_kept : (e : ℕ) → e < 8 → e % 2 ≡ 0 → bit_at (with_bit m k on) e ≡ bit_at m e
  even_kept e he z = bit_with m k e on hm hk he ∙ rw (ne_eqb e k (λ q. omega (arith, ap (λ (n : ℕ). n % 2) q)))

  pub forced_odd : forced_of (with_bit m k on) ≡ forced_of m
  unfolding forced_of
  forced_odd =
      let e0 = even_kept 0 (omega arith) refl in let e2 = even_kept 2 (omega arith) refl in
      let e4 = even_kept 4 (omega arith) refl in let e6 = even_kept 6 (omega arith) refl in
      mask_ext (forced_bit (with_bit m k on)) (forced_bit m) 8
      (by_eight (λ d. forced_bit (with_bit m k on) d ≡ forced_bit m d) (rw (e2, e6)) (rw (e4, e6)) (rw (e4, e0)) (rw (e6, e0)) (rw (e6, e2)) (rw (e0, e2)) (rw (e0, e4)) (rw (e2, e4)))

-- The forced masks follow the neighbour masks, through an edit too: where no direction leads from the edited cell, neither changes. Assumes nothing.
use mathlib.Core.Path.{◌≡◌, refl, sym, ap, subst, ◌∙◌}
use mathlib.Core.Logic.{◌⊎◌, inl, inr}
use mathlib.Core.Bool.{Bool, true, false, true≢false, not, cond, ◌&&◌}
use mathlib.Core.List.{List}
use Prim.Native.Nat.{ℕ, zero, suc, ◌+◌, ◌*◌, ◌/◌, ◌%◌, ◌≤◌, ◌<◌}
use native.Mathlib.Omega.{arith}
use native.Mathlib.Decide.{ℕ_discrete}
use lib.ListN.{length, get_or, set, length-set}
use lib.Seq.{get_or-set_same, get_or-set_other}
use lib.Dec.{ltb}
use native.Mathlib.Nat.{div-add-mod', mod-lt}
use borrow.Author.Tests.{lt-ltb, eqb-false}
use Rattle.masks.specs.Masks.{forced_of}
use Rattle.cells.specs.Cells.{cell_to}
use Rattle.refresh.specs.Refresh.{touched, touched_to, masks_after, allowed_of, fixed, fixed_to, fixed_all, forced_after}
use Rattle.fills.specs.Fills.{free_bit, MasksRight, mask_of, fill_to}
use Rattle.cells.proofs.Cell.{cell_lt, row_lt}
use Rattle.refresh.proofs.Updates.{length_touched_to, length_fixed_to, fixed_skip}
use Rattle.fills.proofs.Fills.{get_fill_to, free_small, mask_small}
use Rattle.mask_laws.proofs.Right.{masks_kept, get_pick, touched_hit, touched_miss, small_to, forced_odd}

-- each forced mask is that of the cell's neighbour mask
unfoldable pub Follows : ℕ → List ℕ → List ℕ → Type 0
Follows n neighbours forced = (c : ℕ) → c < n → get_or forced c 0 ≡ forced_of (get_or neighbours c 0)

-- a direction outside the neighbourhood is odd
odd_of : (diagonal : Bool) (d : ℕ) → allowed_of diagonal d ≡ false → d % 2 ≡ 1
odd_of true d e = absurd (true≢false e)
odd_of false d e = odd (eqb-false (d % 2) 0 e)
  where
    odd : (d % 2 ≡ 0 → ⊥) → d % 2 ≡ 1
    odd n = omega arith

module _ (w h x y : ℕ) (diagonal : Bool) where
  -- directions outside the neighbourhood alone lead to c, if any below n does
  abbrev Odd : ℕ → ℕ → Type 0
  Odd c n = (d : ℕ) → d < n → cell_to w h x y d ≡ c → allowed_of diagonal d ≡ false

  -- such a direction leaves c's forced mask what it was
  steady : (on : Bool) (l : List ℕ) (c : ℕ) → c < w * h → c < length l → get_or l c 0 < 256 → (n : ℕ) → n ≤ 8 → Odd c n
      → forced_of (get_or (touched_to w h l x y on n) c 0) ≡ forced_of (get_or l c 0)
  steady on l c hc hl small zero le o = refl
  steady on l c hc hl small (suc n) le o =
      go (ℕ_discrete (cell_to w h x y n) c) (steady on l c hc hl small n (omega arith) (λ d q. o d (omega arith)))
    where
      L : List ℕ
      L = touched_to w h l x y on n

      go : Dec (cell_to w h x y n ≡ c) → forced_of (get_or L c 0) ≡ forced_of (get_or l c 0) → forced_of (get_or (touched w h L x y on n) c 0) ≡ forced_of (get_or l c 0)
      go (yes e) ih =
          let q : n % 2 ≡ 1 = odd_of diagonal n (o n (omega arith) e) in
          ap forced_of (touched_hit w h x y on L n c e hc (omega (arith, length_touched_to w h x y on l n)))
          ∙ forced_odd (get_or L c 0) ((n + 4) % 8) on (small_to w h x y on l c hc hl small n (omega arith)) (omega arith) (omega arith) ∙ ih
      go (no ne) ih = ap forced_of (touched_miss w h x y on L n c ne) ∙ ih

  module _ (neighbours forced : List ℕ) (c : ℕ) (hc : c < w * h) (hl : c < length forced) where
    fixed_miss : (l : List ℕ) (d : ℕ) → (cell_to w h x y d ≡ c → ⊥) → get_or (fixed w h diagonal neighbours l x y d) c 0 ≡ get_or l c 0
    unfolding fixed
    fixed_miss l d ne =
        get_pick (allowed_of diagonal d && ltb (cell_to w h x y d) (w * h)) _ l c (get_or-set_other l (cell_to w h x y d) c _ 0 (λ q. ne (sym q)))

    fixed_hit : (l : List ℕ) (d : ℕ) → allowed_of diagonal d ≡ true → cell_to w h x y d ≡ c → c < length l
        → get_or (fixed w h diagonal neighbours l x y d) c 0 ≡ forced_of (get_or neighbours c 0)
    unfolding fixed
    fixed_hit l d a e hl' = rw (a, e, lt-ltb c (w * h) hc, get_or-set_same l c _ 0 hl')

    -- a direction of the neighbourhood led to c, or none did
    abbrev Told : ℕ → Type 0
    Told n =
        (get_or (fixed_to w h diagonal neighbours forced x y n) c 0 ≡ forced_of (get_or neighbours c 0))
        ⊎ ((get_or (fixed_to w h diagonal neighbours forced x y n) c 0 ≡ get_or forced c 0) × Odd c n)

    told : (n : ℕ) → Told n
    told zero = inr (refl, λ d l e. absurd (omega arith))
    told (suc n) = go (ℕ_discrete (cell_to w h x y n) c) (allowed_of diagonal n) refl (told n)
      where
        F : List ℕ
        F = fixed_to w h diagonal neighbours forced x y n

        more : ((cell_to w h x y n ≡ c) → allowed_of diagonal n ≡ false) → Odd c n → Odd c (suc n)
        more new old d l z = at (ℕ_discrete d n)
          where
            at : Dec (d ≡ n) → allowed_of diagonal d ≡ false
            at (yes e) = subst (λ (m : ℕ). allowed_of diagonal m ≡ false) (sym e) (new (subst (λ (m : ℕ). cell_to w h x y m ≡ c) e z))
            at (no k) = old d (omega arith) z

        go : Dec (cell_to w h x y n ≡ c) → (a : Bool) → allowed_of diagonal n ≡ a → Told n → Told (suc n)
        go (yes e) true q ih = inl (fixed_hit F n q e (omega (arith, length_fixed_to w h x y diagonal neighbours forced n)))
        go (yes e) false q (inl i) = inl (ap (λ (l : List ℕ). get_or l c 0) (sym (fixed_skip w h x y diagonal neighbours F n q)) ∙ i)
        go (yes e) false q (inr i) = inr (ap (λ (l : List ℕ). get_or l c 0) (sym (fixed_skip w h x y diagonal neighbours F n q)) ∙ i.0, more (λ z. q) i.1)
        go (no ne) a q (inl i) = inl (fixed_miss F n ne ∙ i)
        go (no ne) a q (inr i) = inr (fixed_miss F n ne ∙ i.0, more (λ z. absurd (ne z)) i.1)

  -- LAW: an edit keeps the forced masks in step with the neighbour masks
  pub forced_kept : (neighbours forced : List ℕ) (on : Bool) → x < w → y < h → w * h ≤ length neighbours → w * h ≤ length forced
      → ((c : ℕ) → c < w * h → get_or neighbours c 0 < 256) → Follows (w * h) neighbours forced
      → Follows (w * h) (masks_after w h neighbours x y on) (forced_after w h diagonal neighbours forced x y on)
  unfolding Follows masks_after fixed_all
  forced_kept neighbours forced on hx hy wide room small F c hc = go (told neighbours' forced₁ c hc (omega (arith, length-set forced k v)) 8)
    where
      k : ℕ
      k = y * w + x

      neighbours' : List ℕ
      neighbours' = touched_to w h neighbours x y on 8

      v : ℕ
      v = forced_of (get_or neighbours' k 0)

      forced₁ : List ℕ
      forced₁ = set forced k v

      go : Told neighbours' forced₁ c hc (omega (arith, length-set forced k v)) 8 → get_or (fixed_to w h diagonal neighbours' forced₁ x y 8) c 0 ≡ forced_of (get_or neighbours' c 0)
      go (inl q) = q
      go (inr q) = q.0 ∙ at (ℕ_discrete c k)
        where
          at : Dec (c ≡ k) → get_or forced₁ c 0 ≡ forced_of (get_or neighbours' c 0)
          at (yes e) = subst (λ (m : ℕ). get_or forced₁ m 0 ≡ forced_of (get_or neighbours' m 0)) (sym e) (get_or-set_same forced k v 0 (omega (arith, cell_lt w h x y hx hy)))
          at (no ne) = get_or-set_other forced k c v 0 ne ∙ F c hc ∙ sym (steady on neighbours c hc (omega arith) (small c hc) 8 (omega arith) q.1)

-- a right neighbour mask is a mask
pub right_small : (w h : ℕ) (blocked neighbours : List ℕ) → 0 < w → MasksRight w h blocked neighbours → (c : ℕ) → c < w * h → get_or neighbours c 0 < 256
unfolding MasksRight mask_of
right_small w h blocked neighbours some R c hc =
    let e : c / w * w + c % w ≡ c = div-add-mod' c w in
    let m = R (c % w) (c / w) (mod-lt c some) (row_lt w h c some hc) in
    subst (λ (k : ℕ). get_or neighbours k 0 < 256) e
    (subst (λ (k : ℕ). k < 256) (sym m) (mask_small (free_bit w h blocked (c % w) (c / w)) (free_small w h blocked (c % w) (c / w))))

pub length_masks : (w h : ℕ) (neighbours : List ℕ) (x y : ℕ) (on : Bool) → length (masks_after w h neighbours x y on) ≡ length neighbours
unfolding masks_after
length_masks w h neighbours x y on = length_touched_to w h x y on neighbours 8

pub length_forced : (w h : ℕ) (diagonal : Bool) (neighbours forced : List ℕ) (x y : ℕ) (on : Bool) → length (forced_after w h diagonal neighbours forced x y on) ≡ length forced
unfolding fixed_all
length_forced w h diagonal neighbours forced x y on = length_fixed_to w h x y diagonal (masks_after w h neighbours x y on) _ 8 ∙ length-set forced _ _

-- forced masks that were worked out from the neighbour masks
pub fill_follows : (n : ℕ) (neighbours forced : List ℕ) → n ≤ length forced → Follows n neighbours (fill_to (λ i. forced_of (get_or neighbours i 0)) forced n)
unfolding Follows
fill_follows n neighbours forced room c hc = get_fill_to (λ i. forced_of (get_or neighbours i 0)) forced n c hc room

-- what an edit's byte says of the masks
pub edit_right : (w h : ℕ) (blocked neighbours : List ℕ) (x y : ℕ) (b : Bool) → x < w → y < h → w * h ≤ length blocked → w * h ≤ length neighbours
    → MasksRight w h blocked neighbours → MasksRight w h (set blocked (y * w + x) (cond b 1 0)) (masks_after w h neighbours x y (not b))
edit_right w h blocked neighbours x y true hx hy hb hn R = masks_kept w h blocked neighbours x y 1 hx hy hb hn R
edit_right w h blocked neighbours x y false hx hy hb hn R = masks_kept w h blocked neighbours x y 0 hx hy hb hn R

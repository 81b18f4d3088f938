-- Laws of filling a table from the front, and of the neighbour masks that the cells alone give. Over lists and sides of any size.
-- Assumes nothing.
use Prim.Native.Nat.{ℕ, zero, suc, ◌+◌, ◌*◌, ◌/◌, ◌%◌, ◌^◌, ◌≤◌, ◌<◌}
use mathlib.Core.Path.{◌≡◌, refl, sym, ◌∙◌}
use mathlib.Core.Bool.{Bool, true, false, cond}
use mathlib.Core.List.{List}
use mathlib.Core.Logic.{⊎_elim}
use native.Mathlib.Omega.{arith}
use native.Mathlib.Numerals.{add-one}
use native.Mathlib.Nat.{eq-or-lt_of_le, le_of_suc-le-suc, mul-add-mod_self_right, add-mul-div_right, mod-eq_of_lt, div-eq_of_lt, add_comm, zero-add}
use borrow.Author.Tests.{lt-ltb, le-ltb}
use lib.Dec.{ltb, eqb}
use lib.ListN.{get_or, length, length-set, replicate, drop}
use Rattle.std.specs.Prelude.{◌++◌}
use Rattle.std.proofs.lemmas.List.Edits.{fill_none, fill_more}
use lib.Seq.{ext_get_or, get_or-set_same, get_or-set_other}
use Rattle.directions.proofs.Eight.{by_eight}
use Rattle.masks.specs.Masks.{mask_to}
use Rattle.cells.specs.Cells.{cell_to}
use Rattle.cells.proofs.Cell.{cell_lt, le_or_gt}
use Rattle.fills.specs.Fills.{fill_to, free_bit, mask_at, MasksRight}

-- filling from the front
module _ (f : ℕ → ℕ) where
  pub length_fill_to : (l : List ℕ) (n : ℕ) → length (fill_to f l n) ≡ length l
  length_fill_to l zero = refl
  length_fill_to l (suc n) = length-set (fill_to f l n) n (f n) ∙ length_fill_to l n

  pub get_fill_to : (l : List ℕ) (n k : ℕ) → k < n → n ≤ length l → get_or (fill_to f l n) k 0 ≡ f k
  get_fill_to l zero k h le = absurd (omega arith)
  get_fill_to l (suc n) k h le =
      ⊎_elim (λ e. rw e (get_or-set_same (fill_to f l n) n (f n) 0 (omega (arith, length_fill_to l n))))
      (λ lt. get_or-set_other (fill_to f l n) n k (f n) 0 (λ q. omega arith) ∙ get_fill_to l n k lt (omega arith))
      (eq-or-lt_of_le (le_of_suc-le-suc h))

  -- past the entries that are filled nothing changes
  pub get_fill_past : (l : List ℕ) (n k : ℕ) → n ≤ k → get_or (fill_to f l n) k 0 ≡ get_or l k 0
  get_fill_past l zero k le = refl
  get_fill_past l (suc n) k le = get_or-set_other (fill_to f l n) n k (f n) 0 (λ q. omega arith) ∙ get_fill_past l n k (omega arith)

  -- a list whose entries below n are f's, and the others l's
  pub filled : (l m : List ℕ) (n : ℕ) → n ≤ length l → length m ≡ length l → ((k : ℕ) → k < n → get_or m k 0 ≡ f k) → ((k : ℕ) → n ≤ k → get_or m k 0 ≡ get_or l k 0)
      → m ≡ fill_to f l n
  filled l m n le e below past =
      ext_get_or 0 m (fill_to f l n) (e ∙ sym (length_fill_to l n))
      (λ k h. ⊎_elim (λ q. past k q ∙ sym (get_fill_past l n k q)) (λ q. below k q ∙ sym (get_fill_to l n k q le)) (le_or_gt n k))

-- a value in each of the first places
pub filled_with : (v : ℕ) (l : List ℕ) (n : ℕ) → n ≤ length l → replicate n v ++ drop n l ≡ fill_to (λ i. v) l n
filled_with v l zero le = sym (fill_none l v)
filled_with v l (suc n) le = rw (← filled_with v l n (omega arith)) (sym (rw add-one at (fill_more n v l le)))

pub free_small : (w h : ℕ) (blocked : List ℕ) (x y d : ℕ) → free_bit w h blocked x y d < 2
unfolding free_bit
free_small w h blocked x y d = two (ltb (cell_to w h x y d) (w * h)) (eqb (get_or blocked (cell_to w h x y d) 0) 0)
  where
    two : (a b : Bool) → cond a (cond b 1 0) 0 < 2
    two true true = omega arith
    two true false = omega arith
    two false b = omega arith

pub mask_small : (f : ℕ → ℕ) → ((k : ℕ) → f k < 2) → mask_to f 8 < 256
mask_small f small =
    let s0 = small 0 in let s1 = small 1 in let s2 = small 2 in let s3 = small 3 in
    let s4 = small 4 in let s5 = small 5 in let s6 = small 6 in let s7 = small 7 in
    omega arith

pub mask_next : (f : ℕ → ℕ) → ((k : ℕ) → f k < 2) → (n : ℕ) → n < 8 → mask_to f n + f n * 2 ^ n < 256
mask_next f small =
    let s0 = small 0 in let s1 = small 1 in let s2 = small 2 in let s3 = small 3 in
    let s4 = small 4 in let s5 = small 5 in let s6 = small 6 in let s7 = small 7 in
    by_eight (λ n. mask_to f n + f n * 2 ^ n < 256) (omega arith) (omega arith) (omega arith) (omega arith)
    (omega arith) (omega arith) (omega arith) (omega arith)

-- one turn of a mask that is made bit by bit
pub mask_turn : (f : ℕ → ℕ) → ((k : ℕ) → f k < 2) → (n m b : ℕ) → n < 8 → m ≡ mask_to f n → b ≡ f n → (m + b * 2 ^ n % 256 < 256) × (m + b * 2 ^ n % 256 ≡ mask_to f (n + 1))
mask_turn f small n m b h em eb =
    let s = mask_next f small n h in
    let e : f n * 2 ^ n % 256 ≡ f n * 2 ^ n = mod-eq_of_lt (omega (arith, s)) in
    rw (em, eb, e, add-one) (s, refl)

pub free_at : (w h : ℕ) (blocked : List ℕ) (x y d i : ℕ) → i ≡ cell_to w h x y d → i < w * h → free_bit w h blocked x y d ≡ cond (eqb (get_or blocked i 0) 0) 1 0
unfolding free_bit
free_at w h blocked x y d i e lt = rw (← e, lt-ltb i (w * h) lt)

pub free_out : (w h : ℕ) (blocked : List ℕ) (x y d : ℕ) → w * h ≡ cell_to w h x y d → free_bit w h blocked x y d ≡ 0
unfolding free_bit
free_out w h blocked x y d e = rw (le-ltb (cell_to w h x y d) (w * h) (omega arith))

-- masks that were worked out from the cells are what the cells give
pub fill_right : (w h : ℕ) (blocked neighbours : List ℕ) → 0 < w → w * h ≤ length neighbours → MasksRight w h blocked (fill_to (mask_at w h blocked) neighbours (w * h))
unfolding MasksRight
fill_right w h blocked neighbours hw hl x y hx hy =
    let a : (y * w + x) % w ≡ x = mul-add-mod_self_right y w x ∙ mod-eq_of_lt hx in
    let b : (y * w + x) / w ≡ y = rw (add_comm (y * w) x, add-mul-div_right x y hw, div-eq_of_lt hx, zero-add) in
    get_fill_to (mask_at w h blocked) neighbours (w * h) (y * w + x) (cell_lt w h x y hx hy) hl ∙ rw (a, b)

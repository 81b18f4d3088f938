-- Laws of one update and of the eight: what code of any form cites, over lists of any length.
-- Assumes nothing.
use Prim.Native.Nat.{ℕ, zero, suc, ◌*◌}
use mathlib.Core.Path.{◌≡◌, refl, ◌∙◌}
use mathlib.Core.Bool.{Bool, true, false, cond, ◌&&◌}
use mathlib.Core.List.{List}
use lib.Dec.{ltb}
use lib.ListN.{length, length-set}
use Rattle.cells.specs.Cells.{cell_to}
use Rattle.refresh.specs.Refresh.{touched, touched_to, allowed_of, fixed, fixed_to}

length_pick : (b : Bool) (a l : List ℕ) → length a ≡ length l → length (cond b a l) ≡ length l
length_pick true a l e = e
length_pick false a l e = refl

module _ (w h x y : ℕ) where
  module _ (on : Bool) where
    pub length_touched : (l : List ℕ) (d : ℕ) → length (touched w h l x y on d) ≡ length l
    unfolding touched
    length_touched l d = length_pick (ltb (cell_to w h x y d) (w * h)) _ l (length-set l _ _)

    pub length_touched_to : (l : List ℕ) (n : ℕ) → length (touched_to w h l x y on n) ≡ length l
    length_touched_to l zero = refl
    length_touched_to l (suc n) = length_touched (touched_to w h l x y on n) n ∙ length_touched_to l n

  -- the same for the forced masks
  module _ (diagonal : Bool) (neighbours : List ℕ) where
    pub fixed_skip : (forced : List ℕ) (d : ℕ) → allowed_of diagonal d ≡ false → forced ≡ fixed w h diagonal neighbours forced x y d
    unfolding fixed
    fixed_skip forced d e = rw e

    pub length_fixed : (forced : List ℕ) (d : ℕ) → length (fixed w h diagonal neighbours forced x y d) ≡ length forced
    unfolding fixed
    length_fixed forced d = length_pick (allowed_of diagonal d && ltb (cell_to w h x y d) (w * h)) _ forced (length-set forced _ _)

    pub length_fixed_to : (forced : List ℕ) (n : ℕ) → length (fixed_to w h diagonal neighbours forced x y n) ≡ length forced
    length_fixed_to forced zero = refl
    length_fixed_to forced (suc n) = length_fixed (fixed_to w h diagonal neighbours forced x y n) n ∙ length_fixed_to forced n

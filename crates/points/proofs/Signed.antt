-- What the machine's signed numbers are, for coordinates in range: their differences and steps. By the halves of `Halves`. Assumes nothing.
use mathlib.Core.Path.{◌≡◌, sym, ap, ◌∙◌, subst}
use mathlib.Core.Bool.{true}
use Prim.Native.Nat.{ℕ, ◌<◌, ◌≤◌, ◌%◌}
use native.Mathlib.Omega.{arith}
use native.Mathlib.Nat.{mod-lt}
use lib.Dec.{T, leb, leb→le, lit<}
use lib.IntN.{ℤ, pos, negsuc, nat_abs, ◌+ℤ◌, ◌-ℤ◌}
use mir.Syntax.{w32}
use mir.Val.{SFits, to_z, of_z}
use mir.Facts.{to_z-of_z, and_yes}
use Rattle.points.specs.Plane.{in_range, legal}
use Rattle.points.specs.declared.Point.{Point}
use Rattle.points.specs.Compass.{dx_of, dy_of}
use Rattle.directions.specs.Offsets.{off_x, off_y}
use Rattle.directions.proofs.Eight.{by_eight}
use Rattle.points.proofs.Halves.{up, dn, apart, abs_is, add_is, sub_law, mag_of}

-- ---- bounds

pub in_halves : (z : ℤ) → T (in_range z) → (up z ≤ 1023) × (dn z ≤ 1024)
in_halves (pos n) t = (leb→le n 1023 t, omega arith)
in_halves (negsuc n) t = (omega arith, omega (arith, leb→le n 1023 (and_yes (leb n 1023) true t).0))

-- a small number fits, so that the machine reads it back as it is
small_fits : (z : ℤ) → up z < 4096 → dn z ≤ 4096 → SFits w32 z
small_fits z p q = record { sfits = omega (arith, mag_of z 4096 p q) }

pub in_fits : (z : ℤ) → T (in_range z) → SFits w32 z
in_fits z t = small_fits z (omega (arith, (in_halves z t).0)) (omega (arith, (in_halves z t).1))

pub read_in : (z : ℤ) → T (in_range z) → to_z w32 (of_z w32 z) ≡ z
read_in z t = to_z-of_z (in_fits z t)

-- how far two coordinates are apart
pub gap_le : (a b : ℤ) → T (in_range a) → T (in_range b) → nat_abs (b -ℤ a) ≤ 2047
gap_le a b p q =
    let d = b -ℤ a in
    omega (arith, sub_law b a, abs_is d, apart d, (in_halves a p).0, (in_halves a p).1, (in_halves b q).0, (in_halves b q).1)

-- ---- a coordinate and a step of at most one

module _ (a d e : ℤ) (t : T (in_range a)) (p : d ≡ e) (m : (up e ≤ 1) × (dn e ≤ 1)) where
  one_fits : SFits w32 e
  one_fits = small_fits e (omega arith) (omega arith)

  sum_fits : SFits w32 (a +ℤ e)
  sum_fits =
      small_fits (a +ℤ e)
      (omega (arith, add_is a e, apart (a +ℤ e), (in_halves a t).0, (in_halves a t).1))
      (omega (arith, add_is a e, apart (a +ℤ e), (in_halves a t).0, (in_halves a t).1))

  plain : to_z w32 (of_z w32 a) +ℤ to_z w32 (of_z w32 d) ≡ a +ℤ e
  plain = λ i. read_in a t i +ℤ (ap (λ (z : ℤ). to_z w32 (of_z w32 z)) p ∙ to_z-of_z one_fits) i

  pub step_fits : SFits w32 (to_z w32 (of_z w32 a) +ℤ to_z w32 (of_z w32 d))
  step_fits = subst (SFits w32) (sym plain) sum_fits

  pub step_read : to_z w32 (of_z w32 (to_z w32 (of_z w32 a) +ℤ to_z w32 (of_z w32 d))) ≡ a +ℤ e
  step_read = ap (λ (z : ℤ). to_z w32 (of_z w32 z)) plain ∙ to_z-of_z sum_fits

-- ---- offsets

pub off_x_le : (k : ℕ) → k < 8 → off_x k ≤ 2
unfolding off_x
off_x_le = by_eight (λ k. off_x k ≤ 2) (omega arith) (omega arith) (omega arith) (omega arith) (omega arith) (omega arith) (omega arith) (omega arith)

pub off_y_le : (k : ℕ) → k < 8 → off_y k ≤ 2
unfolding off_y
off_y_le = by_eight (λ k. off_y k ≤ 2) (omega arith) (omega arith) (omega arith) (omega arith) (omega arith) (omega arith) (omega arith) (omega arith)

one_off : (k : ℕ) → k ≤ 2 → (up (pos k -ℤ pos 1) ≤ 1) × (dn (pos k -ℤ pos 1) ≤ 1)
one_off k h =
    let z = pos k -ℤ pos 1 in
    (omega (arith, sub_law (pos k) (pos 1), apart z), omega (arith, sub_law (pos k) (pos 1), apart z))

pub dx_small : (n : ℕ) → (up (dx_of n) ≤ 1) × (dn (dx_of n) ≤ 1)
dx_small n = one_off (off_x (n % 8)) (off_x_le (n % 8) (mod-lt n (lit< tt)))

pub dy_small : (n : ℕ) → (up (dy_of n) ≤ 1) × (dn (dy_of n) ≤ 1)
dy_small n = one_off (off_y (n % 8)) (off_y_le (n % 8) (mod-lt n (lit< tt)))

-- ---- two legal points

-- what a legal point says of its coordinates
pub parts : (p : Point) → T (legal p) → T (in_range p.x) × T (in_range p.y)
parts p q = and_yes (in_range p.x) (in_range p.y) q

pub reads : (z : ℤ) → T (in_range z) → T (in_range (to_z w32 (of_z w32 z)))
reads z t = subst (λ (k : ℤ). T (in_range k)) (sym (read_in z t)) t

-- the difference of two coordinates, as the machine reads them
pub diff_read : (a b : ℤ) → T (in_range a) → T (in_range b) → to_z w32 (of_z w32 b) -ℤ to_z w32 (of_z w32 a) ≡ b -ℤ a
diff_read a b p q = λ i. read_in b q i -ℤ read_in a p i

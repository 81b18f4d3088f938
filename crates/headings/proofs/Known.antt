-- The direction between two points, put together from what its parts say, as the machine reads coordinates in range. Assumes nothing.
use Rattle.std.proofs.Common.{◌≡◌, ℕ, max, Bool, true, false, cond, eqb, T, Some, None, Ok, Err, Result, refl, sym, ap, ◌∙◌, w32, to_z, of_z, ◌-ℤ◌, nat_abs}
use Rattle.std.proofs.lemmas.Option.{none-some, same_Some}
use Rattle.std.specs.declared.cmp.Ordering.{Ordering}
use Rattle.points.specs.Plane.{legal}
use Rattle.points.specs.Compass.{dir, sign_of}
use Rattle.points.specs.declared.Point.{Point}
use Rattle.points.specs.declared.Direction.{Direction}
use Rattle.points.specs.declared.Refusal.{Refusal}
use Rattle.points.specs.declared.Refusal.TheVariants.{Same}
use Rattle.points.proofs.Signed.{parts, diff_read}
use Rattle.bends.specs.declared.Heading.{Heading}
use Rattle.bends.specs.declared.Heading.TheVariants.{Straight, Bent}
use Rattle.bends.specs.Bends.{in_line}
use Rattle.headings.specs.Headings.{compass_of, towards_of, heading_of}

towards_some : (s t : Ordering) (d : Direction) → Some d ≡ towards_of s t → (false ≡ eqb (compass_of s t) 8) × (d ≡ dir (compass_of s t))
towards_some s t d = go (eqb (compass_of s t) 8)
  where
    go : (b : Bool) → Some d ≡ cond b None (Some (dir (compass_of s t))) → (false ≡ b) × (d ≡ dir (compass_of s t))
    go true e = absurd (none-some d (sym e))
    go false e = (refl, same_Some d (dir (compass_of s t)) e)

-- a heading, straight or bent
abbrev of : Bool → Direction → ℕ → Result Heading Refusal
of line d n = cond line (Ok (Straight d n)) (Ok (Bent d n))

pub heading_known : (a b : Point) (s t : Ordering) (across down steps : ℕ) (line : Bool) (d : Direction) → T (legal a) → T (legal b)
    → s ≡ sign_of (to_z w32 (of_z w32 b.x) -ℤ to_z w32 (of_z w32 a.x)) → t ≡ sign_of (to_z w32 (of_z w32 b.y) -ℤ to_z w32 (of_z w32 a.y)) → Some d ≡ towards_of s t
    → across ≡ nat_abs (to_z w32 (of_z w32 b.x) -ℤ to_z w32 (of_z w32 a.x)) → down ≡ nat_abs (to_z w32 (of_z w32 b.y) -ℤ to_z w32 (of_z w32 a.y))
    → steps ≡ max across down → line ≡ in_line across down → of line d steps ≡ heading_of a b
heading_known a b s t across down steps line d p q es et ed ex ey en el =
    let k = towards_some s t d ed in
    let x = diff_read a.x b.x (parts a p).0 (parts b q).0 in
    let y = diff_read a.y b.y (parts a p).1 (parts b q).1 in
    let s' = es ∙ ap sign_of x in
    let t' = et ∙ ap sign_of y in
    let m = ex ∙ ap nat_abs x in
    let n = ey ∙ ap nat_abs y in
    (λ i. cond (k.0 i) (Err (Same a)) (of (el i) (k.1 i) (en i)))
    ∙ (λ i. cond (eqb (compass_of (s' i) (t' i)) 8) (Err (Same a)) (of (in_line (m i) (n i)) (dir (compass_of (s' i) (t' i))) (max (m i) (n i))))

-- What straight and bent mean, proved: by the differences of the two points, each a number of steps of its own sign. Assumes nothing.
use mathlib.Core.Path.{◌≡◌, refl, sym, ap, ◌∙◌, subst}
use mathlib.Core.Logic.{◌⊎◌, inl, inr}
use mathlib.Core.Bool.{Bool, true, false, cond, ◌||◌, true≢false}
use Prim.Native.Nat.{ℕ, zero, suc, ◌+◌, ◌%◌, ◌<◌, ◌≤◌, max}
use native.Mathlib.Nat.{mod-lt}
use native.Mathlib.Omega.{arith}
use borrow.Author.Tests.{eq-eqb, ne_eqb, eqb-true}
use lib.Dec.{T, eqb, lit<}
use lib.IntN.{ℤ, pos, negsuc, nat_abs, ◌+ℤ◌, ◌-ℤ◌}
use Rattle.std.specs.Prelude.{Result, Ok, Err}
use Rattle.std.specs.Ordering.{match_ordering}
use Rattle.directions.specs.Offsets.{off_x, off_y}
use Rattle.directions.proofs.Eight.{by_eight}
use Rattle.points.specs.Plane.{legal}
use Rattle.points.specs.Compass.{dir, dx_of, dy_of, moved, sign_of}
use Rattle.points.specs.declared.Point.{Point}
use Rattle.std.specs.declared.cmp.Ordering.{Ordering}
use Rattle.std.specs.declared.cmp.Ordering.TheVariants.{Less, Equal, Greater}
use Rattle.points.specs.declared.Refusal.{Refusal}
use Rattle.points.specs.declared.Refusal.TheVariants.{Same, BadPoint}
use Rattle.points.proofs.Halves.{up, dn, sign_z, same, abs_is, add_is, sub_law, apart}
use Rattle.points.proofs.Signed.{parts, gap_le}
use Rattle.bends.specs.declared.Heading.{Heading}
use Rattle.bends.specs.declared.Heading.TheVariants.{Straight, Bent}
use Rattle.bends.specs.Bends.{steps_of, bent_of, in_line}
use Rattle.headings.specs.Headings.{compass_of, span_of, heading_of, direction_of}
use Rattle.headings.specs.Lines.{ahead, StraightLeads, BentNever}

-- ---- a coordinate, and steps of a sign

-- the step of a sign
abbrev offset : Ordering → ℤ
offset Less = negsuc 0
offset Equal = pos 0
offset Greater = pos 1

offset_is : (z : ℤ) → sign_z z ≡ offset (sign_of z)
offset_is (pos zero) = refl
offset_is (pos (suc n)) = refl
offset_is (negsuc n) = refl

-- n steps of a sign, as a difference and in size
abbrev far : Ordering → ℕ → ℤ
far Less zero = pos 0
far Less (suc n) = negsuc n
far Equal n = pos 0
far Greater n = pos n

abbrev size : Ordering → ℕ → ℕ
size Less n = n
size Equal n = 0
size Greater n = n

far_sign : (s : Ordering) (n : ℕ) → 0 < n → sign_of (far s n) ≡ s
far_sign Less zero h = absurd (none h)
  where
    none : 0 < 0 → ⊥
    none h = omega arith
far_sign Less (suc n) h = refl
far_sign Equal n h = refl
far_sign Greater zero h = absurd (none h)
  where
    none : 0 < 0 → ⊥
    none h = omega arith
far_sign Greater (suc n) h = refl

far_size : (s : Ordering) (n : ℕ) → nat_abs (far s n) ≡ size s n
far_size Less zero = refl
far_size Less (suc n) = refl
far_size Equal n = refl
far_size Greater n = refl

far_up : (s : Ordering) (n : ℕ) → (up (far s (suc n)) ≡ up (far s n) + up (offset s)) × (dn (far s (suc n)) ≡ dn (far s n) + dn (offset s))
far_up Less zero = (refl, refl)
far_up Less (suc n) = (refl, omega arith)
far_up Equal n = (refl, refl)
far_up Greater n = (omega arith, refl)

-- a difference that is 0, or n in size, is n steps of its own sign
far_is : (z : ℤ) (n : ℕ) → (nat_abs z ≡ 0) ⊎ (nat_abs z ≡ n) → z ≡ far (sign_of z) n
far_is (pos zero) n h = refl
far_is (pos (suc k)) n (inl e) = absurd (none k e)
  where
    none : (k : ℕ) → suc k ≡ 0 → ⊥
    none k e = omega arith
far_is (pos (suc k)) n (inr e) = ap pos e
far_is (negsuc k) n (inl e) = absurd (none k e)
  where
    none : (k : ℕ) → suc k ≡ 0 → ⊥
    none k e = omega arith
far_is (negsuc k) n (inr e) = ap (far Less) e

-- a coordinate after n steps
abbrev slid : ℕ → ℤ → ℤ → ℤ
slid zero e a = a
slid (suc n) e a = slid n e (a +ℤ e)

-- n steps of a sign lead as far as that
slid_law : (s : Ordering) (n : ℕ) (a : ℤ) → up (slid n (offset s) a) + (dn a + dn (far s n)) ≡ up a + up (far s n) + dn (slid n (offset s) a)
slid_law Less zero a = omega arith
slid_law Equal zero a = omega arith
slid_law Greater zero a = omega arith
slid_law s (suc n) a = omega (arith, slid_law s n (a +ℤ offset s), add_is a (offset s), (far_up s n).0, (far_up s n).1)

slid_to : (s : Ordering) (n : ℕ) (a b : ℤ) → b -ℤ a ≡ far s n → slid n (offset s) a ≡ b
slid_to s n a b e =
    let z = slid n (offset s) a in
    let u : up (b -ℤ a) ≡ up (far s n) = ap up e in
    let d : dn (b -ℤ a) ≡ dn (far s n) = ap dn e in
    same z b
    (omega (arith, slid_law s n a, sub_law b a, apart z, apart b, u, d))
    (omega (arith, slid_law s n a, sub_law b a, apart z, apart b, u, d))

slid_from : (s : Ordering) (n : ℕ) (a b : ℤ) → slid n (offset s) a ≡ b → b -ℤ a ≡ far s n
slid_from s n a b e =
    let f = far s n in
    let u : up (slid n (offset s) a) ≡ up b = ap up e in
    let d : dn (slid n (offset s) a) ≡ dn b = ap dn e in
    same (b -ℤ a) f
    (omega (arith, slid_law s n a, sub_law b a, apart (b -ℤ a), apart f, u, d))
    (omega (arith, slid_law s n a, sub_law b a, apart (b -ℤ a), apart f, u, d))

-- ---- two signs, and the direction that they give

-- the nine pairs: the direction of two signs steps by each of them
faces : (sx sy : Ordering) → eqb (compass_of sx sy) 8 ≡ false → (compass_of sx sy < 8) × (dx_of (compass_of sx sy) ≡ offset sx) × (dy_of (compass_of sx sy) ≡ offset sy)
unfolding off_x off_y
faces Less Less e = (omega arith, refl, refl)
faces Less Equal e = (omega arith, refl, refl)
faces Less Greater e = (omega arith, refl, refl)
faces Equal Less e = (omega arith, refl, refl)
faces Equal Equal e = absurd (true≢false e)
faces Equal Greater e = (omega arith, refl, refl)
faces Greater Less e = (omega arith, refl, refl)
faces Greater Equal e = (omega arith, refl, refl)
faces Greater Greater e = (omega arith, refl, refl)

-- no direction where both are zero, and nowhere else
still : (sx sy : Ordering) → eqb (compass_of sx sy) 8 ≡ true → (sx ≡ Equal) × (sy ≡ Equal)
still Less Less e = absurd (true≢false (sym e))
still Less Equal e = absurd (true≢false (sym e))
still Less Greater e = absurd (true≢false (sym e))
still Equal Less e = absurd (true≢false (sym e))
still Equal Equal e = (refl, refl)
still Equal Greater e = absurd (true≢false (sym e))
still Greater Less e = absurd (true≢false (sym e))
still Greater Equal e = absurd (true≢false (sym e))
still Greater Greater e = absurd (true≢false (sym e))

-- each direction has its two signs
record Signs (k : ℕ) : Type 0 where
  sx : Ordering
  sy : Ordering
  number : compass_of sx sy ≡ k
  across : pos (off_x k) -ℤ pos 1 ≡ offset sx
  down : pos (off_y k) -ℤ pos 1 ≡ offset sy

signs : (k : ℕ) → k < 8 → Signs k
unfolding off_x off_y
signs =
    by_eight Signs
    (record { sx = Equal; sy = Less; number = refl; across = refl; down = refl })
    (record { sx = Greater; sy = Less; number = refl; across = refl; down = refl })
    (record { sx = Greater; sy = Equal; number = refl; across = refl; down = refl })
    (record { sx = Greater; sy = Greater; number = refl; across = refl; down = refl })
    (record { sx = Equal; sy = Greater; number = refl; across = refl; down = refl })
    (record { sx = Less; sy = Greater; number = refl; across = refl; down = refl })
    (record { sx = Less; sy = Equal; number = refl; across = refl; down = refl })
    (record { sx = Less; sy = Less; number = refl; across = refl; down = refl })

-- ---- in line

or_right : (s t : Bool) → t ≡ true → s || t ≡ true
or_right true t e = refl
or_right false t e = e

line_yes : (a b : ℕ) → eqb a b ≡ true → in_line a b ≡ true
line_yes a b e = or_right (eqb a 0) (eqb b 0 || eqb a b) (or_right (eqb b 0) (eqb a b) e)

line_near : (a b : ℕ) → a ≤ 1 → b ≤ 1 → in_line a b ≡ true
line_near zero b p q = refl
line_near (suc a) zero p q = or_right (eqb (suc a) 0) true refl
line_near (suc a) (suc b) p q = line_yes (suc a) (suc b) (eq-eqb (suc a) (suc b) (omega arith))

-- n steps of each of two signs are in line
line_far : (sx sy : Ordering) (n : ℕ) → in_line (size sx n) (size sy n) ≡ true
line_far Less Less n = line_yes n n (eq-eqb n n refl)
line_far Less Equal n = or_right (eqb n 0) true refl
line_far Less Greater n = line_yes n n (eq-eqb n n refl)
line_far Equal sy n = refl
line_far Greater Less n = line_yes n n (eq-eqb n n refl)
line_far Greater Equal n = or_right (eqb n 0) true refl
line_far Greater Greater n = line_yes n n (eq-eqb n n refl)

-- and as many as that, unless neither sign steps
span_far : (sx sy : Ordering) (n : ℕ) → compass_of sx sy < 8 → max (size sx n) (size sy n) ≡ n
span_far Less Less n h = omega arith
span_far Less Equal n h = omega arith
span_far Less Greater n h = omega arith
span_far Equal Less n h = omega arith
span_far Equal Equal n h = absurd (none h)
  where
    none : 8 < 8 → ⊥
    none h = omega arith
span_far Equal Greater n h = omega arith
span_far Greater Less n h = omega arith
span_far Greater Equal n h = omega arith
span_far Greater Greater n h = omega arith

-- in line, each difference is 0 or the larger one
line_sizes : (a b : ℕ) → in_line a b ≡ true → ((a ≡ 0) ⊎ (a ≡ max a b)) × ((b ≡ 0) ⊎ (b ≡ max a b))
line_sizes a b = go (eqb a 0) (eqb-true a 0) (eqb b 0) (eqb-true b 0) (eqb a b) (eqb-true a b)
  where
    go : (r : Bool) → (r ≡ true → a ≡ 0) → (s : Bool) → (s ≡ true → b ≡ 0) → (t : Bool) → (t ≡ true → a ≡ b) → r || (s || t) ≡ true → ((a ≡ 0) ⊎ (a ≡ max a b)) × ((b ≡ 0) ⊎ (b ≡ max a b))
    go true r s g t f e = let z = r refl in (inl z, inr (omega arith))
    go false r true g t f e = let z = g refl in (inr (omega arith), inl z)
    go false r false g true f e = let z = f refl in (inr (omega arith), inr (omega arith))
    go false r false g false f e = absurd (true≢false (sym e))

-- ---- the steps of a direction

ahead_is : (n d : ℕ) (p : Point) → ahead n d p ≡ record { x = slid n (dx_of d) p.x; y = slid n (dy_of d) p.y }
unfolding ahead
ahead_is zero d p = refl
ahead_is (suc n) d p = ahead_is n d (moved p d)

no_size : (z : ℤ) → nat_abs z ≡ 0 → sign_of z ≡ Equal
no_size (pos zero) e = refl
no_size (pos (suc n)) e = absurd (none n e)
  where
    none : (n : ℕ) → suc n ≡ 0 → ⊥
    none n e = omega arith
no_size (negsuc n) e = absurd (none n e)
  where
    none : (n : ℕ) → suc n ≡ 0 → ⊥
    none n e = omega arith

no_sign : (z : ℤ) → sign_of z ≡ Equal → nat_abs z ≡ 0
no_sign (pos zero) e = refl
no_sign (pos (suc n)) e = absurd (none (ap (λ (s : Ordering). match_ordering s 1 0 1) e))
  where
    none : ◌≡◌ {A = ℕ} 1 0 → ⊥
    none h = omega arith
no_sign (negsuc n) e = absurd (none (ap (λ (s : Ordering). match_ordering s 1 0 1) e))
  where
    none : ◌≡◌ {A = ℕ} 1 0 → ⊥
    none h = omega arith

-- no difference
met : (a b : ℤ) → nat_abs (b -ℤ a) ≡ 0 → a ≡ b
met a b e =
    let d = b -ℤ a in
    same a b (omega (arith, sub_law b a, abs_is d, apart a, apart b)) (omega (arith, sub_law b a, abs_is d, apart a, apart b))

apart_not : (a : ℤ) → nat_abs (a -ℤ a) ≡ 0
apart_not a = let d = a -ℤ a in omega (arith, sub_law a a, abs_is d, apart d)

-- ---- what the heading from a to b means

abbrev Means : Point → Point → Result Heading Refusal → Type 0
Means a b (Ok (Straight d n)) = (0 < n) × (d.number < 8) × (ahead n d.number a ≡ b)
Means a b (Ok (Bent d n)) = Unit {0}
Means a b (Err r) = a ≡ b

module _ (a b : Point) where
  abbrev zx : ℤ
  zx = b.x -ℤ a.x

  abbrev zy : ℤ
  zy = b.y -ℤ a.y

  abbrev number : ℕ
  number = compass_of (sign_of zx) (sign_of zy)

  some : eqb number 8 ≡ false → span_of a b ≡ 0 → ⊥
  some e h =
      let x = no_size zx (omega arith) in
      let y = no_size zy (omega arith) in
      let z : number ≡ 8 = λ i. compass_of (x i) (y i) in
      true≢false (sym (eq-eqb number 8 z) ∙ e)

  means_at : (t : Bool) → eqb number 8 ≡ t → (l : Bool) → in_line (nat_abs zx) (nat_abs zy) ≡ l
      → Means a b (cond t (Err (Same a)) (cond l (Ok (Straight (dir number) (span_of a b))) (Ok (Bent (dir number) (span_of a b)))))
  means_at true e l f =
      let z = still (sign_of zx) (sign_of zy) e in
      λ i. record { x = met a.x b.x (no_sign zx z.0) i; y = met a.y b.y (no_sign zy z.1) i }
  means_at false e false f = tt
  means_at false e true f =
      let n = span_of a b in
      let z = faces (sign_of zx) (sign_of zy) e in
      let k = line_sizes (nat_abs zx) (nat_abs zy) f in
      let ex : slid n (dx_of number) a.x ≡ b.x = ap (λ (o : ℤ). slid n o a.x) z.1 ∙ slid_to (sign_of zx) n a.x b.x (far_is zx n k.0) in
      let ey : slid n (dy_of number) a.y ≡ b.y = ap (λ (o : ℤ). slid n o a.y) z.2 ∙ slid_to (sign_of zy) n a.y b.y (far_is zy n k.1) in
      (above n (some e), z.0, ahead_is n number a ∙ (λ i. record { x = ex i; y = ey i }))
    where
      above : (n : ℕ) → (n ≡ 0 → ⊥) → 0 < n
      above n h = omega arith

  means : Means a b (heading_of a b)
  means = means_at (eqb number 8) refl (in_line (nat_abs zx) (nat_abs zy)) refl

  -- n steps of d lead to b
  module _ (d n : ℕ) (h : 0 < n) (e : ahead n d a ≡ b) where
    abbrev by : Signs (d % 8)
    by = signs (d % 8) (mod-lt d (lit< tt))

    far_x : zx ≡ far by.sx n
    far_x = slid_from by.sx n a.x b.x (ap (λ (o : ℤ). slid n o a.x) (sym by.across) ∙ ap (λ (p : Point). p.x) (sym (ahead_is n d a) ∙ e))

    far_y : zy ≡ far by.sy n
    far_y = slid_from by.sy n a.y b.y (ap (λ (o : ℤ). slid n o a.y) (sym by.down) ∙ ap (λ (p : Point). p.y) (sym (ahead_is n d a) ∙ e))

    sign_x : sign_of zx ≡ by.sx
    sign_x = ap sign_of far_x ∙ far_sign by.sx n h

    sign_y : sign_of zy ≡ by.sy
    sign_y = ap sign_of far_y ∙ far_sign by.sy n h

    -- the signs of the differences are those of d's step
    pub ahead_signs : (sign_z zx ≡ dx_of d) × (sign_z zy ≡ dy_of d)
    ahead_signs = (offset_is zx ∙ ap offset sign_x ∙ sym by.across, offset_is zy ∙ ap offset sign_y ∙ sym by.down)

    -- and so it is straight
    led : heading_of a b ≡ Ok (Straight (dir (d % 8)) n)
    led =
        let ax : nat_abs zx ≡ size by.sx n = ap nat_abs far_x ∙ far_size by.sx n in
        let ay : nat_abs zy ≡ size by.sy n = ap nat_abs far_y ∙ far_size by.sy n in
        let low : compass_of by.sx by.sy < 8 = subst (λ (k : ℕ). k < 8) (sym by.number) (mod-lt d (lit< tt)) in
        let k : number ≡ d % 8 = (λ i. compass_of (sign_x i) (sign_y i)) ∙ by.number in
        let l : in_line (nat_abs zx) (nat_abs zy) ≡ true = (λ i. in_line (ax i) (ay i)) ∙ line_far by.sx by.sy n in
        let m : span_of a b ≡ n = (λ i. max (ax i) (ay i)) ∙ span_far by.sx by.sy n low in
        let u : eqb number 8 ≡ false = ne_eqb number 8 (under number k) in
        (λ i. cond (u i) (Err (Same a)) (cond (l i) (Ok (Straight (dir (k i)) (m i))) (Ok (Bent (dir (k i)) (m i)))))
      where
        under : (j : ℕ) → j ≡ d % 8 → j ≡ 8 → ⊥
        under j p q = omega arith

  -- ---- how many steps lead there
  steps_at : (t : Bool) → eqb number 8 ≡ t → (l : Bool)
      → steps_of (cond t (Err (Same a)) (cond l (Ok (Straight (dir number) (span_of a b))) (Ok (Bent (dir number) (span_of a b))))) ≡ span_of a b
  steps_at true e l =
      let z = still (sign_of zx) (sign_of zy) e in
      omega (arith, no_sign zx z.0, no_sign zy z.1)
  steps_at false e true = refl
  steps_at false e false = refl

  pub steps_span : steps_of (heading_of a b) ≡ span_of a b
  steps_span = steps_at (eqb number 8) refl (in_line (nat_abs zx) (nat_abs zy))

  pub steps_short : T (legal a) → T (legal b) → steps_of (heading_of a b) ≤ 2047
  steps_short p q =
      let s = parts a p in
      let t = parts b q in
      omega (arith, steps_span, gap_le a.x b.x s.0 t.0, gap_le a.y b.y s.1 t.1)

  pub direction_short : steps_of (direction_of a b) ≤ 2047
  direction_short = go (legal a) refl (legal b) refl
    where
      go : (s : Bool) → legal a ≡ s → (t : Bool) → legal b ≡ t → steps_of (cond s (cond t (heading_of a b) (Err (BadPoint b))) (Err (BadPoint a))) ≤ 2047
      go false e t f = omega arith
      go true e false f = omega arith
      go true e true f = steps_short (subst T (sym e) tt) (subst T (sym f) tt)

  -- ---- points in line are not bent
  unbent_at : (t l : Bool) → l ≡ true → bent_of (cond t (Err (Same a)) (cond l (Ok (Straight (dir number) (span_of a b))) (Ok (Bent (dir number) (span_of a b))))) ≡ false
  unbent_at true l e = refl
  unbent_at false true e = refl
  unbent_at false false e = sym e

  -- nor are neighbours
  pub near_unbent : nat_abs zx ≤ 1 → nat_abs zy ≤ 1 → bent_of (heading_of a b) ≡ false
  near_unbent p q = unbent_at (eqb number 8) (in_line (nat_abs zx) (nat_abs zy)) (line_near (nat_abs zx) (nat_abs zy) p q)

-- a point heads nowhere from itself
heads_not : (a : Point) → heading_of a a ≡ Err (Same a)
heads_not a =
    let x = no_size (a.x -ℤ a.x) (apart_not a.x) in
    let y = no_size (a.y -ℤ a.y) (apart_not a.y) in
    λ i. cond (eqb (compass_of (x i) (y i)) 8) (Err (Same a)) (cond (in_line (nat_abs (a.x -ℤ a.x)) (nat_abs (a.y -ℤ a.y))) (Ok (Straight (dir (compass_of (x i) (y i))) (span_of a a))) (Ok (Bent (dir (compass_of (x i) (y i))) (span_of a a))))

-- ---- the two laws

pub straight_leads : StraightLeads
straight_leads = record { leads = λ a b d n e. subst (Means a b) e (means a b); led = led }

pub bent_never : BentNever
unfolding ahead
bent_never = record { never = λ a b e. (λ z. same_not a b z e, λ d n z. steps_not a b d n z e); bent = λ a b f g. go a b f g (heading_of a b) refl }
  where
    same_not : (a b : Point) → a ≡ b → bent_of (heading_of a b) ≡ true → ⊥
    same_not a b z e = true≢false (sym e ∙ ap (λ (p : Point). bent_of (heading_of a p)) (sym z) ∙ ap bent_of (heads_not a))

    steps_not : (a b : Point) (d n : ℕ) → ahead n d a ≡ b → bent_of (heading_of a b) ≡ true → ⊥
    steps_not a b d zero z e = same_not a b z e
    steps_not a b d (suc n) z e = true≢false (sym e ∙ ap bent_of (led a b d (suc n) (omega arith) z))

    go : (a b : Point) → (a ≡ b → ⊥) → ((d n : ℕ) → ahead n d a ≡ b → ⊥) → (h : Result Heading Refusal) → heading_of a b ≡ h → bent_of h ≡ true
    go a b f g (Ok (Straight d n)) e = absurd (g d.number n (subst (Means a b) e (means a b)).2)
    go a b f g (Ok (Bent d n)) e = refl
    go a b f g (Err r) e = absurd (f (subst (Means a b) e (means a b)))

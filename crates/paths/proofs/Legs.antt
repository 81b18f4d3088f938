-- A leg, step by step: a straight one repeats the step of its direction, and its walk is that of the sign steps. Assumes nothing.
use mathlib.Core.Path.{◌≡◌, refl, sym, ap, ◌∙◌, subst}
use mathlib.Core.List.{List, ◌∷◌}
use Prim.Native.Nat.{ℕ, zero, suc, ◌*◌, ◌%◌, ◌<◌}
use native.Mathlib.Omega.{arith}
use lib.Dec.{T}
use lib.IntN.{ℤ, pos, ◌+ℤ◌, ◌-ℤ◌}
use lib.ListN.{length, get_or, drop}
use Rattle.std.specs.Prelude.{Ok, Err}
use Rattle.points.specs.declared.Refusal.{Refusal}
use Rattle.points.specs.Plane.{legal}
use Rattle.points.specs.Compass.{dir, moved, sign_of}
use Rattle.points.specs.declared.Point.{Point}
use Rattle.points.specs.declared.Direction.{Direction}
use Rattle.bends.specs.declared.Heading.{Heading}
use Rattle.bends.specs.declared.Heading.TheVariants.{Straight, Bent}
use Rattle.bends.specs.Bends.{steps_of}
use Rattle.headings.specs.Headings.{heading_of, span_of}
use Rattle.headings.specs.Lines.{ahead}
use Rattle.headings.proofs.Lines.{ahead_signs, straight_leads, steps_span}
use Rattle.paths.specs.Walks.{step_by, next_to, onward_to, walk_of}
use Rattle.paths.specs.Straight.{line_of, StraightWalks}
use Rattle.paths.proofs.Laws.{step_is, next_legal, walk_length}
use Rattle.paths.proofs.Arrives.{after, arrives}

-- where steps of one direction lead to q, the step by sign is that direction's
next_moved : (d n : ℕ) (p q : Point) → 0 < n → ahead n d p ≡ q → next_to p q ≡ moved p d
next_moved d n p q h e =
    let z = ahead_signs p q d n h e in
    let ex : step_by p.x (sign_of (q.x -ℤ p.x)) ≡ (moved p d).x = sym (step_is p.x (q.x -ℤ p.x)) ∙ ap (λ (o : ℤ). p.x +ℤ o) z.0 in
    let ey : step_by p.y (sign_of (q.y -ℤ p.y)) ≡ (moved p d).y = sym (step_is p.y (q.y -ℤ p.y)) ∙ ap (λ (o : ℤ). p.y +ℤ o) z.1 in
    λ i. record { x = ex i; y = ey i }

-- ---- what the heading h of a leg to q says at a point p of its walk, with so many steps left
abbrev pub Tells : Heading → Point → Point → ℕ → Type 0
Tells (Straight d n) p q left = ahead left d.number p ≡ q
Tells (Bent d n) p q left = Unit {0}

pub tells_begin : (h : Heading) (p q : Point) (left : ℕ) → Ok h ≡ heading_of p q → left ≡ steps_of (Ok h) → Tells h p q left
tells_begin (Straight d n) p q left e f = ap (λ (k : ℕ). ahead k d.number p) f ∙ (straight_leads.leads p q d n (sym e)).2
tells_begin (Bent d n) p q left e f = tt

-- the step on is the step by sign, and the heading tells of the rest
tells_on : (h : Heading) (p q : Point) (n : ℕ) → Tells h p q (suc n) → (onward_to h p q ≡ next_to p q) × Tells h (onward_to h p q) q n
unfolding ahead
tells_on (Straight d k) p q n e = (sym (next_moved d.number (suc n) p q (omega arith) e), e)
tells_on (Bent d k) p q n e = (refl, tt)

-- a turn of a walk's loop: r is the step on, and n how many steps are left then
pub leg_turn : (h : Heading) (p q r : Point) (n m : ℕ) → T (legal p) → T (legal q) → m ≡ suc n → Tells h p q m → r ≡ onward_to h p q
    → (r ≡ next_to p q) × T (legal r) × Tells h r q n
leg_turn h p q r n m s t more e f =
    let k = tells_on h p q n (subst (Tells h p q) more e) in
    let g = f ∙ k.0 in
    (g, subst (λ (z : Point). T (legal z)) (sym g) (next_legal p q s t), subst (λ (z : Point). Tells h z q n) (sym f) k.1)

-- how many steps a leg has, by a heading that a call handed back
pub leg_steps : (h : Heading) (p q : Point) (n : ℕ) → Ok h ≡ heading_of p q → n ≡ steps_of (Ok h) → n ≡ span_of p q
leg_steps h p q n e f = f ∙ ap steps_of e ∙ steps_span p q

-- none to the point itself
pub no_steps : (w : Refusal) (p q : Point) → Err w ≡ heading_of p q → span_of p q ≡ 0
no_steps w p q e = sym (steps_span p q) ∙ ap steps_of (sym e)

-- ---- the law: straight exactly if the walk repeats one step
line_walk : (n d : ℕ) (p q : Point) → ahead n d p ≡ q → walk_of n p q ≡ line_of n d p
unfolding walk_of line_of ahead
line_walk zero d p q e = refl
line_walk (suc n) d p q e =
    ap (λ (r : Point). r.x ∷ r.y ∷ walk_of n r q) (next_moved d (suc n) p q (omega arith) e)
    ∙ ap (λ (l : List ℤ). (moved p d).x ∷ (moved p d).y ∷ l) (line_walk n d (moved p d) q e)

line_length : (n d : ℕ) (p : Point) → length (line_of n d p) ≡ 2 * n
unfolding line_of
line_length zero d p = refl
line_length (suc n) d p = omega (arith, line_length n d (moved p d))

walk_line : (n d : ℕ) (p q : Point) → walk_of n p q ≡ line_of n d p → after n p q ≡ ahead n d p
unfolding walk_of line_of ahead
walk_line zero d p q e = refl
walk_line (suc n) d p q e =
    let ex : (next_to p q).x ≡ (moved p d).x = ap (λ (l : List ℤ). get_or l 0 (pos 0)) e in
    let ey : (next_to p q).y ≡ (moved p d).y = ap (λ (l : List ℤ). get_or l 1 (pos 0)) e in
    let r : next_to p q ≡ moved p d = λ i. record { x = ex i; y = ey i } in
    let rest : walk_of n (moved p d) q ≡ line_of n d (moved p d) = ap (λ (z : Point). walk_of n z q) (sym r) ∙ ap (drop 2) e in
    ap (λ (z : Point). after n z q) r ∙ walk_line n d (moved p d) q rest

pub straight_walks : StraightWalks
straight_walks = record { walks = walks; straight = straight }
  where
    walks : (p q : Point) (d : Direction) (n : ℕ) → heading_of p q ≡ Ok (Straight d n) → walk_of (span_of p q) p q ≡ line_of n d.number p
    walks p q d n e =
        ap (λ (k : ℕ). walk_of k p q) (sym (steps_span p q) ∙ ap steps_of e)
        ∙ line_walk n d.number p q (straight_leads.leads p q d n e).2

    straight : (p q : Point) (d n : ℕ) → 0 < n → walk_of (span_of p q) p q ≡ line_of n d p → heading_of p q ≡ Ok (Straight (dir (d % 8)) n)
    straight p q d n h e =
        let k : span_of p q ≡ n = twice (span_of p q) n (sym (walk_length (span_of p q) p q) ∙ ap length e ∙ line_length n d p) in
        straight_leads.led p q d n h (sym (walk_line n d p q (ap (λ (m : ℕ). walk_of m p q) (sym k) ∙ e)) ∙ ap (λ (m : ℕ). after m p q) (sym k) ∙ arrives p q)
      where
        twice : (a b : ℕ) → 2 * a ≡ 2 * b → a ≡ b
        twice a b e = omega arith

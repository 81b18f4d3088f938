-- The laws of the union-find's definitions. Assumes nothing.
use mathlib.Core.Path.{◌≡◌, refl, sym, ap, subst, ◌∙◌}
use mathlib.Core.Logic.{◌⊎◌, ⊎_elim, inl, inr, ◌↔◌}
use mathlib.Core.Bool.{Bool, true, false, not, cond}
use mathlib.Core.List.{List}
use Prim.Native.Nat.{ℕ, zero, suc, ◌+◌, ◌-◌, ◌≤◌, ◌<◌}
use native.Mathlib.Omega.{arith}
use native.Mathlib.Decide.{ℕ_discrete}
use lib.ListN.{length, get_or, set, length-set}
use lib.Seq.{get_or-set_same, get_or-set_other, set-get_or}
use lib.Dec.{eqb, ltb}
use borrow.Author.Tests.{eq-eqb, ne_eqb, ltb-true, ltb-false, eqb-true, eqb-false}
use Rattle.components.specs.Components.{Up, Forest, climb, root_of, halves, halve, Links, linked, united, Same, SameWith}

pub weaken : {b n : ℕ} {p k : List ℕ} (c : ℕ) → b ≤ c → Forest b n p k → Forest c n p k
weaken c h F = record { in_p = F.in_p; in_k = F.in_k; low = λ i l. omega (arith, F.low i l); up = F.up }

module _ {b n : ℕ} {p k : List ℕ} (F : Forest b n p k) where
  pub next_in : (i : ℕ) → i < n → get_or p i 0 < n
  next_in i h = ⊎_elim (λ e. omega arith) (λ w. w.0) (F.up i h)

  -- induction along the parents: what holds at each root, and at a cell where it holds at its parent, holds at each cell
  upward_on : (P : ℕ → Type 0)
      → ((r : ℕ) → r < n → get_or p r 0 ≡ r → P r)
      → ((a : ℕ) → a < n → get_or p a 0 < n → get_or k a 0 < get_or k (get_or p a 0) 0 → P (get_or p a 0) → P a)
      → (f a : ℕ) → a < n → b ≤ get_or k a 0 + f → P a
  upward_on P base step zero a h l = ⊎_elim (λ e. base a h e) (λ w. absurd (omega (arith, F.low (get_or p a 0) w.0))) (F.up a h)
  upward_on P base step (suc f) a h l =
      ⊎_elim (λ e. base a h e) (λ w. step a h w.0 w.1 (upward_on P base step f (get_or p a 0) w.0 (omega arith))) (F.up a h)

  pub upward : (P : ℕ → Type 0)
      → ((r : ℕ) → r < n → get_or p r 0 ≡ r → P r)
      → ((a : ℕ) → a < n → get_or p a 0 < n → get_or k a 0 < get_or k (get_or p a 0) 0 → P (get_or p a 0) → P a)
      → (a : ℕ) → a < n → P a
  upward P base step a h = upward_on P base step b a h (omega arith)

-- a root is its own root
climb_here : (p : List ℕ) (f x : ℕ) → get_or p x 0 ≡ x → climb f p x ≡ x
unfolding climb
climb_here p zero x e = refl
climb_here p (suc f) x e = ap (climb f p) e ∙ climb_here p f x e

pub root_here : (p : List ℕ) (x : ℕ) → get_or p x 0 ≡ x → root_of p x ≡ x
unfolding root_of
root_here p x e = climb_here p 256 x e

climb_end : (p : List ℕ) (f x : ℕ) → climb f p (get_or p x 0) ≡ get_or p (climb f p x) 0
unfolding climb
climb_end p zero x = refl
climb_end p (suc f) x = climb_end p f (get_or p x 0)

module _ {b n : ℕ} {p k : List ℕ} (F : Forest b n p k) where
  climb_in : (f x : ℕ) → x < n → climb f p x < n
  unfolding climb
  climb_in zero x h = h
  climb_in (suc f) x h = climb_in f (get_or p x 0) (next_in F x h)

  climb_root : (f x : ℕ) → x < n → b ≤ get_or k x 0 + f → get_or p (climb f p x) 0 ≡ climb f p x
  unfolding climb
  climb_root zero x h l = ⊎_elim (λ e. e) (λ w. absurd (omega (arith, F.low (get_or p x 0) w.0))) (F.up x h)
  climb_root (suc f) x h l =
      ⊎_elim (λ e. subst (λ (m : ℕ). get_or p m 0 ≡ m) (sym (climb_here p (suc f) x e)) e) (λ w. climb_root f (get_or p x 0) w.0 (omega arith)) (F.up x h)

  -- the root is a cell
  pub root_in : (x : ℕ) → x < n → root_of p x < n
  unfolding root_of
  root_in x h = climb_in 256 x h

  module _ (small : b ≤ 255) where
    -- the root is its own parent
    pub root_fixed : (x : ℕ) → x < n → get_or p (root_of p x) 0 ≡ root_of p x
    unfolding root_of
    root_fixed x h = climb_root 256 x h (omega arith)

    -- a cell and its parent have one root
    pub root_next : (x : ℕ) → x < n → root_of p (get_or p x 0) ≡ root_of p x
    unfolding root_of
    root_next x h = climb_end p 256 x ∙ climb_root 256 x h (omega arith)

-- a cell x that is given another parent g, of higher rank and below the same root: the state stays legal, and each cell keeps its root
module _ {b n : ℕ} {p k : List ℕ} (F : Forest b n p k) (small : b ≤ 255) (x g : ℕ) (hx : x < n) (hg : g < n)
    (higher : get_or k x 0 < get_or k g 0) where
  at_x : get_or (set p x g) x 0 ≡ g
  at_x = get_or-set_same p x g 0 (omega (arith, F.in_p))

  at_other : (i : ℕ) → (i ≡ x → ⊥) → get_or (set p x g) i 0 ≡ get_or p i 0
  at_other i ne = get_or-set_other p x i g 0 ne

  relink_up : (i : ℕ) → i < n → Dec (i ≡ x) → Up n (set p x g) k i
  relink_up i h (yes e) =
      inr (subst (λ (j : ℕ). (get_or (set p x g) j 0 < n) × (get_or k j 0 < get_or k (get_or (set p x g) j 0) 0)) (sym e)
      (rw at_x hg, rw at_x higher))
  relink_up i h (no ne) = rw (at_other i ne) (F.up i h)

  pub relink_legal : Forest b n (set p x g) k
  relink_legal =
      record { in_p = rw length-set F.in_p; in_k = F.in_k; low = F.low; up = λ i h. relink_up i h (ℕ_discrete i x) }

  module _ (below : root_of p g ≡ root_of p x) where
    relink_base : (r : ℕ) → r < n → get_or (set p x g) r 0 ≡ r → Dec (r ≡ x) → root_of (set p x g) r ≡ root_of p r
    relink_base r h e (yes q) =
        let z : g ≡ x = cc at_x in
        absurd (omega (arith, ap (λ (m : ℕ). get_or k m 0) z))
    relink_base r h e (no ne) = root_here (set p x g) r e ∙ sym (root_here p r (sym (at_other r ne) ∙ e))

    relink_step : (a : ℕ) → a < n → root_of (set p x g) (get_or (set p x g) a 0) ≡ root_of p (get_or (set p x g) a 0) → Dec (a ≡ x)
        → root_of (set p x g) a ≡ root_of p a
    relink_step a h ih (yes q) = cc (root_next relink_legal small a h, at_x)
    relink_step a h ih (no ne) = cc (root_next relink_legal small a h, at_other a ne, root_next F small a h)

    pub relink_roots : (a : ℕ) → a < n → root_of (set p x g) a ≡ root_of p a
    relink_roots =
        upward relink_legal (λ a. root_of (set p x g) a ≡ root_of p a)
        (λ r h e. relink_base r h e (ℕ_discrete r x))
        (λ a h _ _ ih. relink_step a h ih (ℕ_discrete a x))

-- one turn of path halving
abbrev pub turn : List ℕ → ℕ → List ℕ
turn p x = set p x (get_or p (get_or p x 0) 0)

pub turn_here : (p : List ℕ) (x : ℕ) → get_or p x 0 ≡ x → turn p x ≡ p
turn_here p x e = ap (λ (m : ℕ). set p x (get_or p m 0)) e ∙ set-get_or p x 0

module _ {b n : ℕ} {p k : List ℕ} (F : Forest b n p k) (x : ℕ) (h : x < n) where
  pub turn_higher : get_or k x 0 < get_or k (get_or p x 0) 0 → get_or k x 0 < get_or k (get_or p (get_or p x 0) 0) 0
  turn_higher l =
      ⊎_elim (λ e. rw e l) (λ w. omega (arith, w.1)) (F.up (get_or p x 0) (next_in F x h))

  pub turn_legal : (small : b ≤ 255) → Forest b n (turn p x) k
  turn_legal small =
      ⊎_elim (λ e. rw (turn_here p x e) F)
      (λ w. relink_legal F small x (get_or p (get_or p x 0) 0) h (next_in F _ (next_in F x h)) (turn_higher w.1))
      (F.up x h)

  pub turn_roots : (small : b ≤ 255) (a : ℕ) → a < n → root_of (turn p x) a ≡ root_of p a
  turn_roots small a ha =
      ⊎_elim (λ e. ap (λ (q : List ℕ). root_of q a) (turn_here p x e))
      (λ w. relink_roots F small x (get_or p (get_or p x 0) 0) h (next_in F _ (next_in F x h)) (turn_higher w.1)
      (root_next F small (get_or p x 0) (next_in F x h) ∙ root_next F small x h) a ha)
      (F.up x h)

halves_here : (p : List ℕ) (f x : ℕ) → get_or p x 0 ≡ x → halves f p x ≡ p
unfolding halves
halves_here p zero x e = refl
halves_here p (suc f) x e = rw (turn_here p x e, e) (halves_here p f x e)

module _ {b n : ℕ} {k : List ℕ} (small : b ≤ 255) where
  halves_legal : (f : ℕ) (p : List ℕ) (x : ℕ) → Forest b n p k → x < n → Forest b n (halves f p x) k
  unfolding halves
  halves_legal zero p x F h = F
  halves_legal (suc f) p x F h = halves_legal f (turn p x) (get_or p x 0) (turn_legal F x h small) (next_in F x h)

  halves_roots : (f : ℕ) (p : List ℕ) (x : ℕ) → Forest b n p k → x < n → (a : ℕ) → a < n → root_of (halves f p x) a ≡ root_of p a
  unfolding halves
  halves_roots zero p x F h a ha = refl
  halves_roots (suc f) p x F h a ha =
      halves_roots f (turn p x) (get_or p x 0) (turn_legal F x h small) (next_in F x h) a ha ∙ turn_roots F x h small a ha

  -- where the ranks leave no room for more steps, one turn more changes nothing
  halves_more : (f : ℕ) (p : List ℕ) (x : ℕ) → Forest b n p k → x < n → b ≤ get_or k x 0 + f → halves (suc f) p x ≡ halves f p x
  unfolding halves
  halves_more zero p x F h l =
      ⊎_elim (λ e. turn_here p x e) (λ w. absurd (omega (arith, F.low (get_or p x 0) w.0))) (F.up x h)
  halves_more (suc f) p x F h l =
      ⊎_elim (λ e. halves_here p (suc (suc f)) x e ∙ sym (halves_here p (suc f) x e))
      (λ w. halves_more f (turn p x) (get_or p x 0) (turn_legal F x h small) w.0 (omega arith))
      (F.up x h)

-- halving at a root changes nothing
pub halve_here : (p : List ℕ) (x : ℕ) → get_or p x 0 ≡ x → halve p x ≡ p
unfolding halve
halve_here p x e = halves_here p 256 x e

module _ {b n : ℕ} {p k : List ℕ} (F : Forest b n p k) (small : b ≤ 255) (x : ℕ) (h : x < n) where
  pub halve_next : halve (turn p x) (get_or p x 0) ≡ halve p x
  unfolding halve
  halve_next = unfold halves in halves_more small 256 p x F h (omega arith)

  -- LAW: after halving the state is legal, with the same ranks
  pub halve_legal : Forest b n (halve p x) k
  unfolding halve
  halve_legal = halves_legal small 256 p x F h

  -- LAW: after halving each cell has the root that it had
  pub halve_roots : (a : ℕ) → a < n → root_of (halve p x) a ≡ root_of p a
  unfolding halve
  halve_roots = halves_roots small 256 p x F h

-- one step of a walk, at a cell x whose parent `up` is another: the parent is a cell, of higher rank
module _ {b n : ℕ} {p k : List ℕ} (F : Forest b n p k) (x up : ℕ) (h : x < n) (e : up ≡ get_or p x 0) (ne : up ≡ x → ⊥) where
  pub up_in : up < n
  up_in = omega (arith, next_in F x h)

  pub up_higher : get_or k x 0 < get_or k up 0
  up_higher = rw e (⊎_elim (λ q. absurd (ne (e ∙ q))) (λ w. w.1) (F.up x h))

  -- the measure of a walk falls
  pub up_falls : b - get_or k up 0 < b - get_or k x 0
  up_falls = omega (arith, up_higher, F.low up up_in)

-- a turn of `find_mut`, which keeps the parent in a variable
module _ {b n : ℕ} {p k : List ℕ} (F : Forest b n p k) (small : b ≤ 255) (x up : ℕ) (h : x < n) (e : up ≡ get_or p x 0) where
  up_turn : set p x (get_or p up 0) ≡ turn p x
  up_turn = ap (λ (m : ℕ). set p x (get_or p m 0)) e

  pub up_legal : Forest b n (set p x (get_or p up 0)) k
  up_legal = rw up_turn (turn_legal F x h small)

  pub up_root : up < n → root_of (set p x (get_or p up 0)) up ≡ root_of p x
  up_root hu = cc (up_turn, turn_roots F x h small up hu, root_next F small x h)

  pub up_halve : halve (set p x (get_or p up 0)) up ≡ halve p x
  up_halve = cc (up_turn, halve_next F small x h)

-- what becomes of a root m where r goes below s
pub moved : ℕ → ℕ → ℕ → ℕ
moved r s m = cond (eqb m r) s m

pub moved_at : (r s m : ℕ) → m ≡ r → moved r s m ≡ s
unfolding moved
moved_at r s m e = rw (eq-eqb m r e)

pub moved_other : (r s m : ℕ) → (m ≡ r → ⊥) → moved r s m ≡ m
unfolding moved
moved_other r s m ne = rw (ne_eqb m r ne)

abbrev Either : ℕ → ℕ → ℕ → ℕ → Type 0
Either r s u v = (u ≡ v) ⊎ (((u ≡ r) × (v ≡ s)) ⊎ ((u ≡ s) × (v ≡ r)))

moved_same : (r s u v : ℕ) → Dec (u ≡ r) → Dec (v ≡ r) → moved r s u ≡ moved r s v → Either r s u v
moved_same r s u v (yes p) (yes q) e = inl (cc)
moved_same r s u v (yes p) (no q) e = inr (inl (p, cc (moved_at r s u p, moved_other r s v q)))
moved_same r s u v (no p) (yes q) e = inr (inr (cc (moved_at r s v q, moved_other r s u p), q))
moved_same r s u v (no p) (no q) e = inl (cc (moved_other r s u p, moved_other r s v q))

same_moved : (r s u v : ℕ) → (r ≡ s → ⊥) → Either r s u v → moved r s u ≡ moved r s v
same_moved r s u v ne (inl e) = ap (moved r s) e
same_moved r s u v ne (inr (inl w)) =
    moved_at r s u w.0 ∙ sym w.1 ∙ sym (moved_other r s v (λ q. ne (sym q ∙ w.1)))
same_moved r s u v ne (inr (inr w)) =
    moved_other r s u (λ q. ne (sym q ∙ w.0)) ∙ w.0 ∙ sym (moved_at r s v w.1)

-- a root r goes below another root s
module _ {b c n : ℕ} {p k l : List ℕ} (F : Forest b n p k) (small : b ≤ 255) (r s : ℕ) (hr : r < n) (hs : s < n)
    (fr : get_or p r 0 ≡ r) (fs : get_or p s 0 ≡ s) (ne : r ≡ s → ⊥) (G : Forest c n (set p r s) l) (small' : c ≤ 255) where
  join_at : get_or (set p r s) r 0 ≡ s
  join_at = get_or-set_same p r s 0 (omega (arith, F.in_p))

  join_other : (i : ℕ) → (i ≡ r → ⊥) → get_or (set p r s) i 0 ≡ get_or p i 0
  join_other i d = get_or-set_other p r i s 0 d

  join_s : root_of (set p r s) s ≡ s
  join_s = root_here (set p r s) s (join_other s (λ e. ne (sym e)) ∙ fs)

  join_base : (a : ℕ) → get_or (set p r s) a 0 ≡ a → Dec (a ≡ r) → root_of (set p r s) a ≡ moved r s (root_of p a)
  join_base a e (yes q) = absurd (ne (cc join_at))
  join_base a e (no d) =
      let z : root_of p a ≡ a = root_here p a (sym (join_other a d) ∙ e) in
      root_here (set p r s) a e ∙ sym (moved_other r s a d) ∙ sym (ap (moved r s) z)

  join_step : (a : ℕ) → a < n → root_of (set p r s) (get_or (set p r s) a 0) ≡ moved r s (root_of p (get_or (set p r s) a 0)) → Dec (a ≡ r)
      → root_of (set p r s) a ≡ moved r s (root_of p a)
  join_step a h ih (yes q) =
      cc (root_next G small' a h, join_at, join_s, moved_at r s (root_of p a) (ap (root_of p) q ∙ root_here p r fr))
  join_step a h ih (no d) = cc (root_next G small' a h, join_other a d, root_next F small a h)

  join_roots : (a : ℕ) → a < n → root_of (set p r s) a ≡ moved r s (root_of p a)
  join_roots =
      upward G (λ a. root_of (set p r s) a ≡ moved r s (root_of p a))
      (λ a h e. join_base a e (ℕ_discrete a r))
      (λ a h _ _ ih. join_step a h ih (ℕ_discrete a r))

-- two roots of one rank: s goes below r, and r's rank rises
module _ {b n : ℕ} {p k : List ℕ} (F : Forest b n p k) (r s : ℕ) (hr : r < n) (hs : s < n)
    (fr : get_or p r 0 ≡ r) (ne : r ≡ s → ⊥) (tied : get_or k r 0 ≡ get_or k s 0) where
  raise_at : get_or (set k r (get_or k r 0 + 1)) r 0 ≡ get_or k r 0 + 1
  raise_at = get_or-set_same k r (get_or k r 0 + 1) 0 (omega (arith, F.in_k))

  raise_other : (i : ℕ) → (i ≡ r → ⊥) → get_or (set k r (get_or k r 0 + 1)) i 0 ≡ get_or k i 0
  raise_other i d = get_or-set_other k r i (get_or k r 0 + 1) 0 d

  raise_most : (i : ℕ) → Dec (i ≡ r) → get_or (set k r (get_or k r 0 + 1)) i 0 ≤ get_or k i 0 + 1
  raise_most i (yes e) = omega (arith, raise_at, ap (λ (m : ℕ). get_or k m 0) e, ap (λ (m : ℕ). get_or (set k r (get_or k r 0 + 1)) m 0) e)
  raise_most i (no d) = omega (arith, raise_other i d)

  raise_least : (i : ℕ) → Dec (i ≡ r) → get_or k i 0 ≤ get_or (set k r (get_or k r 0 + 1)) i 0
  raise_least i (yes e) = omega (arith, raise_at, ap (λ (m : ℕ). get_or k m 0) e, ap (λ (m : ℕ). get_or (set k r (get_or k r 0 + 1)) m 0) e)
  raise_least i (no d) = omega (arith, raise_other i d)

  raise_up : (i : ℕ) → i < n → Dec (i ≡ s) → Dec (i ≡ r) → Up n (set p s r) (set k r (get_or k r 0 + 1)) i
  raise_up i h (yes e) d =
      let z : get_or (set p s r) i 0 ≡ r = ap (λ (m : ℕ). get_or (set p s r) m 0) e ∙ get_or-set_same p s r 0 (omega (arith, F.in_p)) in
      inr (rw z hr, rw z (omega (arith, raise_at, raise_other i (λ q. ne (sym q ∙ e)), ap (λ (m : ℕ). get_or k m 0) e)))
  raise_up i h (no d) (yes e) = inl (get_or-set_other p s i r 0 d ∙ ap (λ (m : ℕ). get_or p m 0) e ∙ fr ∙ sym e)
  raise_up i h (no d) (no d') =
      rw (get_or-set_other p s i r 0 d)
      (⊎_elim (λ e. inl e)
      (λ w. inr (w.0, omega (arith, w.1, raise_other i d', raise_least (get_or p i 0) (ℕ_discrete (get_or p i 0) r))))
      (F.up i h))

  raise_legal : Forest (b + 1) n (set p s r) (set k r (get_or k r 0 + 1))
  raise_legal = record {
    in_p = rw length-set F.in_p;
    in_k = rw length-set F.in_k;
    low = λ i h. omega (arith, raise_most i (ℕ_discrete i r), F.low i h);
    up = λ i h. raise_up i h (ℕ_discrete i s) (ℕ_discrete i r);
  }

-- what a link of the roots r and s, or a join of their components, does
abbrev Moves : ℕ → List ℕ → List ℕ → ℕ → ℕ → Type 0
Moves n p p' r s = (a : ℕ) → a < n → root_of p' a ≡ moved r s (root_of p a)

record Linked (b n : ℕ) (p k : List ℕ) (r s : ℕ) (u : Links) : Type 0 where
  legal : Forest (b + 1) n u.parent u.rank
  long_p : length u.parent ≡ length p
  long_k : length u.rank ≡ length k
  least : (i : ℕ) → get_or k i 0 ≤ get_or u.rank i 0
  most : (i : ℕ) → get_or u.rank i 0 ≤ get_or k i 0 + 1
  moves : Moves n p u.parent r s ⊎ Moves n p u.parent s r

-- the three ways of a link
pub linked_cases : (P : Links → Type 0) (p k : List ℕ) (r s : ℕ)
    → (get_or k r 0 < get_or k s 0 → P (record { parent = set p r s; rank = k }))
    → (get_or k s 0 < get_or k r 0 → P (record { parent = set p s r; rank = k }))
    → (get_or k r 0 ≡ get_or k s 0 → P (record { parent = set p s r; rank = set k r (get_or k r 0 + 1) }))
    → P (linked p k r s)
unfolding linked
linked_cases P p k r s lt gt eq = go (ltb (get_or k r 0) (get_or k s 0)) (ltb (get_or k s 0) (get_or k r 0)) refl refl
  where
    go : (t u : Bool) → ltb (get_or k r 0) (get_or k s 0) ≡ t → ltb (get_or k s 0) (get_or k r 0) ≡ u
        → P (cond t (record { parent = set p r s; rank = k })
        (cond u (record { parent = set p s r; rank = k }) (record { parent = set p s r; rank = set k r (get_or k r 0 + 1) })))
    go true u e₁ e₂ = lt (ltb-true _ _ e₁)
    go false true e₁ e₂ = gt (ltb-true _ _ e₂)
    go false false e₁ e₂ = eq (omega (arith, ltb-false (get_or k r 0) (get_or k s 0) e₁, ltb-false (get_or k s 0) (get_or k r 0) e₂))

module _ {b n : ℕ} {p k : List ℕ} (F : Forest b n p k) (small : b ≤ 254) (r s : ℕ) (hr : r < n) (hs : s < n)
    (fr : get_or p r 0 ≡ r) (fs : get_or p s 0 ≡ s) (ne : r ≡ s → ⊥) where
  linked_law : Linked b n p k r s (linked p k r s)
  linked_law =
      linked_cases (Linked b n p k r s) p k r s
      (λ lt.
      let G : Forest b n (set p r s) k = relink_legal F (omega arith) r s hr hs lt in
      record {
        legal = weaken (b + 1) (omega arith) G;
        long_p = length-set p r s;
        long_k = refl;
        least = λ i. omega arith;
        most = λ i. omega arith;
        moves = inl (join_roots F (omega arith) r s hr hs fr fs ne G (omega arith));
      })
      (λ gt.
      let G : Forest b n (set p s r) k = relink_legal F (omega arith) s r hs hr gt in
      record {
        legal = weaken (b + 1) (omega arith) G;
        long_p = length-set p s r;
        long_k = refl;
        least = λ i. omega arith;
        most = λ i. omega arith;
        moves = inr (join_roots F (omega arith) s r hs hr fs fr (λ e. ne (sym e)) G (omega arith));
      })
      (λ eq.
      let G : Forest (b + 1) n (set p s r) (set k r (get_or k r 0 + 1)) = raise_legal F r s hr hs fr ne eq in
      record {
        legal = G;
        long_p = length-set p s r;
        long_k = length-set k r (get_or k r 0 + 1);
        least = λ i. raise_least F r s hr hs fr ne eq i (ℕ_discrete i r);
        most = λ i. raise_most F r s hr hs fr ne eq i (ℕ_discrete i r);
        moves = inr (join_roots F (omega arith) s r hs hr fs fr (λ e. ne (sym e)) G (omega arith));
      })

-- the three ways of a union
pub united_cases : (P : Links → Type 0) (p k : List ℕ) (x y : ℕ)
    → (x ≡ y → P (record { parent = p; rank = k }))
    → (Same p x y → P (record { parent = halve (halve p x) y; rank = k }))
    → ((Same p x y → ⊥) → P (linked (halve (halve p x) y) k (root_of p x) (root_of p y)))
    → P (united p k x y)
unfolding united
united_cases P p k x y one same two = go (eqb x y) (eqb (root_of p x) (root_of p y)) refl refl
  where
    go : (t u : Bool) → eqb x y ≡ t → eqb (root_of p x) (root_of p y) ≡ u
        → P (cond t (record { parent = p; rank = k })
        (cond u (record { parent = halve (halve p x) y; rank = k }) (linked (halve (halve p x) y) k (root_of p x) (root_of p y))))
    go true u e₁ e₂ = one (eqb-true x y e₁)
    go false true e₁ e₂ = same (eqb-true (root_of p x) (root_of p y) e₂)
    go false false e₁ e₂ = two (eqb-false (root_of p x) (root_of p y) e₂)

-- LAW: what a union of x and y does to a legal state: it stays legal, with a rank at most one higher; the lists keep their lengths; and two cells are
-- in one component exactly where they were, or x and y's components are theirs
pub record Joined (b n : ℕ) (p k : List ℕ) (x y : ℕ) (u : Links) : Type 0 where
  pub legal : Forest (b + 1) n u.parent u.rank
  pub long_p : length u.parent ≡ length p
  pub long_k : length u.rank ≡ length k
  pub least : (i : ℕ) → get_or k i 0 ≤ get_or u.rank i 0
  pub most : (i : ℕ) → get_or u.rank i 0 ≤ get_or k i 0 + 1
  pub same : (a c : ℕ) → a < n → c < n → Same u.parent a c ↔ SameWith p x y a c

module _ (n : ℕ) (p p' : List ℕ) (x y : ℕ) where
  -- nothing was joined, since x and y share a root already
  same_kept : Same p x y → ((a : ℕ) → a < n → root_of p' a ≡ root_of p a) → (a c : ℕ) → a < n → c < n → Same p' a c ↔ SameWith p x y a c
  same_kept e m a c ha hc = (λ q. inl (sym (m a ha) ∙ q ∙ m c hc), λ w. m a ha ∙ back w ∙ sym (m c hc))
    where
      back : SameWith p x y a c → Same p a c
      back (inl q) = q
      back (inr (inl w)) = w.0 ∙ e ∙ sym w.1
      back (inr (inr w)) = w.0 ∙ sym e ∙ sym w.1

  same_moves : (Same p x y → ⊥) → Moves n p p' (root_of p x) (root_of p y) → (a c : ℕ) → a < n → c < n → Same p' a c ↔ SameWith p x y a c
  same_moves ne m a c ha hc = (
    λ q. moved_same (root_of p x) (root_of p y) (root_of p a) (root_of p c) (ℕ_discrete _ _) (ℕ_discrete _ _) (sym (m a ha) ∙ q ∙ m c hc),
    λ w. m a ha ∙ same_moved (root_of p x) (root_of p y) (root_of p a) (root_of p c) ne w ∙ sym (m c hc),
  )

same_turned : (p : List ℕ) (x y a c : ℕ) → SameWith p x y a c → SameWith p y x a c
same_turned p x y a c (inl q) = inl q
same_turned p x y a c (inr (inl w)) = inr (inr w)
same_turned p x y a c (inr (inr w)) = inr (inl w)

halves_long : (f : ℕ) (p : List ℕ) (x : ℕ) → length (halves f p x) ≡ length p
unfolding halves
halves_long zero p x = refl
halves_long (suc f) p x = halves_long f (turn p x) (get_or p x 0) ∙ length-set p x (get_or p (get_or p x 0) 0)

pub halve_long : (p : List ℕ) (x : ℕ) → length (halve p x) ≡ length p
unfolding halve
halve_long p x = halves_long 256 p x

module _ {b n : ℕ} {p k : List ℕ} (F : Forest b n p k) (small : b ≤ 254) (x y : ℕ) (hx : x < n) (hy : y < n) where
  F₁ : Forest b n (halve p x) k
  F₁ = halve_legal F (omega arith) x hx

  pub halved_legal : Forest b n (halve (halve p x) y) k
  halved_legal = halve_legal F₁ (omega arith) y hy

  pub halved_roots : (a : ℕ) → a < n → root_of (halve (halve p x) y) a ≡ root_of p a
  halved_roots a h = halve_roots F₁ (omega arith) y hy a h ∙ halve_roots F (omega arith) x hx a h

  pub halved_fixed : (a : ℕ) → a < n → get_or (halve (halve p x) y) (root_of p a) 0 ≡ root_of p a
  halved_fixed a h = rw (← halved_roots a h) (root_fixed halved_legal (omega arith) a h)

  halved_long : length (halve (halve p x) y) ≡ length p
  halved_long = halve_long (halve p x) y ∙ halve_long p x

  united_kept : Same p x y → (q : List ℕ) → Forest b n q k → length q ≡ length p → ((a : ℕ) → a < n → root_of q a ≡ root_of p a)
      → Joined b n p k x y (record { parent = q; rank = k })
  united_kept e q G l m =
      record {
        legal = weaken (b + 1) (omega arith) G;
        long_p = l;
        long_k = refl;
        least = λ i. omega arith;
        most = λ i. omega arith;
        same = same_kept n p q x y e m;
      }

  united_linked : (Same p x y → ⊥) → (u : Links) → Linked b n (halve (halve p x) y) k (root_of p x) (root_of p y) u → Joined b n p k x y u
  united_linked ne u L =
      record {
        legal = L.legal;
        long_p = L.long_p ∙ halved_long;
        long_k = L.long_k;
        least = L.least;
        most = L.most;
        same = ⊎_elim
            (λ m. same_moves n p u.parent x y ne (λ a h. m a h ∙ ap (moved (root_of p x) (root_of p y)) (halved_roots a h)))
            (λ m a c ha hc.
            let t = same_moves n p u.parent y x (λ q. ne (sym q)) (λ a h. m a h ∙ ap (moved (root_of p y) (root_of p x)) (halved_roots a h)) a c ha hc in
            (λ q. same_turned p y x a c (t.0 q), λ w. t.1 (same_turned p x y a c w)))
            L.moves;
      }

  pub united_law : Joined b n p k x y (united p k x y)
  united_law =
      united_cases (Joined b n p k x y) p k x y
      (λ e. united_kept (ap (root_of p) e) p F refl (λ a h. refl))
      (λ e. united_kept e (halve (halve p x) y) halved_legal halved_long halved_roots)
      (λ ne.
      united_linked ne (linked (halve (halve p x) y) k (root_of p x) (root_of p y))
      (linked_law halved_legal small (root_of p x) (root_of p y) (root_in F x hx) (root_in F y hy) (halved_fixed x hx) (halved_fixed y hy) ne))

-- what the code of `union` computes: a and p₁ are what the first `find_mut` gives, b and p₂ the second
abbrev pub Out : List ℕ → List ℕ → ℕ → ℕ → List ℕ → List ℕ → Bool → Type 0
Out p k x y q l r = (q ≡ (united p k x y).parent) × (l ≡ (united p k x y).rank) × (r ≡ not (eqb (root_of p x) (root_of p y)))

pub ran_one : (p k : List ℕ) (x y : ℕ) → x ≡ y → Out p k x y p k false
unfolding united
ran_one p k x y e = (rw (eq-eqb x y e), rw (eq-eqb x y e), rw (eq-eqb (root_of p x) (root_of p y) (ap (root_of p) e)))

module _ {b n : ℕ} {p k p₁ p₂ : List ℕ} (F : Forest b n p k) (small : b ≤ 254) (x y r s : ℕ) (hx : x < n) (hy : y < n)
    (e₁ : r ≡ root_of p x) (e₂ : p₁ ≡ halve p x) (e₃ : s ≡ root_of p₁ y) (e₄ : p₂ ≡ halve p₁ y) where
  ran_s : s ≡ root_of p y
  ran_s = cc (halve_roots F (omega arith) x hx y hy)

  pub ran_in : (r < n) × (s < n) × (length p₂ ≡ length p)
  ran_in = (rw e₁ (root_in F x hx), rw ran_s (root_in F y hy), rw (e₄, e₂) (halve_long (halve p x) y ∙ halve_long p x))

  ran_p : p₂ ≡ halve (halve p x) y
  ran_p = cc

  pub ran_same : (x ≡ y → ⊥) → r ≡ s → Out p k x y p₂ k false
  unfolding united
  ran_same ne e =
      let q : root_of p x ≡ root_of p y = cc ran_s in
      (rw (ne_eqb x y ne, eq-eqb (root_of p x) (root_of p y) q) ran_p, rw (ne_eqb x y ne, eq-eqb (root_of p x) (root_of p y) q), rw (eq-eqb (root_of p x) (root_of p y) q))

  pub ran_linked : (x ≡ y → ⊥) → (r ≡ s → ⊥) → (q l : List ℕ) → q ≡ (linked p₂ k r s).parent → l ≡ (linked p₂ k r s).rank → Out p k x y q l true
  unfolding united
  ran_linked ne d q l eq el =
      let t : eqb (root_of p x) (root_of p y) ≡ false = ne_eqb (root_of p x) (root_of p y) (λ w. d (e₁ ∙ w ∙ sym ran_s)) in
      let u : linked p₂ k r s ≡ linked (halve (halve p x) y) k (root_of p x) (root_of p y) = cc (ran_s, ran_p) in
      (rw (ne_eqb x y ne, t) (eq ∙ ap (λ (v : Links). v.parent) u), rw (ne_eqb x y ne, t) (el ∙ ap (λ (v : Links). v.rank) u), rw t)

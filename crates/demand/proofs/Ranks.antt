-- The ranks after one edit of any legal grid value. Every join of an edit is one with the edited cell x, and a rank rises only where both roots have it, and
-- then it is that of x's root: so x's root alone comes to rank 201, and no root of its rank is left to raise it again. Assumes nothing.
use Rattle.std.specs.Prelude.{Result, Ok, Err}
use mathlib.Core.Path.{◌≡◌, refl, sym, ap, ◌∙◌}
use mathlib.Core.Logic.{◌⊎◌, ⊎_elim, inl, inr}
use mathlib.Core.Bool.{Bool, true, false}
use mathlib.Core.List.{List, ◌∷◌}
use Prim.Native.Nat.{ℕ, zero, suc, ◌+◌, ◌*◌, ◌≤◌, ◌<◌}
use native.Mathlib.Omega.{arith}
use native.Mathlib.Decide.{ℕ_discrete}
use lib.ListN.{get_or, set, replicate, length-replicate}
use lib.Seq.{get_or-set_same, get_or-set_other}
use Rattle.directions.specs.Offsets.{off_x, off_y}
use Rattle.components.specs.Components.{Up, Links, Forest, climb, root_of, halves, halve, linked, united}
use Rattle.components.proofs.Roots
use Rattle.cells.specs.Cells.{sized_of, place_of, cell_of, cell_at, cell_to}
use Rattle.cells.proofs.Cell.{cell_lt, places}
use Rattle.tables.specs.Tables.{Tables, links_of, edit_of}
use Rattle.joins.specs.Joins.{around, join_cell, joined_to}
use Rattle.grid.specs.declared.Grid.{Grid}
use Rattle.points.specs.declared.Refusal.{Refusal}
use Rattle.grid.specs.Grids.{tables_of, legal_of, located_of, changed, edit_grid, set_outcome, zeros}
use Rattle.grid.proofs.Tests.{forest, legal_of_lem, done_located}
use Rattle.demand.specs.Nos.{point}
use Rattle.demand.specs.States.{Long, RanksTo201, NotTo200}
use Rattle.demand.proofs.Good.{edit_either}
use Rattle.demand.proofs.Sharing.{joined_all}

-- a forest whose ranks are at most b, but for that of x's root, which is at most b + 1
record Tall (b n x : ℕ) (v : Links) : Type 0 where
  legal : Forest (b + 1) n v.parent v.rank
  most : (i : ℕ) → i < n → (get_or v.rank i 0 ≤ b) ⊎ (i ≡ root_of v.parent x)

-- a join of x with a cell c
module _ {b n : ℕ} (small : b ≤ 253) (x c : ℕ) (hx : x < n) (hc : c < n) (v : Links) (T : Tall b n x v) where
  abbrev p : List ℕ
  p = v.parent

  abbrev k : List ℕ
  k = v.rank

  abbrev F : Forest (b + 1) n p k
  F = T.legal

  -- the links after the join are tall again, by what a join does
  abbrev Grows : Links → Type 0
  Grows u = Roots.Joined (b + 1) n p k x c u → Tall b n x u

  -- a legal state, by its own bound on the ranks
  tight : (u : Links) → Roots.Joined (b + 1) n p k x c u → ((i : ℕ) → i < n → get_or u.rank i 0 ≤ b + 1) → Forest (b + 1) n u.parent u.rank
  tight u J low = record { in_p = J.legal.in_p; in_k = J.legal.in_k; low = low; up = J.legal.up }

  -- where the roots differ
  module _ (ne : root_of p x ≡ root_of p c → ⊥) where
    abbrev r : ℕ
    r = root_of p x

    abbrev s : ℕ
    s = root_of p c

    abbrev q : List ℕ
    q = halve (halve p x) c

    other_low : get_or k s 0 ≤ b
    other_low = ⊎_elim (λ l. l) (λ e. absurd (ne (sym e))) (T.most s (Roots.root_in F c hc))

    -- where x's root does not rank above c's, no rank is above b
    flat : get_or k r 0 ≤ get_or k s 0 → (i : ℕ) → i < n → get_or k i 0 ≤ b
    flat l i h = ⊎_elim (λ m. m) (λ e. omega (arith, ap (λ (m : ℕ). get_or k m 0) e, other_low)) (T.most i h)

    -- c's root goes below x's, which stays x's root
    stays : (l : List ℕ) → Roots.Joined (b + 1) n p k x c (record { parent = set q s r; rank = l }) → root_of (set q s r) x ≡ r
    stays l J =
        (J.same x r hx (Roots.root_in F x hx)).1 (inl (sym (Roots.root_here p r (Roots.root_fixed F (omega arith) x hx))))
        ∙ Roots.root_here (set q s r) r (get_or-set_other q s r r 0 ne ∙ Roots.halved_fixed F (omega arith) x c hx hc x hx)

    -- the three ways of the link
    below : get_or k r 0 < get_or k s 0 → Grows (record { parent = set q r s; rank = k })
    below l J = record { legal = tight _ J F.low; most = λ i h. inl (flat (omega arith) i h) }

    above : Grows (record { parent = set q s r; rank = k })
    above J = record { legal = tight _ J F.low; most = λ i h. ⊎_elim (λ l. inl l) (λ e. inr (e ∙ sym (stays k J))) (T.most i h) }

    raised : get_or k r 0 ≡ get_or k s 0 → Grows (record { parent = set q s r; rank = set k r (get_or k r 0 + 1) })
    raised e J =
        record {
          legal = tight _ J (λ i h. ⊎_elim (λ l. omega arith) (λ (z : i ≡ r). at_root i z) (each i h));
          most = λ i h. ⊎_elim (λ l. inl l) (λ (z : i ≡ r). inr (z ∙ sym (stays _ J))) (each i h);
        }
      where
        ranks : List ℕ
        ranks = set k r (get_or k r 0 + 1)

        at_root : (i : ℕ) → i ≡ r → get_or ranks i 0 ≤ b + 1
        at_root i z =
            omega (arith, ap (λ (m : ℕ). get_or ranks m 0) z, get_or-set_same k r (get_or k r 0 + 1) 0 (omega (arith, F.in_k, Roots.root_in F x hx)), other_low)

        each : (i : ℕ) → i < n → (get_or ranks i 0 ≤ b) ⊎ (i ≡ r)
        each i h = go (ℕ_discrete i r)
          where
            go : Dec (i ≡ r) → (get_or ranks i 0 ≤ b) ⊎ (i ≡ r)
            go (yes z) = inr z
            go (no d) = inl (omega (arith, get_or-set_other k r i (get_or k r 0 + 1) 0 d, flat (omega arith) i h))

  tall_join : Tall b n x (united p k x c)
  tall_join =
      Roots.united_cases Grows p k x c
      (λ e J. record { legal = F; most = T.most })
      (λ e J.
      record {
        legal = Roots.halved_legal F (omega arith) x c hx hc;
        most = λ i h. ⊎_elim (λ l. inl l) (λ z. inr (z ∙ sym (Roots.halved_roots F (omega arith) x c hx hc x hx))) (T.most i h);
      })
      (λ ne. Roots.linked_cases Grows (halve (halve p x) c) k (root_of p x) (root_of p c) (below ne) (λ l. above ne) (raised ne))
      (Roots.united_law F (omega arith) x c hx hc)

tall_edit : (w h : ℕ) (diagonal : Bool) (t : Tables) (x y : ℕ) (b : Bool) → x < w → y < h → Forest 200 (w * h) t.parent t.rank
    → (i : ℕ) → i < w * h → get_or (edit_of w h diagonal t x y b).rank i 0 ≤ 201
unfolding edit_of
tall_edit w h diagonal t x y b hx hy F =
    let P = Tall 200 (w * h) (y * w + x) in
    let T : P (links_of t) = record { legal = Roots.weaken 201 (omega arith) F; most = λ i l. inl (F.low i l) } in
    (edit_either P w h diagonal t x y b T
    (joined_all w h t.blocked P x y (around diagonal)
    (λ d _ l _ v S. tall_join (omega arith) (y * w + x) (cell_to w h x y d) (cell_lt w h x y hx hy) l v S) (links_of t) T)).legal.low

pub ranks_to_201 : RanksTo201
unfolding set_outcome
ranks_to_201 g d p b ok long i h = go (located_of g p) refl
  where
    F : Forest 200 (g.width * g.height) g.parent g.rank
    F = forest g ok long.parent long.rank

    go : (o : Result ℕ Refusal) → located_of g p ≡ o → get_or (changed o g (edit_grid g d p b)).grid.rank i 0 ≤ 201
    go (Ok j) e =
        let q = places g.width g.height p (done_located g p (sym e)).1.0 in
        tall_edit g.width g.height d (tables_of g) (place_of p.x g.width) (place_of p.y g.height) b q.0 q.1 F i h
    go (Err r) e = omega (arith, F.low i h)

abbrev rest : List ℕ
rest = replicate 4094 0

-- a free 2 by 1 grid of two components of rank 200: an edit that leaves its first cell free joins them
abbrev high : Grid
high = record { width = 2; height = 1; dirty = false; blocked = zeros; neighbours = zeros; forced = zeros; parent = 0 ∷ 1 ∷ rest; rank = 200 ∷ 200 ∷ rest }

high_legal : legal_of high ≡ true
unfolding sized_of
high_legal = legal_of_lem high (omega arith) refl (record { in_p = omega arith; in_k = omega arith; low = low; up = up })
  where
    low : (i : ℕ) → i < 2 → get_or high.rank i 0 ≤ 200
    low zero l = omega arith
    low (suc zero) l = omega arith
    low (suc (suc i)) l = absurd (omega arith)

    up : (i : ℕ) → i < 2 → Up 2 high.parent high.rank i
    up zero l = inl refl
    up (suc zero) l = inl refl
    up (suc (suc i)) l = absurd (omega arith)

high_long : Long high
high_long = record { parent = omega (arith, length-replicate {A = ℕ} 4094 0); rank = omega (arith, length-replicate {A = ℕ} 4094 0) }

raised_once : (united (0 ∷ 1 ∷ rest) (200 ∷ 200 ∷ rest) 0 1).rank ≡ 201 ∷ 200 ∷ rest
unfolding united linked root_of climb halve halves
raised_once = refl

reached : get_or (set_outcome high false (point 0 0) false).grid.rank 0 0 ≡ 201
unfolding set_outcome located_of cell_of edit_of joined_to join_cell around cell_at off_x off_y
reached = rw (high_legal, raised_once)

pub not_to_200 : NotTo200
not_to_200 R = let l = R high false (point 0 0) false high_legal high_long 0 (omega arith) in omega (arith, reached)

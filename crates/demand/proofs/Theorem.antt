-- Demand 3. The crux: after a rebuild two cells share a component exactly where a walk joins them (`rebuilt_covers`, `rebuilt_honest`); an edit
-- only joins (`edit_keeps`); an edit that frees a cell joins it along exactly the moves that are new (`edit_covers`, `edit_honest`). Assumes nothing.
use mathlib.Core.Path.{◌≡◌, refl, sym, ap, subst, ◌∙◌}
use mathlib.Core.Logic.{⊎_elim}
use mathlib.Core.Bool.{Bool, true, false, not, ◌&&◌}
use mathlib.Core.List.{List, [], ◌∷◌}
use Prim.Native.Nat.{ℕ, ◌+◌, ◌*◌, ◌^◌, ◌≤◌, ◌<◌}
use native.Mathlib.Omega.{arith}
use native.Mathlib.Decide.{ℕ_discrete}
use lib.ListN.{get_or, set}
use lib.Seq.{get_or-set_same, get_or-set_other}
use Rattle.components.specs.Components.{Links, Same, root_of}
use Rattle.components.proofs.Roots
use Rattle.masks.specs.Masks.{forced_of}
use Rattle.cells.specs.Cells.{cell_to}
use Rattle.fills.specs.Fills.{MasksRight}
use Rattle.cells.proofs.Cell.{cell_lt, same_cell}
use Rattle.fills.proofs.Fills.{get_fill_to}
use Rattle.rebuilds.specs.Rebuilds.{singles, columns_to}
use Rattle.tables.specs.Tables.{Tables, links_of, edit_of, rebuild_of}
use Rattle.joins.specs.Joins.{around, ahead, joined_to}
use Rattle.joins.proofs.Joins.{Held}
use Rattle.rebuilds.proofs.Rebuilds.{held_singles}
use Rattle.demand.specs.Walks.{Free, Step, Move, Walk, stay}
use Rattle.demand.specs.Demand3.{ForcedRight}
use Rattle.demand.proofs.Runs.{Edit, edited, after_edits, none_blocks, Clauses}
use Rattle.demand.proofs.Walks.{step_back, one, on, back, walk_same, walk_map}
use Rattle.demand.proofs.Ways.{In, in_around, Way, step_around, step_ahead, lands}
use Rattle.demand.proofs.Sharing.{Keeps, Steady, joined_all, joined_hit, columns_all, columns_hit, Equivalence, Sharing, Inside, held_join, sharing_made, sharing_join, inside_join}
use Rattle.demand.proofs.Masks.{Follows}
use Rattle.demand.proofs.Good.{Good, edit_either, held_self, good_edit, good_rebuild}

-- a walk is an equivalence
walking : (w h : ℕ) (blocked : List ℕ) (diagonal : Bool) → Equivalence (Walk w h blocked diagonal)
walking w h blocked diagonal = record { self = λ a. stay; turn = λ a c p. back p; chain = λ a b c p q. on p q }

-- each move is within a component
abbrev Covers : ℕ → ℕ → Bool → List ℕ → List ℕ → Type 0
Covers w h diagonal blocked p = (a c : ℕ) → Move w h blocked diagonal a c → Same p a c

-- each component is within the walks
abbrev Honest : ℕ → ℕ → Bool → List ℕ → List ℕ → Type 0
Honest w h diagonal blocked p = (a c : ℕ) → a < w * h → c < w * h → Same p a c → Walk w h blocked diagonal a c

module _ {m : ℕ} (w h : ℕ) (small : m ≤ 254) where
  move_in : {blocked : List ℕ} {diagonal : Bool} {a c : ℕ} → Move w h blocked diagonal a c → (a < w * h) × (c < w * h)
  move_in v = (
    omega (arith, v.from, cell_lt w h v.x v.y v.leaves.left v.leaves.down),
    omega (arith, v.to, cell_lt w h v.i v.j v.enters.left v.enters.down),
  )

  -- a direction of the neighbourhood is a move, where both cells are free
  way_move : (blocked : List ℕ) (diagonal : Bool) (x y d : ℕ) → Free w h blocked x y → In d (around diagonal) → cell_to w h x y d < w * h → get_or blocked (cell_to w h x y d) 0 ≡ 0
      → Move w h blocked diagonal (y * w + x) (cell_to w h x y d)
  way_move blocked diagonal x y d f q l z =
      let L = lands w h diagonal x y d f.left f.down q l in
      record {
        x = x;
        y = y;
        i = L.i;
        j = L.j;
        from = refl;
        to = L.at;
        leaves = f;
        enters = record { left = L.left; down = L.down; free = subst (λ (c : ℕ). get_or blocked c 0 ≡ 0) L.at z };
        step = L.step;
      }

  ---- the rebuild
  module _ (diagonal : Bool) (blocked : List ℕ) (u v : Links) (K : Held m (w * h) u v) where
    steady_held : Steady w h blocked diagonal (Held m (w * h) u)
    steady_held x y d hx hy f q l z s k = held_join small u s k (y * w + x) (cell_to w h x y d) (cell_lt w h x y hx hy) l

    steady_sharing : (a c : ℕ) → a < w * h → c < w * h → Steady w h blocked diagonal (Sharing m (w * h) u a c)
    steady_sharing a c ha hc x y d hx hy f q l z s k =
        sharing_join small u s k.held (y * w + x) (cell_to w h x y d) (cell_lt w h x y hx hy) l a c ha hc k.same

    -- a direction of the rebuild, from a free cell to a free cell, is joined
    way_joined : (x y i j : ℕ) → Free w h blocked x y → Free w h blocked i j → Way (ahead diagonal) w h x y i j → Same (columns_to w h diagonal blocked w v).parent (y * w + x) (j * w + i)
    way_joined x y i j f g W =
        let hc = cell_lt w h i j g.left g.down in
        let l : cell_to w h x y W.d < w * h = rw W.to hc in
        let z : get_or blocked (cell_to w h x y W.d) 0 ≡ 0 = rw W.to g.free in
        let hi = cell_lt w h x y f.left f.down in
        let S = columns_hit w h blocked diagonal (Held m (w * h) u) (Sharing m (w * h) u (y * w + x) (cell_to w h x y W.d)) steady_held
        (steady_sharing (y * w + x) (cell_to w h x y W.d) hi l) x y W.d f.left f.down f.free W.listed l z
        (λ s k. sharing_made small u s k (y * w + x) (cell_to w h x y W.d) hi l) w (omega arith) f.left v K in
        S.same ∙ ap (root_of (columns_to w h diagonal blocked w v).parent) W.to

    pub rebuilt_covers : Covers w h diagonal blocked (columns_to w h diagonal blocked w v).parent
    rebuilt_covers a c M =
        let p = (columns_to w h diagonal blocked w v).parent in
        let f = M.leaves in
        let g = M.enters in
        let e : Same p (M.y * w + M.x) (M.j * w + M.i) =
        ⊎_elim (λ z. ap (root_of p) (rw (z.0, z.1)))
        (λ z. ⊎_elim (λ W. way_joined M.x M.y M.i M.j f g W) (λ W. sym (way_joined M.i M.j M.x M.y g f W)) z)
        (step_ahead w h diagonal M.x M.y M.i M.j f.left f.down g.left g.down M.step) in
        ap (root_of p) M.from ∙ e ∙ sym (ap (root_of p) M.to)

    -- from singletons nothing is joined but along moves
    pub rebuilt_honest : ((i : ℕ) → i < w * h → get_or v.parent i 0 ≡ i) → Honest w h diagonal blocked (columns_to w h diagonal blocked w v).parent
    rebuilt_honest own =
        (columns_all w h blocked diagonal (Inside m (w * h) u (Walk w h blocked diagonal))
        (λ x y d hx hy f q l z s k.
        inside_join small u s k.held (y * w + x) (cell_to w h x y d) (cell_lt w h x y hx hy) l (Walk w h blocked diagonal) (walking w h blocked diagonal) k.only
        (one (way_move blocked diagonal x y d (record { left = hx; down = hy; free = f }) (in_around diagonal d q) l z)))
        w (omega arith) v
        (record {
          held = K;
          only = λ a c ha hc e.
              let z : a ≡ c = sym (Roots.root_here v.parent a (own a ha)) ∙ e ∙ Roots.root_here v.parent c (own c hc) in
              subst (λ (k : ℕ). Walk w h blocked diagonal a k) z stay;
        })).only

  ---- an edit
  module _ (diagonal : Bool) (t : Tables) (G : Good m w h t) (x y : ℕ) (hx : x < w) (hy : y < h) where
    keeps_held : (d : ℕ) → In d (around diagonal) → Keeps w h t.blocked (Held m (w * h) (links_of t)) x y d
    keeps_held d q l z s K = held_join small (links_of t) s K (y * w + x) (cell_to w h x y d) (cell_lt w h x y hx hy) l

    keeps_sharing : (a c : ℕ) → a < w * h → c < w * h → (d : ℕ) → In d (around diagonal) → Keeps w h t.blocked (Sharing m (w * h) (links_of t) a c) x y d
    keeps_sharing a c ha hc d q l z s K =
        sharing_join small (links_of t) s K.held (y * w + x) (cell_to w h x y d) (cell_lt w h x y hx hy) l a c ha hc K.same

    -- what shared a component shares it after the joins
    joins_keep : (a c : ℕ) → a < w * h → c < w * h → Same t.parent a c → Same (joined_to w h t.blocked x y (around diagonal) (links_of t)).parent a c
    joins_keep a c ha hc e =
        (joined_all w h t.blocked (Sharing m (w * h) (links_of t) a c) x y (around diagonal) (keeps_sharing a c ha hc) (links_of t)
        (record { held = held_self w h small G; same = e })).same

    -- LAW (c): what shares a component shares it after an edit
    pub edit_keeps : (b : Bool) (a c : ℕ) → a < w * h → c < w * h → Same t.parent a c → Same (edit_of w h diagonal t x y b).parent a c
    unfolding edit_of
    edit_keeps b a c ha hc e = edit_either (λ s. Same s.parent a c) w h diagonal t x y b e (joins_keep a c ha hc e)

    -- the edited cell is joined with each free cell a step away
    joins_make : (i j : ℕ) → i < w → j < h → get_or t.blocked (j * w + i) 0 ≡ 0 → Step diagonal x y i j
        → Same (joined_to w h t.blocked x y (around diagonal) (links_of t)).parent (y * w + x) (j * w + i)
    joins_make i j hi hj f s =
        let q = (joined_to w h t.blocked x y (around diagonal) (links_of t)).parent in
        ⊎_elim (λ z. ap (root_of q) (rw (z.0, z.1)))
        (λ W.
        let l : cell_to w h x y W.d < w * h = rw W.to (cell_lt w h i j hi hj) in
        let z : get_or t.blocked (cell_to w h x y W.d) 0 ≡ 0 = rw W.to f in
        let hk = cell_lt w h x y hx hy in
        let S = joined_hit w h t.blocked (Held m (w * h) (links_of t)) (Sharing m (w * h) (links_of t) (y * w + x) (cell_to w h x y W.d)) x y W.d l z
        (λ s K. sharing_made small (links_of t) s K (y * w + x) (cell_to w h x y W.d) hk l) (around diagonal) W.listed keeps_held
        (keeps_sharing (y * w + x) (cell_to w h x y W.d) hk l) (links_of t) (held_self w h small G) in
        S.same ∙ ap (root_of q) W.to)
        (step_around w h diagonal x y i j hx hy hi hj s)

    at_k : (v : ℕ) → get_or (set t.blocked (y * w + x) v) (y * w + x) 0 ≡ v
    at_k v = get_or-set_same t.blocked (y * w + x) v 0 (omega (arith, cell_lt w h x y hx hy, G.room.blocked))

    -- an edit that blocks frees nothing
    less_free : {i j : ℕ} → Free w h (set t.blocked (y * w + x) 1) i j → Free w h t.blocked i j
    less_free {i} {j} f = record { left = f.left; down = f.down; free = go (ℕ_discrete (j * w + i) (y * w + x)) }
      where
        go : Dec (j * w + i ≡ y * w + x) → get_or t.blocked (j * w + i) 0 ≡ 0
        go (yes e) = absurd (omega (arith, at_k 1, sym (ap (λ (c : ℕ). get_or (set t.blocked (y * w + x) 1) c 0) e) ∙ f.free))
        go (no n) = sym (get_or-set_other t.blocked (y * w + x) (j * w + i) 1 0 n) ∙ f.free

    -- an edit that frees blocks nothing, and frees one cell
    more_free : {i j : ℕ} → Free w h t.blocked i j → Free w h (set t.blocked (y * w + x) 0) i j
    more_free {i} {j} f = record { left = f.left; down = f.down; free = go (ℕ_discrete (j * w + i) (y * w + x)) }
      where
        go : Dec (j * w + i ≡ y * w + x) → get_or (set t.blocked (y * w + x) 0) (j * w + i) 0 ≡ 0
        go (yes e) = ap (λ (c : ℕ). get_or (set t.blocked (y * w + x) 0) c 0) e ∙ at_k 0
        go (no n) = get_or-set_other t.blocked (y * w + x) (j * w + i) 0 0 n ∙ f.free

    was_free : {i j : ℕ} → Free w h (set t.blocked (y * w + x) 0) i j → (j * w + i ≡ y * w + x → ⊥) → Free w h t.blocked i j
    was_free {i} {j} f n =
        record { left = f.left; down = f.down; free = sym (get_or-set_other t.blocked (y * w + x) (j * w + i) 0 0 n) ∙ f.free }

    -- LAW (b): moves stay within components
    covers_block : Covers w h diagonal t.blocked t.parent → Covers w h diagonal (set t.blocked (y * w + x) 1) (edit_of w h diagonal t x y true).parent
    covers_block C a c M =
        let N : Move w h t.blocked diagonal a c =
        record { x = M.x; y = M.y; i = M.i; j = M.j; from = M.from; to = M.to; leaves = less_free M.leaves; enters = less_free M.enters; step = M.step } in
        edit_keeps true a c (move_in M).0 (move_in M).1 (C a c N)

    covers_free : Covers w h diagonal t.blocked t.parent → Covers w h diagonal (set t.blocked (y * w + x) 0) (joined_to w h t.blocked x y (around diagonal) (links_of t)).parent
    covers_free C a c M = go (ℕ_discrete (M.y * w + M.x) (y * w + x)) (ℕ_discrete (M.j * w + M.i) (y * w + x))
      where
        q : List ℕ
        q = (joined_to w h t.blocked x y (around diagonal) (links_of t)).parent

        ends : Same q (M.y * w + M.x) (M.j * w + M.i) → Same q a c
        ends e = ap (root_of q) M.from ∙ e ∙ sym (ap (root_of q) M.to)

        go : Dec (M.y * w + M.x ≡ y * w + x) → Dec (M.j * w + M.i ≡ y * w + x) → Same q a c
        go (yes e) (yes f) = ends (ap (root_of q) (e ∙ sym f))
        go (yes e) (no n) =
            let z = same_cell w M.x M.y x y M.leaves.left hx e in
            let s : Step diagonal x y M.i M.j = rw (← z.0, ← z.1) M.step in
            ends (ap (root_of q) e ∙ joins_make M.i M.j M.enters.left M.enters.down (was_free M.enters n).free s)
        go (no n) (yes e) =
            let z = same_cell w M.i M.j x y M.enters.left hx e in
            let s : Step diagonal x y M.x M.y = rw (← z.0, ← z.1) (step_back M.step) in
            ends (sym (ap (root_of q) e ∙ joins_make M.x M.y M.leaves.left M.leaves.down (was_free M.leaves n).free s))
        go (no n) (no n') =
            let N : Move w h t.blocked diagonal a c =
            record { x = M.x; y = M.y; i = M.i; j = M.j; from = M.from; to = M.to; leaves = was_free M.leaves n; enters = was_free M.enters n'; step = M.step } in
            joins_keep a c (move_in M).0 (move_in M).1 (C a c N)

    pub edit_covers : (b : Bool) → Covers w h diagonal t.blocked t.parent → Covers w h diagonal (edit_of w h diagonal t x y b).blocked (edit_of w h diagonal t x y b).parent
    unfolding edit_of
    edit_covers true C = covers_block C
    edit_covers false C = covers_free C

    -- LAW (d): an edit that carries "free" joins nothing but along walks
    pub edit_honest : Honest w h diagonal t.blocked t.parent → Honest w h diagonal (edit_of w h diagonal t x y false).blocked (edit_of w h diagonal t x y false).parent
    unfolding edit_of
    edit_honest H =
        (joined_all w h t.blocked (Inside m (w * h) (links_of t) (Walk w h blocked' diagonal)) x y (around diagonal)
        (λ d q l z s K.
        inside_join small (links_of t) s K.held (y * w + x) (cell_to w h x y d) (cell_lt w h x y hx hy) l (Walk w h blocked' diagonal) (walking w h blocked' diagonal) K.only
        (one (way_move blocked' diagonal x y d (record { left = hx; down = hy; free = at_k 0 }) q l (still (cell_to w h x y d) z))))
        (links_of t)
        (record { held = held_self w h small G; only = λ a c ha hc e. walk_map blocked' grown (H a c ha hc e) })).only
      where
        blocked' : List ℕ
        blocked' = set t.blocked (y * w + x) 0

        still : (c : ℕ) → get_or t.blocked c 0 ≡ 0 → get_or blocked' c 0 ≡ 0
        still c z = go (ℕ_discrete c (y * w + x))
          where
            go : Dec (c ≡ y * w + x) → get_or blocked' c 0 ≡ 0
            go (yes e) = ap (λ (i : ℕ). get_or blocked' i 0) e ∙ at_k 0
            go (no n) = get_or-set_other t.blocked (y * w + x) c 0 0 n ∙ z

        grown : (a c : ℕ) → Move w h t.blocked diagonal a c → Move w h blocked' diagonal a c
        grown a c M =
            record { x = M.x; y = M.y; i = M.i; j = M.j; from = M.from; to = M.to; leaves = more_free M.leaves; enters = more_free M.enters; step = M.step }

  ---- lists of edits
  -- what holds after the rebuild and after each edit, whatever the edits carry
  record Sound (diagonal : Bool) (t : Tables) : Type 0 where
    good : Good m w h t
    covers : Covers w h diagonal t.blocked t.parent

  module _ (diagonal : Bool) where
    sound_edit : (t : Tables) (e : Edit w h) → Sound diagonal t → Sound diagonal (edited w h diagonal t e)
    sound_edit t e S =
        record {
          good = good_edit w h small diagonal t e.x e.y e.blocked e.left e.down S.good;
          covers = edit_covers diagonal t S.good e.x e.y e.left e.down e.blocked S.covers;
        }

    sound_edits : (t : Tables) (es : List (Edit w h)) → Sound diagonal t → Sound diagonal (after_edits w h diagonal t es)
    sound_edits t [] S = S
    sound_edits t (e ∷ es) S = sound_edits (edited w h diagonal t e) es (sound_edit t e S)

    keeps_edits : (t : Tables) (es : List (Edit w h)) → Sound diagonal t → (a c : ℕ) → a < w * h → c < w * h
        → Same t.parent a c → Same (after_edits w h diagonal t es).parent a c
    keeps_edits t [] S a c ha hc q = q
    keeps_edits t (e ∷ es) S a c ha hc q =
        keeps_edits (edited w h diagonal t e) es (sound_edit t e S) a c ha hc
        (edit_keeps diagonal t S.good e.x e.y e.left e.down e.blocked a c ha hc q)

    frees : (b c : Bool) → not b && c ≡ true → (b ≡ false) × (c ≡ true)
    frees true true e = (sym e, refl)
    frees true false e = (sym e, e)
    frees false c e = (refl, e)

    honest_edit : (t : Tables) (S : Sound diagonal t) (x y : ℕ) (hx : x < w) (hy : y < h) (b : Bool) → b ≡ false → Honest w h diagonal t.blocked t.parent
        → Honest w h diagonal (edit_of w h diagonal t x y b).blocked (edit_of w h diagonal t x y b).parent
    honest_edit t S x y hx hy b e H = rw e (edit_honest diagonal t S.good x y hx hy H)

    honest_edits : (t : Tables) (es : List (Edit w h)) → Sound diagonal t → none_blocks w h es ≡ true → Honest w h diagonal t.blocked t.parent
        → Honest w h diagonal (after_edits w h diagonal t es).blocked (after_edits w h diagonal t es).parent
    honest_edits t [] S n H = H
    honest_edits t (e ∷ es) S n H =
        let z = frees e.blocked (none_blocks w h es) n in
        honest_edits (edited w h diagonal t e) es (sound_edit t e S) z.1 (honest_edit t S e.x e.y e.left e.down e.blocked z.0 H)

    module _ (fits : w * h ≤ 2 ^ m) (t : Tables) (G : Good m w h t) where
      fresh : Held m (w * h) (links_of t) (singles w h t.parent t.rank)
      fresh = held_singles m w h t.parent t.rank G.room.parent G.room.rank fits

      sound_rebuild : Sound diagonal (rebuild_of w h diagonal t)
      unfolding rebuild_of
      sound_rebuild =
          record {
            good = good_rebuild w h small fits diagonal t G;
            covers = rebuilt_covers diagonal t.blocked (links_of t) (singles w h t.parent t.rank) fresh;
          }

      honest_rebuild : Honest w h diagonal (rebuild_of w h diagonal t).blocked (rebuild_of w h diagonal t).parent
      unfolding rebuild_of
      honest_rebuild =
          rebuilt_honest diagonal t.blocked (links_of t) (singles w h t.parent t.rank) fresh
          (λ i hi. get_fill_to (λ j. j) t.parent (w * h) i hi G.room.parent)

      pub clauses : (es : List (Edit w h)) → Clauses w h diagonal es (after_edits w h diagonal (rebuild_of w h diagonal t) es)
      unfolding ForcedRight MasksRight Follows
      clauses es =
          let S = sound_edits (rebuild_of w h diagonal t) es sound_rebuild in
          let s = after_edits w h diagonal (rebuild_of w h diagonal t) es in
          record {
            masks = S.good.masks;
            forced = λ x y hx hy. S.good.forced (y * w + x) (cell_lt w h x y hx hy) ∙ ap forced_of (S.good.masks x y hx hy);
            joined = λ a c p. walk_same s.parent S.covers a c p;
            kept = λ more a c ha hc q. keeps_edits s more S a c ha hc q;
            parted = λ n. honest_edits (rebuild_of w h diagonal t) es sound_rebuild n honest_rebuild;
          }

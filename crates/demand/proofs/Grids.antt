-- The demand on grids by value: a grid that the calls made, from a new one or from one that was read, is the grid of tables that the calls on tables made, and no call refuses its state.
-- Assumes nothing.
use Rattle.std.specs.Prelude.{Result, Ok, Err}
use mathlib.Core.Path.{◌≡◌, refl, sym, ap, subst, ◌∙◌}
use mathlib.Core.Bool.{Bool, true, not}
use mathlib.Core.List.{List, [], ◌∷◌}
use Prim.Native.Nat.{ℕ, suc, ◌+◌, ◌*◌, ◌≤◌, ◌<◌}
use native.Mathlib.Omega.{arith}
use native.Mathlib.Decide.{dec_le}
use Rattle.points.specs.declared.Point.{Point}
use Rattle.points.specs.declared.Refusal.{Refusal}
use Rattle.masks.specs.Masks.{forced_of}
use Rattle.components.proofs.Loops.{and_true}
use Rattle.cells.specs.Cells.{sized_of, place_of, cell_of}
use Rattle.fills.specs.Fills.{MasksRight}
use Rattle.cells.proofs.Cell.{cell_lt, places}
use Rattle.rebuilds.specs.Rebuilds.{most_rank}
use Rattle.tables.specs.Tables.{Tables, edit_of, rebuild_of, update_of}
use Rattle.rebuilds.proofs.Rebuilds.{fits}
use Rattle.grid.specs.declared.Grid.{Grid}
use Rattle.grid.specs.declared.Change.{Change}
use Rattle.grid.specs.Grids.{grid_of, legal_of, cell_in, stated_of, located_of, changed, edit_grid, set_outcome, rebuild_grid, update_grid, rebuild_outcome, update_outcome}
use Rattle.grid.proofs.Tests.{legal_of_lem, located_in, stated_yes, done_located}
use Rattle.grid.proofs.Calls.{set_done, rebuild_done, update_done, update_dirty}
use Rattle.demand.specs.Calls.{Begin, begun, Call, set, rebuild, update, called, after, Rebuilt, generated, updated, Edit, after_edits}
use Rattle.demand.specs.Demand3.{none_blocks, component_in, Share, ForcedRight, Clauses, Demand3}
use Rattle.demand.specs.States.{Made, NeverRefused}
use Rattle.demand.proofs.Runs as Runs
use Rattle.demand.proofs.Good.{Good, good_edit, good_rebuild, good_update}
use Rattle.demand.proofs.Starts.{sides, start}
use Rattle.demand.proofs.Masks.{Follows}
use Rattle.demand.proofs.Theorem

-- a refused edit hands the same grid back
refused_set : (g : Grid) (d : Bool) (p : Point) (b : Bool) → g.width * g.height ≤ cell_in g p → (set_outcome g d p b).grid ≡ g
unfolding set_outcome
refused_set g d p b l = go (located_of g p) (λ i e. omega (arith, (done_located g p e).1.0))
  where
    go : (o : Result ℕ Refusal) → ((i : ℕ) → Ok i ≡ o → ⊥) → (changed o g (edit_grid g d p b)).grid ≡ g
    go (Ok i) n = absurd (n i refl)
    go (Err r) n = refl

-- `update` of a dirty grid is the same as `generate_components`
one_rebuild : (d : Bool) (g r : Grid) → Rebuilt d g r → r ≡ (rebuild_outcome g d).grid
unfolding rebuild_outcome update_outcome
one_rebuild d g r generated = refl
one_rebuild d g r (updated e) = ap (λ (n : Grid). (changed (stated_of g) g n).grid) (sym (update_dirty g d e))

module _ (w h : ℕ) (ok : sized_of w h ≡ true) where
  legal_is : (t : Tables) → Good most_rank w h t → legal_of (grid_of w h t) ≡ true
  legal_is t G = legal_of_lem (grid_of w h t) (omega arith) ok G.light.forest

  pub edit_is : (d : Bool) (p : Point) (b : Bool) (t : Tables) → Good most_rank w h t → cell_of w h p < w * h
      → (set_outcome (grid_of w h t) d p b).grid ≡ grid_of w h (edit_of w h d t (place_of p.x w) (place_of p.y h) b)
  edit_is d p b t G l =
      sym (ap (λ (a : Change). a.grid) (set_done (grid_of w h t) d p b (located_in (grid_of w h t) p (cell_of w h p) (legal_is t G) refl l)))

  pub edit_good : (d : Bool) (p : Point) (b : Bool) (t : Tables) → Good most_rank w h t → cell_of w h p < w * h
      → Good most_rank w h (edit_of w h d t (place_of p.x w) (place_of p.y h) b)
  edit_good d p b t G l = let q = places w h p l in good_edit w h (omega arith) d t (place_of p.x w) (place_of p.y h) b q.0 q.1 G

  pub rebuilt_is : (d : Bool) (t : Tables) → Good most_rank w h t → (rebuild_outcome (grid_of w h t) d).grid ≡ grid_of w h (rebuild_of w h d t)
  unfolding rebuild_grid
  rebuilt_is d t G =
      sym (ap (λ (a : Change). a.grid) (rebuild_done (grid_of w h t) d (rebuild_grid (grid_of w h t) d) (stated_yes (grid_of w h t) (legal_is t G)) refl))

  updated_is : (d : Bool) (t : Tables) → Good most_rank w h t → (update_outcome (grid_of w h t) d).grid ≡ grid_of w h (update_of w h d t)
  unfolding update_grid
  updated_is d t G =
      sym (ap (λ (a : Change). a.grid) (update_done (grid_of w h t) d (update_grid (grid_of w h t) d) (stated_yes (grid_of w h t) (legal_is t G)) refl))

  -- g is the grid of good tables
  record Rep (g : Grid) : Type 0 where
    tables : Tables
    good : Good most_rank w h tables
    is : g ≡ grid_of w h tables

  rep_set : (d : Bool) (p : Point) (b : Bool) (t : Tables) → Good most_rank w h t → Dec (cell_of w h p < w * h) → Rep (set_outcome (grid_of w h t) d p b).grid
  rep_set d p b t G (yes l) =
      record { tables = edit_of w h d t (place_of p.x w) (place_of p.y h) b; good = edit_good d p b t G l; is = edit_is d p b t G l }
  rep_set d p b t G (no n) = record { tables = t; good = G; is = refused_set (grid_of w h t) d p b (omega arith) }

  rep_call : (c : Call) (t : Tables) → Good most_rank w h t → Rep (called (grid_of w h t) c)
  rep_call (set d p b) t G = rep_set d p b t G (dec_le (suc (cell_of w h p)) (w * h))
  rep_call (rebuild d) t G = record { tables = rebuild_of w h d t; good = good_rebuild w h (omega arith) (fits (sides w h ok)) d t G; is = rebuilt_is d t G }
  rep_call (update d) t G = record { tables = update_of w h d t; good = good_update w h (omega arith) (fits (sides w h ok)) d t G; is = updated_is d t G }

  rep_calls : (cs : List Call) (t : Tables) → Good most_rank w h t → Rep (after (grid_of w h t) cs)
  rep_calls [] t G = record { tables = t; good = G; is = refl }
  rep_calls (c ∷ cs) t G =
      let r = rep_call c t G in
      subst (λ (g : Grid). Rep (after g cs)) (sym r.is) (rep_calls cs r.tables r.good)

  -- the edits that are accepted
  taken : (e : Edit) → Dec (cell_of w h e.at < w * h) → List (Runs.Edit w h) → List (Runs.Edit w h)
  taken e (yes l) es =
      let q = places w h e.at l in
      record { x = place_of e.at.x w; y = place_of e.at.y h; left = q.0; down = q.1; blocked = e.blocked } ∷ es
  taken e (no n) es = es

  accepted : List Edit → List (Runs.Edit w h)
  accepted [] = []
  accepted (e ∷ es) = taken e (dec_le (suc (cell_of w h e.at)) (w * h)) (accepted es)

  edits_are : (d : Bool) (es : List Edit) (t : Tables) → Good most_rank w h t → after_edits d (grid_of w h t) es ≡ grid_of w h (Runs.after_edits w h d t (accepted es))
  unfolding accepted taken
  edits_are d [] t G = refl
  edits_are d (e ∷ es) t G = go (dec_le (suc (cell_of w h e.at)) (w * h)) (λ s H. edits_are d es s H)
    where
      go : (p : Dec (cell_of w h e.at < w * h)) → ((s : Tables) → Good most_rank w h s → after_edits d (grid_of w h s) es ≡ grid_of w h (Runs.after_edits w h d s (accepted es)))
          → after_edits d (set_outcome (grid_of w h t) d e.at e.blocked).grid es ≡ grid_of w h (Runs.after_edits w h d t (taken e p (accepted es)))
      go (yes l) ih =
          ap (λ (g : Grid). after_edits d g es) (edit_is d e.at e.blocked t G l)
          ∙ ih (edit_of w h d t (place_of e.at.x w) (place_of e.at.y h) e.blocked) (edit_good d e.at e.blocked t G l)
      go (no n) ih = ap (λ (g : Grid). after_edits d g es) (refused_set (grid_of w h t) d e.at e.blocked (omega arith)) ∙ ih t G

  none_are : (es : List Edit) → none_blocks es ≡ true → Runs.none_blocks w h (accepted es) ≡ true
  unfolding accepted taken
  none_are [] n = refl
  none_are (e ∷ es) n = go (dec_le (suc (cell_of w h e.at)) (w * h)) (none_are es z.1)
    where
      z : (not e.blocked ≡ true) × (none_blocks es ≡ true)
      z = and_true (not e.blocked) (none_blocks es) n

      go : (p : Dec (cell_of w h e.at < w * h)) → Runs.none_blocks w h (accepted es) ≡ true → Runs.none_blocks w h (taken e p (accepted es)) ≡ true
      go (yes l) ih = rw (z.0, ih)
      go (no k) ih = ih

  good_edits : (d : Bool) (es : List (Runs.Edit w h)) (t : Tables) → Good most_rank w h t → Good most_rank w h (Runs.after_edits w h d t es)
  good_edits d [] t G = G
  good_edits d (e ∷ es) t G = good_edits d es _ (good_edit w h (omega arith) d t e.x e.y e.blocked e.left e.down G)

  -- the clauses of tables are those of their grid
  clauses_are : (d : Bool) (es : List Edit) (t : Tables) → Good most_rank w h t → Runs.Clauses w h d (accepted es) t → Clauses component_in w h d es (grid_of w h t)
  clauses_are d es t G C =
      record {
        masks = C.masks;
        forced = C.forced;
        joined = C.joined;
        kept = λ more a c ha hc q. subst (λ (g : Grid). Share component_in g a c) (sym (edits_are d more t G)) (C.kept (accepted more) a c ha hc q);
        parted = λ n. C.parted (none_are es n);
      }

  -- an edited grid is the grid of tables that have the clauses
  pub record Told (d : Bool) (es : List Edit) (g : Grid) : Type 0 where
    pub tables : Tables
    pub is : g ≡ grid_of w h tables
    pub clauses : Clauses component_in w h d es (grid_of w h tables)

  told : (g : Grid) → Rep g → (d : Bool) (es : List Edit) → Told d es (after_edits d (rebuild_outcome g d).grid es)
  told g r d es =
      let t = r.tables in
      let G = good_rebuild w h (omega arith) (fits (sides w h ok)) d t r.good in
      let s = rebuild_of w h d t in
      record {
        tables = Runs.after_edits w h d s (accepted es);
        is = ap (λ (g : Grid). after_edits d (rebuild_outcome g d).grid es) r.is ∙ ap (λ (g : Grid). after_edits d g es) (rebuilt_is d t r.good) ∙ edits_are d es s G;
        clauses =
            clauses_are d es (Runs.after_edits w h d s (accepted es)) (good_edits d (accepted es) s G)
            (Theorem.clauses {m = most_rank} w h (omega arith) d (fits (sides w h ok)) t r.good (accepted es));
      }

-- a grid that the calls made
rep : (s : Begin) (cs : List Call) → Rep (begun s).width (begun s).height (start s).ok (after (begun s) cs)
rep s cs =
    let b = start s in
    let w = (begun s).width in
    let h = (begun s).height in
    subst (λ (g : Grid). Rep w h b.ok (after g cs)) (sym b.is) (rep_calls w h b.ok cs b.tables b.good)

pub made : (s : Begin) (cs : List Call) (d : Bool) (g : Grid) → Rebuilt d (after (begun s) cs) g → (es : List Edit)
    → Told (begun s).width (begun s).height (start s).ok d es (after_edits d g es)
made s cs d g b es =
    let w = (begun s).width in
    let h = (begun s).height in
    subst (λ (r : Grid). Told w h (start s).ok d es (after_edits d r es)) (sym (one_rebuild d (after (begun s) cs) g b))
    (told w h (start s).ok (after (begun s) cs) (rep s cs) d es)

pub demand3 : Demand3
demand3 s cs d g b es = let r = made s cs d g b es in subst (Clauses component_in (begun s).width (begun s).height d es) (sym r.is) r.clauses

pub never_refused : NeverRefused
unfolding ForcedRight MasksRight Follows
never_refused s cs =
    let w = (begun s).width in
    let h = (begun s).height in
    let r = rep s cs in
    let G = r.good in
    subst (Made w h) (sym r.is)
    (record {
      wide = refl;
      high = refl;
      legal = legal_is w h (start s).ok r.tables G;
      masks = G.masks;
      forced = λ x y hx hy. G.forced (y * w + x) (cell_lt w h x y hx hy) ∙ ap forced_of (G.masks x y hx hy);
      low = λ i hi. G.light.forest.low i hi;
    })

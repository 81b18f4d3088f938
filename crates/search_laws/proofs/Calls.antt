-- The calls that search: the tests before each make its plan legal. Assumes nothing.
use mathlib.Core.Path.{ap, ◌≡◌, refl, sym, ◌∙◌, subst}
use mathlib.Core.Bool.{Bool, true, false, cond, ◌&&◌}
use mathlib.Core.List.{List}
use Prim.Native.Nat.{ℕ, ◌+◌, ◌*◌, ◌^◌, ◌<◌, ◌≤◌, zero-le}
use native.Mathlib.Nat.{mul_comm}
use native.Mathlib.Omega.{arith}
use lib.Dec.{leb}
use lib.IntN.{ℤ}
use lib.ListN.{length}
use Rattle.points.specs.Plane.{legal}
use Rattle.points.specs.declared.Point.{Point}
use Rattle.points.specs.declared.Refusal.{Refusal}
use Rattle.points.specs.declared.Refusal.TheVariants.{Setting, NoRoute, BadPoint}
use Rattle.points.specs.declared.Refusal.TheVariants as refusal
use Rattle.costs.specs.declared.Settings.{Settings}
use Rattle.std.specs.Prelude.{Option, Some, None, Result, Ok, Err}
use Rattle.goals.specs.declared.Goal.TheVariants.{Several}
use Rattle.goals.specs.declared.Plan.{Plan}
use Rattle.pairs.specs.Pairs.{first_bad}
use Rattle.goals.specs.Goals.{count_of}
use Rattle.offers.specs.Search.{State, Reply, found, refused, area_of}
use Rattle.offers.specs.Passed.{pops_of}
use Rattle.offers.proofs.Laws.{area_is}
use Rattle.search.specs.Loop.{Legal}
use Rattle.search.proofs.Laws.{edges_low, search_ended}
use Rattle.states.specs.States.{state_ok}
use Rattle.components.proofs.Loops.{and_true}
use Rattle.cells.specs.Cells.{sized_of, cell_of}
use Rattle.cells.specs.Cells.{Sides}
use Rattle.cells.proofs.Cell.{sides_of_lem}
use Rattle.trails.specs.Trail.{wrote_of}
use Rattle.plans.specs.declared.Lengths.{Lengths}
use Rattle.std.specs.Prelude.{Result, Ok, Err}
use Rattle.finder.specs.declared.Found.{Found}
use Rattle.finder.specs.Find as F
use Rattle.finder.specs.Find.{found_of, Ground, tables_of, route_in, told_of, answer_of, started_of, started_in, pair_of, single_plan, several_plan}
use Rattle.plans.specs.Plans.{ready_of, barred_of, plan_of}
use Rattle.finder.proofs.Laws as L
use Rattle.grid.specs.Grids.{legal_of}
use Rattle.grid.proofs.Tests.{of_legal_lem}
use Rattle.waypoints.specs.Waypoints as W
use Rattle.waypoints.specs.Waypoints.{ground_of}
use Rattle.boundary.specs.Lent.{links_ok, covers_ok, held_of}
use Rattle.boundary.specs.Searches.{held_in, single_lent, several_lent}
use Rattle.replies.specs.Replies.{route_with}
use Rattle.search_laws.proofs.Replies.{every_reply}
use Rattle.search_laws.specs.Calls.{single, several, single_host, several_host, single_inner, several_inner, reply_to, settings_in, Stems, before, searched, EveryCall, PopsWithin, FoundBelow}

-- ---- where a reply stems from

-- the search of a legal plan over lent tables
stems : (g : Ground) (goals : List ℤ) (p : Plan) (r : Reply) → Legal goals p → started_in g goals p ≡ r → Stems p.settings r
unfolding started_of
stems g goals p r l e =
    let area : p.w * p.h ≡ area_of p = mul_comm p.w p.h ∙ sym (area_is p) in
    searched (tables_of (p.w * p.h) g.blocked g.neighbours g.forced goals) p (cell_of p.w p.h p.start) l (omega (arith, area, L.cell_of_le p.w p.h p.start)) refl (sym e)

-- a refusal before searching
stopped : (s : Settings) (w : Refusal) (r : Reply) → refused w 0 ≡ r → Stems s r
stopped s w r e = before w (sym e)

single_stems : (g : Ground) (links : List ℕ) (s : Settings) (l : Lengths) (approximate : Bool) (start goal : Point) → Sides g.w g.h → Stems s (F.single_of g links s l approximate start goal)
single_stems g links s l approximate start goal sides =
    go (ready_of s l (g.w * g.h + 1)) (legal start) (legal goal) (barred_of g.w g.h links s.diagonal approximate start goal) refl refl refl refl
  where
    go : (a b c d : Bool) → ready_of s l (g.w * g.h + 1) ≡ a → legal start ≡ b → legal goal ≡ c → barred_of g.w g.h links s.diagonal approximate start goal ≡ d
        → Stems s (F.single_of g links s l approximate start goal)
    go false b c d ea eb ec ed = stopped s Setting _ (L.single_setting g links s l approximate start goal ea)
    go true false c d ea eb ec ed = stopped s (BadPoint start) _ (L.single_start g links s l approximate start goal ea eb)
    go true true false d ea eb ec ed = stopped s (BadPoint goal) _ (L.single_goal g links s l approximate start goal ea eb ec)
    go true true true true ea eb ec ed = stopped s NoRoute _ (L.single_barred g links s l approximate start goal ea eb ec ed)
    go true true true false ea eb ec ed =
        stems g (pair_of goal) (single_plan g.w g.h s approximate start goal) _ (L.single_legal g.w g.h s l start sides ea eb approximate goal ec)
        (L.single_open g links s l approximate start goal ea eb ec ed)

several_stems : (g : Ground) (s : Settings) (l : Lengths) (start : Point) (goals : List ℤ) → Sides g.w g.h → Stems s (F.several_of g s l start goals)
several_stems g s l start goals sides = ready (ready_of s l (g.w * g.h + 1)) refl
  where
    placed : ready_of s l (g.w * g.h + 1) ≡ true → (n : ℕ) → Ok n ≡ count_of (length goals) → legal start ≡ true → (q : Option Point) → first_bad goals ≡ q → Stems s (F.several_of g s l start goals)
    placed ea n ec eb (Some q) e = stopped s (BadPoint q) _ (L.several_goals g s l start goals ea n ec eb q (sym e))
    placed ea n ec eb None e =
        let c = L.count_is (length goals) n ec in
        stems g goals (several_plan g.w g.h s start goals) _
        (subst (λ (m : ℕ). Legal goals (plan_of g.w g.h s (Several m) start)) c.0 (L.several_legal g.w g.h s l start sides ea eb goals n c.1.0 c.1.1 (sym e)))
        (L.several_open g s l start goals ea n ec eb (sym e))

    started : ready_of s l (g.w * g.h + 1) ≡ true → (n : ℕ) → Ok n ≡ count_of (length goals) → (b : Bool) → legal start ≡ b → Stems s (F.several_of g s l start goals)
    started ea n ec false eb = stopped s (BadPoint start) _ (L.several_start g s l start goals ea n ec eb)
    started ea n ec true eb = placed ea n ec eb (first_bad goals) refl

    counted : ready_of s l (g.w * g.h + 1) ≡ true → (c : Result ℕ Refusal) → c ≡ count_of (length goals) → Stems s (F.several_of g s l start goals)
    counted ea (Err w) ec = stopped s refusal.Goals _ (L.several_count g s l start goals ea w ec)
    counted ea (Ok n) ec = started ea n ec (legal start) refl

    ready : (a : Bool) → ready_of s l (g.w * g.h + 1) ≡ a → Stems s (F.several_of g s l start goals)
    ready false ea = stopped s Setting _ (L.several_setting g s l start goals ea)
    ready true ea = counted ea (count_of (length goals)) refl

-- STATE, or the search
after_state : (s : Settings) (r : Reply) (b : Bool) → (b ≡ true → Stems s r) → Stems s (cond b r (refused refusal.State 0))
after_state s r true f = f refl
after_state s r false f = before refusal.State refl

-- five tables that are a grid have sides in range
held_sides : (w h : ℕ) (b e f p k : List ℕ) → held_of w h b e f p k ≡ true → Sides w h
unfolding held_of links_ok
held_sides w h b e f p k q =
    let a = and_true (links_ok w h p k) (covers_ok (w * h) b e f) q in
    sides_of_lem (and_true (sized_of w h) (leb (w * h) (length p) && (leb (w * h) (length k) && state_ok (w * h) p k)) a.0).0

-- LAW: THE CALLS
pub every_call : EveryCall
unfolding W.single_of W.several_of single_lent several_lent
every_call (single g s l approximate start goal) =
    after_state s (F.single_of (ground_of g) g.parent s l approximate start goal) (legal_of g) (λ e. single_stems (ground_of g) g.parent s l approximate start goal (of_legal_lem g e).sides)
every_call (several g s l start goals) = after_state s (F.several_of (ground_of g) s l start goals) (legal_of g) (λ e. several_stems (ground_of g) s l start goals (of_legal_lem g e).sides)
every_call (single_host g parents ranks s l approximate start goal) =
    after_state s (F.single_of g parents s l approximate start goal) (held_in g parents ranks)
    (λ e. single_stems g parents s l approximate start goal (held_sides g.w g.h g.blocked g.neighbours g.forced parents ranks e))
every_call (several_host g parents ranks s l start goals) =
    after_state s (F.several_of g s l start goals) (held_in g parents ranks)
    (λ e. several_stems g s l start goals (held_sides g.w g.h g.blocked g.neighbours g.forced parents ranks e))
every_call (single_inner g sides parents s l approximate start goal) = single_stems g parents s l approximate start goal sides
every_call (several_inner g sides s l start goals) = several_stems g s l start goals sides

-- ---- the pops and the cost of an answer

stems_pops : (s : Settings) (r : Reply) → Stems s r → pops_of r ≤ s.pops
stems_pops s r (before w e) = rw e zero-le
stems_pops s r (searched t p start l h q e) = rw (e, ← q) (every_reply t p start).pops

-- the cost of a reply, with the most that is left
stems_cost : (s : Settings) (i k m : ℕ) (u : State) → Stems s (found i k m u) → k < 2 ^ 31
stems_cost s i k m u (before w e) = let z : ◌≡◌ {A = ℕ} 0 1 = cc in absurd (omega arith)
stems_cost s i k m u (searched t p start l h q e) = omega (arith, (search_ended t p start l h i k m u e).low, edges_low p l)

route_pops : (n : ℕ) (o : Result Found Refusal) → (route_with n o).pops ≡ n
route_pops n (Ok f) = refl
route_pops n (Err w) = refl

answer_pops : (room : ℕ) (r : Reply) → (answer_of room r).pops ≡ pops_of r
unfolding answer_of
answer_pops room (found i k m u) = refl
answer_pops room (refused w m) = refl

-- LAW: THE POPS
pub pops_of_calls : PopsWithin
pops_of_calls c room =
    let l : pops_of (reply_to c) ≤ (settings_in c).pops = stems_pops (settings_in c) (reply_to c) (every_call c) in
    let a : (answer_of room (reply_to c)).pops ≤ (settings_in c).pops = omega (arith, l, answer_pops room (reply_to c)) in
    (a, omega (arith, a, route_pops (answer_of room (reply_to c)).pops (answer_of room (reply_to c)).outcome))

told_cost : (c k n : ℕ) (w : Result ℕ Refusal) → told_of c w ≡ Ok (found_of n k) → c ≡ k
told_cost c k n (Ok m) e = let z : found_of m c ≡ found_of n k = cc in ap (λ (x : Found). x.cost) z
told_cost c k n (Err w) e = let z : ◌≡◌ {A = ℕ} 0 1 = cc in absurd (omega arith)

answer_cost : (s : Settings) (room n k : ℕ) (r : Reply) → Stems s r → (answer_of room r).outcome ≡ Ok (found_of n k) → k < 2 ^ 31
unfolding answer_of
answer_cost s room n k (found i c m u) a e = rw (← told_cost c k n (wrote_of room (route_in u i)) e) (stems_cost s i c m u a)
answer_cost s room n k (refused w m) a e = let z : ◌≡◌ {A = ℕ} 0 1 = cc in absurd (omega arith)

route_cost : (n : ℕ) (o : Result Found Refusal) → ((m k : ℕ) → o ≡ Ok (found_of m k) → k < 2 ^ 31) → (route_with n o).cost < 2 ^ 31
route_cost n (Ok v) f = f v.length v.cost refl
route_cost n (Err w) f = omega arith

-- LAW: THE COST FOUND
pub cost_of_calls : FoundBelow
cost_of_calls c room =
    let f : (n k : ℕ) → (answer_of room (reply_to c)).outcome ≡ Ok (found_of n k) → k < 2 ^ 31 = λ n k e. answer_cost (settings_in c) room n k (reply_to c) (every_call c) e in
    (f, route_cost (answer_of room (reply_to c)).pops (answer_of room (reply_to c)).outcome f)

-- What the writer asks of the other parts: few pops, few waypoints, legal points, a low line. Assumes nothing.
use Rattle.std.specs.Prelude.{Option, Some, None, Result, Ok, Err}
use mathlib.Core.Path.{◌≡◌, refl, sym, ap, ◌∙◌, subst}
use mathlib.Core.Bool.{Bool, true, false, cond, true≢false}
use mathlib.Core.List.{List, [], ◌∷◌}
use Prim.Native.Nat.{ℕ, zero, suc, ◌+◌, ◌*◌, ◌/◌, ◌%◌, ◌≤◌, ◌<◌}
use native.Mathlib.Omega.{arith}
use borrow.Author.Tests.{ltb-false, eq-eqb}
use lib.Dec.{leb, ltb, eqb}
use lib.IntN.{ℤ}
use lib.ListN.{length, drop}
use Rattle.points.specs.Plane.{legal}
use Rattle.points.specs.Refusals.{told_of}
use Rattle.points.specs.declared.Point.{Point}
use Rattle.points.specs.declared.Refusal.{Refusal}
use Rattle.points.specs.declared.Refusal.TheVariants as refusal
use Rattle.goals.specs.declared.Plan.{Plan}
use Rattle.costs.specs.Limits.{most_pops}
use Rattle.offers.specs.Search.{State, Reply, found, refused, Expansion, Turn, hit, on, halt, going, turn_of, popped, run, search_of, begin, area_of}
use Rattle.fringe.specs.Fringe.{top}
use Rattle.expansion.specs.Start.{yield_of}
use Rattle.search.specs.Loop.{search_for, goal_of}
use Rattle.trails.specs.Trail.{wrote_of}
use Rattle.cells.specs.Cells.{most_side, cell_of}
use Rattle.plans.specs.Plans.{ready_of, barred_of}
use Rattle.finder.specs.Find as F
use Rattle.finder.specs.Find.{answer_of, told_of as wroteTold, started_of, started_in, route_in, pair_of, tables_of}
use Rattle.waypoints.specs.Waypoints as W
use Rattle.waypoints.specs.Waypoints.{ground_of}
use Rattle.grid.specs.Grids.{legal_of}
use Rattle.grid.specs.declared.Grid.{Grid}
use Rattle.pairs.specs.Pairs.{blamed_of, Even, first_bad}
use Rattle.text.specs.Grammar.{Num, Pair}
use Rattle.lines.specs.Lines.{point_line}
use Rattle.rows.specs.Rows.{bad_line, Rows, row_ok, rows_of}
use Rattle.maps.specs.Maps.{Head, Reading, size_line, flag_line, width_word, height_word, diagonal_word, start_word, goal_word, after_width, after_height, after_diagonal, after_start, after_goal, head_of, with_rows, with_head, most_text, map_of, cells_into}
use Rattle.maps.specs.declared.Header.{Header}
use Rattle.maps.proofs.Laws.{HBounded, head_fair, side_most}
use Rattle.checks.specs.declared.Checked.{Checked}
use Rattle.legs.specs.Legs.{first_bent_of}
use Rattle.checks.specs.Checks.{judged, clear_of, check_in, check_of}
use Rattle.floors.specs.Floors.{read_as, read_of}
use lib.Seq.{sets}
use Rattle.answers.specs.Answers.{bad_text}
use Rattle.grid.specs.Grids.{rebuild_outcome}
use Rattle.router.specs.Route.{settings_for, room, exact_of, Within, search_text, map_told, route_text}

-- ---- pops
abbrev pub pops_of : Reply → ℕ
pops_of (found i k n s) = n
pops_of (refused w n) = n

run_pops : (exp : Expansion) (goal : ℕ → Bool) (left pops : ℕ) (s : State) → pops_of (run exp goal left pops s) ≤ pops + left
unfolding run
run_pops exp goal zero pops s = by (leb s.size 0)
  where
    by : (b : Bool) → pops_of (cond b (refused refusal.Exhausted pops) (refused refusal.Pops pops)) ≤ pops + 0
    by true = omega arith
    by false = omega arith
run_pops exp goal (suc left) pops s = by (leb s.size 0) (turn_of exp goal (top s.heap) (popped s)) (run_pops exp goal left (pops + 1))
  where
    next : (x : Turn) → ((u : State) → pops_of (run exp goal left (pops + 1) u) ≤ pops + 1 + left) → pops_of (going x (run exp goal left (pops + 1)) (pops + 1)) ≤ pops + suc left
    next (hit i k u) f = omega arith
    next (on u) f = omega (arith, f u)
    next (halt w) f = omega arith

    by : (b : Bool) (x : Turn) → ((u : State) → pops_of (run exp goal left (pops + 1) u) ≤ pops + 1 + left) → pops_of (cond b (refused refusal.Exhausted pops) (going x (run exp goal left (pops + 1)) (pops + 1))) ≤ pops + suc left
    by true x f = omega arith
    by false x f = next x f

started_pops : (blocked neighbours forced : List ℕ) (goals : List ℤ) (p : Plan) → pops_of (started_of blocked neighbours forced goals p) ≤ p.settings.pops
unfolding started_of search_for search_of
started_pops blocked neighbours forced goals p =
    let t = tables_of (p.w * p.h) blocked neighbours forced goals in
    omega (arith, run_pops (yield_of t p) (goal_of t.goals p) p.settings.pops 0 (begin (area_of p + 1) (cell_of p.w p.h p.start)))

among : (a b c d e : Bool) (start goal : Point) (r : Reply) (m : ℕ) → pops_of r ≤ m
    → pops_of (cond a (cond b (cond c (cond d (cond e (refused refusal.NoRoute 0) r) (refused (refusal.BadPoint goal) 0)) (refused (refusal.BadPoint start) 0)) (refused refusal.Setting 0)) (refused refusal.State 0)) ≤ m
among true true true true true s g r m h = omega arith
among true true true true false s g r m h = h
among true true true false e s g r m h = omega arith
among true true false d e s g r m h = omega arith
among true false c d e s g r m h = omega arith
among false b c d e s g r m h = omega arith

exact_pops : (g : Grid) (diagonal : Bool) (start goal : Point) → pops_of (exact_of g diagonal start goal) ≤ most_pops
unfolding exact_of W.single_of F.single_of
exact_pops g diagonal start goal =
    let s = settings_for diagonal in
    among (legal_of g) (ready_of s room (g.width * g.height + 1)) (legal start) (legal goal) (barred_of g.width g.height g.parent diagonal false start goal) start goal
    (started_in (ground_of g) (pair_of goal) (F.single_plan g.width g.height s false start goal)) most_pops
    (started_pops g.blocked g.neighbours g.forced (pair_of goal) (F.single_plan g.width g.height s false start goal))

answer_pops : (n : ℕ) (r : Reply) → (answer_of n r).pops ≡ pops_of r
unfolding answer_of
answer_pops n (found i k m s) = refl
answer_pops n (refused w m) = refl

pub few_pops : (n : ℕ) (g : Grid) (diagonal : Bool) (start goal : Point) → (answer_of n (exact_of g diagonal start goal)).pops < 100000
few_pops n g diagonal start goal = omega (arith, answer_pops n (exact_of g diagonal start goal), exact_pops g diagonal start goal)

-- ---- waypoints
pub few_points : (n : ℕ) (r : Reply) → Within n (answer_of n r).outcome
unfolding answer_of wrote_of
few_points n (found i k m s) = by (ltb (n / 2) (length (route_in s i))) (ltb-false (n / 2) (length (route_in s i)))
  where
    by : (b : Bool) → (b ≡ false → length (route_in s i) ≤ n / 2) → Within n (wroteTold k (cond b (Err refusal.Room) (Ok (length (route_in s i)))))
    by true f = tt
    by false f = omega (arith, f refl)
few_points n (refused w m) = tt

-- ---- the points of a checked route are legal
abbrev pub Fine : List ℤ → Result Checked Refusal → Type 0
Fine l (Ok c) = Even (length l) × (first_bad l ≡ None)
Fine l (Err r) = Unit {0}

pub checked_fine : (g : Grid) (l : List ℤ) → Fine l (check_of g l)
unfolding check_of check_in
checked_fine g l = by (legal_of g) (eqb (length l) 0) (eqb (length l % 2) 1) even (first_bad l) (λ e. e) (judged (clear_of g.width g.height g.blocked l) (first_bent_of l))
  where
    even : eqb (length l % 2) 1 ≡ false → length l % 2 ≡ 0
    even e = let no_odd : length l % 2 ≡ 1 → ⊥ = λ h. true≢false (sym (eq-eqb (length l % 2) 1 h) ∙ e) in omega (arith, no_odd)

    by : (a b c : Bool) → (c ≡ false → length l % 2 ≡ 0) → (f : Option Point) → (f ≡ None → first_bad l ≡ None) → (v : Checked)
        → Fine l (cond a (cond b (Err refusal.List) (cond c (Err refusal.List) (blamed_of f (Ok v)))) (Err refusal.State))
    by true false false p None q v = (p refl, q refl)
    by true false false p (Some x) q v = tt
    by true false true p f q v = tt
    by true true c p f q v = tt
    by false b c p f q v = tt

-- ---- a refusal's number, and the line of a bad text
pub told_low : (r : Refusal) → (told_of r).number ≤ 14
told_low refusal.Size = omega arith
told_low refusal.State = omega arith
told_low refusal.Setting = omega arith
told_low refusal.NoRoute = omega arith
told_low refusal.Goals = omega arith
told_low refusal.Exhausted = omega arith
told_low refusal.Depth = omega arith
told_low refusal.Fringe = omega arith
told_low refusal.Pops = omega arith
told_low refusal.Room = omega arith
told_low (refusal.Same p) = omega arith
told_low (refusal.Map n) = omega arith
told_low refusal.List = omega arith
told_low (refusal.BadPoint p) = omega arith

abbrev RowsLow : ℕ → Rows → Type 0
RowsLow m (Ok u) = Unit {0}
RowsLow m (Err e) = e.line ≤ m

rows_low : (h w line : ℕ) (l : List ℕ) → RowsLow (line + h) (rows_of h w line l)
unfolding rows_of
rows_low zero w line [] = tt
rows_low zero w line (b ∷ l) = omega arith
rows_low (suc h) w line l = by (row_ok w l) (rows_of h w (line + 1) (drop (w + 5) l)) (rows_low h w (line + 1) (drop (w + 5) l))
  where
    wider : (r : Rows) → RowsLow (line + 1 + h) r → RowsLow (line + suc h) r
    wider (Ok u) q = tt
    wider (Err n) q = omega arith

    by : (b : Bool) (r : Rows) → RowsLow (line + 1 + h) r → RowsLow (line + suc h) (cond b r (Err (bad_line line)))
    by true r q = wider r q
    by false r q = omega arith

abbrev HeadLow : Head → Type 0
HeadLow (Ok (m, k)) = Unit {0}
HeadLow (Err e) = e.line ≤ 5

goal_low : (w h d : ℕ) (start : Point) (k : ℕ) (r : Pair) → HeadLow (after_goal w h d start k r)
goal_low w h d start k (Some (p, n)) = tt
goal_low w h d start k None = omega arith

start_low : (t : List ℕ) (w h d k : ℕ) (r : Pair) → HeadLow (after_start t w h d k r)
start_low t w h d k (Some (p, n)) = goal_low w h d p (k + n) (point_line goal_word (drop (k + n) t))
start_low t w h d k None = omega arith

diagonal_low : (t : List ℕ) (w h k : ℕ) (r : Num) → HeadLow (after_diagonal t w h k r)
diagonal_low t w h k (Some (d, n)) = start_low t w h d (k + n) (point_line start_word (drop (k + n) t))
diagonal_low t w h k None = omega arith

height_low : (t : List ℕ) (w k : ℕ) (r : Num) → HeadLow (after_height t w k r)
height_low t w k (Some (h, n)) = diagonal_low t w h (k + n) (flag_line diagonal_word (drop (k + n) t))
height_low t w k None = omega arith

head_low : (t : List ℕ) → HeadLow (head_of t)
unfolding head_of
head_low t = by (size_line width_word t)
  where
    by : (r : Num) → HeadLow (after_width t r)
    by (Some (w, n)) = height_low t w n (size_line height_word (drop n t))
    by None = omega arith

abbrev MapLow : Reading → Type 0
MapLow (Ok m) = Unit {0}
MapLow (Err e) = e.line ≤ 6 + most_side

map_low : (t : List ℕ) → MapLow (map_of t)
unfolding map_of
map_low t = by (ltb most_text (length t))
  where
    rows : (m : Header) → m.height ≤ most_side → (r : Rows) → RowsLow (6 + m.height) r → MapLow (with_rows m r)
    rows m h (Ok u) q = tt
    rows m h (Err n) q = omega arith

    head : (r : Head) → HBounded (length t) r → HeadLow r → MapLow (with_head t r)
    head (Ok (m, k)) b l = rows m (side_most m.height b.0.high) (rows_of m.height m.width 6 (drop k t)) (rows_low m.height m.width 6 (drop k t))
    head (Err n) b l = omega arith

    by : (b : Bool) → MapLow (cond b (Err (bad_line 0)) (with_head t (head_of t)))
    by true = omega arith
    by false = head (head_of t) (head_fair t) (head_low t)

pub line_low : (t : List ℕ) (r : Refusal) → (read_of t).outcome ≡ Err r → (told_of r).line ≤ 6 + most_side
unfolding read_of
line_low t r e = by (map_of t) (map_low t) e
  where
    by : (q : Reading) → MapLow q → (read_as (cells_into t Rattle.grid.specs.Grids.zeros) q).outcome ≡ Err r → (told_of r).line ≤ 6 + most_side
    by (Ok m) l f = cc
    by (Err n) l f = let e : refusal.Map n.line ≡ r = cc in subst (λ (x : Refusal). (told_of x).line ≤ 6 + most_side) e l

-- ---- the whole
pub by_text : (n : ℕ) (l new x y : List ℕ) → x ≡ y → (n ≡ length x) × (new ≡ sets l 0 x) → (n ≡ length y) × (new ≡ sets l 0 y)
by_text n l new x y e p = (p.0 ∙ ap length e, p.1 ∙ ap (sets l 0) e)

pub route_bad : (t : List ℕ) (r : Refusal) → (read_of t).outcome ≡ Err r → bad_text (told_of r).line ≡ route_text t
unfolding route_text
route_bad t r e = sym (ap (map_told (read_of t)) e)

pub route_done : (t : List ℕ) → {u : Unit} → (read_of t).outcome ≡ Ok u → search_text (rebuild_outcome (read_of t).grid (read_of t).diagonal).grid (read_of t).diagonal (read_of t).start (read_of t).goal ≡ route_text t
unfolding route_text
route_done t e = sym (ap (map_told (read_of t)) e)

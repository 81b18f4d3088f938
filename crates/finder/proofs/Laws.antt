-- The tests before a search: what each refuses, and what a search may rest on where they pass. Assumes nothing.
use mathlib.Core.Path.{◌≡◌, refl, ap, sym, ◌∙◌, subst}
use mathlib.Core.Bool.{Bool, true, false, cond, ◌&&◌}
use mathlib.Core.List.{List, [], ◌∷◌}
use Prim.Native.Nat.{ℕ, ◌+◌, ◌*◌, ◌/◌, ◌%◌, ◌≤◌}
use native.Mathlib.Nat.{le_refl}
use native.Mathlib.Omega.{arith}
use borrow.Author.Tests.{ltb-true, leb-true, eqb-false}
use lib.Dec.{T, eqb, ltb, leb}
use lib.IntN.{ℤ}
use mir.Syntax.{w32}
use mir.Val.{to_z, of_z}
use lib.ListN.{length}
use Rattle.points.specs.Plane.{legal}
use Rattle.points.specs.declared.Point.{Point}
use Rattle.points.specs.declared.Refusal.{Refusal}
use Rattle.points.specs.declared.Refusal.TheVariants.{Setting, NoRoute, BadPoint}
use Rattle.points.specs.declared.Refusal.TheVariants as refusal
use Rattle.points.proofs.Signed.{parts, read_in}
use Rattle.costs.specs.declared.Settings.{Settings}
use Rattle.costs.specs.Limits.{most_depth, most_pops, most_fringe, settings_ok}
use Rattle.costs.specs.Scale.{in_bounds}
use Rattle.goals.specs.declared.Goal.{Goal}
use Rattle.goals.specs.declared.Goal.TheVariants.{Several}
use Rattle.std.specs.Prelude.{Option, Some, None, Result, Ok, Err}
use Rattle.goals.specs.declared.Plan.{Plan}
use Rattle.pairs.specs.Pairs.{Even, first_bad}
use Rattle.goals.specs.Goals.{most_goals, count_of, Placed}
use Rattle.goals.proofs.Walks.{legals}
use Rattle.offers.specs.Search.{Reply, refused}
use Rattle.search.specs.Loop.{Legal}
use Rattle.components.proofs.Loops.{and_true}
use Rattle.cells.specs.Cells.{place_of, cell_of, Sides}
use Rattle.cells.proofs.Cell.{cell_lt}
use Rattle.cells.specs.Cells.{Sides}
use Rattle.plans.specs.declared.Lengths.{Lengths}
use Rattle.plans.specs.Plans.{ready_of, barred_of, plan_of, kind_of}
use Rattle.finder.specs.declared.Answer.{Answer}
use Rattle.finder.specs.Find.{Ground, Covered, Roomy, lent_ground, lengths_of, early, answer_of, out_after, started_of, started_in, pair_of, single_plan, single_of, several_plan, several_of}

-- a point's cell is a place
pub cell_of_le : (w h : ℕ) (q : Point) → cell_of w h q ≤ w * h
unfolding cell_of
cell_of_le w h q = by (ltb (place_of q.x w) w) (ltb (place_of q.y h) h) refl refl
  where
    by : (a b : Bool) → ltb (place_of q.x w) w ≡ a → ltb (place_of q.y h) h ≡ b → cond (a && b) (place_of q.y h * w + place_of q.x w) (w * h) ≤ w * h
    by true true e f = omega (arith, cell_lt w h (place_of q.x w) (place_of q.y h) (ltb-true _ _ e) (ltb-true _ _ f))
    by true false e f = le_refl (w * h)
    by false b e f = le_refl (w * h)

true_T : (b : Bool) → b ≡ true → T b
true_T b e = subst T (sym e) tt

-- a goal that was written as a pair, read back
abbrev pub read_pair : Point → List ℤ
read_pair q = to_z w32 (of_z w32 q.x) ∷ to_z w32 (of_z w32 q.y) ∷ []

pub pair_read : (q : Point) → legal q ≡ true → read_pair q ≡ pair_of q
pair_read q e = let p = parts q (true_T (legal q) e) in rw (read_in q.x p.0, read_in q.y p.1)

-- ---- refusals before searching

pub stopped : (w : Refusal) (a : Answer) (room : ℕ) (out : List ℤ) (p : Plan) (o : Reply) → a ≡ early w → refused w 0 ≡ o → (a ≡ answer_of room o) × (out ≡ out_after out p o)
unfolding answer_of out_after
stopped w a room out p o e q = (e ∙ ap (answer_of room) q, ap (out_after out p) q)

-- the answer of a search that the tests let pass
pub handed : (a : Answer) (room : ℕ) (out out' : List ℤ) (f : Plan → Reply) (p q : Plan) (o : Reply) → (a ≡ answer_of room (f p)) × (out' ≡ out_after out p (f p)) → p ≡ q → f q ≡ o → (a ≡ answer_of room o) × (out' ≡ out_after out q o)
handed a room out out' f p q o r e z = (
  r.0 ∙ ap (λ (x : Plan). answer_of room (f x)) e ∙ ap (answer_of room) z,
  r.1 ∙ ap (λ (x : Plan). out_after out x (f x)) e ∙ ap (out_after out q) z,
)

-- ---- SETTING

pub record Passed (s : Settings) (l : Lengths) (places : ℕ) : Type 0 where
  pub factor : T (in_bounds s.factor)
  pub depth : s.depth ≤ most_depth
  pub pops : s.pops ≤ most_pops
  pub fringe : 1 ≤ s.fringe
  pub number : places ≤ l.number
  pub place : places ≤ l.place
  pub parent : places ≤ l.parent
  pub cost : places ≤ l.cost
  pub keys : s.fringe ≤ l.keys
  pub idx : s.fringe ≤ l.idx

pub of_ready : (s : Settings) (l : Lengths) (places : ℕ) → ready_of s l places ≡ true → Passed s l places
unfolding ready_of
of_ready s l places e =
    let a = and_true (settings_ok s) _ e in
    let n = and_true (leb places l.number) _ a.1 in
    let p = and_true (leb places l.place) _ n.1 in
    let q = and_true (leb places l.parent) _ p.1 in
    let c = and_true (leb places l.cost) _ q.1 in
    let k = and_true (leb s.fringe l.keys) (leb s.fringe l.idx) c.1 in
    let f = and_true (in_bounds s.factor) _ a.0 in
    let d = and_true (leb s.depth most_depth) _ f.1 in
    let u = and_true (leb 1 s.pops) _ d.1 in
    let v = and_true (leb s.pops most_pops) _ u.1 in
    let w = and_true (leb 1 s.fringe) (leb s.fringe most_fringe) v.1 in
    record {
      factor = true_T (in_bounds s.factor) f.0;
      depth = leb-true s.depth most_depth d.0;
      pops = leb-true s.pops most_pops v.0;
      fringe = leb-true 1 s.fringe w.0;
      number = leb-true places l.number n.0;
      place = leb-true places l.place p.0;
      parent = leb-true places l.parent q.0;
      cost = leb-true places l.cost c.0;
      keys = leb-true s.fringe l.keys k.0;
      idx = leb-true s.fringe l.idx k.1;
    }

pub roomy : (s : Settings) (places : ℕ) (number place parent cost keys idx : List ℕ) → ready_of s (lengths_of number place parent cost keys idx) places ≡ true → Roomy places s.fringe number place parent cost keys idx
roomy s places number place parent cost keys idx e =
    let r = of_ready s (lengths_of number place parent cost keys idx) places e in
    record { number = r.number; place = r.place; parent = r.parent; cost = r.cost; keys = r.keys; idx = r.idx }

-- what a search asks of a plan, it asks of the same one
pub asked : (goals : List ℤ) (p q : Plan) (b e f number place parent cost keys idx : List ℕ) → p ≡ q → Legal goals q → Covered (q.w * q.h) b e f → Roomy (q.w * q.h + 1) q.settings.fringe number place parent cost keys idx → Legal goals p × (Covered (p.w * p.h) b e f × Roomy (p.w * p.h + 1) p.settings.fringe number place parent cost keys idx)
asked goals p q b e f number place parent cost keys idx same l c r = rw same (l, (c, r))

-- a plan whose tests passed is legal
module _ (w h : ℕ) (s : Settings) (l : Lengths) (start : Point) (sides : Sides w h) (e : ready_of s l (w * h + 1) ≡ true) (f : legal start ≡ true) where
  plan_legal : (goals : List ℤ) (k : Goal) → Placed goals k → Legal goals (plan_of w h s k start)
  plan_legal goals k a =
      let r = of_ready s l (w * h + 1) e in
      record {
        aimed = record { factor = r.factor; placed = a };
        marked = refl;
        sides = record { wide = sides.some; narrow = sides.wide; low = sides.high };
        start = true_T (legal start) f;
        depth = r.depth;
        pops = r.pops;
        fringe = r.fringe;
      }

  placed : (goal : Point) (b : Bool) → legal goal ≡ true → Placed (pair_of goal) (kind_of b goal)
  placed goal true g = true_T (legal goal) g
  placed goal false g = true_T (legal goal) g

  pub single_legal : (approximate : Bool) (goal : Point) → legal goal ≡ true → Legal (pair_of goal) (single_plan w h s approximate start goal)
  single_legal approximate goal g = plan_legal (pair_of goal) (kind_of approximate goal) (placed goal approximate g)

  pub several_legal : (goals : List ℤ) (n : ℕ) → 1 ≤ n → 2 * n ≤ length goals → None ≡ first_bad goals → Legal goals (plan_of w h s (Several n) start)
  several_legal goals n a b c = plan_legal goals (Several n) (a, legals goals n b c)

-- ---- the single-goal search, test by test

module _ (g : Ground) (links : List ℕ) (s : Settings) (l : Lengths) (approximate : Bool) (start goal : Point) where
  pub single_setting : ready_of s l (g.w * g.h + 1) ≡ false → refused Setting 0 ≡ single_of g links s l approximate start goal
  unfolding single_of
  single_setting e = rw e

  module _ (a : ready_of s l (g.w * g.h + 1) ≡ true) where
    pub single_start : legal start ≡ false → refused (BadPoint start) 0 ≡ single_of g links s l approximate start goal
    unfolding single_of
    single_start e = rw (a, e)

    module _ (b : legal start ≡ true) where
      pub single_goal : legal goal ≡ false → refused (BadPoint goal) 0 ≡ single_of g links s l approximate start goal
      unfolding single_of
      single_goal e = rw (a, b, e)

      module _ (c : legal goal ≡ true) where
        pub single_barred : barred_of g.w g.h links s.diagonal approximate start goal ≡ true → refused NoRoute 0 ≡ single_of g links s l approximate start goal
        unfolding single_of
        single_barred e = rw (a, b, c, e)

        pub single_open : barred_of g.w g.h links s.diagonal approximate start goal ≡ false → started_in g (pair_of goal) (single_plan g.w g.h s approximate start goal) ≡ single_of g links s l approximate start goal
        unfolding single_of
        single_open e = rw (a, b, c, e)

-- past all its tests a single-goal search may be made, and what that answers is its answer
module _ (w h : ℕ) (b e f links : List ℕ) (s : Settings) (number place parent cost keys idx : List ℕ) (approximate : Bool) (start goal : Point) (ready : ready_of s (lengths_of number place parent cost keys idx) (w * h + 1) ≡ true) (from : legal start ≡ true) (to : legal goal ≡ true) (k : Goal) (p : Plan) (kind : k ≡ kind_of approximate goal) (same : p ≡ plan_of w h s k start) where
  pub single_asked : Sides w h → Covered (w * h) b e f → Legal (read_pair goal) p × (Covered (p.w * p.h) b e f × Roomy (p.w * p.h + 1) p.settings.fringe number place parent cost keys idx)
  single_asked sides covered =
      let l : Legal (read_pair goal) (plan_of w h s k start) = rw (pair_read goal to, kind) (single_legal w h s (lengths_of number place parent cost keys idx) start sides ready from approximate goal to) in
      asked (read_pair goal) p (plan_of w h s k start) b e f number place parent cost keys idx same l covered (roomy s (w * h + 1) number place parent cost keys idx ready)

  pub single_answer : (a : Answer) (room : ℕ) (out out' : List ℤ) → barred_of w h links s.diagonal approximate start goal ≡ false → (a ≡ answer_of room (started_of b e f (read_pair goal) p)) × (out' ≡ out_after out p (started_of b e f (read_pair goal) p))
      → (a ≡ answer_of room (single_of (lent_ground w h b e f) links s (lengths_of number place parent cost keys idx) approximate start goal)) × (out' ≡ out_after out (single_plan w h s approximate start goal) (single_of (lent_ground w h b e f) links s (lengths_of number place parent cost keys idx) approximate start goal))
  single_answer a room out out' joined r =
      handed a room out out' (started_of b e f (read_pair goal)) p (single_plan w h s approximate start goal) (single_of (lent_ground w h b e f) links s (lengths_of number place parent cost keys idx) approximate start goal) r
      (same ∙ ap (λ (x : Goal). plan_of w h s x start) kind)
      (ap (λ (x : List ℤ). started_of b e f x (single_plan w h s approximate start goal)) (pair_read goal to) ∙ single_open (lent_ground w h b e f) links s (lengths_of number place parent cost keys idx) approximate start goal ready from to joined)

-- ---- the multiple-goal search, test by test

never_listed : {P : Type 0} (w : Refusal) (k : ℕ) → ◌≡◌ {A = Result ℕ Refusal} (Err w) (Ok k) → P
never_listed w k e = let z : ◌≡◌ {A = ℕ} 0 1 = cc in absurd (omega arith)

counted : (a b c : Bool) (w : Refusal) (k n : ℕ) → ◌≡◌ {A = Result ℕ Refusal} (cond a (Err w) (cond b (Err w) (cond c (Err w) (Ok k)))) (Ok n) → (a ≡ false) × ((b ≡ false) × (k ≡ n))
counted true b c w k n e = never_listed w n e
counted false true c w k n e = never_listed w n e
counted false false true w k n e = never_listed w n e
counted false false false w k n e = let z : k ≡ n = cc in (refl, (refl, z))

-- a list that is not refused has half as many goals as numbers, and at least one
pub count_is : (m n : ℕ) → Ok n ≡ count_of m → (n ≡ m / 2) × ((1 ≤ n) × (2 * n ≤ m))
count_is m n e =
    let r = counted (eqb m 0) (eqb (m % 2) 1) (ltb most_goals (m / 2)) refusal.Goals (m / 2) n (sym e) in
    let a = eqb-false m 0 r.0 in
    let b = eqb-false (m % 2) 1 r.1.0 in
    (omega (arith, r.1.1), (omega (arith, r.1.1, a, b), omega (arith, r.1.1)))

-- and both numbers of each
pub count_even : (m n : ℕ) → Ok n ≡ count_of m → Even m
count_even m n e =
    let r = counted (eqb m 0) (eqb (m % 2) 1) (ltb most_goals (m / 2)) refusal.Goals (m / 2) n (sym e) in
    omega (arith, eqb-false (m % 2) 1 r.1.0)

module _ (g : Ground) (s : Settings) (l : Lengths) (start : Point) (goals : List ℤ) where
  pub several_setting : ready_of s l (g.w * g.h + 1) ≡ false → refused Setting 0 ≡ several_of g s l start goals
  unfolding several_of
  several_setting e = rw e

  module _ (a : ready_of s l (g.w * g.h + 1) ≡ true) where
    pub several_count : (w : Refusal) → Err w ≡ count_of (length goals) → refused refusal.Goals 0 ≡ several_of g s l start goals
    unfolding several_of
    several_count w e = rw (a, ← e)

    module _ (n : ℕ) (c : Ok n ≡ count_of (length goals)) where
      pub several_start : legal start ≡ false → refused (BadPoint start) 0 ≡ several_of g s l start goals
      unfolding several_of
      several_start e = rw (a, ← c, e)

      module _ (b : legal start ≡ true) where
        pub several_goals : (q : Point) → Some q ≡ first_bad goals → refused (BadPoint q) 0 ≡ several_of g s l start goals
        unfolding several_of
        several_goals q e = rw (a, ← c, b, ← e)

        pub several_open : None ≡ first_bad goals → started_in g goals (several_plan g.w g.h s start goals) ≡ several_of g s l start goals
        unfolding several_of
        several_open e = rw (a, ← c, b, ← e)

-- past all its tests a multiple-goal search may be made, and what that answers is its answer
module _ (w h : ℕ) (b e f : List ℕ) (s : Settings) (number place parent cost keys idx : List ℕ) (start : Point) (goals : List ℤ) (ready : ready_of s (lengths_of number place parent cost keys idx) (w * h + 1) ≡ true) (n : ℕ) (count : Ok n ≡ count_of (length goals)) (from : legal start ≡ true) (to : None ≡ first_bad goals) (p : Plan) (same : p ≡ plan_of w h s (Several n) start) where
  pub several_asked : Sides w h → Covered (w * h) b e f → Legal goals p × (Covered (p.w * p.h) b e f × Roomy (p.w * p.h + 1) p.settings.fringe number place parent cost keys idx)
  several_asked sides covered =
      let c = count_is (length goals) n count in
      asked goals p (plan_of w h s (Several n) start) b e f number place parent cost keys idx same (several_legal w h s (lengths_of number place parent cost keys idx) start sides ready from goals n c.1.0 c.1.1 to) covered (roomy s (w * h + 1) number place parent cost keys idx ready)

  pub several_answer : (a : Answer) (room : ℕ) (out out' : List ℤ) → (a ≡ answer_of room (started_of b e f goals p)) × (out' ≡ out_after out p (started_of b e f goals p))
      → (a ≡ answer_of room (several_of (lent_ground w h b e f) s (lengths_of number place parent cost keys idx) start goals)) × (out' ≡ out_after out (several_plan w h s start goals) (several_of (lent_ground w h b e f) s (lengths_of number place parent cost keys idx) start goals))
  several_answer a room out out' r =
      handed a room out out' (started_of b e f goals) p (several_plan w h s start goals) (several_of (lent_ground w h b e f) s (lengths_of number place parent cost keys idx) start goals) r
      (same ∙ ap (λ (x : ℕ). plan_of w h s (Several x) start) (count_is (length goals) n count).0)
      (several_open (lent_ground w h b e f) s (lengths_of number place parent cost keys idx) start goals ready n count from to)

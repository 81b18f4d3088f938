-- The state of a search, what offering a successor does to it, and the search's loop over any expansion.
-- Assumes nothing.
use Rattle.std.specs.Prelude.{◌≡◌, Bool, cond, List, [], Result, Ok, Err, ℕ, zero, suc, ◌+◌, ◌-◌, ◌*◌, ◌<◌, ◌≤◌, ℤ, length, get_or, take, replicate, eqb, ltb, leb}
use Rattle.std.specs.Borrow.{MutBor}
use Rattle.points.specs.declared.Point.{Point}
use Rattle.points.specs.declared.Refusal.{Refusal}
use Rattle.points.specs.declared.Refusal.TheVariants.{Exhausted, Fringe, Pops}
use Rattle.goals.specs.declared.Plan.{Plan}
use Rattle.goals.specs.Goals.{most_side, point_of, guess_of, Aimed}
use Rattle.sifts.specs.declared.Entry.{Entry}
use Rattle.sifts.specs.Sifts.{entry, entries}
use Rattle.fringe.specs.Fringe.{push, top, rest}
use Rattle.keys.specs.Keys.{key_of, cost_of}
use Rattle.fringe.specs.Order.{Each, Ordered}
use Rattle.keys.specs.Order.{Packed}
use Rattle.nodes.specs.Nodes.{Nodes, Note, nodes, note_of, Sound, Later}
use Rattle.nodes.specs.Bound.{times, Hist, places_of}
use Rattle.offers.specs.declared.Work.{Work}

-- ---- places: the cells, and one more for an outside start

abbrev pub most_places : ℕ
most_places = places_of most_side

-- how many cells there are; as a place it is that of an outside start
unfoldable pub area_of : Plan → ℕ
area_of p = p.h * p.w

-- the point of a place
unfoldable pub place_point : Plan → ℕ → Point
place_point p c = cond (eqb c (area_of p)) p.start (point_of p.w c)

-- the guess at the cost from a cell to a goal
unfoldable pub guess_at : List ℤ → Plan → ℕ → ℕ
guess_at goals p c = guess_of goals p (point_of p.w c)

-- sides that a grid may have
pub record Sides (p : Plan) : Type 0 where
  pub wide : 0 < p.w
  pub narrow : p.w ≤ most_side
  pub low : p.h ≤ most_side

-- ---- the state

-- the nodes, the fringe and how many entries it has
pub record State : Type 0 where
  pub nodes : Nodes
  pub heap : List Entry
  pub size : ℕ

abbrev pub state : Nodes → List Entry → ℕ → State
state s l n = record { nodes = s; heap = l; size = n }

-- the state that a room holds
abbrev pub view : Work → State
view r =
    state (nodes r.number.now r.place.now r.parent.now r.cost.now r.count) (take r.heap (entries r.keys.now r.idx.now)) r.heap

-- a state, or a refusal
pub data Out : Type 0 where
  ok : State → Out
  no : Refusal → Out

-- what a step's answer and the room come to
abbrev pub out_of : Result Unit Refusal → Work → Out
out_of (Ok _) r = ok (view r)
out_of (Err w) r = no w

-- what comes next, unless there was a refusal
abbrev pub onward : Out → (State → Out) → Out
onward (ok s) g = g s
onward (no w) g = no w

-- ---- one successor

-- pushed with its estimate if it was recorded
abbrev pub offered : ℕ → ℕ → ℕ → List Entry → ℕ → Note → Out
offered limit h k heap n r =
    cond r.kept
    (cond (ltb n limit) (ok (state r.nodes (push heap (entry (key_of (k + h) h) r.index)) (n + 1))) (no Fringe))
    (ok (state r.nodes heap n))

-- a successor is recorded with its cost and the popped cell as parent, and pushed, if new or strictly cheaper
unfoldable pub offer_of : ℕ → ℕ → ℕ → ℕ → ℕ → State → Out
offer_of limit h from c k s = offered limit h k s.heap s.size (note_of c from k s.nodes)

-- several things in order, from number d on
unfoldable pub each : (ℕ → State → Out) → ℕ → ℕ → State → Out
each f zero d s = ok s
each f (suc j) d s = onward (f d s) (each f j (d + 1))

-- ---- the search over any expansion

-- what expanding the node i at the cost k does to the state
abbrev pub Expansion : Type 0
Expansion = ℕ → ℕ → State → Out

-- the answer: the popped goal's node and cost with the pops and the state, or a refusal with the pops
pub data Reply : Type 0 where
  found : ℕ → ℕ → ℕ → State → Reply
  refused : Refusal → ℕ → Reply

-- a popped cost above the recorded one is skipped
unfoldable pub visit_of : Expansion → Expansion
visit_of exp i k s = cond (ltb (get_or s.nodes.cost i 0) k) (ok s) (exp i k s)

-- the state without its top entry
abbrev pub popped : State → State
popped s = state s.nodes (rest s.heap) (s.size - 1)

-- what one pop comes to: a popped goal with its cost, a state to go on from, or a refusal
pub data Turn : Type 0 where
  hit : ℕ → ℕ → State → Turn
  on : State → Turn
  halt : Refusal → Turn

abbrev pub to_turn : Out → Turn
to_turn (ok s) = on s
to_turn (no w) = halt w

-- one pop: a popped goal ends the search. e is the entry, s the state without it; goal tests a place
unfoldable pub turn_of : Expansion → (ℕ → Bool) → Entry → State → Turn
turn_of exp goal e s =
    cond (goal (get_or s.nodes.place e.index 0)) (hit e.index (cost_of e.key) s)
    (to_turn (visit_of exp e.index (cost_of e.key) s))

abbrev pub going : Turn → (State → Reply) → ℕ → Reply
going (hit i k s) next pops = found i k pops s
going (on s) next pops = next s
going (halt w) next pops = refused w pops

-- the loop: `left` more pops are allowed
unfoldable pub run : Expansion → (ℕ → Bool) → ℕ → ℕ → State → Reply
run exp goal zero pops s = cond (leb s.size 0) (refused Exhausted pops) (refused Pops pops)
run exp goal (suc left) pops s =
    cond (leb s.size 0) (refused Exhausted pops)
    (going (turn_of exp goal (top s.heap) (popped s)) (run exp goal left (pops + 1)) (pops + 1))

-- n places and no node
unfoldable pub none : ℕ → Nodes
none n = record { number = replicate n 0; place = []; parent = []; cost = []; count = 0 }

-- where it starts: the start's place is the only node, and has estimate 0
unfoldable pub begin : ℕ → ℕ → State
begin n start = state (note_of start 0 0 (none n)).nodes (push [] (entry (key_of 0 0) 0)) 1

-- the search over n places from the start's place, with at most `pops` pops
unfoldable pub search_of : Expansion → (ℕ → Bool) → ℕ → ℕ → ℕ → Reply
search_of exp goal pops n start = run exp goal pops 0 (begin n start)

-- ---- what holds of states

-- whatever the costs: the nodes are sound, and the fringe is within its limit
pub record Fit (limit : ℕ) (s : State) : Type 0 where
  pub sound : Sound s.nodes
  pub sized : length s.heap ≡ s.size
  pub room : s.size ≤ limit

-- what the code asks of the room
pub record Lent (goals : List ℤ) (p : Plan) (r : Work) : Type 0 where
  pub aimed : Aimed goals p
  pub sides : Sides p
  pub floor : length r.number.now ≡ area_of p + 1
  pub place_long : length r.number.now ≤ length r.place.now
  pub parent_long : length r.number.now ≤ length r.parent.now
  pub cost_long : length r.number.now ≤ length r.cost.now
  pub keys_long : p.settings.fringe ≤ length r.keys.now
  pub idx_long : p.settings.fringe ≤ length r.idx.now
  pub counted : r.count ≤ length r.number.now
  pub fit : Fit p.settings.fringe (view r)

-- the same slice, with the same length
abbrev pub Same : MutBor (List ℕ) → MutBor (List ℕ) → Type 0
Same a b = (b.ghost_name ≡ a.ghost_name) × (length b.now ≡ length a.now)

-- a room keeps the slices that it was lent
pub record Stays (r s : Work) : Type 0 where
  pub number : Same r.number s.number
  pub place : Same r.place s.place
  pub parent : Same r.parent s.parent
  pub cost : Same r.cost s.cost
  pub keys : Same r.keys s.keys
  pub idx : Same r.idx s.idx

-- an entry of the fringe: of a node, at a cost that is bounded and at least the recorded one
pub record Queued (bound : ℕ) (s : Nodes) (e : Entry) : Type 0 where
  pub known : e.index < length s.place
  pub low : cost_of e.key ≤ bound
  pub above : get_or s.cost e.index 0 ≤ cost_of e.key
  pub packed : Packed e

-- a node but the start has a parent that costs less
pub record Rising (s : Nodes) (p k : ℕ) : Type 0 where
  pub known : p < length s.place
  pub less : get_or s.cost p 0 < k

-- n places, fringe entries up to the limit, edges up to `edge`, cells below `area`
pub record Good (n limit edge area : ℕ) (s : State) : Type 0 where
  pub fit : Fit limit s
  pub floor : length s.nodes.number ≡ n
  pub started : 0 < length s.nodes.place
  pub past : (i : ℕ) → i < length s.nodes.place → Hist edge (get_or s.nodes.cost i 0) s.nodes
  pub rising : (i : ℕ) → i < length s.nodes.place → 0 < i → Rising s.nodes (get_or s.nodes.parent i 0) (get_or s.nodes.cost i 0)
  pub landed : (i : ℕ) → i < length s.nodes.place → 0 < i → get_or s.nodes.place i 0 < area
  pub ordered : Ordered s.heap
  pub queued : Each (Queued (times edge n) s.nodes) s.heap

-- t is a good state that comes after s
pub record Next (n limit edge area : ℕ) (s t : State) : Type 0 where
  pub good : Good n limit edge area t
  pub later : Later s.nodes t.nodes

-- a found goal is a node of a good state, popped at a cost that is bounded
pub record Ended (n limit edge area i k : ℕ) (t : State) : Type 0 where
  pub good : Good n limit edge area t
  pub known : i < length t.nodes.place
  pub low : k ≤ times edge n

-- an expansion that keeps good states good
abbrev pub Keeps : ℕ → ℕ → ℕ → ℕ → Expansion → Type 0
Keeps n limit edge area exp =
    (i k : ℕ) (s t : State) → Good n limit edge area s → i < length s.nodes.place → get_or s.nodes.cost i 0 ≡ k → exp i k s ≡ ok t → Next n limit edge area s t

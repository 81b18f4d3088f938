-- The calls on tables that the host lends: the tests before each, what it answers, and what it leaves in them. Assumes nothing: these are definitions.
use Rattle.std.specs.Prelude.{Bool, not, cond, ◌&&◌, List, ℕ, ◌+◌, ◌*◌, ◌%◌, ltb, leb, length, get_or}
use Rattle.std.specs.declared.result.Result.{Result}
use Rattle.std.specs.declared.result.Result.TheVariants.{Ok, Err}
use Rattle.points.specs.Plane.{legal}
use Rattle.points.specs.Refusals.{told_of}
use Rattle.points.specs.declared.Point.{Point}
use Rattle.points.specs.declared.Refusal.{Refusal}
use Rattle.points.specs.declared.Refusal.TheVariants.{Size, State, BadPoint}
use Rattle.masks.specs.Masks.{pruned_in}
use Rattle.components.specs.Components.{Links, root_of}
use Rattle.states.specs.States.{state_ok}
use Rattle.cells.specs.Cells.{sized_of, place_of, cell_of}
use Rattle.rebuilds.specs.Rebuilds.{rebuilt_links}
use Rattle.tables.specs.Tables.{Tables, new_of, edit_of}
use Rattle.packing.specs.Packing.{flag_of, refused_as, mark_of}
use Rattle.questions.specs.Questions.{reachable_of, neighbours_reachable_of, neighbours_unreachable_of}

-- ---- the tests

-- sides in range, a place for each cell in both tables, and a legal state
unfoldable pub links_ok : ℕ → ℕ → List ℕ → List ℕ → Bool
links_ok w h p k = sized_of w h && (leb (w * h) (length p) && (leb (w * h) (length k) && state_ok (w * h) p k))

-- the same, and a place for each cell in one more table: STATE of a call that reads or changes no other
unfoldable pub ground_ok : ℕ → ℕ → List ℕ → List ℕ → List ℕ → Bool
ground_ok w h b p k = links_ok w h p k && leb (w * h) (length b)

-- a place for each of n cells
unfoldable pub covers_ok : ℕ → List ℕ → List ℕ → List ℕ → Bool
covers_ok n b e f = leb n (length b) && (leb n (length e) && leb n (length f))

-- five tables that are a grid: STATE is refused exactly where they are not
unfoldable pub held_of : ℕ → ℕ → List ℕ → List ℕ → List ℕ → List ℕ → List ℕ → Bool
held_of w h b e f p k = links_ok w h p k && covers_ok (w * h) b e f

-- five tables with a place for each of n cells
unfoldable pub roomy_of : ℕ → List ℕ → List ℕ → List ℕ → List ℕ → List ℕ → Bool
roomy_of n b e f p k = leb n (length p) && (leb n (length k) && covers_ok n b e f)

-- ---- calls that change tables

abbrev pub tables : Bool → List ℕ → List ℕ → List ℕ → List ℕ → List ℕ → Tables
tables dirty b e f p k = record { blocked = b; masks = e; forced = f; parent = p; rank = k; dirty = dirty }

-- an answer, and what stands in the tables
pub record Left : Type 0 where
  pub answer : ℕ
  pub blocked : List ℕ
  pub masks : List ℕ
  pub forced : List ℕ
  pub parent : List ℕ
  pub rank : List ℕ

abbrev pub left : ℕ → List ℕ → List ℕ → List ℕ → List ℕ → List ℕ → Left
left a b e f p k = record { answer = a; blocked = b; masks = e; forced = f; parent = p; rank = k }

abbrev pub left_in : ℕ → Tables → Left
left_in a t = left a t.blocked t.masks t.forced t.parent t.rank

-- the tables after a change, whose answer is the mark afterwards
abbrev pub marked : Tables → Left
marked t = left_in (mark_of t.dirty) t

-- `new`: SIZE, then STATE where a table is too short; a refusal changes nothing
unfoldable pub new_lent : ℕ → ℕ → Tables → Left
new_lent w h t =
    cond (sized_of w h)
    (cond (roomy_of (w * h) t.blocked t.masks t.forced t.parent t.rank) (marked (new_of w h t)) (left_in (refused_as State) t))
    (left_in (refused_as Size) t)

-- `set`: STATE, then POINT for a point that is no cell, then the edit
unfoldable pub set_lent : ℕ → ℕ → Bool → Tables → Point → Bool → Left
set_lent w h diagonal t q b =
    cond (held_of w h t.blocked t.masks t.forced t.parent t.rank)
    (cond (ltb (cell_of w h q) (w * h)) (marked (edit_of w h diagonal t (place_of q.x w) (place_of q.y h) b)) (left_in (refused_as (BadPoint q)) t))
    (left_in (refused_as State) t)

-- an answer, and what stands in parents and ranks
pub record LeftLinks : Type 0 where
  pub answer : ℕ
  pub parent : List ℕ
  pub rank : List ℕ

abbrev pub left_links : ℕ → List ℕ → List ℕ → LeftLinks
left_links a p k = record { answer = a; parent = p; rank = k }

abbrev pub with_links : ℕ → Links → LeftLinks
with_links a u = left_links a u.parent u.rank

-- `generate_components`: STATE, then the rebuild; the mark is cleared
unfoldable pub rebuild_lent : ℕ → ℕ → Bool → List ℕ → List ℕ → List ℕ → LeftLinks
rebuild_lent w h diagonal b p k = cond (ground_ok w h b p k) (with_links 0 (rebuilt_links w h diagonal b p k)) (left_links (refused_as State) p k)

-- `update`: STATE, then a rebuild if dirty
unfoldable pub update_lent : ℕ → ℕ → Bool → Bool → List ℕ → List ℕ → List ℕ → LeftLinks
update_lent w h diagonal dirty b p k =
    cond (ground_ok w h b p k)
    (with_links 0 (cond dirty (rebuilt_links w h diagonal b p k) (record { parent = p; rank = k })))
    (left_links (refused_as State) p k)

-- ---- questions

-- `get_component`: STATE, POINT, then the root
unfoldable pub component_lent : ℕ → ℕ → List ℕ → List ℕ → Point → ℕ
component_lent w h p k q =
    cond (links_ok w h p k) (cond (ltb (cell_of w h q) (w * h)) (root_of p (cell_of w h q)) (refused_as (BadPoint q))) (refused_as State)

-- POINT for a point that is no cell; else its cell
abbrev pub inside_of : ℕ → ℕ → Point → Result ℕ Refusal
inside_of w h q = cond (ltb (cell_of w h q) (w * h)) (Ok (cell_of w h q)) (Err (BadPoint q))

-- STATE, then POINT for a point that is no cell; else its cell
unfoldable pub located_of : ℕ → ℕ → List ℕ → List ℕ → List ℕ → Point → Result ℕ Refusal
located_of w h e p k q = cond (ground_ok w h e p k) (inside_of w h q) (Err State)

-- a refusal, or the answer f of a cell
abbrev pub after : Result ℕ Refusal → (ℕ → ℕ) → ℕ
after (Ok i) f = f i
after (Err r) f = refused_as r

-- whether the cell is blocked
unfoldable pub blocked_lent : ℕ → ℕ → List ℕ → List ℕ → List ℕ → Point → ℕ
blocked_lent w h b p k q = after (located_of w h b p k q) (λ i. mark_of (flag_of (get_or b i 0)))

-- the mask that a table holds of a cell, and the pruned mask for travel d, read modulo 8
unfoldable pub mask_lent : ℕ → ℕ → List ℕ → List ℕ → List ℕ → Point → ℕ
mask_lent w h e p k q = after (located_of w h e p k q) (λ i. get_or e i 0)

unfoldable pub pruned_lent : ℕ → ℕ → Bool → List ℕ → List ℕ → List ℕ → Point → ℕ → ℕ
pruned_lent w h diagonal e p k q d = after (located_of w h e p k q) (λ i. pruned_in diagonal (d % 8) (get_or e i 0))

-- STATE, then POINT for coordinates out of range, with 256 more for the start and 512 more for the goal, as they are answered; else the two cells
unfoldable pub asked_of : ℕ → ℕ → List ℕ → List ℕ → Point → Point → Result (ℕ × ℕ) ℕ
asked_of w h p k start goal =
    cond (links_ok w h p k)
    (cond (legal start)
    (cond (legal goal) (Ok (cell_of w h start, cell_of w h goal)) (Err (4294967296 * ((told_of (BadPoint goal)).number + 512))))
    (Err (4294967296 * ((told_of (BadPoint start)).number + 256))))
    (Err (refused_as State))

-- a refusal, or yes and no by f of the two cells
abbrev pub told : Result (ℕ × ℕ) ℕ → (ℕ → ℕ → Bool) → ℕ
told (Ok (a, c)) f = mark_of (f a c)
told (Err n) f = n

unfoldable pub reachable_lent : ℕ → ℕ → List ℕ → List ℕ → Point → Point → ℕ
reachable_lent w h p k start goal = told (asked_of w h p k start goal) (λ a c. reachable_of (w * h) p a c)

unfoldable pub unreachable_lent : ℕ → ℕ → List ℕ → List ℕ → Point → Point → ℕ
unreachable_lent w h p k start goal = told (asked_of w h p k start goal) (λ a c. not (reachable_of (w * h) p a c))

unfoldable pub near_lent : ℕ → ℕ → Bool → List ℕ → List ℕ → Point → Point → ℕ
near_lent w h diagonal p k start goal = told (asked_of w h p k start goal) (λ a c. neighbours_reachable_of w h diagonal p a c)

unfoldable pub far_lent : ℕ → ℕ → Bool → List ℕ → List ℕ → Point → Point → ℕ
far_lent w h diagonal p k start goal = told (asked_of w h p k start goal) (λ a c. neighbours_unreachable_of w h diagonal p a c)

-- A successor is recorded at its own cell. Assumes nothing.
use mathlib.Core.Path.{◌≡◌, refl}
use mathlib.Core.List.{[]}
use Prim.Native.Nat.{ℕ, ◌-◌}
use native.Mathlib.Omega.{arith}
use borrow.Author.Tests.{eq-eqb, ne_eqb, lt-ltb, le-ltb}
use lib.ListN.{length, get_or}
use lib.Seq.{get_or_at}
use Rattle.nodes.specs.Nodes.{Nodes, note_of, added, lowered, Sound}
use Rattle.nodes.proofs.Laws.{by_eq, by-lt}

-- LAW: the place of a successor's node is the successor's cell
pub note_place : (c p k : ℕ) (s : Nodes) → Sound s → get_or (note_of c p k s).nodes.place (note_of c p k s).index 0 ≡ c
unfolding note_of added lowered
note_place c p k s d =
    by_eq (get_or s.number c 0) 0
    (λ z. rw (eq-eqb (get_or s.number c 0) 0 z) (get_or_at s.place c [] 0 (length s.place) refl))
    (λ z.
    let here : get_or s.place (get_or s.number c 0 - 1) 0 ≡ c = d.back c (get_or s.number c 0 - 1) (omega arith) in
    by-lt k (get_or s.cost (get_or s.number c 0 - 1) 0)
    (λ l. rw (ne_eqb (get_or s.number c 0) 0 z, lt-ltb k (get_or s.cost (get_or s.number c 0 - 1) 0) l) here)
    (λ l. rw (ne_eqb (get_or s.number c 0) 0 z, le-ltb k (get_or s.cost (get_or s.number c 0 - 1) 0) l) here))

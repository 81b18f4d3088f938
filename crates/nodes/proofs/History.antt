-- The history of a recorded cost meets no node twice, so a cost is at most an edge for each place. Assumes nothing.
use mathlib.Core.Path.{◌≡◌, ap, sym, ◌∙◌, subst}
use mathlib.Core.Bool.{true}
use Prim.Native.Nat.{ℕ, zero, suc, ◌+◌, ◌-◌, ◌*◌, ◌^◌, ◌<◌, ◌≤◌}
use native.Mathlib.Nat.{le_refl, le_trans, le_of_eq, zero-mul, suc-mul, mul-le-mul}
use lib.Dec.{lit<}
use native.Mathlib.Omega.{arith}
use lib.ListN.{length, get_or, set, length-set}
use lib.Seq.{get_or-set_other}
use Rattle.nodes.specs.Nodes.{Nodes, note_of, filled, Sound, Later}
use Rattle.nodes.specs.Bound.{times, Hist, edge_of, places_of}
use Rattle.nodes.proofs.Laws.{by_eq, by-lt, filled_le, filled_set, took, Took}

pub times_le : (edge a b : ℕ) → a ≤ b → times edge a ≤ times edge b
unfolding times
times_le edge a zero h = let z : a ≡ 0 = omega arith in rw z (le_refl 0)
times_le edge a (suc b) h =
    by-lt a (suc b)
    (λ l. omega (arith, times_le edge a b (omega arith)))
    (λ l. let z : a ≡ suc b = omega arith in rw z (le_refl (times edge b + edge)))

-- so it is bounded by the number of places
pub hist_bound : (edge k : ℕ) (s : Nodes) → Hist edge k s → k + edge ≤ times edge (length s.number)
hist_bound edge k s h =
    let l : filled h.marks ≤ length s.number = omega (arith, filled_le h.marks, h.size) in
    omega (arith, h.paid, times_le edge (filled h.marks) (length s.number) l)

-- a history stays one as recorded costs fall
pub hist_later : (edge k : ℕ) (s t : Nodes) → Later s t → Hist edge k s → Hist edge k t
hist_later edge k s t l h =
    record {
      marks = h.marks;
      size = h.size ∙ sym l.floor;
      known = λ j z. omega (arith, h.known j z, l.more);
      above = λ j z. omega (arith, h.above j z, l.falls j (h.known j z));
      paid = h.paid;
    }

-- a successor that is recorded is not in the history of the node that it comes from
module _ (edge b c p k : ℕ) (s : Nodes) (d : Sound s) (hc : c < length s.number) (h : Hist edge b s) (up : b < k) (near : k ≤ b + edge) where
  tk : Took c p k s (note_of c p k s)
  tk = took c p k s d hc

  fresh : (note_of c p k s).kept ≡ true → get_or h.marks (note_of c p k s).index 0 ≡ 0
  fresh q =
      by_eq (get_or h.marks (note_of c p k s).index 0) 0
      (λ z. z)
      (λ z.
      let i : (note_of c p k s).index < length s.place = h.known (note_of c p k s).index z in
      absurd (omega (arith, h.above (note_of c p k s).index z, tk.less q i)))

  room : (note_of c p k s).index < length h.marks
  room = omega (arith, tk.index_in, filled_le (note_of c p k s).nodes.number, tk.sound.filling, tk.later.floor, h.size)

  pub hist_note : (note_of c p k s).kept ≡ true → Hist edge k (note_of c p k s).nodes
  unfolding times
  hist_note q =
      let f : filled (set h.marks (note_of c p k s).index 1) ≡ filled h.marks + 1 = filled_set h.marks (note_of c p k s).index 0 room (fresh q) in
      let e : filled h.marks + 1 ≡ suc (filled h.marks) = omega arith in
      let t : times edge (filled (set h.marks (note_of c p k s).index 1)) ≡ times edge (filled h.marks) + edge = ap (times edge) (f ∙ e) in
      record {
        marks = set h.marks (note_of c p k s).index 1;
        size = length-set h.marks (note_of c p k s).index 1 ∙ h.size ∙ sym tk.later.floor;
        known = λ j z. by_eq j (note_of c p k s).index
            (λ w. subst (λ (x : ℕ). x < length (note_of c p k s).nodes.place) (sym w) tk.index_in)
            (λ w. let i = h.known j (old j w z) in omega (arith, tk.later.more));
        above = λ j z. by_eq j (note_of c p k s).index
            (λ w. omega (arith, tk.cost_at q, ap (λ (x : ℕ). get_or (note_of c p k s).nodes.cost x 0) w))
            (λ w. let o = old j w z in omega (arith, h.above j o, tk.later.falls j (h.known j o)));
        paid = omega (arith, t, h.paid);
      }
    where
      old : (j : ℕ) → (j ≡ (note_of c p k s).index → ⊥) → (get_or (set h.marks (note_of c p k s).index 1) j 0 ≡ 0 → ⊥) → get_or h.marks j 0 ≡ 0 → ⊥
      old j w z e = z (get_or-set_other h.marks (note_of c p k s).index j 1 0 w ∙ e)

  -- every recorded cost has a history, also after recording
  pub past_note : ((i : ℕ) → i < length s.place → Hist edge (get_or s.cost i 0) s)
      → (i : ℕ) → i < length (note_of c p k s).nodes.place → Hist edge (get_or (note_of c p k s).nodes.cost i 0) (note_of c p k s).nodes
  past_note a =
      tk.each (λ i x y. Hist edge y (note_of c p k s).nodes) hist_note
      (λ i l. hist_later edge (get_or s.cost i 0) s (note_of c p k s).nodes tk.later (a i l))

-- ---- the bound in numbers

pub times_is : (edge n : ℕ) → times edge n ≡ n * edge
unfolding times
times_is edge zero = sym (zero-mul edge)
times_is edge (suc n) = ap (λ (x : ℕ). x + edge) (times_is edge n) ∙ sym (suc-mul n edge)

-- a recorded cost, and any that is offered from it, is at most an edge for each place
cost_bound : (side depth k : ℕ) (s : Nodes) → length s.number ≤ places_of side → Hist (edge_of side depth) k s → k + edge_of side depth ≤ places_of side * edge_of side depth
cost_bound side depth k s l h =
    le_trans (hist_bound (edge_of side depth) k s h)
    (le_trans (times_le (edge_of side depth) (length s.number) (places_of side) l) (le_of_eq (times_is (edge_of side depth) (places_of side))))

bound_le : (side most depth deep : ℕ) → side ≤ most → depth ≤ deep → places_of side * edge_of side depth ≤ places_of most * edge_of most deep
bound_le side most depth deep h k =
    let q : side * side ≤ most * most = mul-le-mul h h in
    let r : (side - 1) * 99 ≤ (most - 1) * 99 = omega arith in
    let d : depth + 1 ≤ deep + 1 = omega arith in
    let l : places_of side ≤ places_of most = omega (arith, q) in
    mul-le-mul l (mul-le-mul d r)

-- so where the largest side and depth leave every cost and guess below a limit, all do
pub cost_fits : (most deep limit : ℕ) → places_of most * edge_of most deep + 2 ^ 23 < limit → (side depth k : ℕ) (s : Nodes) → side ≤ most → depth ≤ deep → length s.number ≤ places_of side
    → Hist (edge_of side depth) k s → k + edge_of side depth + 2 ^ 23 < limit
cost_fits most deep limit f side depth k s h d l w = omega (arith, cost_bound side depth k s l w, bound_le side most depth deep h d, f)

-- they do below 2 ^ 31 at the base's limits, side 64 and depth 64
pub base_bound : places_of 64 * edge_of 64 64 + 2 ^ 23 < 2 ^ 31
base_bound = lit< tt

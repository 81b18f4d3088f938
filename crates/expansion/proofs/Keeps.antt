-- What every offer keeps, an expansion keeps: a state fit for the slices, and a good state good. Assumes nothing.
use mathlib.Core.Path.{◌≡◌, refl, ap, ◌∙◌, subst}
use mathlib.Core.Bool.{Bool, true, false, cond}
use Prim.Native.Nat.{ℕ, zero, suc, ◌+◌, ◌-◌, ◌*◌, ◌%◌, ◌<◌, ◌≤◌}
use native.Mathlib.Nat.{le_refl, add-mul, one-mul}
use native.Mathlib.Numerals.{add-one}
use native.Mathlib.Omega.{arith}
use lib.ListN.{length}
use Rattle.bends.specs.Bends.{way_of}
use Rattle.headings.specs.Headings.{heading_of}
use Rattle.std.specs.Prelude.{Option, Some, None}
use Rattle.points.specs.declared.Point.{Point}
use Rattle.points.specs.declared.Direction.{Direction}
use Rattle.points.specs.declared.Refusal.TheVariants.{Depth, Same}
use Rattle.masks.specs.Masks.{has_bit}
use Rattle.goals.specs.declared.Plan.{Plan}
use Rattle.goals.specs.Goals.{most_side}
use Rattle.nodes.specs.Bound.{edge_of}
use Rattle.offers.specs.Search.{State, Out, ok, area_of, guess_at, Fit}
use Rattle.offers.proofs.Laws.{area_is}
use Rattle.offers.proofs.Good.{same_ok, never_no, offer_fit, offer_floor, each_keeps}
use Rattle.stops.specs.declared.Cell.{Cell}
use Rattle.stops.specs.declared.Jump.{Jump}
use Rattle.std.specs.Prelude.{Option, Some, None}
use Rattle.stops.specs.Stops.{Inside, spot_of, number_of, price_of}
use Rattle.jumps.specs.Jumps.{jump_of}
use Rattle.stops.proofs.Laws.{place_lt}
use Rattle.jumps.proofs.Found.{jump_found}
use Rattle.successors.specs.Successors.{again_at, give_of}
use Rattle.expansion.specs.Expand.{Tables, reached, follow_with, travelled, expand_with, deeper_at, follow_at, expand_at}

-- one level more is one jump more
more : (m j : ℕ) → (m + 1) * j ≡ m * j + j
more m j = add-mul m 1 j ∙ ap (λ (x : ℕ). m * j + x) (one-mul j)

pub cond_keeps : (P : State → Type 0) (b : Bool) (x y : Out) (u : State) → (x ≡ ok u → P u) → (y ≡ ok u → P u) → cond b x y ≡ ok u → P u
cond_keeps P true x y u f g e = f e
cond_keeps P false x y u f g e = g e

-- `keep`: offering a cell inside, at a cost above lo and up to hi, keeps P
module _ (t : Tables) (p : Plan) (from : ℕ) (P : State → Type 0) (lo hi side : ℕ) (wide : p.w ≤ side) (high : p.h ≤ side)
    (keep : (c : Cell) (k : ℕ) (s u : State) → Inside p c → lo < k → k ≤ hi → P s → give_of t.goals p from c k s ≡ ok u → P u) where
  -- and so does expanding a cell, with m jumps to come
  abbrev Deep : (Point → Cell → ℕ → State → Out) → ℕ → Type 0
  Deep deeper m = (above : Point) (c : Cell) (k : ℕ) (s u : State) → Inside p c → lo ≤ k → k + m * ((side - 1) * 99) ≤ hi → P s → deeper above c k s ≡ ok u → P u

  module _ (deeper : Point → Cell → ℕ → State → Out) (m : ℕ) (deep : Deep deeper m) (above : Point) (node : Cell) (inside : Inside p node) (price base : ℕ) (h0 : 0 < price) (h1 : price ≤ 99) (h2 : lo ≤ base) (h3 : base + (m + 1) * ((side - 1) * 99) ≤ hi) where
    reached_keeps : (e : ℕ) (s u : State) (j : Option Jump) → jump_of t.blocked t.forced t.goals p e node price ≡ j → P s → reached t p from (deeper above) base e s j ≡ ok u → P u
    reached_keeps e s u (Some j) q x r =
        let c = j.cell in
        let k = j.cost in
        let f = jump_found t.blocked t.forced t.goals p side e node price c k wide high inside h1 q in
        let a : lo ≤ base + k = omega arith in
        let b : base + k + m * ((side - 1) * 99) ≤ hi = omega (arith, f.most, more m ((side - 1) * 99)) in
        let d : lo < base + k = omega (arith, f.least) in
        let v : base + k ≤ hi = omega arith in
        cond_keeps P (again_at t.forced t.goals p e c) (deeper above c (base + k) s) (give_of t.goals p from c (base + k) s) u
        (deep above c (base + k) s u f.inside a b x)
        (keep c (base + k) s u f.inside d v x)
        r
    reached_keeps e s u None q x r = subst P (same_ok s u r) x

    pub follow_keeps : (mask e : ℕ) (s u : State) → P s → follow_with t p from deeper above node mask price base e s ≡ ok u → P u
    unfolding follow_with
    follow_keeps mask e s u x r =
        cond_keeps P (has_bit mask (e % 8)) (reached t p from (deeper above) base e s (jump_of t.blocked t.forced t.goals p e node price)) (ok s) u
        (reached_keeps e s u (jump_of t.blocked t.forced t.goals p e node price) refl x)
        (λ q. subst P (same_ok s u q) x)
        r

  travel_keeps : (deeper : Point → Cell → ℕ → State → Out) (m : ℕ) → Deep deeper m → (above : Point) (c : Cell) (k : ℕ) (s u : State) → Inside p c → lo ≤ k → k + (m + 1) * ((side - 1) * 99) ≤ hi → P s
      → (g : Option Direction) → travelled t p (follow_with t p from deeper) above c k s g ≡ ok u → P u
  travel_keeps deeper m deep above c k s u i a b x (Some d) r =
      let l : 0 < price_of d.number = omega arith in
      let n : price_of d.number ≤ 99 = omega arith in
      each_keeps _ P (λ e v w he y z. follow_keeps deeper m deep above c i (price_of d.number) k l n a b _ e v w y z) 8 0 s u (le_refl 8) x r
  travel_keeps deeper m deep above c k s u i a b x None r = never_no (Same above) u r

  expand_with_lem : (deeper : Point → Cell → ℕ → State → Out) (m : ℕ) → Deep deeper m → Deep (expand_with t p (follow_with t p from deeper)) (m + 1)
  unfolding expand_with
  expand_with_lem deeper m deep above c k s u i a b x r = travel_keeps deeper m deep above c k s u i a b x (way_of (heading_of above (spot_of c.x c.y))) r

  pub deeper_keeps : (m : ℕ) → Deep (deeper_at t p from m) m
  unfolding deeper_at
  deeper_keeps zero above c k s u i a b x r = never_no Depth u r
  deeper_keeps (suc m) above c k s u i a b x r =
      let h : k + (m + 1) * ((side - 1) * 99) ≤ hi = rw (add-one m) b in
      expand_with_lem (deeper_at t p from m) m (deeper_keeps m) above c k s u i a h x r

  pub expand_keeps : (m : ℕ) → Deep (expand_at t p from m) (m + 1)
  expand_keeps m = expand_with_lem (deeper_at t p from m) m (deeper_keeps m)

-- the state stays fit for the slices
module _ (t : Tables) (p : Plan) (from n : ℕ) (floor : n ≡ area_of p + 1) where
  abbrev Kept : State → Type 0
  Kept s = Fit p.settings.fringe s × (length s.nodes.number ≡ n)

  give_kept : (c : Cell) (k : ℕ) (s u : State) → Inside p c → Kept s → give_of t.goals p from c k s ≡ ok u → Kept u
  unfolding give_of
  give_kept c k s u i x e =
      let h : number_of p.w c.x c.y < length s.nodes.number = omega (arith, place_lt i, area_is p, x.1) in (
        offer_fit p.settings.fringe (guess_at t.goals p (number_of p.w c.x c.y)) from (number_of p.w c.x c.y) k s u x.0 h e,
        offer_floor p.settings.fringe (guess_at t.goals p (number_of p.w c.x c.y)) from (number_of p.w c.x c.y) k s u x.0 h e ∙ x.1,
      )

  pub follow_fit : (m : ℕ) (above : Point) (node : Cell) (mask price base e : ℕ) → p.w ≤ most_side → p.h ≤ most_side → Inside p node → 0 < price → price ≤ 99 → (s u : State) → Fit p.settings.fringe s → length s.nodes.number ≡ n
      → follow_at t p from m above node mask price base e s ≡ ok u → Fit p.settings.fringe u
  follow_fit m above node mask price base e hw hh i h0 h1 s u f q r =
      (follow_keeps t p from Kept 0 (base + edge_of most_side m) most_side hw hh (λ c k v w j a b x z. give_kept c k v w j x z)
      (deeper_at t p from m) m
      (deeper_keeps t p from Kept 0 (base + edge_of most_side m) most_side hw hh (λ c k v w j a b x z. give_kept c k v w j x z) m)
      above node i price base h0 h1 (omega arith) (le_refl (base + edge_of most_side m)) mask e s u (f, q) r).0

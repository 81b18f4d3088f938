-- What the reply of a search comes from: the laws of the loop over any expansion, and that this one refuses neither EXHAUSTED nor POPS. Assumes nothing.
use mathlib.Core.Path.{◌≡◌, refl, subst}
use mathlib.Core.Bool.{Bool, true, false, cond}
use Prim.Native.Nat.{ℕ, ◌+◌}
use native.Mathlib.Omega.{arith}
use lib.Dec.{ltb}
use Rattle.points.specs.declared.Point.{Point}
use Rattle.points.specs.declared.Refusal.{Refusal}
use Rattle.points.specs.declared.Refusal.TheVariants.{Exhausted, Pops, Fringe, Depth, Same}
use Rattle.goals.specs.declared.Plan.{Plan}
use Rattle.nodes.specs.Nodes.{note_of}
use Rattle.offers.specs.Search.{State, Out, ok, no, offer_of, area_of, halt}
use Rattle.offers.specs.Passed.{Why, emptied, spent, halted, Leaves}
use Rattle.offers.proofs.Passed.{pops_within, found_popped, refused_why, exhausted_emptied, pops_spent}
use Rattle.expansion.specs.Expand.{Tables}
use Rattle.expansion.specs.Start.{yield_of}
use Rattle.search.specs.Loop.{goal_of, search_for}
use Rattle.search_laws.specs.Replies.{PoppedIn, EveryReply}
use Rattle.search_laws.proofs.Sums.{no_other}

-- neither of the loop's own refusals
abbrev Other : Refusal → Type 0
Other w = (w ≡ Exhausted → ⊥) × (w ≡ Pops → ⊥)

abbrev OtherOut : Out → Type 0
OtherOut (ok u) = Unit
OtherOut (no w) = Other w

depth_other : Other Depth
depth_other = (λ q. let z : ◌≡◌ {A = ℕ} 0 1 = cc in omega arith, λ q. let z : ◌≡◌ {A = ℕ} 0 1 = cc in omega arith)

same_other : (at : Point) → Other (Same at)
same_other at = (λ q. let z : ◌≡◌ {A = ℕ} 0 1 = cc in omega arith, λ q. let z : ◌≡◌ {A = ℕ} 0 1 = cc in omega arith)

other_cond : (b c : Bool) (x y : State) → OtherOut (cond b (cond c (ok x) (no Fringe)) (ok y))
other_cond true true x y = tt
other_cond true false x y = (λ q. let z : ◌≡◌ {A = ℕ} 0 1 = cc in omega arith, λ q. let z : ◌≡◌ {A = ℕ} 0 1 = cc in omega arith)
other_cond false c x y = tt

other_offer : (limit h from c k : ℕ) (s : State) → OtherOut (offer_of limit h from c k s)
unfolding offer_of
other_offer limit h from c k s = other_cond (note_of c from k s.nodes).kept (ltb s.size limit) _ _

-- LAW: the expansion leaves EXHAUSTED and POPS to the loop
pub yield_leaves : (t : Tables) (p : Plan) → Leaves (yield_of t p)
yield_leaves t p i k s =
    let a : OtherOut (yield_of t p i k s) =
    no_other t p i k s OtherOut tt depth_other same_other (λ c sum u r x. other_offer p.settings.fringe _ i c sum u) in
    ((λ e. (subst OtherOut e a).0 refl), (λ e. (subst OtherOut e a).1 refl))

halted_only : (t : Tables) (p : Plan) (start : ℕ) (w : Refusal) (m : ℕ) → (w ≡ Exhausted → ⊥) → (w ≡ Pops → ⊥)
    → Why (yield_of t p) (goal_of t.goals p) (area_of p + 1) start p.settings.pops w m → PoppedIn t p start m (halt w)
halted_only t p start w m a b (emptied q x) = absurd (a q)
halted_only t p start w m a b (spent q x) = absurd (b q)
halted_only t p start w m a b (halted x) = x

-- LAW: THE REPLIES
pub every_reply : EveryReply
unfolding search_for
every_reply t p start =
    record {
      pops = pops_within (yield_of t p) (goal_of t.goals p) (area_of p + 1) start p.settings.pops;
      goal = found_popped (yield_of t p) (goal_of t.goals p) (area_of p + 1) start p.settings.pops;
      exhausted = exhausted_emptied (yield_of t p) (goal_of t.goals p) (area_of p + 1) start p.settings.pops (yield_leaves t p);
      spent = pops_spent (yield_of t p) (goal_of t.goals p) (area_of p + 1) start p.settings.pops (yield_leaves t p);
      halted = λ w m a b e. halted_only t p start w m a b (refused_why (yield_of t p) (goal_of t.goals p) (area_of p + 1) start p.settings.pops w m e);
    }

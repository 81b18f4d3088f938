-- Eight things in order over a room: what the loop's invariant says, and what a turn gives. Assumes nothing.
use mathlib.Core.Path.{◌≡◌, refl, sym, ◌∙◌}
use mathlib.Core.List.{List}
use Prim.Native.Nat.{ℕ, ◌+◌, ◌-◌, ◌<◌, ◌≤◌}
use native.Mathlib.Omega.{arith}
use lib.IntN.{ℤ}
use lib.ListN.{length}
use Rattle.std.specs.Prelude.{Result, Ok, Err, IsErrAnd}
use Rattle.std.proofs.lemmas.Result.{err_from_is_err_and}
use Rattle.goals.specs.declared.Plan.{Plan}
use Rattle.points.specs.declared.Refusal.{Refusal}
use Rattle.offers.specs.declared.Work.{Work}
use Rattle.offers.specs.Search.{State, view, Out, ok, no, out_of, each, Fit, Lent, Stays}
use Rattle.offers.proofs.Good.{lent_next}
use Rattle.offers.proofs.Loop.{each_on, each_stop, each_end}

-- what a step's answer is, once it is known
pub done_ok : (x : Result Unit Refusal) (u : Unit) (r : Work) (o : Out) → out_of x r ≡ o → x ≡ Ok u → ok (view r) ≡ o
done_ok x u r o e z = rw (← e, z)

pub refused_no : (x : Result Unit Refusal) (w : Refusal) (r : Work) (o : Out) → out_of x r ≡ o → x ≡ Err w → no w ≡ o
refused_no x w r o e z = rw (← e, z)

-- what `?` hands on
pub passed_on : (x : Result Unit Refusal) (w : Refusal) → IsErrAnd x (λ v. v ≡ w) → x ≡ Err w
passed_on x w h = let p = err_from_is_err_and x h in rw (p.1, p.2)

pub stays_refl : (r : Work) → Stays r r
stays_refl r = record { number = (refl, refl); place = (refl, refl); parent = (refl, refl); cost = (refl, refl); keys = (refl, refl); idx = (refl, refl) }

pub stays_on : {r s t : Work} → Stays r s → Stays s t → Stays r t
stays_on a b =
    record {
      number = (b.number.0 ∙ a.number.0, b.number.1 ∙ a.number.1);
      place = (b.place.0 ∙ a.place.0, b.place.1 ∙ a.place.1);
      parent = (b.parent.0 ∙ a.parent.0, b.parent.1 ∙ a.parent.1);
      cost = (b.cost.0 ∙ a.cost.0, b.cost.1 ∙ a.cost.1);
      keys = (b.keys.0 ∙ a.keys.0, b.keys.1 ∙ a.keys.1);
      idx = (b.idx.0 ∙ a.idx.0, b.idx.1 ∙ a.idx.1);
    }

module _ (goals : List ℤ) (p : Plan) (f : ℕ → State → Out) (r₀ : Work) where
  pub record Rounds (r : Work) (d : ℕ) : Type 0 where
    pub stays : Stays r₀ r
    pub lent : Lent goals p r
    pub low : d ≤ 8
    pub same : each f (8 - d) d (view r) ≡ each f 8 0 (view r₀)

  pub round_start : Lent goals p r₀ → Rounds r₀ 0
  round_start a = record { stays = stays_refl r₀; lent = a; low = omega arith; same = refl }

  module _ (r : Work) (d : ℕ) (a : Rounds r d) where
    module _ (s : Work) (x : Result Unit Refusal) (h : d < 8) (e : out_of x s ≡ f d (view r)) where
      pub round_turn : (u : Unit) → x ≡ Ok u → ((u v : State) → Fit p.settings.fringe u → length u.nodes.number ≡ length r₀.number.now → f d u ≡ ok v → Fit p.settings.fringe v)
          → Stays r s → Rounds s (d + 1)
      round_turn u z l q =
          let o : ok (view s) ≡ f d (view r) = done_ok x u s _ e z in
          record {
            stays = stays_on a.stays q;
            lent = lent_next a.lent s q (l (view r) (view s) a.lent.fit a.stays.number.1 (sym o));
            low = omega arith;
            same = each_on f d (view r) (view s) h o ∙ a.same;
          }

      pub round_halt : (w : Refusal) → x ≡ Err w → no w ≡ each f 8 0 (view r₀)
      round_halt w z = each_stop f d (view r) w h (refused_no x w s _ e z) ∙ a.same

    -- a turn that leaves the state as it is
    pub round_same : d < 8 → ok (view r) ≡ f d (view r) → Rounds r (d + 1)
    round_same h e = record { stays = a.stays; lent = a.lent; low = omega arith; same = each_on f d (view r) (view r) h e ∙ a.same }

    pub round_end : 8 ≤ d → ok (view r) ≡ each f 8 0 (view r₀)
    round_end h = each_end f d (view r) h ∙ a.same

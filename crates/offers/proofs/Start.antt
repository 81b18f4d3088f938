-- The state that a search begins with is good. Assumes nothing.
use mathlib.Core.Path.{◌≡◌, refl, ap, sym, ◌∙◌, subst}
use mathlib.Core.Bool.{true}
use mathlib.Core.List.{[]}
use Prim.Native.Nat.{ℕ, zero, suc, ◌+◌, ◌<◌, ◌≤◌}
use native.Mathlib.Nat.{le_refl, not-suc-le-zero}
use native.Mathlib.Omega.{arith}
use borrow.Author.Tests.{eq-eqb}
use lib.ListN.{length, get_or, set, length-set, replicate, length-replicate, get_or-replicate, get_or-eq_default}
use Rattle.sifts.specs.Sifts.{entry}
use Rattle.fringe.specs.Fringe.{push}
use Rattle.fringe.proofs.Laws.{length_push, each_push, ordered_nil, ordered_push}
use Rattle.nodes.specs.Nodes.{added, Note, note, note_of, Sound, filled}
use Rattle.nodes.specs.Bound.{times, Hist}
use lib.Seq.{get_or-set_other}
use Rattle.nodes.proofs.Laws.{filled_set, took, by_eq, by-lt}
use Rattle.keys.specs.Keys.{key_of}
use Rattle.keys.proofs.Order.{key_cost}
use Rattle.offers.specs.Search.{State, state, none, begin, Queued, Good}

pub zeros : (n c : ℕ) → ◌≡◌ {A = ℕ} (get_or (replicate n 0) c 0) 0
zeros n c = by-lt c n (λ h. get_or-replicate n c 0 0 h) (λ h. get_or-eq_default (replicate n 0) 0 (omega (arith, length-replicate {A = ℕ} n 0)))

filled_zeros : (n : ℕ) → filled (replicate n 0) ≡ 0
unfolding filled
filled_zeros zero = refl
filled_zeros (suc n) = filled_zeros n

pub none_sound : (n : ℕ) → Sound (none n)
unfolding none
none_sound n =
    record {
      counts = refl;
      parents = refl;
      costs = refl;
      filling = filled_zeros n;
      numbered = λ c. omega (arith, zeros n c);
      within = λ i h. absurd (not-suc-le-zero h);
      there = λ i h. absurd (not-suc-le-zero h);
      back = λ c i q. absurd (omega (arith, zeros n c));
    }

begin_note : (n start : ℕ) → note_of start 0 0 (none n) ≡ note true 0 (added start 0 0 (none n))
unfolding note_of none
begin_note n start = rw (eq-eqb (get_or (replicate n 0) start 0) 0 (zeros n start))

begin_is : (n start : ℕ) → begin n start ≡ state (added start 0 0 (none n)) (push [] (entry (key_of 0 0) 0)) 1
unfolding begin
begin_is n start = ap (λ (r : Note). state r.nodes (push [] (entry (key_of 0 0) 0)) 1) (begin_note n start)

none_long : (n start : ℕ) → start < n → start < length (none n).number
unfolding none
none_long n start h = omega (arith, length-replicate {A = ℕ} n 0)

begin_length : (n start : ℕ) → 0 < length (added start 0 0 (none n)).place
unfolding none added
begin_length n start = omega arith

begin_one : (n start i : ℕ) → i < length (added start 0 0 (none n)).place → i ≡ 0
unfolding none added
begin_one n start i h = omega arith

begin_zero : (n start i : ℕ) → i ≡ 0 → get_or (added start 0 0 (none n)).cost i 0 ≡ 0
unfolding none added
begin_zero n start i q = rw q

-- the start costs nothing
pub begin_free : (n start : ℕ) → get_or (begin n start).nodes.cost 0 0 ≡ 0
begin_free n start = ap (λ (s : State). get_or s.nodes.cost 0 0) (begin_is n start) ∙ begin_zero n start 0 refl

begin_floor : (n start : ℕ) → length (added start 0 0 (none n)).number ≡ n
unfolding none added
begin_floor n start = length-set (replicate {A = ℕ} n 0) start 1 ∙ length-replicate {A = ℕ} n 0

-- a history of the start: itself
begin_hist : (edge n start : ℕ) → start < n → Hist edge 0 (added start 0 0 (none n))
unfolding times none added filled
begin_hist edge n start h =
    let z : 0 < n = omega arith in
    let l : length (replicate {A = ℕ} n 0) ≡ n = length-replicate {A = ℕ} n 0 in
    let p : 0 < length (replicate {A = ℕ} n 0) = omega arith in
    let f : filled (set (replicate n 0) 0 1) ≡ filled (replicate n 0) + 1 = filled_set (replicate n 0) 0 0 p (zeros n 0) in
    let o : filled (set (replicate n 0) 0 1) ≡ 1 = omega (arith, filled_zeros n) in
    record {
      marks = set (replicate n 0) 0 1;
      size = length-set (replicate {A = ℕ} n 0) 0 1 ∙ sym (length-set (replicate {A = ℕ} n 0) start 1);
      known = λ j w. let q : j ≡ 0 = only n j w in omega arith;
      above = λ j w. let q : j ≡ 0 = only n j w in rw q (le_refl 0);
      paid = rw o (omega arith);
    }
  where
    only : (m j : ℕ) → (◌≡◌ {A = ℕ} (get_or (set (replicate m 0) 0 1) j 0) 0 → ⊥) → j ≡ 0
    only m j w = by_eq j 0 (λ q. q) (λ q. absurd (w (get_or-set_other (replicate m 0) 0 j 1 0 q ∙ zeros m j)))

pub begin_good : (limit edge area n start : ℕ) → 1 ≤ limit → start < n → Good n limit edge area (begin n start)
begin_good limit edge area n start hl hs =
    subst (Good n limit edge area) (sym (begin_is n start))
    (record {
      fit = record { sound = sound'; sized = length_push [] (entry (key_of 0 0) 0); room = hl };
      floor = begin_floor n start;
      started = first;
      past = λ i h. subst (λ (x : ℕ). Hist edge x (added start 0 0 (none n))) (sym (begin_zero n start i (one i h))) (begin_hist edge n start hs);
      rising = λ i h pos. absurd (omega (arith, one i h));
      landed = λ i h pos. absurd (omega (arith, one i h));
      ordered = ordered_push [] (entry (key_of 0 0) 0) ordered_nil;
      queued = each_push (Queued (times edge n) (added start 0 0 (none n))) [] (entry (key_of 0 0) 0) queued' (λ i h. absurd (not-suc-le-zero h));
    })
  where
    long : start < length (none n).number
    long = none_long n start hs

    sound' : Sound (added start 0 0 (none n))
    sound' = subst (λ (r : Note). Sound r.nodes) (begin_note n start) (took start 0 0 (none n) (none_sound n) long).sound

    first : 0 < length (added start 0 0 (none n)).place
    first = begin_length n start

    one : (i : ℕ) → i < length (added start 0 0 (none n)).place → i ≡ 0
    one i h = begin_one n start i h

    queued' : Queued (times edge n) (added start 0 0 (none n)) (entry (key_of 0 0) 0)
    queued' =
        record {
          known = first;
          low = omega (arith, key_cost 0 0 (omega arith) (omega arith));
          above = omega (arith, begin_zero n start 0 refl);
          packed = record { cost = 0; guess = 0; low = omega arith; near = omega arith; held = refl };
        }

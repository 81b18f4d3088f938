-- `fringe::sink` meets its contract. The loop's invariant: sift_down_to_bottom from the hole as it is now gives what it gives from 0. The measure is what is left below the hole. Assumes nothing.
use mathlib.Core.Path.{◌≡◌, refl, ap, sym, ◌∙◌}
use mathlib.Core.List.{List}
use Prim.Native.Nat.{ℕ, zero, suc, ◌+◌, ◌-◌, ◌*◌, ◌<◌, ◌≤◌}
use native.Mathlib.Omega.{arith}
use lib.ListN.{length, get_or, set, drop, length-set}
use lib.Seq.{drop-set-lt}
use Rattle.sifts.specs.declared.Entry.{Entry}
use Rattle.sifts.specs.Sifts.{entry, entries, at, up, down, largest, larger_of}
use Rattle.sifts.proofs.Lists.{at_entries, set_entries, largest_entries, drop_more}
use Rattle.sifts.proofs.Turns.{down_next, down_one, down_leaf}
use Rattle.fringe.proofs.sink.Given as goal

pub record Sinking (n : ℕ) (e : Entry) (ks₀ is₀ ks is : List ℕ) (pos child : ℕ) : Type 0 where
  pub within : pos < n
  pub next : child ≡ 2 * pos + 1
  pub ks_len : length ks ≡ length ks₀
  pub is_len : length is ≡ length is₀
  pub turns : ℕ
  pub enough : n ≤ pos + turns
  pub same : down turns n (entries ks is) pos e ≡ down n n (entries ks₀ is₀) 0 e
  pub ks_rest : drop n ks ≡ drop n ks₀
  pub is_rest : drop n is ≡ drop n is₀

abbrev pub Done : ℕ → Entry → List ℕ → List ℕ → List ℕ → List ℕ → Type 0
Done n e ks₀ is₀ ks is = (entries ks is ≡ down n n (entries ks₀ is₀) 0 e) × (drop n ks ≡ drop n ks₀) × (drop n is ≡ drop n is₀)

-- an equation of the definition at a number of turns that is not 0
pub one_child : (f n : ℕ) (l : List Entry) (p : ℕ) (e : Entry) → n ≤ p + f → n ≤ 2 * p + 1 + 1 → 2 * p + 1 < n → down f n l p e ≡ up (2 * p + 1) (set l p (at l (2 * p + 1))) (2 * p + 1) e
one_child zero n l p e b h k = absurd (omega arith)
one_child (suc f) n l p e b h k = down_one f n l p e h k

module _ (n : ℕ) (e : Entry) (ks₀ is₀ ks is : List ℕ) (pos child : ℕ) (r : Sinking n e ks₀ is₀ ks is pos child) (nk : n ≤ length ks₀) (ni : n ≤ length is₀) where
  pub turned : (ks' is' : List ℕ) (best : ℕ) → child + 1 < n → best ≡ larger_of ks child → child ≤ best → best ≤ child + 1 → ks' ≡ set ks pos (get_or ks best 0) → is' ≡ set is pos (get_or is best 0) → Sinking n e ks₀ is₀ ks' is' best (2 * best + 1)
  turned ks' is' best h q lo hi qk qi =
      let q' : largest (entries ks is) (2 * pos + 1) ≡ best = largest_entries ks is (2 * pos + 1) (omega arith) (omega arith) ∙ ap (larger_of ks) (sym r.next) ∙ sym q in
      let here : at (entries ks is) best ≡ entry (get_or ks best 0) (get_or is best 0) = at_entries ks is best (omega arith) (omega arith) in
      let next = rw q' at (down_next r.turns n (entries ks is) pos e r.enough (omega arith)) in
      let low' : pos < n = r.within in
      record {
        within = omega arith;
        next = refl;
        ks_len = ap length qk ∙ length-set ks pos _ ∙ r.ks_len;
        is_len = ap length qi ∙ length-set is pos _ ∙ r.is_len;
        turns = next.0;
        enough = next.1;
        same = rw (qk, qi, set_entries, ← here) (sym next.2 ∙ r.same);
        ks_rest = rw qk (drop-set-lt n ks pos _ low' ∙ r.ks_rest);
        is_rest = rw qi (drop-set-lt n is pos _ low' ∙ r.is_rest);
      }

  -- ks' and is' after the last shift, ks'' and is'' after the rise
  pub done_one : (ks' is' ks'' is'' : List ℕ) → n ≤ child + 1 → child < n → ks' ≡ set ks pos (get_or ks child 0) → is' ≡ set is pos (get_or is child 0)
      → (entries ks'' is'' ≡ up child (entries ks' is') child e) × (drop (child + 1) ks'' ≡ drop (child + 1) ks') × (drop (child + 1) is'' ≡ drop (child + 1) is') → Done n e ks₀ is₀ ks'' is''
  done_one ks' is' ks'' is'' h k qk qi w =
      let here : at (entries ks is) child ≡ entry (get_or ks child 0) (get_or is child 0) = at_entries ks is child (omega arith) (omega arith) in
      let last = rw (← r.next) at (one_child r.turns n (entries ks is) pos e r.enough (omega arith) (omega arith)) in
      let low' : pos < n = r.within in (
        w.0 ∙ rw (qk, qi, set_entries, ← here) (sym last ∙ r.same),
        drop_more (child + 1) n ks'' ks' (omega arith) w.1 ∙ rw qk (drop-set-lt n ks pos _ low' ∙ r.ks_rest),
        drop_more (child + 1) n is'' is' (omega arith) w.2 ∙ rw qi (drop-set-lt n is pos _ low' ∙ r.is_rest),
      )

  pub done_leaf : (ks'' is'' : List ℕ) → n ≤ child → (entries ks'' is'' ≡ up pos (entries ks is) pos e) × (drop (pos + 1) ks'' ≡ drop (pos + 1) ks) × (drop (pos + 1) is'' ≡ drop (pos + 1) is) → Done n e ks₀ is₀ ks'' is''
  done_leaf ks'' is'' h w =
      let last = down_leaf r.turns n (entries ks is) pos e (omega arith) in
      (w.0 ∙ sym last ∙ r.same, drop_more (pos + 1) n ks'' ks (omega arith) w.1 ∙ r.ks_rest, drop_more (pos + 1) n is'' is (omega arith) w.2 ∙ r.is_rest)

abbrev pub invariant-loop-child : goal.invariant-loop-child
invariant-loop-child l = Sinking l.n (entry l.key l.index) l.initial.keys l.initial.idx l.keys l.idx l.pos l.child

abbrev pub decreases-loop-child : goal.decreases-loop-child
decreases-loop-child l = l.n - l.pos

-- `sifts::rise` meets its contract. The loop's invariant: sift_up from the hole as it is now gives what sift_up gives from where the loop began. The measure is the hole's place. Assumes nothing.
use mathlib.Core.Path.{◌≡◌, ap, sym, ◌∙◌}
use mathlib.Core.List.{List}
use Prim.Native.Nat.{ℕ, ◌+◌, ◌<◌, ◌≤◌}
use native.Mathlib.Omega.{arith}
use lib.ListN.{length, get_or, set, drop, length-set}
use lib.Seq.{drop-set-lt}
use Rattle.sifts.specs.declared.Entry.{Entry}
use Rattle.sifts.specs.Sifts.{entry, entries, at, parent, up}
use Rattle.sifts.proofs.Lists.{at_entries, set_entries}
use Rattle.sifts.proofs.Turns.{up_next}
use Rattle.sifts.proofs.rise.Given as goal

pub record Rising (b : ℕ) (e : Entry) (ks₀ is₀ ks is : List ℕ) (pos : ℕ) : Type 0 where
  pub low : pos ≤ b
  pub ks_len : length ks ≡ length ks₀
  pub is_len : length is ≡ length is₀
  pub turns : ℕ
  pub enough : pos ≤ turns
  pub same : up turns (entries ks is) pos e ≡ up b (entries ks₀ is₀) b e
  pub ks_rest : drop (b + 1) ks ≡ drop (b + 1) ks₀
  pub is_rest : drop (b + 1) is ≡ drop (b + 1) is₀

abbrev pub Done : ℕ → Entry → List ℕ → List ℕ → List ℕ → List ℕ → Type 0
Done b e ks₀ is₀ ks is = (entries ks is ≡ up b (entries ks₀ is₀) b e) × (drop (b + 1) ks ≡ drop (b + 1) ks₀) × (drop (b + 1) is ≡ drop (b + 1) is₀)

module _ (b : ℕ) (e : Entry) (ks₀ is₀ ks is : List ℕ) (pos : ℕ) (r : Rising b e ks₀ is₀ ks is pos) where
  pub turned : (ks' is' : List ℕ) → b < length ks₀ → b < length is₀ → 0 < pos → get_or ks (parent pos) 0 < e.key → ks' ≡ set ks pos (get_or ks (parent pos) 0) → is' ≡ set is pos (get_or is (parent pos) 0) → Rising b e ks₀ is₀ ks' is' (parent pos)
  turned ks' is' bk bi h k qk qi =
      let here : at (entries ks is) (parent pos) ≡ entry (get_or ks (parent pos) 0) (get_or is (parent pos) 0) = at_entries ks is (parent pos) (omega arith) (omega arith) in
      let k' : (at (entries ks is) (parent pos)).key < e.key = rw here k in
      let next = up_next r.turns (entries ks is) pos e r.enough h k' in
      let low' : pos < b + 1 = omega arith in
      record {
        low = omega arith;
        ks_len = ap length qk ∙ length-set ks pos _ ∙ r.ks_len;
        is_len = ap length qi ∙ length-set is pos _ ∙ r.is_len;
        turns = next.0;
        enough = next.1;
        same = rw (qk, qi, set_entries, ← here) (sym next.2 ∙ r.same);
        ks_rest = rw qk (drop-set-lt (b + 1) ks pos _ low' ∙ r.ks_rest);
        is_rest = rw qi (drop-set-lt (b + 1) is pos _ low' ∙ r.is_rest);
      }

  pub done : (ks' is' : List ℕ) → up r.turns (entries ks is) pos e ≡ set (entries ks is) pos e → ks' ≡ set ks pos e.key → is' ≡ set is pos e.index → Done b e ks₀ is₀ ks' is'
  done ks' is' stop qk qi =
      let low' : pos < b + 1 = omega arith in
      (rw (qk, qi, set_entries) (sym stop ∙ r.same), rw qk (drop-set-lt (b + 1) ks pos _ low' ∙ r.ks_rest), rw qi (drop-set-lt (b + 1) is pos _ low' ∙ r.is_rest))

abbrev pub invariant-loop-pos : goal.invariant-loop-pos
invariant-loop-pos l = Rising l.at (entry l.key l.index) l.initial.keys l.initial.idx l.keys l.idx l.pos

abbrev pub decreases-loop-pos : goal.decreases-loop-pos
decreases-loop-pos l = l.pos

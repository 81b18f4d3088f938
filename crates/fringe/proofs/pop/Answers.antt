-- `fringe::pop` meets its contract: the sink in the slices is the sink in the heap's own list. Assumes nothing.
use mathlib.Core.Path.{◌≡◌, refl, sym, ◌∙◌}
use mathlib.Core.List.{List}
use Prim.Native.Nat.{ℕ, zero, suc, ◌-◌, ◌<◌, ◌≤◌}
use native.Mathlib.Omega.{arith}
use lib.ListN.{take, length, get_or}
use Rattle.sifts.specs.Sifts.{entry, entries, at, down}
use Rattle.fringe.specs.Fringe.{top, rest}
use Rattle.sifts.proofs.Lists.{length_entries, at_entries}
use Rattle.fringe.proofs.Trim.{top_of, rest_of, rest_one}
use Rattle.fringe.proofs.pop.Goals as goal

one : (n : ℕ) (ks is : List ℕ) → 0 < n → n - 1 ≡ 0 → n ≤ length ks → n ≤ length is → (entry (get_or ks (n - 1) 0) (get_or is (n - 1) 0) ≡ top (take n (entries ks is))) × (take (n - 1) (entries ks is) ≡ rest (take n (entries ks is)))
one zero ks is a q hk hi = absurd (omega arith)
one (suc zero) ks is a q hk hi = (sym (top_of 1 (entries ks is) a ∙ at_entries ks is 0 hk hi), sym (rest_one (entries ks is) (length_entries ks is 0 hk hi)))
one (suc (suc n)) ks is a q hk hi = absurd (omega arith)

many : (n : ℕ) (ks is ks' is' : List ℕ) → 1 < n → n ≤ length ks → n ≤ length is → entries ks' is' ≡ down (n - 1) (n - 1) (entries ks is) 0 (entry (get_or ks (n - 1) 0) (get_or is (n - 1) 0))
    → (entry (get_or ks 0 0) (get_or is 0 0) ≡ top (take n (entries ks is))) × (take (n - 1) (entries ks' is') ≡ rest (take n (entries ks is)))
many n ks is ks' is' a hk hi q = let last : at (entries ks is) (n - 1) ≡ entry (get_or ks (n - 1) 0) (get_or is (n - 1) 0) = at_entries ks is (n - 1) (omega arith) (omega arith) in
    let long : n - 1 < length (entries ks is) = length_entries ks is (n - 1) (omega arith) (omega arith) in (
      sym (top_of n (entries ks is) (omega arith) ∙ at_entries ks is 0 (omega arith) (omega arith)),
      rw (q, ← last) (rest_of n (entries ks is) a (omega arith)),
    )

pub returns-then-last-eq0 : goal.returns-then-last-eq0
returns-then-last-eq0 c =
    let w = one c.args.n c.args.keys.now c.args.idx.now c.requires.0 (omega arith) c.requires.1 c.requires.2 in
    (w.0, w.1, refl, refl)

pub returns : goal.returns
returns c =
    let r = c.sink.ensures in
    let w = many c.args.n c.args.keys.now c.args.idx.now c.sink.new.keys c.sink.new.idx (omega arith) c.requires.1 c.requires.2 r.0 in
    (w.0, w.1, r.1, r.2)

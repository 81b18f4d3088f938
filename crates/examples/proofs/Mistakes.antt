-- The mistakes of specs/Mistakes.antt contradict the examples that were computed. Assumes nothing.
use mathlib.Core.Path.{◌≡◌, sym, ap, ◌∙◌}
use mathlib.Core.List.{List}
use Prim.Native.Nat.{ℕ}
use native.Mathlib.Omega.{arith}
use lib.ListN.{get_or}
use Rattle.finder.specs.declared.Answer.{Answer}
use Rattle.examples.specs.Mistakes.{Mistakes}
use Rattle.examples.proofs.Jumps.{jumps}
use Rattle.examples.proofs.Searches.{searches}

-- answers with other counts of pops
apart : {a b c : Answer} → a ≡ b → a ≡ c → b.pops ≡ c.pops
apart e f = ap (λ (a : Answer). a.pops) (sym e ∙ f)

pub mistakes : Mistakes
mistakes =
    record {
      always_refuses = λ e. let z : ◌≡◌ {A = ℕ} 2 0 = apart searches.rebuilt e in absurd (omega (arith, z));
      another_pop_count = λ e. let z : ◌≡◌ {A = ℕ} 3 2 = apart searches.found e in absurd (omega (arith, z));
      components_asked = λ e. let z : ◌≡◌ {A = ℕ} 2 0 = apart searches.unasked e in absurd (omega (arith, z));
      node_as_parent = λ e. let z : ◌≡◌ {A = ℕ} 268 297 = ap (λ (l : List ℕ). get_or l 4 0) (sym jumps.same_parent ∙ e) in absurd (omega (arith, z));
    }

-- Mistakes that document 01 names, each held against the rules at one input: what the mistake answers there is not what the rules give.
-- Assumes nothing: these are statements.
use Rattle.std.specs.Prelude.{◌≡◌, Ok, Err, [], ◌∷◌, pos}
use Rattle.points.specs.declared.Refusal.TheVariants as refusal
use Rattle.costs.specs.Limits.{new_settings}
use Rattle.finder.specs.Find.{found_of, answer_of}
use Rattle.examples.specs.Jumps.{costs_of, after, bent, bent_plan}
use Rattle.examples.specs.Searches.{new2, free2, free3, spot, single, several, told}

pub record Mistakes : Type 0 where
  -- a search that always refuses: NO_ROUTE where the goal is found
  pub always_refuses : answer_of 4 (single free2 new_settings (spot 0 0) (spot 1 0)) ≡ told 0 (Err refusal.NoRoute) → ⊥
  -- a pop count not equal to the pops of the rules: 2 for 3
  pub another_pop_count : answer_of 8 (single free3 new_settings (spot 0 0) (spot 2 0)) ≡ told 2 (Ok (found_of 3 140)) → ⊥
  -- components asked for several goals: NO_ROUTE on a new grid
  pub components_asked : answer_of 4 (several new2 new_settings (spot 0 0) (pos 1 ∷ pos 0 ∷ [])) ≡ told 0 (Err refusal.NoRoute) → ⊥
  -- a re-expansion that takes the node as parent, which gives the goal at 297 (proofs/Jumps.antt, `as_parent`)
  pub node_as_parent : costs_of (after bent (bent_plan 64) 9 4 2 99) ≡ 0 ∷ 70 ∷ 99 ∷ 70 ∷ 297 ∷ [] → ⊥

-- A map text routed: what is printed of it, in lent room. Assumes nothing: these are definitions.
use Rattle.std.specs.Prelude.{cond, List, ℕ, ltb, length}
use Rattle.std.proofs.lemmas.List.Edits.{sets}
use Rattle.points.specs.declared.Refusal.TheVariants.{Room}
use Rattle.router.specs.Route.{most_print, route_text}
use Rattle.packing.specs.Packing.{refused_as}

-- ROOM where the most that is printed would not fit; else how many bytes are printed
unfoldable pub printed_of : List ℕ → ℕ → ℕ
printed_of t room = cond (ltb room most_print) (refused_as Room) (length (route_text t))

-- what stands in the room then: the rest of it keeps its contents
unfoldable pub print_kept : List ℕ → List ℕ → List ℕ
print_kept t out = cond (ltb (length out) most_print) out (sets out 0 (route_text t))

-- The route check on lent tables. Assumes nothing: these are definitions.
use Rattle.std.specs.Prelude.{cond, Result, Err, List, ℕ, ℤ}
use Rattle.points.specs.declared.Refusal.{Refusal}
use Rattle.points.specs.declared.Refusal.TheVariants.{State}
use Rattle.checks.specs.declared.Checked.{Checked}
use Rattle.checks.specs.Checks.{check_in}
use Rattle.boundary.specs.Lent.{ground_ok}

-- the route check: STATE, then LIST and POINT over the lent cells
unfoldable pub check_lent : ℕ → ℕ → List ℕ → List ℕ → List ℕ → List ℤ → Result Checked Refusal
check_lent w h b p k l = cond (ground_ok w h b p k) (check_in w h b l) (Err State)

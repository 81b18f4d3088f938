-- How an answer crosses the boundary as several numbers: the refusal's number, or 0, the values, and the point that a refusal concerns.
-- Assumes nothing: these are definitions.
use Rattle.std.specs.Prelude.{Result, Ok, Err, ℕ, pos}
use Rattle.points.specs.Refusals.{Told, told_of}
use Rattle.finder.specs.declared.Answer.{Answer}
use Rattle.finder.specs.declared.Found.{Found}
use Rattle.points.specs.declared.Refusal.{Refusal}
use Rattle.legs.specs.Legs.{leg_number}
use Rattle.checks.specs.declared.Checked.{Checked}
use Rattle.packing.specs.Packing.{mark_of}
use Rattle.replies.specs.declared.Route.{Route}
use Rattle.replies.specs.declared.Reply.{Reply}
use Rattle.replies.specs.declared.Check.{Check}

-- a refusal after n pops as numbers
abbrev pub route_told : ℕ → Told → Route
route_told n t = record { refusal = t.number; pops = n; waypoints = 0; cost = 0; x = t.point.x; y = t.point.y }

-- an answer as numbers
abbrev pub route_with : ℕ → Result Found Refusal → Route
route_with n (Ok f) = record { refusal = 0; pops = n; waypoints = f.length; cost = f.cost; x = pos 0; y = pos 0 }
route_with n (Err r) = route_told n (told_of r)

abbrev pub route_of : Answer → Route
route_of a = route_with a.pops a.outcome

-- a value, and a refusal, as numbers
abbrev pub value_reply : ℕ → Reply
value_reply n = record { refusal = 0; value = n; x = pos 0; y = pos 0 }

abbrev pub told_reply : Told → Reply
told_reply t = record { refusal = t.number; value = 0; x = t.point.x; y = t.point.y }

-- how many points were written
abbrev pub written_reply : Result ℕ Refusal → Reply
written_reply (Ok n) = value_reply n
written_reply (Err r) = told_reply (told_of r)

-- a refusal of the route check as numbers
abbrev pub check_told : Told → Check
check_told t = record { refusal = t.number; clear = 0; bent = 0; x = t.point.x; y = t.point.y }

-- the route check's answer as numbers
abbrev pub check_reply : Result Checked Refusal → Check
check_reply (Ok c) = record { refusal = 0; clear = mark_of c.clear; bent = leg_number c.bent; x = pos 0; y = pos 0 }
check_reply (Err r) = check_told (told_of r)

-- What `route` prints of a text: reader, rebuild, exact search, route check and writer, one after the other. Assumes nothing: these are definitions.
use Rattle.std.specs.Prelude.{Bool, false, List, [], ℕ, ◌*◌, ◌≤◌, ℤ, pos, length, take, replicate, Result, Ok, Err}
use Rattle.points.specs.Refusals.{told_of}
use Rattle.points.specs.declared.Point.{Point}
use Rattle.points.specs.declared.Refusal.{Refusal}
use Rattle.costs.specs.declared.Settings.{Settings}
use Rattle.costs.specs.Limits.{new_settings}
use Rattle.offers.specs.Search.{Reply}
use Rattle.finder.specs.Find.{answer_of, out_after}
use Rattle.plans.specs.declared.Lengths.{Lengths}
use Rattle.finder.specs.declared.Answer.{Answer}
use Rattle.finder.specs.declared.Found.{Found}
use Rattle.waypoints.specs.Waypoints.{single_of, single_plan}
use Rattle.grid.specs.Grids.{rebuild_outcome}
use Rattle.grid.specs.declared.Grid.{Grid}
use Rattle.answers.specs.Answers.{answer_text, bad_text}
use Rattle.floors.specs.declared.MapRead.{MapRead}
use Rattle.checks.specs.declared.Checked.{Checked}
use Rattle.checks.specs.Checks.{check_of}
use Rattle.floors.specs.Floors.{read_of}

-- other settings are a new grid's
abbrev pub settings_for : Bool → Settings
settings_for diagonal = record {
  factor = new_settings.factor;
  diagonal = diagonal;
  improved = new_settings.improved;
  depth = new_settings.depth;
  pops = new_settings.pops;
  fringe = new_settings.fringe;
}

-- working room for the most cells and one more, and for the largest fringe limit
abbrev pub room : Lengths
room = record { number = 4097; place = 4097; parent = 4097; cost = 4097; keys = 8192; idx = 8192 }

-- it searches exactly
unfoldable pub exact_of : Grid → Bool → Point → Point → Reply
exact_of g diagonal start goal = single_of g (settings_for diagonal) room false start goal

-- a refusal is printed with its number, its pops and no waypoint
abbrev pub refused_text : Refusal → ℕ → List ℕ
refused_text r pops = answer_text (told_of r).number pops [] false

-- a route is printed with its check: whether it is clear
abbrev pub checked_text : Result Checked Refusal → ℕ → List ℤ → List ℕ
checked_text (Ok c) pops l = answer_text 0 pops l c.clear
checked_text (Err r) pops l = refused_text r pops

abbrev pub found_text : Grid → List ℤ → ℕ → Result Found Refusal → List ℕ
found_text g l pops (Ok f) = checked_text (check_of g (take (2 * f.length) l)) pops (take (2 * f.length) l)
found_text g l pops (Err r) = refused_text r pops

-- what is printed of a search's answer, where the list holds its waypoints
abbrev pub outcome_text : Grid → List ℤ → Answer → List ℕ
outcome_text g l a = found_text g l a.pops a.outcome

-- as many waypoints as a list of so many numbers holds
abbrev pub Within : ℕ → Result Found Refusal → Type 0
Within m (Ok f) = 2 * f.length ≤ m
Within m (Err r) = Unit {0}

-- room for the waypoints of the most cells and one more
abbrev pub blank : List ℤ
blank = replicate 8194 (pos 0)

-- the search on a grid, printed
abbrev pub search_text : Grid → Bool → Point → Point → List ℕ
search_text g diagonal start goal =
    outcome_text g (out_after blank (single_plan g (settings_for diagonal) false start goal) (exact_of g diagonal start goal))
    (answer_of (length blank) (exact_of g diagonal start goal))

-- a bad line gives result=12 and line=n; any other text is rebuilt and searched
abbrev pub map_told : MapRead → Result Unit Refusal → List ℕ
map_told m (Err r) = bad_text (told_of r).line
map_told m (Ok u) = search_text (rebuild_outcome m.grid m.diagonal).grid m.diagonal m.start m.goal

unfoldable pub route_text : List ℕ → List ℕ
route_text t = map_told (read_of t) (read_of t).outcome

-- the most bytes that are printed
abbrev pub most_print : ℕ
most_print = 82100

-- The lines, map texts, walks, prints and numbers of specs/Texts.antt, computed. Assumes nothing.
use Rattle.std.specs.Prelude.{Ok, Err}
use mathlib.Core.Path.{◌≡◌, refl, ap}
use mathlib.Core.Bool.{Bool, true, false, cond}
use mathlib.Core.List.{[]}
use Prim.Native.Nat.{ℕ}
use lib.Dec.{ltb}
use lib.Ieee.{le, lt, eq, mul, of_int, to_unsigned, round, size, span, climb, units, odd}
use lib.ListN.{length}
use Rattle.points.specs.declared.Refusal.TheVariants as refusal
use Rattle.costs.specs.Cost.{dist_of}
use Rattle.costs.specs.Scale.{in_bounds, scale_of}
use Rattle.masks.specs.Masks.{pruned_of}
use Rattle.states.specs.States.{cell_ok}
use Rattle.cells.specs.Cells.{sized_of, cell_of}
use Rattle.text.specs.Grammar.{more_of, number_of, coord_of}
use Rattle.lines.specs.Lines.{number_line, point_line}
use Rattle.printing.specs.Render.{digits_in}
use Rattle.rows.specs.Rows.{bad_line, cells_then, row_ok, rows_of, marks, cells_of}
use Rattle.maps.specs.Maps.{size_line, flag_line, head_of, with_head, most_text, map_of, cells_into}
use Rattle.map_printing.specs.Shown.{shown, row_text, rows_text, map_text}
use Rattle.tables.specs.Tables.{new_of}
use Rattle.grid.specs.Grids.{stated_of, new_grid, rebuild_outcome}
use Rattle.pairs.specs.Pairs.{first_bad}
use Rattle.paths.specs.Walks.{walk_of, path_from, path_of, counted_of, path_answer}
use Rattle.legs.specs.Legs.{bent_from, first_bent_of}
use Rattle.checks.specs.Checks.{free_at, all_free, check_in, check_of}
use Rattle.answers.specs.Answers.{points_text, answer_text, bad_text}
use Rattle.floors.specs.Floors.{floor_grid, read_of, shown_of, put_of}
use Rattle.boundary.specs.Lent.{links_ok, ground_ok}
use Rattle.boundary.specs.Texts.{printed_of}
use Rattle.router.specs.Route.{exact_of, checked_text, route_text}
use Rattle.examples.proofs.Searches.{computing}
use Rattle.examples.specs.Texts.{at, head_on, clear_row, wall, none_bent, three, Lines, Maps, Walks, Prints, Numbers, Texts}

lines : Lines
unfolding more_of number_of coord_of number_line point_line digits_in
lines = record {
  minus = refl;
  signs = (refl, refl, refl);
  count = (refl, refl);
  pairs = (refl, refl);
  words = (refl, refl, refl);
  points = (refl, refl);
  word_put = refl;
  put = (refl, refl);
  leading_zero = refl;
  newline = (refl, refl);
  range = (refl, refl, refl, refl);
  digits = (refl, refl);
}

maps : Maps
unfolding more_of number_of coord_of number_line point_line cells_then row_ok rows_of marks cells_of size_line flag_line head_of map_of digits_in shown row_text rows_text map_text floor_grid read_of put_of new_grid new_of
maps = record {
  whole = refl;
  diagonal = (refl, refl);
  free = refl;
  more = refl;
  line = (refl, refl);
  most = ((λ t e. ap (λ (n : ℕ). cond (ltb most_text n) (Err (bad_line 0)) (with_head t (head_of t))) e), (λ t e. ap (λ (n : ℕ). cond (ltb most_text n) (Err (bad_line 0)) (with_head t (head_of t))) e));
  glyph = refl;
  setting = refl;
  nothing = (refl, refl, refl, refl);
  dirty = refl;
  room = (
    (λ g e. ap (λ (b : Bool). cond b (Err refusal.Room) (Err refusal.State)) e),
    (λ g e. ap (λ (b : Bool). cond b (Ok (length (shown_of g true (at 0 0) (at 2 0)))) (Err refusal.State)) e),
  );
}

walks : Walks
unfolding walk_of path_from path_of first_bad counted_of path_answer cell_of free_at all_free bent_from first_bent_of check_in
walks = record {
  read = refl;
  first_blamed = refl;
  stored = refl;
  sign = refl;
  room = (refl, refl);
  place = refl;
  refused = (refl, refl, refl);
  clear = (refl, refl);
  between = refl;
  first = (refl, refl);
  outside = refl;
  within = (refl, refl);
  bent = (refl, refl);
  legs = (refl, refl, refl, refl);
  beyond = refl;
  unheard = (refl, refl, refl);
}

-- document 01's two maps, from text to text
routed : (route_text (head_on 49 clear_row) ≡ checked_text (none_bent true) 3 three) × (route_text (head_on 49 wall) ≡ answer_text 4 0 [] false)
unfolding computing more_of number_of coord_of number_line point_line cells_then row_ok rows_of marks cells_of size_line flag_line head_of map_of cells_into digits_in floor_grid read_of route_text exact_of points_text answer_text stated_of rebuild_outcome first_bad walk_of path_from path_of free_at all_free bent_from first_bent_of check_in check_of
routed = (refl, refl)

prints : Prints
unfolding digits_in points_text answer_text bad_text
prints = record {
  bad_line = refl;
  refused = refl;
  routed = routed;
  clear = (refl, refl);
  setting = (refl, refl);
}

numbers : Numbers
unfolding pruned_of dist_of in_bounds scale_of le lt eq mul of_int to_unsigned round size span climb units odd sized_of cell_ok links_ok ground_ok printed_of
numbers = record {
  flag = refl;
  point = refl;
  blamed = (refl, refl);
  unblamed = (refl, refl);
  heading = (refl, refl);
  short = (refl, refl);
  room = ((λ t. refl), (λ t. refl));
  points = refl;
}

pub texts : Texts
texts = record { lines = lines; maps = maps; walks = walks; prints = prints; numbers = numbers }

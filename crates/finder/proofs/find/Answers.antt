-- `finder::find`: a found goal leaves nodes whose parents lead back to the start. Assumes nothing.
use mathlib.Core.Path.{refl, sym, ◌∙◌}
use Prim.Native.Nat.{◌*◌}
use Rattle.finder.proofs.Ends.{floors, rooms, start_in, started, traceable, reply_found, reply_refused, find_refused, find_found}
use Rattle.finder.specs.Find.{tables_of}
use Rattle.offers.specs.Search.{view}
use Rattle.finder.proofs.find.Goals as goal

pub search-pops-requires : goal.search-pops-requires
search-pops-requires c = (rooms c.requires.0 c.args.number.now _ c.requires.1.1 refl, (c.requires.0, (floors c.requires.0 _ _ _ c.requires.1.0, start_in c.requires.0 _ c.cell_of-start.ensures)))

pub traced-requires : goal.traced-requires
traced-requires c =
    traceable (tables_of (c.args.p.w * c.args.p.h) c.args.blocked.now c.args.neighbours.now c.args.forced.now c.args.goals.now) c.args.p _ c.requires.0 (start_in c.requires.0 _ c.cell_of-start.ensures) c.search-pops.new.work _ c.in-Ok.hit
    (reply_found c.search-pops.result c.in-Ok.hit c.search-pops.new.work _ c.search-pops.ensures.searched c.in-Ok.is)

pub returns-in-Ok : goal.returns-in-Ok
returns-in-Ok c =
    find_found _ _ _ _ c.args.p (view c.search-pops.new.work) _ _ _ _
    (reply_found c.search-pops.result c.in-Ok.hit c.search-pops.new.work _ c.search-pops.ensures.searched c.in-Ok.is ∙ started _ _ _ _ c.args.p _ c.cell_of-start.ensures) c.traced.ensures

pub returns-in-Err : goal.returns-in-Err
returns-in-Err c = find_refused _ _ _ c.args.p _ _ (reply_refused c.search-pops.result c.in-Err.w c.search-pops.new.work _ c.search-pops.ensures.searched c.in-Err.is ∙ started _ _ _ _ c.args.p _ c.cell_of-start.ensures)

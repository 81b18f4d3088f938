-- `floors::write_map` meets its contract: each refusal by its test; past them the map is a fair one and fits. Assumes nothing.
-- what each test that was passed says
use mathlib.Core.Path.{◌≡◌, refl, sym, ap, ◌∙◌}
use native.Mathlib.Omega.{arith}
use borrow.Author.Tests.{lt-ltb, le-ltb}
use lib.ListN.{length}
use Rattle.maps.specs.Maps.{most_text}
use Rattle.std.specs.Prelude.{Ok}
use Rattle.floors.specs.Floors.{shown_of, put_of}
use Rattle.floors.proofs.Puts.{fair, held}
use borrow.Author.Rules.{rules}
use Rattle.floors.proofs.write_map.Goals as goal

pub returns-then-not-legal : goal.returns-then-not-legal
unfolding put_of shown_of
returns-then-not-legal c = (rw (sym c.legal.ensures ∙ c.if-not-legal.true), refl)

pub returns-then-not-legal-2 : goal.returns-then-not-legal-2
unfolding put_of shown_of
returns-then-not-legal-2 c = (rw (sym c.legal.ensures ∙ c.if-not-legal.false, sym c.legal-2.ensures ∙ c.if-not-legal-2.true), refl)

pub returns-then-not-legal-3 : goal.returns-then-not-legal-3
unfolding put_of shown_of
returns-then-not-legal-3 c = (rw (sym c.legal.ensures ∙ c.if-not-legal.false, sym c.legal-2.ensures ∙ c.if-not-legal-2.false, sym c.legal-3.ensures ∙ c.if-not-legal-3.true), refl)

pub returns-then-buf-lt-TEXT : goal.returns-then-buf-lt-TEXT
unfolding put_of shown_of
returns-then-buf-lt-TEXT c = (rw (sym c.legal.ensures ∙ c.if-not-legal.false, sym c.legal-2.ensures ∙ c.if-not-legal-2.false, sym c.legal-3.ensures ∙ c.if-not-legal-3.false, lt-ltb (length c.args.buf.now) most_text c.if-buf-lt-TEXT.true), refl)

pub put_map-requires : goal.put_map-requires
put_map-requires c =
    let a = c.args in
    let l = sym c.legal.ensures ∙ c.if-not-legal.false in
    let room : length a.g.blocked ≡ 4096 = c.well_formed.1.0.1.1.1.1.1.0.1.0.1 in
    (fair a.g a.diagonal a.start a.goal l (sym c.legal-2.ensures ∙ c.if-not-legal-2.false) (sym c.legal-3.ensures ∙ c.if-not-legal-3.false), search rules, held a.g l (omega arith))

pub returns : goal.returns
unfolding put_of shown_of
returns c =
    let a = c.args in
    (rw (sym c.legal.ensures ∙ c.if-not-legal.false, sym c.legal-2.ensures ∙ c.if-not-legal-2.false, sym c.legal-3.ensures ∙ c.if-not-legal-3.false, le-ltb (length a.buf.now) most_text c.if-buf-lt-TEXT.false) (ap Ok c.put_map.ensures.0), c.put_map.ensures.1)

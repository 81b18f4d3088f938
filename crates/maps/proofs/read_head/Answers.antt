-- `maps::read_head` meets its contract, line by line. Assumes nothing.
use mathlib.Core.Path.{◌≡◌, refl}
use Prim.Native.Nat.{◌+◌}
use Rattle.std.specs.Prelude.{Err}
use Rattle.std.proofs.Common.{rules}
use Rattle.maps.specs.Maps.{after_width, after_height, after_diagonal, after_start, after_goal}
use Rattle.maps.proofs.Laws.{head_refused, got, from_width, from_height, from_diagonal, from_start, from_goal, whole_head, after_head}
use Rattle.maps.proofs.read_head.Goals as goal

pub returns-in_err-width : goal.returns-in_err-width
returns-in_err-width c =
    let r = c.in_err-width.ensures in
    let e : c.from_residual.result ≡ Err c.in_err-width.field-0.0 = search rules in
    head_refused c.args.s.now _ _ 1 c.args.s.now _ _ e r.value r.ok_part c.size_line.ensures (after_width c.args.s.now) (from_width c.args.s.now) refl

pub returns-in_err-height : goal.returns-in_err-height
returns-in_err-height c =
    let w = got c.args.s.now _ _ c.in_ok-width.width c.in_ok-width.s c.size_line.ensures c.in_ok-width.ensures.ok_part in
    let r = c.in_err-height.ensures in
    let e : c.from_residual-in_err-height.result ≡ Err c.in_err-height.field-0.0 = search rules in
    head_refused c.args.s.now _ _ 2 c.in_ok-width.s.now _ _ e r.value r.ok_part c.size_line-2.ensures (after_height c.args.s.now c.in_ok-width.width w.0) (from_height c.args.s.now c.in_ok-width.width w.0 w.1 c.in_ok-width.s.now w.2) refl

pub returns-in_err-flag : goal.returns-in_err-flag
returns-in_err-flag c =
    let w = got c.args.s.now _ _ c.in_ok-width.width c.in_ok-width.s c.size_line.ensures c.in_ok-width.ensures.ok_part in
    let h = got c.in_ok-width.s.now _ _ c.in_ok-height.height c.in_ok-height.s c.size_line-2.ensures c.in_ok-height.ensures.ok_part in
    let r = c.in_err-flag.ensures in
    let e : c.from_residual-in_err-flag.result ≡ Err c.in_err-flag.field-0.0 = search rules in
    head_refused c.args.s.now _ _ 3 c.in_ok-height.s.now _ _ e r.value r.ok_part c.flag_line.ensures (after_diagonal c.args.s.now c.in_ok-width.width c.in_ok-height.height (w.0 + h.0)) (from_diagonal c.args.s.now c.in_ok-width.width w.0 w.1 c.in_ok-width.s.now w.2 c.in_ok-height.height h.0 h.1 c.in_ok-height.s.now h.2) refl

pub returns-in_err-start : goal.returns-in_err-start
returns-in_err-start c =
    let w = got c.args.s.now _ _ c.in_ok-width.width c.in_ok-width.s c.size_line.ensures c.in_ok-width.ensures.ok_part in
    let h = got c.in_ok-width.s.now _ _ c.in_ok-height.height c.in_ok-height.s c.size_line-2.ensures c.in_ok-height.ensures.ok_part in
    let f = got c.in_ok-height.s.now _ _ c.in_ok-flag.flag c.in_ok-flag.s c.flag_line.ensures c.in_ok-flag.ensures.ok_part in
    let r = c.in_err-start.ensures in
    let e : c.from_residual-in_err-start.result ≡ Err c.in_err-start.field-0.0 = search rules in
    head_refused c.args.s.now _ _ 4 c.in_ok-flag.s.now _ _ e r.value r.ok_part c.point_line.ensures (after_start c.args.s.now c.in_ok-width.width c.in_ok-height.height c.in_ok-flag.flag (w.0 + h.0 + f.0)) (from_start c.args.s.now c.in_ok-width.width w.0 w.1 c.in_ok-width.s.now w.2 c.in_ok-height.height h.0 h.1 c.in_ok-height.s.now h.2 c.in_ok-flag.flag f.0 f.1 c.in_ok-flag.s.now f.2) refl

pub returns-in_err-goal : goal.returns-in_err-goal
returns-in_err-goal c =
    let w = got c.args.s.now _ _ c.in_ok-width.width c.in_ok-width.s c.size_line.ensures c.in_ok-width.ensures.ok_part in
    let h = got c.in_ok-width.s.now _ _ c.in_ok-height.height c.in_ok-height.s c.size_line-2.ensures c.in_ok-height.ensures.ok_part in
    let f = got c.in_ok-height.s.now _ _ c.in_ok-flag.flag c.in_ok-flag.s c.flag_line.ensures c.in_ok-flag.ensures.ok_part in
    let s = got c.in_ok-flag.s.now _ _ c.in_ok-start.start c.in_ok-start.s c.point_line.ensures c.in_ok-start.ensures.ok_part in
    let r = c.in_err-goal.ensures in
    let e : c.from_residual-in_err-goal.result ≡ Err c.in_err-goal.field-0.0 = search rules in
    head_refused c.args.s.now _ _ 5 c.in_ok-start.s.now _ _ e r.value r.ok_part c.point_line-2.ensures (after_goal c.in_ok-width.width c.in_ok-height.height c.in_ok-flag.flag c.in_ok-start.start (w.0 + h.0 + f.0 + s.0)) (from_goal c.args.s.now c.in_ok-width.width w.0 w.1 c.in_ok-width.s.now w.2 c.in_ok-height.height h.0 h.1 c.in_ok-height.s.now h.2 c.in_ok-flag.flag f.0 f.1 c.in_ok-flag.s.now f.2 c.in_ok-start.start s.0 s.1 c.in_ok-start.s.now s.2) refl

pub returns : goal.returns
returns c =
    let w = got c.args.s.now _ _ c.in_ok-width.width c.in_ok-width.s c.size_line.ensures c.in_ok-width.ensures.ok_part in
    let h = got c.in_ok-width.s.now _ _ c.in_ok-height.height c.in_ok-height.s c.size_line-2.ensures c.in_ok-height.ensures.ok_part in
    let f = got c.in_ok-height.s.now _ _ c.in_ok-flag.flag c.in_ok-flag.s c.flag_line.ensures c.in_ok-flag.ensures.ok_part in
    let s = got c.in_ok-flag.s.now _ _ c.in_ok-start.start c.in_ok-start.s c.point_line.ensures c.in_ok-start.ensures.ok_part in
    let g = got c.in_ok-start.s.now _ _ c.in_ok-goal.goal c.in_ok-goal.s c.point_line-2.ensures c.in_ok-goal.ensures.ok_part in
    (w.0 + h.0 + f.0 + s.0 + g.0, whole_head c.args.s.now c.in_ok-width.width w.0 w.1 c.in_ok-width.s.now w.2 c.in_ok-height.height h.0 h.1 c.in_ok-height.s.now h.2 c.in_ok-flag.flag f.0 f.1 c.in_ok-flag.s.now f.2 c.in_ok-start.start s.0 s.1 c.in_ok-start.s.now s.2 c.in_ok-goal.goal g.0 g.1, after_head c.args.s.now c.in_ok-width.width w.0 w.1 c.in_ok-width.s.now w.2 c.in_ok-height.height h.0 h.1 c.in_ok-height.s.now h.2 c.in_ok-flag.flag f.0 f.1 c.in_ok-flag.s.now f.2 c.in_ok-start.start s.0 s.1 c.in_ok-start.s.now s.2 c.in_ok-goal.s.now g.0 g.2)

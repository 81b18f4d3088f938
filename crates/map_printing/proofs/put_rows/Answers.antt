-- `map_printing::put_rows` meets its contract: the rows that are yet to be stored give them all. Assumes nothing.
use mathlib.Core.Path.{refl, sym, ap, ◌∙◌}
use Prim.Native.Nat.{ℕ, ◌+◌, ◌-◌, ◌*◌, ◌≤◌}
use native.Mathlib.Nat.{suc-mul}
use native.Mathlib.Omega.{arith}
use lib.ListN.{length, take, drop, length-drop}
use lib.Seq.{sets, drop-drop}
use Rattle.rows.proofs.Laws.{row_room}
use Rattle.map_printing.proofs.Shows.{row_cut, rows_text_done, rows_text_more}
use Rattle.map_printing.proofs.put_rows.Goals as goal

pub loop-i-preserved : goal.loop-i-preserved
loop-i-preserved c =
    let a = c.args in
    let l = c.loop-i in
    let cell = l.i * a.w in
    let rest = drop cell a.blocked.now in
    let room : a.w ≤ length rest = omega (arith, row_room l.i a.h a.w (omega arith), length-drop cell a.blocked.now, c.requires) in (
      c.put_row.auto.buf ∙ l.invariant.0,
      omega (arith, l.invariant.1, suc-mul l.i (a.w + 5)),
      rows_text_more rest a.w l.buf l.end (a.h - l.i) (a.h - (l.i + 1)) (omega arith) room c.put_row.new.buf (drop ((l.i + 1) * a.w) a.blocked.now) (l.end + (a.w + 5))
          (c.put_row.ensures ∙ ap (sets l.buf l.end) (row_cut a.w rest (take (cell + a.w - cell) rest) room (ap (λ (k : ℕ). take k rest) (omega arith))))
          (sym (drop-drop a.w cell a.blocked.now ∙ ap (λ (k : ℕ). drop k a.blocked.now) (sym (suc-mul l.i a.w) ∙ omega arith)))
          refl
          ∙ l.invariant.2,
    )

pub returns : goal.returns
returns c =
    let a = c.args in
    let l = c.loop-i in (
      l.invariant.1 ∙ ap (λ (k : ℕ). a.at + k * (a.w + 5)) (omega arith),
      sym (rows_text_done (drop (l.i * a.w) a.blocked.now) a.w l.buf l.end (a.h - l.i) (omega arith)) ∙ l.invariant.2,
    )

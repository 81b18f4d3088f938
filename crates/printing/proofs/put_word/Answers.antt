-- `printing::put_word` meets its contract: the bytes of the word stand in the part that was copied to. Assumes nothing.
use mathlib.Core.Path.{refl, sym, ap, ◌∙◌}
use mathlib.Core.List.{List, ◌++◌}
use Prim.Native.Nat.{ℕ, ◌+◌, ◌-◌}
use native.Mathlib.Omega.{arith}
use borrow.Rule.Slice.PartMut.{put_mid, Post-is}
use lib.ListN.{length, take, drop}
use Rattle.std.proofs.Common.{append_assoc}
use lib.Seq.{sets-eq}
use Rattle.printing.proofs.put_word.Goals as goal

pub returns : goal.returns
returns c =
    let a = c.args in
    let end = a.at + length a.word.now in (
      refl,
      ap (put_mid a.at (end - a.at) a.buf.now) c.copy_from_slice.ensures.after
          ∙ ap (λ (l : List ℕ). take a.at a.buf.now ++ (a.word.now ++ l)) (Post-is a.at end a.buf.now (omega arith))
          ∙ sym (append_assoc (take a.at a.buf.now) a.word.now (drop end a.buf.now))
          ∙ sym (sets-eq a.word.now a.buf.now a.at c.requires),
    )

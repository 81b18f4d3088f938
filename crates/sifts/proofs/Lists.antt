-- The entries of two slices: what stands at a place, and a store. Assumes nothing.
use mathlib.Core.Path.{◌≡◌, refl, ap, sym, ◌∙◌}
use mathlib.Core.List.{List, [], ◌∷◌}
use Prim.Native.Nat.{ℕ, zero, suc, ◌+◌, ◌-◌, ◌<◌, ◌≤◌, suc-le-suc, zero-le}
use native.Mathlib.Omega.{arith}
use lib.Seq.{drop-drop}
use native.Mathlib.Nat.{not-suc-le-zero, le_of_suc-le-suc}
use lib.ListN.{length, get_or, set, drop}
use Rattle.sifts.specs.declared.Entry.{Entry}
use Rattle.sifts.specs.Sifts.{entry, entries, at, larger_of, largest}

pub length_entries : (xs ys : List ℕ) (i : ℕ) → i < length xs → i < length ys → i < length (entries xs ys)
length_entries [] ys i h k = absurd (not-suc-le-zero h)
length_entries (x ∷ xs) [] i h k = absurd (not-suc-le-zero k)
length_entries (x ∷ xs) (y ∷ ys) zero h k = suc-le-suc zero-le
length_entries (x ∷ xs) (y ∷ ys) (suc i) h k = suc-le-suc (length_entries xs ys i (le_of_suc-le-suc h) (le_of_suc-le-suc k))

pub at_entries : (xs ys : List ℕ) (i : ℕ) → i < length xs → i < length ys → at (entries xs ys) i ≡ entry (get_or xs i 0) (get_or ys i 0)
at_entries [] ys i h k = absurd (not-suc-le-zero h)
at_entries (x ∷ xs) [] i h k = absurd (not-suc-le-zero k)
at_entries (x ∷ xs) (y ∷ ys) zero h k = refl
at_entries (x ∷ xs) (y ∷ ys) (suc i) h k = at_entries xs ys i (le_of_suc-le-suc h) (le_of_suc-le-suc k)

pub set_entries : (xs ys : List ℕ) (i x y : ℕ) → entries (set xs i x) (set ys i y) ≡ set (entries xs ys) i (entry x y)
set_entries [] ys i x y = refl
set_entries (a ∷ xs) [] zero x y = refl
set_entries (a ∷ xs) [] (suc i) x y = refl
set_entries (a ∷ xs) (b ∷ ys) zero x y = refl
set_entries (a ∷ xs) (b ∷ ys) (suc i) x y = ap (λ (l : List Entry). entry a b ∷ l) (set_entries xs ys i x y)

pub largest_entries : (xs ys : List ℕ) (c : ℕ) → c + 1 < length xs → c + 1 < length ys → largest (entries xs ys) c ≡ larger_of xs c
largest_entries xs ys c h k = rw (at_entries xs ys c (omega arith) (omega arith), at_entries xs ys (c + 1) h k)

-- lists that are the same from k on are the same from n on
pub drop_more : (k n : ℕ) (xs ys : List ℕ) → k ≤ n → drop k xs ≡ drop k ys → drop n xs ≡ drop n ys
drop_more k n xs ys h q =
    let z : k + (n - k) ≡ n = omega arith in
    ap (λ (m : ℕ). drop m xs) (sym z) ∙ sym (drop-drop (n - k) k xs) ∙ ap (drop (n - k)) q ∙ drop-drop (n - k) k ys ∙ ap (λ (m : ℕ). drop m ys) z

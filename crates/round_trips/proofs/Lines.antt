-- A line that is written is read back: each coordinate, by a test that antt computes at each of the 2,048, and each number up to a limit. Assumes nothing.
use Rattle.std.specs.Prelude.{Some, None}
use mathlib.Core.Path.{◌≡◌, refl, sym, ap, ◌∙◌, subst}
use mathlib.Core.Bool.{Bool, true, false, ◌&&◌, cond}
use mathlib.Core.List.{List, [], ◌∷◌, ◌++◌, append_assoc}
use borrow.Author.Tests.{lt-ltb, eq-eqb}
use Prim.Native.Nat.{ℕ, zero, suc, ◌+◌, ◌≤◌, ◌<◌}
use mathlib.Core.Logic.{inl, inr}
use native.Mathlib.Nat.{eq-or-lt_of_le, le_of_suc-le-suc}
use native.Mathlib.Omega.{arith}
use lib.Dec.{T, eqb, eqb→eq}
use lib.IntN.{ℤ, pos, negsuc}
use lib.ListN.{length, get_or, drop, length-append}
use lib.Seq.{drop_at, get_or_at, drop-drop}
use lib.Signed.{mag}
use mir.Facts.{and_yes}
use Rattle.points.specs.Plane.{in_range, legal}
use Rattle.points.specs.declared.Point.{Point}
use Rattle.points.proofs.Halves.{mag_of}
use Rattle.points.proofs.Signed.{in_halves, parts}
use Rattle.text.specs.Grammar.{Num, Coord, coord_of, number_of, pair_of, first, second, byte_is}
use Rattle.lines.specs.Lines.{starts_with, number_end, point_end, number_line, point_line}
use Rattle.printing.specs.Render.{coord_text, digits_in, digits_of, pair_text, number_text, point_text}

-- the test passes at each number below k
abbrev pub every : (ℕ → Bool) → ℕ → Bool
every f zero = true
every f (suc k) = f k && every f k

below : (f : ℕ → Bool) (k : ℕ) → T (every f k) → (n : ℕ) → n < k → T (f n)
below f zero t n h = absurd (none n h)
  where
    none : (n : ℕ) → n < 0 → ⊥
    none n h = omega arith
below f (suc k) t n h =
    let q = and_yes (f k) (every f k) t in
    elim (eq-or-lt_of_le (le_of_suc-le-suc h)) [
      | inl e ↦ subst (λ (m : ℕ). T (f m)) (sym e) q.0
      | inr l ↦ below f k q.1 n l
    ]

-- the coordinate and the count are these
abbrev read_as : Coord → ℤ → ℕ → Bool
read_as (Some (pos a, n)) (pos b) m = eqb a b && eqb n m
read_as (Some (negsuc a, n)) (negsuc b) m = eqb a b && eqb n m
read_as (Some (pos a, n)) (negsuc b) m = false
read_as (Some (negsuc a, n)) (pos b) m = false
read_as None z m = false

read_is : (c : Coord) (z : ℤ) (m : ℕ) → T (read_as c z m) → c ≡ Some (z, m)
read_is (Some (pos a, n)) (pos b) m t = let q = and_yes (eqb a b) (eqb n m) t in λ i. Some ((pos (eqb→eq a b q.0 i)), (eqb→eq n m q.1 i))
read_is (Some (negsuc a, n)) (negsuc b) m t = let q = and_yes (eqb a b) (eqb n m) t in λ i. Some ((negsuc (eqb→eq a b q.0 i)), (eqb→eq n m q.1 i))
read_is (Some (pos a, n)) (negsuc b) m t = absurd t
read_is (Some (negsuc a, n)) (pos b) m t = absurd t
read_is None z m t = absurd t

-- both signs of the number n, before the byte c and any text
abbrev again : ℕ → List ℕ → ℕ → Bool
again c rest n = read_as (coord_of (coord_text (pos n) ++ (c ∷ rest))) (pos n) (length (coord_text (pos n))) && read_as (coord_of (coord_text (negsuc n) ++ (c ∷ rest))) (negsuc n) (length (coord_text (negsuc n)))

comma : (rest : List ℕ) → T (every (again 44 rest) 1024)
unfolding coord_of digits_in
comma rest = tt

newline : (rest : List ℕ) → T (every (again 10 rest) 1024)
unfolding coord_of digits_in
newline rest = tt

in_mag : (z : ℤ) → T (in_range z) → mag z < 1024
in_mag z t = mag_of z 1024 (omega (arith, (in_halves z t).0)) (in_halves z t).1

spread : (c : ℕ) (rest : List ℕ) → T (every (again c rest) 1024) → (z : ℤ) → T (in_range z) → coord_of (coord_text z ++ (c ∷ rest)) ≡ Some (z, (length (coord_text z)))
spread c rest t (pos n) h =
    let q = and_yes (read_as (coord_of (coord_text (pos n) ++ (c ∷ rest))) (pos n) (length (coord_text (pos n)))) (read_as (coord_of (coord_text (negsuc n) ++ (c ∷ rest))) (negsuc n) (length (coord_text (negsuc n)))) (below (again c rest) 1024 t n (in_mag (pos n) h)) in
    read_is (coord_of (coord_text (pos n) ++ (c ∷ rest))) (pos n) (length (coord_text (pos n))) q.0
spread c rest t (negsuc n) h =
    let q = and_yes (read_as (coord_of (coord_text (pos n) ++ (c ∷ rest))) (pos n) (length (coord_text (pos n)))) (read_as (coord_of (coord_text (negsuc n) ++ (c ∷ rest))) (negsuc n) (length (coord_text (negsuc n)))) (below (again c rest) 1024 t n (in_mag (negsuc n) h)) in
    read_is (coord_of (coord_text (negsuc n) ++ (c ∷ rest))) (negsuc n) (length (coord_text (negsuc n))) q.1

pub coord_again : (z : ℤ) → T (in_range z) → (rest : List ℕ) → (coord_of (coord_text z ++ (44 ∷ rest)) ≡ Some (z, (length (coord_text z)))) × (coord_of (coord_text z ++ (10 ∷ rest)) ≡ Some (z, (length (coord_text z))))
coord_again z h rest = (spread 44 rest (comma rest) z h, spread 10 rest (newline rest) z h)

begins : (word rest : List ℕ) → starts_with word (word ++ rest) ≡ true
begins [] rest = refl
begins (b ∷ bs) rest = λ i. eq-eqb b b refl i && begins bs rest i

grouped : (word body rest : List ℕ) → (word ++ (body ++ (10 ∷ []))) ++ rest ≡ word ++ (body ++ (10 ∷ rest))
grouped word body rest = append_assoc word (body ++ (10 ∷ [])) rest ∙ ap (λ (l : List ℕ). word ++ l) (append_assoc body (10 ∷ []) rest)

counted : (word body : List ℕ) → length word + length body + 1 ≡ length (word ++ (body ++ (10 ∷ [])))
counted word body = omega (arith, length-append word (body ++ (10 ∷ [])), length-append body (10 ∷ []))

-- a byte after a text
byte_after : (xs ys : List ℕ) (b : ℕ) → byte_is (xs ++ (b ∷ ys)) (length xs) b ≡ true
byte_after xs ys b =
    λ i. lt-ltb (length xs) (length (xs ++ (b ∷ ys))) (omega (arith, length-append xs (b ∷ ys))) i && eq-eqb (get_or (xs ++ (b ∷ ys)) (length xs) 0) b (get_or_at xs b ys 0 (length xs) refl) i

after : (xs ys : List ℕ) (b : ℕ) → drop (length xs + 1) (xs ++ (b ∷ ys)) ≡ ys
after xs ys b = sym (drop-drop 1 (length xs) (xs ++ (b ∷ ys))) ∙ ap (drop 1) (drop_at xs (b ∷ ys) (length xs) refl)

module _ (p : Point) (ok : T (legal p)) where
  pub pair_again : (rest : List ℕ) → pair_of (pair_text p ++ (10 ∷ rest)) ≡ Some (p, (length (pair_text p)))
  pair_again rest =
      let X = coord_text p.x in
      let Y = coord_text p.y in
      let R = Y ++ (10 ∷ rest) in
      let in_range = parts p ok in
      ap pair_of (append_assoc X (44 ∷ Y) (10 ∷ rest))
      ∙ ap (first (X ++ (44 ∷ R))) (coord_again p.x in_range.0 R).0
      ∙ (λ i. cond (byte_after X R 44 i) (second p.x (length X) (coord_of (after X R 44 i))) None)
      ∙ ap (second p.x (length X)) (coord_again p.y in_range.1 rest).1
      ∙ ap (λ (n : ℕ). Some (p, n)) (count X Y)
    where
      count : (X Y : List ℕ) → length X + 1 + length Y ≡ length (X ++ (44 ∷ Y))
      count X Y = omega (arith, length-append X (44 ∷ Y))

  pub line_again : (word rest : List ℕ) → point_line word (point_text word p ++ rest) ≡ Some (p, (length (point_text word p)))
  unfolding point_line
  line_again word rest =
      let R = pair_text p ++ (10 ∷ rest) in
      ap (point_line word) (grouped word (pair_text p) rest)
      ∙ ap (λ (t : Bool). cond t (point_end (length word) (drop (length word) (word ++ R)) (pair_of (drop (length word) (word ++ R)))) None) (begins word R)
      ∙ ap (λ (l : List ℕ). point_end (length word) l (pair_of l)) (drop_at word R (length word) refl)
      ∙ ap (point_end (length word) R) (pair_again rest)
      ∙ ap (λ (t : Bool). cond t (Some (p, (length word + length (pair_text p) + 1))) None) (byte_after (pair_text p) rest 10)
      ∙ ap (λ (n : ℕ). Some (p, n)) (counted word (pair_text p))

-- ---- a number of at most a limit, before a newline
-- the number and the count are these
abbrev pub num_as : Num → ℕ → ℕ → Bool
num_as (Some (v, n)) w m = eqb v w && eqb n m
num_as None w m = false

num_is : (c : Num) (v m : ℕ) → T (num_as c v m) → c ≡ Some (v, m)
num_is (Some (a, n)) v m t = let q = and_yes (eqb a v) (eqb n m) t in λ i. Some ((eqb→eq a v q.0 i), (eqb→eq n m q.1 i))
num_is None v m t = absurd t

-- a limit such that each number up to it is read back
abbrev pub Reads : ℕ → Type 0
Reads limit = (rest : List ℕ) → T (every (λ n. num_as (number_of limit (digits_of n ++ (10 ∷ rest))) n (length (digits_of n))) (suc limit))

-- a size is read as a number up to 1,024, and a flag as one up to 9
pub sides : Reads 1024
unfolding number_of digits_in
sides rest = tt

pub digits : Reads 9
unfolding number_of digits_in
digits rest = tt

module _ (limit : ℕ) (test : Reads limit) (n : ℕ) (h : n ≤ limit) where
  number_again : (rest : List ℕ) → number_of limit (digits_of n ++ (10 ∷ rest)) ≡ Some (n, (length (digits_of n)))
  number_again rest = num_is (number_of limit (digits_of n ++ (10 ∷ rest))) n (length (digits_of n)) (below (λ n. num_as (number_of limit (digits_of n ++ (10 ∷ rest))) n (length (digits_of n))) (suc limit) (test rest) n (omega arith))

  pub number_line_again : (word rest : List ℕ) → number_line word limit (number_text word n ++ rest) ≡ Some (n, (length (number_text word n)))
  unfolding number_line
  number_line_again word rest =
      let R = digits_of n ++ (10 ∷ rest) in
      ap (number_line word limit) (grouped word (digits_of n) rest)
      ∙ ap (λ (t : Bool). cond t (number_end (length word) (drop (length word) (word ++ R)) (number_of limit (drop (length word) (word ++ R)))) None) (begins word R)
      ∙ ap (λ (l : List ℕ). number_end (length word) l (number_of limit l)) (drop_at word R (length word) refl)
      ∙ ap (number_end (length word) R) (number_again rest)
      ∙ ap (λ (t : Bool). cond t (Some (n, (length word + length (digits_of n) + 1))) None) (byte_after (digits_of n) rest 10)
      ∙ ap (λ (k : ℕ). Some (n, k)) (counted word (digits_of n))

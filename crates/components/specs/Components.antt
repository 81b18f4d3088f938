-- The union-find of document 01, over two lists: p, the cells' parents, and k, their ranks. A cell is a number below n.
-- Assumes nothing.
use Rattle.std.specs.Prelude.{◌≡◌, ◌⊎◌, cond, List, ℕ, zero, suc, ◌+◌, ◌^◌, ◌≤◌, ◌<◌, length, get_or, set, eqb, ltb}

-- cell i is its own parent, or its parent is a cell of higher rank
abbrev pub Up : ℕ → List ℕ → List ℕ → ℕ → Type 0
Up n p k i = (get_or p i 0 ≡ i) ⊎ ((get_or p i 0 < n) × (get_or k i 0 < get_or k (get_or p i 0) 0))

-- a legal state whose ranks are at most b. Document 01's legal state has b = 200
pub record Forest (b n : ℕ) (p k : List ℕ) : Type 0 where
  pub in_p : n ≤ length p
  pub in_k : n ≤ length k
  pub low : (i : ℕ) → i < n → get_or k i 0 ≤ b
  pub up : (i : ℕ) → i < n → Up n p k i

-- f steps from x to the parent. A root is its own parent, so further steps stay there
unfoldable pub climb : ℕ → List ℕ → ℕ → ℕ
climb zero p x = x
climb (suc f) p x = climb f p (get_or p x 0)

-- the root of x: a rank is a u8 and rises at each step, so there are fewer than 256
unfoldable pub root_of : List ℕ → ℕ → ℕ
root_of p x = climb 256 p x

-- path halving, f turns: x's parent becomes its grandparent, and the walk goes on at the old parent. At a root a turn changes nothing
unfoldable pub halves : ℕ → List ℕ → ℕ → List ℕ
halves zero p x = p
halves (suc f) p x = halves f (set p x (get_or p (get_or p x 0) 0)) (get_or p x 0)

-- the way from x to its root, halved
unfoldable pub halve : List ℕ → ℕ → List ℕ
halve p x = halves 256 p x

-- the two lists: what the components are made of
pub record Links : Type 0 where
  pub parent : List ℕ
  pub rank : List ℕ

-- two roots r and s are linked: the lower rank goes below the higher; at equal ranks s goes below r, and r's rank rises
unfoldable pub linked : List ℕ → List ℕ → ℕ → ℕ → Links
linked p k r s =
    cond (ltb (get_or k r 0) (get_or k s 0))
    (record { parent = set p r s; rank = k })
    (cond (ltb (get_or k s 0) (get_or k r 0))
    (record { parent = set p s r; rank = k })
    (record { parent = set p s r; rank = set k r (get_or k r 0 + 1) }))

-- x and y are joined: nothing where they are one cell; else both ways are halved, x's first, and the roots linked where they differ
unfoldable pub united : List ℕ → List ℕ → ℕ → ℕ → Links
united p k x y =
    cond (eqb x y)
    (record { parent = p; rank = k })
    (cond (eqb (root_of p x) (root_of p y))
    (record { parent = halve (halve p x) y; rank = k })
    (linked (halve (halve p x) y) k (root_of p x) (root_of p y)))

-- a and c are in one component
abbrev pub Same : List ℕ → ℕ → ℕ → Type 0
Same p a c = root_of p a ≡ root_of p c

-- a and c are in one component once x and y are joined
abbrev pub SameWith : List ℕ → ℕ → ℕ → ℕ → ℕ → Type 0
SameWith p x y a c = Same p a c ⊎ ((Same p a x × Same p c y) ⊎ (Same p a y × Same p c x))

-- the sum of w over the first n numbers
unfoldable pub sum : ℕ → (ℕ → ℕ) → ℕ
sum zero w = 0
sum (suc n) w = sum n w + w n

-- a root weighs two to its rank, any other cell nothing. No union makes the whole heavier, so in a forest of singletons' making no rank is above log2 n
unfoldable pub weight : List ℕ → List ℕ → ℕ → ℕ
weight p k i = cond (eqb (get_or p i 0) i) (2 ^ get_or k i 0) 0

-- a legal state whose ranks a forest of 2 ^ m cells can have
pub record Light (m n : ℕ) (p k : List ℕ) : Type 0 where
  pub forest : Forest m n p k
  pub weighs : sum n (weight p k) ≤ 2 ^ m

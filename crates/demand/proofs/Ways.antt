-- Directions and steps: a step is a direction of the neighbourhood, and in one of its two senses a direction of the rebuild. Assumes nothing.
use mathlib.Core.Path.{◌≡◌, refl, sym, subst, ◌∙◌}
use mathlib.Core.Logic.{◌⊎◌, ⊎_elim, inl, inr}
use mathlib.Core.Bool.{Bool, true, false, ◌&&◌, ◌||◌}
use mathlib.Core.List.{List, [], ◌∷◌}
use Prim.Native.Nat.{ℕ, ◌+◌, ◌-◌, ◌*◌, ◌≤◌, ◌<◌}
use native.Mathlib.Omega.{arith}
use native.Mathlib.Decide.{ℕ_discrete}
use lib.Dec.{T, eqb, ltb, eqb→eq, ltb→lt}
use Rattle.cells.specs.Cells.{cell_to}
use Rattle.directions.specs.Offsets.{off_x, off_y}
use Rattle.points.proofs.Signed.{off_x_le, off_y_le}
use Rattle.cells.proofs.Cell.{cell_in, in_or_out}
use Rattle.cells.proofs.Small.{both_left, both_right}
use Rattle.joins.specs.Joins.{around, ahead}
use Rattle.demand.specs.Walks.{Step}

-- d is in the list
abbrev pub In : ℕ → List ℕ → Type 0
In d [] = ⊥
In d (e ∷ es) = (d ≡ e) ⊎ In d es

abbrev all_in : (ℕ → Bool) → List ℕ → Bool
all_in f [] = true
all_in f (e ∷ es) = ((f e) && (all_in f es))

in_test : (f : ℕ → Bool) (ds : List ℕ) → T (all_in f ds) → (d : ℕ) → In d ds → T (f d)
in_test f [] t d i = absurd i
in_test f (e ∷ es) t d (inl q) = subst (λ (m : ℕ). T (f m)) (sym q) (both_left (f e) (all_in f es) t)
in_test f (e ∷ es) t d (inr i) = in_test f es (both_right (f e) (all_in f es) t) d i

pub in_around : (diagonal : Bool) (d : ℕ) → In d (ahead diagonal) → In d (around diagonal)
unfolding around ahead
in_around true d (inl e) = inr (inr (inr (inr (inl e))))
in_around true d (inr (inl e)) = inl e
in_around true d (inr (inr (inl e))) = inr (inr (inl e))
in_around true d (inr (inr (inr (inl e)))) = inr (inl e)
in_around true d (inr (inr (inr (inr (inl e))))) = inr (inr (inl e))
in_around true d (inr (inr (inr (inr (inr (inl e)))))) = inr (inr (inr (inl e)))
in_around true d (inr (inr (inr (inr (inr (inr z)))))) = absurd z
in_around false d (inl e) = inr (inr (inl e))
in_around false d (inr (inl e)) = inl e
in_around false d (inr (inr (inl e))) = inr (inl e)
in_around false d (inr (inr (inr z))) = absurd z

-- the neighbour in direction d is (i, j)
pub hits : (w h x y d i j : ℕ) → i < w → j < h → x + off_x d ≡ i + 1 → y + off_y d ≡ j + 1 → cell_to w h x y d ≡ j * w + i
hits w h x y d i j hi hj ep eq =
    let p = x + off_x d in
    let q = y + off_y d in
    let e1 : p - 1 ≡ i = omega arith in
    let e2 : q - 1 ≡ j = omega arith in
    cell_in w h p q (omega arith) (omega arith) (omega arith) (omega arith) ∙ rw (e1, e2)

-- a direction of the list ds that leads from (x, y) to (i, j)
pub record Way (ds : List ℕ) (w h x y i j : ℕ) : Type 0 where
  pub d : ℕ
  pub listed : In d ds
  pub to : cell_to w h x y d ≡ j * w + i

abbrev Near : ℕ → ℕ → Type 0
Near x i = (i + 1 ≡ x) ⊎ ((i ≡ x) ⊎ (i ≡ x + 1))

near : (x i : ℕ) → (i ≤ x + 1) × (x ≤ i + 1) → Near x i
near x i l = go (ℕ_discrete i x) (ℕ_discrete (i + 1) x)
  where
    go : Dec (i ≡ x) → Dec (i + 1 ≡ x) → Near x i
    go (yes e) d = inr (inl e)
    go (no n) (yes e) = inl e
    go (no n) (no k) = inr (inr (omega (arith, l.0, l.1)))

-- the nine ways in which two places are near
pub nine : {P : Type 0} (x y i j : ℕ) → Near x i → Near y j
    → (i ≡ x → j ≡ y → P)
    → (i ≡ x → j + 1 ≡ y → P) → (i ≡ x + 1 → j + 1 ≡ y → P) → (i ≡ x + 1 → j ≡ y → P) → (i ≡ x + 1 → j ≡ y + 1 → P)
    → (i ≡ x → j ≡ y + 1 → P) → (i + 1 ≡ x → j ≡ y + 1 → P) → (i + 1 ≡ x → j ≡ y → P) → (i + 1 ≡ x → j + 1 ≡ y → P) → P
nine x y i j (inl a) (inl b) s d0 d1 d2 d3 d4 d5 d6 d7 = d7 a b
nine x y i j (inl a) (inr (inl b)) s d0 d1 d2 d3 d4 d5 d6 d7 = d6 a b
nine x y i j (inl a) (inr (inr b)) s d0 d1 d2 d3 d4 d5 d6 d7 = d5 a b
nine x y i j (inr (inl a)) (inl b) s d0 d1 d2 d3 d4 d5 d6 d7 = d0 a b
nine x y i j (inr (inl a)) (inr (inl b)) s d0 d1 d2 d3 d4 d5 d6 d7 = s a b
nine x y i j (inr (inl a)) (inr (inr b)) s d0 d1 d2 d3 d4 d5 d6 d7 = d4 a b
nine x y i j (inr (inr a)) (inl b) s d0 d1 d2 d3 d4 d5 d6 d7 = d1 a b
nine x y i j (inr (inr a)) (inr (inl b)) s d0 d1 d2 d3 d4 d5 d6 d7 = d2 a b
nine x y i j (inr (inr a)) (inr (inr b)) s d0 d1 d2 d3 d4 d5 d6 d7 = d3 a b

slanted : {diagonal : Bool} {x y i j : ℕ} → Step diagonal x y i j → (x ≡ i → ⊥) → (y ≡ j → ⊥) → diagonal ≡ true
slanted s nx ny = ⊎_elim (λ d. d) (λ e. absurd (⊎_elim (λ p. nx p) (λ q. ny q) e)) s.straight

module _ (w h : ℕ) (diagonal : Bool) where
  -- the even directions are in each neighbourhood, the odd ones in the larger
  even_in : In 0 (around diagonal) × In 2 (around diagonal) × In 4 (around diagonal) × In 6 (around diagonal)
  unfolding around
  even_in = go diagonal
    where
      go : (b : Bool) → In 0 (around b) × In 2 (around b) × In 4 (around b) × In 6 (around b)
      go true = (inl refl, inr (inr (inl refl)), inr (inr (inr (inr (inl refl)))), inr (inr (inr (inr (inr (inr (inl refl)))))))
      go false = (inl refl, inr (inl refl), inr (inr (inl refl)), inr (inr (inr (inl refl))))

  odd_in : diagonal ≡ true → In 1 (around diagonal) × In 3 (around diagonal) × In 5 (around diagonal) × In 7 (around diagonal)
  unfolding around
  odd_in e = rw e (inr (inl refl), inr (inr (inr (inl refl))), inr (inr (inr (inr (inr (inl refl))))), inr (inr (inr (inr (inr (inr (inr (inl refl))))))))

  even_ahead : In 0 (ahead diagonal) × In 2 (ahead diagonal) × In 4 (ahead diagonal)
  unfolding ahead
  even_ahead = go diagonal
    where
      go : (b : Bool) → In 0 (ahead b) × In 2 (ahead b) × In 4 (ahead b)
      go true = (inr (inl refl), inr (inr (inl refl)), inl refl)
      go false = (inr (inl refl), inr (inr (inl refl)), inl refl)

  odd_ahead : diagonal ≡ true → In 1 (ahead diagonal) × In 3 (ahead diagonal)
  unfolding ahead
  odd_ahead e = rw e (inr (inr (inr (inl refl))), inr (inr (inr (inr (inr (inl refl))))))

  module _ (x y i j : ℕ) (hx : x < w) (hy : y < h) (hi : i < w) (hj : j < h) (s : Step diagonal x y i j) where
    abbrev Here : Type 0
    Here = (x ≡ i) × (y ≡ j)

    way : (ds : List ℕ) (d : ℕ) → In d ds → x + off_x d ≡ i + 1 → y + off_y d ≡ j + 1 → Way ds w h x y i j
    way ds d q a b = record { d = d; listed = q; to = hits w h x y d i j hi hj a b }

    yaw : (ds : List ℕ) (d : ℕ) → In d ds → i + off_x d ≡ x + 1 → j + off_y d ≡ y + 1 → Way ds w h i j x y
    yaw ds d q a b = record { d = d; listed = q; to = hits w h i j d x y hx hy a b }

    -- LAW: a step is a direction of the neighbourhood, or none
    pub step_around : Here ⊎ Way (around diagonal) w h x y i j
    unfolding off_x off_y
    step_around =
        nine x y i j (near x i s.across) (near y j s.along)
        (λ a b. inl (sym a, sym b))
        (λ a b. inr (way (around diagonal) 0 even_in.0 (omega arith) (omega arith)))
        (λ a b. inr (way (around diagonal) 1 (odd_in (slanted s (λ p. omega arith) (λ q. omega arith))).0 (omega arith) (omega arith)))
        (λ a b. inr (way (around diagonal) 2 even_in.1 (omega arith) (omega arith)))
        (λ a b. inr (way (around diagonal) 3 (odd_in (slanted s (λ p. omega arith) (λ q. omega arith))).1 (omega arith) (omega arith)))
        (λ a b. inr (way (around diagonal) 4 even_in.2 (omega arith) (omega arith)))
        (λ a b. inr (way (around diagonal) 5 (odd_in (slanted s (λ p. omega arith) (λ q. omega arith))).2 (omega arith) (omega arith)))
        (λ a b. inr (way (around diagonal) 6 even_in.3 (omega arith) (omega arith)))
        (λ a b. inr (way (around diagonal) 7 (odd_in (slanted s (λ p. omega arith) (λ q. omega arith))).3 (omega arith) (omega arith)))

    -- LAW: in one of its two senses it is a direction of the rebuild
    pub step_ahead : Here ⊎ (Way (ahead diagonal) w h x y i j ⊎ Way (ahead diagonal) w h i j x y)
    unfolding off_x off_y
    step_ahead =
        nine x y i j (near x i s.across) (near y j s.along)
        (λ a b. inl (sym a, sym b))
        (λ a b. inr (inl (way (ahead diagonal) 0 even_ahead.0 (omega arith) (omega arith))))
        (λ a b. inr (inl (way (ahead diagonal) 1 (odd_ahead (slanted s (λ p. omega arith) (λ q. omega arith))).0 (omega arith) (omega arith))))
        (λ a b. inr (inl (way (ahead diagonal) 2 even_ahead.1 (omega arith) (omega arith))))
        (λ a b. inr (inl (way (ahead diagonal) 3 (odd_ahead (slanted s (λ p. omega arith) (λ q. omega arith))).1 (omega arith) (omega arith))))
        (λ a b. inr (inl (way (ahead diagonal) 4 even_ahead.2 (omega arith) (omega arith))))
        (λ a b. inr (inr (yaw (ahead diagonal) 1 (odd_ahead (slanted s (λ p. omega arith) (λ q. omega arith))).0 (omega arith) (omega arith))))
        (λ a b. inr (inr (yaw (ahead diagonal) 2 even_ahead.1 (omega arith) (omega arith))))
        (λ a b. inr (inr (yaw (ahead diagonal) 3 (odd_ahead (slanted s (λ p. omega arith) (λ q. omega arith))).1 (omega arith) (omega arith))))

-- a direction of the neighbourhood lands on a cell that is a step away, where it lands inside
pub record Lands (w h : ℕ) (diagonal : Bool) (x y c : ℕ) : Type 0 where
  pub i : ℕ
  pub j : ℕ
  pub left : i < w
  pub down : j < h
  pub at : c ≡ j * w + i
  pub step : Step diagonal x y i j

in_eight : (diagonal : Bool) (d : ℕ) → In d (around diagonal) → d < 8
unfolding around
in_eight true d q = ltb→lt d 8 (in_test (λ k. ltb k 8) (0 ∷ 1 ∷ 2 ∷ 3 ∷ 4 ∷ 5 ∷ 6 ∷ 7 ∷ []) tt d q)
in_eight false d q = ltb→lt d 8 (in_test (λ k. ltb k 8) (0 ∷ 2 ∷ 4 ∷ 6 ∷ []) tt d q)

either_or : (a b : Bool) → T (a || b) → T a ⊎ T b
either_or true b t = inl tt
either_or false b t = inr t

in_straight : (diagonal : Bool) (d : ℕ) → In d (around diagonal) → (diagonal ≡ true) ⊎ ((off_x d ≡ 1) ⊎ (off_y d ≡ 1))
unfolding around off_x off_y
in_straight true d q = inl refl
in_straight false d q =
    inr (⊎_elim (λ a. inl (eqb→eq _ _ a)) (λ b. inr (eqb→eq _ _ b))
    (either_or (eqb (off_x d) 1) (eqb (off_y d) 1)
    (in_test (λ k. eqb (off_x k) 1 || eqb (off_y k) 1) (0 ∷ 2 ∷ 4 ∷ 6 ∷ []) tt d q)))

pub lands : (w h : ℕ) (diagonal : Bool) (x y d : ℕ) → x < w → y < h → In d (around diagonal) → cell_to w h x y d < w * h → Lands w h diagonal x y (cell_to w h x y d)
lands w h diagonal x y d hx hy q l =
    ⊎_elim (λ out. absurd (omega (arith, out))) inner (in_or_out w h (x + off_x d) (y + off_y d))
  where
    inner : ((1 ≤ x + off_x d) × (x + off_x d ≤ w) × (1 ≤ y + off_y d) × (y + off_y d ≤ h)) → Lands w h diagonal x y (cell_to w h x y d)
    inner (a, b, c, e) =
        let ox = off_x_le d (in_eight diagonal d q) in
        let oy = off_y_le d (in_eight diagonal d q) in
        record {
          i = x + off_x d - 1;
          j = y + off_y d - 1;
          left = omega arith;
          down = omega arith;
          at = cell_in w h (x + off_x d) (y + off_y d) a b c e;
          step = record {
            across = (omega arith, omega arith);
            along = (omega arith, omega arith);
            straight = ⊎_elim (λ t. inl t) (λ z. inr (⊎_elim (λ p. inl (omega (arith, p))) (λ p. inr (omega (arith, p))) z)) (in_straight diagonal d q);
          };
        }

-- What every join keeps, the folds of an edit and of a rebuild keep; what one of their joins makes, they make. Then: components only grow, a join
-- that a fold makes holds at its end, and an equivalence that has each join of a fold has the components at its end. Assumes nothing.
use mathlib.Core.Path.{◌≡◌, refl, subst, ◌∙◌}
use mathlib.Core.Logic.{inl, inr}
use mathlib.Core.Bool.{Bool, true, false, cond}
use mathlib.Core.List.{List, [], ◌∷◌}
use Prim.Native.Nat.{ℕ, zero, suc, ◌+◌, ◌*◌, ◌≤◌, ◌<◌}
use native.Mathlib.Omega.{arith}
use native.Mathlib.Decide.{ℕ_discrete}
use lib.ListN.{get_or}
use lib.Dec.{eqb}
use borrow.Author.Tests.{eqb-true}
use Rattle.components.specs.Components.{Links, united, Same, SameWith}
use Rattle.components.proofs.Roots
use Rattle.components.proofs.Weight
use Rattle.cells.specs.Cells.{cell_to}
use Rattle.joins.specs.Joins.{ahead, join_cell, joined_to}
use Rattle.rebuilds.specs.Rebuilds.{cell_joined, column_to, columns_to}
use Rattle.joins.proofs.Joins.{join_cases, join_free, Held}
use Rattle.rebuilds.proofs.Rebuilds.{cell_free}
use Rattle.demand.proofs.Ways.{In}

abbrev pub join_to : Links → ℕ → ℕ → Links
join_to v i c = united v.parent v.rank i c

module _ (w h : ℕ) (blocked : List ℕ) where
  -- P is kept by the join of (x, y) with its neighbour in direction d, where that is a free cell
  abbrev pub Keeps : (Links → Type 0) → ℕ → ℕ → ℕ → Type 0
  Keeps P x y d = cell_to w h x y d < w * h → get_or blocked (cell_to w h x y d) 0 ≡ 0 → (v : Links) → P v → P (join_to v (y * w + x) (cell_to w h x y d))

  -- what each join keeps, a run keeps
  pub joined_all : (P : Links → Type 0) (x y : ℕ) (ds : List ℕ) → ((d : ℕ) → In d ds → Keeps P x y d) → (u : Links) → P u → P (joined_to w h blocked x y ds u)
  unfolding joined_to
  joined_all P x y [] k u p = p
  joined_all P x y (d ∷ ds) k u p =
      joined_all P x y ds (λ e q. k e (inr q)) _
      (join_cases P (w * h) blocked (y * w + x) (cell_to w h x y d) u p (λ l f. k d (inl refl) l f u p))

  -- what one join makes of a state with H, a run with that join makes
  module _ (H Q : Links → Type 0) (x y d : ℕ) (l : cell_to w h x y d < w * h) (f : get_or blocked (cell_to w h x y d) 0 ≡ 0)
      (makes : (v : Links) → H v → Q (join_to v (y * w + x) (cell_to w h x y d))) where
    pub joined_hit : (ds : List ℕ) → In d ds → ((e : ℕ) → In e ds → Keeps H x y e) → ((e : ℕ) → In e ds → Keeps Q x y e) → (u : Links) → H u → Q (joined_to w h blocked x y ds u)
    unfolding joined_to
    joined_hit [] z kh kq u hu = absurd z
    joined_hit (e ∷ ds) (inl q) kh kq u hu =
        joined_all Q x y ds (λ g r. kq g (inr r)) _
        (subst (λ (m : ℕ). Q (join_cell (w * h) blocked (y * w + x) (cell_to w h x y m) u)) q (rw (join_free (w * h) blocked (y * w + x) (cell_to w h x y d) u l f) (makes u hu)))
    joined_hit (e ∷ ds) (inr q) kh kq u hu =
        joined_hit ds q (λ g r. kh g (inr r)) (λ g r. kq g (inr r)) _
        (join_cases H (w * h) blocked (y * w + x) (cell_to w h x y e) u hu (λ a b. kh e (inl refl) a b u hu))

  module _ (diagonal : Bool) where
    -- P is kept by each join of a rebuild
    abbrev pub Steady : (Links → Type 0) → Type 0
    Steady P = (x y d : ℕ) → x < w → y < h → get_or blocked (y * w + x) 0 ≡ 0 → In d (ahead diagonal) → Keeps P x y d

    cell_all : (P : Links → Type 0) → Steady P → (x y : ℕ) → x < w → y < h → (u : Links) → P u → P (cell_joined w h diagonal blocked x y u)
    unfolding cell_joined
    cell_all P k x y hx hy u p = go (eqb (get_or blocked (y * w + x) 0) 0) refl
      where
        go : (t : Bool) → eqb (get_or blocked (y * w + x) 0) 0 ≡ t → P (cond t (joined_to w h blocked x y (ahead diagonal) u) u)
        go true e = joined_all P x y (ahead diagonal) (λ d q. k x y d hx hy (eqb-true _ _ e) q) u p
        go false e = p

    column_all : (P : Links → Type 0) → Steady P → (x : ℕ) → x < w → (m : ℕ) → m ≤ h → (u : Links) → P u → P (column_to w h diagonal blocked x m u)
    unfolding column_to
    column_all P k x hx zero hm u p = p
    column_all P k x hx (suc m) hm u p = cell_all P k x m hx hm _ (column_all P k x hx m (omega arith) u p)

    pub columns_all : (P : Links → Type 0) → Steady P → (m : ℕ) → m ≤ w → (u : Links) → P u → P (columns_to w h diagonal blocked m u)
    unfolding columns_to
    columns_all P k zero hm u p = p
    columns_all P k (suc m) hm u p = column_all P k m hm h (omega arith) _ (columns_all P k m (omega arith) u p)

    module _ (H Q : Links → Type 0) (kh : Steady H) (kq : Steady Q) (x y d : ℕ) (hx : x < w) (hy : y < h) (free : get_or blocked (y * w + x) 0 ≡ 0)
        (q : In d (ahead diagonal)) (l : cell_to w h x y d < w * h) (f : get_or blocked (cell_to w h x y d) 0 ≡ 0)
        (makes : (v : Links) → H v → Q (join_to v (y * w + x) (cell_to w h x y d))) where
      cell_hit : (u : Links) → H u → Q (cell_joined w h diagonal blocked x y u)
      cell_hit u hu =
          rw (← cell_free w h diagonal blocked x y u free)
          (joined_hit H Q x y d l f makes (ahead diagonal) q (λ e r. kh x y e hx hy free r) (λ e r. kq x y e hx hy free r) u hu)

      column_hit : (m : ℕ) → m ≤ h → y < m → (u : Links) → H u → Q (column_to w h diagonal blocked x m u)
      unfolding column_to
      column_hit zero hm l u hu = absurd (omega arith)
      column_hit (suc m) hm l u hu = go (ℕ_discrete y m) (λ l'. column_hit m (omega arith) l' u hu)
        where
          go : Dec (y ≡ m) → (y < m → Q (column_to w h diagonal blocked x m u)) → Q (cell_joined w h diagonal blocked x m (column_to w h diagonal blocked x m u))
          go (yes e) ih = rw (← e) (cell_hit _ (column_all H kh x hx y (omega arith) u hu))
          go (no n) ih = cell_all Q kq x m hx hm _ (ih (omega arith))

      pub columns_hit : (m : ℕ) → m ≤ w → x < m → (u : Links) → H u → Q (columns_to w h diagonal blocked m u)
      unfolding columns_to
      columns_hit zero hm l u hu = absurd (omega arith)
      columns_hit (suc m) hm l u hu = go (ℕ_discrete x m) (λ l'. columns_hit m (omega arith) l' u hu)
        where
          go : Dec (x ≡ m) → (x < m → Q (columns_to w h diagonal blocked m u)) → Q (column_to w h diagonal blocked m h (columns_to w h diagonal blocked m u))
          go (yes e) ih = rw (← e) (column_hit h (omega arith) hy _ (columns_all H kh x (omega arith) u hu))
          go (no n) ih = column_all Q kq m hm h (omega arith) _ (ih (omega arith))

-- an equivalence of cells
pub record Equivalence (R : ℕ → ℕ → Type 0) : Type 0 where
  pub self : (a : ℕ) → R a a
  pub turn : (a c : ℕ) → R a c → R c a
  pub chain : (a b c : ℕ) → R a b → R b c → R a c

-- a light forest in which a and c share a component
pub record Sharing (m n : ℕ) (u : Links) (a c : ℕ) (v : Links) : Type 0 where
  pub held : Held m n u v
  pub same : Same v.parent a c

-- a light forest whose components are within R
pub record Inside (m n : ℕ) (u : Links) (R : ℕ → ℕ → Type 0) (v : Links) : Type 0 where
  pub held : Held m n u v
  pub only : (a c : ℕ) → a < n → c < n → Same v.parent a c → R a c

module _ {m n : ℕ} (small : m ≤ 254) (u : Links) where
  module _ (v : Links) (K : Held m n u v) (i c : ℕ) (hi : i < n) (hc : c < n) where
    J : Roots.Joined m n v.parent v.rank i c (join_to v i c)
    J = Roots.united_law K.light.forest small i c hi hc

    pub held_join : Held m n u (join_to v i c)
    held_join = record { light = Weight.united_light K.light small i c hi hc; long_p = J.long_p ∙ K.long_p; long_k = J.long_k ∙ K.long_k }

    pub sharing_made : Sharing m n u i c (join_to v i c)
    sharing_made = record { held = held_join; same = (J.same i c hi hc).1 (inr (inl (refl, refl))) }

    pub sharing_join : (a e : ℕ) → a < n → e < n → Same v.parent a e → Sharing m n u a e (join_to v i c)
    sharing_join a e ha he q = record { held = held_join; same = (J.same a e ha he).1 (inl q) }

    pub inside_join : (R : ℕ → ℕ → Type 0) → Equivalence R → ((a e : ℕ) → a < n → e < n → Same v.parent a e → R a e) → R i c → Inside m n u R (join_to v i c)
    inside_join R E S r = record { held = held_join; only = λ a e ha he q. go a e ha he ((J.same a e ha he).0 q) }
      where
        go : (a e : ℕ) → a < n → e < n → SameWith v.parent i c a e → R a e
        go a e ha he (inl q) = S a e ha he q
        go a e ha he (inr (inl z)) = E.chain a i e (S a i ha hi z.0) (E.chain i c e r (E.turn e c (S e c he hc z.1)))
        go a e ha he (inr (inr z)) = E.chain a c e (S a c ha hc z.0) (E.chain c i e (E.turn i c r) (E.turn e i (S e i he hi z.1)))

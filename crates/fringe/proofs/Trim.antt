-- The heap is the first entries of the slices: sift_up and sift_down_to_bottom look at no others. Assumes nothing.
use mathlib.Core.Path.{◌≡◌, refl, ap, sym, ◌∙◌}
use mathlib.Core.List.{List, [], ◌∷◌, ◌++◌}
use Prim.Native.Nat.{ℕ, zero, suc, ◌+◌, ◌-◌, ◌*◌, ◌<◌, ◌≤◌}
use native.Mathlib.Omega.{arith}
use native.Mathlib.Numerals.{add-one}
use borrow.Author.Tests.{le-leb, lt-leb}
use lib.ListN.{length, set, take}
use lib.Seq.{take-set-lt, get_or-take, set-set, get_or-set_other, take-suc-set, length-take-le, take-take}
use Rattle.sifts.specs.declared.Entry.{Entry}
use Rattle.sifts.specs.Sifts.{entry, at, parent, up, down, largest}
use Rattle.fringe.specs.Fringe.{push, top, rest}
use Rattle.sifts.proofs.Turns.{by_order, up_root, up_stop, up_turn, down_two, down_one, down_leaf}

-- what stands in the hole is not looked at
pub up_blank : (f : ℕ) (l : List Entry) (p : ℕ) (x e : Entry) → p ≤ f → up f (set l p x) p e ≡ up f l p e
up_blank zero l p x e b = up_root zero (set l p x) p e b ∙ set-set l p x e ∙ sym (up_root zero l p e b)
up_blank (suc f) l p x e b =
    by_order p 0
    (λ h. up_root (suc f) (set l p x) p e h ∙ set-set l p x e ∙ sym (up_root (suc f) l p e h))
    (λ h.
    let same : at (set l p x) (parent p) ≡ at l (parent p) = get_or-set_other l p (parent p) x (entry 0 0) (omega arith) in
    by_order e.key (at l (parent p)).key
    (λ k. up_stop (suc f) (set l p x) p e (rw same k) ∙ set-set l p x e ∙ sym (up_stop (suc f) l p e k))
    (λ k. up_turn f (set l p x) p e h (rw same k) ∙ rw (same, set-set) (sym (up_turn f l p e h k))))

pub up_take : (m f : ℕ) (l : List Entry) (p : ℕ) (e : Entry) → p ≤ f → p < m → take m (up f l p e) ≡ up f (take m l) p e
up_take m zero l p e b c = rw (up_root zero l p e b, up_root zero (take m l) p e b) (take-set-lt m l p e c)
up_take m (suc f) l p e b c =
    by_order p 0
    (λ h. rw (up_root (suc f) l p e h, up_root (suc f) (take m l) p e h) (take-set-lt m l p e c))
    (λ h.
    let lo : parent p ≤ f = omega arith in
    let lm : parent p < m = omega arith in
    let same : at (take m l) (parent p) ≡ at l (parent p) = get_or-take m l (parent p) (entry 0 0) lm in
    by_order e.key (at l (parent p)).key
    (λ k. rw (up_stop (suc f) l p e k, up_stop (suc f) (take m l) p e (rw same k)) (take-set-lt m l p e c))
    (λ k. rw (up_turn f l p e h k, up_turn f (take m l) p e h (rw same k), same)
    (up_take m f (set l p (at l (parent p))) (parent p) e lo lm ∙ ap (λ (z : List Entry). up f z (parent p) e) (take-set-lt m l p (at l (parent p)) c))))

largest_take : (m : ℕ) (l : List Entry) (c : ℕ) → c + 1 < m → largest (take m l) c ≡ largest l c
largest_take m l c h = rw (get_or-take m l c (entry 0 0) (omega arith), get_or-take m l (c + 1) (entry 0 0) h)

largest_within : (l : List Entry) (c : ℕ) → (c ≤ largest l c) × (largest l c ≤ c + 1)
largest_within l c =
    by_order (at l c).key (at l (c + 1)).key
    (λ k. rw (le-leb (at l c).key (at l (c + 1)).key k) (omega arith))
    (λ k. rw (lt-leb (at l c).key (at l (c + 1)).key k) (omega arith))

pub down_take : (n f : ℕ) (l : List Entry) (p : ℕ) (e : Entry) → p < n → n ≤ p + f → take n (down f n l p e) ≡ down f n (take n l) p e
down_take n zero l p e c b = absurd (omega arith)
down_take n (suc f) l p e c b =
    by_order n (2 * p + 1 + 1)
    (λ h. by_order n (2 * p + 1)
    (λ k. rw (down_leaf (suc f) n l p e k, down_leaf (suc f) n (take n l) p e k) (up_take n p l p e (omega arith) c))
    (λ k.
    let same : at (take n l) (2 * p + 1) ≡ at l (2 * p + 1) = get_or-take n l (2 * p + 1) (entry 0 0) k in
    rw (down_one f n l p e h k, down_one f n (take n l) p e h k, same)
    (up_take n (2 * p + 1) (set l p (at l (2 * p + 1))) (2 * p + 1) e (omega arith) k ∙ ap (λ (z : List Entry). up (2 * p + 1) z (2 * p + 1) e) (take-set-lt n l p (at l (2 * p + 1)) c))))
    (λ h.
    let w = largest_within l (2 * p + 1) in
    let lm : largest l (2 * p + 1) < n = omega arith in
    let lo : n ≤ largest l (2 * p + 1) + f = omega arith in
    let same : largest (take n l) (2 * p + 1) ≡ largest l (2 * p + 1) = largest_take n l (2 * p + 1) h in
    let same' : at (take n l) (largest l (2 * p + 1)) ≡ at l (largest l (2 * p + 1)) = get_or-take n l (largest l (2 * p + 1)) (entry 0 0) lm in
    rw (down_two f n l p e h, down_two f n (take n l) p e h, same, same')
    (down_take n f (set l p (at l (largest l (2 * p + 1)))) (largest l (2 * p + 1)) e lm lo ∙ ap (λ (z : List Entry). down f n z (largest l (2 * p + 1)) e) (take-set-lt n l p (at l (largest l (2 * p + 1))) c)))

-- the heap of the first entries after a push and after a pop
pub push_of : (n : ℕ) (l : List Entry) (e : Entry) → n < length l → take (n + 1) (up n l n e) ≡ push (take n l) e
unfolding push
push_of n l e h =
    let long : length (take n l) ≡ n = length-take-le n l (omega arith) in
    let put : take (n + 1) (set l n e) ≡ take n l ++ (e ∷ []) = rw add-one (take-suc-set l n e h) in
    ap (take (n + 1)) (sym (up_blank n l n e e (omega arith)))
    ∙ up_take (n + 1) n (set l n e) n e (omega arith) (omega arith)
    ∙ rw (long, put)

pub top_of : (n : ℕ) (l : List Entry) → 0 < n → top (take n l) ≡ at l 0
unfolding top
top_of n l h = get_or-take n l 0 (entry 0 0) h

pub rest_of : (n : ℕ) (l : List Entry) → 1 < n → n ≤ length l → take (n - 1) (down (n - 1) (n - 1) l 0 (at l (n - 1))) ≡ rest (take n l)
unfolding rest
rest_of n l h b =
    let long : length (take n l) ≡ n = length-take-le n l b in
    down_take (n - 1) (n - 1) l 0 (at l (n - 1)) (omega arith) (omega arith)
    ∙ rw (long, lt-leb n 1 h, take-take (n - 1) n l (omega arith), get_or-take n l (n - 1) (entry 0 0) (omega arith))

pub rest_one : (l : List Entry) → 1 ≤ length l → rest (take 1 l) ≡ []
unfolding rest
rest_one [] h = refl
rest_one (x ∷ l) h = refl

-- The laws of tests, bounded tests and sums. Assumes nothing.
use Rattle.std.specs.Prelude.{ℕ, zero, suc, ◌+◌, ◌≤◌, ◌<◌, ◌≡◌, refl, ◌⊎◌, Bool, true, false, ◌&&◌, List, [], ◌∷◌}
use Rattle.std.proofs.Common.{sym, ap, ◌∙◌, inl, inr, true≢false, arith}
use Rattle.std.proofs.lemmas.Bool.{false≢true}
use Rattle.runs.specs.Laws.Tests.{lt_or_ge}
use Rattle.model.specs.Bounded.{all_below, any_below, sum_below, In, all_in, any_in, sum_in}
-- chains of two tests
pub use Rattle.runs.specs.Laws.Tests.{and_to, and_of, or_to, or_of}
-- what is not true is false; and a test that came out one way or the other
pub use Rattle.std.proofs.lemmas.Bool.{false_from_ne_true as is_false, cases_Bool as true_or_false}
pub use Rattle.std.proofs.lemmas.List.{map-append as map_append}

-- ---- tests

-- chains of three to six tests
pub and3_to : (a b c : Bool) → (a && b && c) ≡ true → (a ≡ true) × (b ≡ true) × (c ≡ true)
and3_to a b c h = let (r, z) = and_to (a && b) c h in let (x, y) = and_to a b r in (x, y, z)

pub and4_to : (a b c d : Bool) → (a && b && c && d) ≡ true → (a ≡ true) × (b ≡ true) × (c ≡ true) × (d ≡ true)
and4_to a b c d h = let (r, z) = and_to (a && b && c) d h in let (x, y, w) = and3_to a b c r in (x, y, w, z)

pub and5_to : (a b c d e : Bool) → (a && b && c && d && e) ≡ true → (a ≡ true) × (b ≡ true) × (c ≡ true) × (d ≡ true) × (e ≡ true)
and5_to a b c d e h = let (r, z) = and_to (a && b && c && d) e h in let (x, y, w, v) = and4_to a b c d r in (x, y, w, v, z)

pub and6_to : (a b c d e f : Bool) → (a && b && c && d && e && f) ≡ true → (a ≡ true) × (b ≡ true) × (c ≡ true) × (d ≡ true) × (e ≡ true) × (f ≡ true)
and6_to a b c d e f h = let (r, z) = and_to (a && b && c && d && e) f h in let (x, y, w, v, u) = and5_to a b c d e r in (x, y, w, v, u, z)

-- a test cannot come out both ways
pub clash {ℓ} : {A : Type ℓ} {b : Bool} → b ≡ true → b ≡ false → A
clash p q = absurd (true≢false (sym p ∙ q))

-- two tests that pass together are one
pub same_test : (a b : Bool) → (a ≡ true → b ≡ true) → (b ≡ true → a ≡ true) → a ≡ b
same_test true b h k = sym (h refl)
same_test false true h k = k refl
same_test false false h k = refl

-- ---- below a bound

-- the number below suc n is n, or below n
pub last_or : (P : ℕ → Type 0) (n k : ℕ) → k < suc n → (k < n → P k) → P n → P k
last_or P n k l f g = go (lt_or_ge k n)
  where
    go : (k < n) ⊎ (n ≤ k) → P k
    go (inl h) = f h
    go (inr h) = let e : k ≡ n = omega arith in rw e g

pub all_to : (n : ℕ) (p : ℕ → Bool) → all_below n p ≡ true → (k : ℕ) → k < n → p k ≡ true
unfolding all_below
all_to zero p e k l = absurd (omega arith)
all_to (suc n) p e k l = let (a, b) = and_to (all_below n p) (p n) e in last_or (λ x. p x ≡ true) n k l (all_to n p a k) b

pub all_of : (n : ℕ) (p : ℕ → Bool) → ((k : ℕ) → k < n → p k ≡ true) → all_below n p ≡ true
unfolding all_below
all_of zero p h = refl
all_of (suc n) p h = and_of (all_below n p) (p n) (all_of n p (λ k l. h k (omega arith))) (h n (omega arith))

abbrev pub Some : ℕ → (ℕ → Bool) → Type 0
Some n p = (k : ℕ) × (k < n) × (p k ≡ true)

pub any_to : (n : ℕ) (p : ℕ → Bool) → any_below n p ≡ true → Some n p
unfolding any_below
any_to zero p e = absurd (false≢true e)
any_to (suc n) p e = go (any_to n p) (or_to (any_below n p) (p n) e)
  where
    go : (any_below n p ≡ true → Some n p) → (any_below n p ≡ true) ⊎ (p n ≡ true) → Some (suc n) p
    go rest (inl h) = let (k, l, q) = rest h in (k, omega arith, q)
    go rest (inr h) = (n, omega arith, h)

pub any_of_one : (n : ℕ) (p : ℕ → Bool) (k : ℕ) → k < n → p k ≡ true → any_below n p ≡ true
unfolding any_below
any_of_one zero p k l e = absurd (omega arith)
any_of_one (suc n) p k l e = or_of (any_below n p) (p n) (go (lt_or_ge k n) (λ h. any_of_one n p k h e))
  where
    go : (k < n) ⊎ (n ≤ k) → (k < n → any_below n p ≡ true) → (any_below n p ≡ true) ⊎ (p n ≡ true)
    go (inl h) rest = inl (rest h)
    go (inr h) rest = let k-n : k ≡ n = omega arith in inr (ap p (sym k-n) ∙ e)

-- some number below n is the first of which p holds
abbrev pub First : ℕ → (ℕ → Bool) → Type 0
First n p = (k : ℕ) × (k < n) × (p k ≡ true) × ((j : ℕ) → j < k → p j ≡ false)

pub first_to : (n : ℕ) (p : ℕ → Bool) → any_below n p ≡ true → First n p
unfolding any_below
first_to zero p e = absurd (false≢true e)
first_to (suc n) p e = go (true_or_false (any_below n p)) (first_to n p)
  where
    go : (any_below n p ≡ true) ⊎ (any_below n p ≡ false) → (any_below n p ≡ true → First n p) → First (suc n) p
    go (inl h) rest = let (k, l, q, before) = rest h in (k, omega arith, q, before)
    go (inr h) rest = (n, omega arith, (rw h at e), λ j l. is_false (p j) (λ q. clash (any_of_one n p j l q) h))

pub any_none : (n : ℕ) (p : ℕ → Bool) → ((k : ℕ) → k < n → p k ≡ false) → any_below n p ≡ false
unfolding any_below
any_none zero p h = refl
any_none (suc n) p h = rw (any_none n p (λ k l. h k (omega arith))) (h n (omega arith))

-- ---- sums below a bound

pub sum_ext : (n : ℕ) (f g : ℕ → ℕ) → ((k : ℕ) → k < n → f k ≡ g k) → sum_below n f ≡ sum_below n g
unfolding sum_below
sum_ext zero f g h = refl
sum_ext (suc n) f g h = omega (arith, sum_ext n f g (λ k l. h k (omega arith)), h n (omega arith))

pub sum_mono : (n : ℕ) (f g : ℕ → ℕ) → ((k : ℕ) → k < n → f k ≤ g k) → sum_below n f ≤ sum_below n g
unfolding sum_below
sum_mono zero f g h = omega arith
sum_mono (suc n) f g h = omega (arith, sum_mono n f g (λ k l. h k (omega arith)), h n (omega arith))

-- no term is more than the sum
pub sum_ge : (n k : ℕ) (f : ℕ → ℕ) → k < n → f k ≤ sum_below n f
unfolding sum_below
sum_ge zero k f l = absurd (omega arith)
sum_ge (suc n) k f l = last_or (λ j. f j ≤ sum_below n f + f n) n k l (λ h. omega (arith, sum_ge n k f h)) (omega arith)

pub sum_add : (n : ℕ) (f g : ℕ → ℕ) → sum_below n (λ k. f k + g k) ≡ sum_below n f + sum_below n g
unfolding sum_below
sum_add zero f g = omega arith
sum_add (suc n) f g = omega (arith, sum_add n f g)

pub sum_zero : (n : ℕ) (f : ℕ → ℕ) → ((k : ℕ) → k < n → f k ≡ 0) → sum_below n f ≡ 0
unfolding sum_below
sum_zero zero f h = refl
sum_zero (suc n) f h = omega (arith, sum_zero n f (λ k l. h k (omega arith)), h n (omega arith))

-- only the number j counts
pub sum_single : (n j : ℕ) (f : ℕ → ℕ) → j < n → ((k : ℕ) → k < n → ¬ (k ≡ j) → f k ≡ 0) → sum_below n f ≡ f j
unfolding sum_below
sum_single zero j f l h = absurd (omega arith)
sum_single (suc n) j f l h = go (lt_or_ge j n) (λ k. sum_single n j f k (λ i p q. h i (omega arith) q))
  where
    go : (j < n) ⊎ (n ≤ j) → (j < n → sum_below n f ≡ f j) → sum_below n f + f n ≡ f j
    go (inl k) rest = omega (arith, rest k, h n (omega arith) (omega arith))
    go (inr k) rest =
        let e : n ≡ j = omega arith in
        omega (arith, ap f e, sum_zero n f (λ i p. h i (omega arith) (omega arith)))

pub sum_swap : (n m : ℕ) (f : ℕ → ℕ → ℕ) → sum_below n (λ i. sum_below m (f i)) ≡ sum_below m (λ k. sum_below n (λ i. f i k))
unfolding sum_below
sum_swap zero m f = sym (sum_zero m (λ k. 0) (λ k l. refl))
sum_swap (suc n) m f = ap (λ (x : ℕ). x + sum_below m (f n)) (sum_swap n m f) ∙ sym (sum_add m (λ k. sum_below n (λ i. f i k)) (f n))

-- ---- the same, from the front

unfoldable pub sum_from : ℕ → ℕ → (ℕ → ℕ) → ℕ
sum_from j zero f = 0
sum_from j (suc n) f = f j + sum_from (suc j) n f

from_end : (j n : ℕ) (f : ℕ → ℕ) → sum_from j (suc n) f ≡ sum_from j n f + f (j + n)
unfolding sum_from
from_end j zero f = let e : j + 0 ≡ j = omega arith in omega (arith, ap f e)
from_end j (suc n) f = let e : suc j + n ≡ j + suc n = omega arith in omega (arith, ap f e, from_end (suc j) n f)

pub sum_front : (n : ℕ) (f : ℕ → ℕ) → sum_below n f ≡ sum_from 0 n f
unfolding sum_below sum_from
sum_front zero f = refl
sum_front (suc n) f = let e : 0 + n ≡ n = omega arith in omega (arith, sum_front n f, from_end 0 n f, ap f e)

-- ---- over a list

pub all_in_to : {A : Type 0} (p : A → Bool) (l : List A) → all_in p l ≡ true → (x : A) → In x l → p x ≡ true
unfolding all_in
all_in_to p [] h x m = absurd m
all_in_to p (y ∷ l) h x (inl e) = ap p e ∙ (and_to (p y) (all_in p l) h).0
all_in_to p (y ∷ l) h x (inr m) = all_in_to p l (and_to (p y) (all_in p l) h).1 x m

pub all_in_of : {A : Type 0} (p : A → Bool) (l : List A) → ((x : A) → In x l → p x ≡ true) → all_in p l ≡ true
unfolding all_in
all_in_of p [] h = refl
all_in_of p (y ∷ l) h = and_of (p y) (all_in p l) (h y (inl refl)) (all_in_of p l (λ x m. h x (inr m)))

pub any_in_to : {A : Type 0} (p : A → Bool) (l : List A) → any_in p l ≡ true → (x : A) × (In x l) × (p x ≡ true)
unfolding any_in
any_in_to p [] h = absurd (false≢true h)
any_in_to {A} p (y ∷ l) h = go (or_to (p y) (any_in p l) h) (any_in_to p l)
  where
    go : (p y ≡ true) ⊎ (any_in p l ≡ true) → (any_in p l ≡ true → (x : A) × (In x l) × (p x ≡ true)) → (x : A) × (In x (y ∷ l)) × (p x ≡ true)
    go (inl e) rest = (y, inl refl, e)
    go (inr e) rest = let (x, m, q) = rest e in (x, inr m, q)

pub any_in_of : {A : Type 0} (p : A → Bool) (l : List A) (x : A) → In x l → p x ≡ true → any_in p l ≡ true
unfolding any_in
any_in_of p [] x m e = absurd m
any_in_of p (y ∷ l) x (inl q) e = or_of (p y) (any_in p l) (inl (ap p (sym q) ∙ e))
any_in_of p (y ∷ l) x (inr m) e = or_of (p y) (any_in p l) (inr (any_in_of p l x m e))

pub any_in_none : {A : Type 0} (p : A → Bool) (l : List A) → ((x : A) → In x l → p x ≡ false) → any_in p l ≡ false
unfolding any_in
any_in_none p [] h = refl
any_in_none p (y ∷ l) h = rw (h y (inl refl)) (any_in_none p l (λ x m. h x (inr m)))

-- ---- sums over a list

pub list_ext : {A : Type 0} (f g : A → ℕ) (L : List A) → ((x : A) → In x L → f x ≡ g x) → sum_in f L ≡ sum_in g L
unfolding sum_in
list_ext f g [] h = refl
list_ext f g (x ∷ L) h = omega (arith, h x (inl refl), list_ext f g L (λ y m. h y (inr m)))

pub list_swap : {A : Type 0} (m : ℕ) (f : A → ℕ → ℕ) (L : List A) → sum_in (λ x. sum_below m (f x)) L ≡ sum_below m (λ k. sum_in (λ x. f x k) L)
unfolding sum_in sum_below
list_swap m f [] = sym (sum_zero m (λ k. 0) (λ k l. refl))
list_swap m f (x ∷ L) = ap (λ (n : ℕ). sum_below m (f x) + n) (list_swap m f L) ∙ sym (sum_add m (f x) (λ k. sum_in (λ y. f y k) L))

pub list_zero : {A : Type 0} (f : A → ℕ) (L : List A) → ((x : A) → In x L → f x ≡ 0) → sum_in f L ≡ 0
unfolding sum_in
list_zero f [] h = refl
list_zero f (x ∷ L) h = omega (arith, h x (inl refl), list_zero f L (λ y m. h y (inr m)))

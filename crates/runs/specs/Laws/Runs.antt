-- MODEL 10.4 and 10.5: the canonical list of a test; `runs` is it. Assumes nothing.
use Rattle.std.specs.Prelude.{◌≡◌, refl, ◌⊎◌, ◌↔◌, Bool, true, false, not, ◌&&◌, ◌||◌, List, [], ◌∷◌, ℕ, zero, suc, ◌+◌, ◌-◌, ◌*◌, ◌/◌, ◌%◌, ◌≤◌, ◌<◌, length, eqb, leb}
use Rattle.std.proofs.Common.{sym, ap, ◌∙◌, inl, inr, true≢false, div-add-mod', arith, le-leb, eq-eqb}
use Rattle.std.proofs.lemmas.Bool.{false≢true}
use Rattle.std.proofs.Math.Bool.{and-eq-true_iff, or-true}
use Rattle.runs.specs.Laws.Tests.{tests, cond_ind, lt_or_ge}
use Rattle.runs.specs.Runs.{Run, run, Steps, In, Mem, push, runs, Lists, mem}
use Rattle.runs.specs.Laws.Steps.{steps_sub, steps_mod, mod_steps}
use Rattle.runs.specs.Laws.Canon.{unique, count}
use Rattle.runs.specs.Laws.Push.{push_from, push_to, push_of}

ex1 : runs 2 (λ y. eqb (y % 2) 0 && not (eqb y 6)) 16 ≡ run 0 4 ∷ run 8 14 ∷ []
unfolding runs
ex1 = refl

ex2 : runs 1 (λ y. not (eqb (y % 100) 6)) 256 ≡ run 0 5 ∷ run 7 105 ∷ run 107 205 ∷ run 207 255 ∷ []
unfolding runs
ex2 = refl

-- ---- the canonical list of a test

-- the numbers that pass the test f lie in steps of s from one another
abbrev pub InStep : ℕ → (ℕ → Bool) → Type 0
InStep s f = (x y : ℕ) → f x ≡ true → f y ≡ true → x < y → Steps s (x + s) y

-- in one class of remainders
pub class_steps : (s r x y : ℕ) → x % s ≡ r → y % s ≡ r → x < y → Steps s (x + s) y
class_steps s r x y hx hy l =
    let dx = div-add-mod' x s in
    let dy = div-add-mod' y s in
    let k = steps_sub s r x y (x / s, omega arith) (y / s, omega arith) l in
    k

pub in_step_one : (f : ℕ → Bool) → InStep 1 f
in_step_one f x y p q l = (y - suc x, omega arith)

-- none from n on and below k passes: what is listed below n is what is listed below k
pub skip_lists : (s : ℕ) (f : ℕ → Bool) (n k : ℕ) (L : List Run) → n ≤ k → Lists s f n L → ((y : ℕ) → n ≤ y → y < k → f y ≡ false) → Lists s f k L
skip_lists s f n k L l g h = record {
  canon = g.canon;
  named = λ y. (λ m. let (a, b) = (g.named y).0 m in (omega arith, b), λ (a, b). of y a b (lt_or_ge y n));
}
  where
    of : (y : ℕ) → y < k → f y ≡ true → (y < n) ⊎ (n ≤ y) → Mem s y L
    of y a b (inl c) = (g.named y).1 (c, b)
    of y a b (inr c) = absurd (true≢false (sym b ∙ h y c a))

-- those from n on and below k that pass are those that r names: r goes to the end
pub push_lists : (s : ℕ) (f : ℕ → Bool) (n k : ℕ) (r : Run) (L : List Run) → InStep s f → Lists s f n L → n ≤ r.first → r.last < k → Steps s r.first r.last
    → ((y : ℕ) → n ≤ y → y < k → (f y ≡ true) ↔ In s y r) → Lists s f k (push s r L)
push_lists s f n k r L i g a b t h = record {
  canon = push_from s 0 r L g.canon (omega arith) t (λ y m. let (l, v) = (g.named y).0 m in i y r.first v first (omega arith));
  named = λ y. (λ m. to y (push_to s y r t 0 L g.canon m), λ m. push_of s y r t 0 L g.canon (of y m (lt_or_ge y n)));
}
  where
    first : f r.first ≡ true
    first = (h r.first a (omega arith)).1 ((0, omega arith), omega arith)

    to : (y : ℕ) → Mem s y L ⊎ In s y r → (y < k) × (f y ≡ true)
    to y (inl m) = let (l, v) = (g.named y).0 m in (omega arith, v)
    to y (inr m) = (omega arith, (h y (omega arith) (omega arith)).1 m)

    of : (y : ℕ) → (y < k) × (f y ≡ true) → (y < n) ⊎ (n ≤ y) → Mem s y L ⊎ In s y r
    of y m (inl l) = inl ((g.named y).1 (l, m.1))
    of y m (inr l) = inr ((h y l m.0).0 m.1)

-- THEOREM 1: `runs s f n` is canonical and names exactly the y < n with f y
pub runs_lists : (s : ℕ) (f : ℕ → Bool) → InStep s f → (n : ℕ) → Lists s f n (runs s f n)
unfolding runs
runs_lists s f i zero = record { canon = tt; named = λ y. (λ h. absurd h, λ h. absurd (omega arith)) }
runs_lists s f i (suc n) =
    let g = runs_lists s f i n in
    cond_ind (Lists s f (suc n)) (f n)
    (λ e. push_lists s f n (suc n) (run n n) (runs s f n) i g (omega arith) (omega arith) (0, omega arith)
    (λ y l m. (λ h. ((0, omega arith), omega arith), λ h. let q : y ≡ n = omega arith in ap f q ∙ e)))
    (λ e. skip_lists s f n (suc n) (runs s f n) (omega arith) g (λ y l m. let q : y ≡ n = omega arith in ap f q ∙ e))

-- THEOREM 2 for `runs`: whatever is canonical and names them is `runs s f n`
pub lists_unique : (s : ℕ) (f : ℕ → Bool) (n : ℕ) (L M : List Run) → 1 ≤ s → Lists s f n L → Lists s f n M → L ≡ M
lists_unique s f n L M p g h = unique s L M p g.canon h.canon (λ y. (λ k. (h.named y).1 ((g.named y).0 k), λ k. (g.named y).1 ((h.named y).0 k)))

pub lists_runs : (s : ℕ) (f : ℕ → Bool) → 1 ≤ s → InStep s f → (n : ℕ) (L : List Run) → Lists s f n L → L ≡ runs s f n
lists_runs s f p i n L g = lists_unique s f n L (runs s f n) p g (runs_lists s f i n)

pub runs_count : (s : ℕ) (f : ℕ → Bool) → InStep s f → (n : ℕ) → 2 * s * length (runs s f n) ≤ n + 2 * s - 1
runs_count s f i n = let g = runs_lists s f i n in count s n (runs s f n) g.canon (λ y h. ((g.named y).0 h).0)

-- ---- membership as a test

abbrev is_in : ℕ → ℕ → Run → Bool
is_in s y r = leb r.first y && leb y r.last && eqb ((y - r.first) % s) 0

in_true : (s y : ℕ) (r : Run) → is_in s y r ≡ true → In s y r
in_true s y r e =
    let (ab, c) = (and-eq-true_iff (leb r.first y && leb y r.last) (eqb ((y - r.first) % s) 0)).0 e in
    let (a, b) = (and-eq-true_iff (leb r.first y) (leb y r.last)).0 ab in
    (steps_mod s r.first y (omega tests) (omega tests), omega tests)

in_test : (s y : ℕ) (r : Run) → In s y r → is_in s y r ≡ true
in_test s y r h = rw (le-leb r.first y (omega arith), le-leb y r.last h.1, eq-eqb ((y - r.first) % s) 0 (mod_steps s r.first y h.0))

pub mem_true : (s y : ℕ) (L : List Run) → mem s y L ≡ true → Mem s y L
unfolding mem
mem_true s y [] e = false≢true e
mem_true s y (r ∷ L) e = go (is_in s y r) refl e (mem_true s y L)
  where
    go : (t : Bool) → is_in s y r ≡ t → (t || mem s y L) ≡ true → (mem s y L ≡ true → Mem s y L) → Mem s y (r ∷ L)
    go true d k rest = inl (in_true s y r d)
    go false d k rest = inr (rest k)

pub mem_test : (s y : ℕ) (L : List Run) → Mem s y L → mem s y L ≡ true
unfolding mem
mem_test s y [] h = absurd h
mem_test s y (r ∷ L) (inl h) = rw (in_test s y r h)
mem_test s y (r ∷ L) (inr h) = rw (mem_test s y L h) (or-true (is_in s y r))

-- MODEL 5 and 6: to fit in a book is to fit when no task runs and to cover nothing held; and what is held once a task is entered or taken out.
-- Assumes nothing.
use Rattle.std.specs.Prelude.{ℕ, ◌+◌, ◌-◌, ◌<◌, ◌≡◌, ◌⊎◌, ◌↔◌, Bool, false, not, ◌||◌, ltb, eqb}
use Rattle.std.proofs.Math.Path.{refl}
use Rattle.std.proofs.Common.{sym, ap, ◌∙◌, true≢false, arith}
use Rattle.std.proofs.Math.Logic.{inl, inr}
use Rattle.std.proofs.Math.Bool.{true}
use mathlib.Core.List.{List, [], ◌∷◌}
use borrow.Author.Tests.{lt-ltb, eqb-true, eqb-false, not-true}
use Rattle.runs.specs.Laws.Tests.{tests, cond_ind}
use Rattle.model.specs.Limits.{reach}
use Rattle.model.specs.Bounded.{any_in, In}
use Rattle.model.specs.Columns.{Device, columns, top}
use Rattle.model.specs.Tasks.{blocks, block}
use Rattle.model.specs.Book.{Running, Book, placed, covered, standing, held, free, fits}
use Rattle.model.specs.Calls.{insert, without}
use Rattle.model.proofs.Laws.Bounded.{and3_to, true_or_false, same_test, any_in_to, any_in_of}
use Rattle.model.proofs.Laws.Fits.{Fitting, fits_to, fits_of}
use Rattle.model.proofs.Laws.Limits.{Rising, one_number}
use Rattle.model.proofs.Laws.Cells.{covered_to, covered_of}

pub neither : (a b : Bool) → (a || b) ≡ false → (a ≡ false) × (b ≡ false)
neither true b e = absurd (true≢false e)
neither false b e = (refl, e)

-- ---- fitting

module _ (d : Device) (b : Book) (c z : ℕ) where
  pub free_to : free d b c z ≡ true → (c < columns d) × (z < top d c) × (held b c z ≡ false)
  unfolding free
  free_to h =
      let (u, v, w) = and3_to (ltb c (columns d)) (ltb z (top d c)) (not (held b c z)) h in
      (omega tests, omega tests, not-true (held b c z) w)

  pub free_of : c < columns d → z < top d c → held b c z ≡ false → free d b c z ≡ true
  unfolding free
  free_of u v w = rw (lt-ltb c (columns d) u, lt-ltb z (top d c) v, w)

module _ (d : Device) (b : Book) (t : List ℕ) (p y : ℕ) where
  -- where a task fits, all that it covers is free
  pub covered_free : fits d b t p y ≡ true → (c z : ℕ) → covered (placed t p y) c z ≡ true → free d b c z ≡ true
  covered_free f c z h =
      let (j, l, (e, u, v)) = covered_to t p y c z h in
      let g = fits_to d b t p y f j l in
      let a = g.above in
      let k : y + (block t j).low - reach + (z - (y + (block t j).low - reach)) ≡ z = omega arith in
      rw (e, k) at (g.free (z - (y + (block t j).low - reach)) (omega arith))

  -- a block that fits in one book, in another where it covers only what is free
  refit : (a : Book) (j : ℕ) → Fitting d a (block t j) p y
      → ((i : ℕ) → i < (block t j).high - (block t j).low → free d b (p + (block t j).column) (y + (block t j).low - reach + i) ≡ true) → Fitting d b (block t j) p y
  refit a j g h = record { column = g.column; kind = g.kind; above = g.above; grid = g.grid; below = g.below; free = h }

held_none : (c z : ℕ) → held [] c z ≡ false
unfolding held any_in
held_none c z = refl

-- THEOREM: a task fits just where it fits on the empty device and no half row that it covers there is held
pub fits_split : (d : Device) (b : Book) (t : List ℕ) (p y : ℕ)
    → (fits d b t p y ≡ true) ↔ ((fits d [] t p y ≡ true) × ((c z : ℕ) → covered (placed t p y) c z ≡ true → held b c z ≡ false))
fits_split d b t p y = (
  λ f. (fits_of d [] t p y (λ j l. alone j (fits_to d b t p y f j l)), λ c z h. (free_to d b c z (covered_free d b t p y f c z h)).2),
  λ (f, h). fits_of d b t p y (λ j l. among h j l (fits_to d [] t p y f j l)),
)
  where
    alone : (j : ℕ) → Fitting d b (block t j) p y → Fitting d [] (block t j) p y
    alone j g =
        refit d [] t p y b j g
        (λ i m.
        let c = p + (block t j).column in
        let z = y + (block t j).low - reach + i in
        let (u, v, w) = free_to d b c z (g.free i m) in
        free_of d [] c z u v (held_none c z))

    among : ((c z : ℕ) → covered (placed t p y) c z ≡ true → held b c z ≡ false) → (j : ℕ) → j < blocks t → Fitting d [] (block t j) p y → Fitting d b (block t j) p y
    among h j l g =
        let a = g.above in
        refit d b t p y [] j g
        (λ i m.
        let c = p + (block t j).column in
        let z = y + (block t j).low - reach + i in
        let (u, v, w) = free_to d [] c z (g.free i m) in
        free_of d b c z u v (h c z (covered_of t p y c z j l (refl, omega arith, omega arith))))

-- ---- entering and taking out

module _ (e f : Running) where
  pub insert_to : (b : Book) → In f (insert e b) → In f (e ∷ b)
  unfolding insert
  insert_to [] h = h
  insert_to (g ∷ b) h = cond_ind (λ l. In f l → In f (e ∷ g ∷ b)) (ltb e.number g.number) (λ u i. i) (λ u. later (insert_to b)) h
    where
      behind : In f (e ∷ b) → In f (e ∷ g ∷ b)
      behind (inl q) = inl q
      behind (inr i) = inr (inr i)

      later : (In f (insert e b) → In f (e ∷ b)) → In f (g ∷ insert e b) → In f (e ∷ g ∷ b)
      later rest (inl q) = inr (inl q)
      later rest (inr i) = behind (rest i)

  pub insert_of : (b : Book) → In f (e ∷ b) → In f (insert e b)
  unfolding insert
  insert_of [] h = h
  insert_of (g ∷ b) h = cond_ind (In f) (ltb e.number g.number) (λ u. h) (λ u. later (insert_of b) h)
    where
      later : (In f (e ∷ b) → In f (insert e b)) → In f (e ∷ g ∷ b) → In f (g ∷ insert e b)
      later rest (inl q) = inr (rest (inl q))
      later rest (inr (inl q)) = inl q
      later rest (inr (inr i)) = inr (rest (inr i))

module _ (n : ℕ) (f : Running) where
  pub without_to : (b : Book) → In f (without n b) → In f b × ¬ (f.number ≡ n)
  unfolding without
  without_to [] h = absurd h
  without_to (g ∷ b) h =
      cond_ind (λ l. In f l → In f (g ∷ b) × ¬ (f.number ≡ n)) (eqb g.number n)
      (λ u i. let (j, k) = without_to b i in (inr j, k))
      (λ u. later (eqb-false g.number n u) (without_to b)) h
    where
      later : ¬ (g.number ≡ n) → (In f (without n b) → In f b × ¬ (f.number ≡ n)) → In f (g ∷ without n b) → In f (g ∷ b) × ¬ (f.number ≡ n)
      later u rest (inl q) = (inl q, λ k. u (ap (λ (x : Running). x.number) (sym q) ∙ k))
      later u rest (inr i) = let (j, k) = rest i in (inr j, k)

  pub without_of : (b : Book) → In f b → ¬ (f.number ≡ n) → In f (without n b)
  unfolding without
  without_of [] i k = absurd i
  without_of (g ∷ b) (inl q) k =
      cond_ind (In f) (eqb g.number n) (λ u. absurd (k (ap (λ (x : Running). x.number) q ∙ eqb-true g.number n u))) (λ u. inl q)
  without_of (g ∷ b) (inr i) k = cond_ind (In f) (eqb g.number n) (λ u. without_of b i k) (λ u. inr (without_of b i k))

-- ---- what is held

module _ (c z : ℕ) where
  -- two books with the same tasks hold the same
  pub held_same : (a b : Book) → ((e : Running) → In e a → In e b) → ((e : Running) → In e b → In e a) → held a c z ≡ held b c z
  unfolding held
  held_same a b to of = same_test (held a c z) (held b c z) (more a b to) (more b a of)
    where
      more : (a b : Book) → ((e : Running) → In e a → In e b) → held a c z ≡ true → held b c z ≡ true
      more a b to h =
          let (e, i, q) = any_in_to (λ e. covered (standing e) c z) a h in
          any_in_of (λ e. covered (standing e) c z) b e (to e i) q

  pub held_cons : (e : Running) (b : Book) → held (e ∷ b) c z ≡ (covered (standing e) c z || held b c z)
  unfolding held any_in
  held_cons e b = refl

  -- once a task is entered, what it covers is held, and what was held
  pub held_insert : (e : Running) (b : Book) → held (insert e b) c z ≡ (covered (standing e) c z || held b c z)
  held_insert e b = held_same (insert e b) (e ∷ b) (λ f. insert_to e f b) (λ f. insert_of e f b) ∙ held_cons e b

  -- what was held is what the task that is taken out covers, and what is held without it
  pub held_without : (m : ℕ) (b : Book) → Rising m b → (e : Running) → In e b → held b c z ≡ (covered (standing e) c z || held (without e.number b) c z)
  held_without m b r e i =
      held_same b (e ∷ without e.number b) (λ f j. to f j (true_or_false (eqb f.number e.number))) of ∙ held_cons e (without e.number b)
    where
      to : (f : Running) → In f b → (eqb f.number e.number ≡ true) ⊎ (eqb f.number e.number ≡ false) → In f (e ∷ without e.number b)
      to f j (inl u) = inl (one_number m b r f e j i (eqb-true f.number e.number u))
      to f j (inr u) = inr (without_of e.number f b j (eqb-false f.number e.number u))

      of : (f : Running) → In f (e ∷ without e.number b) → In f b
      of f (inl q) = rw q i
      of f (inr j) = (without_to e.number f b j).0

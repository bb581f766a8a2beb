-- MODEL 15.8: two books by rising number with the same tasks are one book, so their records are one record. Assumes nothing.
use Rattle.std.specs.Prelude.{ℕ, ◌≡◌, refl, ◌↔◌, true, [], ◌∷◌}
use Rattle.std.proofs.Common.{sym, ap, ap₂, ◌∙◌, inl, inr, arith}
use Rattle.model.specs.Columns.{Device}
use Rattle.model.specs.Book.{Running, Book}
use Rattle.model.specs.Record.{record_of}
use Rattle.model.specs.Sound.{within}
use Rattle.model.specs.Bounded.{In}
use Rattle.model.proofs.Laws.Limits.{Rising, rising_above, limits_to}

module _ (m n : ℕ) (e f : Running) (a b : Book) (r : Rising m (e ∷ a)) (s : Rising n (f ∷ b)) where
  -- one of a book's tasks has its first number, or one above it
  first_is : In e (f ∷ b) → In f (e ∷ a) → e ≡ f
  first_is (inl p) j = p
  first_is (inr i) (inl q) = sym q
  first_is (inr i) (inr j) = absurd (omega (arith, rising_above f.number b s.1 e i, rising_above e.number a r.1 f j))

  -- behind equal first tasks stand the same tasks
  rest_in : e ≡ f → ((g : Running) → In g (e ∷ a) → In g (f ∷ b)) → (g : Running) → In g a → In g b
  rest_in q h g i = go (h g (inr i))
    where
      go : In g (f ∷ b) → In g b
      go (inl p) = absurd (omega (arith, rising_above e.number a r.1 g i, ap (λ (x : Running). x.number) (p ∙ sym q)))
      go (inr j) = j

rising_same : (m n : ℕ) (a b : Book) → Rising m a → Rising n b → ((e : Running) → In e a → In e b) → ((e : Running) → In e b → In e a) → a ≡ b
rising_same m n [] [] r s to of = refl
rising_same m n [] (f ∷ b) r s to of = absurd (of f (inl refl))
rising_same m n (e ∷ a) [] r s to of = absurd (to e (inl refl))
rising_same m n (e ∷ a) (f ∷ b) r s to of =
    let q = first_is m n e f a b r s (to e (inl refl)) (of f (inl refl)) in
    ap₂ (λ (x : Running) (l : Book). x ∷ l) q
    (rising_same e.number f.number a b r.1 s.1 (rest_in m n e f a b r s q to) (rest_in n m f e b a s r (sym q) of))

-- THEOREM: books within the limits that have the same tasks are equal
pub same_tasks : (d : Device) (a b : Book) → within d a ≡ true → within d b ≡ true → ((e : Running) → In e a ↔ In e b) → a ≡ b
same_tasks d a b v w h = rising_same 0 0 a b (limits_to d a v).rising (limits_to d b w).rising (λ e. (h e).0) (λ e. (h e).1)

-- so there is one record of a device and its running tasks, whatever the order in which they came
pub same_records : (d : Device) (a b : Book) → within d a ≡ true → within d b ≡ true → ((e : Running) → In e a ↔ In e b) → record_of d a ≡ record_of d b
same_records d a b v w h = ap (record_of d) (same_tasks d a b v w h)

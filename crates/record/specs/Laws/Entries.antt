-- MODEL 8.4: entries found by their number, and the place of a number. Assumes nothing.
use Rattle.std.specs.Prelude.{ℕ, zero, suc, ◌+◌, ◌-◌, ◌≤◌, ◌<◌, ◌≡◌, refl, Bool, true, false, Option, None, Some, MatchOption, cond, ltb, List, [], ◌∷◌, ◌++◌, eqb, length, get_or, take, drop}
use Rattle.std.proofs.Common.{◌⊎◌, inl, inr, sym, ap, ◌∙◌, arith, lt-ltb, le-ltb, eq-eqb, ne_eqb}
use Rattle.std.specs.List.{position_or_len}
use Rattle.std.specs.Option.{is_some}
use Rattle.std.proofs.lemmas.List.Quantifiers.{position-Some}
use Rattle.runs.specs.Laws.Tests.{tests, lt_or_ge}
use Rattle.model.proofs.Laws.Bounded.{true_or_false}
use Rattle.std.proofs.lemmas.List.Sums.{position_or_len_is}
use Rattle.model.specs.Limits.{running_at}
use Rattle.model.specs.Bounded.{any_in}
use Rattle.model.specs.Tasks.{word}
use Rattle.model.specs.Book.{Running, Book}
use Rattle.model.specs.Calls.{without, runs_in}
use Rattle.model.specs.Record.{entry_at, device_of, book_of}
use Rattle.model.specs.Sound.{sound}
use Rattle.model.specs.InPlace.{no_entry, place}
use Rattle.model.proofs.Laws.Bounded.{any_in_none}
use Rattle.model.proofs.Laws.Limits.{Rising, rising_above, limits_to}
use Rattle.model.proofs.Laws.ReadBack.{get_d_in}
use Rattle.model.proofs.Laws.Entries.{without_none}
use Rattle.model.proofs.Laws.Sound.{running_said, sound_within}
use Rattle.record.specs.Entries.{found}
use Rattle.record.specs.Laws.Said.{number_said}

-- ---- found by number

-- what a search over the entries' bytes finds is the first entry of that number
module _ (r : List ℕ) (n m : ℕ) (all : m ≡ length (book_of r)) where
  is : Running → Bool
  is e = eqb e.number n

  said : (k : ℕ) → k < m → (get_or (book_of r) k no_entry).number ≡ word r (entry_at k)
  said k l = number_said r k (omega (arith, running_said r))

  is_not : (k : ℕ) → k < m → (word r (entry_at k) ≡ n → ⊥) → is (get_or (book_of r) k no_entry) ≡ false
  unfolding is
  is_not k l h = ne_eqb (get_or (book_of r) k no_entry).number n (λ e. h (sym (said k l) ∙ e))

  by_place : (i : ℕ) → position_or_len is (book_of r) ≡ i → cond (ltb i m) (Some i) None ≡ found n (book_of r)
  unfolding is
  by_place i e = rw (all, ← e)

  pub found_is : (f : Option ℕ) → MatchOption f ((k : ℕ) → 0 ≤ k → k < m → word r (entry_at k) ≡ n → ⊥)
      (λ i. (0 ≤ i) × (i < m) × (word r (entry_at i) ≡ n) × ((k : ℕ) → 0 ≤ k → k < i → word r (entry_at k) ≡ n → ⊥))
      → f ≡ found n (book_of r)
  unfolding is
  found_is None h =
      (rw (le-ltb m m (omega arith)))
      ∙ by_place m (position_or_len_is is (book_of r) m no_entry (omega arith) (λ k l. is_not k l (h k (omega arith) l)) (λ l. absurd (omega arith)))
  found_is (Some i) (_, l, e, h) =
      (rw (lt-ltb i m l))
      ∙ by_place i (position_or_len_is is (book_of r) i no_entry (omega arith) (λ k q. is_not k (omega arith) (h k (omega arith) q)) (λ _. eq-eqb _ n (said i l ∙ e)))

-- it is an entry of the book, with that number
pub found_place : (n : ℕ) (b : Book) (k : ℕ) → found n b ≡ Some k → (k < length b) × ((get_or b k no_entry).number ≡ n)
found_place n b k e = let (l, t, _) = position-Some (λ (e : Running). eqb e.number n) b k no_entry e in (l, omega tests)

-- and there is one just where that number runs
pub found_runs : (n : ℕ) (b : Book) → is_some (found n b) ≡ runs_in b n
unfolding runs_in any_in
found_runs n [] = refl
found_runs n (e ∷ b) = go (true_or_false (eqb e.number n)) (lt_or_ge p (length b)) (found_runs n b)
  where
    p : ℕ
    p = position_or_len (λ (e : Running). eqb e.number n) b

    go : (eqb e.number n ≡ true) ⊎ (eqb e.number n ≡ false) → (p < length b) ⊎ (length b ≤ p) → is_some (found n b) ≡ runs_in b n → is_some (found n (e ∷ b)) ≡ runs_in (e ∷ b) n
    go (inl t) l h = rw (t, lt-ltb 0 (length (e ∷ b)) (omega arith))
    go (inr f) (inl l) h = rw (f, lt-ltb (1 + p) (length (e ∷ b)) (omega arith)) (rw (lt-ltb p (length b) l) at h)
    go (inr f) (inr l) h = rw (f, le-ltb (1 + p) (length (e ∷ b)) (omega arith)) (rw (le-ltb p (length b) l) at h)

-- ---- the place of a number

pub place_is : (m n : ℕ) (b : Book) (k : ℕ) → Rising m b → k ≤ length b → ((i : ℕ) → suc i ≡ k → (get_or b i no_entry).number ≤ n)
    → ((j : ℕ) → k ≤ j → j < length b → n < (get_or b j no_entry).number) → k ≡ place n b
unfolding place
place_is m n [] k r l lo hi = omega arith
place_is m n (f ∷ b) zero r l lo hi = rw (lt-ltb n f.number (hi 0 (omega arith) (omega arith)))
place_is m n (f ∷ b) (suc zero) r l lo hi =
    rw (le-ltb n f.number (lo 0 refl))
    (ap suc (place_is f.number n b 0 r.1 (omega arith) (λ i e. absurd (omega arith)) (λ j p q. hi (suc j) (omega arith) (omega arith))))
place_is m n (f ∷ b) (suc (suc k)) r l lo hi =
    let below : (get_or b k no_entry).number ≤ n = lo (suc k) refl in
    rw (le-ltb n f.number (omega (arith, rising_above f.number b r.1 (get_or b k no_entry) (get_d_in b k no_entry (omega arith)))))
    (ap suc (place_is f.number n b (suc k) r.1 (omega arith) (λ i e. lo (suc i) (ap suc e)) (λ j p q. hi (suc j) (omega arith) (omega arith))))

-- the same by the bytes of the entries
place_said : (r : List ℕ) (n k : ℕ) → sound r ≡ true → k ≤ length (book_of r) → ((i : ℕ) → suc i ≡ k → word r (entry_at i) ≤ n)
    → ((j : ℕ) → k ≤ j → j < length (book_of r) → n < word r (entry_at j)) → k ≡ place n (book_of r)
place_said r n k s q lo hi =
    place_is 0 n (book_of r) k (limits_to (device_of r) (book_of r) (sound_within r s)).rising q
    (λ i e. let m : i < get_or r running_at 0 = omega (arith, running_said r) in omega (arith, number_said r i m, lo i e))
    (λ j p l. let m : j < get_or r running_at 0 = omega (arith, running_said r) in omega (arith, number_said r j m, hi j p l))

-- the entries from j on have higher numbers than n
pub record Above (r : List ℕ) (n j : ℕ) : Type 0 where
  pub above : (i : ℕ) → j ≤ i → i < length (book_of r) → n < word r (entry_at i)

-- so its place is behind the entry before them, where that has none
pub place_behind : (r : List ℕ) (n j : ℕ) → sound r ≡ true → Above r n j → 0 < j → j ≤ length (book_of r) → word r (entry_at (j - 1)) ≤ n → j - 1 + 1 ≡ place n (book_of r)
place_behind r n j s a o l h =
    place_said r n (j - 1 + 1) s (omega arith) (λ i e. let k : i ≡ j - 1 = omega arith in rw k h) (λ i p q. a.above i (omega arith) q)

-- and where all entries have, the first
pub place_first : (r : List ℕ) (n j : ℕ) → sound r ≡ true → Above r n j → j ≤ 0 → 0 ≡ place n (book_of r)
place_first r n j s a z = place_said r n 0 s (omega arith) (λ i e. absurd (omega arith)) (λ i p q. a.above i (omega arith) q)

-- ---- the book without one entry

-- THEOREM: the book without the number of its entry k is the book without entry k
pub without_place : (m : ℕ) (b : Book) (k : ℕ) → Rising m b → k < length b → without (get_or b k no_entry).number b ≡ take k b ++ drop (suc k) b
unfolding without runs_in
without_place m [] k r q = absurd (omega arith)
without_place m (f ∷ b) zero r q =
    rw (eq-eqb f.number f.number refl)
    (without_none f.number b (any_in_none (λ e. eqb e.number f.number) b (λ e i. ne_eqb e.number f.number (λ h. omega (arith, rising_above f.number b r.1 e i)))))
without_place m (f ∷ b) (suc k) r q =
    let n = (get_or b k no_entry).number in
    let above = rising_above f.number b r.1 (get_or b k no_entry) (get_d_in b k no_entry (omega arith)) in
    rw (ne_eqb f.number n (λ h. omega arith)) (ap (λ (l : Book). f ∷ l) (without_place f.number b k r.1 (omega arith)))

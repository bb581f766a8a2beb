-- What holds of each of the numbers below n, where they are tested one after the other. Assumes nothing.
use Rattle.std.specs.Prelude.{ℕ, ◌<◌, ◌≡◌, ◌⊎◌, ◌↔◌, refl, Bool, true, false, MatchBool, length}
use Rattle.std.specs.List.{list_all, range_with_len, AllWithin, HoldsAt}
use Rattle.std.proofs.lemmas.List.FromFn.{length-range_with_len, get_or-range_with_len}
use Rattle.std.proofs.lemmas.List.Folds.{list_all_at}
use Rattle.std.proofs.lemmas.List.Sums.{list_all-from_AllPass}
use Rattle.std.proofs.Common.{inl, inr, arith, zero-add}
use Rattle.std.proofs.lemmas.Bool.{false≢true}
use Rattle.model.specs.Bounded.{all_below}
use Rattle.model.proofs.Laws.Bounded.{clash, same_test, true_or_false, all_of, all_to}

-- where the test is the model's
pub range_all : (p : ℕ → Bool) (n : ℕ) → list_all p (range_with_len 0 n) ≡ all_below n p
range_all p n =
    same_test (list_all p (range_with_len 0 n)) (all_below n p)
    (λ h. all_of n p (λ k l. go k l (true_or_false (p k)) h))
    (λ h. list_all-from_AllPass p (range_with_len 0 n) (λ k d l. let q : k < n = rw length-range_with_len at l in rw (get_or-range_with_len 0 n k d q, zero-add) (all_to n p h k q)))
  where
    go : (k : ℕ) → k < n → (p k ≡ true) ⊎ (p k ≡ false) → list_all p (range_with_len 0 n) ≡ true → p k ≡ true
    go k l (inl t) h = t
    go k l (inr f) h = clash h (list_all_at p (range_with_len 0 n) k 0 (rw length-range_with_len l) (rw (get_or-range_with_len 0 n k 0 l, zero-add) f))

-- and where it decides P
pub range_each : (P : ℕ → Type 0) (n : ℕ) (q : Bool)
    → MatchBool q (AllWithin P (range_with_len 0 n) 0 (length (range_with_len 0 n))) ((k : ℕ) × (k < length (range_with_len 0 n)) × HoldsAt (λ j. P j → ⊥) (range_with_len 0 n) k)
    → (q ≡ true) ↔ ((k : ℕ) → k < n → P k)
range_each P n true h = (λ u k b. rw (get_or-range_with_len 0 n k 0 b, zero-add) at (h k 0 (omega arith) (rw length-range_with_len b)), λ f. refl)
range_each P n false (k, l, h) =
    let b : k < n = rw length-range_with_len at l in
    (λ u. absurd (false≢true u), λ f. absurd ((rw (get_or-range_with_len 0 n k 0 b, zero-add) at (h 0)) (f k b)))

-- MODEL 13.4: an answer below 0 is a row of the table that speaks of the call. Assumes nothing.
use Rattle.std.specs.Prelude.{ℕ, zero, suc, ◌≡◌, ◌⊎◌, Bool, true, false, cond, List, [], ◌∷◌, map, negsuc}
use Rattle.std.proofs.Common.{inl, inr, arith}
use Rattle.std.proofs.Math.Option.{Option, none, some}
use Rattle.model.specs.Bounded.{In}
use Rattle.model.specs.Columns.{Device}
use Rattle.model.specs.Book.{Book}
use Rattle.model.specs.Record.{device_of, book_of}
use Rattle.model.specs.Calls.{Call, list, choose, place, release, Outcome, Refusal, refused, refusals, unless, lent, done, on_book}
use Rattle.model.specs.OnRecord.{wrong_length, not_sound, written, on_record}

-- MODEL 13.1: the rows that speak of a call, as numbers: those that the book can give, after −1 and −2
abbrev pub book_rows : Call → List ℕ
book_rows (list t o) = 4 ∷ 5 ∷ 6 ∷ 9 ∷ []
book_rows (choose t) = 4 ∷ 5 ∷ 9 ∷ []
book_rows (place t n p y) = 4 ∷ 5 ∷ 7 ∷ 8 ∷ 10 ∷ []
book_rows (release n) = 11 ∷ []

-- a refusal is one of those that were looked at
refused_in : (L : List Refusal) (n : ℕ) → refused L ≡ some n → In n (map (λ (r : Refusal). r.number) L)
unfolding refused
refused_in [] n e = let z : ◌≡◌ {A = ℕ} 0 1 = cc in absurd (omega arith)
refused_in (r ∷ L) n e = go r.when e (refused_in L n)
  where
    go : (t : Bool) → cond t (some r.number) (refused L) ≡ some n → (refused L ≡ some n → In n (map (λ (r : Refusal). r.number) L))
        → (n ≡ r.number) ⊎ In n (map (λ (r : Refusal). r.number) L)
    go true h k = inl cc
    go false h k = inr (k h)

-- an answer below 0 is a refusal, or what the call gives where it is not refused
below_zero : {S : Type 0} (o : Option ℕ) (l : List ℕ) (s : S) (x : Outcome S) (n : ℕ) → (unless o l s x).answer ≡ negsuc n → (o ≡ some (suc n)) ⊎ (x.answer ≡ negsuc n)
unfolding unless
below_zero none l s x n e = inr e
below_zero (some zero) l s x n e = let z : ◌≡◌ {A = ℕ} 0 1 = cc in absurd (omega arith)
below_zero (some (suc k)) l s x n e = inl cc

-- a call that is not refused answers 0 or more
not_below : (d : Device) (b : Book) (c : Call) (n : ℕ) → (done d b c).answer ≡ negsuc n → ⊥
unfolding done
not_below d b (list t o) n e = let z : ◌≡◌ {A = ℕ} 0 1 = cc in omega arith
not_below d b (choose t) n e = let z : ◌≡◌ {A = ℕ} 0 1 = cc in omega arith
not_below d b (place t m p y) n e = let z : ◌≡◌ {A = ℕ} 0 1 = cc in omega arith
not_below d b (release m) n e = let z : ◌≡◌ {A = ℕ} 0 1 = cc in omega arith

in_rows : (d : Device) (b : Book) (c : Call) (n : ℕ) → In n (map (λ (r : Refusal). r.number) (refusals d b c)) → In n (book_rows c)
unfolding refusals
in_rows d b (list t o) n i = i
in_rows d b (choose t) n i = i
in_rows d b (place t m p y) n i = i
in_rows d b (release m) n i = i

pub book_refusals : (d : Device) (b : Book) (c : Call) (n : ℕ) → (on_book d b c).answer ≡ negsuc n → In (suc n) (book_rows c)
unfolding on_book
book_refusals d b c n e = go (below_zero (refused (refusals d b c)) (lent c) b (done d b c) n e)
  where
    go : (refused (refusals d b c) ≡ some (suc n)) ⊎ ((done d b c).answer ≡ negsuc n) → In (suc n) (book_rows c)
    go (inl h) = in_rows d b c (suc n) (refused_in (refusals d b c) (suc n) h)
    go (inr h) = absurd (not_below d b c n h)

-- THEOREM: whatever bytes a call is lent, an answer below 0 is a row of the table that speaks of it
pub only_refusals : (r : List ℕ) (c : Call) (n : ℕ) → (on_record r c).answer ≡ negsuc n → In (suc n) (1 ∷ 2 ∷ book_rows c)
unfolding on_record written
only_refusals r c n e =
    go (below_zero (refused (wrong_length r ∷ not_sound r ∷ [])) (lent c) r (written (device_of r) (on_book (device_of r) (book_of r) c)) n e)
  where
    go : (refused (wrong_length r ∷ not_sound r ∷ []) ≡ some (suc n)) ⊎ ((on_book (device_of r) (book_of r) c).answer ≡ negsuc n) → In (suc n) (1 ∷ 2 ∷ book_rows c)
    go (inl h) = front (refused_in (wrong_length r ∷ not_sound r ∷ []) (suc n) h)
      where
        front : In (suc n) (1 ∷ 2 ∷ []) → In (suc n) (1 ∷ 2 ∷ book_rows c)
        front (inl p) = inl p
        front (inr (inl p)) = inr (inl p)
        front (inr (inr i)) = absurd i
    go (inr h) = inr (inr (book_refusals (device_of r) (book_of r) c n h))

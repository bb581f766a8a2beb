-- MODEL 12, 13 and 22: a call on any string of bytes, by the first refusal that holds; this is what each return of an exported function shows.
-- Assumes nothing.
use Rattle.std.specs.Prelude.{ℕ, ◌≤◌, ◌<◌, ◌≡◌, refl, ◌⊎◌, ◌≢◌, true, false, pos, neg_ℤ, length}
use Rattle.std.proofs.Common.{sym, ap, ◌∙◌, inl, inr}
use Rattle.std.proofs.Math.Option.{Option, none, some}
use mathlib.Core.List.{List, [], ◌∷◌}
use Rattle.std.proofs.Math.Decide.{ℕ_discrete}
use borrow.Author.Tests.{eq-eqb, ne_eqb, lt-ltb, le-ltb}
use Rattle.model.specs.Limits.{record_size}
use Rattle.model.specs.Columns.{Device, columns, device_ok}
use Rattle.model.specs.Book.{Book, intervals}
use Rattle.model.specs.Record.{record_of, device_of, book_of}
use Rattle.model.specs.Sound.{sound}
use Rattle.model.specs.Calls.{Call, list, choose, Outcome, refused, refusals, unless, lent, done, on_book}
use Rattle.model.specs.OnRecord.{wrong_length, not_sound, written, on_record, new, interval_count, Fragmentation, measured, unless_refused, fragmentation}
use Rattle.model.proofs.Laws.Bounded.{true_or_false}
use Rattle.model.proofs.Laws.WriteBack.{Bytes}
use Rattle.model.proofs.Laws.Sound.{sound_length, sound_record}

-- the call answers − n and changes nothing
abbrev pub refusal : ℕ → Call → List ℕ → Outcome (List ℕ)
refusal n c r = record { answer = neg_ℤ (pos n); output = lent c; state = r }

module _ (r : List ℕ) (c : Call) where
  -- −1
  pub wrong_length_call : length r ≢ record_size → on_record r c ≡ refusal 1 c r
  unfolding on_record unless refused
  wrong_length_call h = rw (ne_eqb (length r) record_size h)

  -- −2
  pub not_sound_call : length r ≡ record_size → sound r ≡ false → on_record r c ≡ refusal 2 c r
  unfolding on_record unless refused
  not_sound_call h s = rw (eq-eqb (length r) record_size h, s)

  module _ (s : sound r ≡ true) where
    -- a call on a sound record is the call on its book
    pub sound_call : on_record r c ≡ written (device_of r) (on_book (device_of r) (book_of r) c)
    unfolding on_record unless refused
    sound_call = rw (eq-eqb (length r) record_size (sound_length r s), s)

    -- a refusal that the book gives
    pub refused_call : Bytes r → (n : ℕ) → refused (refusals (device_of r) (book_of r) c) ≡ some n → on_record r c ≡ refusal n c r
    unfolding written on_book unless
    refused_call b n e =
        sound_call ∙ rw e (ap (λ (l : List ℕ). refusal n c l) (sym (sound_record r b s)))

    -- the call is done, and the record is that of the book after it
    pub done_call : refused (refusals (device_of r) (book_of r) c) ≡ none → on_record r c ≡ written (device_of r) (done (device_of r) (book_of r) c)
    unfolding on_book unless
    done_call e = sound_call ∙ rw e

-- ---- what a call leaves

-- a call leaves the bytes as they were, or, on a sound record, the record of the book after it
pub left : (r : List ℕ) (c : Call) → Bytes r → (P : List ℕ → Type 0) → P r
    → (sound r ≡ true → P (record_of (device_of r) (done (device_of r) (book_of r) c).state)) → P (on_record r c).state
unfolding written
left r c B P u v =
    elim (ℕ_discrete (length r) record_size) [
      | yes l ↦ judged l (true_or_false (sound r))
      | no l ↦ rw (wrong_length_call r c l) u
    ]
  where
    booked : sound r ≡ true → (o : Option ℕ) → refused (refusals (device_of r) (book_of r) c) ≡ o → P (on_record r c).state
    booked s none e = rw (done_call r c s e) (v s)
    booked s (some n) e = rw (refused_call r c s B n e) u

    judged : length r ≡ record_size → (sound r ≡ true) ⊎ (sound r ≡ false) → P (on_record r c).state
    judged l (inl s) = booked s (refused (refusals (device_of r) (book_of r) c)) refl
    judged l (inr s) = rw (not_sound_call r c l s) u

-- THEOREM (MODEL 12.7): a call that leaves the book leaves every byte, whatever bytes it was lent; so list and choose do
pub asks_leave : (r : List ℕ) (c : Call) → Bytes r → ((d : Device) (b : Book) → (done d b c).state ≡ b) → (on_record r c).state ≡ r
asks_leave r c B h =
    left r c B (λ s. s ≡ r) refl (λ s. ap (record_of (device_of r)) (h (device_of r) (book_of r)) ∙ sym (sound_record r B s))

pub list_leaves : (r t o : List ℕ) → Bytes r → (on_record r (list t o)).state ≡ r
unfolding done
list_leaves r t o B = asks_leave r (list t o) B (λ d b. refl)

pub choose_leaves : (r t : List ℕ) → Bytes r → (on_record r (choose t)).state ≡ r
unfolding done
choose_leaves r t B = asks_leave r (choose t) B (λ d b. refl)

-- ---- new

-- it answers − n and changes nothing
abbrev pub plain_refusal : ℕ → List ℕ → Outcome (List ℕ)
plain_refusal n r = record { answer = neg_ℤ (pos n); output = []; state = r }

module _ (r : List ℕ) (rows : ℕ) (kinds : List ℕ) where
  pub new_wrong_length : length r ≢ record_size → new r rows kinds ≡ plain_refusal 1 r
  unfolding new unless refused
  new_wrong_length h = rw (ne_eqb (length r) record_size h)

  pub new_bad_device : length r ≡ record_size → device_ok (record { rows = rows; kinds = kinds }) ≡ false → new r rows kinds ≡ plain_refusal 3 r
  unfolding new unless refused
  new_bad_device h e = rw (eq-eqb (length r) record_size h, e)

  pub new_done : length r ≡ record_size → device_ok (record { rows = rows; kinds = kinds }) ≡ true
      → new r rows kinds ≡ record { answer = pos 0; output = []; state = record_of (record { rows = rows; kinds = kinds }) [] }
  unfolding new unless refused
  new_done h e = rw (eq-eqb (length r) record_size h, e)

-- ---- the interval count

module _ (r : List ℕ) (c : ℕ) where
  pub count_wrong_length : length r ≢ record_size → interval_count r c ≡ plain_refusal 1 r
  unfolding interval_count unless refused
  count_wrong_length h = rw (ne_eqb (length r) record_size h)

  pub count_not_sound : length r ≡ record_size → sound r ≡ false → interval_count r c ≡ plain_refusal 2 r
  unfolding interval_count unless refused
  count_not_sound h s = rw (eq-eqb (length r) record_size h, s)

  pub count_no_column : sound r ≡ true → columns (device_of r) ≤ c → interval_count r c ≡ plain_refusal 3 r
  unfolding interval_count unless refused
  count_no_column s h = rw (eq-eqb (length r) record_size (sound_length r s), s, le-ltb c (columns (device_of r)) h)

  pub count_done : sound r ≡ true → c < columns (device_of r)
      → interval_count r c ≡ record { answer = pos (length (intervals (device_of r) (book_of r) c)); output = []; state = r }
  unfolding interval_count unless refused
  count_done s h = rw (eq-eqb (length r) record_size (sound_length r s), s, lt-ltb c (columns (device_of r)) h)

-- ---- the fragmentation

-- it answers − n and two zeros
abbrev pub no_fragmentation : ℕ → List ℕ → Fragmentation
no_fragmentation n r = record { answer = neg_ℤ (pos n); free = pos 0; degree = pos 0; state = r }

module _ (r : List ℕ) where
  pub fragmentation_wrong_length : length r ≢ record_size → fragmentation r ≡ no_fragmentation 1 r
  unfolding fragmentation unless_refused refused
  fragmentation_wrong_length h = rw (ne_eqb (length r) record_size h)

  pub fragmentation_not_sound : length r ≡ record_size → sound r ≡ false → fragmentation r ≡ no_fragmentation 2 r
  unfolding fragmentation unless_refused refused
  fragmentation_not_sound h s = rw (eq-eqb (length r) record_size h, s)

  pub fragmentation_done : sound r ≡ true → fragmentation r ≡ measured (device_of r) (book_of r) r
  unfolding fragmentation unless_refused refused
  fragmentation_done s = rw (eq-eqb (length r) record_size (sound_length r s), s)

-- THEOREM (MODEL 22.5): it leaves every byte of the record, whatever bytes it was lent
pub fragmentation_leaves : (r : List ℕ) → (fragmentation r).state ≡ r
unfolding fragmentation measured unless_refused
fragmentation_leaves r = go (refused (wrong_length r ∷ not_sound r ∷ []))
  where
    go : (o : Option ℕ) → (unless_refused o r (measured (device_of r) (book_of r) r)).state ≡ r
    go none = refl
    go (some n) = refl

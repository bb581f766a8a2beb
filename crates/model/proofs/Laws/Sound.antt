-- MODEL 9.9: a string of bytes is sound just where the device and the book that it says are within the limits, and it is the record of these.
-- `sound` has the clauses one by one; this says that they leave nothing open. Assumes nothing.
use Rattle.std.specs.Prelude.{ℕ, ◌+◌, ◌-◌, ◌≤◌, ◌<◌, ◌≡◌, ◌⊎◌, ◌↔◌, true, replicate}
use Rattle.std.proofs.Math.Path.{sym, ap, ap₂}
use Rattle.std.proofs.Common.{◌∙◌, inl, inr, arith, lt-ltb, le-ltb}
use mathlib.Core.List.{List, [], ◌∷◌, ◌++◌, map}
use Rattle.std.proofs.Math.ListN.{length, get_or}
use Rattle.std.proofs.lemmas.List.{length-map, get_or-replicate}
use Rattle.runs.specs.Laws.Tests.{lt_or_ge}
use Rattle.model.specs.Limits.{max_columns, max_running, record_size, columns_at, running_at, head_size, kinds_at, counts_at, column_size, entry_size}
use Rattle.model.specs.Bounded.{join_below}
use Rattle.model.specs.Columns.{Device, columns, kind}
use Rattle.model.specs.Book.{Running, Book, intervals}
use Rattle.model.specs.Record.{padded, entry_bytes, head_bytes, column_part, entry_part, record_of, part, column_at, entry_at, device_of, running_of, book_of, listed_intervals}
use Rattle.model.specs.Sound.{within, count_of, used, sound}
use Rattle.model.specs.InPlace.{no_entry}
use Rattle.model.proofs.Laws.Limits.{limits_to}
use Rattle.model.proofs.Laws.Cells.{few_intervals}
use Rattle.model.proofs.Laws.Parts.{length_part, get_d_part, part_byte, part_add, get_d_list, length_list}
use Rattle.model.proofs.Laws.Slots.{slot_map, slot_out}
use Rattle.model.proofs.Laws.Record.{Shows, shows_image, kind_out, intervals_out, record_length, record_columns, record_running, record_kind, record_count, record_column, record_entry, record_entry_out}
use Rattle.model.proofs.Laws.Clauses.{Zero, Clauses, clauses_to, clauses_of}
use Rattle.model.proofs.Laws.WriteBack.{Bytes, two_bytes, word_again, zero_part, bytes_part, entry_again, count_listed, column_again}
use Rattle.model.proofs.Laws.ReadBack.{column_rest, entry_rest, task_sized, device_of_record, book_of_record, blocks_of_record, listed_of_record}

-- ---- what a sound record says is what it is the record of

-- the columns, their kinds and the running tasks that r says, by its bytes
pub columns_said : (r : List ℕ) → columns (device_of r) ≡ get_or r columns_at 0
unfolding columns device_of
columns_said r = length_list (λ c. get_or r (kinds_at + c) 0) (get_or r columns_at 0)

pub kind_read : (r : List ℕ) (c : ℕ) → c < get_or r columns_at 0 → kind (device_of r) c ≡ get_or r (kinds_at + c) 0
unfolding kind device_of
kind_read r c q = get_d_list (λ c. get_or r (kinds_at + c) 0) (get_or r columns_at 0) c 0 q

pub running_said : (r : List ℕ) → length (book_of r) ≡ get_or r running_at 0
unfolding book_of
running_said r = length_list (λ j. running_of (part r (entry_at j) entry_size)) (get_or r running_at 0)

module _ (r : List ℕ) (x : Clauses r) where
  kind_said : (c : ℕ) → c < max_columns → get_or r (kinds_at + c) 0 ≡ kind (device_of r) c
  kind_said c q = go (lt_or_ge c (get_or r columns_at 0))
    where
      go : (c < get_or r columns_at 0) ⊎ (get_or r columns_at 0 ≤ c) → get_or r (kinds_at + c) 0 ≡ kind (device_of r) c
      go (inl p) = sym (kind_read r c p)
      go (inr p) = x.no_kind (kinds_at + c) (omega arith) (omega arith) ∙ sym (kind_out (device_of r) c (omega (arith, columns_said r)))

  -- past the last column, too
  pub listed_said : (c : ℕ) → c < max_columns → listed_intervals r c ≡ intervals (device_of r) (book_of r) c
  unfolding listed_intervals join_below
  listed_said c q = go (lt_or_ge c (columns (device_of r)))
    where
      go : (c < columns (device_of r)) ⊎ (columns (device_of r) ≤ c) → listed_intervals r c ≡ intervals (device_of r) (book_of r) c
      go (inl p) = x.free_runs c p
      go (inr p) =
          let none : count_of r c ≡ 0 = x.no_count (counts_at + c) (omega (arith, columns_said r)) (omega arith) in
          (rw none) ∙ sym (intervals_out (device_of r) (book_of r) c p)

  module _ (B : Bytes r) where
    entry_said : (j : ℕ) → j < max_running → part r (entry_at j) entry_size ≡ entry_part (book_of r) j
    unfolding book_of used
    entry_said j q = go (lt_or_ge j (get_or r running_at 0))
      where
        room : entry_at j + entry_size ≤ length r
        room = omega (arith, x.size)

        byte : (i : ℕ) → i < entry_size → get_or (part r (entry_at j) entry_size) i 0 ≡ get_or r (entry_at j + i) 0
        byte i = get_d_part r (entry_at j) entry_size i 0

        go : (j < get_or r running_at 0) ⊎ (get_or r running_at 0 ≤ j) → part r (entry_at j) entry_size ≡ entry_part (book_of r) j
        go (inl h) =
            let p = part r (entry_at j) entry_size in
            let n = byte 3 (omega arith) in
            sym (
            slot_map entry_size entry_bytes (book_of r) j no_entry (omega (arith, running_said r))
            ∙ ap (λ (e : Running). padded entry_size (entry_bytes e)) (get_d_list (λ j. running_of (part r (entry_at j) entry_size)) (get_or r running_at 0) j no_entry h)
            ∙ entry_again p (bytes_part r (entry_at j) entry_size room B) (length_part r (entry_at j) entry_size room) (omega (arith, x.few_blocks j h))
            (λ i a e. byte i e ∙ x.no_block j q (entry_at j + i) (rw (lt-ltb j (get_or r running_at 0) h) (omega arith)) (omega arith))
            )
        go (inr h) =
            zero_part r (entry_at j) entry_size room (λ i a e. x.no_block j q i (rw (le-ltb j (get_or r running_at 0) h) (omega arith)) e)
            ∙ sym (slot_out entry_size (map entry_bytes (book_of r)) j (omega (arith, running_said r, length-map (book_of r) entry_bytes)))

    head_said : part r 0 head_size ≡ head_bytes (device_of r) (book_of r)
    unfolding head_bytes device_of
    head_said =
        let l = x.size in
        part_add r 0 2 2
        ∙ ap₂ ◌++◌ (sym (word_again r 0 B (omega arith))) (two_bytes r 2 (omega arith) ∙ ap₂ (λ (n m : ℕ). n ∷ m ∷ []) (sym (columns_said r)) (sym (running_said r)))

    shows_said : Shows r (device_of r) (book_of r) (intervals (device_of r) (book_of r))
    shows_said = record {
      size = x.size;
      head_is = head_said;
      kind_is = kind_said;
      count_is = λ c q. sym (count_listed r c) ∙ ap length (listed_said c q);
      column_is = λ c q. column_again r c B x.size q (x.few_intervals c q) (x.no_interval c q) ∙ ap column_part (listed_said c q);
      entry_is = entry_said;
    }

-- ---- the record of what is within the limits is sound

module _ (d : Device) (b : Book) (w : within d b ≡ true) where
  rest_record : (j : ℕ) → j < max_running → Zero (record_of d b) (entry_at j + used (record_of d b) j) (entry_at j + entry_size)
  unfolding used
  rest_record j q i a e = go (lt_or_ge j (length b))
    where
      at : (p : List ℕ) → part (record_of d b) (entry_at j) entry_size ≡ p → get_or p (i - entry_at j) 0 ≡ 0 → get_or (record_of d b) i 0 ≡ 0
      at p r z = part_byte (record_of d b) (entry_at j) entry_size i 0 (omega arith) e ∙ ap (λ (p : List ℕ). get_or p (i - entry_at j) 0) r ∙ z

      go : (j < length b) ⊎ (length b ≤ j) → get_or (record_of d b) i 0 ≡ 0
      go (inl l) =
          let x = get_or b j no_entry in
          let a' = rw (record_running d b, lt-ltb j (length b) l) at a in
          at (padded entry_size (entry_bytes x)) (record_entry d b j no_entry q l)
          (entry_rest x (task_sized d b w j l).whole (i - entry_at j) (omega (arith, blocks_of_record d b w j l)) (omega arith))
      go (inr l) = at (replicate entry_size 0) (record_entry_out d b j q l) (get_or-replicate entry_size (i - entry_at j) 0 0 (omega arith))

  record_clauses : Clauses (record_of d b)
  record_clauses =
      let l = limits_to d b w in
      let cols = l.columns in
      let run = l.few in
      let n = record_running d b in
      let k = record_columns d b in
      record {
        size = record_length d b;
        few_running = omega arith;
        some_blocks = λ j q. omega (arith, blocks_of_record d b w j (omega arith), (task_sized d b w j (omega arith)).some_blocks);
        few_blocks = λ j q. omega (arith, blocks_of_record d b w j (omega arith), (task_sized d b w j (omega arith)).few);
        few_intervals = λ c q. omega (arith, record_count d b c q, few_intervals d b w c);
        limits = rw (device_of_record d b w, book_of_record d b w) w;
        free_runs = λ c q.
            let p = rw (device_of_record d b w) at q in
            rw (device_of_record d b w, book_of_record d b w) (listed_of_record d b w c (omega arith));
        no_kind = λ i a e. at i kinds_at (omega arith) ∙ record_kind d b (i - kinds_at) (omega arith) ∙ kind_out d (i - kinds_at) (omega arith);
        no_count = λ i a e. at i counts_at (omega arith) ∙ record_count d b (i - counts_at) (omega arith) ∙ ap length (intervals_out d b (i - counts_at) (omega arith));
        no_interval = λ c q i a e.
            part_byte (record_of d b) (column_at c) column_size i 0 (omega arith) e
            ∙ ap (λ (p : List ℕ). get_or p (i - column_at c) 0) (record_column d b c q)
            ∙ column_rest (intervals d b c) (i - column_at c) (omega (arith, record_count d b c q)) (omega arith);
        no_block = rest_record;
      }
    where
      at : (i k : ℕ) → k ≤ i → get_or (record_of d b) i 0 ≡ get_or (record_of d b) (k + (i - k)) 0
      at i k l = let e : i ≡ k + (i - k) = omega arith in ap (λ (m : ℕ). get_or (record_of d b) m 0) e

  -- THEOREM: the record of a device and a book within the limits is sound
  pub record_sound : sound (record_of d b) ≡ true
  record_sound = clauses_of (record_of d b) record_clauses

-- ---- the theorem

-- a sound record has 29,188 bytes, and says what is within the limits
pub sound_length : (r : List ℕ) → sound r ≡ true → length r ≡ record_size
sound_length r s = (clauses_to r s).size

pub sound_within : (r : List ℕ) → sound r ≡ true → within (device_of r) (book_of r) ≡ true
sound_within r s = (clauses_to r s).limits

-- a sound byte string is the record of what it says
pub sound_record : (r : List ℕ) → Bytes r → sound r ≡ true → r ≡ record_of (device_of r) (book_of r)
unfolding record_of
sound_record r B s = shows_image r (device_of r) (book_of r) (intervals (device_of r) (book_of r)) (shows_said r (clauses_to r s) B)

-- THEOREM (MODEL 9.9): to be sound is to say what is within the limits and to be the record of it
pub sound_exactly : (r : List ℕ) → Bytes r → (sound r ≡ true) ↔ ((within (device_of r) (book_of r) ≡ true) × (r ≡ record_of (device_of r) (book_of r)))
sound_exactly r B = (λ s. (sound_within r s, sound_record r B s), λ h. ap sound h.1 ∙ record_sound (device_of r) (book_of r) h.0)

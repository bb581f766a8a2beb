-- The whole record: its parts make it sound, and a part that is wrong makes it unsound. Assumes nothing.
use Rattle.std.specs.Prelude.{ℕ, ◌+◌, ◌-◌, ◌*◌, ◌/◌, ◌%◌, ◌≤◌, ◌<◌, ◌≡◌, refl, ◌⊎◌, Bool, true, false, List, length, get_or, take, drop, replicate}
use Rattle.std.proofs.Math.Path.{sym}
use Rattle.std.proofs.Common.{ap, ◌∙◌, inl, inr, arith, lt-ltb, le-ltb, length-take, get_or-take, get_or-drop}
use Rattle.std.proofs.Math.Nat.{add-sub_cancel_left}
use Rattle.std.proofs.lemmas.List.{get_or-replicate, length-replicate}
use Rattle.std.proofs.Math.ListN.{get_or-eq_default}
use Rattle.runs.specs.Laws.Tests.{lt_or_ge}
use Rattle.runs.specs.Laws.Intervals.{intervals_free}
use Rattle.model.specs.Limits.{max_columns, max_intervals, max_running, record_size, columns_at, running_at, counts_at, column_size, interval_size, entry_size}
use Rattle.model.specs.Bounded.{any_in}
use Rattle.model.specs.Columns.{top, device_ok}
use Rattle.model.specs.Book.{held, free, intervals}
use Rattle.model.specs.Record.{part, column_at, entry_at, listed_intervals, device_of, book_of}
use Rattle.model.specs.Sound.{count_of, used, sound}
use Rattle.model.proofs.Laws.Bounded.{is_false, clash}
use Rattle.model.proofs.Laws.Columns.{top_le}
use Rattle.model.proofs.Laws.Parts.{part_byte}
use Rattle.model.proofs.Laws.Limits.{limits_to}
use Rattle.model.proofs.Laws.Cells.{few_intervals}
use Rattle.model.proofs.Laws.Kept.{within_new}
use Rattle.model.proofs.Laws.Clauses.{Zero, clauses_of}
use Rattle.model.proofs.Laws.Sound.{columns_said, running_said}
use Rattle.model.proofs.Laws.WriteBack.{Bytes}
use Rattle.std.specs.Bool.{Decides}
use Rattle.column.specs.Laws.Part.{encodes, free_small}
use Rattle.column.specs.Laws.Lent.{listed_lent}
use Rattle.cells.specs.Bits.{word_bits, cell_bit, digit}
use Rattle.cells.specs.Ends.{ends, coded}
use Rattle.cells.specs.Laws.Bits.{digit_zero}
use Rattle.cells.specs.Laws.Coded.{column_byte, length_coded, ends_length}
use Rattle.marks.specs.Marks.{column_words, all_words}
use Rattle.marks.specs.Laws.Marks.{few_columns}
use Rattle.soundness.specs.Soundness.{Judged, TasksHeld, ColumnsOk, Unused}
use Rattle.soundness.specs.Laws.Unused.{sound_unused}
use Rattle.soundness.specs.Laws.Columns.{kinds_counted, all_within, sound_column}

pub refused_unused : (r : List ℕ) → ¬ Unused r → false ≡ sound r
refused_unused r h = sym (is_false (sound r) (λ s. h (sound_unused r s)))

-- ---- all of it together

module _ (r H : List ℕ) (n : length r ≡ record_size) (ok : device_ok (device_of r) ≡ true) (m : TasksHeld r H (get_or r running_at 0)) (u : Unused r) (l : ColumnsOk r (get_or r columns_at 0)) where
  kinds_are : length (device_of r).kinds ≡ get_or r columns_at 0
  kinds_are = kinds_counted r refl

  count_few : (c : ℕ) → c < max_columns → (c < get_or r columns_at 0) ⊎ (get_or r columns_at 0 ≤ c) → count_of r c ≤ max_intervals
  count_few c q (inl p) = omega (arith, (l c p).count_is, few_intervals (device_of r) (book_of r) (all_within r H m) c)
  count_few c q (inr p) = omega (arith, u.counts (counts_at + c) (omega arith) (omega arith))

  part_zero : (c : ℕ) → c < max_columns → (c < get_or r columns_at 0) ⊎ (get_or r columns_at 0 ≤ c) → Zero r (column_at c + interval_size * count_of r c) (column_at c + column_size)
  part_zero c q (inl p) i a b =
      let is = intervals (device_of r) (book_of r) c in
      let x = l c p in
      part_byte r (column_at c) column_size i 0 (omega arith) (omega arith)
      ∙ ap (λ (b : List ℕ). get_or b (i - column_at c) 0) x.bytes_are ∙ column_byte is (i - column_at c) (omega arith)
      ∙ get_or-eq_default (coded (ends is)) 0 (omega (arith, x.count_is, length_coded (ends is), ends_length is))
  part_zero c q (inr p) i a b = u.parts i (omega arith) (omega arith)

  runs_said : (c : ℕ) → c < get_or r columns_at 0 → listed_intervals r c ≡ intervals (device_of r) (book_of r) c
  unfolding part intervals
  runs_said c p =
      let d = device_of r in
      let b = book_of r in
      let x = l c p in
      let few = count_few c (omega (arith, few_columns (device_of r) ok, kinds_are)) (inl p) in
      let g = intervals_free (free d b c) (top d c) in
      sym (listed_lent r c n (omega (arith, few_columns (device_of r) ok, kinds_are)) few)
      ∙ encodes (record {
        bytes_are = rw add-sub_cancel_left x.bytes_are;
        count_is = x.count_is;
        few = omega (arith, x.count_is);
        small = free_small (free d b c) (top d c) (intervals d b c) (omega (arith, top_le d c, (limits_to d b (all_within r H m)).rows)) g;
      })

  entry_zero : (j : ℕ) → j < max_running → (j < get_or r running_at 0) ⊎ (get_or r running_at 0 ≤ j) → Zero r (entry_at j + used r j) (entry_at j + entry_size)
  unfolding used
  entry_zero j q (inl p) = rw (lt-ltb j (get_or r running_at 0) p) (λ i a b. m.rests j p i (omega arith) b)
  entry_zero j q (inr p) = rw (le-ltb j (get_or r running_at 0) p) (λ i a b. u.entries i (omega arith) (omega arith))

  -- THEOREM: then the record is sound
  pub all_sound : sound r ≡ true
  all_sound = clauses_of r (record {
    size = n;
    few_running = omega (arith, running_said r, (limits_to (device_of r) (book_of r) (all_within r H m)).few);
    some_blocks = m.some_blocks;
    few_blocks = m.few_blocks;
    few_intervals = λ c q. count_few c q (lt_or_ge c (get_or r columns_at 0));
    limits = all_within r H m;
    free_runs = λ c q. runs_said c (omega (arith, columns_said r));
    no_kind = u.kinds;
    no_count = u.counts;
    no_interval = λ c q. part_zero c q (lt_or_ge c (get_or r columns_at 0));
    no_block = λ j q. entry_zero j q (lt_or_ge j (get_or r running_at 0));
  })

-- THEOREM: where entries and unused bytes are right, the columns' answer is the record's
pub judged_sound : (r H : List ℕ) → length r ≡ record_size → device_ok (device_of r) ≡ true → TasksHeld r H (get_or r running_at 0) → Unused r
    → (ok : Bool) → Judged r (ColumnsOk r (get_or r columns_at 0)) ok → ok ≡ sound r
judged_sound r H n k m u true j = sym (all_sound r H n k m u (j.holds refl))
judged_sound r H n k m u false j = sym (j.refused refl)

-- a column that does not list its free intervals is none of a sound record
pub columns_judged : (r : List ℕ) → Bytes r → device_ok (device_of r) ≡ true → (ok : Bool) → Decides ok (ColumnsOk r (get_or r columns_at 0))
    → Judged r (ColumnsOk r (get_or r columns_at 0)) ok
columns_judged r B k ok (to, of) = record {
  holds = to;
  refused = λ f. is_false (sound r) (λ s. clash (of (λ c q. sound_column r B s c (omega (arith, few_columns (device_of r) k, kinds_counted r refl)))) f);
}

-- a word of words that are all 0
get_d_zeros : (n x : ℕ) → ◌≡◌ {A = ℕ} (get_or (replicate n 0) x 0) 0
get_d_zeros n x = go (lt_or_ge x n)
  where
    go : (x < n) ⊎ (n ≤ x) → ◌≡◌ {A = ℕ} (get_or (replicate n 0) x 0) 0
    go (inl q) = get_or-replicate n x 0 0 q
    go (inr q) = get_or-eq_default (replicate n 0) 0 (omega (arith, length-replicate {A = ℕ} n 0))

zero_word : (n a x : ℕ) → ◌≡◌ {A = ℕ} (get_or (take column_words (drop a (replicate n 0))) x 0) 0
zero_word n a x = go (lt_or_ge x column_words)
  where
    go : (x < column_words) ⊎ (column_words ≤ x) → ◌≡◌ {A = ℕ} (get_or (take column_words (drop a (replicate n 0))) x 0) 0
    go (inl q) = get_or-take column_words (drop a (replicate n 0)) x 0 q ∙ get_or-drop a (replicate n 0) x 0 ∙ get_d_zeros n (a + x)
    go (inr q) = get_or-eq_default (take column_words (drop a (replicate n 0))) 0 (rw length-take (omega arith))

-- nothing marked yet
pub held_none : (r H : List ℕ) → device_ok (device_of r) ≡ true → H ≡ replicate all_words 0 → TasksHeld r H 0
unfolding cell_bit part held any_in
held_none r H ok h = record {
  limits = within_new (device_of r) ok;
  shown = λ c k i q n o.
      rw h (ap (λ (x : ℕ). digit x (k % word_bits)) (zero_word all_words (column_words * c) (k / word_bits)) ∙ digit_zero (k % word_bits));
  rests = λ i q. absurd (omega arith);
  some_blocks = λ i q. absurd (omega arith);
  few_blocks = λ i q. absurd (omega arith);
}

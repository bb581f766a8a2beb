-- MODEL 9.1 to 9.8: the clauses of `sound`, each as a fact, and back. Assumes nothing.
use Rattle.std.specs.Prelude.{ℕ, ◌+◌, ◌-◌, ◌*◌, ◌≤◌, ◌<◌, ◌≡◌, refl, Bool, true, ◌&&◌, List, [], ◌∷◌, leb, eqb, length}
use Rattle.std.proofs.Common.{ap₂, arith}
use Rattle.std.proofs.lemmas.Bool.{false≢true}
use Rattle.std.proofs.Math.ListN.{get_or}
use borrow.Author.Tests.{eqb-true, leb-true, eq-eqb, le-leb}
use Rattle.runs.specs.Intervals.{Interval, interval}
use Rattle.model.specs.Limits.{max_columns, max_running, max_blocks, max_intervals, record_size, columns_at, running_at, kinds_at, counts_at, column_size, interval_size, entry_size}
use Rattle.model.specs.Bounded.{all_below}
use Rattle.model.specs.Columns.{columns}
use Rattle.model.specs.Book.{intervals}
use Rattle.model.specs.Record.{device_of, book_of, listed_intervals, column_at, entry_at}
use Rattle.model.specs.Sound.{within, count_of, block_count, counts_ok, same_intervals, intervals_ok, zeros, used, unused_ok, sound}
use Rattle.model.proofs.Laws.Bounded.{and_to, and3_to, and4_to, and5_to, all_to, all_of}

-- the bytes from a on and below e are 0
abbrev pub Zero : List ℕ → ℕ → ℕ → Type 0
Zero r a e = (i : ℕ) → a ≤ i → i < e → get_or r i 0 ≡ 0

-- the test, and what it says
pub zeros_to : (r : List ℕ) (a e : ℕ) → zeros r a e ≡ true → Zero r a e
unfolding zeros
zeros_to r a e h i p q =
    let s : a + (i - a) ≡ i = omega arith in
    eqb-true (get_or r i 0) 0 (rw s at (all_to (e - a) (λ i. eqb (get_or r (a + i) 0) 0) h (i - a) (omega arith)))

pub zeros_of : (r : List ℕ) (a e : ℕ) → Zero r a e → zeros r a e ≡ true
unfolding zeros
zeros_of r a e h = all_of (e - a) (λ i. eqb (get_or r (a + i) 0) 0) (λ i q. eq-eqb (get_or r (a + i) 0) 0 (h (a + i) (omega arith) (omega arith)))

-- lists that the test calls the same are one
pub same_to : (L M : List Interval) → same_intervals L M ≡ true → L ≡ M
unfolding same_intervals
same_to [] [] h = refl
same_to [] (j ∷ M) h = absurd (false≢true h)
same_to (i ∷ L) [] h = absurd (false≢true h)
same_to (i ∷ L) (j ∷ M) h =
    let (b, t, s) = and3_to (eqb i.bottom j.bottom) (eqb i.top j.top) (same_intervals L M) h in
    ap₂ (λ (x : Interval) (l : List Interval). x ∷ l) (ap₂ interval (eqb-true i.bottom j.bottom b) (eqb-true i.top j.top t)) (same_to L M s)

same_refl : (L : List Interval) → same_intervals L L ≡ true
unfolding same_intervals
same_refl [] = refl
same_refl (i ∷ L) = rw (eq-eqb i.bottom i.bottom refl, eq-eqb i.top i.top refl) (same_refl L)

-- what a sound record says
pub record Clauses (r : List ℕ) : Type 0 where
  pub size : length r ≡ record_size
  pub few_running : get_or r running_at 0 ≤ max_running
  pub some_blocks : (j : ℕ) → j < get_or r running_at 0 → 1 ≤ block_count r j
  pub few_blocks : (j : ℕ) → j < get_or r running_at 0 → block_count r j ≤ max_blocks
  pub few_intervals : (c : ℕ) → c < max_columns → count_of r c ≤ max_intervals
  pub limits : within (device_of r) (book_of r) ≡ true
  pub free_runs : (c : ℕ) → c < columns (device_of r) → listed_intervals r c ≡ intervals (device_of r) (book_of r) c
  pub no_kind : Zero r (kinds_at + get_or r columns_at 0) (kinds_at + max_columns)
  pub no_count : Zero r (counts_at + get_or r columns_at 0) (counts_at + max_columns)
  pub no_interval : (c : ℕ) → c < max_columns → Zero r (column_at c + interval_size * count_of r c) (column_at c + column_size)
  pub no_block : (j : ℕ) → j < max_running → Zero r (entry_at j + used r j) (entry_at j + entry_size)

module _ (r : List ℕ) where
  blocks_ok : ℕ → Bool
  blocks_ok j = leb 1 (block_count r j) && leb (block_count r j) max_blocks

  columns_ok : ℕ → Bool
  columns_ok c = leb (count_of r c) max_intervals

  runs_ok : ℕ → Bool
  runs_ok c = same_intervals (listed_intervals r c) (intervals (device_of r) (book_of r) c)

  interval_rest : ℕ → Bool
  interval_rest c = zeros r (column_at c + interval_size * count_of r c) (column_at c + column_size)

  block_rest : ℕ → Bool
  block_rest j = zeros r (entry_at j + used r j) (entry_at j + entry_size)

  -- THEOREM: a sound record has each of them
  pub clauses_to : sound r ≡ true → Clauses r
  unfolding sound counts_ok intervals_ok unused_ok blocks_ok columns_ok runs_ok interval_rest block_rest
  clauses_to h =
      let k = get_or r columns_at 0 in
      let n = get_or r running_at 0 in
      let (size, counts, limits, runs, unused) = and5_to (eqb (length r) record_size) (counts_ok r) (within (device_of r) (book_of r)) (intervals_ok r) (unused_ok r) h in
      let (few, bs, cs) = and3_to (leb n max_running) (all_below n blocks_ok) (all_below max_columns columns_ok) counts in
      let (zk, zc, zi, zb) =
      and4_to (zeros r (kinds_at + k) (kinds_at + max_columns)) (zeros r (counts_at + k) (counts_at + max_columns)) (all_below max_columns interval_rest) (all_below max_running block_rest) unused in
      let two : (j : ℕ) → j < n → (leb 1 (block_count r j) ≡ true) × (leb (block_count r j) max_blocks ≡ true) =
      λ j q. and_to (leb 1 (block_count r j)) (leb (block_count r j) max_blocks) (all_to n blocks_ok bs j q) in
      record {
        size = eqb-true (length r) record_size size;
        few_running = leb-true n max_running few;
        some_blocks = λ j q. leb-true 1 (block_count r j) (two j q).0;
        few_blocks = λ j q. leb-true (block_count r j) max_blocks (two j q).1;
        few_intervals = λ c q. leb-true (count_of r c) max_intervals (all_to max_columns columns_ok cs c q);
        limits = limits;
        free_runs = λ c q. same_to (listed_intervals r c) (intervals (device_of r) (book_of r) c) (all_to (columns (device_of r)) runs_ok runs c q);
        no_kind = zeros_to r (kinds_at + k) (kinds_at + max_columns) zk;
        no_count = zeros_to r (counts_at + k) (counts_at + max_columns) zc;
        no_interval = λ c q. zeros_to r (column_at c + interval_size * count_of r c) (column_at c + column_size) (all_to max_columns interval_rest zi c q);
        no_block = λ j q. zeros_to r (entry_at j + used r j) (entry_at j + entry_size) (all_to max_running block_rest zb j q);
      }

  -- THEOREM: and what has them all is sound
  pub clauses_of : Clauses r → sound r ≡ true
  unfolding sound counts_ok intervals_ok unused_ok blocks_ok columns_ok runs_ok interval_rest block_rest
  clauses_of x =
      let k = get_or r columns_at 0 in
      let n = get_or r running_at 0 in
      let bs = all_of n blocks_ok (λ j q. rw (le-leb 1 (block_count r j) (x.some_blocks j q)) (le-leb (block_count r j) max_blocks (x.few_blocks j q))) in
      let cs = all_of max_columns columns_ok (λ c q. le-leb (count_of r c) max_intervals (x.few_intervals c q)) in
      let runs = all_of (columns (device_of r)) runs_ok (λ c q. rw (x.free_runs c q) (same_refl (intervals (device_of r) (book_of r) c))) in
      let zi = all_of max_columns interval_rest (λ c q. zeros_of r (column_at c + interval_size * count_of r c) (column_at c + column_size) (x.no_interval c q)) in
      let zb = all_of max_running block_rest (λ j q. zeros_of r (entry_at j + used r j) (entry_at j + entry_size) (x.no_block j q)) in
      rw (
        eq-eqb (length r) record_size x.size,
        le-leb n max_running x.few_running,
        bs,
        cs,
        x.limits,
        runs,
        zeros_of r (kinds_at + k) (kinds_at + max_columns) x.no_kind,
        zeros_of r (counts_at + k) (counts_at + max_columns) x.no_count,
        zi,
      )
      zb

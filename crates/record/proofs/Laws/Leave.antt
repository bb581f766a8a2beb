-- MODEL 12.5: a running task taken out, as the code goes. Its task is read from its entry's bytes, its blocks are freed, and its entry goes. Assumes nothing.
use Rattle.std.specs.Prelude.{ℕ, suc, ◌+◌, ◌-◌, ◌*◌, ◌≤◌, ◌<◌, ◌≡◌, List, ◌++◌, get_or}
use Rattle.std.proofs.Math.Path.{sym, ap}
use Rattle.std.proofs.Common.{◌∙◌}
use native.Mathlib.Omega.{arith}
use Rattle.std.proofs.Math.Numerals.{add-one}
use Rattle.std.proofs.Math.ListN.{take, drop}
use Rattle.runs.specs.Intervals.{unite}
use Rattle.model.specs.Limits.{max_blocks, max_running, block_size, reach, running_at, column_size, entry_size, blocks_at}
use Rattle.model.specs.Tasks.{word, block, blocks}
use Rattle.model.specs.Book.{Running, placed, standing, intervals}
use Rattle.model.specs.Record.{part, column_at, entry_at, record_of, device_of, book_of}
use Rattle.model.specs.Calls.{without}
use Rattle.model.specs.Sound.{count_of, block_count}
use Rattle.model.specs.Bounded.{In}
use Rattle.model.specs.InPlace.{put_column, no_entry}
use Rattle.model.proofs.Laws.Limits.{limits_to}
use Rattle.model.proofs.Laws.Parts.{get_d_part, part_part}
use Rattle.model.proofs.Laws.Clauses.{clauses_to}
use Rattle.model.proofs.Laws.Record.{Shows, image_shows, image_cong, shows_image, record_shows, running_read}
use Rattle.model.proofs.Laws.WriteBack.{Bytes}
use Rattle.model.proofs.Laws.ReadBack.{get_d_in}
use Rattle.model.proofs.Laws.Sound.{running_said, sound_within, sound_record}
use Rattle.task.specs.declared.Block.{Block as Read}
use Rattle.task.specs.Blocks.{Same}
use Rattle.column.specs.Part.{Joinable}
use Rattle.record.specs.Edit.{Seated}
use Rattle.record.specs.Columns.{column_list, runs_of}
use Rattle.record.specs.Entries.{entry_of, blocks_of, bytes_entry, HasEntry, HasTask, Removed}
use Rattle.record.specs.Leave.{free_join, freed, Runs, freed_entry}
use Rattle.record.specs.Laws.Said.{blocks_part, entry_by_bytes, blocks_sized, count_sound, sound_formed}
use Rattle.record.specs.Laws.Entries.{without_place}
use Rattle.record.specs.Laws.Columns.{seat}
use Rattle.record.specs.Laws.Join.{stands_in, freed_none, freed_room, freed_more, freed_all}

-- ---- an entry of a sound record, by its bytes

module _ (r : List ℕ) (j : ℕ) (x : Runs r j) where
  in_bytes : j < get_or r running_at 0
  in_bytes = let l = x.place in omega (arith, running_said r)

  has_entry : HasEntry r j
  has_entry = let k = clauses_to r x.sound in record { size = k.size; few = k.few_running; runs = in_bytes }

  pub entry_on : j < max_running
  entry_on = let k = has_entry in omega (arith, k.few, k.runs)

  few_here : block_count r j ≤ max_blocks
  few_here = (clauses_to r x.sound).few_blocks j in_bytes

  said_here : entry_of r j ≡ bytes_entry r j
  said_here = entry_by_bytes r j has_entry few_here

  pub task_here : blocks_of r j ≡ (entry_of r j).task
  task_here = sym (ap (λ (e : Running). e.task) said_here)

  pub has_task : HasTask r j
  has_task = record {
    few = few_here;
    sized = let (one, most) = count_sound r j has_entry x.sound in blocks_sized r j has_entry one most;
    well_formed = sound_formed r j has_entry x.sound;
  }

-- ---- as the code goes: r is the record at entry, and s the record with k of m blocks freed of entry j, which stands at p and y

pub record Freeing (r : List ℕ) (j p y m : ℕ) (s : List ℕ) (k : ℕ) : Type 0 where
  pub column : p ≡ (entry_of r j).column
  pub bottom : y ≡ (entry_of r j).bottom
  pub count : m ≡ blocks (entry_of r j).task
  pub freed_are : s ≡ freed (device_of r) (book_of r) (standing (entry_of r j)) k

-- none at first
pub freeing_first : (r : List ℕ) (j p y m : ℕ) (t : List ℕ) → Runs r j → Bytes r → p ≡ get_or r (entry_at j + 2) 0 → y ≡ word r (entry_at j + 4) → t ≡ blocks_of r j → m ≡ blocks t → Freeing r j p y m r 0
freeing_first r j p y m t x B pe ye te me = record {
  column = pe ∙ sym (ap (λ (e : Running). e.column) (said_here r j x));
  bottom = ye ∙ sym (ap (λ (e : Running). e.bottom) (said_here r j x));
  count = me ∙ ap blocks (te ∙ task_here r j x);
  freed_are = freed_none r (standing (entry_of r j)) B x.sound;
}

module _ (r : List ℕ) (j p y m : ℕ) (s : List ℕ) (k : ℕ) (x : Runs r j) (B : Bytes r) (f : Freeing r j p y m s k) where
  here : In (entry_of r j) (book_of r)
  here = get_d_in (book_of r) j no_entry x.place

  shown : Shows s (device_of r) (book_of r) (runs_of (device_of r) (free_join (device_of r) (book_of r) (standing (entry_of r j)) k))
  unfolding freed
  shown = rw f.freed_are (image_shows (device_of r) (book_of r) (runs_of (device_of r) (free_join (device_of r) (book_of r) (standing (entry_of r j)) k)))

  -- its entry's bytes stay
  same_entry : part s (entry_at j) entry_size ≡ part r (entry_at j) entry_size
  same_entry =
      shown.entry_is j (entry_on r j x)
      ∙ sym (ap (λ z. part z (entry_at j) entry_size) (sound_record r B x.sound) ∙ (record_shows (device_of r) (book_of r)).entry_is j (entry_on r j x))

  same_count : block_count s j ≡ block_count r j
  same_count =
      sym (get_d_part s (entry_at j) entry_size 3 0 (omega arith)) ∙ ap (λ (p : List ℕ). get_or p 3 0) same_entry ∙ get_d_part r (entry_at j) entry_size 3 0 (omega arith)

  same_blocks : blocks_of s j ≡ blocks_of r j
  same_blocks =
      let m = block_size * block_count r j in
      let few = few_here r j x in
      rw (blocks_part s j, blocks_part r j, same_count)
      (sym (part_part s (entry_at j) entry_size blocks_at m (omega arith)) ∙ ap (λ p. part p blocks_at m) same_entry ∙ part_part r (entry_at j) entry_size blocks_at m (omega arith))

  pub task_stays : HasTask s j
  task_stays = let h = has_task r j x in record { few = rw same_count h.few; sized = rw same_blocks h.sized; well_formed = rw same_blocks h.well_formed }

  pub task_same : blocks_of s j ≡ (entry_of r j).task
  task_same = same_blocks ∙ task_here r j x

  -- block k, n as it was read
  module _ (l : k < m) (t : List ℕ) (lent : t ≡ blocks_of s j) where
    within_task : k < blocks (entry_of r j).task
    within_task = omega (arith, f.count)

    pub on_task : k < blocks t
    on_task = let e = lent ∙ task_same in rw e within_task

    module _ (n : Read) (same : Same n (block t k)) where
      same_block : Same n (block (entry_of r j).task k)
      same_block = rw (lent, task_same) at same

      pub seated : Seated p y n
      seated = seat (rw (f.column, f.bottom) (stands_in (device_of r) (book_of r) (sound_within r x.sound) (entry_of r j) here k within_task)) same_block

      pub join_room : Joinable (y + n.extent.low - reach) (y + n.extent.high - reach) (part s (column_at (p + n.extent.column)) column_size) (count_of s (p + n.extent.column))
      unfolding placed
      join_room =
          rw (same_block.extent.column, same_block.extent.low, same_block.extent.high, f.column, f.bottom)
          (freed_room (device_of r) (book_of r) (sound_within r x.sound) (entry_of r j) here s k f.freed_are within_task)

      pub block_freed : (q : List ℕ) → q ≡ put_column s (p + n.extent.column) (unite (y + n.extent.low - reach) (y + n.extent.high - reach) (column_list s (p + n.extent.column)))
          → Freeing r j p y m q (k + 1)
      unfolding placed
      block_freed q h = record {
        column = f.column;
        bottom = f.bottom;
        count = f.count;
        freed_are =
            rw add-one
            ((rw (same_block.extent.column, same_block.extent.low, same_block.extent.high, f.column, f.bottom) at h)
            ∙ freed_more (device_of r) (book_of r) (sound_within r x.sound) (entry_of r j) here s k f.freed_are within_task);
      }

-- when all are freed
pub all_freed : (r : List ℕ) (j p y m : ℕ) (s : List ℕ) (k : ℕ) → Freeing r j p y m s k → m ≤ k → k ≤ m → s ≡ freed_entry r j
unfolding freed_entry
all_freed r j p y m s k f l h = let e : k ≡ blocks (entry_of r j).task = omega (arith, f.count) in rw e at f.freed_are

-- ---- the entry, once all blocks are freed

module _ (r : List ℕ) (j : ℕ) (x : Runs r j) (s : List ℕ) (e : s ≡ freed_entry r j) where
  cleared : Shows s (device_of r) (book_of r) (runs_of (device_of r) (free_join (device_of r) (book_of r) (standing (entry_of r j)) (blocks (entry_of r j).task)))
  unfolding freed_entry freed
  cleared = rw e (image_shows (device_of r) (book_of r) (runs_of (device_of r) (free_join (device_of r) (book_of r) (standing (entry_of r j)) (blocks (entry_of r j).task))))

  pub entry_there : (j < get_or s running_at 0) × (get_or s running_at 0 ≤ max_running)
  entry_there =
      let n = running_read (device_of r) (book_of r) cleared in
      let few = (limits_to (device_of r) (book_of r) (sound_within r x.sound)).few in
      let l = x.place in
      (omega arith, omega arith)

  left_by : (q : List ℕ) → Removed s q j → q ≡ record_of (device_of r) (without (entry_of r j).number (book_of r))
  unfolding record_of
  left_by q h =
      let d = device_of r in
      let b = book_of r in
      let w = sound_within r x.sound in
      let n = (entry_of r j).number in
      let is = runs_of d (free_join d b (standing (entry_of r j)) (blocks (entry_of r j).task)) in
      let rest : without n b ≡ take j b ++ drop (suc j) b = without_place 0 b j (limits_to d b w).rising x.place in
      shows_image q d (without n b) is (rw rest (h.removed d b cleared))
      ∙ image_cong d (without n b) is (intervals d (without n b)) (λ c m. freed_all d b w (entry_of r j) (get_d_in b j no_entry x.place) c)

  -- THEOREM: it is the record of the book without the task of number n
  pub left_record : (n : ℕ) → (entry_of r j).number ≡ n → (q : List ℕ) → Removed s q j → q ≡ record_of (device_of r) (without n (book_of r))
  left_record n u q h = left_by q h ∙ ap (λ n. record_of (device_of r) (without n (book_of r))) u

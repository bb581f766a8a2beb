-- MODEL 9.3 to 9.6: in a sound record every running task passes each test, so where one fails the record is not sound. Assumes nothing.
use Rattle.std.specs.Prelude.{ℕ, suc, ◌+◌, ◌-◌, ◌≤◌, ◌<◌, ◌≡◌, Bool, true, false, List, get_or, take, ltb}
use Rattle.std.proofs.Common.{sym, ap, ◌∙◌, arith}
use Rattle.runs.specs.Laws.Tests.{tests}
use Rattle.model.specs.Limits.{max_blocks}
use Rattle.model.specs.Tasks.{word}
use Rattle.model.specs.Book.{fits}
use Rattle.model.specs.Record.{entry_at, device_of, book_of}
use Rattle.model.specs.Sound.{block_count, sound}
use Rattle.model.proofs.Laws.Bounded.{is_false}
use Rattle.model.proofs.Laws.Limits.{limits_to}
use Rattle.model.proofs.Laws.Tasks.{sized_to}
use Rattle.model.proofs.Laws.Sound.{sound_within}
use Rattle.record.specs.Entries.{entry_of, blocks_of, HasEntry, HasTask}
use Rattle.record.specs.Laws.Said.{number_said, in_book, entry_by_bytes, blocks_length, blocks_sized, count_sound, sound_formed}
use Rattle.soundness.specs.Soundness.{prior}
use Rattle.soundness.specs.Laws.Before.{prior_below, fits_among}

-- MODEL 9.3 and 9.4: entry j of r has a number that rises, and 1 to `max_blocks` blocks
pub record Passes (r : List ℕ) (j : ℕ) : Type 0 where
  pub rises : prior 0 (book_of r) j < (entry_of r j).number
  pub some_blocks : 1 ≤ block_count r j
  pub few_blocks : block_count r j ≤ max_blocks

-- whether its number n rises, from its bytes and those of the entry before it
module _ (r : List ℕ) (j n : ℕ) (x : HasEntry r j) (e : n ≡ word r (entry_at j)) where
  pub rises_first : j ≡ 0 → ltb 0 n ≡ ltb (prior 0 (book_of r) j) (entry_of r j).number
  unfolding prior
  rises_first z = rw (e, ← number_said r j x.runs) (ap (λ (i : ℕ). ltb (prior 0 (book_of r) i) (entry_of r j).number) (sym z))

  pub rises_next : (m : ℕ) → (j ≡ 0 → ⊥) → m ≡ word r (entry_at (j - 1)) → ltb m n ≡ ltb (prior 0 (book_of r) j) (entry_of r j).number
  unfolding prior
  rises_next m z q =
      let k : suc (j - 1) ≡ j = omega arith in
      rw (e, q, ← number_said r j x.runs, ← number_said r (j - 1) (omega (arith, x.runs)))
      (ap (λ (i : ℕ). ltb (prior 0 (book_of r) i) (entry_of r j).number) k)

-- in a sound record entry j passes the tests
module _ (r : List ℕ) (j : ℕ) (x : HasEntry r j) (s : sound r ≡ true) where
  sound_passes : Passes r j
  sound_passes = record {
    rises = prior_below 0 (book_of r) (limits_to (device_of r) (book_of r) (sound_within r s)).rising j (in_book r j x);
    some_blocks = (count_sound r j x s).0;
    few_blocks = (count_sound r j x s).1;
  }

  pub sound_fits : fits (device_of r) (take j (book_of r)) (blocks_of r j) (get_or r (entry_at j + 2) 0) (word r (entry_at j + 4)) ≡ true
  sound_fits = rw (entry_by_bytes r j x (count_sound r j x s).1) at (fits_among (device_of r) (book_of r) j (in_book r j x) (sound_within r s))

-- so where a test fails, the record is not sound
module _ (r : List ℕ) (j : ℕ) (x : HasEntry r j) where
  pub refused_number : (ok : Bool) → ok ≡ ltb (prior 0 (book_of r) j) (entry_of r j).number → ok ≡ false → sound r ≡ false
  refused_number ok e f = is_false (sound r) (λ s. let h = sym e ∙ f in let q = (sound_passes r j x s).rises in omega tests)

  -- an entry without a task
  pub refused_entry : (HasTask r j → ⊥) → sound r ≡ false
  refused_entry h = is_false (sound r) (λ s.
      let (one, most) = count_sound r j x s in
      h (record { few = most; sized = blocks_sized r j x one most; well_formed = sound_formed r j x s }))

  -- and one that has a task, and whose number rises
  pub passed : (ok : Bool) → ok ≡ ltb (prior 0 (book_of r) j) (entry_of r j).number → ok ≡ true → HasTask r j → Passes r j
  passed ok e t h =
      let q = sym e ∙ t in
      let n = sized_to (blocks_of r j) h.sized in
      record { rises = omega tests; some_blocks = omega (arith, n.some_blocks, n.whole, blocks_length r j x h.few); few_blocks = h.few }

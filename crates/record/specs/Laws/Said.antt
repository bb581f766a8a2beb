-- MODEL 8.4, 8.7 and 9.5: what the bytes of a running entry say, and what they say in a sound record. Assumes nothing.
use Rattle.std.specs.Prelude.{ℕ, ◌+◌, ◌*◌, ◌%◌, ◌≤◌, ◌<◌, ◌≡◌, true, List, length, get_or}
use Rattle.std.proofs.Common.{ap, ◌∙◌, arith, le-leb, eq-eqb, ne_eqb}
use Rattle.std.proofs.Math.Nat.{add-zero, add-sub_cancel_left}
use Rattle.model.specs.Limits.{max_blocks, block_size, running_at, entry_size, blocks_at}
use Rattle.model.specs.Tasks.{word, sized, well_formed}
use Rattle.model.specs.Book.{Running}
use Rattle.model.specs.Record.{part, entry_at, running_of, device_of, book_of}
use Rattle.model.specs.Sound.{block_count, sound}
use Rattle.model.specs.InPlace.{no_entry}
use Rattle.model.proofs.Laws.Limits.{Entry, limits_to}
use Rattle.model.proofs.Laws.Parts.{get_d_part, part_part, get_d_list, length_part}
use Rattle.model.proofs.Laws.ColumnPart.{word_part}
use Rattle.model.proofs.Laws.Clauses.{clauses_to}
use Rattle.model.proofs.Laws.ReadBack.{get_d_in}
use Rattle.model.proofs.Laws.Sound.{running_said, sound_within}
use Rattle.record.specs.Entries.{entry_of, blocks_of, bytes_entry, HasEntry}

-- running task j is what its bytes say
entry_is : (r : List ℕ) (j : ℕ) → j < get_or r running_at 0 → entry_of r j ≡ running_of (part r (entry_at j) entry_size)
unfolding book_of
entry_is r j q = get_d_list (λ j. running_of (part r (entry_at j) entry_size)) (get_or r running_at 0) j no_entry q

-- its number
pub number_said : (r : List ℕ) (j : ℕ) → j < get_or r running_at 0 → (entry_of r j).number ≡ word r (entry_at j)
unfolding running_of
number_said r j q =
    ap (λ (e : Running). e.number) (entry_is r j q) ∙ word_part r (entry_at j) entry_size 0 (omega arith) ∙ ap (word r) (add-zero (entry_at j))

-- the bytes of its blocks are a part of r
pub blocks_part : (r : List ℕ) (j : ℕ) → blocks_of r j ≡ part r (entry_at j + blocks_at) (block_size * block_count r j)
unfolding part
blocks_part r j = rw add-sub_cancel_left

module _ (r : List ℕ) (j : ℕ) (x : HasEntry r j) where
  pub in_book : j < length (book_of r)
  in_book = omega (arith, running_said r, x.runs)

  module _ (few : block_count r j ≤ max_blocks) where
    -- THEOREM: the entry is what its bytes say
    pub entry_by_bytes : entry_of r j ≡ bytes_entry r j
    unfolding running_of
    entry_by_bytes =
        let a = entry_at j in
        let n = get_d_part r a entry_size 3 0 (omega arith) in
        entry_is r j x.runs
        ∙ (rw (blocks_part r j, rw add-zero at (word_part r a entry_size 0 (omega arith)), word_part r a entry_size 4 (omega arith), get_d_part r a entry_size 2 0 (omega arith), n, part_part r a entry_size blocks_at (block_size * block_count r j) (omega arith)))

    pub blocks_length : length (blocks_of r j) ≡ block_size * block_count r j
    blocks_length = rw (blocks_part r j) (length_part r (entry_at j + blocks_at) (block_size * block_count r j) (omega (arith, x.size, x.few, x.runs)))

-- whole blocks, 1 to 32 of them
sized_of : (t : List ℕ) (n : ℕ) → length t ≡ block_size * n → 1 ≤ n → n ≤ max_blocks → sized t ≡ true
unfolding sized
sized_of t n e one most =
    rw (ne_eqb (length t) 0 (λ z. omega arith), le-leb (length t) (block_size * max_blocks) (omega arith)) (eq-eqb (length t % block_size) 0 (omega arith))

pub blocks_sized : (r : List ℕ) (j : ℕ) → HasEntry r j → 1 ≤ block_count r j → block_count r j ≤ max_blocks → sized (blocks_of r j) ≡ true
blocks_sized r j x one most = sized_of (blocks_of r j) (block_count r j) (blocks_length r j x most) one most

-- ---- in a sound record

module _ (r : List ℕ) (j : ℕ) (x : HasEntry r j) (s : sound r ≡ true) where
  pub count_sound : (1 ≤ block_count r j) × (block_count r j ≤ max_blocks)
  count_sound = let y = clauses_to r s in (y.some_blocks j x.runs, y.few_blocks j x.runs)

  in_limits : Entry (device_of r) (entry_of r j)
  in_limits = (limits_to (device_of r) (book_of r) (sound_within r s)).entries (entry_of r j) (get_d_in (book_of r) j no_entry (in_book r j x))

  pub sound_formed : well_formed (blocks_of r j) ≡ true
  sound_formed = rw (entry_by_bytes r j x count_sound.1) at in_limits.well_formed

-- MODEL 8.4: what the contracts of `entries` say. An entry is read, found by number, moved, put in and taken out. Assumes nothing.
use Rattle.std.specs.Prelude.{ℕ, suc, ◌+◌, ◌-◌, ◌*◌, ◌≤◌, ◌<◌, ◌≡◌, true, eqb, Option, Some, None, List, ◌++◌, length, get_or, take, drop, position}
use Rattle.std.specs.List.{CopiedTo, SameBelow, SameFrom}
use Rattle.model.specs.Limits.{max_running, max_blocks, block_size, words, record_size, running_at, blocks_at}
use Rattle.model.specs.Columns.{Device}
use Rattle.model.specs.Tasks.{word, sized, well_formed}
use Rattle.model.specs.Book.{Running, Book}
use Rattle.model.specs.Calls.{insert}
use Rattle.model.specs.Record.{entry_at, entry_part, head_bytes, book_of}
use Rattle.model.specs.Sound.{block_count}
use Rattle.model.specs.InPlace.{Reads, no_entry, place}
use Rattle.record.specs.declared.bytes.Entry.{Entry as Read}

-- running task j of r
abbrev pub entry_of : List ℕ → ℕ → Running
entry_of r j = get_or (book_of r) j no_entry

-- MODEL 8.4: the bytes of entry j's blocks, as a part of r
abbrev pub blocks_of : List ℕ → ℕ → List ℕ
blocks_of r j = take (entry_at j + blocks_at + block_size * block_count r j - (entry_at j + blocks_at)) (drop (entry_at j + blocks_at) r)

-- running task j of r, as the bytes of its entry say it
abbrev pub bytes_entry : List ℕ → ℕ → Running
bytes_entry r j = record {
  number = word r (entry_at j);
  column = get_or r (entry_at j + 2) 0;
  bottom = word r (entry_at j + 4);
  task = blocks_of r j;
}

-- r has the length of a record, and entry j is one of its running tasks
pub record HasEntry (r : List ℕ) (j : ℕ) : Type 0 where
  pub size : length r ≡ record_size
  pub few : get_or r running_at 0 ≤ max_running
  pub runs : j < get_or r running_at 0

-- a running task as the code has it
abbrev pub seen : Read → Running
seen e = record { number = e.number; column = e.at.column; bottom = e.at.bottom; task = e.task.bytes.now }

-- MODEL 9.3 and 9.5: the blocks of entry j of r are those of a task
pub record HasTask (r : List ℕ) (j : ℕ) : Type 0 where
  pub few : block_count r j ≤ max_blocks
  pub sized : sized (blocks_of r j) ≡ true
  pub well_formed : well_formed (blocks_of r j) ≡ true

-- what reading entry j of r answers: what its bytes say, or none, where its blocks are not those of a task
abbrev pub ReadsEntry : List ℕ → ℕ → Option Read → Type 0
ReadsEntry r j (Some e) = HasTask r j × (seen e ≡ bytes_entry r j)
ReadsEntry r j None = HasTask r j → ⊥

-- which entry of the book b has number n, if one has
abbrev pub found : ℕ → Book → Option ℕ
found n b = position (λ (e : Running). eqb e.number n) b

-- however r is read, s is read so too, but that its entries are moved by g
pub record Moved (r s : List ℕ) (g : (ℕ → List ℕ) → ℕ → List ℕ) : Type 0 where
  pub moved : {h : List ℕ} {kinds counts : ℕ → ℕ} {columns entries : ℕ → List ℕ} → Reads r h kinds counts columns entries → Reads s h kinds counts columns (g entries)

-- s is r, but that the m bytes of r from `src` on stand from `dest` on
pub record Copied (r s : List ℕ) (src dest m : ℕ) : Type 0 where
  pub size : length s ≡ length r
  pub to : CopiedTo r s src dest m
  pub below : SameBelow r s dest
  pub above : SameFrom r s (dest + m)

-- an entry of number n, at column p and bottom y, can be put in at place k of r
pub record Enterable (r : List ℕ) (k n p y : ℕ) : Type 0 where
  pub place : k ≤ get_or r running_at 0
  pub room : get_or r running_at 0 < max_running
  pub number : n < words
  pub column : p < 256
  pub bottom : y < words

-- however r is read, s has the entry e too, at place k
pub record Entered (r s : List ℕ) (k : ℕ) (e : Running) : Type 0 where
  pub entered : (d : Device) (b : Book) {kinds counts : ℕ → ℕ} {columns : ℕ → List ℕ} → k ≡ place e.number b
      → Reads r (head_bytes d b) kinds counts columns (entry_part b) → Reads s (head_bytes d (insert e b)) kinds counts columns (entry_part (insert e b))

-- however r is read, s lacks entry k
pub record Removed (r s : List ℕ) (k : ℕ) : Type 0 where
  pub removed : (d : Device) (b : Book) {kinds counts : ℕ → ℕ} {columns : ℕ → List ℕ}
      → Reads r (head_bytes d b) kinds counts columns (entry_part b)
      → Reads s (head_bytes d (take k b ++ drop (suc k) b)) kinds counts columns (entry_part (take k b ++ drop (suc k) b))

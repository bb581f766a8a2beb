-- MODEL 10.4: a task in one column of a sound record, what the walks need of the record, and the model's ranges at the end. Assumes nothing.
use Rattle.std.specs.Prelude.{ℕ, ◌+◌, ◌*◌, ◌≤◌, ◌<◌, ◌≡◌, refl, true, List, [], map, length, All}
use Rattle.std.proofs.Common.{sym, subst, arith, add-one}
use Rattle.std.proofs.Math.ListN.{get_or}
use Rattle.runs.specs.Runs.{Run}
use Rattle.runs.specs.Intervals.{Interval}
use Rattle.runs.specs.Meet.{Step, Lcm}
use Rattle.model.specs.Limits.{block_size, max_blocks, max_kind, max_columns}
use Rattle.model.specs.Columns.{Device, columns, kind, height}
use Rattle.model.specs.Tasks.{blocks, block, sized, well_formed}
use Rattle.model.specs.Tasks as model
use Rattle.model.specs.Book.{Book, intervals}
use Rattle.model.specs.Record.{device_of, book_of}
use Rattle.model.specs.Sound.{sound, count_of}
use Rattle.model.proofs.Laws.Columns.{top_le}
use Rattle.model.proofs.Laws.Tasks.{sized_to, solid_block}
use Rattle.model.proofs.Laws.Limits.{limits_to}
use Rattle.model.proofs.Laws.Cells.{interval_ends}
use Rattle.model.proofs.Laws.ReadBack.{get_d_in}
use Rattle.model.proofs.Laws.Sound.{sound_within}
use Rattle.column.specs.Part.{listed_in}
use Rattle.column.specs.Laws.Lent.{lent}
use Rattle.task.specs.Blocks.{seen, Same}
use Rattle.task.specs.Laws.Blocks.{same_seen, block_ready as ready}
use Rattle.task.specs.declared.Block.{Block}
use Rattle.task.specs.declared.Task.{Task}
use Rattle.record.specs.Laws.Fits.{listed_sound}
use Rattle.record.specs.declared.checked.SoundRecord.{SoundRecord}
use Rattle.listing.specs.Bottoms.{lift, lowered, Standing}
use Rattle.listing.specs.Lists.{IsLifted, Meetable, Met}
use Rattle.listing.specs.Columns.{Given, On, OnEach, FirstStanding, AllStanding, ranges_in}
use Rattle.listing.specs.Laws.Bottoms.{whole_cells}
use Rattle.listing.specs.Laws.Blocks.{column_apart, column_grid, listed_spaced, listed_bound, listed_step, listed_next, listed_all, none_stand}
use Rattle.listing.specs.Laws.Lists.{ends_all}
use Rattle.listing.specs.Laws.Walk.{height_step}

-- ---- the device columns

module _ (r : List ℕ) (s : sound r ≡ true) where
  pub few_columns : columns (device_of r) ≤ max_columns
  few_columns = (limits_to (device_of r) (book_of r) (sound_within r s)).columns

  pub some_columns : 1 ≤ columns (device_of r)
  some_columns = (limits_to (device_of r) (book_of r) (sound_within r s)).columns_one

-- ---- the blocks of the task

-- a sound record and a task, as the code has them
pub given_of : (r : SoundRecord) (t : Task) → Given r.bytes.now t.bytes.now
given_of r t = record { sound = r.sound; sized = t.sized; formed = t.well_formed }

module _ (r t : List ℕ) (g : Given r t) where
  pub some_blocks : 1 ≤ blocks t
  some_blocks = (sized_to t g.sized).some_blocks

  pub few_blocks : blocks t ≤ max_blocks
  few_blocks = (sized_to t g.sized).few

  pub block_ready : (k : ℕ) → k < blocks t → (block_size * k + block_size ≤ length t) × ((block t k).kind ≤ max_kind)
  block_ready k l = ready t k g.formed l

-- ---- one block more

-- the heights of which the least common multiple is the next step
pub next_steps : {d : Device} {b : Book} {t : List ℕ} {p k s : ℕ} {L : List Run} → Standing d b t p k s L → (kind h : ℕ) → h ≡ height kind → Step s × Step h
next_steps {d} {b} {t} {p} {k} {s} {L} g kind h e = (omega (arith, listed_step d b t p k s L g), rw e (height_step kind))

module _ (r t : List ℕ) (p k s : ℕ) (L : List Run) (given : Given r t) (next : k < blocks t) (on : On r t p k) (g : FirstStanding r t p k s L)
    (b : Block) (same : Same b (block t k)) where
  abbrev c : ℕ
  c = p + (block t k).column

  abbrev I : List Interval
  I = intervals (device_of r) (book_of r) c

  meetable_block : Meetable I (block t k) L s
  meetable_block =
      let w = sound_within r given.sound in
      let z = solid_block t given.formed k next in
      record {
        apart = column_apart (device_of r) (book_of r) c;
        grid = rw on.1 at (column_grid (device_of r) (book_of r) c w);
        ends = λ j i l.
            let x = interval_ends (device_of r) (book_of r) c (get_or I j i) (get_d_in I j i l) in
            (x.0, omega (arith, x.1, top_le (device_of r) c, (limits_to (device_of r) (book_of r) w).rows));
        full = z.full;
        below = z.below;
        whole = whole_cells (block t k) z;
        step = omega (arith, listed_step (device_of r) (book_of r) t p k s L g);
        canon = g.canon;
        spaced = listed_spaced (device_of r) (book_of r) t p k s L g;
        bound = listed_bound (device_of r) (book_of r) t p k s L g;
      }

  -- the part q, in which n intervals are listed, is that of the block's column
  module _ (q : List ℕ) (n : ℕ) (part : q ≡ lent r (p + b.extent.column)) (count : n ≡ count_of r (p + b.extent.column)) where
    lists : listed_in q n ≡ I
    lists = rw (part, count, same.extent.column) (listed_sound r c given.sound (omega (arith, on.0, few_columns r given.sound)))

    pub meetable : Meetable (listed_in q n) (seen b) L s
    meetable = rw lists (subst (λ (a : model.Block). Meetable I a L s) (sym (same_seen b (block t k) same)) meetable_block)

    pub next_listed : (O : List Run) (h l : ℕ) → Met (listed_in q n) (seen b) s L O → h ≡ height (seen b).kind → Lcm s h l → FirstStanding r t p (k + 1) l O
    next_listed O h l m e c =
        let w = sound_within r given.sound in
        let lcm = rw (e, same.kind) at c in
        let met = subst (λ (a : model.Block). Met I a s L O) (same_seen b (block t k) same) (rw lists at m) in
        rw add-one (listed_next (device_of r) (book_of r) t p w given.formed k next on.0 on.1 s l L O g lcm (met l lcm))

-- ---- all blocks

module _ (r t : List ℕ) (p : ℕ) (L : List Run) (g : AllStanding r t p L) where
  pub all_lifted : All IsLifted L
  all_lifted =
      ends_all (λ y. lift ≤ y) g.step 0 L g.listed.canon (λ y m. (listed_bound (device_of r) (book_of r) t p (blocks t) g.step L g.listed y m).0)

  -- THEOREM: the lifted bottoms, lowered, are the task's ranges in the column
  pub ranged : Given r t → map lowered L ≡ ranges_in (device_of r) (book_of r) t p
  ranged x = listed_all (device_of r) (book_of r) t p (sound_within r x.sound) x.formed (some_blocks r t x) (blocks t) g.step L refl g.listed

-- where a block has no column of its kind, there is none
pub ranged_none : (r t : List ℕ) (p : ℕ) → Given r t → (OnEach r t p → ⊥) → [] ≡ ranges_in (device_of r) (book_of r) t p
ranged_none r t p x h =
    none_stand (device_of r) (book_of r) t p (sound_within r x.sound) x.formed (some_blocks r t x) h

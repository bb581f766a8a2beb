-- Why the entries' pass is right: a running task that passes each test is within the limits. Assumes nothing.
use Prim.Native.Nat.{ℕ, ◌+◌, ◌*◌, ◌<◌}
use Rattle.std.specs.Prelude.{◌≡◌, Bool, false, ◌||◌, List, length, take}
use Rattle.std.proofs.Math.Path.{refl, sym, ap}
use Rattle.std.proofs.Common.{◌∙◌, add-one, take-suc, length-take-le}
use Rattle.std.proofs.Math.Bool.{true, or_comm}
use native.Mathlib.Omega.{arith}
use borrow.Author.Count.{below_more}
use Rattle.model.specs.Limits.{block_size, words}
use Rattle.model.specs.Columns.{Device, kind, height}
use Rattle.model.specs.Tasks.{word}
use Rattle.model.specs.Book.{Running, Book, placed, standing, covered, held, fits}
use Rattle.model.specs.Record.{entry_at, device_of, book_of}
use Rattle.model.specs.Sound.{block_count, sound}
use Rattle.model.specs.Calls.{insert}
use Rattle.model.specs.Bounded.{In}
use Rattle.model.specs.InPlace.{no_entry}
use Rattle.model.proofs.Laws.Bounded.{clash, is_false}
use Rattle.model.proofs.Laws.Limits.{limits_to}
use Rattle.model.proofs.Laws.Split.{fits_split, held_insert}
use Rattle.model.proofs.Laws.Kept.{insert_within}
use Rattle.model.proofs.Laws.WriteBack.{Bytes}
use Rattle.marks.specs.Marks.{EntryPosition, TaskMarked}
use Rattle.record.specs.Entries.{entry_of, bytes_entry, HasEntry, HasTask}
use Rattle.record.specs.Laws.Said.{number_said, in_book, entry_by_bytes, blocks_length}
use Rattle.soundness.specs.Soundness.{RestZero, TasksHeld, Judged}
use Rattle.soundness.specs.Laws.Before.{prior_above, insert_last}
use Rattle.soundness.specs.Laws.Tested.{Passes, sound_fits}

pub small_word : (r : List ℕ) (i : ℕ) → Bytes r → word r i < words
unfolding word
small_word r i B = omega (arith, B i, B (i + 1))

-- where an entry's task stands can be read from its bytes
pub entry_position : (r : List ℕ) (j : ℕ) (e : Running) → Bytes r → e ≡ bytes_entry r j → EntryPosition e.column e.bottom
entry_position r j e B i = rw i (record { column = B (entry_at j + 2); bottom = small_word r (entry_at j + 4) B })

module _ (r : List ℕ) (j : ℕ) (x : HasEntry r j) (h : HasTask r j) where
  is : entry_of r j ≡ bytes_entry r j
  is = entry_by_bytes r j x h.few

  -- how long its task is
  pub task_length : (e : Running) → e ≡ bytes_entry r j → length e.task ≡ block_size * block_count r j
  task_length e i = rw i (blocks_length r j x h.few)

  pub refused_fit : (ok : Bool) → ok ≡ (let e = bytes_entry r j in fits (device_of r) (take j (book_of r)) e.task e.column e.bottom) → ok ≡ false → sound r ≡ false
  refused_fit ok e f = is_false (sound r) (λ s. clash (sound_fits r j x s) (sym e ∙ f))

  -- ---- one task more

  module _ (H : List ℕ) (m : TasksHeld r H j) (t : Passes r j) (B : Bytes r) where
    abbrev d : Device
    d = device_of r

    abbrev b : Book
    b = book_of r

    abbrev y : Running
    y = entry_of r j

    below_number : (f : Running) → In f (take j b) → f.number < y.number
    below_number f i =
        omega (arith, t.rises, prior_above 0 b j (limits_to d (take j b) m.limits).rising (omega (arith, in_book r j x)) f i)

    more : insert y (take j b) ≡ take (j + 1) b
    more = rw (add-one j) (insert_last y (take j b) below_number ∙ sym (take-suc b j no_entry (in_book r j x)))

    small : y.number < words
    small = omega (arith, number_said r j x.runs, small_word r (entry_at j) B)

    pub held_next : (U : List ℕ) → RestZero r j → (let e = bytes_entry r j in TaskMarked (device_of r) H e.task e.column e.bottom U true) → TasksHeld r U (j + 1)
    unfolding covered placed
    held_next U z k =
        let f : fits d (take j b) y.task y.column y.bottom ≡ true = rw is (sym (k.answers (take j b) m.shown)) in
        record {
          limits = rw more at (insert_within d (take j b) m.limits y (rw (length-take-le j b (omega (arith, in_book r j x))) (omega (arith, x.few, x.runs)))
              (record {
                number_one = omega (arith, t.rises);
                number = omega (arith, small);
                sized = rw is h.sized;
                well_formed = rw is h.well_formed;
                fits = ((fits_split d (take j b) y.task y.column y.bottom).0 f).0;
              })
              (λ g i q. omega (arith, below_number g i)) f);
          shown = λ c i n u v o.
              let a = k.marks (take j b) m.shown refl c i n u v o in
              let z = height (kind d c) * i + n in
              let e = ap (λ (e : Running). covered (standing e) c z) is in
              rw (← more) (a ∙ or_comm (held (take j b) c z) (covered (standing (bytes_entry r j)) c z) ∙ ap (λ (t : Bool). t || held (take j b) c z) (sym e) ∙ sym (held_insert c z y (take j b)));
          rests = below_more _ j m.rests z;
          some_blocks = below_more _ j m.some_blocks t.some_blocks;
          few_blocks = below_more _ j m.few_blocks h.few;
        }

    -- THEOREM: where entry j's task is marked it is held, and where it does not fit the record is not sound
    pub step_entry : (e : Running) → e ≡ bytes_entry r j → RestZero r j → (U : List ℕ) (ok : Bool)
        → TaskMarked (device_of r) H e.task e.column e.bottom U ok → Judged r (TasksHeld r U (j + 1)) ok
    step_entry e i z U ok w =
        let k : (let e = bytes_entry r j in TaskMarked (device_of r) H e.task e.column e.bottom U ok) = rw i at w in
        record {
          holds = λ e. held_next U z (rw e at k);
          refused = λ e. refused_fit ok (k.answers (take j b) m.shown) e;
        }

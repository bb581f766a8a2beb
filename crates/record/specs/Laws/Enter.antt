-- MODEL 12.4: a task entered, as the code goes. Its blocks are taken, and its entry is put in. Assumes nothing.
use Rattle.std.specs.Prelude.{ℕ, ◌+◌, ◌-◌, ◌≤◌, ◌<◌, ◌≡◌, true, List, leb}
use Rattle.std.proofs.Common.{◌∙◌, arith}
use Rattle.std.proofs.Math.Numerals.{add-one}
use Rattle.std.proofs.Math.ListN.{length}
use Rattle.runs.specs.Intervals.{subtract}
use Rattle.runs.specs.Laws.Tests.{tests}
use Rattle.model.specs.Limits.{max_running, max_number, reach, column_size}
use Rattle.model.specs.Tasks.{block, blocks}
use Rattle.model.specs.Book.{Running, placed, intervals}
use Rattle.model.specs.Record.{part, column_at, record_of, device_of, book_of}
use Rattle.model.specs.Calls.{insert}
use Rattle.model.specs.Sound.{count_of, number_ok}
use Rattle.model.specs.InPlace.{put_column, place}
use Rattle.model.proofs.Laws.Bounded.{and_to}
use Rattle.model.proofs.Laws.Tasks.{sized_to}
use Rattle.model.proofs.Laws.Fits.{fits_below}
use Rattle.model.proofs.Laws.Limits.{Limits, limits_to}
use Rattle.model.proofs.Laws.Record.{Shows, image_shows, image_cong, shows_image, running_read}
use Rattle.model.proofs.Laws.Entries.{place_le}
use Rattle.model.proofs.Laws.WriteBack.{Bytes}
use Rattle.model.proofs.Laws.Sound.{sound_within}
use Rattle.task.specs.declared.Block.{Block as Read}
use Rattle.task.specs.Blocks.{Same}
use Rattle.column.specs.Part.{Room}
use Rattle.record.specs.Edit.{Seated}
use Rattle.record.specs.Columns.{column_list, runs_of}
use Rattle.record.specs.Entries.{Enterable, Entered}
use Rattle.record.specs.Enter.{free_cut, taken, Placeable, Taken}
use Rattle.record.specs.Laws.Columns.{Stands, stands, seat}
use Rattle.record.specs.Laws.Cut.{taken_none, taken_room, taken_more, taken_all}

-- ---- as the code goes: r is the record at entry, s the record with k blocks taken, and n block k as it was read

module _ (r t : List ℕ) (p y : ℕ) (x : Placeable r t p y) where
  limits_of : Limits (device_of r) (book_of r)
  limits_of = limits_to (device_of r) (book_of r) (sound_within r x.sound)

  pub block_stands : (k : ℕ) → k < blocks t → Stands t p y k
  block_stands k l = stands (device_of r) (book_of r) t p y limits_of.rows limits_of.columns x.sized x.well_formed x.fits k l

  pub seated : (k : ℕ) → k < blocks t → (n : Read) → Same n (block t k) → Seated p y n
  seated k l n same = seat (block_stands k l) same

  -- none at first
  pub taken_first : Bytes r → Taken r t p y 0 r
  taken_first B = record { placeable = x; taken_are = taken_none r (placed t p y) B x.sound }

module _ (r t : List ℕ) (p y k : ℕ) (s : List ℕ) (x : Taken r t p y k s) where
  module _ (l : k < blocks t) (n : Read) (same : Same n (block t k)) where
    pub cut_room : Room (subtract (y + n.extent.low - reach) (y + n.extent.high - reach)) (part s (column_at (p + n.extent.column)) column_size) (count_of s (p + n.extent.column))
    unfolding placed
    cut_room =
        let g = x.placeable in
        rw (same.extent.column, same.extent.low, same.extent.high)
        (taken_room (device_of r) (book_of r) (sound_within r g.sound) t g.sized g.well_formed p y g.fits s k x.taken_are l)

    pub block_taken : (q : List ℕ) → q ≡ put_column s (p + n.extent.column) (subtract (y + n.extent.low - reach) (y + n.extent.high - reach) (column_list s (p + n.extent.column)))
        → Taken r t p y (k + 1) q
    unfolding placed
    block_taken q h = record {
      placeable = x.placeable;
      taken_are =
          let g = x.placeable in
          rw add-one
          ((rw (same.extent.column, same.extent.low, same.extent.high) at h)
          ∙ taken_more (device_of r) (book_of r) (sound_within r g.sound) t g.sized g.well_formed p y g.fits s k x.taken_are l);
    }

  -- all of them in the end
  pub taken_last : blocks t ≤ k → k ≤ blocks t → Taken r t p y (blocks t) s
  taken_last l h = let e : k ≡ blocks t = omega arith in record { placeable = x.placeable; taken_are = rw e at x.taken_are }

-- ---- the entry, once all blocks are taken

module _ (r t : List ℕ) (p y : ℕ) (s : List ℕ) (x : Taken r t p y (blocks t) s) (number : ℕ) (i : number_ok number ≡ true)
    (few : length (book_of r) < max_running) (k : ℕ) (at : k ≡ place number (book_of r)) where
  shown : Shows s (device_of r) (book_of r) (runs_of (device_of r) (free_cut (device_of r) (book_of r) (placed t p y) (blocks t)))
  unfolding taken
  shown = rw x.taken_are (image_shows (device_of r) (book_of r) (runs_of (device_of r) (free_cut (device_of r) (book_of r) (placed t p y) (blocks t))))

  -- it can be put in
  enterable : Enterable s k number p y
  unfolding number_ok
  enterable =
      let g = x.placeable in
      let lim = limits_of r t p y g in
      let n = running_read (device_of r) (book_of r) shown in
      let on = fits_below (device_of r) (book_of r) t p y g.well_formed (sized_to t g.sized).some_blocks g.fits in
      let (u, v) = and_to (leb 1 number) (leb number max_number) i in
      record { place = omega (arith, place_le number (book_of r)); room = omega arith; number = omega tests; column = omega (arith, lim.columns); bottom = omega (arith, lim.rows) }

  -- THEOREM: it is the record of the book with the task in it
  pub entered_record : (q : List ℕ) → Entered s q k (record { number = number; column = p; bottom = y; task = t })
      → q ≡ record_of (device_of r) (insert (record { number = number; column = p; bottom = y; task = t }) (book_of r))
  unfolding record_of
  entered_record q h =
      let g = x.placeable in
      let d = device_of r in
      let b = book_of r in
      let n : Running = record { number = number; column = p; bottom = y; task = t } in
      let is = runs_of d (free_cut d b (placed t p y) (blocks t)) in
      shows_image q d (insert n b) is (h.entered d b at shown)
      ∙ image_cong d (insert n b) is (intervals d (insert n b)) (λ c m. taken_all d b (sound_within r g.sound) t g.sized g.well_formed p y g.fits number c)

pub entry_ready : (q r t : List ℕ) (p y : ℕ) (s : List ℕ) (number k : ℕ) → Taken q t p y (blocks t) s → q ≡ r → number_ok number ≡ true → length (book_of r) < max_running
    → k ≡ place number (book_of r) → Enterable s k number p y
entry_ready q r t p y s number k x e i few at = enterable r t p y s (rw e at x) number i few k at

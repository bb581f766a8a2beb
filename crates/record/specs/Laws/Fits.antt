-- MODEL 6: why `fits` is right. Each test that refuses is one of the model's, and where all pass, a free interval holds the block just where it fits.
-- Assumes nothing.
use Rattle.std.specs.Prelude.{ℕ, ◌+◌, ◌-◌, ◌*◌, ◌%◌, ◌≤◌, ◌<◌, ◌≡◌, ◌↔◌, Bool, true, false, Option, Some, None, List, get_or}
use Rattle.std.specs.Option.{is_some}
use Rattle.std.proofs.Common.{sym, ◌∙◌, arith}
use Rattle.std.proofs.lemmas.Bool.{false≢true}
use Rattle.runs.specs.Intervals.{Interval, Holds}
use Rattle.model.specs.Limits.{max_rows, max_columns, reach, columns_at}
use Rattle.model.specs.Columns.{columns, kind, height}
use Rattle.model.specs.Kinds.{number_of}
use Rattle.model.specs.Tasks.{Block, blocks, block, sized, well_formed}
use Rattle.model.specs.Book.{intervals, block_fits, fits}
use Rattle.model.specs.Record.{device_of, book_of}
use Rattle.model.specs.Sound.{count_of, sound}
use Rattle.model.proofs.Laws.Bounded.{is_false, same_test}
use Rattle.model.proofs.Laws.Tasks.{sized_to, solid_block}
use Rattle.model.proofs.Laws.Fits.{Fitting, fitting_to, fitting_of, fits_below}
use Rattle.model.proofs.Laws.Limits.{limits_to}
use Rattle.model.proofs.Laws.Ends.{fits_held, held_fits}
use Rattle.model.proofs.Laws.Clauses.{clauses_to}
use Rattle.model.proofs.Laws.Sound.{columns_said, listed_said, sound_length, sound_within}
use Rattle.model.specs.Blocks.{Solid}
use Rattle.task.specs.declared.Block.{Block as Seen}
use Rattle.task.specs.Blocks.{seen, rows_of, Same}
use Rattle.task.specs.Laws.Blocks.{same_seen}
use Rattle.column.specs.Part.{listed_in, held_in}
use Rattle.column.specs.Laws.Lent.{lent, listed_lent}
use Rattle.column.specs.Laws.Held.{held_within, holder_holds, held_nowhere}
use Rattle.column.specs.declared.Interval.{Interval as Read}
use Rattle.record.specs.Fits.{Listed, SaysHeld}

-- ---- the search of a column's part

-- in a sound record it lists the free intervals
pub listed_sound : (r : List ℕ) (c : ℕ) → sound r ≡ true → c < max_columns → listed_in (lent r c) (count_of r c) ≡ intervals (device_of r) (book_of r) c
listed_sound r c s l = let x = clauses_to r s in listed_lent r c x.size l (x.few_intervals c l) ∙ listed_said r x c l

-- what it answers
pub held_test : (b t : ℕ) (L : List Interval) (h : Option Read) (ok : Bool) → h ≡ held_in b t L → ok ≡ is_some h → (ok ≡ true) ↔ Holds b t L
held_test b t L None ok e u = (λ k. absurd (false≢true (sym u ∙ k)), λ h. absurd (held_nowhere b t L (sym e) h))
held_test b t L (Some x) ok e u = (λ k. holder_holds b t L x (held_within b t L x (sym e)), λ h. u)

-- ---- a block

-- a sound record has at most 64 columns, each with at most 64 intervals
pub few_columns : (r : List ℕ) → sound r ≡ true → get_or r columns_at 0 ≤ max_columns
few_columns r s = omega (arith, columns_said r, (limits_to (device_of r) (book_of r) (sound_within r s)).columns)

pub sound_listed : (r : List ℕ) (c : ℕ) → sound r ≡ true → c < max_columns → Listed r c
sound_listed r c s q = record { size = sound_length r s; column = q; few = (clauses_to r s).few_intervals c q }

module _ (r : List ℕ) (k : Block) (p y : ℕ) (ok : Bool) where
  -- a block that fails a test does not fit
  pub no_fit : (Fitting (device_of r) (book_of r) k p y → ⊥) → ok ≡ false → ok ≡ block_fits (device_of r) (book_of r) k p y
  no_fit h f = f ∙ sym (is_false _ (λ e. h (fitting_to (device_of r) (book_of r) k p y e)))

  -- THEOREM: a block on the grid of a column of its kind fits just where one free interval holds it
  pub held_block : k.low < k.high → p + k.column < columns (device_of r) → kind (device_of r) (p + k.column) ≡ k.kind → reach ≤ y + k.low → (y + k.low - reach) % height k.kind ≡ 0
      → ((ok ≡ true) ↔ Holds (y + k.low - reach) (y + k.high - reach) (intervals (device_of r) (book_of r) (p + k.column))) → ok ≡ block_fits (device_of r) (book_of r) k p y
  held_block l q e a g (to, of) =
      let d = device_of r in
      let b = book_of r in
      same_test ok (block_fits d b k p y)
      (λ t. fitting_of d b k p y (held_fits d b k p y l q e a g (to t)))
      (λ t. of (fits_held d b k p y l (fitting_to d b k p y t)))

-- ---- a task

-- block i of a well-formed task, as it was read
pub solid_seen : (t : List ℕ) (i : ℕ) (n : Seen) → well_formed t ≡ true → i < blocks t → Same n (block t i) → Solid (seen n)
solid_seen t i n w l s = rw (same_seen n (block t i) s) (solid_block t w i l)

-- THEOREM: where it is on the grid of a column of its kind, it fits just where one free interval holds its rows
pub held_seen : (r t : List ℕ) (k p y : ℕ) (n : Seen) (i : Read) (ok : Bool) → well_formed t ≡ true → k < blocks t → Same n (block t k)
    → p + n.extent.column < columns (device_of r) → kind (device_of r) (p + n.extent.column) ≡ number_of n.kind
    → reach ≤ y + n.extent.low → (y + n.extent.low - reach) % height (number_of n.kind) ≡ 0 → i ≡ rows_of n.extent y
    → SaysHeld r (p + n.extent.column) i ok → ok ≡ block_fits (device_of r) (book_of r) (block t k) p y
held_seen r t k p y n i ok w l s q e a g is h =
    rw (← same_seen n (block t k) s) (held_block r (seen n) p y ok (solid_seen t k n w l s).full q e a g (rw is at h.held))

module _ (r t : List ℕ) (p y : ℕ) (s : sound r ≡ true) (z : sized t ≡ true) (w : well_formed t ≡ true) where
  pub off : ((p < columns (device_of r)) × (y < 2 * max_rows) → ⊥) → (ok : Bool) → ok ≡ false → ok ≡ fits (device_of r) (book_of r) t p y
  off h ok f =
      f ∙ sym (is_false _ (λ f.
      let (u, v) = fits_below (device_of r) (book_of r) t p y w (sized_to t z).some_blocks f in
      h (u, omega (arith, (limits_to (device_of r) (book_of r) (sound_within r s)).rows))))

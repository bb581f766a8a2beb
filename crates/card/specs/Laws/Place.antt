-- MODEL 12.4: place, its signed bottom, its refusals, and the entry of the task. Assumes nothing.
use Rattle.std.specs.Prelude.{ℕ, ◌^◌, ◌≤◌, ◌<◌, ◌≡◌, Bool, true, false, not, ◌||◌, None, Result, List, [], ℤ, pos, negsuc, unsigned_abs, length}
use Rattle.std.proofs.Math.Path.{refl, sym}
use Rattle.std.proofs.Common.{◌∙◌, arith, le-leb, SFits}
use Rattle.std.proofs.lemmas.Bool.{not-false, or_parts, lt-leb}
use Rattle.std.specs.Int.{w32, FitsUnsignedBits}
use Rattle.std.specs.Result.{OkIff, result_ok}
use Rattle.std.specs.Bool.{then_some}
use Rattle.std.proofs.lemmas.Result.{Ok-from_Ok_iff}
use Rattle.model.specs.Limits.{max_running}
use Rattle.model.specs.Columns.{Device}
use Rattle.model.specs.Book.{Book, fits, fits_at}
use Rattle.model.specs.Record.{record_of, device_of, book_of}
use Rattle.model.specs.Sound.{number_ok}
use Rattle.model.specs.Calls.{place, refused, refusals, insert, natural, runs_in, done}
use Rattle.model.specs.OnRecord.{written, on_record}
use Rattle.model.proofs.Laws.WriteBack.{Bytes}
use Rattle.model.proofs.Laws.OnRecord.{refused_call, done_call}
use Rattle.listing.specs.Columns.{Given}
use Rattle.task.specs.declared.Position.{Position}
use Rattle.record.specs.declared.bytes.Entry.{Entry}
use Rattle.record.specs.Entries.{seen}
use Rattle.card.specs.declared.refusal.Refusal.TheVariants.{BadNumber, Full, Misfit}
use Rattle.card.specs.Checks.{FindsFit, Refused, Placing}

-- ---- the bottom

-- one that is no natural number of 32 bits is negative, and nothing fits there
pub fits_nowhere : {E : Type 0} (d : Device) (b : Book) (t : List ℕ) (p : ℕ) (y : ℤ) (r : Result ℕ E) → SFits w32 y → OkIff r (FitsUnsignedBits 32 y) (unsigned_abs y) → result_ok r ≡ None → fits_at d b t p y ≡ false
unfolding fits_at
fits_nowhere d b t p (pos n) r f h e = let q = Ok-from_Ok_iff r (n < 2 ^ 32) n h (omega (arith, f.sfits)) in absurd (cc (rw q at e))
fits_nowhere d b t p (negsuc n) r f h e = refl

-- any other is the bottom of a position
fits_there : (d : Device) (b : Book) (t : List ℕ) (p : ℕ) {y : ℤ} (k : ℕ) → pos k ≡ y → fits_at d b t p y ≡ fits d b t p k
unfolding fits_at
fits_there d b t p k e = rw (← e)

pub fits_found : (d : Device) (b : Book) (t : List ℕ) (y : ℤ) (at : Position) (w : Bool) → pos at.bottom ≡ y → w ≡ fits d b t at.column at.bottom → FindsFit d b t at.column y (then_some w at)
fits_found d b t y at true e f = (refl, e, sym f)
fits_found d b t y at false e f = fits_there d b t at.column at.bottom e ∙ sym f

-- ---- the refusals

module _ (r t : List ℕ) (n p : ℕ) (y : ℤ) (B : Bytes r) (x : Given r t) where
  pub place_bad : (not (number_ok n) || runs_in (book_of r) n) ≡ true → Refused r (place t n p y) BadNumber
  unfolding refused refusals
  place_bad e = refused_call r (place t n p y) x.sound B 7 (rw (x.sized, x.formed, e))

  module _ (o : (not (number_ok n) || runs_in (book_of r) n) ≡ false) where
    pub place_full : max_running ≤ length (book_of r) → Refused r (place t n p y) Full
    unfolding refused refusals
    place_full l = let e = le-leb max_running (length (book_of r)) l in refused_call r (place t n p y) x.sound B 8 (rw (x.sized, x.formed, o, e))

    module _ (l : length (book_of r) < max_running) where
      pub place_misfit : fits_at (device_of r) (book_of r) t p y ≡ false → Refused r (place t n p y) Misfit
      unfolding refused refusals
      place_misfit f = let e = lt-leb max_running (length (book_of r)) l in refused_call r (place t n p y) x.sound B 10 (rw (x.sized, x.formed, o, e, f))

      pub placing : (e : Entry) → e.number ≡ n → e.task.bytes.now ≡ t → (e.at.column ≡ p) × (pos e.at.bottom ≡ y) × (fits (device_of r) (book_of r) t e.at.column e.at.bottom ≡ true)
          → Placing r t n p y e
      placing e i j (f, g, h) =
          let (k, u) = or_parts (not (number_ok n)) (runs_in (book_of r) n) o in
          record { given = x; number = not-false _ k; new = u; room = l; number_is = i; task_is = j; column_is = f; bottom_is = g; fits = h }

-- ---- where there is none

-- the task is entered
pub place_done : (r t : List ℕ) (n p : ℕ) (y : ℤ) (e : Entry) → Placing r t n p y e
    → on_record r (place t n p y) ≡ record { answer = pos 0; output = []; state = record_of (device_of r) (insert (seen e) (book_of r)) }
unfolding refused refusals written done natural
place_done r t n p y e x =
    let z = x.given in
    let l = lt-leb max_running (length (book_of r)) x.room in
    let f : fits_at (device_of r) (book_of r) t p y ≡ true = fits_there (device_of r) (book_of r) t p e.at.bottom x.bottom_is ∙ rw x.column_is at x.fits in
    done_call r (place t n p y) z.sound (rw (z.sized, z.formed, x.number, x.new, l, f)) ∙ rw (← x.bottom_is, x.column_is, x.number_is, x.task_is)

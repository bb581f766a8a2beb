-- MODEL 10, 11 and 12: list and choose, return by return. Assumes nothing.
use Rattle.std.specs.Prelude.{ℕ, ◌*◌, ◌<◌, ◌≡◌, refl, List, [], ℤ, pos, Option, Some, None, Result, length}
use Rattle.std.proofs.Math.Path.{sym}
use Rattle.std.proofs.Common.{◌∙◌}
use Rattle.std.specs.Option.{ok_or}
use Rattle.std.proofs.Math.Option.{Option as ModelOption, none, some}
use borrow.Author.Tests.{lt-ltb}
use Rattle.model.specs.Limits.{max_rows, max_columns, list_room}
use Rattle.model.specs.Columns.{Device}
use Rattle.model.specs.Book.{Book}
use Rattle.model.specs.Record.{device_of, book_of}
use Rattle.model.specs.Calls.{list, choose, lent, refused, refusals, unless, done, on_book}
use Rattle.model.specs.OnRecord.{written, on_record}
use Rattle.model.proofs.Laws.WriteBack.{Bytes}
use Rattle.model.proofs.Laws.OnRecord.{sound_call, refused_call, list_leaves, choose_leaves}
use Rattle.listing.specs.Columns.{Given}
use Rattle.listing.specs.Output.{answer_of, Answers}
use Rattle.choice.specs.Choosing.{answer_of as best_answer, Chooses}
use Rattle.choice.specs.declared.score.Choice.{Choice}
use Rattle.card.specs.declared.refusal.Refusal.{Refusal}
use Rattle.card.specs.declared.refusal.Refusal.TheVariants.{OutputShort, NoPosition}
use Rattle.card.specs.Refusals.{number_of}
use Rattle.card.specs.Answers.{answer_by}
use Rattle.card.specs.Leaves.{Leaves}
use Rattle.card.specs.Laws.Answers.{leaves}

-- ---- list

-- no range is −9
pub listed : (o : Option ℕ) (a : Result ℕ Refusal) → a ≡ ok_or o NoPosition → answer_of o ≡ answer_by pos a
listed (Some n) a e = rw e
listed None a e = rw e

module _ (r t o : List ℕ) (x : Given r t) where
  pub list_short : Bytes r → length o < list_room → Leaves (on_record r (list t o)) (number_of OutputShort) r o
  unfolding refused refusals lent
  list_short B h = leaves (refused_call r (list t o) x.sound B 6 (rw (x.sized, x.formed, lt-ltb (length o) list_room h)))

  module _ (a : Option ℕ) (p : List ℕ) (h : Answers a (device_of r) (book_of r) t o p) where
    -- the answer of each case
    pub list_answers : Bytes r → {z : ℤ} → answer_of a ≡ z → Leaves (on_record r (list t o)) z r p
    unfolding written
    list_answers B e =
        let q = sound_call r (list t o) x.sound in
        record { answer_is = rw q (sym e ∙ h.answer_is); record_is = sym (list_leaves r t o B); output_is = rw q h.output_is }

-- ---- choose

-- choose has no output
no_output : (d : Device) (b : Book) (t : List ℕ) → [] ≡ (on_book d b (choose t)).output
unfolding on_book unless lent done
no_output d b t = go (refused (refusals d b (choose t)))
  where
    go : (o : ModelOption ℕ) → [] ≡ (unless o [] b (done d b (choose t))).output
    go none = refl
    go (some n) = refl

module _ (r t : List ℕ) (x : Given r t) (a : Option Choice) (h : Chooses (device_of r) (book_of r) t a) where
  -- the answer of each case
  pub choose_answers : Bytes r → {z : ℤ} → best_answer a ≡ z → Leaves (on_record r (choose t)) z r []
  unfolding written
  choose_answers B e =
      let q = sound_call r (choose t) x.sound in
      record { answer_is = rw q (sym e ∙ h.answer_is); record_is = sym (choose_leaves r t B); output_is = rw q (no_output (device_of r) (book_of r) t) }

  -- the column and the bottom are small
  pub choose_few : (c : Choice) → a ≡ Some c → (c.position.column < max_columns) × (c.position.bottom < 2 * max_rows)
  choose_few c e = (rw e at h).near

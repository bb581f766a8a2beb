-- A card: the record of a device and a book within the limits, and a call on it. Assumes nothing.
use Rattle.std.specs.Prelude.{◌≡◌, true, List, [], ℕ, length}
use Rattle.std.proofs.Common.{ap, ◌∙◌}
use Rattle.model.specs.Limits.{record_size}
use Rattle.model.specs.Columns.{Device}
use Rattle.model.specs.Book.{Book}
use Rattle.model.specs.Record.{record_of, device_of, book_of}
use Rattle.model.specs.Sound.{within}
use Rattle.model.specs.Calls.{Call, Outcome, on_book}
use Rattle.model.specs.OnRecord.{written, on_record}
use Rattle.model.proofs.Laws.Kept.{within_new, kept}
use Rattle.model.proofs.Laws.Record.{record_length}
use Rattle.model.proofs.Laws.Step.{same_step}
use Rattle.model.proofs.Laws.ReadBack.{device_of_record, book_of_record}
use Rattle.desk.specs.Desk.{Card}
use Rattle.desk.specs.Input.{Begun}

-- the record of a device and a book within the limits is a card
card_of : (d : Device) (b : Book) → within d b ≡ true → Card (record_of d b)
card_of d b w = record { within = rw (device_of_record d b w, book_of_record d b w) w; is = rw (device_of_record d b w, book_of_record d b w) }

-- it is as long as a record
pub card_length : (r : List ℕ) → Card r → length r ≡ record_size
card_length r k = ap length k.is ∙ record_length (device_of r) (book_of r)

-- a call on a card is the call on its book
pub on_card : (r : List ℕ) → Card r → (c : Call) → on_record r c ≡ written (device_of r) (on_book (device_of r) (book_of r) c)
on_card r k c = ap (λ (x : List ℕ). on_record x c) k.is ∙ same_step (device_of r) (book_of r) c k.within

module _ (r : List ℕ) (k : Card r) (c : Call) {r' : List ℕ} (e : r' ≡ (on_record r c).state) where
  -- and leaves the record of the book after it
  pub card_is : r' ≡ record_of (device_of r) (on_book (device_of r) (book_of r) c).state
  unfolding written
  card_is = e ∙ ap (λ (x : Outcome (List ℕ)). x.state) (on_card r k c)

  -- which is a card
  pub card_after : Card r'
  card_after = rw card_is (card_of (device_of r) (on_book (device_of r) (book_of r) c).state (kept (device_of r) (book_of r) c k.within))

-- an empty card is one
pub card_begun : {r output rest : List ℕ} → Begun r output rest → Card r
card_begun b = rw b.card_is (card_of b.device [] (within_new b.device b.ok))

-- MODEL 18: what a line finds and what it leaves (a record, a draft's bytes and an output), by the model's line by the book. Assumes nothing.
use Rattle.std.specs.Prelude.{ℕ, ◌*◌, ◌/◌, ◌≡◌, true, List, ℤ, get_or}
use Rattle.model.specs.Limits.{block_size, max_blocks, range_size, list_room}
use Rattle.model.specs.Record.{record_of, device_of, book_of}
use Rattle.model.specs.Sound.{within}
use Rattle.model.specs.Tasks.{word}
use Rattle.model.specs.Listing.{Range}
use Rattle.model.specs.Sheet.{output_line}
use Rattle.model.specs.Program.{Desk, Left}
use Rattle.line.specs.Print.{line_room}

-- MODEL 4.1: the bytes of the greatest draft
abbrev pub draft_room : ℕ
draft_room = block_size * max_blocks

-- the bytes that the longest output of one line of input needs: a line for each range that a listing has room for
abbrev pub output_room : ℕ
output_room = line_room * (list_room / range_size)

-- the desk of a record and of a draft's bytes
abbrev pub desk_of : List ℕ → List ℕ → Desk
desk_of r t = record { device = device_of r; book = book_of r; draft = t }

-- a card: the record of a device and a book within the limits. That is to be sound (model/proofs/Laws/Sound.antt, `sound_exactly`)
pub record Card (r : List ℕ) : Type 0 where
  pub within : within (device_of r) (book_of r) ≡ true
  pub is : r ≡ record_of (device_of r) (book_of r)

-- what a line leaves: the record, the draft and the output that `left` says
pub record Leaves (left : Left) (card draft out : List ℕ) : Type 0 where
  pub card_is : card ≡ record_of left.desk.device left.desk.book
  pub draft_is : draft ≡ left.desk.draft
  pub printed_is : out ≡ left.printed

-- ---- ranges

-- a range by its bytes
abbrev pub range_of : List ℕ → Range
range_of b = record { column = get_or b 0 0; step = get_or b 1 0; first = word b 2; last = word b 4 }

-- a range's line of output
abbrev pub range_line : ℕ → ℤ → Range → List ℕ
range_line number a r = output_line number a r.column r.first r.step r.last

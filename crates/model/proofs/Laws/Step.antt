-- MODEL 15.2, 15.3 and 15.7 of one call: on the record of a book it does what it does on the book, it finds no bad record, and when list and choose
-- answer −9. Assumes nothing.
use Rattle.std.specs.Prelude.{ℕ, zero, suc, ◌+◌, ◌*◌, ◌≤◌, ◌≡◌, ◌↔◌, Bool, true, false, cond, List, [], ◌∷◌, ℤ, pos, neg_ℤ, length}
use Rattle.std.proofs.Math.Path.{refl}
use Rattle.std.proofs.Common.{◌∙◌, arith}
use Rattle.std.proofs.Math.Option.{Option, none, some}
use borrow.Author.Tests.{le-ltb}
use Rattle.runs.specs.Laws.Tests.{cond_ind}
use Rattle.model.specs.Limits.{list_room, column_weight}
use Rattle.model.specs.Columns.{Device, columns, half_rows}
use Rattle.model.specs.Tasks.{blocks, sized, well_formed}
use Rattle.model.specs.Book.{Book}
use Rattle.model.specs.Bounded.{join_in}
use Rattle.model.specs.Listing.{ranges}
use Rattle.model.specs.Choice.{Found, nothing, at, judge, chosen}
use Rattle.model.specs.Record.{record_of}
use Rattle.model.specs.Sound.{within}
use Rattle.model.specs.Calls.{Call, list, choose, place, release, Outcome, Refusal, lent, refused, no_position, refusals, range_bytes, over, position_number, done, unless, on_book}
use Rattle.model.specs.OnRecord.{written, on_record, measured, fragmentation}
use Rattle.model.proofs.Laws.Bounded.{clash}
use Rattle.model.proofs.Laws.Tasks.{sized_to}
use Rattle.model.proofs.Laws.Record.{record_length}
use Rattle.model.proofs.Laws.ReadBack.{device_of_record, book_of_record}
use Rattle.model.proofs.Laws.Sound.{record_sound}
use Rattle.model.proofs.Laws.OnRecord.{fragmentation_done}
use Rattle.model.proofs.Laws.Choice.{Chosen}
use Rattle.model.proofs.Laws.Ends.{chosen_at}
use Rattle.model.proofs.Laws.NoPosition.{chosen_nothing_iff}

-- THEOREM: a call on the record of a book within the limits answers and writes what the call on the book does, and leaves the record of the book after it
pub same_step : (d : Device) (b : Book) (c : Call) → within d b ≡ true → on_record (record_of d b) c ≡ written d (on_book d b c)
unfolding on_record refused unless
same_step d b c w = rw (record_length d b, record_sound d b w, device_of_record d b w, book_of_record d b w)

-- THEOREM (MODEL 15.9): the fragmentation of the record of a book within the limits is that of the book
pub same_fragmentation : (d : Device) (b : Book) → within d b ≡ true → fragmentation (record_of d b) ≡ measured d b (record_of d b)
same_fragmentation d b w = fragmentation_done (record_of d b) (record_sound d b w) ∙ rw (device_of_record d b w, book_of_record d b w)

-- ---- no call finds a bad record

-- all rows answer − m or less
abbrev From : ℕ → List Refusal → Type 0
From m [] = Unit {0}
From m (r ∷ rs) = (m ≤ r.number) × From m rs

from_four : (d : Device) (b : Book) (c : Call) → From 4 (refusals d b c)
unfolding refusals
from_four d b (list t o) = omega arith
from_four d b (choose t) = omega arith
from_four d b (place t n p y) = omega arith
from_four d b (release n) = omega arith

-- an answer that is neither −1 nor −2
abbrev pub Fine : ℤ → Type 0
Fine a = ¬ (a ≡ neg_ℤ (pos 1)) × ¬ (a ≡ neg_ℤ (pos 2))

fine_pos : (n : ℕ) → Fine (pos n)
fine_pos n = (λ e. let z : ◌≡◌ {A = ℕ} 0 1 = cc in omega arith, λ e. let z : ◌≡◌ {A = ℕ} 0 1 = cc in omega arith)

fine_neg : (n : ℕ) → 4 ≤ n → Fine (neg_ℤ (pos n))
fine_neg zero l = absurd (omega arith)
fine_neg (suc n) l = (λ e. let z : n ≡ 0 = cc in omega arith, λ e. let z : n ≡ 1 = cc in omega arith)

fine_done : (d : Device) (b : Book) (c : Call) → Fine (done d b c).answer
unfolding done
fine_done d b (list t o) = fine_pos _
fine_done d b (choose t) = fine_pos _
fine_done d b (place t n p y) = fine_pos _
fine_done d b (release n) = fine_pos _

unless_fine : {S : Type 0} (rs : List Refusal) (o : List ℕ) (s : S) (r : Outcome S) → From 4 rs → Fine r.answer → Fine (unless (refused rs) o s r).answer
unfolding refused unless
unless_fine [] o s r h f = f
unless_fine {S} (x ∷ rs) o s r h f =
    cond_ind (λ (n : Option ℕ). Fine (unless n o s r).answer) x.when (λ e. fine_neg x.number h.0) (λ e. unless_fine rs o s r h.1 f)

-- THEOREM: no call on the book answers −1 or −2
pub not_bad : (d : Device) (b : Book) (c : Call) → Fine (on_book d b c).answer
unfolding on_book
not_bad d b c = unless_fine (refusals d b c) (lent c) b (done d b c) (from_four d b c) (fine_done d b c)

-- ---- list and choose, once the task is well-formed and the output is long enough

-- what a call leaves that row 9 alone may refuse
abbrev Or_nine : Device → Book → Call → Bool → Outcome Book
Or_nine d b c none-fits = unless (cond none-fits (some 9) none) (lent c) b (done d b c)

-- −9 is answered just where no position fits
nine_iff : (d : Device) (b : Book) (c : Call) (n : Bool) → ((m : ℕ) × ((done d b c).answer ≡ pos m)) → ((Or_nine d b c n).answer ≡ neg_ℤ (pos 9)) ↔ (n ≡ true)
unfolding unless
nine_iff d b c true h = (λ e. refl, λ e. refl)
nine_iff d b c false (m, h) = (λ e. cc, λ e. cc)

module _ (d : Device) (b : Book) (t : List ℕ) (s : sized t ≡ true) (f : well_formed t ≡ true) where
  module _ (o : List ℕ) (l : list_room ≤ length o) where
    list_nine : on_book d b (list t o) ≡ Or_nine d b (list t o) (no_position d b t)
    unfolding on_book refusals refused
    list_nine = rw (s, f, le-ltb (length o) list_room l)

    -- THEOREM: where some position fits, list answers the number of ranges, writes them over the front of the output, and leaves the book
    pub list_done : no_position d b t ≡ false
        → on_book d b (list t o) ≡ record { answer = pos (length (ranges d b t)); output = over (join_in range_bytes (ranges d b t)) o; state = b }
    unfolding unless done
    list_done n = list_nine ∙ rw n

    -- THEOREM: list answers −9 just where none fits
    pub list_none : ((on_book d b (list t o)).answer ≡ neg_ℤ (pos 9)) ↔ (no_position d b t ≡ true)
    unfolding done
    list_none = rw list_nine (nine_iff d b (list t o) (no_position d b t) (length (ranges d b t), refl))

  choose_nine : on_book d b (choose t) ≡ Or_nine d b (choose t) (no_position d b t)
  unfolding on_book refusals refused
  choose_nine = rw (s, f)

  -- THEOREM: where some position fits, choose answers the choice (MODEL 11.5 and 11.6), and leaves the book
  pub choose_done : no_position d b t ≡ false
      → (p y : ℕ) × Chosen (judge d b t) (half_rows d) (columns d) p y × (on_book d b (choose t) ≡ record { answer = pos (p * column_weight + y); output = []; state = b })
  unfolding unless done position_number
  choose_done n = go (chosen d b t) refl
    where
      some_block : 1 ≤ blocks t
      some_block = (sized_to t s).some_blocks

      go : (r : Found) → chosen d b t ≡ r
          → (p y : ℕ) × Chosen (judge d b t) (half_rows d) (columns d) p y × (on_book d b (choose t) ≡ record { answer = pos (p * column_weight + y); output = []; state = b })
      go nothing e = clash ((chosen_nothing_iff d b t f some_block).0 e) n
      go (at p y) e = (p, y, chosen_at d b t f some_block p y e, choose_nine ∙ rw (n, e))

  -- THEOREM: choose answers −9 just where none fits
  pub choose_none : ((on_book d b (choose t)).answer ≡ neg_ℤ (pos 9)) ↔ (no_position d b t ≡ true)
  unfolding done
  choose_none = rw choose_nine (nine_iff d b (choose t) (no_position d b t) (position_number (chosen d b t), refl))

-- THEOREM `program_done`: a start and the turns after it up to the end, each on what the one before it left, print the model's program. That the turns
-- come to an end is in the proof of `sheet::run`: each leaves one line less. Assumes nothing.
use Rattle.std.specs.Prelude.{ℕ, suc, ◌+◌, ◌≤◌, ◌<◌, ◌≡◌, Bool, true, false, cond, ltb, Option, Some, None, MatchOption, List, [], ◌∷◌, ◌++◌, ℤ, pos, negsuc, neg_ℤ, length, replicate}
use Rattle.std.proofs.Math.Path.{refl}
use Rattle.std.proofs.Common.{sym, ap, ◌∙◌, add-one}
use Rattle.std.proofs.Math.Option.{none, some, Option as ModelOption}
use borrow.Author.Tests.{lt-ltb, le-ltb}
use Rattle.model.specs.Limits.{max_blocks, list_room, max_sheet}
use Rattle.model.specs.Tasks.{blocks}
use Rattle.model.specs.Sound.{within}
use Rattle.model.specs.Calls.{list, choose, place, release, on_book}
use Rattle.model.specs.Sheet.{SheetCall, add_block, empty_draft, list_draft, choose_draft, place_draft, release_task, sheet_line}
use Rattle.model.specs.Program.{Desk, Left, says, block_bytes, listed, redraft, on_call, on_read, on_line, on_lines, first, lines, program}
use Rattle.model.proofs.Laws.Kept.{within_new, kept}
use Rattle.model.proofs.Laws.ReadBack.{device_of_record, book_of_record}
use Rattle.line.specs.Print.{names_line}
use Rattle.desk.specs.declared.stand.Stand.{Stand}
use Rattle.desk.specs.Desk.{desk_of, Card, Leaves}
use Rattle.desk.specs.Input.{Parts, Begun}
use Rattle.desk.specs.Laws.Card.{card_begun}
use Rattle.desk.specs.Laws.Input.{no_lines}
use Rattle.desk.specs.Run.{State, state, left_in, yet_from, yet, Starts, Turned, Turns, printed_in}

-- ---- the desk stays within the limits

call_within : (number : ℕ) (k : Desk) (c : SheetCall) → within k.device k.book ≡ true → let l = (on_call number k c).desk in within l.device l.book ≡ true
unfolding on_call
call_within number k (add_block c kind y z) w = go (ltb (blocks k.draft) max_blocks)
  where
    more : Left
    more = record { printed = []; desk = redraft k (k.draft ++ block_bytes c kind y z) }

    same : Left
    same = record { printed = says number (neg_ℤ (pos 4)); desk = k }

    go : (t : Bool) → let l = (cond t more same).desk in within l.device l.book ≡ true
    go true = w
    go false = w
call_within number k empty_draft w = w
call_within number k list_draft w = go (on_book k.device k.book (list k.draft (replicate list_room 0))).answer
  where
    go : (z : ℤ) → let l = (listed number k z).desk in within l.device l.book ≡ true
    go (pos n) = w
    go (negsuc n) = w
call_within number k choose_draft w = kept k.device k.book (choose k.draft) w
call_within number k (place_draft n c y) w = kept k.device k.book (place k.draft n c y) w
call_within number k (release_task n) w = kept k.device k.book (release n) w

line_within : (number : ℕ) (k : Desk) (l : List ℕ) → within k.device k.book ≡ true → let d = (on_line number k l).desk in within d.device d.book ≡ true
unfolding on_line
line_within number k l w = go (sheet_line l)
  where
    go : (o : ModelOption SheetCall) → let d = (on_read number k o).desk in within d.device d.book ≡ true
    go none = w
    go (some c) = call_within number k c w

-- the desk of what a line leaves is the desk that the model has after it
pub next_desk : (number : ℕ) (k : Desk) (l : List ℕ) {card draft out : List ℕ} → within k.device k.book ≡ true → Leaves (on_line number k l) card draft out
    → desk_of card draft ≡ (on_line number k l).desk
next_desk number k l w x =
    let d = (on_line number k l).desk in
    let v = line_within number k l w in
    rw (x.card_is, x.draft_is, device_of_record d.device d.book v, book_of_record d.device d.book v)

-- ---- the start: an input that is too long, and any other

pub program_long : (s : List ℕ) → max_sheet < length s → program s ≡ names_line ++ says 0 (negsuc 11)
unfolding program
program_long s h = rw (lt-ltb _ _ h)

pub program_short : (s : List ℕ) → length s ≤ max_sheet → program s ≡ names_line ++ first (lines s)
unfolding program
program_short s h = rw (le-ltb _ _ h)

-- the first three lines are right: no line follows, or the fourth
module _ (input card rest out : List ℕ) (b : Begun card (first (lines input)) rest) (small : length input ≤ max_sheet) (named : out ≡ names_line) where
  pub starts_none : length rest ≡ 0 → (k : Desk) → Starts input (state k None out)
  unfolding on_lines
  starts_none h k = rw (named, program_short input small, b.output_is, no_lines rest h) refl

  pub starts_some : (p : Stand) → (p.number ≡ 4) × Parts rest p.line.now p.rest.now → Starts input (state (desk_of card []) (Some p) out)
  starts_some p (n, parts) =
      let w = within_new b.device b.ok in
      rw (named, program_short input small, b.output_is, parts.lines_are, n, b.card_is, device_of_record b.device [] w, book_of_record b.device [] w) refl

  -- which there is a card for
  pub started : (o : Option Stand) → MatchOption o (length rest ≡ 0) (λ s. (s.number ≡ 4) × Parts rest s.line.now s.rest.now)
      → MatchOption o ((k : Desk) → Starts input (state k None out)) (λ s. Card card × Starts input (state (desk_of card []) (Some s) out))
  started None h = starts_none h
  started (Some p) h = (card_begun b, starts_some p h)

-- ---- turn by turn

-- the stand at what is left
module _ (rest : List ℕ) (number : ℕ) where
  pub left_at : (o : Option Stand) → MatchOption o (length rest ≡ 0) (λ s. (s.number ≡ number) × Parts rest s.line.now s.rest.now) → lines rest ≡ left_in o
  left_at None h = no_lines rest h
  left_at (Some q) h = h.1.lines_are

  pub number_at : (o : Option Stand) → MatchOption o (length rest ≡ 0) (λ s. (s.number ≡ number) × Parts rest s.line.now s.rest.now) → (q : Stand) → o ≡ Some q → q.number ≡ number
  number_at o h q e = (rw e at h).0

-- what is yet to be printed: what the next turn prints, and what is yet to be printed then
yet_turned : (k : Desk) (p : Stand) (t : State) → Turned k p t → yet_from k (Some p) ≡ t.printed ++ yet t
unfolding on_lines
yet_turned k p t u = rw (u.left_is, u.printed_is, u.desk_is) (ap (λ (l : List ℕ). (on_line p.number k p.line.now).printed ++ l) (go t.stand u.number_is))
  where
    go : (o : Option Stand) → ((q : Stand) → o ≡ Some q → q.number ≡ p.number + 1)
        → on_lines (suc p.number) (on_line p.number k p.line.now).desk (left_in o) ≡ yet_from (on_line p.number k p.line.now).desk o
    go None h = refl
    go (Some q) h = rw (h q refl, add-one p.number)

turns_print : (s : State) (ts : List State) → Turns s ts → yet s ≡ printed_in ts
turns_print s [] h = rw h
turns_print s (t ∷ ts) (p, is, u, rest) = rw is (yet_turned s.desk p t u ∙ ap (λ (l : List ℕ). t.printed ++ l) (turns_print t ts rest))

-- THEOREM: a run of the program prints the model's program
pub program_done : (input : List ℕ) (s : State) (ts : List State) → Starts input s → Turns s ts → printed_in (s ∷ ts) ≡ program input
program_done input s ts p h = ap (λ (l : List ℕ). s.printed ++ l) (sym (turns_print s ts h)) ∙ p

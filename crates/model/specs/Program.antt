-- MODEL 18: the sheet program, from its input to its output, by the book. Assumes nothing.
use Rattle.std.specs.Prelude.{ℕ, suc, Bool, cond, true, false, ◌&&◌, List, [], ◌∷◌, ◌++◌, ltb, eqb, ℤ, pos, negsuc, neg_ℤ, length, replicate}
use Prim.Native.Char.{code}
use Rattle.std.proofs.Math.Option.{Option, none, some}
use Rattle.std.specs.Int.{w16}
use Rattle.std.proofs.Common.{of_z}
use Rattle.model.specs.Limits.{max_blocks, list_room, max_sheet}
use Rattle.model.specs.Bounded.{join_in}
use Rattle.model.specs.Columns.{Device, device_ok}
use Rattle.model.specs.Tasks.{blocks}
use Rattle.model.specs.Book.{Book}
use Rattle.model.specs.Listing.{Range, ranges}
use Rattle.model.specs.Record.{bytes16}
use Rattle.model.specs.Calls.{list, choose, place, release, Outcome, on_book}
use Rattle.model.specs.Sheet.{SheetCall, add_block, empty_draft, list_draft, choose_draft, place_draft, release_task, text, sheet_line, device_line, first_names, second_names, output_names, output_line}

-- what the program keeps between lines: the card's device and book, and the draft task's bytes
pub record Desk : Type 0 where
  pub device : Device
  pub book : Book
  pub draft : List ℕ

-- what a line leaves: what it prints, and the desk
pub record Left : Type 0 where
  pub printed : List ℕ
  pub desk : Desk

-- MODEL 18.3: an answer without ranges is one line, with zeros
abbrev pub says : ℕ → ℤ → List ℕ
says line a = output_line line a 0 0 0 0

-- MODEL 18.3: a line for each range
abbrev pub shows : ℕ → ℤ → List Range → List ℕ
shows line a rs = join_in (λ r. output_line line a r.column r.first r.step r.last) rs

-- MODEL 4.2: the bytes of a block
unfoldable pub block_bytes : ℕ → ℕ → ℤ → ℤ → List ℕ
block_bytes column kind bottom top = (column ∷ kind ∷ []) ++ bytes16 (of_z w16 bottom) ++ bytes16 (of_z w16 top)

-- the answer of a call that is no listing, and the book after it
abbrev pub answered : ℕ → Desk → Outcome Book → Left
answered line k o = record { printed = says line o.answer; desk = record { device = k.device; book = o.state; draft = k.draft } }

-- a listing's answer, with each range where there is one
abbrev pub listed : ℕ → Desk → ℤ → Left
listed line k (pos n) = record { printed = shows line (pos n) (ranges k.device k.book k.draft); desk = k }
listed line k (negsuc n) = record { printed = says line (negsuc n); desk = k }

abbrev pub redraft : Desk → List ℕ → Desk
redraft k t = record { device = k.device; book = k.book; draft = t }

-- MODEL 18.9 to 18.12: what each call does to the desk, and prints
unfoldable pub on_call : ℕ → Desk → SheetCall → Left
on_call line k (add_block c kind bottom top) =
    cond (ltb (blocks k.draft) max_blocks)
    (record { printed = []; desk = redraft k (k.draft ++ block_bytes c kind bottom top) })
    (record { printed = says line (neg_ℤ (pos 4)); desk = k })
on_call line k empty_draft = record { printed = []; desk = redraft k [] }
on_call line k list_draft = listed line k (on_book k.device k.book (list k.draft (replicate list_room 0))).answer
on_call line k choose_draft = answered line k (on_book k.device k.book (choose k.draft))
on_call line k (place_draft n c y) = answered line k (on_book k.device k.book (place k.draft n c y))
on_call line k (release_task n) = answered line k (on_book k.device k.book (release n))

-- MODEL 18.8: a malformed line changes nothing
abbrev pub on_read : ℕ → Desk → Option SheetCall → Left
on_read line k none = record { printed = says line (neg_ℤ (pos 12)); desk = k }
on_read line k (some c) = on_call line k c

unfoldable pub on_line : ℕ → Desk → List ℕ → Left
on_line line k l = on_read line k (sheet_line l)

-- MODEL 18.3, 18.8: the lines from the fourth on, each on the desk that the one before it left
unfoldable pub on_lines : ℕ → Desk → List (List ℕ) → List ℕ
on_lines line k [] = []
on_lines line k (l ∷ ls) = let left = on_line line k l in left.printed ++ on_lines (suc line) left.desk ls

-- ---- MODEL 18.5, 18.6: the first three lines

-- two lines are the same bytes
unfoldable pub same_line : List ℕ → List ℕ → Bool
same_line [] [] = true
same_line [] (y ∷ m) = false
same_line (x ∷ l) [] = false
same_line (x ∷ l) (y ∷ m) = eqb x y && same_line l m

-- a line that is missing or not of its form
abbrev pub malformed : ℕ → List ℕ
malformed line = says line (neg_ℤ (pos 12))

-- the third line, and on its card those after it
unfoldable pub third : Device → List (List ℕ) → List ℕ
third d [] = malformed 3
third d (l ∷ ls) = cond (same_line l second_names) (on_lines 4 (record { device = d; book = []; draft = [] }) ls) (malformed 3)

-- MODEL 18.6: new judges the device of the second line, before the third is looked at
abbrev pub with_device : Option Device → List (List ℕ) → List ℕ
with_device none ls = malformed 2
with_device (some d) ls = cond (device_ok d) (third d ls) (says 2 (neg_ℤ (pos 3)))

-- the second line, and those after it
unfoldable pub second : List (List ℕ) → List ℕ
second [] = malformed 2
second (l ∷ ls) = with_device (device_line l) ls

-- the first line, and those after it
unfoldable pub first : List (List ℕ) → List ℕ
first [] = malformed 1
first (l ∷ ls) = cond (same_line l first_names) (second ls) (malformed 1)

-- ---- the whole

-- the byte x in front of the first line
abbrev pub longer : ℕ → List (List ℕ) → List (List ℕ)
longer x [] = (x ∷ []) ∷ []
longer x (l ∷ ls) = (x ∷ l) ∷ ls

-- MODEL 17.1: where lines end
unfoldable pub lines : List ℕ → List (List ℕ)
lines [] = []
lines (x ∷ s) = let rest = lines s in cond (eqb x (code "\n")) ([] ∷ rest) (longer x rest)

-- MODEL 18.1, 18.2, 18.4: the names, and then the lines of an input that is not too long
unfoldable pub program : List ℕ → List ℕ
program input = (output_names ++ text "\n") ++ cond (ltb max_sheet (length input)) (malformed 0) (first (lines input))

-- MODEL 17 and 18: how some lines are read, and how one is printed; lines of the example (MODEL 18.14), and malformed ones. Computed.
-- Assumes nothing.
use Rattle.std.specs.Prelude.{ℕ, ◌≡◌, refl, List, [], ◌∷◌, map, pos, negsuc}
use Rattle.std.proofs.Math.Option.{Option, none, some}
use Rattle.model.specs.Bounded.{all_in}
use Rattle.model.specs.Sheet.{SheetCall, add_block, empty_draft, list_draft, choose_draft, place_draft, release_task, text, fields, is, digit, decimal, natural, number, natural_field, height_field, kind_letter, kind_field, call_of, six, sheet_line, kind_letters, kinds_field, device_line, digits, shown, output_line}

-- a line, and what it says
pub record Said : Type 0 where
  pub line : List ℕ
  pub call : Option SheetCall

abbrev says : List ℕ → SheetCall → Said
says l c = record { line = l; call = some c }

abbrev malformed : List ℕ → Said
malformed l = record { line = l; call = none }

-- the lines: calls first, and then malformed lines
pub lines : List Said
lines =
    says (text "B 0 0 C 0 2") (add_block 0 0 (pos 0) (pos 2))
    ∷ says (text "B 0 1 C -2 2") (add_block 1 0 (negsuc 1) (pos 2))
    ∷ says (text "B 0 2 B 1 6") (add_block 2 1 (pos 1) (pos 6))
    ∷ says (text "B 0 255 D -32768 32767") (add_block 255 2 (negsuc 32767) (pos 32767))
    ∷ says (text "L 0 0 - 0 0") list_draft
    ∷ says (text "P 7 0 - 4 0") (place_draft 7 0 (pos 4))
    ∷ says (text "P 65535 255 - -1 0") (place_draft 65535 255 (negsuc 0))
    ∷ says (text "N 0 0 - 0 0") empty_draft
    ∷ says (text "C 0 0 - 0 0") choose_draft
    ∷ says (text "R 8 0 - 0 0") (release_task 8)
    ∷ malformed (text "")
    ∷ malformed (text "L 0 0 - 0")
    ∷ malformed (text "L 0 0 - 0 0 0")
    ∷ malformed (text "L 0 0 - 0 0 ")
    ∷ malformed (text " L 0 0 - 0 0")
    ∷ malformed (text "L 0  0 - 0 0")
    ∷ malformed (text "L 0 0 - 0 00")
    ∷ malformed (text "L 0 0 - 0 -0")
    ∷ malformed (text "L 0 0 - 0 +0")
    ∷ malformed (text "L 0 0 C 0 0")
    ∷ malformed (text "L 1 0 - 0 0")
    ∷ malformed (text "P 7 0 - 4 1")
    ∷ malformed (text "P 65536 0 - 4 0")
    ∷ malformed (text "P 7 256 - 4 0")
    ∷ malformed (text "P 7 0 - 32768 0")
    ∷ malformed (text "P 7 0 - -32769 0")
    ∷ malformed (text "R 8 1 - 0 0")
    ∷ malformed (text "B 1 0 C 0 2")
    ∷ malformed (text "B 0 0 - 0 2")
    ∷ malformed (text "B 0 0 X 0 2")
    ∷ malformed (text "BB 0 0 C 0 2")
    ∷ malformed (text "L 0 0 - 0 0\r")
    ∷ []

-- THEOREM: each is read as it says, or as malformed (MODEL 17.9)
pub lines_read : map (λ (s : Said). sheet_line s.line) lines ≡ map (λ (s : Said). s.call) lines
unfolding lines all_in fields is digit decimal natural number natural_field height_field kind_letter kind_field call_of six sheet_line
lines_read = refl

-- MODEL 18.14: line 2, and what line 14 prints
pub rows_read : device_line (text "5 CCB") ≡ some (record { rows = 5; kinds = 0 ∷ 0 ∷ 1 ∷ [] })
unfolding all_in fields is digit decimal natural natural_field kind_letter kind_letters kinds_field device_line
rows_read = refl

pub line_printed : output_line 14 (negsuc 10) 0 0 0 0 ≡ text "14 -11 0 0 0 0\n"
unfolding digits shown output_line
line_printed = refl

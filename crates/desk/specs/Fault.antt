-- MODEL 18.2, 18.3, 18.5, 18.6 and 18.8: what is printed of an input that is too long, or of a line that is at fault. Assumes nothing.
use Rattle.std.specs.Prelude.{ℕ, List, ℤ, pos, neg_ℤ}
use Rattle.model.specs.Program.{says}
use Rattle.card.specs.Refusals.{number_of as card_number}
use Rattle.desk.specs.declared.fault.Fault.{Fault}
use Rattle.desk.specs.declared.fault.Fault.TheVariants.{TooLong, Malformed, Device}

-- the line that is at fault: 0 where no line is looked at, and the second where it is its device
abbrev pub line_of : Fault → ℕ
line_of TooLong = 0
line_of (Malformed line) = line
line_of (Device e) = 2

-- MODEL 13.1 and 18.2: −12 for an input that is too long and for a malformed line, and the card's own numbers
abbrev pub number_of : Fault → ℤ
number_of TooLong = neg_ℤ (pos 12)
number_of (Malformed line) = neg_ℤ (pos 12)
number_of (Device e) = card_number e

-- MODEL 18.3: its line of output
abbrev pub shown_fault : Fault → List ℕ
shown_fault f = says (line_of f) (number_of f)

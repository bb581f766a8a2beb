-- MODEL 17.1, 18.5, 18.6: the input's lines, and what its first three lead to. Assumes nothing.
use Rattle.std.specs.Prelude.{ℕ, ◌≤◌, ◌<◌, ◌≡◌, ◌⊎◌, Bool, true, false, Result, MatchResult, List, [], ◌∷◌, length}
use Rattle.std.proofs.Common.{Bor}
use Rattle.std.proofs.Math.Option.{some, Option as ModelOption}
use Rattle.model.specs.Columns.{Device, device_ok}
use Rattle.model.specs.Record.{record_of}
use Rattle.model.specs.Program.{with_device, on_lines, lines}
use Rattle.desk.specs.declared.fault.Fault.{Fault}
use Rattle.desk.specs.declared.fault.Fault.TheVariants.{Malformed}
use Rattle.desk.specs.Fault.{shown_fault}

-- the first line of some bytes, and the bytes after it
pub record Parts (input line rest : List ℕ) : Type 0 where
  pub lines_are : lines input ≡ line ∷ lines rest
  pub shorter : length rest < length input

-- MODEL 18.6: the card is that of the device of a line, as new makes it
pub record Opened (o : ModelOption Device) (card : List ℕ) : Type 0 where
  pub device : Device
  pub device_is : o ≡ some device
  pub ok : device_ok device ≡ true
  pub card_is : card ≡ record_of device []

-- MODEL 18.5 and 18.6: the line says no device, or new refuses it: the program prints this and ends, whatever lines follow
abbrev pub Refuses : ModelOption Device → Fault → Type 0
Refuses o f = (ls : List (List ℕ)) → with_device o ls ≡ shown_fault f

-- a line of names by what a test says of it: it is there and is the names, and `rest` of the input stands behind it; or it is missing, or not the names
unfoldable pub Names : (List ℕ → Bool → Type 0) → ℕ → List ℕ → Result (Bor (List ℕ)) Fault → Type 0
Names says number input x = MatchResult x (λ r. (l : List ℕ) × Parts input l r.now × says l true)
    (λ f. (f ≡ Malformed number) × ((length input ≡ 0) ⊎ ((l : List ℕ) × (rest : List ℕ) × Parts input l rest × says l false)))

-- the output is what the lines of `rest` print, from the fourth on, on an empty card of device d
abbrev pub GoesOn : Device → List ℕ → List ℕ → Type 0
GoesOn d output rest = output ≡ on_lines 4 (record { device = d; book = []; draft = [] }) (lines rest)

-- the card is that of a device that new accepts, with no task, and so the output goes on
pub record Begun (card output rest : List ℕ) : Type 0 where
  pub device : Device
  pub ok : device_ok device ≡ true
  pub card_is : card ≡ record_of device []
  pub output_is : GoesOn device output rest

-- what the lines of `input` lead to: the output goes on behind some of them, or is that of a fault
abbrev pub Leads : List ℕ → List ℕ → List ℕ → Result (Bor (List ℕ)) Fault → Type 0
Leads input card output x = MatchResult x (λ r. Begun card output r.now × (length r.now ≤ length input)) (λ f. output ≡ shown_fault f)

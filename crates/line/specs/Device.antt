-- MODEL 17 and 21.6: what is read from line 2, in terms of the model's device. Assumes nothing.
use Rattle.std.specs.Prelude.{ℕ, ◌≡◌, List, ℤ, pos, neg_ℤ, Option, Some, None}
use Rattle.std.proofs.Math.Option.{Option as Read, none, some}
use Rattle.arrayvec.specs.ArrayVec.{ArrayVec}
use Rattle.model.specs.Columns.{Device}
use Rattle.model.specs.Sheet.{line_answer}
use Rattle.line.specs.declared.device.DeviceLine.{DeviceLine}

-- the kinds of some letters, if all are kinds
abbrev pub items_said : Option (ArrayVec ℕ) → Read (List ℕ)
items_said None = none
items_said (Some v) = some v.items

-- MODEL 17.9: the device that a line says; a malformed one says none
abbrev pub device_said : Option DeviceLine → Read Device
device_said None = none
device_said (Some d) = some (record { rows = d.rows; kinds = d.kinds.items })

-- MODEL 17.9 and 21.6: the number of each case
abbrev pub answer_of : Option DeviceLine → ℤ
answer_of (Some d) = pos 0
answer_of None = neg_ℤ (pos 12)

-- r is the answer for a line that the model reads as o: it says that device, and its number is the line reader's
pub record Reads (o : Read Device) (r : Option DeviceLine) : Type 0 where
  pub device_is : device_said r ≡ o
  pub answer_is : answer_of r ≡ line_answer o

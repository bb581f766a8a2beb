-- `line::device::kinds` meets its contract. The invariant: the kinds of the letters so far are pushed. Assumes nothing.
use Rattle.std.proofs.Common.{◌≡◌, take}
use Rattle.std.proofs.Math.Option.{some}
use Rattle.arrayvec.specs.ArrayVec.{array_vec_len}
use Rattle.model.specs.Sheet.{kind_letters}
use Rattle.line.proofs.device.kinds.Given as goal

abbrev pub invariant-loop-letter : goal.invariant-loop-letter
invariant-loop-letter l = record {
  pushed : array_vec_len l.kinds ≡ l.letter-index;
  said : kind_letters (take l.letter-index l.field) ≡ some l.kinds.items;
}

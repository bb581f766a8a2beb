-- `record::entries::copy`: the first i bytes are the other slice's. Assumes nothing.
use Rattle.std.proofs.Common.{◌≡◌, take}
use Rattle.record.proofs.entries.copy.Given as goal

abbrev pub invariant-loop-i : goal.invariant-loop-i
invariant-loop-i l = take l.i l.to ≡ take l.i l.from

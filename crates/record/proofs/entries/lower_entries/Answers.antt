-- `record::entries::lower_entries`: one entry more behind those that are moved (`copied_down`), and all in the end (`lowered_within`). Assumes nothing.
use Rattle.std.proofs.Common.{◌+◌, arith, refl}
use native.Mathlib.Nat.{add-sub_cancel_left}
use Rattle.model.specs.Limits.{entry_size}
use Rattle.model.specs.Record.{entry_at, part}
use Rattle.model.specs.Parts.{splice}
use Rattle.record.specs.Laws.Shifted.{lowered_within, upper_copied, copied_down}
use Rattle.record.proofs.entries.lower_entries.Goals as goal

pub loop-j-preserved : goal.loop-j-preserved
unfolding splice part
loop-j-preserved c =
    let a = entry_at c.loop-j.j in
    let e = c.entry_at-a.ensures in
    let x = c.loop-j.invariant in
    copied_down _ _ _ _ (a + entry_size) _ a _ _ entry_size (omega arith) (omega arith) (omega arith) (omega arith) x
    (upper_copied _ _ _ _ a _ entry_size (omega arith) (omega (arith, x.size, c.told-record)) refl (rw (e, add-sub_cancel_left) at c.lower_entry.ensures) (rw (e, add-sub_cancel_left)))

pub returns : goal.returns
returns c =
    let m = c.loop-j.invariant in
    lowered_within c.args.record.now c.loop-j.record c.args.k c.args.n _ _ _ c.told-record m.size (omega arith) (omega arith) (omega arith) (omega arith) (omega arith) m.to m.below m.above

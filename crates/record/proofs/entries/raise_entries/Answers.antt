-- `record::entries::raise_entries`: one entry more in front of those that are moved (`copied_up`), and all in the end (`raised_within`). Assumes nothing.
use Rattle.std.proofs.Common.{◌-◌, arith, refl}
use native.Mathlib.Nat.{add-sub_cancel_left}
use Rattle.model.specs.Limits.{entry_size}
use Rattle.model.specs.Record.{entry_at, part}
use Rattle.model.specs.Parts.{splice}
use Rattle.record.specs.Laws.Shifted.{raised_within, lower_copied, copied_up}
use Rattle.record.proofs.entries.raise_entries.Goals as goal

pub loop-j-preserved : goal.loop-j-preserved
unfolding splice part
loop-j-preserved c =
    let a = entry_at (c.loop-j.j - 1) in
    let e = c.entry_at-a.ensures in
    let x = c.loop-j.invariant.1 in (
      omega arith,
      copied_up _ _ _ _ _ _ _ _ _ entry_size (omega arith) (omega arith) (omega arith) (omega arith) x
          (lower_copied _ _ _ _ a _ entry_size (omega arith) (omega (arith, x.size, c.told-record)) refl (rw (e, add-sub_cancel_left) at c.raise_entry.ensures) (rw (e, add-sub_cancel_left))),
    )

pub returns : goal.returns
returns c =
    let m = c.loop-j.invariant.1 in
    raised_within c.args.record.now c.loop-j.record c.args.k c.args.n _ _ _ c.told-record m.size (omega arith) (omega arith) (omega arith) (omega arith) (omega arith) m.to m.below m.above

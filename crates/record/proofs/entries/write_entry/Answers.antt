-- `record::entries::write_entry`: the fields and the blocks, over zeros (`entry_written`). Assumes nothing.
use Rattle.std.proofs.Common.{ℕ, ◌≡◌, ◌+◌, ◌-◌, arith, length, length-set}
use Rattle.model.specs.Tasks.{blocks}
use Rattle.model.specs.Parts.{splice}
use Rattle.model.proofs.Laws.Tasks.{sized_to}
use Rattle.record.specs.Laws.Moved.{entry_written}
use Rattle.record.proofs.entries.write_entry.Goals as goal

pub slice_bounds-copy-end : goal.slice_bounds-copy-end
slice_bounds-copy-end c =
    let z = sized_to _ c.requires.sized in
    omega (arith, z.whole, z.few, length-set {A = ℕ})

pub returns : goal.returns
unfolding splice blocks
returns c =
    let n = c.args.task.now in
    let k : 6 + length n - 6 ≡ length n = omega arith in
    entry_written c.args.part.now c.fill.new.self c.put16.new.s c.put16-2.new.s _ _ c.requires.part c.requires.sized (c.fill.ensures.after (λ y e. e)) c.put16.ensures c.put16-2.ensures (rw (k, c.copy.ensures))

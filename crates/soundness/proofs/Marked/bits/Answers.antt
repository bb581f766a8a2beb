-- `soundness::Marked::bits` meets its contract. Assumes nothing.
use Rattle.std.proofs.Common.{sym, ◌∙◌}
use Rattle.marks.specs.Laws.Marks.{kind_low}
use Rattle.soundness.specs.Laws.Columns.{kind_read, listable, bits_are}
use Rattle.soundness.proofs.Marked.bits.Goals as goal

pub unwrap-kind-requires : goal.unwrap-kind-requires
unwrap-kind-requires c = kind_read _ c.try_from.ensures (kind_low _ c.args.self.now.legible.device.whole c.args.c c.requires)

pub invariant_of-result : goal.invariant_of-result
invariant_of-result c =
    let s = c.args.self.now in
    let l = s.legible in
    record { listable = listable _ _ s.tasks _ l.said c.requires _ (sym c.unwrap-kind.ensures ∙ c.try_from.ensures) c.cells.ensures c.height.ensures l.device.whole c.column.ensures.len }

pub returns : goal.returns
returns c =
    let s = c.args.self.now in
    rw c.column.ensures.words (bits_are _ _ s.tasks _ s.legible.said c.requires _ (sym c.unwrap-kind.ensures ∙ c.try_from.ensures) c.cells.ensures c.height.ensures)

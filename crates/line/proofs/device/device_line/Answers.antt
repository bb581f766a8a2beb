-- `line::device::device_line` meets its contract: two fields, the second all kinds. Assumes nothing.
use Rattle.std.proofs.Common.{rules, tests, refl, arith, None, sym, ap, ◌∙◌}
use Rattle.model.specs.Limits.{max_rows_field}
use Rattle.line.specs.Device.{items_said}
use Rattle.line.specs.Laws.Fields.{first, next}
use Rattle.line.specs.Laws.Numbers.{read}
use Rattle.line.specs.Laws.Calls.{natural_here}
use Rattle.line.specs.Laws.Device.{kinds_here, rows_lost, kinds_lost, two_done, with_number}
use Rattle.line.proofs.device.device_line.Goals as goal

pub returns-in_default : goal.returns-in_default
returns-in_default c =
    let l = c.args.line.now in
    let rows = first _ l c.split-fields.ensures.rest c.split-fields.ensures.done c.next.ensures.steps (λ x b q k. search (rules, tests)) in
    let lost = sym (natural_here rows.taken 16 max_rows_field refl (omega arith) _ _ c.and_then.ensures) ∙ ap read c.in_default.is in
    with_number None (sym (rows_lost l lost))

pub returns-in_default-and_then : goal.returns-in_default-and_then
returns-in_default-and_then c =
    let l = c.args.line.now in
    let rows = first _ l c.split-fields.ensures.rest c.split-fields.ensures.done c.next.ensures.steps (λ x b q k. search (rules, tests)) in
    let kinds = next rows.rest c.next-2.ensures.steps in
    let lost = sym (kinds_here kinds.taken c.and_then-2.result c.and_then-2.ensures) ∙ ap items_said c.in_default-and_then.is in
    with_number None (sym (kinds_lost l lost))

pub returns : goal.returns
returns c =
    let l = c.args.line.now in
    let rows = first _ l c.split-fields.ensures.rest c.split-fields.ensures.done c.next.ensures.steps (λ x b q k. search (rules, tests)) in
    let kinds = next rows.rest c.next-2.ensures.steps in
    let end = next kinds.rest c.next-3.ensures.steps in
    let n = sym (natural_here rows.taken 16 max_rows_field refl (omega arith) _ _ c.and_then.ensures) ∙ ap read c.in-Some.is in
    let ks = sym (kinds_here kinds.taken c.and_then-2.result c.and_then-2.ensures) ∙ ap items_said c.in-Some-and_then.is in
    rw (c.then_some.ensures, c.from.ensures) (with_number _ (two_done l c.in-Some.rows c.in-Some-and_then.kinds c.is_none.result end.taken c.is_none.ensures c.if-line-gt-MAX_LINE.false n ks))

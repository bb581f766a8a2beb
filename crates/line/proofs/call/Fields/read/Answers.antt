-- `line::call::Fields::read` meets its contract: each part that `split` gives is the next of the line's fields. Assumes nothing.
use Rattle.std.proofs.Common.{rules, tests, w16, refl, arith, sym, ◌∙◌, ap}
use Rattle.std.proofs.lemmas.Int.{to_z-of_z}
use Rattle.model.specs.Limits.{max_task_field, max_column_field}
use Rattle.model.specs.Sheet.{fields}
use Rattle.line.specs.Laws.Fields.{first, next}
use Rattle.line.specs.Laws.Numbers.{read}
use Rattle.line.specs.Laws.Calls.{byte_here, natural_here, height_here, lost, letter_lost, task_lost, column_lost, kind_lost, bottom_lost, top_lost, six_is, there, six_done}
use Rattle.line.proofs.call.Fields.read.Goals as goal

-- In each answer `letter` to `top` say that what `split` gave is field k of the line, and what it has left.

pub returns-in_default : goal.returns-in_default
returns-in_default c =
    let l = c.args.line.now in
    let letter = first _ l c.split-fields.ensures.rest c.split-fields.ensures.done c.next.ensures.steps (λ x b q k. search (rules, tests)) in
    sym (lost l (letter_lost (fields l) (sym (byte_here letter.taken c.and_then.ensures) ∙ c.in_default.is)))

pub returns-in_default-and_then : goal.returns-in_default-and_then
returns-in_default-and_then c =
    let l = c.args.line.now in
    let letter = first _ l c.split-fields.ensures.rest c.split-fields.ensures.done c.next.ensures.steps (λ x b q k. search (rules, tests)) in
    let task = next letter.rest c.next-2.ensures.steps in
    sym (lost l (task_lost (fields l) (sym (natural_here task.taken 16 max_task_field refl (omega arith) _ _ c.and_then-2.ensures) ∙ ap read c.in_default-and_then.is)))

pub returns-in_default-and_then-2 : goal.returns-in_default-and_then-2
returns-in_default-and_then-2 c =
    let l = c.args.line.now in
    let letter = first _ l c.split-fields.ensures.rest c.split-fields.ensures.done c.next.ensures.steps (λ x b q k. search (rules, tests)) in
    let task = next letter.rest c.next-2.ensures.steps in
    let column = next task.rest c.next-3.ensures.steps in
    sym (lost l (column_lost (fields l) (sym (natural_here column.taken 8 max_column_field refl (omega arith) _ _ c.and_then-3.ensures) ∙ ap read c.in_default-and_then-2.is)))

pub returns-in_default-and_then-3 : goal.returns-in_default-and_then-3
returns-in_default-and_then-3 c =
    let l = c.args.line.now in
    let letter = first _ l c.split-fields.ensures.rest c.split-fields.ensures.done c.next.ensures.steps (λ x b q k. search (rules, tests)) in
    let task = next letter.rest c.next-2.ensures.steps in
    let column = next task.rest c.next-3.ensures.steps in
    let kind = next column.rest c.next-4.ensures.steps in
    sym (lost l (kind_lost (fields l) (sym (byte_here kind.taken c.and_then-4.ensures) ∙ c.in_default-and_then-3.is)))

pub returns-in_default-and_then-4 : goal.returns-in_default-and_then-4
returns-in_default-and_then-4 c =
    let l = c.args.line.now in
    let letter = first _ l c.split-fields.ensures.rest c.split-fields.ensures.done c.next.ensures.steps (λ x b q k. search (rules, tests)) in
    let task = next letter.rest c.next-2.ensures.steps in
    let column = next task.rest c.next-3.ensures.steps in
    let kind = next column.rest c.next-4.ensures.steps in
    let bottom = next kind.rest c.next-5.ensures.steps in
    sym (lost l (bottom_lost (fields l) (sym (height_here bottom.taken _ _ c.and_then-5.ensures) ∙ ap read c.in_default-and_then-4.is)))

pub returns-in_default-and_then-5 : goal.returns-in_default-and_then-5
returns-in_default-and_then-5 c =
    let l = c.args.line.now in
    let letter = first _ l c.split-fields.ensures.rest c.split-fields.ensures.done c.next.ensures.steps (λ x b q k. search (rules, tests)) in
    let task = next letter.rest c.next-2.ensures.steps in
    let column = next task.rest c.next-3.ensures.steps in
    let kind = next column.rest c.next-4.ensures.steps in
    let bottom = next kind.rest c.next-5.ensures.steps in
    let top = next bottom.rest c.next-6.ensures.steps in
    sym (lost l (top_lost (fields l) (sym (height_here top.taken _ _ c.and_then-6.ensures) ∙ ap read c.in_default-and_then-5.is)))

pub returns : goal.returns
returns c =
    let l = c.args.line.now in
    let letter = first _ l c.split-fields.ensures.rest c.split-fields.ensures.done c.next.ensures.steps (λ x b q k. search (rules, tests)) in
    let task = next letter.rest c.next-2.ensures.steps in
    let column = next task.rest c.next-3.ensures.steps in
    let kind = next column.rest c.next-4.ensures.steps in
    let bottom = next kind.rest c.next-5.ensures.steps in
    let top = next bottom.rest c.next-6.ensures.steps in
    let end = next top.rest c.next-7.ensures.steps in
    let low = sym (height_here bottom.taken _ _ c.and_then-5.ensures) ∙ ap read c.in-Some-and_then-4.is in
    let high = sym (height_here top.taken _ _ c.and_then-6.ensures) ∙ ap read c.in-Some-and_then-5.is in
    let six = six_is (fields l) (sym (byte_here letter.taken c.and_then.ensures) ∙ c.in-Some.is) (sym (natural_here task.taken 16 max_task_field refl (omega arith) _ _ c.and_then-2.ensures) ∙ ap read c.in-Some-and_then.is)
    (sym (natural_here column.taken 8 max_column_field refl (omega arith) _ _ c.and_then-3.ensures) ∙ ap read c.in-Some-and_then-2.is) (sym (byte_here kind.taken c.and_then-4.ensures) ∙ c.in-Some-and_then-3.is) low high in
    rw (c.then_some.ensures, to_z-of_z w16 c.in-Some-and_then-4.bottom (search rules), to_z-of_z w16 c.in-Some-and_then-5.top (search rules))
    (six_done l _ c.is_none.result end.taken c.is_none.ensures (there (fields l) 5 high) six)

-- `soundness::Legible::mark_entry` meets its contract: an entry of a sound record passes each test. Assumes nothing.
use Rattle.std.proofs.Common.{ℕ, ◌<◌, get_or}
use Rattle.std.proofs.lemmas.Bool.Decides.{not_from_Decides}
use Rattle.model.specs.Limits.{running_at}
use Rattle.model.specs.Sound.{sound}
use Rattle.model.proofs.Laws.Bounded.{is_false}
use Rattle.record.specs.Entries.{HasEntry}
use Rattle.soundness.specs.declared.Legible.{Legible}
use Rattle.soundness.specs.Laws.Judged.{judged_no}
use Rattle.soundness.specs.Laws.Tested.{refused_number, refused_entry, passed}
use Rattle.soundness.specs.Laws.Unused.{rest_unused}
use Rattle.soundness.specs.Laws.Entries.{entry_position, task_length, step_entry}
use Rattle.soundness.proofs.Legible.mark_entry.Goals as goal

has : (l : Legible) {j : ℕ} → j < get_or l.bytes.now running_at 0 → HasEntry l.bytes.now j
has l q = record { size = l.size; few = l.few; runs = q }

pub returns-then-not-rises : goal.returns-then-not-rises
returns-then-not-rises c = judged_no (refused_number _ _ (has c.args.self.now c.requires.runs) _ c.rises.ensures c.if-not-rises.true)

pub returns-in_default : goal.returns-in_default
returns-in_default c = judged_no (refused_entry _ _ (has c.args.self.now c.requires.runs) c.in_default.ensures)

pub returns-then-not-zeros : goal.returns-then-not-zeros
returns-then-not-zeros c =
    let x = has c.args.self.now c.requires.runs in
    let (h, i) = c.in-Some.ensures in
    let rest = rw (c.entry_at-at.ensures, task_length _ _ x h _ i) at c.zeros.ensures in
    judged_no (is_false (sound _) (λ s. not_from_Decides _ rest c.if-not-zeros.true (rest_unused _ s _ x)))

pub mark_task-requires : goal.mark_task-requires
mark_task-requires c = entry_position _ _ _ c.args.self.now.octets c.in-Some.ensures.1

pub returns : goal.returns
returns c =
    let s = c.args.self.now in
    let x = has s c.requires.runs in
    let (h, i) = c.in-Some.ensures in
    let rest = rw (c.entry_at-at.ensures, task_length _ _ x h _ i) at c.zeros.ensures in
    step_entry _ _ x h _ c.requires.tasks (passed _ _ x _ c.rises.ensures c.if-not-rises.false h) s.octets _ i (rest.0 c.if-not-zeros.false) _ _ (rw s.said at c.mark_task.ensures)

-- MODEL 13.1: the refusals of the calls, and their numbers. Assumes nothing.
use Rattle.std.specs.Prelude.{ℕ, ℤ, pos, neg_ℤ}
use Rattle.soundness.specs.declared.RecordFault.{RecordFault}
use Rattle.soundness.specs.declared.RecordFault.TheVariants as record_fault
use Rattle.task.specs.declared.TaskFault.{TaskFault}
use Rattle.task.specs.declared.TaskFault.TheVariants as task_fault
use Rattle.card.specs.declared.refusal.Refusal.{Refusal}
use Rattle.card.specs.declared.refusal.Refusal.TheVariants.{RecordLength, RecordNotSound, DeviceOrColumn, TaskLength, TaskNotWellFormed, OutputShort, BadNumber, Full, NoPosition, Misfit, NotRunning}

-- MODEL 13.1: the row of a refusal
abbrev pub row_of : Refusal → ℕ
row_of RecordLength = 1
row_of RecordNotSound = 2
row_of DeviceOrColumn = 3
row_of TaskLength = 4
row_of TaskNotWellFormed = 5
row_of OutputShort = 6
row_of BadNumber = 7
row_of Full = 8
row_of NoPosition = 9
row_of Misfit = 10
row_of NotRunning = 11

-- MODEL 13.1: what a refused call answers
abbrev pub number_of : Refusal → ℤ
number_of e = neg_ℤ (pos (row_of e))

-- MODEL 13.1: the refusals of bytes that are no sound record, and of bytes that are no task
abbrev pub of_record : RecordFault → Refusal
of_record record_fault.Length = RecordLength
of_record record_fault.NotSound = RecordNotSound

abbrev pub of_task : TaskFault → Refusal
of_task task_fault.Length = TaskLength
of_task task_fault.Form = TaskNotWellFormed

-- MODEL 13: the checks that calls share, of the record, and of the task. Assumes nothing.
use Rattle.std.specs.Prelude.{ℕ, ◌≡◌, ◌≢◌, ◌↔◌, refl, true, false, Result, Ok, Err, IsErrOf, IsErrAnd, MatchResult, List, length}
use Rattle.std.proofs.Math.Option.{some}
use Rattle.model.specs.Limits.{record_size}
use Rattle.model.specs.Tasks.{sized, well_formed}
use Rattle.model.specs.Record.{device_of, book_of}
use Rattle.model.specs.Sound.{sound}
use Rattle.model.specs.Calls.{Call, list, choose, place, release, refused, refusals}
use Rattle.model.specs.OnRecord.{view_of, view}
use Rattle.model.proofs.Laws.WriteBack.{Bytes}
use Rattle.model.proofs.Laws.OnRecord.{wrong_length_call, not_sound_call, refused_call, count_wrong_length, count_not_sound, fragmentation_wrong_length, fragmentation_not_sound}
use Rattle.listing.specs.Columns.{Given}
use Rattle.record.specs.declared.checked.SoundRecord.{SoundRecord}
use Rattle.soundness.specs.declared.RecordFault.{RecordFault}
use Rattle.soundness.specs.declared.RecordFault.TheVariants as record_fault
use Rattle.task.specs.declared.Task.{Task}
use Rattle.task.specs.declared.TaskFault.{TaskFault}
use Rattle.task.specs.declared.TaskFault.TheVariants as task_fault
use Rattle.card.specs.declared.refusal.Refusal.{Refusal}
use Rattle.card.specs.declared.refusal.Refusal.TheVariants.{RecordLength, RecordNotSound, TaskLength, TaskNotWellFormed}
use Rattle.card.specs.Refusals.{of_record, of_task}
use Rattle.card.specs.Checks.{RefusesRecord, HasTask, RefusesTask}

-- what a `?` returns that met the refusal e, of which p holds
pub exits : {A : Type 0} (P : A → Type 0) (Q : Refusal → Type 0) (x : Result A Refusal) (e : Refusal) → IsErrAnd x (λ y. y ≡ e) → Q e → MatchResult x P Q
exits P Q (Ok a) e h q = absurd h
exits P Q (Err y) e h q = rw h q

-- ---- of the record

module _ (r : List ℕ) where
  pub check_length : length r ≢ record_size → RefusesRecord r RecordLength
  unfolding view view_of
  check_length h = (λ c. wrong_length_call r c h, λ k. let e = count_wrong_length r k h in (e, rw e), fragmentation_wrong_length r h)

  module _ (h : length r ≡ record_size) (s : sound r ≡ false) where
    pub check_sound : RefusesRecord r RecordNotSound
    unfolding view view_of
    check_sound = (λ c. not_sound_call r c h s, λ k. let e = count_not_sound r k h s in (e, rw e), fragmentation_not_sound r h s)

-- ---- of the task, before list, choose and place

module _ (r t : List ℕ) (B : Bytes r) (s : sound r ≡ true) where
  pub check_sized : sized t ≡ false → RefusesTask r t TaskLength
  unfolding refused refusals
  check_sized e c k = refused_call r c s B 4 (go c k)
    where
      go : (c : Call) → HasTask t c → refused (refusals (device_of r) (book_of r) c) ≡ some 4
      go (list u o) k = rw (k, e)
      go (choose u) k = rw (k, e)
      go (place u n p y) k = rw (k, e)
      go (release n) k = absurd k

  pub check_formed : sized t ≡ true → well_formed t ≡ false → RefusesTask r t TaskNotWellFormed
  unfolding refused refusals
  check_formed z e c k = refused_call r c s B 5 (go c k)
    where
      go : (c : Call) → HasTask t c → refused (refusals (device_of r) (book_of r) c) ≡ some 5
      go (list u o) k = rw (k, z, e)
      go (choose u) k = rw (k, z, e)
      go (place u n p y) k = rw (k, z, e)
      go (release n) k = absurd k

-- ---- by the fault that a reader found

pub record_refused : {T : Type 0} (r : List ℕ) (e : RecordFault) → (IsErrOf {T = T} (Err e) record_fault.Length ↔ (length r ≢ record_size))
    → (IsErrOf {T = T} (Err e) record_fault.NotSound ↔ ((length r ≡ record_size) × (sound r ≡ false))) → RefusesRecord r (of_record e)
record_refused r record_fault.Length l s = check_length r (l.0 refl)
record_refused r record_fault.NotSound l s = let (h, u) = s.0 refl in check_sound r h u

pub task_refused : {T : Type 0} (r t : List ℕ) (e : TaskFault) → Bytes r → sound r ≡ true → (IsErrOf {T = T} (Err e) task_fault.Length ↔ (sized t ≡ false))
    → (IsErrOf {T = T} (Err e) task_fault.Form ↔ ((sized t ≡ true) × (well_formed t ≡ false))) → RefusesTask r t (of_task e)
task_refused r t task_fault.Length B s l f = check_sized r t B s (l.0 refl)
task_refused r t task_fault.Form B s l f = let (z, u) = f.0 refl in check_formed r t B s z u

-- what passed
pub given : {r t : List ℕ} (s : SoundRecord) (u : Task) → (s.bytes.now ≡ r) × (u.bytes.now ≡ t) → Given r t
given s u (e, f) = record { sound = rw e at s.sound; sized = rw f at u.sized; formed = rw f at u.well_formed }

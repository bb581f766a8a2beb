-- What a test of a record says, and the first of the tests: of its length, its device and how many tasks run. Assumes nothing.
use Rattle.std.specs.Prelude.{ℕ, ◌≡◌, ◌<◌, Bool, true, false, Option, None, Some, MatchOption, List, length, get_or}
use Rattle.std.specs.Borrow.{Bor}
use Rattle.std.specs.Array.{IsWholeChunk}
use Rattle.std.proofs.Common.{sym, ap, ◌∙◌, arith, true≢false}
use Rattle.std.proofs.lemmas.Bool.{false≢true}
use Rattle.model.specs.Limits.{max_running, record_size, running_at}
use Rattle.model.specs.Columns.{device_ok}
use Rattle.model.specs.Record.{device_of, book_of}
use Rattle.model.specs.Sound.{sound}
use Rattle.model.proofs.Laws.Bounded.{is_false, clash}
use Rattle.model.proofs.Laws.Limits.{within_device}
use Rattle.model.proofs.Laws.Clauses.{clauses_to}
use Rattle.model.proofs.Laws.Sound.{sound_length, sound_within}
use Rattle.soundness.specs.Soundness.{Judged}

pub judged_no : {r : List ℕ} {P : Type 0} → sound r ≡ false → Judged r P false
judged_no h = record { holds = λ e. absurd (false≢true e); refused = λ e. h }

pub judged_yes : {r : List ℕ} {P : Type 0} → P → Judged r P true
judged_yes p = record { holds = λ e. p; refused = λ e. absurd (true≢false e) }

module _ (r : List ℕ) where
  pub refused_length : (length r ≡ record_size → ⊥) → false ≡ sound r
  refused_length h = sym (is_false (sound r) (λ s. h (sound_length r s)))

  pub refused_device : device_ok (device_of r) ≡ false → false ≡ sound r
  refused_device h = sym (is_false (sound r) (λ s. clash (within_device (device_of r) (book_of r) (sound_within r s)) h))

  pub refused_running : max_running < get_or r running_at 0 → sound r ≡ false
  refused_running h = is_false (sound r) (λ s. omega (arith, (clauses_to r s).few_running))

-- bytes that are looked at only where they have the length of a record
pub sound_array : (r : List ℕ) (a : Option (Bor (List ℕ))) (ok : Bool) → MatchOption a (length r ≡ record_size → ⊥) (λ y. IsWholeChunk r y.now record_size)
    → MatchOption a (ok ≡ false) (λ y. ok ≡ sound y.now) → ok ≡ sound r
sound_array r None ok h e = e ∙ refused_length r h
sound_array r (Some y) ok h e = e ∙ ap sound h.same

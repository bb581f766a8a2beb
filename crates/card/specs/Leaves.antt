-- MODEL 21.1: what the calls promise, their answers by their numbers and every byte that they were lent, by the model's call on these bytes.
-- Assumes nothing.
use Rattle.std.specs.Prelude.{ℕ, ◌≡◌, List, [], ℤ}
use Rattle.model.specs.Calls.{Outcome}
use Rattle.model.specs.OnRecord.{Fragmentation}

-- MODEL 21.1: what a call leaves is the outcome's, its answer, every byte of the record, and every byte of its output, [] where it has none
pub record Leaves (o : Outcome (List ℕ)) (answer : ℤ) (bytes output : List ℕ) : Type 0 where
  pub answer_is : answer ≡ o.answer
  pub record_is : bytes ≡ o.state
  pub output_is : output ≡ o.output

-- MODEL 21.1: the same of a call that has no output
abbrev pub Changes : Outcome (List ℕ) → ℤ → List ℕ → Type 0
Changes o answer bytes = Leaves o answer bytes []

-- MODEL 21.1 and 22.5: what the fragmentation leaves is m's, its answer, the two numbers that it writes, and every byte of the record
pub record Tells (m : Fragmentation) (answer free degree : ℤ) (bytes : List ℕ) : Type 0 where
  pub answer_is : answer ≡ m.answer
  pub free_is : free ≡ m.free
  pub degree_is : degree ≡ m.degree
  pub record_is : bytes ≡ m.state

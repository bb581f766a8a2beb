-- MODEL 12.1: what a call answers, as the number that the model has for it. Assumes nothing.
use Rattle.std.specs.Prelude.{ℕ, ◌+◌, ◌*◌, ℤ, pos, Result, Ok, Err}
use Rattle.model.specs.Limits.{column_weight}
use Rattle.card.specs.declared.answers.Chosen.{Chosen}
use Rattle.card.specs.declared.refusal.Refusal.{Refusal}
use Rattle.card.specs.Refusals.{number_of}

-- MODEL 12.1: the number of an answer: that of its value by f, or of its refusal
abbrev pub answer_by : {A : Type 0} → (A → ℤ) → Result A Refusal → ℤ
answer_by f (Ok x) = f x
answer_by f (Err e) = number_of e

-- MODEL 22.6: a number that is written: that of the value by f, or 0 where the call is refused
abbrev pub number_by : {A : Type 0} → (A → ℕ) → Result A Refusal → ℤ
number_by f (Ok x) = pos (f x)
number_by f (Err e) = pos 0

-- MODEL 11.6: the number of a position, 1,024 × column + bottom
abbrev pub position_of : Chosen → ℤ
position_of at = pos (at.column * column_weight + at.bottom)

-- MODEL 17: what the readers of a line's fields answer, in terms of the model's fields and numbers. Assumes nothing.
use Rattle.std.specs.Prelude.{ℕ, ◌≡◌, cond, List, [], ◌∷◌, ltb, ℤ, Option, Some, None, Result}
use Rattle.std.specs.Result.{result_ok}
use Rattle.std.specs.Int.Signed.{mag}
use Rattle.std.proofs.Math.Option.{Option as Read, none, some}
use Rattle.model.specs.Kinds.{number_of}
use Rattle.model.specs.Sheet.{number}
use Rattle.model.specs.declared.Kind.{Kind}

-- the byte of a field that is one
abbrev pub one_byte : List ℕ → Option ℕ
one_byte [] = None
one_byte (x ∷ []) = Some x
one_byte (x ∷ y ∷ l) = None

-- a number that 32 bits hold; no field may have another (MODEL 17.7)
abbrev pub small : Read ℤ → Option ℤ
small none = None
small (some z) = cond (ltb (mag z) 2147483648) (Some z) None

-- MODEL 17.5: the number that a field says
unfoldable pub number_said : List ℕ → Option ℤ
number_said f = small (number f)

-- r is a number as the type has it that `gives` it, if it has it
abbrev pub Narrowed : {T E : Type 0} → (ℤ → Result T E → Type 0) → Option ℤ → Option T → Type 0
Narrowed gives None r = r ≡ None
Narrowed {T} {E} gives (Some z) r = (e : Result T E) × gives z e × (r ≡ result_ok e)

-- MODEL 3.3: the number of the kind that was read
abbrev pub kind_said : Option Kind → Read ℕ
kind_said (Some k) = some (number_of k)
kind_said None = none

-- MODEL 3 and 21.6: the kinds of the code, and the numbers that they have in the model. Assumes nothing.
use Rattle.std.specs.Prelude.{ℕ, cond, eqb, Result, Ok, Err}
use Rattle.model.specs.Columns.{kind_C, kind_B, kind_D}
use Rattle.model.specs.declared.Kind.{Kind}
use Rattle.model.specs.declared.Kind.TheVariants.{C, B, D}
use Rattle.model.specs.declared.UnknownKind.{UnknownKind}

-- MODEL 3.3: the number of a kind
abbrev pub number_of : Kind → ℕ
number_of C = kind_C
number_of B = kind_B
number_of D = kind_D

-- MODEL 3.3: the kind of a number, if it is one of a kind
abbrev pub kind_of : ℕ → Result Kind UnknownKind
kind_of n = cond (eqb n kind_C) (Ok C) (cond (eqb n kind_B) (Ok B) (cond (eqb n kind_D) (Ok D) (Err (record { 0 = n }))))

-- MODEL 3.3: the kinds of the code, and the numbers that they have in the model. Assumes nothing.
use Rattle.std.specs.Prelude.{ℕ, ◌<◌, ◌≡◌, refl, true, leb, eqb, Result, Ok, Err}
use Rattle.std.proofs.Common.{sym, subst, ◌∙◌, arith}
use Rattle.std.proofs.lemmas.Bool.{eqb-false}
use Rattle.runs.specs.Laws.Tests.{tests, cond_ind}
use Rattle.model.specs.Limits.{max_kind}
use Rattle.model.specs.Columns.{kind_C, kind_B, kind_D}
use Rattle.model.specs.Kinds.{number_of, kind_of}
use Rattle.model.specs.declared.Kind.{Kind}
use Rattle.model.specs.declared.Kind.TheVariants.{C, B, D}
use Rattle.model.specs.declared.UnknownKind.{UnknownKind}

-- every kind is 0 to 2
pub known : (k : Kind) → leb (number_of k) max_kind ≡ true
known C = refl
known B = refl
known D = refl

-- what `try_from` answers to the byte n
abbrev KindIs : Result Kind UnknownKind → ℕ → Type 0
KindIs (Ok k) n = number_of k ≡ n
KindIs (Err e) n = (e.0 ≡ n) × (max_kind < n)

kind_is : (n : ℕ) → KindIs (kind_of n) n
kind_is n =
    let is : Result Kind UnknownKind → Type 0 = λ r. KindIs r n in
    cond_ind is (eqb n kind_C) (λ e. omega tests)
    (λ c. cond_ind is (eqb n kind_B) (λ e. omega tests)
    (λ b. cond_ind is (eqb n kind_D) (λ e. omega tests) (λ d. (refl, omega (arith, eqb-false n kind_C c, eqb-false n kind_B b, eqb-false n kind_D d)))))

pub kind_known : (n : ℕ) (r : Result Kind UnknownKind) (k : Kind) → r ≡ kind_of n → r ≡ Ok k → number_of k ≡ n
kind_known n r k e h = subst (λ (x : Result Kind UnknownKind). KindIs x n) (sym e ∙ h) (kind_is n)

pub kind_unknown : (n : ℕ) (r : Result Kind UnknownKind) (u : UnknownKind) → r ≡ kind_of n → r ≡ Err u → (u.0 ≡ n) × (max_kind < n)
kind_unknown n r u e h = subst (λ (x : Result Kind UnknownKind). KindIs x n) (sym e ∙ h) (kind_is n)

-- From an outcome to what a function promises, refused or not. Assumes nothing.
use Rattle.std.specs.Prelude.{ℕ, ◌≤◌, ◌<◌, ◌≡◌, Result, Ok, Err, IsErrAnd, List, leb, ℤ}
use Rattle.std.proofs.Common.{sym, ap, le-leb}
use Rattle.std.proofs.lemmas.Bool.{lt-leb}
use Rattle.model.specs.Limits.{max_number}
use Rattle.model.specs.Sound.{number_ok}
use Rattle.model.specs.Calls.{Outcome}
use Rattle.card.specs.declared.refusal.Refusal.{Refusal}
use Rattle.card.specs.Refusals.{number_of}
use Rattle.card.specs.Answers.{answer_by}
use Rattle.card.specs.Leaves.{Leaves}

-- the outcome has this answer, this output and this record
pub answers : {o : Outcome (List ℕ)} {a : ℤ} {l r : List ℕ} → o ≡ record { answer = a; output = l; state = r } → a ≡ o.answer
answers e = sym (ap (λ (o : Outcome (List ℕ)). o.answer) e)

pub leaves : {o : Outcome (List ℕ)} {a : ℤ} {l r : List ℕ} → o ≡ record { answer = a; output = l; state = r } → Leaves o a r l
leaves e =
    record {
      answer_is = answers e;
      record_is = sym (ap (λ (o : Outcome (List ℕ)). o.state) e);
      output_is = sym (ap (λ (o : Outcome (List ℕ)). o.output) e);
    }

-- what a `?` returns that met the refusal e
pub leaves_refused : {A : Type 0} (f : A → ℤ) {o : Outcome (List ℕ)} {l r : List ℕ} (x : Result A Refusal) (e : Refusal) → IsErrAnd x (λ y. y ≡ e)
    → o ≡ record { answer = number_of e; output = l; state = r } → Leaves o (answer_by f x) r l
leaves_refused f (Ok a) e h q = absurd h
leaves_refused f (Err y) e h q = rw h (leaves q)

-- a task number by its two tests
pub number_zero : (n : ℕ) → n < 1 → leb 1 n ≡ number_ok n
unfolding number_ok
number_zero n h = rw (lt-leb 1 n h)

pub number_some : (n : ℕ) → 1 ≤ n → leb n max_number ≡ number_ok n
unfolding number_ok
number_some n h = rw (le-leb 1 n h)

-- MODEL 17.7: a number as a type has it that has its field's limits. Assumes nothing.
use Rattle.std.specs.Prelude.{ℕ, zero, suc, ◌+◌, ◌^◌, ◌<◌, ◌≡◌, refl, Bool, true, false, cond, ◌&&◌, List, [], ◌∷◌, leb, ltb, eqb, ℤ, pos, negsuc, Option, Some, None, Result, Ok, Err, FitsSigned, unsigned_abs}
use Rattle.std.proofs.Common.{sym, ap, ◌∙◌, arith, w16, le-leb, leb-true, ltb-false}
use Rattle.std.proofs.lemmas.Bool.{lt-leb}
use Rattle.std.proofs.Math.Bool.{and-true}
use Rattle.std.proofs.Math.Option.{Option as Read, none, some}
use Rattle.std.specs.Int.{FitsUnsignedBits}
use Rattle.std.specs.Int.Signed.{mag, le_z}
use Rattle.std.specs.Bool.{Decides}
use Rattle.std.specs.Result.{OkIff, result_ok}
use Rattle.model.specs.Limits.{max_height_field}
use Rattle.model.specs.Sheet.{with_some, provided, natural, negated, number, natural_field, height_field}
use Rattle.line.specs.Fields.{small, number_said, Narrowed}
use Rattle.line.specs.Laws.Reading.{number_of_natural}

-- what was read, as the model has it
abbrev pub read : {A : Type 0} → Option A → Read A
read None = none
read (Some a) = some a

module _ {E : Type 0} where
  -- an unsigned type of k bits, and one that is signed
  abbrev pub Unsigned : ℕ → ℤ → Result ℕ E → Type 0
  Unsigned k z r = OkIff r (FitsUnsignedBits k z) (unsigned_abs z)

  abbrev pub Signed16 : ℤ → Result ℤ E → Type 0
  Signed16 z r = OkIff r (FitsSigned w16 z) z

-- a number with no sign is natural
natural_of_number : (f : List ℕ) {n : ℕ} → number f ≡ some (pos n) → natural f ≡ some n
unfolding number
natural_of_number [] e = cc
natural_of_number (x ∷ l) {n} e = go (eqb x 45) e
  where
    minus : (o : Read ℕ) → negated o ≡ some (pos n) → natural (x ∷ l) ≡ some n
    minus none r = cc
    minus (some zero) r = cc
    minus (some (suc m)) r = cc

    no_sign : (o : Read ℕ) → natural (x ∷ l) ≡ o → with_some o (λ m. some (pos m)) ≡ some (pos n) → natural (x ∷ l) ≡ some n
    no_sign none q r = cc
    no_sign (some m) q r = q ∙ (let v : m ≡ n = cc in ap some v)

    go : (t : Bool) → cond t (negated (natural l)) (with_some (natural (x ∷ l)) (λ m. some (pos m))) ≡ some (pos n) → natural (x ∷ l) ≡ some n
    go true r = minus (natural l) r
    go false r = no_sign (natural (x ∷ l)) refl r

-- x, if the type has it
has : {A E P : Type 0} {x : A} (o : Option A) (t : Bool) → Decides t P → (e : Result A E) × OkIff e P x × (o ≡ result_ok e) → read o ≡ provided t x
has {x = x} o t d (Ok y, (p, v), q) = rw (q, d.1 p) (ap some v)
has o true d (Err y, n, q) = absurd (n (d.0 refl))
has o false d (Err y, n, q) = rw q

nothing : {A : Type 0} (o : Option A) → o ≡ None → read o ≡ none
nothing o e = rw e

up_to : (n m : ℕ) → Decides (leb n m) (n < m + 1)
up_to n m = (λ e. omega (arith, leb-true n m e), λ h. le-leb n m (omega arith))

-- ---- a natural number

not_natural : (most : ℕ) (f : List ℕ) → ((n : ℕ) → number f ≡ some (pos n) → ⊥) → natural_field most f ≡ none
unfolding natural_field
not_natural most f h = go (natural f) refl
  where
    go : (o : Read ℕ) → natural f ≡ o → with_some o (λ n. provided (leb n most) n) ≡ none
    go none e = refl
    go (some n) e = absurd (h n (number_of_natural f e))

pub natural_read : (k most : ℕ) → 2 ^ k ≡ most + 1 → most < 2147483648 → (f : List ℕ) (E : Type 0) (o : Option ℕ) → Narrowed (Unsigned {E = E} k) (number_said f) o → read o ≡ natural_field most f
unfolding number_said natural_field
natural_read k most limit fits f E o = go (number f) refl
  where
    natural_is : {n : ℕ} → number f ≡ some (pos n) → natural_field most f ≡ provided (leb n most) n
    natural_is e = rw (natural_of_number f e)

    positive : (n : ℕ) (t : Bool) → ltb n 2147483648 ≡ t → Narrowed (Unsigned {E = E} k) (cond t (Some (pos n)) None) o → read o ≡ provided (leb n most) n
    positive n true e h = has o (leb n most) (rw limit (up_to n most)) h
    positive n false e h = let l = ltb-false n 2147483648 e in nothing o h ∙ rw (lt-leb n most (omega arith))

    negative : (n : ℕ) (t : Bool) → Narrowed (Unsigned {E = E} k) (cond t (Some (negsuc n)) None) o → read o ≡ none
    negative n true h = has {P = ⊥} {x = suc n} o false (λ e. cc, λ b. absurd b) h
    negative n false h = nothing o h

    go : (z : Read ℤ) → number f ≡ z → Narrowed (Unsigned {E = E} k) (small z) o → read o ≡ natural_field most f
    go none e h = nothing o h ∙ sym (not_natural most f (λ n p. cc))
    go (some (pos n)) e h = positive n (ltb n 2147483648) refl h ∙ sym (natural_is e)
    go (some (negsuc n)) e h = negative n (ltb n 2147483648) h ∙ sym (not_natural most f (λ m p. cc))

-- ---- a bottom or a top

within : (z : ℤ) → (le_z (negsuc max_height_field) z && le_z z (pos max_height_field)) ≡ leb (mag z) max_height_field
within (pos n) = refl
within (negsuc n) = and-true (leb n max_height_field)

pub height_read : (f : List ℕ) (E : Type 0) (o : Option ℤ) → Narrowed (Signed16 {E = E}) (number_said f) o → read o ≡ height_field f
unfolding number_said height_field
height_read f E o = go (number f)
  where
    test : (z : ℤ) (t : Bool) → ltb (mag z) 2147483648 ≡ t → Narrowed (Signed16 {E = E}) (cond t (Some z) None) o → read o ≡ provided (le_z (negsuc max_height_field) z && le_z z (pos max_height_field)) z
    test z true e h = rw (within z) (has o (leb (mag z) max_height_field) (λ b. record { sfits = omega (arith, leb-true (mag z) max_height_field b) }, λ b. le-leb (mag z) max_height_field (omega (arith, b.sfits))) h)
    test z false e h = let l = ltb-false (mag z) 2147483648 e in rw (within z, lt-leb (mag z) max_height_field (omega arith)) (nothing o h)

    go : (y : Read ℤ) → Narrowed (Signed16 {E = E}) (small y) o → read o ≡ with_some y (λ z. provided (le_z (negsuc max_height_field) z && le_z z (pos max_height_field)) z)
    go none h = nothing o h
    go (some z) h = test z (ltb (mag z) 2147483648) refl h

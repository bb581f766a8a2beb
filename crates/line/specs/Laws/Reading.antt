-- MODEL 17.5: a number has one form, the library's, in which it is printed and read. So a number that is printed is read as that number. Assumes nothing.
use Rattle.std.specs.Prelude.{ℕ, zero, suc, ◌^◌, ◌<◌, ◌≡◌, refl, Bool, true, false, cond, not, ◌||◌, ◌&&◌, List, [], ◌∷◌, length, get_or, eqb, leb, ℤ, pos, negsuc, nat_abs}
use Rattle.std.proofs.Common.{sym, ap, ◌∙◌, arith, eq-eqb, ne_eqb, eqb-true, leb-true, le-leb}
use Rattle.std.proofs.Math.Option.{Option, none, some}
use Rattle.std.specs.Int.{IsInRange}
use Rattle.std.specs.Int.Signed.{mag}
use Rattle.std.specs.Fmt.{decimal as printed, signed_decimal}
use Rattle.std.proofs.lemmas.Str.Parse.{IsDigitsTest, FoldsDigits, IsNumeralModel, numerals_by_fold}
use Rattle.std.proofs.lemmas.Fmt.{digits_decimal, digits_value-decimal, decimal_digit, decimal-digits_value, decimal_nonempty, first_decimal}
use Rattle.std.specs.Prelude.{Result, Option as Maybe, Some, None, IsUtf8, ltb}
use Rattle.std.specs.Result.{result_ok}
use Rattle.std.specs.Str.Parse.{ParsesSigned}
use Rattle.std.proofs.Common.{subst, lt-ltb, ltb-true, w32}
use Rattle.std.specs.Cmp.Lexicographic.{pointwise}
use Rattle.std.proofs.lemmas.Slice.Eq.{bytes_eq-Decides}
use Rattle.std.proofs.lemmas.Str.{IsUtf8-from_ascii}
use Rattle.std.proofs.lemmas.Fmt.{IsAscii-signed, parse-signed_decimal}
use Rattle.line.specs.Fields.{small, number_said}
use Rattle.line.specs.Laws.Print.{tens, shown_signed}
use Rattle.model.specs.Bounded.{all_in}
use Rattle.model.proofs.Laws.Bounded.{and_to, and_of}
use Rattle.model.specs.Sheet.{with_some, provided, digit, decimal, natural, negated, number, shown}

-- the model's digits, and the number that they say, are the library's
a_digit : (x : ℕ) → digit x ≡ true → IsInRange 48 57 x
unfolding digit
a_digit x h = let t = and_to (leb 48 x) (leb x 57) h in (leb-true 48 x t.0, leb-true x 57 t.1)

digit_is : (x : ℕ) → IsInRange 48 57 x → digit x ≡ true
unfolding digit
digit_is x h = and_of (leb 48 x) (leb x 57) (le-leb 48 x h.0) (le-leb x 57 h.1)

tests : IsDigitsTest (λ ds. all_in digit ds ≡ true)
unfolding all_in
tests = record {
  empty = refl;
  parts = λ c cs h. let t = and_to (digit c) (all_in digit cs) h in (a_digit c t.0, t.1);
  more = λ c cs h r. and_of (digit c) (all_in digit cs) (digit_is c h) r;
}

folds : FoldsDigits decimal
unfolding decimal
folds = record {
  empty = λ n. refl;
  more = λ n c cs h. ap (λ v. decimal v cs) (omega arith);
}

own : IsNumeralModel (λ ds. all_in digit ds ≡ true) (decimal 0)
own = numerals_by_fold (λ ds. all_in digit ds ≡ true) tests decimal folds

-- ---- natural numbers

-- digits of the form that is read say their number
natural_digits : (l : List ℕ) → 0 < length l → all_in digit l ≡ true → (get_or l 0 0 ≡ 48 → length l ≡ 1) → natural l ≡ some (decimal 0 l)
unfolding natural
natural_digits [] h d e = absurd (omega arith)
natural_digits (x ∷ l) h d e = rw d (go (eqb x 48) refl)
  where
    go : (t : Bool) → eqb x 48 ≡ t → provided (not t || eqb (length l) 0) (decimal 0 (x ∷ l)) ≡ some (decimal 0 (x ∷ l))
    go false q = refl
    go true q = let one = e (eqb-true x 48 q) in rw (eq-eqb (length l) 0 (omega arith))

digits_natural : (l : List ℕ) {n : ℕ} → natural l ≡ some n → (0 < length l) × (all_in digit l ≡ true) × (get_or l 0 0 ≡ 48 → length l ≡ 1) × (decimal 0 l ≡ n)
unfolding natural
digits_natural [] e = let z : ◌≡◌ {A = ℕ} 0 1 = cc in absurd (omega arith)
digits_natural (x ∷ l) {n} e = go (all_in digit (x ∷ l) && (not (eqb x 48) || eqb (length l) 0)) refl e
  where
    go : (t : Bool) → (all_in digit (x ∷ l) && (not (eqb x 48) || eqb (length l) 0)) ≡ t → provided t (decimal 0 (x ∷ l)) ≡ some n
        → (0 < suc (length l)) × (all_in digit (x ∷ l) ≡ true) × (x ≡ 48 → suc (length l) ≡ 1) × (decimal 0 (x ∷ l) ≡ n)
    go false q r = let z : ◌≡◌ {A = ℕ} 0 1 = cc in absurd (omega arith)
    go true q r =
        let t = and_to (all_in digit (x ∷ l)) (not (eqb x 48) || eqb (length l) 0) q in
        (omega arith, t.0, λ h. omega (arith, eqb-true (length l) 0 (rw (eq-eqb x 48 h) at t.1)), cc)

pub natural_printed : (n : ℕ) → n < 2 ^ 64 → natural (printed n) ≡ some n
natural_printed n h = natural_digits (printed n) (decimal_nonempty n h) (digits_decimal own n h) (led n h) ∙ ap some (digits_value-decimal own n h)
  where
    led : (n : ℕ) → n < 2 ^ 64 → get_or (printed n) 0 0 ≡ 48 → length (printed n) ≡ 1
    led zero h e = ap length (decimal_digit 0 (omega arith))
    led (suc n) h e = let f = first_decimal (suc n) (omega arith) h in absurd (omega arith)

pub natural_is : (f : List ℕ) {n : ℕ} → natural f ≡ some n → n < 2 ^ 64 → f ≡ printed n
natural_is f {n} e h =
    let d = digits_natural f e in
    let v : decimal 0 f ≡ n = d.3 in
    sym (decimal-digits_value own f d.1 d.0 d.2 (rw v h)) ∙ ap printed v

-- ---- numbers with a sign

-- a natural number has no sign
pub number_of_natural : (f : List ℕ) {n : ℕ} → natural f ≡ some n → number f ≡ some (pos n)
unfolding number all_in
number_of_natural [] e = let d = digits_natural [] e in absurd (omega (arith, d.0))
number_of_natural (x ∷ l) e = let d = a_digit x (and_to (digit x) (all_in digit l) (digits_natural (x ∷ l) e).1).0 in rw (ne_eqb x 45 (λ q. omega arith), e)

pub number_printed : (z : ℤ) → mag z < 2 ^ 63 → number (signed_decimal z) ≡ some z
unfolding number
number_printed (pos n) h = number_of_natural (printed n) (natural_printed n (omega arith))
number_printed (negsuc n) h = ap negated (natural_printed (suc n) (omega arith))

pub number_is : (f : List ℕ) {z : ℤ} → number f ≡ some z → mag z < 2 ^ 63 → f ≡ signed_decimal z
unfolding number
number_is [] e h = let z : ◌≡◌ {A = ℕ} 0 1 = cc in absurd (omega arith)
number_is (x ∷ l) {z} e h = go (eqb x 45) refl e
  where
    minus : (o : Option ℕ) → natural l ≡ o → x ≡ 45 → negated o ≡ some z → x ∷ l ≡ signed_decimal z
    minus none q s r = let z : ◌≡◌ {A = ℕ} 0 1 = cc in absurd (omega arith)
    minus (some zero) q s r = let z : ◌≡◌ {A = ℕ} 0 1 = cc in absurd (omega arith)
    minus (some (suc n)) q s r =
        let v : negsuc n ≡ z = cc in
        let t = natural_is l q (omega (arith, rw (← v) at h)) in
        rw (← v, s) (ap (λ w. 45 ∷ w) t)

    no_sign : (o : Option ℕ) → natural (x ∷ l) ≡ o → with_some o (λ n. some (pos n)) ≡ some z → x ∷ l ≡ signed_decimal z
    no_sign none q r = let z : ◌≡◌ {A = ℕ} 0 1 = cc in absurd (omega arith)
    no_sign (some n) q r = let v : pos n ≡ z = cc in rw (← v) (natural_is (x ∷ l) q (omega (arith, rw (← v) at h)))

    go : (t : Bool) → eqb x 45 ≡ t → cond t (negated (natural l)) (with_some (natural (x ∷ l)) (λ n. some (pos n))) ≡ some z → x ∷ l ≡ signed_decimal z
    go true q r = minus (natural l) refl (eqb-true x 45 q) r
    go false q r = no_sign (natural (x ∷ l)) refl r

-- ---- what a field says, as the library reads and prints it

pub said_form : (f : List ℕ) {z : ℤ} → number_said f ≡ Some z → (f ≡ signed_decimal z) × (mag z < 2147483648)
unfolding number_said
said_form f {z} e = go (number f) refl e
  where
    go : (o : Option ℤ) → number f ≡ o → small o ≡ Some z → (f ≡ signed_decimal z) × (mag z < 2147483648)
    go none q r = let z : ◌≡◌ {A = ℕ} 0 1 = cc in absurd (omega arith)
    go (some y) q r = test (ltb (mag y) 2147483648) refl r
      where
        test : (t : Bool) → ltb (mag y) 2147483648 ≡ t → cond t (Some y) None ≡ Some z → (f ≡ signed_decimal z) × (mag z < 2147483648)
        test false p s = let z : ◌≡◌ {A = ℕ} 0 1 = cc in absurd (omega arith)
        test true p s = let v : y ≡ z = cc in let l = ltb-true (mag y) 2147483648 p in rw (← v) (number_is f q (omega arith), l)

pub said_is : (f : List ℕ) (z : ℤ) → f ≡ signed_decimal z → mag z < 2147483648 → number_said f ≡ Some z
unfolding number_said
said_is f z e h = rw (e, number_printed z (omega arith), lt-ltb (mag z) 2147483648 h)

-- a field that says no number: no text, no number to the library, or a number in another form
module _ (f : List ℕ) where
  unsaid : ((z : ℤ) → f ≡ signed_decimal z → mag z < 2147483648 → ⊥) → number_said f ≡ None
  unsaid h = go (number_said f) refl
    where
      go : (o : Maybe ℤ) → number_said f ≡ o → number_said f ≡ None
      go None e = e
      go (Some z) e = let s = said_form f e in absurd (h z s.0 s.1)

  pub no_text : ¬ (IsUtf8 f) → number_said f ≡ None
  no_text h = unsaid (λ z e l. h (subst IsUtf8 (sym e) (IsUtf8-from_ascii (signed_decimal z) (IsAscii-signed z (omega arith)))))

  pub no_number : {E : Type 0} (r : Result ℤ E) → ParsesSigned w32 10 f r → None ≡ result_ok r → number_said f ≡ None
  no_number r p n = unsaid (λ z e l. let q = parse-signed_decimal w32 z f r (record { sfits = l }) (omega arith) e p in let z : ◌≡◌ {A = ℕ} 0 1 = cc in omega arith)

  pub other_form : {E : Type 0} (r : Result ℤ E) {z : ℤ} → ParsesSigned w32 10 f r → Some z ≡ result_ok r → (signed_decimal z ≡ f → ⊥) → number_said f ≡ None
  other_form r {z} p s n = unsaid (λ y e l. let q = parse-signed_decimal w32 y f r (record { sfits = l }) (omega arith) e p in n (let v : z ≡ y = cc in rw v (sym e)))

-- what `==` says of two texts
pub same_text : {a b : List ℕ} → false ≡ not (pointwise eqb a b) → a ≡ b
same_text {a} {b} e = (bytes_eq-Decides a b).0 (is_true (pointwise eqb a b) e)
  where
    is_true : (t : Bool) → false ≡ not t → t ≡ true
    is_true true q = refl
    is_true false q = cc

pub other_text : {a b : List ℕ} → true ≡ not (pointwise eqb a b) → a ≡ b → ⊥
other_text {a} {b} e h =
    let s = (bytes_eq-Decides a b).1 h in
    let z : ◌≡◌ {A = ℕ} 0 1 = cc in
    omega arith

-- ---- what is printed is read

-- THEOREM: a number of at most ten digits that is printed is read as that number
pub read_shown : (z : ℤ) → nat_abs z < tens 10 → number (shown z) ≡ some z
read_shown z h = rw (shown_signed z h) (number_printed z (small_enough z h))
  where
    small_enough : (z : ℤ) → nat_abs z < tens 10 → mag z < 2 ^ 63
    small_enough (pos n) h = omega arith
    small_enough (negsuc n) h = omega arith

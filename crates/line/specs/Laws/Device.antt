-- MODEL 17.6 and 17.7: the line of rows and kinds by its two fields, each as it is read. Assumes nothing.
use Rattle.std.specs.Prelude.{ℕ, zero, suc, ◌+◌, ◌≤◌, ◌<◌, ◌≡◌, ◌⊎◌, refl, Bool, true, false, not, cond, ◌&&◌, List, [], ◌∷◌, ◌++◌, length, take, get_or, leb, eqb, Option, Some, None, MatchOption, is_some}
use Rattle.std.specs.Bool.{then_some}
use Rattle.std.proofs.Common.{◌∙◌, inl, inr, arith, eq-eqb, ne_eqb, le-leb, take_all}
use Rattle.std.proofs.lemmas.List.{take_more}
use Rattle.std.proofs.lemmas.Bool.{lt-leb}
use Rattle.std.proofs.lemmas.List.{get_or_past}
use Rattle.std.proofs.Math.Option.{Option as Read, none, some}
use denote.Ref.{Bor}
use Rattle.runs.specs.Laws.Tests.{lt_or_ge}
use Rattle.model.specs.Limits.{max_line, max_rows_field}
use Rattle.model.specs.Columns.{Device}
use Rattle.model.specs.Sheet.{with_some, fields, natural_field, kind_letter, kind_letters, kinds_field, device_line}
use Rattle.arrayvec.specs.ArrayVec.{ArrayVec}
use Rattle.line.specs.Device.{items_said, device_said, Reads}
use Rattle.line.specs.Laws.Fields.{Taken}
use Rattle.line.specs.Laws.Calls.{with_none, cond_none, read_here}
use Rattle.line.specs.declared.device.DeviceLine.{DeviceLine}

-- ---- letters

letters_append : (a b : List ℕ) → kind_letters (a ++ b) ≡ with_some (kind_letters a) (λ x. with_some (kind_letters b) (λ y. some (x ++ y)))
unfolding kind_letters
letters_append [] b = go (kind_letters b)
  where
    go : (o : Read (List ℕ)) → o ≡ with_some o (λ y. some y)
    go none = refl
    go (some y) = refl
letters_append (x ∷ a) b = rw (letters_append a b) (go (kind_letter x) (kind_letters a) (kind_letters b))
  where
    go : (k : Read ℕ) (o p : Read (List ℕ)) → with_some k (λ k. with_some (with_some o (λ x. with_some p (λ y. some (x ++ y)))) (λ ks. some (k ∷ ks)))
        ≡ with_some (with_some k (λ k. with_some o (λ ks. some (k ∷ ks)))) (λ x. with_some p (λ y. some (x ++ y)))
    go none o p = refl
    go (some k) none p = refl
    go (some k) (some x) none = refl
    go (some k) (some x) (some y) = refl

-- one more letter, and one that is none
pub letters_push : (l : List ℕ) (i : ℕ) {ks : List ℕ} {k : ℕ} → i < length l → kind_letters (take i l) ≡ some ks → kind_letter (get_or l i 0) ≡ some k → kind_letters (take (i + 1) l) ≡ some (ks ++ k ∷ [])
unfolding kind_letters
letters_push l i {ks} {k} h e f = rw (take_more l i 0 h, letters_append (take i l) (get_or l i 0 ∷ []), e, f)

bad_letter : (l : List ℕ) (i : ℕ) → i < length l → kind_letter (get_or l i 0) ≡ none → kind_letters l ≡ none
unfolding kind_letters
bad_letter [] i h e = absurd (omega arith)
bad_letter (x ∷ l) zero h e = rw e
bad_letter (x ∷ l) (suc i) h e = rw (bad_letter l i (omega arith) e) (with_none (kind_letter x))

one_letter : (l : List ℕ) → (length l ≡ 0 → ⊥) → kinds_field l ≡ kind_letters l
unfolding kinds_field
one_letter [] h = absurd (h refl)
one_letter (x ∷ l) h = refl

pub letters_bad : (l : List ℕ) (i : ℕ) → i < length l → kind_letter (get_or l i 0) ≡ none → kinds_field l ≡ none
letters_bad l i h e = one_letter l (λ n. omega arith) ∙ bad_letter l i h e

pub all_letters : (l : List ℕ) (i : ℕ) {ks : List ℕ} → (length l ≡ 0 → ⊥) → length l ≤ i → kind_letters (take i l) ≡ some ks → kinds_field l ≡ some ks
all_letters l i {ks} h g e = one_letter l h ∙ rw (take_all i l g) at e

pub no_letter : (l : List ℕ) → length l ≡ 0 → kinds_field l ≡ none
unfolding kinds_field
no_letter [] h = refl
no_letter (x ∷ l) h = absurd (omega arith)

-- the letters of a field, one after the other
pub ruleset letters = (no_letter, letters_push, letters_bad, all_letters)

-- the kinds of field k, as they are read
pub kinds_here : {fs : List (List ℕ)} {k : ℕ} {r : Option (Bor (List ℕ))} → Taken fs k r → (o : Option (ArrayVec ℕ)) → MatchOption r (o ≡ None) (λ x. items_said o ≡ kinds_field x.now)
    → items_said o ≡ kinds_field (get_or fs k [])
unfolding kinds_field
kinds_here {r = r} t o h = read_here t (λ f. items_said o ≡ kinds_field f) (go r h)
  where
    go : (r : Option (Bor (List ℕ))) → MatchOption r (o ≡ None) (λ x. items_said o ≡ kinds_field x.now) → MatchOption r (items_said o ≡ none) (λ x. items_said o ≡ kinds_field x.now)
    go None e = rw e
    go (Some x) e = e

-- ---- a line

module _ (l : List ℕ) where
  -- the two fields
  pub read_two : Read Device
  read_two = with_some (natural_field max_rows_field (get_or (fields l) 0 [])) (λ rows. with_some (kinds_field (get_or (fields l) 1 [])) (λ kinds. some (record { rows = rows; kinds = kinds })))

  line_two : device_line l ≡ cond (leb (length l) max_line && eqb (length (fields l)) 2) read_two none
  unfolding device_line read_two
  line_two = refl

  pub device_long : max_line < length l → device_line l ≡ none
  unfolding device_line
  device_long h = rw (lt-leb (length l) max_line h)

  lost : read_two ≡ none → device_line l ≡ none
  lost e = line_two ∙ rw e (cond_none (leb (length l) max_line && eqb (length (fields l)) 2))

  pub rows_lost : natural_field max_rows_field (get_or (fields l) 0 []) ≡ none → device_line l ≡ none
  unfolding read_two
  rows_lost e = lost (rw e)

  pub kinds_lost : kinds_field (get_or (fields l) 1 []) ≡ none → device_line l ≡ none
  unfolding read_two
  kinds_lost e = lost (rw e (with_none (natural_field max_rows_field (get_or (fields l) 0 []))))

  pub two_done : (rows : ℕ) (kinds : ArrayVec ℕ) {r : Option (Bor (List ℕ))} (b : Bool) → Taken (fields l) 2 r → is_some r ≡ not b → length l ≤ max_line
      → natural_field max_rows_field (get_or (fields l) 0 []) ≡ some rows → kinds_field (get_or (fields l) 1 []) ≡ some kinds.items
      → device_said (then_some b (record { rows = rows; kinds = kinds })) ≡ device_line l
  unfolding read_two kinds_field
  two_done rows kinds {r} b t s short a e = rw (line_two, le-leb (length l) max_line short, a, e) (go r b t.here s)
    where
      there : 1 < length (fields l)
      there = go (lt_or_ge 1 (length (fields l)))
        where
          go : (1 < length (fields l)) ⊎ (length (fields l) ≤ 1) → 1 < length (fields l)
          go (inl h) = h
          go (inr h) = let n = get_or_past (fields l) 1 [] h in let none : kinds_field [] ≡ some kinds.items = rw n at e in let z : ◌≡◌ {A = ℕ} 0 1 = cc in absurd (omega arith)

      go : (r : Option (Bor (List ℕ))) (b : Bool) → MatchOption r (length (fields l) ≤ 2) (λ x. (2 < length (fields l)) × (get_or (fields l) 2 [] ≡ x.now)) → is_some r ≡ not b
          → device_said (then_some b (record { rows = rows; kinds = kinds })) ≡ cond (eqb (length (fields l)) 2) (some (record { rows = rows; kinds = kinds.items })) none
      go None true h q = let n = there in rw (eq-eqb (length (fields l)) 2 (omega arith))
      go None false h q = cc
      go (Some x) true h q = cc
      go (Some x) false h q = rw (ne_eqb (length (fields l)) 2 (λ n. omega (arith, h.0)))

-- what is said, and so the number
pub with_number : (r : Option DeviceLine) {o : Read Device} → device_said r ≡ o → Reads o r
with_number (Some d) e = record { device_is = e; answer_is = rw (← e) }
with_number None e = record { device_is = e; answer_is = rw (← e) }

-- MODEL 17.6 to 17.9: a sheet line by its six fields, each as it is read. Assumes nothing.
use Rattle.std.specs.Prelude.{ℕ, suc, ◌+◌, ◌^◌, ◌≤◌, ◌<◌, ◌≡◌, ◌⊎◌, refl, Bool, not, true, false, cond, List, [], ◌∷◌, length, get_or, eqb, ℤ, pos, negsuc, Option, Some, None, Result, MatchOption, is_some}
use Rattle.std.specs.Bool.{then_some}
use Rattle.runs.specs.Laws.Tests.{lt_or_ge}
use Rattle.line.specs.declared.call.Fields.{Fields}
use Rattle.std.proofs.Common.{sym, ap, ◌∙◌, inl, inr, arith, SFits, of_z, eq-eqb, ne_eqb, le-leb}
use Rattle.std.proofs.lemmas.Bool.{lt-leb}
use Rattle.std.proofs.lemmas.List.{get_or_past}
use Rattle.std.proofs.Math.Bool.{and-false}
use Rattle.std.proofs.Math.Option.{Option as Read, none, some}
use Rattle.std.specs.Int.{Width}
use denote.Ref.{Bor}
use Rattle.signed.proofs.Signed.{zero_bits}
use Rattle.model.specs.Limits.{max_line, max_task_field, max_column_field}
use Rattle.model.specs.Sheet.{SheetCall, with_some, provided, fields, is, nought, number, natural_field, height_field, kind_field, call_of, six, sheet_line}
use Rattle.line.specs.Fields.{one_byte, number_said, Narrowed}
use Rattle.line.specs.Calls.{call_said, said, Says, say, read_said, six_fields}
use Rattle.line.specs.Laws.Fields.{Taken}
use Rattle.line.specs.Laws.Numbers.{read, Unsigned, Signed16, natural_read, height_read}
use Rattle.line.specs.declared.call.Call.{Call}

-- `z == 0` in the code
pub nought_bits : {w : Width} (z : ℤ) → SFits w z → eqb (of_z w z) 0 ≡ nought z
nought_bits (pos n) f = refl
nought_bits (negsuc n) f = zero_bits (negsuc n) f ∙ ne_eqb (suc n) 0 (λ e. omega arith)

-- ---- one field, as it is read

module _ {fs : List (List ℕ)} {k : ℕ} {r : Option (Bor (List ℕ))} (t : Taken fs k r) where
  -- what is read of the next field is read of field k; where there is none, that is empty
  pub read_here : (P : List ℕ → Type 0) → MatchOption r (P []) (λ x. P x.now) → P (get_or fs k [])
  read_here P = go r t.here
    where
      go : (r : Option (Bor (List ℕ))) → MatchOption r (length fs ≤ k) (λ x. (k < length fs) × (get_or fs k [] ≡ x.now)) → MatchOption r (P []) (λ x. P x.now) → P (get_or fs k [])
      go None h p = rw (get_or_past fs k [] h) p
      go (Some x) h p = rw h.1 p

  pub byte_here : {b : Option ℕ} → MatchOption r (b ≡ None) (λ x. b ≡ one_byte x.now) → b ≡ one_byte (get_or fs k [])
  byte_here {b} h = read_here (λ f. b ≡ one_byte f) h

  number_here : {T E : Type 0} (gives : ℤ → Result T E → Type 0) (n : Option T) → MatchOption r (n ≡ None) (λ x. Narrowed gives (number_said x.now) n) → Narrowed gives (number_said (get_or fs k [])) n
  unfolding number_said number
  number_here gives n h = read_here (λ f. Narrowed gives (number_said f) n) h

  pub natural_here : (k' most : ℕ) → 2 ^ k' ≡ most + 1 → most < 2147483648 → (E : Type 0) (n : Option ℕ) → MatchOption r (n ≡ None) (λ x. Narrowed (Unsigned {E = E} k') (number_said x.now) n)
      → read n ≡ natural_field most (get_or fs k [])
  natural_here k' most limit fits E n h = natural_read k' most limit fits (get_or fs k []) E n (number_here (Unsigned k') n h)

  pub height_here : (E : Type 0) (z : Option ℤ) → MatchOption r (z ≡ None) (λ x. Narrowed (Signed16 {E = E}) (number_said x.now) z) → read z ≡ height_field (get_or fs k [])
  height_here E z h = height_read (get_or fs k []) E z (number_here Signed16 z h)

-- ---- six fields

pub with_none : {A B : Type 0} (o : Read A) → with_some {B = B} o (λ a. none) ≡ none
with_none none = refl
with_none (some a) = refl

pub cond_none : {A : Type 0} (b : Bool) → cond {A = Read A} b none none ≡ none
cond_none true = refl
cond_none false = refl

not_one : (f : List ℕ) → one_byte f ≡ None → eqb (length f) 1 ≡ false
not_one [] e = refl
not_one (x ∷ []) e = cc
not_one (x ∷ y ∷ l) e = ne_eqb (suc (suc (length l))) 1 (λ e. omega arith)

one_is : (f : List ℕ) {b : ℕ} → one_byte f ≡ Some b → f ≡ b ∷ []
one_is [] e = cc
one_is (x ∷ []) e = let q : x ≡ _ = cc in ap (λ y. y ∷ []) q
one_is (x ∷ y ∷ l) e = cc

module _ (fs : List (List ℕ)) where
  -- a field at fault, whatever the others say
  pub letter_lost : one_byte (get_or fs 0 []) ≡ None → six fs ≡ none
  unfolding six call_of is
  letter_lost e = simp (not_one (get_or fs 0 []) e, with_none)

  pub task_lost : natural_field max_task_field (get_or fs 1 []) ≡ none → six fs ≡ none
  unfolding six
  task_lost e = simp (e, with_none)

  pub column_lost : natural_field max_column_field (get_or fs 2 []) ≡ none → six fs ≡ none
  unfolding six
  column_lost e = simp (e, with_none)

  pub kind_lost : one_byte (get_or fs 3 []) ≡ None → six fs ≡ none
  unfolding six call_of is kind_field
  kind_lost e = simp (not_one (get_or fs 3 []) e, and-false, cond_none, with_none)

  pub bottom_lost : height_field (get_or fs 4 []) ≡ none → six fs ≡ none
  unfolding six
  bottom_lost e = simp (e, with_none)

  pub top_lost : height_field (get_or fs 5 []) ≡ none → six fs ≡ none
  unfolding six
  top_lost e = simp (e, with_none)

  pub six_is : {letter task column kind : ℕ} {bottom top : ℤ} → one_byte (get_or fs 0 []) ≡ Some letter → natural_field max_task_field (get_or fs 1 []) ≡ some task
      → natural_field max_column_field (get_or fs 2 []) ≡ some column → one_byte (get_or fs 3 []) ≡ Some kind → height_field (get_or fs 4 []) ≡ some bottom → height_field (get_or fs 5 []) ≡ some top
      → six fs ≡ call_of (letter ∷ []) task column (kind ∷ []) bottom top
  unfolding six
  six_is a b c d e f = rw (one_is _ a, b, c, one_is _ d, e, f)

-- an empty field is no number
pub there : (fs : List (List ℕ)) (k : ℕ) {z : ℤ} → height_field (get_or fs k []) ≡ some z → k < length fs
unfolding height_field number
there fs k e = go (lt_or_ge k (length fs))
  where
    go : (k < length fs) ⊎ (length fs ≤ k) → k < length fs
    go (inl h) = h
    go (inr h) = let n = get_or_past fs k [] h in let z : ◌≡◌ {A = ℕ} 0 1 = cc in absurd (omega arith)

-- ---- a line

module _ (l : List ℕ) where
  -- a field at fault, or a number of fields that is not six
  pub lost : six (fields l) ≡ none → six_fields l ≡ none
  unfolding six_fields
  lost e = rw e (cond_none (eqb (length (fields l)) 6))

  not_six : (length (fields l) ≡ 6 → ⊥) → six_fields l ≡ none
  unfolding six_fields
  not_six h = rw (ne_eqb (length (fields l)) 6 h)

  are_six : length (fields l) ≡ 6 → six_fields l ≡ six (fields l)
  unfolding six_fields
  are_six h = rw (eq-eqb (length (fields l)) 6 h)

  -- six fields that were read, and whether a seventh follows
  pub six_done : (f : Fields) {r : Option (Bor (List ℕ))} (b : Bool) → Taken (fields l) 6 r → is_some r ≡ not b → 5 < length (fields l) → six (fields l) ≡ say f → read_said (then_some b f) ≡ six_fields l
  six_done f {r} b t = go r b t.here
    where
      go : (r : Option (Bor (List ℕ))) (b : Bool) → MatchOption r (length (fields l) ≤ 6) (λ x. (6 < length (fields l)) × (get_or (fields l) 6 [] ≡ x.now)) → is_some r ≡ not b → 5 < length (fields l)
          → six (fields l) ≡ say f → read_said (then_some b f) ≡ six_fields l
      go None true h s g e = sym e ∙ sym (are_six (omega arith))
      go None false h s g e = cc
      go (Some x) true h s g e = cc
      go (Some x) false h s g e = sym (not_six (λ q. omega (arith, h.0)))

  pub line_long : max_line < length l → sheet_line l ≡ none
  unfolding sheet_line
  line_long h = rw (lt-leb (length l) max_line h)

  pub line_short : length l ≤ max_line → sheet_line l ≡ six_fields l
  unfolding sheet_line six_fields
  line_short h = rw (le-leb (length l) max_line h)

-- a call whose unused fields are unused
pub said_provided : (b : Bool) (call : Call) → said (then_some b call) ≡ provided b (call_said call)
said_provided true call = refl
said_provided false call = refl

-- what is said, and so the number
pub with_number : (r : Option Call) {o : Read SheetCall} → said r ≡ o → Says r o
with_number (Some call) e = record { call_is = e; answer_is = rw (← e) }
with_number None e = record { call_is = e; answer_is = rw (← e) }

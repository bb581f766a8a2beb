-- MODEL 17: how a line of a sheet is read; and how a line of output is printed (MODEL 18.3). A line that is read as nothing is malformed.
-- Assumes nothing.
use Rattle.std.specs.Prelude.{ℕ, zero, suc, ◌+◌, ◌-◌, ◌*◌, ◌/◌, ◌%◌, Bool, true, false, not, cond, ◌&&◌, ◌||◌, List, [], ◌∷◌, ◌++◌, leb, ltb, eqb, ℤ, pos, negsuc, neg_ℤ, length, get_or}
use Prim.Native.Char.{code}
use Prim.Native.String.{String, [] as end, ◌∷◌ as ◌then◌}
use Rattle.std.proofs.Math.Option.{Option, none, some}
use Rattle.std.specs.Int.Signed.{le_z}
use Rattle.model.specs.Limits.{max_line, max_task_field, max_rows_field, max_column_field, max_height_field}
use Rattle.model.specs.Bounded.{all_in}
use Rattle.model.specs.Columns.{Device, kind_C, kind_B, kind_D}

-- go on with what was read, if anything was
abbrev pub with_some : {A B : Type 0} → Option A → (A → Option B) → Option B
with_some none go = none
with_some (some a) go = go a

-- x, if the test passes
abbrev pub provided : {A : Type 0} → Bool → A → Option A
provided true x = some x
provided false x = none

-- the bytes of a text
abbrev pub text : String → List ℕ
text end = []
text (◌then◌ c s) = code c ∷ text s

-- ---- fields

-- the byte x in front of the first field
abbrev pub grown : ℕ → List (List ℕ) → List (List ℕ)
grown x [] = (x ∷ []) ∷ []
grown x (f ∷ fs) = (x ∷ f) ∷ fs

-- MODEL 17.3 and 17.4: what stands between the spaces
unfoldable pub fields : List ℕ → List (List ℕ)
fields [] = [] ∷ []
fields (x ∷ l) = let rest = fields l in cond (eqb x (code " ")) ([] ∷ rest) (grown x rest)

-- the field is the one byte x
unfoldable pub is : ℕ → List ℕ → Bool
is x f = eqb (length f) 1 && eqb (get_or f 0 0) x

-- ---- numbers, MODEL 17.5

-- a decimal digit
unfoldable pub digit : ℕ → Bool
digit x = leb (code "0") x && leb x (code "9")

-- the number that the digits add to v
unfoldable pub decimal : ℕ → List ℕ → ℕ
decimal v [] = v
decimal v (x ∷ l) = decimal (10 * v + (x - code "0")) l

-- MODEL 17.5: one or more digits, of which the first is no 0 unless it stands alone
unfoldable pub natural : List ℕ → Option ℕ
natural [] = none
natural (x ∷ l) = provided (all_in digit (x ∷ l) && (not (eqb x (code "0")) || eqb (length l) 0)) (decimal 0 (x ∷ l))

-- MODEL 17.5: with a minus sign, where there is no "-0"
abbrev pub negated : Option ℕ → Option ℤ
negated none = none
negated (some zero) = none
negated (some (suc n)) = some (negsuc n)

-- MODEL 17.5: with no sign, or with a minus sign
unfoldable pub number : List ℕ → Option ℤ
number [] = none
number (x ∷ l) = let plain = with_some (natural (x ∷ l)) (λ n. some (pos n)) in cond (eqb x (code "-")) (negated (natural l)) plain

-- MODEL 17.7: a field that is a number from 0 to `most`
unfoldable pub natural_field : ℕ → List ℕ → Option ℕ
natural_field most f = with_some (natural f) (λ n. provided (leb n most) n)

-- MODEL 17.7: a bottom or a top
unfoldable pub height_field : List ℕ → Option ℤ
height_field f = with_some (number f) (λ z. provided (le_z (negsuc max_height_field) z && le_z z (pos max_height_field)) z)

-- ---- the six calls

-- MODEL 17.8: a call of a sheet, with the fields that it uses
pub data SheetCall : Type 0 where
  add_block : (column kind : ℕ) (bottom top : ℤ) → SheetCall  -- B
  empty_draft : SheetCall  -- N
  list_draft : SheetCall  -- L
  choose_draft : SheetCall  -- C
  place_draft : (task column : ℕ) (bottom : ℤ) → SheetCall  -- P
  release_task : (task : ℕ) → SheetCall  -- R

-- MODEL 17.7: the number of the kind that a letter says
unfoldable pub kind_letter : ℕ → Option ℕ
kind_letter x = cond (eqb x (code "C")) (some kind_C) (cond (eqb x (code "B")) (some kind_B) (cond (eqb x (code "D")) (some kind_D) none))

-- MODEL 17.7: a field that is one such letter
unfoldable pub kind_field : List ℕ → Option ℕ
kind_field f = cond (eqb (length f) 1) (kind_letter (get_or f 0 0)) none

-- MODEL 17.8: a number that a call does not use is 0
abbrev pub nought : ℤ → Bool
nought (pos n) = eqb n 0
nought (negsuc n) = false

-- MODEL 17.8: the call that six fields say, their numbers being read: by its letter, if the fields that it does not use are 0 or "-"
unfoldable pub call_of : List ℕ → ℕ → ℕ → List ℕ → ℤ → ℤ → Option SheetCall
call_of letter task column kind bottom top =
    let none_used = eqb task 0 && eqb column 0 && is (code "-") kind && nought bottom && nought top in
    cond (is (code "B") letter) (with_some (kind_field kind) (λ k. provided (eqb task 0) (add_block column k bottom top)))
    (cond (is (code "N") letter) (provided none_used empty_draft)
    (cond (is (code "L") letter) (provided none_used list_draft)
    (cond (is (code "C") letter) (provided none_used choose_draft)
    (cond (is (code "P") letter) (provided (is (code "-") kind && nought top) (place_draft task column bottom))
    (cond (is (code "R") letter) (provided (eqb column 0 && is (code "-") kind && nought bottom && nought top) (release_task task))
    none)))))

-- MODEL 17.6 and 17.7: six fields, in the order that line 3 names
unfoldable pub six : List (List ℕ) → Option SheetCall
six fs =
    with_some (natural_field max_task_field (get_or fs 1 [])) (λ task.
    with_some (natural_field max_column_field (get_or fs 2 [])) (λ column.
    with_some (height_field (get_or fs 4 [])) (λ bottom.
    with_some (height_field (get_or fs 5 [])) (λ top.
    call_of (get_or fs 0 []) task column (get_or fs 3 []) bottom top))))

-- MODEL 17.2, 17.6 and 17.9: a line from line 4 on, without its newline
unfoldable pub sheet_line : List ℕ → Option SheetCall
sheet_line l = let read = six (fields l) in cond (leb (length l) max_line && eqb (length (fields l)) 6) read none

-- ---- the first three lines

-- MODEL 17.6: line 1, and line 3
abbrev pub first_names : List ℕ
first_names = text "rows kinds"

abbrev pub second_names : List ℕ
second_names = text "call task column kind bottom top"

-- the kinds of some letters
unfoldable pub kind_letters : List ℕ → Option (List ℕ)
kind_letters [] = some []
kind_letters (x ∷ l) = with_some (kind_letter x) (λ k. with_some (kind_letters l) (λ ks. some (k ∷ ks)))

-- MODEL 17.7: one letter or more
unfoldable pub kinds_field : List ℕ → Option (List ℕ)
kinds_field [] = none
kinds_field (x ∷ l) = kind_letters (x ∷ l)

-- MODEL 17.6, 17.7 and 17.9: line 2, as what new is called with (MODEL 18.6)
unfoldable pub device_line : List ℕ → Option Device
device_line l =
    let read : Option Device = with_some (natural_field max_rows_field (get_or (fields l) 0 [])) (λ rows. with_some (kinds_field (get_or (fields l) 1 [])) (λ kinds.
    some (record { rows = rows; kinds = kinds }))) in
    cond (leb (length l) max_line && eqb (length (fields l)) 2) read none

-- ---- the line reader's answer

-- MODEL 17.9: 0 where a line is read, be it as a call or as a device, and −12 where it is malformed
abbrev pub line_answer : {A : Type 0} → Option A → ℤ
line_answer none = neg_ℤ (pos 12)
line_answer (some a) = pos 0

-- ---- printing

-- the decimal digits of n, without leading zero, for n below 10 to the power of `more` + 1
unfoldable pub digits : ℕ → ℕ → List ℕ
digits zero n = (code "0" + n) ∷ []
digits (suc more) n = let front = digits more (n / 10) in cond (ltb n 10) ((code "0" + n) ∷ []) (front ++ ((code "0" + n % 10) ∷ []))

-- MODEL 17.5: a number as it is printed; ten digits are enough for every answer
unfoldable pub shown : ℤ → List ℕ
shown (pos n) = digits 9 n
shown (negsuc n) = code "-" ∷ digits 9 (suc n)

-- MODEL 18.1: the names that are printed first
abbrev pub output_names : List ℕ
output_names = text "line answer column first step last"

-- MODEL 18.3 and 18.4: a line that is printed, with its newline
unfoldable pub output_line : ℕ → ℤ → ℕ → ℕ → ℕ → ℕ → List ℕ
output_line line answer column first step last =
    shown (pos line) ++ text " " ++ shown answer ++ text " " ++ shown (pos column) ++ text " " ++ shown (pos first) ++ text " " ++ shown (pos step)
    ++ text " " ++ shown (pos last) ++ text "\n"

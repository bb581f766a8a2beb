-- MODEL 17 and 21.6: what a line that was read says, in terms of the model's calls. Assumes nothing.
use Rattle.std.specs.Prelude.{ℕ, ◌≡◌, Bool, ◌&&◌, cond, List, [], ◌∷◌, eqb, length, ℤ, pos, neg_ℤ, Option, Some, None}
use Prim.Native.Char.{code}
use Rattle.std.proofs.Math.Option.{Option as Read, none, some}
use Rattle.model.specs.Kinds.{number_of}
use Rattle.model.specs.Sheet.{SheetCall, add_block, empty_draft, list_draft, choose_draft, place_draft, release_task, fields, is, nought, with_some, provided, kind_letter, call_of, six, line_answer}
use Rattle.line.specs.declared.call.Call.{Call}
use Rattle.line.specs.declared.call.Call.TheVariants.{Block, Empty, List as ListCall, Choose, Place, Release}
use Rattle.line.specs.declared.call.Fields.{Fields}

-- MODEL 17.8: a call of the code, as the model has it
abbrev pub call_said : Call → SheetCall
call_said (Block b) = add_block b.column (number_of b.kind) b.bottom b.top
call_said Empty = empty_draft
call_said ListCall = list_draft
call_said Choose = choose_draft
call_said (Place task column bottom) = place_draft task column bottom
call_said (Release task) = release_task task

-- MODEL 17.9: what a line says; a malformed one says nothing
abbrev pub said : Option Call → Read SheetCall
said (Some call) = some (call_said call)
said None = none

-- MODEL 17.9 and 21.6: the number of each case
abbrev pub answer_of : Option Call → ℤ
answer_of (Some call) = pos 0
answer_of None = neg_ℤ (pos 12)

-- r is the answer for a line that the model reads as o: it says that call, and its number is the line reader's
pub record Says (r : Option Call) (o : Read SheetCall) : Type 0 where
  pub call_is : said r ≡ o
  pub answer_is : answer_of r ≡ line_answer o

-- MODEL 17.6 and 17.7: a line by its fields, if they are six
unfoldable pub six_fields : List ℕ → Read SheetCall
six_fields l = let read = six (fields l) in cond (eqb (length (fields l)) 6) read none

-- MODEL 17.8: what six fields say that were read
abbrev pub say : Fields → Read SheetCall
say f = call_of (f.letter ∷ []) f.task f.column (f.kind ∷ []) f.bottom f.top

abbrev pub read_said : Option Fields → Read SheetCall
read_said None = none
read_said (Some f) = say f

-- MODEL 17.8: a block call by its fields; its kind is a letter, and its task is unused
unfoldable pub block_said : Fields → Read SheetCall
block_said f = with_some (kind_letter f.kind) (λ k. provided (eqb f.task 0) (add_block f.column k f.bottom f.top))

-- MODEL 17.8: the fields that calls do not use: kind and top; all but the task; all
abbrev pub kind_unused : Fields → Bool
kind_unused f = is (code "-") (f.kind ∷ []) && nought f.top

abbrev pub only_task : Fields → Bool
only_task f = eqb f.column 0 && is (code "-") (f.kind ∷ []) && nought f.bottom && nought f.top

abbrev pub none_used : Fields → Bool
none_used f = eqb f.task 0 && eqb f.column 0 && is (code "-") (f.kind ∷ []) && nought f.bottom && nought f.top

-- What a line leaves, by the call that it makes. Assumes nothing.
use Rattle.std.specs.Prelude.{ℕ, ◌+◌, ◌/◌, ◌%◌, ◌≤◌, ◌<◌, ◌≡◌, refl, Some, None, List, [], ◌++◌, ℤ, pos, negsuc, neg_ℤ, replicate, length}
use Rattle.std.proofs.Common.{ap, ◌∙◌, arith, lt-ltb, le-ltb}
use Rattle.model.specs.Limits.{block_size, max_blocks, list_room}
use Rattle.model.specs.Tasks.{blocks}
use Rattle.model.specs.Record.{device_of, book_of}
use Rattle.model.specs.Calls.{Call, list, Outcome, on_book}
use Rattle.model.specs.OnRecord.{written, on_record}
use Rattle.model.specs.Sheet.{empty_draft, list_draft, sheet_line}
use Rattle.model.specs.Program.{says, answered, listed, on_call, on_line}
use Rattle.card.specs.Leaves.{Changes}
use Rattle.line.specs.Block.{call_bytes}
use Rattle.line.specs.Calls.{call_said, Says}
use Rattle.line.specs.declared.call.BlockCall.{BlockCall}
use Rattle.line.specs.declared.call.Call.{Call as LineCall}
use Rattle.line.specs.declared.call.Call.TheVariants.{Block}
use Rattle.desk.specs.Desk.{draft_room, desk_of, Card, Leaves}
use Rattle.desk.specs.Laws.Card.{on_card, card_is}

module _ (r : List ℕ) (k : Card r) (number : ℕ) (draft : List ℕ) where
  -- a line that leaves the card and the draft
  leaves_same : {p out : List ℕ} → out ≡ p → Leaves (record { printed = p; desk = desk_of r draft }) r draft out
  leaves_same e = record { card_is = k.is; draft_is = refl; printed_is = e }

  -- a call that may change the card
  pub leaves_answered : (c : Call) (a : ℤ) {r' : List ℕ} → Changes (on_record r c) a r'
      → Leaves (answered number (desk_of r draft) (on_book (device_of r) (book_of r) c)) r' draft (says number a)
  unfolding written
  leaves_answered c a x = record {
    card_is = card_is r k c x.record_is;
    draft_is = refl;
    printed_is = ap (says number) (x.answer_is ∙ ap (λ (o : Outcome (List ℕ)). o.answer) (on_card r k c));
  }

  -- list leaves the card
  pub leaves_listed : {out : List ℕ} → out ≡ (on_call number (desk_of r draft) list_draft).printed → Leaves (on_call number (desk_of r draft) list_draft) r draft out
  unfolding on_call
  leaves_listed {out} e = go (on_book (device_of r) (book_of r) (list draft (replicate list_room 0))).answer e
    where
      go : (z : ℤ) → out ≡ (listed number (desk_of r draft) z).printed → Leaves (listed number (desk_of r draft) z) r draft out
      go (pos n) e = leaves_same e
      go (negsuc n) e = leaves_same e

  -- a malformed line
  pub leaves_malformed : (l : List ℕ) → Says None (sheet_line l) → Leaves (on_line number (desk_of r draft) l) r draft (says number (neg_ℤ (pos 12)))
  unfolding on_line
  leaves_malformed l q = rw (← q.call_is) (leaves_same refl)

  -- a line that says a call
  pub leaves_called : (l : List ℕ) {c : LineCall} {r' draft' out : List ℕ} → Says (Some c) (sheet_line l)
      → Leaves (on_call number (desk_of r draft) (call_said c)) r' draft' out → Leaves (on_line number (desk_of r draft) l) r' draft' out
  unfolding on_line
  leaves_called l q x = rw (← q.call_is) x

  -- the draft emptied
  pub leaves_emptied : Leaves (on_call number (desk_of r draft) empty_draft) r [] []
  unfolding on_call
  leaves_emptied = record { card_is = k.is; draft_is = refl; printed_is = refl }

  -- a block added, where there is room for it, and a 33rd block
  module _ (b : BlockCall) where
    pub leaves_added : length draft + block_size ≤ draft_room → Leaves (on_call number (desk_of r draft) (call_said (Block b))) r (draft ++ call_bytes b) []
    unfolding on_call blocks
    leaves_added h = let few = lt-ltb (length draft / block_size) max_blocks (omega arith) in rw few (record { card_is = k.is; draft_is = refl; printed_is = refl })

    pub leaves_full : length draft % block_size ≡ 0 → draft_room < length draft + block_size → Leaves (on_call number (desk_of r draft) (call_said (Block b))) r draft (says number (neg_ℤ (pos 4)))
    unfolding on_call blocks
    leaves_full w h = let many = le-ltb (length draft / block_size) max_blocks (omega arith) in rw many (leaves_same refl)

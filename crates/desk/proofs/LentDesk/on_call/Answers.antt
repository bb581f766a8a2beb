-- `LentDesk::on_call`: one law for each call. Assumes nothing.
use Rattle.std.proofs.Common.{◌≡◌, pos, w16, w32, refl, to_z-of_z, rules}
use Rattle.std.proofs.Math.Nat.{lt_of_not-le}
use Rattle.model.specs.Calls.{choose, place, release}
use Rattle.model.specs.Program.{on_call}
use Rattle.card.specs.Answers.{answer_by, position_of}
use Rattle.desk.specs.Buffer.{filled}
use Rattle.desk.specs.Laws.Buffer.{len_filled}
use Rattle.desk.specs.Laws.Lines.{leaves_added, leaves_full, leaves_emptied, leaves_listed, leaves_answered}
use Rattle.desk.proofs.LentDesk.on_call.Goals as goal

pub returns-in-Err-clause-leaves : goal.returns-in-Err-clause-leaves
returns-in-Err-clause-leaves c =
    let b = c.in-Block in
    let e = c.in-Err.ensures in
    let draft = c.args.self.now.draft in
    rw (b.is, c.say.ensures.printed, c.requires.empty, to_z-of_z {w = w32} (record { sfits = c.from.type_inv }), c.from.ensures, e.refused, e.kept) (leaves_full _ c.args.self.now.is_card _ _ b.block (rw (len_filled draft.bytes) draft.whole) (lt_of_not-le (λ h. absurd (cc (e.variant.1 h)))))

pub returns-in_default-clause-leaves : goal.returns-in_default-clause-leaves
returns-in_default-clause-leaves c =
    let b = c.in-Block in
    let e = c.in_default.ensures in
    rw (b.is, e.added, c.requires.empty) (leaves_added _ c.args.self.now.is_card _ _ b.block (e.variant.0 refl))

pub returns-in-Empty-clause-leaves : goal.returns-in-Empty-clause-leaves
returns-in-Empty-clause-leaves c = rw (c.in-Empty.is, c.clear.ensures.empty, c.requires.empty) (leaves_emptied _ c.args.self.now.is_card _ _)

pub returns-in-List-clause-leaves : goal.returns-in-List-clause-leaves
returns-in-List-clause-leaves c = rw c.in-List.is (leaves_listed _ c.args.self.now.is_card _ _ c.list.ensures.printed)

pub returns-in-Choose-clause-leaves : goal.returns-in-Choose-clause-leaves
unfolding on_call
returns-in-Choose-clause-leaves c =
    let number : c.answer.result ≡ answer_by position_of c.choose.result = search rules in
    rw (c.in-Choose.is, c.say-in-Choose.ensures.printed, c.requires.empty, to_z-of_z {w = w32} (record { sfits = c.answer.type_inv }), number)
    (leaves_answered _ c.args.self.now.is_card _ (filled c.args.self.now.draft.bytes) (choose _) _ c.choose.ensures)

pub returns-in-Place-clause-leaves : goal.returns-in-Place-clause-leaves
unfolding on_call
returns-in-Place-clause-leaves c =
    let x = c.place.ensures in
    let bottom = to_z-of_z {w = w16} {z = c.in-Place.bottom} (record { sfits = search rules }) in
    let number : c.answer-in-Place.result ≡ answer_by (λ _. pos 0) c.place.result = search rules in
    rw (c.in-Place.is, x.same_draft, c.say-in-Place.ensures.printed, c.requires.empty, to_z-of_z {w = w32} (record { sfits = c.answer-in-Place.type_inv }), number)
    (leaves_answered _ c.args.self.now.is_card _ (filled c.args.self.now.draft.bytes) (place _ _ _ _) _ (rw bottom at x.answers))

pub returns-in-Release-clause-leaves : goal.returns-in-Release-clause-leaves
unfolding on_call
returns-in-Release-clause-leaves c =
    let x = c.release.ensures in
    let number : c.answer-in-Release.result ≡ answer_by (λ _. pos 0) c.release.result = search rules in
    rw (c.in-Release.is, x.same_draft, c.say-in-Release.ensures.printed, c.requires.empty, to_z-of_z {w = w32} (record { sfits = c.answer-in-Release.type_inv }), number)
    (leaves_answered _ c.args.self.now.is_card _ (filled c.args.self.now.draft.bytes) (release _) _ x.answers)

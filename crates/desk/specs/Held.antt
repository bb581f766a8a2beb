-- A desk in what it is lent: the model's desk, and that it stays there. Assumes nothing.
use Rattle.std.specs.Prelude.{◌≡◌}
use Rattle.model.specs.Program.{Desk as ModelDesk}
use Rattle.desk.specs.declared.LentDesk.{LentDesk}
use Rattle.desk.specs.Desk.{desk_of}
use Rattle.desk.specs.Buffer.{filled}

-- the model's desk that it is
abbrev pub desk_in : LentDesk → ModelDesk
desk_in k = desk_of k.card.now (filled k.draft.bytes)

-- card and draft stay in the bytes that they were lent
abbrev pub SameHeld : LentDesk → LentDesk → Type 0
SameHeld k k' = (k'.card.ghost_name ≡ k.card.ghost_name) × (k'.draft.bytes.bytes.ghost_name ≡ k.draft.bytes.bytes.ghost_name)

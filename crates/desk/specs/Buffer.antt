-- Lent bytes that are filled from the first one on. Assumes nothing.
use Rattle.std.specs.Prelude.{ℕ, ◌≡◌, IsUtf8, List, length, take}
use Rattle.desk.specs.declared.buffer.Buffer.{Buffer}

-- what is filled
abbrev pub filled : Buffer → List ℕ
filled b = take b.len b.bytes.now

-- the bytes that it was lent, filled or not
abbrev pub room : Buffer → ℕ
room b = length b.bytes.now

-- what is filled is text
abbrev pub IsText : Buffer → Type 0
IsText b = IsUtf8 (filled b)

-- it stays in the bytes that it was lent
abbrev pub SameLent : Buffer → Buffer → Type 0
SameLent b b' = (b'.bytes.ghost_name ≡ b.bytes.ghost_name) × (room b' ≡ room b)

-- MODEL 18.10: the bytes of a block call. Assumes nothing.
use Rattle.std.specs.Prelude.{ℕ, List}
use Rattle.model.specs.Kinds.{number_of}
use Rattle.model.specs.Program.{block_bytes}
use Rattle.line.specs.declared.call.BlockCall.{BlockCall}

-- MODEL 4.2: the model's bytes of the block that a call has
abbrev pub call_bytes : BlockCall → List ℕ
call_bytes b = block_bytes b.column (number_of b.kind) b.bottom b.top

-- MODEL 18.1 and 18.3: what the clauses of printing cite. Assumes nothing.
use Rattle.std.specs.Prelude.{ℕ, List, ◌++◌}
use Rattle.model.specs.Sheet.{text, output_names}

-- the bytes that one line of output needs at most
abbrev pub line_room : ℕ
line_room = 80

-- MODEL 18.1: the names, with their newline
abbrev pub names_line : List ℕ
names_line = output_names ++ text "\n"

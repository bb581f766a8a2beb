-- MODEL 18: a run of the program, from its start through its turns to its end. Assumes nothing.
use Rattle.std.specs.Prelude.{ℕ, ◌+◌, ◌≡◌, Option, Some, None, List, [], ◌∷◌, ◌++◌}
use Rattle.model.specs.Program.{Desk, on_line, on_lines, lines, program}
use Rattle.desk.specs.declared.stand.Stand.{Stand}

-- what a turn finds and leaves: the desk, where the program stands, if a line is left, and what was printed
pub record State : Type 0 where
  pub desk : Desk
  pub stand : Option Stand
  pub printed : List ℕ

abbrev pub state : Desk → Option Stand → List ℕ → State
state k p out = record { desk = k; stand = p; printed = out }

-- the lines that are left
abbrev pub left_in : Option Stand → List (List ℕ)
left_in None = []
left_in (Some p) = p.line.now ∷ lines p.rest.now

-- what the model's program prints from there on
abbrev pub yet_from : Desk → Option Stand → List ℕ
yet_from k None = []
yet_from k (Some p) = on_lines p.number k (left_in (Some p))

abbrev pub yet : State → List ℕ
yet s = yet_from s.desk s.stand

-- the start: what it printed, and what is printed from there on, is the program's output
abbrev pub Starts : List ℕ → State → Type 0
Starts input s = s.printed ++ yet s ≡ program input

-- One turn of the model's program, on desk k at p: the first of the lines that were left is done, with its number and on the desk that it finds. It leaves
-- the lines after it, the next number, and the desk and the output that the model has after it.
pub record Turned (k : Desk) (p : Stand) (t : State) : Type 0 where
  pub left_is : lines p.rest.now ≡ left_in t.stand
  pub number_is : (q : Stand) → t.stand ≡ Some q → q.number ≡ p.number + 1
  pub desk_is : t.desk ≡ (on_line p.number k p.line.now).desk
  pub printed_is : t.printed ≡ (on_line p.number k p.line.now).printed

-- turns up to the end, each on what the one before it left
abbrev pub Turns : State → List State → Type 0
Turns s [] = s.stand ≡ None
Turns s (t ∷ ts) = (p : Stand) × (s.stand ≡ Some p) × Turned s.desk p t × Turns t ts

-- what they print, one after the other
abbrev pub printed_in : List State → List ℕ
printed_in [] = []
printed_in (s ∷ ts) = s.printed ++ printed_in ts

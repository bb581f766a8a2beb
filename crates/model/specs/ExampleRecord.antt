-- MODEL 8: the record on K3's card, before and after line 8 of the example (MODEL 18.14) places the task: all bytes that are not 0, each with its
-- offset, computed from the definitions. So the layout is seen in two tables of plain numbers. Assumes nothing.
use Rattle.std.specs.Prelude.{ℕ, suc, ◌≡◌, refl, cond, List, [], ◌∷◌, eqb, ℤ, pos, length}
use Rattle.runs.specs.Runs.{runs, push}
use Rattle.runs.specs.Intervals.{intervals as maximal_runs}
use Rattle.model.specs.Bounded.{all_below, any_below, join_below, any_in}
use Rattle.model.specs.Columns.{height, cells_in, top_in, columns, kind, top}
use Rattle.model.specs.Tasks.{word, lifted, blocks, block, sized, block_ok, follows, well_formed}
use Rattle.model.specs.Book.{placed, covers, covered, held, free, block_fits, fits, fits_at, intervals}
use Rattle.model.specs.Record.{bytes16, padded, slot, slots, head_bytes, interval_bytes, column_part, entry_bytes, layout, image, record_of}
use Rattle.model.specs.Sound.{number_ok}
use Rattle.model.specs.Calls.{Call, lent, refused, runs_in, refusals, insert, natural, done, unless, on_book}
use Rattle.model.specs.History.{trace, book_of_history}
use Rattle.model.specs.Program.{block_bytes}
use Rattle.model.specs.SmallCards.{K3, lines_4_6, line_8}

-- a byte and its offset
pub record Byte : Type 0 where
  pub offset : ℕ
  pub value : ℕ

abbrev byte : ℕ → ℕ → Byte
byte o v = record { offset = o; value = v }

-- the bytes of l that are not 0, where the first of l has the offset `at`
unfoldable pub non_zero : ℕ → List ℕ → List Byte
non_zero at [] = []
non_zero at (x ∷ l) = let rest = non_zero (suc at) l in cond (eqb x 0) rest (byte at x ∷ rest)

-- the answers of some calls on K3, the length of the record after them, and all its bytes that are not 0
pub record Seen : Type 0 where
  pub answers : List ℤ
  pub size : ℕ
  pub bytes : List Byte

unfoldable pub seen : List Call → Seen
seen cs =
    let t = book_of_history K3 cs in
    let r = record_of K3 t.final in
    record { answers = t.answers; size = length r; bytes = non_zero 0 r }

-- ---- the tables, MODEL 8.2 to 8.5

-- no task runs
pub before : List Byte
before =
    byte 0 5  -- rows
    ∷ byte 2 3  -- columns
    ∷ byte 6 1  -- column 2 has kind B
    ∷ byte 68 1  -- one interval in each column
    ∷ byte 69 1
    ∷ byte 70 1
    ∷ byte 134 10  -- column 0: 0–10
    ∷ byte 390 10  -- column 1: 0–10
    ∷ byte 646 10  -- column 2: 0–10
    ∷ []

-- the task of lines 4 to 6 runs under number 7, at column 0 and bottom 4
pub after : List Byte
after =
    byte 0 5
    ∷ byte 2 3
    ∷ byte 3 1  -- one task runs
    ∷ byte 6 1
    ∷ byte 68 2  -- two intervals in columns 0 and 1
    ∷ byte 69 2
    ∷ byte 70 1
    ∷ byte 134 4  -- column 0: 0–4
    ∷ byte 136 6  -- 6–10
    ∷ byte 138 10
    ∷ byte 390 2  -- column 1: 0–2
    ∷ byte 392 6  -- 6–10
    ∷ byte 394 10
    ∷ byte 646 5  -- column 2: 0–5
    ∷ byte 16516 7  -- entry 0: task number
    ∷ byte 16519 3  -- block count; the column is 0
    ∷ byte 16520 4  -- bottom
    ∷ byte 16526 2  -- block 0: C 0–2
    ∷ byte 16528 1  -- block 1, in column 1: C −2–2
    ∷ byte 16530 254
    ∷ byte 16531 255
    ∷ byte 16532 2
    ∷ byte 16534 2  -- block 2, in column 2: B 1–6
    ∷ byte 16535 1
    ∷ byte 16536 1
    ∷ byte 16538 6
    ∷ []

-- THEOREM: of the 29,188 bytes these are as the tables say, and all others are 0; line 8's call answers 0
pub example_record : (seen [] ≡ record { answers = []; size = 29188; bytes = before })
    × (seen line_8 ≡ record { answers = pos 0 ∷ []; size = 29188; bytes = after })
unfolding K3 lines_4_6 line_8 before after non_zero seen block_bytes
    all_below any_below join_below any_in
    runs push maximal_runs
    height cells_in top_in columns kind top
    word lifted blocks block sized block_ok follows well_formed
    placed covers covered held free block_fits fits fits_at intervals
    bytes16 padded slot slots head_bytes interval_bytes column_part entry_bytes layout image record_of
    number_ok lent refused runs_in refusals insert natural done unless on_book
    trace book_of_history
example_record = (refl, refl)

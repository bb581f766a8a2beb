-- MODEL 19: the small cards K1 to K18, one table with one theorem about it (MODEL 21.3), computed from the definitions. Assumes nothing.
use Rattle.std.specs.Prelude.{ℕ, ◌-◌, ◌≡◌, refl, List, [], ◌∷◌, ◌++◌, map, ℤ, pos, negsuc, neg_ℤ, replicate}
use Rattle.runs.specs.Runs.{runs, push}
use Rattle.runs.specs.Intervals.{intervals as maximal_runs}
use Rattle.sets.specs.Graph.{touches, met, unmet, classes, set_count}
use Rattle.model.specs.Limits.{list_room}
use Rattle.model.specs.Bounded.{all_below, any_below, sum_below, join_below, those_below, all_in, any_in, sum_in, join_in}
use Rattle.model.specs.Columns.{Device, half_rows, height, cells_in, top_in, columns, kind, cells, top}
use Rattle.model.specs.Tasks.{word, lifted, blocks, block, sized, block_ok, follows, well_formed, step}
use Rattle.model.specs.Book.{Book, placed, covers, covered, held, free, block_fits, fits, fits_at, intervals, holds_cell, cell_free}
use Rattle.model.specs.Listing.{ranges}
use Rattle.model.specs.Choice.{lies, holds_block, span, stretch, left_in, remaining, pieces, Judge, judge, Found, nothing, at, better, see, climb, choice, chosen}
use Rattle.model.specs.Fragments.{neighbours, across, touch, free_cells, connected_sets, degree}
use Rattle.model.specs.Record.{bytes16}
use Rattle.model.specs.Sound.{number_ok}
use Rattle.model.specs.Calls.{Call, list, choose, place, release, lent, refused, no_position, runs_in, refusals, insert, without, natural, range_bytes, over, position_number, done, unless, on_book}
use Rattle.model.specs.OnRecord.{measured}
use Rattle.model.specs.History.{trace, book_of_history}
use Rattle.model.specs.Program.{block_bytes}
use Rattle.model.specs.Homes.{bit, holder, home}

-- ---- how the rows are written

-- blocks of kind C and of kind B, from a bottom that is not negative
abbrev C_block : ℕ → ℕ → ℕ → List ℕ
C_block c bottom top = block_bytes c 0 (pos bottom) (pos top)

abbrev B_block : ℕ → ℕ → ℕ → List ℕ
B_block c bottom top = block_bytes c 1 (pos bottom) (pos top)

-- a device
abbrev card : ℕ → List ℕ → Device
card rows kinds = record { rows = rows; kinds = kinds }

-- the ranges of task t after some calls: column, first, step, last of each, as the sheet prints them
unfoldable listed : Device → List Call → List ℕ → List ℕ
listed d cs t = join_in (λ r. r.column ∷ r.first ∷ r.step ∷ r.last ∷ []) (ranges d (book_of_history d cs).final t)

-- the answers of some calls
unfoldable answers : Device → List Call → List ℤ
answers d cs = (book_of_history d cs).answers

-- the free intervals of column 0 after some calls: bottom and top of each
unfoldable left : Device → List Call → List ℕ
left d cs = join_in (λ i. i.bottom ∷ i.top ∷ []) (intervals d (book_of_history d cs).final 0)

-- n and s of task t at column p, bottom y after some calls
unfoldable score : Device → List Call → List ℕ → ℕ → ℕ → List ℕ
score d cs t p y =
    let J = judge d (book_of_history d cs).final t in
    J.n p y ∷ J.s p y ∷ []

-- the judge with an interval's height counted for each block in it, which is not how s is counted
unfoldable each_block : Device → Book → List ℕ → Judge
each_block d b t = record {
  fit = fits d b t;
  n = (judge d b t).n;
  s = λ p y. sum_below (blocks t) (λ k. (home (placed t p y) (intervals d b) k).top - (home (placed t p y) (intervals d b) k).bottom);
}

-- column and bottom of a position
unfoldable spot : Found → List ℕ
spot nothing = []
spot (at p y) = p ∷ y ∷ []

-- what that judge has for s at column 0, bottom y, and what it would choose, after some calls
unfoldable s_by_each_block : Device → List Call → List ℕ → ℕ → ℕ
s_by_each_block d cs t y = (each_block d (book_of_history d cs).final t).s 0 y

unfoldable by_each_block : Device → List Call → List ℕ → List ℕ
by_each_block d cs t = spot (choice (each_block d (book_of_history d cs).final t) (half_rows d) (columns d))

-- connected sets, free cells and degree after some calls
unfoldable three : Device → List Call → List ℤ
three d cs =
    let m = measured d (book_of_history d cs).final [] in
    m.answer ∷ m.free ∷ m.degree ∷ []

-- a row: which card, what the definitions give, and what MODEL 19 states
pub record Row : Type 0 where
  pub card : ℕ
  pub found : List ℤ
  pub stated : List ℤ

abbrev row : ℕ → List ℤ → List ℤ → Row
row k f s = record { card = k; found = f; stated = s }

abbrev numbers : List ℕ → List ℤ
numbers = map pos

-- an output of the least length that list takes
abbrev room : List ℕ
room = replicate list_room 0

-- ---- the cards and tasks of MODEL 19.1

K1 : Device
K1 = card 2 (1 ∷ [])

K2 : Device
K2 = card 3 (1 ∷ [])

unfoldable pub K3 : Device
K3 = card 5 (0 ∷ 0 ∷ 1 ∷ [])

K4 : Device
K4 = card 5 (1 ∷ 0 ∷ [])

K5 : Device
K5 = card 10 (0 ∷ 1 ∷ [])

K6 : Device
K6 = card 1 (0 ∷ [])

K7 : Device
K7 = card 5 (0 ∷ [])

-- C 0–2, C 0–4 and B 0–5, each alone
C_2 : List ℕ
C_2 = C_block 0 0 2

C_4 : List ℕ
C_4 = C_block 0 0 4

B_5 : List ℕ
B_5 = B_block 0 0 5

-- MODEL 18.14: the draft of lines 4 to 6
unfoldable pub lines_4_6 : List ℕ
lines_4_6 = C_block 0 0 2 ++ block_bytes 1 0 (negsuc 1) (pos 2) ++ B_block 2 1 6

-- MODEL 18.14: the same placed by line 8
unfoldable pub line_8 : List Call
line_8 = place lines_4_6 7 0 (pos 4) ∷ []

K4_task : List ℕ
K4_task = B_block 0 0 5 ++ C_block 1 1 3

K5_task : List ℕ
K5_task = C_block 0 0 2 ++ B_block 1 0 5

-- 2–4 of column 0 is held, as on K5 and K18; 2–4 and 4–6 are, by two tasks, as on K7
held_2_4 : List Call
held_2_4 = place C_2 1 0 (pos 2) ∷ []

held_2_6 : List Call
held_2_6 = held_2_4 ++ (place C_2 2 0 (pos 4) ∷ [])

-- blocks that touch, and blocks apart
K8_touching : List ℕ
K8_touching = C_block 0 0 2 ++ C_block 0 2 4

K8_apart : List ℕ
K8_apart = C_block 0 0 2 ++ C_block 0 4 6

K9_task : List ℕ
K9_task = B_block 0 0 4

-- each call that takes a task
unfoldable with_task : List ℕ → List Call
with_task t = list t room ∷ choose t ∷ place t 1 0 (pos 0) ∷ []

minus_5 : List ℤ
minus_5 = neg_ℤ (pos 5) ∷ neg_ℤ (pos 5) ∷ neg_ℤ (pos 5) ∷ []

-- ---- the cards of MODEL 19.2; the others are those of K3, K6 and K7

K14 : Device
K14 = card 2 (0 ∷ 1 ∷ 0 ∷ [])

K15 : Device
K15 = card 3 (0 ∷ 1 ∷ [])

K16 : Device
K16 = card 6 (0 ∷ 1 ∷ [])

-- what is held on K12, on K13 (the README's card), K15, K16 and K17
held_4_6 : List Call
held_4_6 = place C_2 1 0 (pos 4) ∷ []

two_tasks : List Call
two_tasks = line_8 ++ (place C_4 8 0 (pos 0) ∷ [])

held_0_4 : List Call
held_0_4 = place C_4 1 0 (pos 0) ∷ []

all_but_two : List Call
all_but_two = place (C_block 0 0 10) 1 0 (pos 0) ∷ place B_5 2 1 (pos 0) ∷ []

held_0_2 : List Call
held_0_2 = place C_2 1 0 (pos 0) ∷ []

-- ---- the table

-- MODEL 19.1: K8 and K9 are tried on the cards of K7 and K2. MODEL 19.3: K18 is the card of K7 with the comb of K8
pub table : List Row
table =
    row 1 (numbers (cells K1 0 ∷ [])) (numbers (0 ∷ []))
    ∷ row 1 (answers K1 (list B_5 room ∷ choose B_5 ∷ [])) (neg_ℤ (pos 9) ∷ neg_ℤ (pos 9) ∷ [])
    ∷ row 2 (numbers (listed K2 [] B_5)) (numbers (0 ∷ 0 ∷ 5 ∷ 0 ∷ []))
    ∷ row 3 (numbers (listed K3 [] lines_4_6)) (numbers (0 ∷ 4 ∷ 10 ∷ 4 ∷ []))
    ∷ row 3 (numbers (score K3 [] lines_4_6 0 4)) (numbers (5 ∷ 30 ∷ []))
    ∷ row 4 (numbers (listed K4 [] K4_task)) (numbers (0 ∷ 5 ∷ 10 ∷ 5 ∷ []))
    ∷ row 5 (numbers (listed K5 [] K5_task)) (numbers (0 ∷ 0 ∷ 10 ∷ 10 ∷ []))
    ∷ row 5 (answers K5 held_2_4) (pos 0 ∷ [])
    ∷ row 5 (numbers (listed K5 held_2_4 K5_task)) (numbers (0 ∷ 0 ∷ 10 ∷ 10 ∷ []))
    ∷ row 6 (numbers (listed K6 [] C_2)) (numbers (0 ∷ 0 ∷ 2 ∷ 0 ∷ []))
    ∷ row 6 (answers K6 (list C_4 room ∷ choose C_4 ∷ [])) (neg_ℤ (pos 9) ∷ neg_ℤ (pos 9) ∷ [])
    ∷ row 7 (numbers (left K7 (held_2_6 ++ (release 1 ∷ [])))) (numbers (0 ∷ 4 ∷ 6 ∷ 10 ∷ []))
    ∷ row 7 (numbers (left K7 (held_2_6 ++ (release 1 ∷ release 2 ∷ [])))) (numbers (0 ∷ 10 ∷ []))
    ∷ row 8 (answers K7 (with_task K8_touching)) minus_5
    ∷ row 8 (numbers (bit (well_formed K8_apart) ∷ [])) (numbers (1 ∷ []))
    ∷ row 8 (answers K7 (with_task K8_apart)) (pos 1 ∷ pos 0 ∷ pos 0 ∷ [])
    ∷ row 9 (answers K2 (with_task K9_task)) minus_5
    ∷ row 10 (numbers (listed K3 line_8 C_4)) (numbers (0 ∷ 0 ∷ 2 ∷ 0 ∷ 0 ∷ 6 ∷ 2 ∷ 6 ∷ 1 ∷ 6 ∷ 2 ∷ 6 ∷ []))
    ∷ row 10 (answers K3 (line_8 ++ (list C_4 room ∷ choose C_4 ∷ []))) (pos 0 ∷ pos 3 ∷ pos 0 ∷ [])
    ∷ row 11 (three K7 []) (numbers (1 ∷ 5 ∷ 0 ∷ []))
    ∷ row 12 (three K7 held_4_6) (numbers (2 ∷ 4 ∷ 3333 ∷ []))
    ∷ row 13 (three K3 []) (numbers (1 ∷ 12 ∷ 0 ∷ []))
    ∷ row 13 (answers K3 two_tasks) (pos 0 ∷ pos 0 ∷ [])
    ∷ row 13 (three K3 two_tasks) (numbers (2 ∷ 6 ∷ 2000 ∷ []))
    ∷ row 14 (three K14 []) (numbers (2 ∷ 4 ∷ 3333 ∷ []))
    ∷ row 15 (three K15 held_0_4) (numbers (1 ∷ 2 ∷ 0 ∷ []))
    ∷ row 16 (three K16 all_but_two) (numbers (2 ∷ 2 ∷ 10000 ∷ []))
    ∷ row 17 (three K6 []) (numbers (1 ∷ 1 ∷ 0 ∷ []))
    ∷ row 17 (three K6 held_0_2) (numbers (0 ∷ 0 ∷ 0 ∷ []))
    ∷ row 18 (numbers (left K7 held_2_4)) (numbers (0 ∷ 2 ∷ 4 ∷ 10 ∷ []))
    ∷ row 18 (numbers (listed K7 held_2_4 K8_apart)) (numbers (0 ∷ 0 ∷ 2 ∷ 0 ∷ 0 ∷ 4 ∷ 2 ∷ 4 ∷ []))
    ∷ row 18 (numbers (score K7 held_2_4 K8_apart 0 0)) (numbers (1 ∷ 8 ∷ []))
    ∷ row 18 (numbers (score K7 held_2_4 K8_apart 0 4)) (numbers (1 ∷ 6 ∷ []))
    ∷ row 18 (answers K7 (held_2_4 ++ (choose K8_apart ∷ []))) (numbers (0 ∷ 0 ∷ []))
    ∷ row 18 (numbers (map (s_by_each_block K7 held_2_4 K8_apart) (0 ∷ 4 ∷ []))) (numbers (8 ∷ 12 ∷ []))
    ∷ row 18 (numbers (by_each_block K7 held_2_4 K8_apart)) (numbers (0 ∷ 4 ∷ []))
    ∷ []

-- THEOREM: the definitions give what MODEL 19 states, card by card
pub small_cards : map (λ (r : Row). r.found) table ≡ map (λ (r : Row). r.stated) table
unfolding K1 K2 K3 K4 K5 K6 K7 C_2 C_4 B_5 lines_4_6 line_8 K4_task K5_task held_2_4 held_2_6 K8_touching K8_apart K9_task with_task minus_5
    K14 K15 K16 held_4_6 two_tasks held_0_4 all_but_two held_0_2 table listed answers left score each_block spot s_by_each_block by_each_block three block_bytes
    all_below any_below sum_below join_below those_below all_in any_in sum_in join_in
    runs push maximal_runs
    height cells_in top_in columns kind cells top
    word lifted blocks block sized block_ok follows well_formed step
    placed covers covered held free block_fits fits fits_at intervals holds_cell cell_free
    touches met unmet classes set_count neighbours across touch free_cells connected_sets degree measured
    ranges lies holds_block span stretch left_in remaining pieces holder home judge better see climb choice chosen
    bytes16 number_ok lent refused no_position runs_in refusals insert without natural range_bytes over position_number done unless on_book
    trace book_of_history
small_cards = refl

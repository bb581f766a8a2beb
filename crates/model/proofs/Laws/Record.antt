-- MODEL 8: the record of a device and a book, its length, its parts, what is read back, and one column replaced. Assumes nothing.
use Rattle.std.specs.Prelude.{ℕ, ◌+◌, ◌*◌, ◌/◌, ◌%◌, ◌≤◌, ◌<◌, ◌≡◌, refl, Bool, true, false, cond, List, [], ◌∷◌, ◌++◌, map, eqb, length, replicate}
use Rattle.std.proofs.Common.{sym, ◌∙◌, arith, zero-add, le-ltb}
use Rattle.std.proofs.Math.Path.{ap}
use Rattle.std.proofs.Math.ListN.{get_or, get_or-eq_default}
use Rattle.std.proofs.lemmas.List.{length-map}
use Rattle.runs.specs.Intervals.{Interval}
use Rattle.runs.specs.Laws.Intervals.{free_intervals}
use Rattle.model.specs.Limits.{max_columns, max_running, max_intervals, max_blocks, block_size, words, record_size, rows_at, columns_at, running_at, head_size, kinds_at, counts_at, column_size, interval_size, entry_size, blocks_at}
use Rattle.model.specs.Bounded.{list_below}
use Rattle.model.specs.Columns.{Device, columns, kind, top}
use Rattle.model.specs.Tasks.{word, blocks}
use Rattle.model.specs.Book.{Running, Book, free, intervals}
use Rattle.model.specs.Record.{bytes16, padded, interval_bytes, entry_bytes, head_bytes, column_part, entry_part, image, record_of, part, column_at, entry_at, device_of, running_of, book_of}
use Rattle.model.specs.InPlace.{Reads, put_column, no_entry}
use Rattle.model.proofs.Laws.Bounded.{clash}
use Rattle.model.proofs.Laws.Changed.{changed}
use Rattle.model.proofs.Laws.Parts.{get_d_part, part_end, join_cong, listed}
use Rattle.model.proofs.Laws.Slots.{get_d_padded, part_padded, length_slot, length_slots, slot_map, slot_out, slots_nil}
use Rattle.model.proofs.Laws.Layout.{reads_layout, layout_reads, reads_column, reads_count, reads_cong}

-- the head has 4 bytes
pub length_head : (d : Device) (b : Book) → length (head_bytes d b) ≡ head_size
unfolding head_bytes bytes16
length_head d b = refl

-- ---- the image and the record

-- r is the record of d and b, but that the intervals of column c are `is c`
abbrev pub Shows : List ℕ → Device → Book → (ℕ → List Interval) → Type 0
Shows r d b is = Reads r (head_bytes d b) (kind d) (λ c. length (is c)) (λ c. column_part (is c)) (entry_part b)

-- a column's part has 256 bytes
pub length_column : (is : List Interval) → length (column_part is) ≡ column_size
unfolding column_part
length_column is = length_slots max_intervals interval_size (map interval_bytes is)

-- an image shows its device, book and intervals, and what shows them is the image
pub image_shows : (d : Device) (b : Book) (is : ℕ → List Interval) → Shows (image d b is) d b is
unfolding image
image_shows d b is =
    reads_layout (head_bytes d b) (kind d) (λ c. length (is c)) (λ c. column_part (is c)) (entry_part b) (length_head d b)
    (λ c q. length_column (is c)) (λ j q. length_slot entry_size (map entry_bytes b) j)

pub shows_image : (r : List ℕ) (d : Device) (b : Book) (is : ℕ → List Interval) → Shows r d b is → r ≡ image d b is
unfolding image
shows_image r d b is x = layout_reads x

-- THEOREM: a record has 29,188 bytes (MODEL 8.1)
pub record_length : (d : Device) (b : Book) → length (record_of d b) ≡ record_size
unfolding record_of
record_length d b = (image_shows d b (intervals d b)).size

-- ---- the head

-- the number that two bytes say
pub word_is : (p : List ℕ) (i n : ℕ) → n < words → get_or p i 0 ≡ n % 256 → get_or p (i + 1) 0 ≡ n / 256 % 256 → word p i ≡ n
unfolding word
word_is p i n h e f = omega arith

module _ (d : Device) (b : Book) {r : List ℕ} {kinds counts : ℕ → ℕ} {columns' entries : ℕ → List ℕ} (x : Reads r (head_bytes d b) kinds counts columns' entries) where
  head_byte : (i : ℕ) → i < head_size → get_or r i 0 ≡ get_or (head_bytes d b) i 0
  head_byte i q = sym (rw zero-add at (get_d_part r 0 head_size i 0 q)) ∙ ap (λ h. get_or h i 0) x.head_is

  -- the rows, the columns and the running tasks, read from the head
  pub rows_read : d.rows < words → word r rows_at ≡ d.rows
  unfolding head_bytes bytes16
  rows_read h = word_is r 0 d.rows h (head_byte 0 (omega arith)) (head_byte 1 (omega arith))

  pub columns_read : get_or r columns_at 0 ≡ columns d
  unfolding head_bytes bytes16
  columns_read = head_byte 2 (omega arith)

  pub running_read : get_or r running_at 0 ≡ length b
  unfolding head_bytes bytes16
  running_read = head_byte 3 (omega arith)

-- ---- one column replaced

map_changed {ℓ κ} : {A : Type ℓ} {B : Type κ} (g : A → B) (f : ℕ → A) (c : ℕ) (v : A) (i : ℕ) → changed (λ j. g (f j)) c (g v) i ≡ g (changed f c v i)
unfolding changed
map_changed g f c v i = go (eqb i c)
  where
    go : (t : Bool) → cond t (g v) (g (f i)) ≡ g (cond t v (f i))
    go true = refl
    go false = refl

-- the intervals of column c replaced
pub shows_column : (r : List ℕ) (d : Device) (b : Book) (is : ℕ → List Interval) (c : ℕ) (js : List Interval) → Shows r d b is → c < max_columns
    → Shows (put_column r c js) d b (changed is c js)
unfolding put_column
shows_column r d b is c js x q =
    reads_cong (reads_count (reads_column x c (column_part js) q (length_column js)) c (length js) q)
    refl (λ i q. refl) (λ i q. map_changed length is c js i) (λ i q. map_changed column_part is c js i) (λ i q. refl)

-- THEOREM: the same as an equation
pub image_column : (d : Device) (b : Book) (is : ℕ → List Interval) (c : ℕ) (js : List Interval) → c < max_columns
    → put_column (image d b is) c js ≡ image d b (changed is c js)
image_column d b is c js q = shows_image (put_column (image d b is) c js) d b (changed is c js) (shows_column (image d b is) d b is c js (image_shows d b is) q)

-- ---- entries

-- what an entry's bytes can hold
pub record Writable (e : Running) : Type 0 where
  pub number_fits : e.number < words
  pub bottom_fits : e.bottom < words
  pub whole : length e.task ≡ block_size * blocks e.task
  pub short : blocks e.task ≤ max_blocks

-- an entry, read back
pub entry_back : (e : Running) → Writable e → running_of (padded entry_size (entry_bytes e)) ≡ e
unfolding running_of entry_bytes bytes16
entry_back e w =
    let p = padded entry_size (entry_bytes e) in
    let at : (i : ℕ) → i < entry_size → get_or p i 0 ≡ get_or (entry_bytes e) i 0 = λ i q. get_d_padded entry_size (entry_bytes e) i q in
    let number : word p 0 ≡ e.number = word_is p 0 e.number w.number_fits (at 0 (omega arith)) (at 1 (omega arith)) in
    let bottom : word p 4 ≡ e.bottom = word_is p 4 e.bottom w.bottom_fits (at 4 (omega arith)) (at 5 (omega arith)) in
    let m : block_size * get_or p 3 0 ≡ length e.task = omega (arith, at 3 (omega arith)) in
    let task : part p blocks_at (block_size * get_or p 3 0) ≡ e.task =
    rw m (part_padded entry_size (entry_bytes e) blocks_at (length e.task) (omega arith) (omega arith)
    ∙ part_end (bytes16 e.number ++ (e.column ∷ blocks e.task ∷ []) ++ bytes16 e.bottom) e.task blocks_at (length e.task) refl refl) in
    λ i. record { number = number i; column = at 2 (omega arith) i; bottom = bottom i; task = task i }

module _ (d : Device) (b : Book) {r : List ℕ} {counts : ℕ → ℕ} {columns' : ℕ → List ℕ} (x : Reads r (head_bytes d b) (kind d) counts columns' (entry_part b)) where
  -- the device and the book, read back
  pub device_back : d.rows < words → columns d ≤ max_columns → device_of r ≡ d
  unfolding device_of columns kind
  device_back h few =
      let kinds : list_below (get_or r columns_at 0) (λ c. get_or r (kinds_at + c) 0) ≡ d.kinds =
      rw (columns_read d b x)
      (join_cong (λ c. get_or r (kinds_at + c) 0 ∷ []) (λ c. kind d c ∷ []) (columns d) (λ c q. ap (λ k. k ∷ []) (x.kind_is c (omega arith))) ∙ listed d.kinds 0) in
      λ i. record { rows = rows_read d b x h i; kinds = kinds i }

  pub book_back : length b ≤ max_running → ((j : ℕ) → j < length b → Writable (get_or b j no_entry)) → book_of r ≡ b
  unfolding book_of
  book_back few w =
      rw (running_read d b x)
      (join_cong (λ j. running_of (part r (entry_at j) entry_size) ∷ []) (λ j. get_or b j no_entry ∷ []) (length b)
      (λ j q. ap (λ e. e ∷ []) (ap running_of (x.entry_is j (omega arith) ∙ slot_map entry_size entry_bytes b j no_entry q) ∙ entry_back (get_or b j no_entry) (w j q)))
      ∙ listed b no_entry)

-- ---- past the device's columns nothing stands

-- no intervals
pub intervals_out : (d : Device) (b : Book) (c : ℕ) → columns d ≤ c → intervals d b c ≡ []
unfolding intervals free
intervals_out d b c h =
    sym (free_intervals (free d b c) (top d c) [] (record { canon = tt; named = λ y. (λ n. absurd n, λ k. clash k.1 (none y)) }))
  where
    none : (y : ℕ) → free d b c y ≡ false
    none y = rw (le-ltb c (columns d) h)

-- zeros for them
pub column_part_nil : column_part [] ≡ replicate column_size 0
unfolding column_part
column_part_nil = slots_nil max_intervals interval_size

-- kind 0
pub kind_out : (d : Device) (c : ℕ) → columns d ≤ c → kind d c ≡ 0
unfolding kind columns
kind_out d c h = get_or-eq_default d.kinds 0 h

-- the same intervals, said in another way
pub image_cong : (d : Device) (b : Book) (is js : ℕ → List Interval) → ((c : ℕ) → c < max_columns → is c ≡ js c) → image d b is ≡ image d b js
image_cong d b is js h =
    shows_image (image d b is) d b js
    (reads_cong (image_shows d b is) refl (λ c q. refl) (λ c q. ap length (h c q)) (λ c q. ap column_part (h c q)) (λ j q. refl))

-- ---- the record

-- the record shows its device, its book and their free intervals
pub record_shows : (d : Device) (b : Book) → Shows (record_of d b) d b (intervals d b)
unfolding record_of
record_shows d b = image_shows d b (intervals d b)

-- its regions
module _ (d : Device) (b : Book) where
  pub record_columns : get_or (record_of d b) columns_at 0 ≡ columns d
  record_columns = columns_read d b (record_shows d b)

  pub record_running : get_or (record_of d b) running_at 0 ≡ length b
  record_running = running_read d b (record_shows d b)

  pub record_kind : (c : ℕ) → c < max_columns → get_or (record_of d b) (kinds_at + c) 0 ≡ kind d c
  record_kind = (record_shows d b).kind_is

  pub record_count : (c : ℕ) → c < max_columns → get_or (record_of d b) (counts_at + c) 0 ≡ length (intervals d b c)
  record_count = (record_shows d b).count_is

  pub record_column : (c : ℕ) → c < max_columns → part (record_of d b) (column_at c) column_size ≡ column_part (intervals d b c)
  record_column = (record_shows d b).column_is

  pub record_entry : (j : ℕ) (n : Running) → j < max_running → j < length b → part (record_of d b) (entry_at j) entry_size ≡ padded entry_size (entry_bytes (get_or b j n))
  record_entry j n q h = (record_shows d b).entry_is j q ∙ slot_map entry_size entry_bytes b j n h

  pub record_entry_out : (j : ℕ) → j < max_running → length b ≤ j → part (record_of d b) (entry_at j) entry_size ≡ replicate entry_size 0
  record_entry_out j q h = (record_shows d b).entry_is j q ∙ slot_out entry_size (map entry_bytes b) j (omega (arith, length-map b entry_bytes))

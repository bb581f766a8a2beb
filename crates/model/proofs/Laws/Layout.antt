-- MODEL 8.2: the layout of a record. Bytes that are laid out from given parts, and a part or a byte replaced in place. Assumes nothing.
use Rattle.std.specs.Prelude.{ℕ, ◌+◌, ◌*◌, ◌≤◌, ◌<◌, ◌≡◌, List, length, set}
use Rattle.std.proofs.Common.{sym, ap, ◌∙◌, arith, zero-add, length-set, get_or-set_other}
use Rattle.model.specs.Limits.{max_columns, max_running, head_size, kinds_at, counts_at, intervals_at, column_size, entries_at, entry_size}
use Rattle.model.specs.Bounded.{join_below, list_below}
use Rattle.model.specs.Record.{layout, part, column_at, entry_at}
use Rattle.model.specs.Parts.{splice}
use Rattle.model.specs.InPlace.{Reads}
use Rattle.model.proofs.Laws.Changed.{changed}
use Rattle.model.proofs.Laws.Parts.{join_cong, length_join, length_list, join_parts, list_is, length_splice, part_splice_below, part_splice_above, get_d_splice_below, part_set_below, part_set_above, part_set}
use Rattle.model.proofs.Laws.Tables.{byte_of, piece_of, cut, uncut, piece_splice, byte_set}

-- ---- laid out from given parts, and read so

module _ (head : List ℕ) (kinds counts : ℕ → ℕ) (columns entries : ℕ → List ℕ) (l-head : length head ≡ head_size)
    (l-column : (c : ℕ) → c < max_columns → length (columns c) ≡ column_size) (l-entry : (j : ℕ) → j < max_running → length (entries j) ≡ entry_size) where
  -- THEOREM: what is laid out from these parts reads so
  pub reads_layout : Reads (layout head kinds counts columns entries) head kinds counts columns entries
  unfolding layout
  reads_layout =
      let r = layout head kinds counts columns entries in
      let x =
      cut head (list_below max_columns kinds) (list_below max_columns counts) (join_below max_columns columns) (join_below max_running entries)
      head_size max_columns max_columns (max_columns * column_size) (max_running * entry_size)
      l-head (length_list kinds max_columns) (length_list counts max_columns) (length_join columns column_size max_columns l-column) (length_join entries entry_size max_running l-entry) in
      record {
        size = x.length_is;
        head_is = x.a_is;
        kind_is = λ c q. byte_of r kinds_at max_columns kinds c 0 x.b_is q;
        count_is = λ c q. byte_of r counts_at max_columns counts c 0 x.c_is q;
        column_is = λ c q. piece_of r intervals_at column_size max_columns columns c x.d_is l-column q;
        entry_is = λ c q. piece_of r entries_at entry_size max_running entries c x.e_is l-entry q;
      }

-- THEOREM: and what reads so is laid out from these parts
pub layout_reads : {r head : List ℕ} {kinds counts : ℕ → ℕ} {columns entries : ℕ → List ℕ} → Reads r head kinds counts columns entries
    → r ≡ layout head kinds counts columns entries
unfolding layout
layout_reads {r} {head} {kinds} {counts} {columns} {entries} x =
    uncut r head (list_below max_columns kinds) (list_below max_columns counts) (join_below max_columns columns) (join_below max_running entries)
    head_size max_columns max_columns (max_columns * column_size) (max_running * entry_size) (record {
      length_is = x.size;
      a_is = x.head_is;
      b_is = list_is r kinds_at max_columns kinds 0 (omega (arith, x.size)) x.kind_is;
      c_is = list_is r counts_at max_columns counts 0 (omega (arith, x.size)) x.count_is;
      d_is = sym (join_parts r intervals_at column_size max_columns) ∙ join_cong (λ c. part r (column_at c) column_size) columns max_columns x.column_is;
      e_is = sym (join_parts r entries_at entry_size max_running) ∙ join_cong (λ j. part r (entry_at j) entry_size) entries max_running x.entry_is;
    })

-- ---- a part or a byte replaced in place

module _ {r head : List ℕ} {kinds counts : ℕ → ℕ} {columns entries : ℕ → List ℕ} (x : Reads r head kinds counts columns entries) where
  -- the part of column c
  pub reads_column : (c : ℕ) (v : List ℕ) → c < max_columns → length v ≡ column_size
      → Reads (splice r (column_at c) column_size v) head kinds counts (changed columns c v) entries
  reads_column c v q l =
      let at = column_at c in
      let fits : at + column_size ≤ length r = omega (arith, x.size) in
      record {
        size = length_splice r at column_size v fits l ∙ x.size;
        head_is = part_splice_below r at column_size v fits l 0 head_size (omega arith) ∙ x.head_is;
        kind_is = λ i p. get_d_splice_below r at column_size v fits l (kinds_at + i) 0 (omega arith) ∙ x.kind_is i p;
        count_is = λ i p. get_d_splice_below r at column_size v fits l (counts_at + i) 0 (omega arith) ∙ x.count_is i p;
        column_is = piece_splice r intervals_at column_size max_columns columns c v (omega (arith, x.size)) l q x.column_is;
        entry_is = λ i p. part_splice_above r at column_size v fits l (entry_at i) entry_size (omega arith) ∙ x.entry_is i p;
      }

  -- entry j
  pub reads_entry : (j : ℕ) (v : List ℕ) → j < max_running → length v ≡ entry_size
      → Reads (splice r (entry_at j) entry_size v) head kinds counts columns (changed entries j v)
  reads_entry j v q l =
      let at = entry_at j in
      let fits : at + entry_size ≤ length r = omega (arith, x.size) in
      record {
        size = length_splice r at entry_size v fits l ∙ x.size;
        head_is = part_splice_below r at entry_size v fits l 0 head_size (omega arith) ∙ x.head_is;
        kind_is = λ i p. get_d_splice_below r at entry_size v fits l (kinds_at + i) 0 (omega arith) ∙ x.kind_is i p;
        count_is = λ i p. get_d_splice_below r at entry_size v fits l (counts_at + i) 0 (omega arith) ∙ x.count_is i p;
        column_is = λ i p. part_splice_below r at entry_size v fits l (column_at i) column_size (omega arith) ∙ x.column_is i p;
        entry_is = piece_splice r entries_at entry_size max_running entries j v (omega (arith, x.size)) l q x.entry_is;
      }

  -- the kind byte of column c
  pub reads_kind : (c v : ℕ) → c < max_columns → Reads (set r (kinds_at + c) v) head (changed kinds c v) counts columns entries
  reads_kind c v q =
      let fits : kinds_at + c < length r = omega (arith, x.size) in
      record {
        size = length-set r (kinds_at + c) v ∙ x.size;
        head_is = part_set_below r (kinds_at + c) v 0 head_size (omega arith) fits ∙ x.head_is;
        kind_is = byte_set r kinds_at max_columns kinds c v 0 (omega (arith, x.size)) q x.kind_is;
        count_is = λ i p. get_or-set_other r (kinds_at + c) (counts_at + i) v 0 (omega arith) ∙ x.count_is i p;
        column_is = λ i p. part_set_above r (kinds_at + c) v (column_at i) column_size (omega arith) fits ∙ x.column_is i p;
        entry_is = λ i p. part_set_above r (kinds_at + c) v (entry_at i) entry_size (omega arith) fits ∙ x.entry_is i p;
      }

  -- the interval count of column c
  pub reads_count : (c v : ℕ) → c < max_columns → Reads (set r (counts_at + c) v) head kinds (changed counts c v) columns entries
  reads_count c v q =
      let fits : counts_at + c < length r = omega (arith, x.size) in
      record {
        size = length-set r (counts_at + c) v ∙ x.size;
        head_is = part_set_below r (counts_at + c) v 0 head_size (omega arith) fits ∙ x.head_is;
        kind_is = λ i p. get_or-set_other r (counts_at + c) (kinds_at + i) v 0 (omega arith) ∙ x.kind_is i p;
        count_is = byte_set r counts_at max_columns counts c v 0 (omega (arith, x.size)) q x.count_is;
        column_is = λ i p. part_set_above r (counts_at + c) v (column_at i) column_size (omega arith) fits ∙ x.column_is i p;
        entry_is = λ i p. part_set_above r (counts_at + c) v (entry_at i) entry_size (omega arith) fits ∙ x.entry_is i p;
      }

  -- a byte of the head
  pub reads_head : (i v : ℕ) → i < head_size → Reads (set r i v) (set head i v) kinds counts columns entries
  reads_head i v q =
      let fits : i < length r = omega (arith, x.size) in
      record {
        size = length-set r i v ∙ x.size;
        head_is = (rw zero-add at (part_set r 0 head_size i v q)) ∙ ap (λ h. set h i v) x.head_is;
        kind_is = λ c p. get_or-set_other r i (kinds_at + c) v 0 (omega arith) ∙ x.kind_is c p;
        count_is = λ c p. get_or-set_other r i (counts_at + c) v 0 (omega arith) ∙ x.count_is c p;
        column_is = λ c p. part_set_above r i v (column_at c) column_size (omega arith) fits ∙ x.column_is c p;
        entry_is = λ c p. part_set_above r i v (entry_at c) entry_size (omega arith) fits ∙ x.entry_is c p;
      }

-- the same parts, said in another way
pub reads_cong : {r h h' : List ℕ} {k k' n n' : ℕ → ℕ} {p p' e e' : ℕ → List ℕ} → Reads r h k n p e
    → h ≡ h' → ((i : ℕ) → i < max_columns → k i ≡ k' i) → ((i : ℕ) → i < max_columns → n i ≡ n' i) → ((i : ℕ) → i < max_columns → p i ≡ p' i) → ((i : ℕ) → i < max_running → e i ≡ e' i)
    → Reads r h' k' n' p' e'
reads_cong x a b c d f =
    record {
      size = x.size;
      head_is = x.head_is ∙ a;
      kind_is = λ i q. x.kind_is i q ∙ b i q;
      count_is = λ i q. x.count_is i q ∙ c i q;
      column_is = λ i q. x.column_is i q ∙ d i q;
      entry_is = λ i q. x.entry_is i q ∙ f i q;
    }

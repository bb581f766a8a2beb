-- MODEL 8.4: entries moved by one place, and an entry written, put in and taken out. Assumes nothing.
use Rattle.std.specs.Prelude.{ℕ, zero, suc, ◌+◌, ◌-◌, ◌≤◌, ◌<◌, ◌≡◌, refl, true, List, [], ◌∷◌, ◌++◌, length, get_or, set, take, drop, replicate}
use Rattle.std.proofs.Common.{sym, ap, ◌∙◌, arith, length-append, length-take, length-drop}
use Rattle.std.proofs.Math.Nat.{sub-zero, zero-sub, suc-sub-suc}
use Rattle.std.proofs.lemmas.List.{length-replicate}
use Rattle.model.specs.Limits.{max_running, running_at, entry_size}
use Rattle.model.specs.Tasks.{blocks, sized}
use Rattle.model.specs.Book.{Running, Book}
use Rattle.model.specs.Calls.{insert}
use Rattle.model.specs.Record.{bytes16, padded, entry_bytes, entry_at}
use Rattle.model.specs.Parts.{splice, raised, lowered}
use Rattle.model.proofs.Laws.Tasks.{sized_to}
use Rattle.model.proofs.Laws.Parts.{splice_more, set_splice, length_splice}
use Rattle.model.proofs.Laws.Slots.{padded_is, length_padded}
use Rattle.model.proofs.Laws.Layout.{reads_entry}
use Rattle.model.proofs.Laws.Record.{running_read}
use Rattle.model.proofs.Laws.Entries.{entry_insert, entry_remove, reads_book, length_insert}
use Rattle.record.specs.Entries.{Moved, Entered, Removed}

-- ---- an entry written

drop_zeros : (m n : ℕ) → drop {A = ℕ} n (replicate m 0) ≡ replicate (m - n) 0
drop_zeros m zero = rw sub-zero
drop_zeros zero (suc n) = rw zero-sub
drop_zeros (suc m) (suc n) = rw suc-sub-suc (drop_zeros m n)

-- bytes written over the front of zeros
front_written : (p u : List ℕ) (n : ℕ) → n ≡ length p → length u ≤ n → splice (replicate (length p) 0) 0 (length u) u ≡ padded n u
unfolding splice
front_written p u n e h =
    ap (λ (l : List ℕ). u ++ l) (drop_zeros (length p) (length u)) ∙ (rw (← e) (sym (padded_is n u h)))

-- the fields one after the other, and the blocks, over zeros
pub entry_written : (p z a b c : List ℕ) (e : Running) → length p ≡ entry_size → sized e.task ≡ true
    → z ≡ replicate (length p) 0 → a ≡ splice z 0 2 (bytes16 e.number)
    → b ≡ splice (set (set a 2 e.column) 3 (blocks e.task)) 4 2 (bytes16 e.bottom) → c ≡ splice b 6 (length e.task) e.task
    → c ≡ padded entry_size (entry_bytes e)
unfolding entry_bytes bytes16
entry_written p z a b c e l s ez ea eb ec =
    let t = e.task in
    let o = sized_to t s in
    let lz : length z ≡ entry_size = ap length ez ∙ length-replicate (length p) 0 ∙ l in
    let u1 : List ℕ = bytes16 e.number in
    let u2 : List ℕ = u1 ++ (e.column ∷ []) in
    let u3 : List ℕ = u2 ++ (blocks t ∷ []) in
    let u4 : List ℕ = u3 ++ bytes16 e.bottom in
    let s2 : set a 2 e.column ≡ splice z 0 3 u2 =
    rw ea (set_splice (splice z 0 2 u1) 2 e.column (omega (arith, length_splice z 0 2 u1 (omega arith) refl)) ∙ splice_more z 0 2 1 u1 (e.column ∷ []) (omega arith) refl) in
    let s3 : set (set a 2 e.column) 3 (blocks t) ≡ splice z 0 4 u3 =
    rw s2 (set_splice (splice z 0 3 u2) 3 (blocks t) (omega (arith, length_splice z 0 3 u2 (omega arith) refl)) ∙ splice_more z 0 3 1 u2 (blocks t ∷ []) (omega arith) refl) in
    let s4 : b ≡ splice z 0 6 u4 = eb ∙ (rw s3 (splice_more z 0 4 2 u3 (bytes16 e.bottom) (omega arith) refl)) in
    let s5 : c ≡ splice z 0 (6 + length t) (u4 ++ t) = ec ∙ (rw s4 (splice_more z 0 6 (length t) u4 t (omega arith) refl)) in
    let k : 6 + length t ≡ length (u4 ++ t) = omega arith in
    s5 ∙ (rw (k, ez) (front_written p (u4 ++ t) entry_size (sym l) (omega (arith, o.whole, o.few))))

-- ---- an entry put in, and one taken out

pub entered_by : (r t s : List ℕ) (k n : ℕ) (e : Running) (v : List ℕ) → n ≡ get_or r running_at 0 → n < max_running → k ≤ n
    → v ≡ padded entry_size (entry_bytes e) → Moved r t (raised k n) → s ≡ set (splice t (entry_at k) entry_size v) running_at (n + 1) → Entered r s k e
entered_by r t s k n e v en few le ev m es = record {
  entered = λ d b ek x.
      let nb : n ≡ length b = en ∙ running_read d b x in
      let lv : length v ≡ entry_size = ap length ev ∙ length_padded entry_size (entry_bytes e) in
      rw es (reads_book d b (insert e b) (n + 1) (reads_entry (m.moved x) k v (omega arith) lv) (omega (arith, length_insert e b)) (λ j q. rw (ek, nb, ev) (entry_insert e b j)));
}

pub removed_by : (r t s : List ℕ) (k n : ℕ) (u v : List ℕ) → n + 1 ≡ get_or r running_at 0 → n < max_running → k ≤ n → Moved r t (lowered k n)
    → length u ≡ entry_size → v ≡ replicate (length u) 0 → s ≡ set (splice t (entry_at n) entry_size v) running_at n → Removed r s k
removed_by r t s k n u v en few le m lu ev es = record {
  removed = λ d b x.
      let nb : n ≡ length b - 1 = omega (arith, running_read d b x) in
      let q : k < length b = omega (arith, running_read d b x) in
      let b' : Book = take k b ++ drop (suc k) b in
      let len : n ≡ length b' = simp (length-append, length-take, length-drop) (omega (arith, running_read d b x)) in
      let zv : v ≡ replicate entry_size 0 = ev ∙ ap (λ i. replicate {A = ℕ} i 0) lu in
      let lv : length v ≡ entry_size = ap length ev ∙ length-replicate (length u) 0 ∙ lu in
      rw es (reads_book d b b' n (reads_entry (m.moved x) n v few lv) len (λ j q'. rw (nb, zv) (entry_remove b k j q)));
}

-- MODEL 8.4: the entries of a record when a task is put into the book and when one is taken out. Assumes nothing.
use Rattle.std.specs.Prelude.{ℕ, zero, suc, ◌-◌, ◌≤◌, ◌<◌, ◌≡◌, refl, Bool, true, false, cond, ◌||◌, List, [], ◌∷◌, ◌++◌, map, eqb, ltb, length, set, take, drop, replicate}
use Rattle.std.proofs.Common.{sym, ap, arith}
use Rattle.std.proofs.lemmas.List.{length-map}
use Rattle.model.specs.Limits.{max_running, running_at, entry_size}
use Rattle.model.specs.Bounded.{any_in}
use Rattle.model.specs.Columns.{Device}
use Rattle.model.specs.Book.{Running, Book}
use Rattle.model.specs.Record.{bytes16, padded, entry_bytes, head_bytes, entry_part}
use Rattle.model.specs.Calls.{insert, without, runs_in}
use Rattle.model.specs.Parts.{raised, lowered}
use Rattle.model.specs.InPlace.{Reads, place}
use Rattle.model.proofs.Laws.Changed.{changed}
use Rattle.model.proofs.Laws.Bounded.{map_append}
use Rattle.model.proofs.Laws.Slots.{slot_insert, slot_remove}
use Rattle.model.proofs.Laws.Layout.{reads_head, reads_cong}

-- an entry put in stands between those below its place and the others
pub insert_split : (e : Running) (b : Book) → insert e b ≡ take (place e.number b) b ++ e ∷ drop (place e.number b) b
unfolding insert place
insert_split e [] = refl
insert_split e (f ∷ b) = go (ltb e.number f.number) (insert_split e b)
  where
    go : (t : Bool) → insert e b ≡ take (place e.number b) b ++ e ∷ drop (place e.number b) b
        → cond t (e ∷ f ∷ b) (f ∷ insert e b) ≡ take (cond t 0 (suc (place e.number b))) (f ∷ b) ++ e ∷ drop (cond t 0 (suc (place e.number b))) (f ∷ b)
    go true ih = refl
    go false ih = ap (λ l. f ∷ l) ih

or_none : (a b : Bool) → (a || b) ≡ false → (a ≡ false) × (b ≡ false)
or_none true b h = (h, cc)
or_none false b h = (refl, h)

-- a number that does not run
pub without_none : (n : ℕ) (b : Book) → runs_in b n ≡ false → without n b ≡ b
unfolding without runs_in any_in
without_none n [] h = refl
without_none n (f ∷ b) h =
    let o = or_none (eqb f.number n) (runs_in b n) h in
    rw o.0 (ap (λ l. f ∷ l) (without_none n b o.1))

-- one entry more
pub length_insert : (e : Running) (b : Book) → length (insert e b) ≡ suc (length b)
unfolding insert
length_insert e [] = refl
length_insert e (f ∷ b) = go (ltb e.number f.number) (length_insert e b)
  where
    go : (t : Bool) → length (insert e b) ≡ suc (length b) → length (cond t (e ∷ f ∷ b) (f ∷ insert e b)) ≡ suc (suc (length b))
    go true h = refl
    go false h = ap suc h

-- the place is in the book, or at its end
pub place_le : (n : ℕ) (b : Book) → place n b ≤ length b
unfolding place
place_le n [] = omega arith
place_le n (f ∷ b) = go (ltb n f.number) (place_le n b)
  where
    go : (t : Bool) → place n b ≤ length b → cond t 0 (suc (place n b)) ≤ suc (length b)
    go true h = omega arith
    go false h = omega arith

module _ {ℓ κ} {A : Type ℓ} {B : Type κ} (f : A → B) where
  map_take : (i : ℕ) (l : List A) → map f (take i l) ≡ take i (map f l)
  map_take zero l = refl
  map_take (suc i) [] = refl
  map_take (suc i) (x ∷ l) = ap (λ l. f x ∷ l) (map_take i l)

  map_drop : (i : ℕ) (l : List A) → map f (drop i l) ≡ drop i (map f l)
  map_drop zero l = refl
  map_drop (suc i) [] = refl
  map_drop (suc i) (x ∷ l) = map_drop i l

-- the entries' places, when an entry is put in and when one is taken out
pub entry_insert : (e : Running) (b : Book) (j : ℕ)
    → changed (raised (place e.number b) (length b) (entry_part b)) (place e.number b) (padded entry_size (entry_bytes e)) j ≡ entry_part (insert e b) j
entry_insert e b j =
    let k = place e.number b in
    let ps = map entry_bytes b in
    sym (rw (insert_split e b, map_append entry_bytes (take k b) (e ∷ drop k b), map_take entry_bytes k b, map_drop entry_bytes k b, ← length-map b entry_bytes)
    (slot_insert entry_size ps k (entry_bytes e) j (omega (arith, place_le e.number b, length-map b entry_bytes))))

pub entry_remove : (b : Book) (k j : ℕ) → k < length b
    → changed (lowered k (length b - 1) (entry_part b)) (length b - 1) (replicate entry_size 0) j ≡ entry_part (take k b ++ drop (suc k) b) j
entry_remove b k j q =
    sym (rw (map_append entry_bytes (take k b) (drop (suc k) b), map_take entry_bytes k b, map_drop entry_bytes (suc k) b, ← length-map b entry_bytes)
    (slot_remove entry_size (map entry_bytes b) k j (omega (arith, length-map b entry_bytes))))

-- the runs-in byte and the entries say another book
pub reads_book : (d : Device) (b b' : Book) (v : ℕ) {r : List ℕ} {kinds counts : ℕ → ℕ} {columns entries : ℕ → List ℕ}
    → Reads r (head_bytes d b) kinds counts columns entries
    → v ≡ length b' → ((j : ℕ) → j < max_running → entries j ≡ entry_part b' j) → Reads (set r running_at v) (head_bytes d b') kinds counts columns (entry_part b')
unfolding head_bytes bytes16
reads_book d b b' v x e h = reads_cong (reads_head x running_at v (omega arith)) (rw e) (λ c q. refl) (λ c q. refl) (λ c q. refl) h

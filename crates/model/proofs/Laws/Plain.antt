-- MODEL 8.6: within its limits, a record is its parts written one after the other, each filled up with zeros. Nothing is cut. Assumes nothing.
use Rattle.std.specs.Prelude.{ℕ, zero, suc, ◌+◌, ◌-◌, ◌*◌, ◌≤◌, ◌<◌, ◌≡◌, true, List, [], ◌∷◌, ◌++◌, map, length, get_or, replicate}
use Rattle.std.proofs.Math.Path.{refl}
use Rattle.std.proofs.Common.{sym, ap, ap₂, ◌∙◌, append_assoc, append-nil, arith, zero-mul, add-zero, add-suc, mul-one}
use Rattle.std.proofs.Math.Decide.{dec_lt}
use Rattle.std.proofs.Math.ListN.{length-map}
use Rattle.std.proofs.lemmas.List.{replicate-append-replicate}
use Rattle.runs.specs.Intervals.{Interval}
use Rattle.model.specs.Limits.{max_columns, max_running, max_intervals, column_size, interval_size, entry_size}
use Rattle.model.specs.Bounded.{join_below, list_below}
use Rattle.model.specs.Columns.{Device, columns, kind}
use Rattle.model.specs.Book.{Running, Book, intervals}
use Rattle.model.specs.Record.{bytes16, padded, slot, slots, interval_bytes, entry_bytes, head_bytes, layout, column_part, entry_part, image, record_of}
use Rattle.model.specs.Sound.{within}
use Rattle.model.specs.InPlace.{no_entry}
use Rattle.model.proofs.Laws.Limits.{limits_to}
use Rattle.model.proofs.Laws.Cells.{few_intervals}
use Rattle.model.proofs.Laws.Parts.{join_cong, length_join, listed}
use Rattle.model.proofs.Laws.Slots.{padded_by, padded_full, length_padded, slot_out, slot_map}
use Rattle.model.proofs.Laws.Record.{kind_out, intervals_out}

-- the pieces one after the other
unfoldable pub joined : List (List ℕ) → List ℕ
joined [] = []
joined (p ∷ ps) = p ++ joined ps

join_front : (f : ℕ → List ℕ) (n : ℕ) → join_below (suc n) f ≡ f 0 ++ join_below n (λ i. f (suc i))
unfolding join_below
join_front f zero = sym (append-nil (f 0))
join_front f (suc n) = rw (join_front f n) (append_assoc (f 0) (join_below n (λ i. f (suc i))) (f (suc n)))

joined_is : (ps : List (List ℕ)) → join_below (length ps) (λ i. get_or ps i []) ≡ joined ps
unfolding joined
joined_is [] = unfold join_below in refl
joined_is (p ∷ ps) = join_front (λ i. get_or (p ∷ ps) i []) (length ps) ∙ ap (λ l. p ++ l) (joined_is ps)

-- zeros from the m-th piece on
join_rest : (f : ℕ → List ℕ) (k m j : ℕ) → ((i : ℕ) → m ≤ i → f i ≡ replicate k 0) → join_below (m + j) f ≡ join_below m f ++ replicate (j * k) 0
unfolding join_below
join_rest f k m zero h = rw (add-zero, zero-mul) (sym (append-nil (join_below m f)))
join_rest f k m (suc j) h =
    let e : suc j * k ≡ j * k + k = omega arith in
    rw (add-suc, join_rest f k m j h, h (m + j) (omega arith), e, ← replicate-append-replicate {A = ℕ} (j * k) k 0) (append_assoc (join_below m f) (replicate (j * k) 0) (replicate k 0))

module _ (f : ℕ → List ℕ) (k m : ℕ) (rest : (i : ℕ) → m ≤ i → f i ≡ replicate k 0) (size : (i : ℕ) → i < m → length (f i) ≡ k) where
  plain_by : (j : ℕ) → join_below (m + j) f ≡ padded ((m + j) * k) (join_below m f)
  plain_by j =
      let g : (m + j) * k ≡ length (join_below m f) + j * k = omega (arith, length_join f k m size) in
      join_rest f k m j rest ∙ sym (rw g (padded_by (join_below m f) (j * k)))

  -- n pieces, zeros from the m-th on, are m pieces filled up
  pub join_plain : (n : ℕ) → m ≤ n → join_below n f ≡ padded (n * k) (join_below m f)
  join_plain n h = let e : m + (n - m) ≡ n = omega arith in rw e at (plain_by (n - m))

-- places for pieces of one size are the pieces filled up
pub slots_plain : (n k : ℕ) (ps : List (List ℕ)) → ((i : ℕ) → i < length ps → length (get_or ps i []) ≡ k) → length ps ≤ n
    → slots n k ps ≡ padded (n * k) (joined ps)
unfolding slots slot
slots_plain n k ps size few =
    join_plain (slot k ps) k (length ps) (λ i h. slot_out k ps i h) (λ i q. length_padded k (get_or ps i [])) n few
    ∙ ap (padded (n * k)) (join_cong (slot k ps) (λ i. get_or ps i []) (length ps) (λ i q. padded_full k (get_or ps i []) (size i q)) ∙ joined_is ps)

-- a list filled up by its own default
pub list_plain : (f : ℕ → ℕ) (m n : ℕ) → ((i : ℕ) → m ≤ i → f i ≡ 0) → m ≤ n → list_below n f ≡ padded n (list_below m f)
list_plain f m n h few = rw mul-one at (join_plain (λ i. f i ∷ []) 1 m (λ i q. ap (λ x. x ∷ []) (h i q)) (λ i q. refl) n few)

get_d_map {ℓ} : {A : Type ℓ} (f : A → List ℕ) (l : List A) (k i : ℕ) → ((x : A) → length (f x) ≡ k) → i < length l → length (get_or (map f l) i []) ≡ k
get_d_map f [] k i h q = absurd (omega arith)
get_d_map f (x ∷ l) k zero h q = h x
get_d_map f (x ∷ l) k (suc i) h q = get_d_map f l k i h (omega arith)

column_plain : (is : List Interval) → length is ≤ max_intervals → column_part is ≡ padded column_size (joined (map interval_bytes is))
unfolding column_part
column_plain is few =
    slots_plain max_intervals interval_size (map interval_bytes is)
    (λ i q. get_d_map interval_bytes is interval_size i (λ x. unfold interval_bytes bytes16 in refl) (omega (arith, length-map is interval_bytes))) (omega (arith, length-map is interval_bytes))

entries_plain : (b : Book) → length b ≤ max_running
    → join_below max_running (entry_part b) ≡ padded (max_running * entry_size) (joined (map (λ e. padded entry_size (entry_bytes e)) b))
unfolding slots
entries_plain b few =
    let whole : Running → List ℕ = λ e. padded entry_size (entry_bytes e) in
    let l = length-map b whole in
    join_cong (entry_part b) (slot entry_size (map whole b)) max_running (λ j q. elim (dec_lt j (length b)) [
      | yes p ↦ slot_map entry_size entry_bytes b j no_entry p ∙ sym (padded_full entry_size (whole (get_or b j no_entry)) (length_padded entry_size (entry_bytes (get_or b j no_entry))))
          ∙ sym (slot_map entry_size whole b j no_entry p)
      | no p ↦ slot_out entry_size (map entry_bytes b) j (omega (arith, length-map b entry_bytes)) ∙ sym (slot_out entry_size (map whole b) j (omega arith))
    ])
    ∙ slots_plain max_running entry_size (map whole b) (λ i q. get_d_map whole b entry_size i (λ e. length_padded entry_size (entry_bytes e)) (omega arith)) (omega arith)

-- THEOREM: within the limits nothing is cut
pub record_plain : (d : Device) (b : Book) → within d b ≡ true
    → record_of d b
    ≡ bytes16 d.rows ++ (columns d ∷ length b ∷ [])
    ++ padded max_columns d.kinds
    ++ padded max_columns (list_below (columns d) (λ c. length (intervals d b c)))
    ++ join_below max_columns (λ c. padded column_size (joined (map interval_bytes (intervals d b c))))
    ++ padded (max_running * entry_size) (joined (map (λ e. padded entry_size (entry_bytes e)) b))
unfolding record_of image layout head_bytes columns kind
record_plain d b w =
    let l = limits_to d b w in
    ap₂ ◌++◌
    (ap₂ ◌++◌
    (ap₂ ◌++◌
    (ap (λ l. head_bytes d b ++ l) (list_plain (kind d) (columns d) max_columns (kind_out d) l.columns ∙ ap (padded max_columns) (listed d.kinds 0)))
    (list_plain (λ c. length (intervals d b c)) (columns d) max_columns (λ c h. ap length (intervals_out d b c h)) l.columns))
    (join_cong (λ c. column_part (intervals d b c)) (λ c. padded column_size (joined (map interval_bytes (intervals d b c)))) max_columns (λ c q. column_plain (intervals d b c) (few_intervals d b w c))))
    (entries_plain b l.few)

-- MODEL 22.5 and 22.6: the fragmentation, return by return. Assumes nothing.
use Rattle.std.specs.Prelude.{ℕ, ◌≡◌, true, List, ℤ, pos, length}
use Rattle.std.proofs.Common.{sym, ap}
use Rattle.model.specs.Fragments.{free_cells, connected_sets, degree}
use Rattle.model.specs.Record.{device_of, book_of}
use Rattle.model.specs.Sound.{sound}
use Rattle.model.specs.OnRecord.{Fragmentation, measured, fragmentation}
use Rattle.model.proofs.Laws.OnRecord.{fragmentation_done}
use Rattle.card.specs.Leaves.{Tells}

-- m has these three numbers and this record
tells : {m : Fragmentation} {a f g : ℤ} {r : List ℕ} → m ≡ record { answer = a; free = f; degree = g; state = r } → Tells m a f g r
tells e =
    record {
      answer_is = sym (ap (λ (m : Fragmentation). m.answer) e);
      free_is = sym (ap (λ (m : Fragmentation). m.free) e);
      degree_is = sym (ap (λ (m : Fragmentation). m.degree) e);
      record_is = sym (ap (λ (m : Fragmentation). m.state) e);
    }

-- the numbers as the code has them
module _ (r : List ℕ) (s : sound r ≡ true) (n f g : ℕ) (sets-is : n ≡ connected_sets (device_of r) (book_of r)) (free_is : f ≡ length (free_cells (device_of r) (book_of r)))
    (degree_is : g ≡ degree n f) where
  pub fragmentation_told : Tells (fragmentation r) (pos n) (pos f) (pos g) r
  unfolding measured
  fragmentation_told = rw (degree_is, sets-is, free_is) (tells (fragmentation_done r s))

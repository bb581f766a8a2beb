-- MODEL 12.5: release, return by return. Assumes nothing.
use Rattle.std.specs.Prelude.{ℕ, ◌≡◌, true, false, List, [], pos}
use Rattle.model.specs.Record.{record_of, device_of, book_of}
use Rattle.model.specs.Sound.{sound}
use Rattle.model.specs.Calls.{release, refused, refusals, without, runs_in, done}
use Rattle.model.specs.OnRecord.{written, on_record}
use Rattle.model.proofs.Laws.WriteBack.{Bytes}
use Rattle.model.proofs.Laws.OnRecord.{refused_call, done_call}
use Rattle.card.specs.declared.refusal.Refusal.TheVariants.{NotRunning}
use Rattle.card.specs.Checks.{Refused, Releasing}

module _ (r : List ℕ) (n : ℕ) where
  pub release_not : sound r ≡ true → Bytes r → runs_in (book_of r) n ≡ false → Refused r (release n) NotRunning
  unfolding refused refusals
  release_not s B e = refused_call r (release n) s B 11 (rw e)

  pub release_done : Releasing r n → on_record r (release n) ≡ record { answer = pos 0; output = []; state = record_of (device_of r) (without n (book_of r)) }
  unfolding refused refusals written done
  release_done x = done_call r (release n) x.sound (rw x.runs)

-- MODEL 3.3 and 8.7: kind bytes tested one by one, and the device that a record's bytes say. Assumes nothing.
use Rattle.std.specs.Prelude.{ℕ, ◌+◌, ◌-◌, ◌<◌, ◌≡◌, refl, Bool, ◌&&◌, List, [], ◌∷◌, length, get_or, take, drop}
use Rattle.std.specs.List.{list_all}
use Rattle.std.proofs.Common.{sym, ap, arith}
use Rattle.std.proofs.Math.Nat.{add-sub_cancel_left}
use Rattle.model.specs.Limits.{record_size, rows_at, columns_at, kinds_at}
use Rattle.model.specs.Tasks.{word}
use Rattle.model.specs.Record.{part, device_of}
use Rattle.model.specs.Bounded.{all_in}
use Rattle.model.proofs.Laws.Parts.{list_parts}

-- the library's test of all elements is the model's
pub all_listed : (p : ℕ → Bool) (ks : List ℕ) → list_all p ks ≡ all_in p ks
unfolding all_in
all_listed p [] = refl
all_listed p (k ∷ ks) = ap (λ (q : Bool). p k && q) (all_listed p ks)

-- the device that r says, by its kind bytes
pub device_said : (r : List ℕ) (n k : ℕ) → length r ≡ record_size → n ≡ word r rows_at → k ≡ get_or r columns_at 0 → k < 256
    → record { rows = n; kinds = take (kinds_at + k - kinds_at) (drop kinds_at r) } ≡ device_of r
unfolding device_of part
device_said r n k l p q h =
    rw (add-sub_cancel_left, p, ← q) (ap (λ (ks : List ℕ). record { rows = word r rows_at; kinds = ks }) (sym (list_parts r kinds_at k 0 (omega arith))))

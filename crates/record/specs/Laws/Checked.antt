-- MODEL 9.1: what a sound record says of its columns, for the methods of `SoundRecord`. Assumes nothing.
use Rattle.std.specs.Prelude.{ℕ, ◌+◌, ◌≤◌, ◌<◌, ◌≡◌, refl, true, Result, Ok, Err, List, length, get_or}
use Rattle.std.specs.Result.{IsOk}
use Rattle.std.proofs.Common.{sym, arith}
use Rattle.model.specs.Limits.{max_columns, max_running, max_kind, running_at, kinds_at}
use Rattle.model.specs.Columns.{columns, kind, device_ok}
use Rattle.model.specs.Record.{device_of, book_of}
use Rattle.model.specs.Sound.{sound, count_of}
use Rattle.model.specs.Kinds.{kind_of}
use Rattle.model.specs.declared.Kind.{Kind}
use Rattle.model.specs.declared.UnknownKind.{UnknownKind}
use Rattle.model.proofs.Laws.Kinds.{kind_unknown}
use Rattle.model.proofs.Laws.Limits.{limits_to, kind_le, within_device}
use Rattle.model.proofs.Laws.Sound.{columns_said, running_said, kind_read, sound_within}
use Rattle.column.specs.Part.{Part}
use Rattle.column.specs.Laws.Lent.{lent, lent_is}
use Rattle.record.specs.Laws.Fits.{sound_listed}

module _ (r : List ℕ) (s : sound r ≡ true) where
  pub columns_few : columns (device_of r) ≤ max_columns
  columns_few = (limits_to (device_of r) (book_of r) (sound_within r s)).columns

  pub running_few : length (book_of r) ≤ max_running
  running_few = (limits_to (device_of r) (book_of r) (sound_within r s)).few

  pub device_whole : device_ok (device_of r) ≡ true
  device_whole = within_device (device_of r) (book_of r) (sound_within r s)

  -- by the byte that counts them
  pub running_small : get_or r running_at 0 ≤ max_running
  running_small = omega (arith, running_said r, running_few)

  -- the kind byte of a column
  pub kind_byte : (c : ℕ) → c < columns (device_of r) → get_or r (kinds_at + c) 0 ≡ kind (device_of r) c
  kind_byte c l = sym (kind_read r c (omega (arith, columns_said r)))

  pub kind_small : (c : ℕ) → c < columns (device_of r) → get_or r (kinds_at + c) 0 ≤ max_kind
  kind_small c l = rw (kind_byte c l) (kind_le (device_of r) (book_of r) (limits_to (device_of r) (book_of r) (sound_within r s)) c)

  -- column c's part has room for as many intervals as its count says
  pub column_lent : (c : ℕ) → c < max_columns → Part (lent r c) (count_of r c)
  column_lent c l = let x = sound_listed r c s l in lent_is r c x.size x.column x.few

-- a kind byte up to 2 is known
pub known_byte : (n : ℕ) (k : Result Kind UnknownKind) → k ≡ kind_of n → n ≤ max_kind → IsOk k
known_byte n (Ok k) e l = refl
known_byte n (Err u) e l = let (is, above) = kind_unknown n (Err u) u e refl in absurd (omega arith)

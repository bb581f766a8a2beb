-- MODEL 18.10: a block call's bytes are read back as the block that it says. Assumes nothing.
use Rattle.std.specs.Prelude.{ℕ, ◌+◌, ◌*◌, ◌/◌, ◌%◌, ◌≤◌, ◌<◌, ◌≡◌, List, length, ℤ, pos, negsuc}
use Rattle.std.proofs.Math.Path.{refl, sym, ap}
use Rattle.std.proofs.Common.{◌∙◌, add-zero, SFits, to_z, of_z}
use native.Mathlib.Omega.{arith}
use Rattle.std.proofs.Math.ListN.{get_or}
use Rattle.std.specs.Int.Signed.{mag}
use mir.Syntax.{w16}
use Rattle.std.proofs.Math.Facts.{to_z-of_z}
use Rattle.model.specs.Limits.{block_size, block_bottom_at, block_top_at}
use Rattle.model.specs.Tasks.{word, lifted, block}
use Rattle.model.specs.Kinds.{number_of}
use Rattle.model.specs.Record.{bytes16}
use Rattle.model.specs.Program.{block_bytes}
use Rattle.model.specs.Parts.{splice}
use Rattle.model.proofs.Laws.Parts.{part_splice, get_d_part}
use Rattle.line.specs.Block.{call_bytes}
use Rattle.line.specs.declared.call.BlockCall.{BlockCall}

-- two's complement has two bytes
bits_small : (z : ℤ) → mag z < 32768 → of_z w16 z < 65536
bits_small (pos n) h = omega arith
bits_small (negsuc n) h = omega arith

-- ---- read back

module _ (r : List ℕ) (i : ℕ) (b : BlockCall) (fits : block_size * i + block_size ≤ length r) (f : SFits w16 b.bottom) (g : SFits w16 b.top) where
  written : List ℕ
  written = splice r (block_size * i) block_size (call_bytes b)

  byte : (k : ℕ) → k < block_size → get_or written (block_size * i + k) 0 ≡ get_or (call_bytes b) k 0
  unfolding written block_bytes bytes16
  byte k h = sym (get_d_part written (block_size * i) block_size k 0 h) ∙ ap (λ p. get_or p k 0) (part_splice r (block_size * i) block_size (call_bytes b) fits refl)

  first_byte : get_or written (block_size * i) 0 ≡ b.column
  unfolding block_bytes
  first_byte = sym (ap (λ n. get_or written n 0) (add-zero (block_size * i))) ∙ byte 0 (omega arith)

  second_byte : get_or written (block_size * i + 1) 0 ≡ number_of b.kind
  unfolding block_bytes
  second_byte = byte 1 (omega arith)

  word_at : (k n : ℕ) → k + 1 < block_size → n < 65536 → get_or (call_bytes b) k 0 ≡ n % 256 → get_or (call_bytes b) (k + 1) 0 ≡ n / 256 % 256 → word written (block_size * i + k) ≡ n
  unfolding word
  word_at k n h l p q =
      let e : block_size * i + k + 1 ≡ block_size * i + (k + 1) = omega arith in
      rw (e, byte k (omega arith), byte (k + 1) h, p, q) (omega arith)

  bottom_read : word written (block_size * i + 2) ≡ of_z w16 b.bottom
  unfolding block_bytes bytes16
  bottom_read = word_at 2 (of_z w16 b.bottom) (omega arith) (bits_small b.bottom f.sfits) refl refl

  top_read : word written (block_size * i + 4) ≡ of_z w16 b.top
  unfolding block_bytes bytes16
  top_read = word_at 4 (of_z w16 b.top) (omega arith) (bits_small b.top g.sfits) refl refl

  -- block i of the draft is the block that the call says, with its bottom and top in two's complement
  pub block_read : block (splice r (block_size * i) block_size (call_bytes b)) i
      ≡ record { column = b.column; kind = number_of b.kind; low = lifted (of_z w16 b.bottom); high = lifted (of_z w16 b.top) }
  unfolding block written
  block_read = rw (first_byte, second_byte, bottom_read, top_read)

  -- and its bottom and top are the values that the call has
  pub values_read : let t = splice r (block_size * i) block_size (call_bytes b) in
      (to_z w16 (word t (block_size * i + block_bottom_at)) ≡ b.bottom) × (to_z w16 (word t (block_size * i + block_top_at)) ≡ b.top)
  unfolding written
  values_read = rw (bottom_read, top_read) (to_z-of_z {w = w16} f, to_z-of_z {w = w16} g)

-- A refusal's number is below 0. Assumes nothing.
use Rattle.std.specs.Prelude.{ℕ, ◌≡◌, pos}
use Rattle.card.specs.declared.refusal.Refusal.{Refusal}
use Rattle.card.specs.declared.refusal.Refusal.TheVariants.{RecordLength, RecordNotSound, DeviceOrColumn, TaskLength, TaskNotWellFormed, OutputShort, BadNumber, Full, NoPosition, Misfit, NotRunning}
use Rattle.card.specs.Refusals.{number_of}

pub refused_below : (e : Refusal) (n : ℕ) → number_of e ≡ pos n → ⊥
refused_below RecordLength n h = cc
refused_below RecordNotSound n h = cc
refused_below DeviceOrColumn n h = cc
refused_below TaskLength n h = cc
refused_below TaskNotWellFormed n h = cc
refused_below OutputShort n h = cc
refused_below BadNumber n h = cc
refused_below Full n h = cc
refused_below NoPosition n h = cc
refused_below Misfit n h = cc
refused_below NotRunning n h = cc

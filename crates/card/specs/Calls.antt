-- MODEL 15: what the exported calls promise together, the two theorems over whole histories (model/proofs/Laws/History.antt), under their names.
-- Each function of src/lib.rt promises the answer, by its number, and every lent byte of `new`, `on_record`, `interval_count` or `fragmentation` (model/specs/OnRecord.antt), and has
-- no `requires` (MODEL 21.1). `on_record` is also the step of `on_records`, so what the theorems say of `on_records` is what a list of calls of these
-- functions does.
-- Assumes nothing.

-- `history`, MODEL 15.1 to 15.9: for any bytes that new was lent, any device that it answered 0 for, and any list of calls that follows.
-- `same_tasks_same_record`, MODEL 15.8: of two such lists on one device.
pub use Rattle.model.proofs.Laws.History.{history, same_tasks_same_record}

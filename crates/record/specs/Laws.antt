-- What is proved of devices, entries and columns, and of a record that is cleared, entered and searched.
pub mod Device
pub mod Clear
-- entries
pub mod Said
pub mod Entries
pub mod Moved
pub mod Shifted
-- columns
pub mod Columns
pub mod Walk
pub mod Cut
pub mod Join
-- the record's calls
pub mod Enter
pub mod Fits
pub mod Checked

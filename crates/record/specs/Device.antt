-- MODEL 3.2: the code's device and the model's. Assumes nothing.
use Rattle.model.specs.Columns as model
use Rattle.record.specs.declared.device.Device.{Device}

-- a device of the code, as the model has it
abbrev pub as_device : Device → model.Device
as_device d = record { rows = d.rows; kinds = d.kinds.now }

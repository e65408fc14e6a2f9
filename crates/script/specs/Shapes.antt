-- The device that a script asks for, as numbers.
use Rattle.script.specs.declared.shape.Shape.{Shape}
use Rattle.script.specs.Reading.{DeviceShape}

abbrev pub asked_by : Shape → DeviceShape
asked_by shape = record { functions = shape.functions; memory_size = shape.memory_size; limit = shape.limit }

-- The numbers of faults, and who finds them.
use Rattle.std.specs.Prelude.{ℕ}
use Rattle.machine.specs.declared.fault.Fault.{Fault}
use Rattle.machine.specs.declared.fault.Fault.TheVariants.{OutOfFuel, WriteFailure, FrameLimit, Full, TemplateNotFound, BadExtend, EighthLoad, UnknownBlock, RequiredBlock, BadSuper, BadLoop, Unknown, Host, HostFull}
use Rattle.machine.specs.declared.fault.Layer.{Layer}

abbrev pub number : Fault → ℕ
number OutOfFuel = 20
number WriteFailure = 21
number FrameLimit = 22
number Full = 23
number TemplateNotFound = 24
number BadExtend = 25
number EighthLoad = 26
number UnknownBlock = 27
number RequiredBlock = 28
number BadSuper = 29
number BadLoop = 30
number Unknown = 31
number (Host n) = 32
number HostFull = 33

abbrev pub layer : Fault → Layer
layer OutOfFuel = Layer.Machine
layer WriteFailure = Layer.Sink
layer FrameLimit = Layer.Machine
layer Full = Layer.Machine
layer TemplateNotFound = Layer.Machine
layer BadExtend = Layer.Machine
layer EighthLoad = Layer.Machine
layer UnknownBlock = Layer.Machine
layer RequiredBlock = Layer.Machine
layer BadSuper = Layer.Machine
layer BadLoop = Layer.Machine
layer Unknown = Layer.Machine
layer (Host n) = Layer.Host
layer HostFull = Layer.Host

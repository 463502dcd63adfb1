-- The numbers of the reasons for a fault.
use Rattle.std.specs.Prelude.{ℕ}
use Rattle.hosts.specs.declared.reason.Reason.{Reason}
use Rattle.hosts.specs.declared.reason.Reason.TheVariants.{NoSuchValue, WrongKind, Overflow, NoSuchOperation, Undefined, NotIterable, NoText, NotCallable, BadArguments, NoLists}

abbrev pub number : Reason → ℕ
number NoSuchValue = 1
number WrongKind = 2
number Overflow = 3
number NoSuchOperation = 4
number Undefined = 5
number NotIterable = 6
number NoText = 7
number NotCallable = 8
number BadArguments = 9
number NoLists = 10

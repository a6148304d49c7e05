-- How a run ends, and with which number.
use Rattle.std.specs.Prelude.{◌≢◌, ℕ}
use Rattle.commands.specs.declared.status.Status.{Status}
use Rattle.commands.specs.declared.status.Status.TheVariants.{AllProved, SomeUnproved, NoneFailed, SomeFailed, Certified, CheckPassed, CheckFailed, CostsTold, NoGlobal, Told, WrongWords, Refused, SourceFailed, SinkFailed, WantOfMemory, WrongInput, TooLong}

-- the number with which the program exits, from 0 to 10
abbrev pub code_of : Status → ℕ
code_of AllProved = 0
code_of SomeUnproved = 1
code_of NoneFailed = 0
code_of SomeFailed = 1
code_of Certified = 0
code_of CheckPassed = 0
code_of CheckFailed = 8
code_of CostsTold = 0
code_of NoGlobal = 10
code_of Told = 0
code_of WrongWords = 2
code_of Refused = 3
code_of SourceFailed = 4
code_of SinkFailed = 5
code_of WantOfMemory = 6
code_of WrongInput = 7
code_of TooLong = 9

-- a status that answers the words and the input, and tells no fault of the source, the sink or
-- memory
abbrev pub IsAnswer : Status → Type 0
IsAnswer status = (status ≢ SourceFailed) × (status ≢ SinkFailed) × (status ≢ WantOfMemory)

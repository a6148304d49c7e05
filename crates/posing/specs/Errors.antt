-- An oracle's error as one of a call that asks it.
use Rattle.farkas_check.specs.declared.oracle.AskError.{AskError}
use Rattle.farkas_check.specs.declared.oracle.AskError.TheVariants as asked
use Rattle.posing.specs.declared.error.WorkError.{WorkError}
use Rattle.posing.specs.declared.error.WorkError.TheVariants.{Refused, Memory}

-- a refusal is a refusal, and want of memory is want of memory
abbrev pub work_error : AskError → WorkError
work_error asked.Refused = Refused
work_error asked.Memory = Memory

-- What is known of a call's answer by a law of its computation.
use Rattle.std.proofs.Common.{Result, Ok, Err}
use Rattle.std.specs.Prelude.{IfOk}
use Rattle.farkas_check.specs.Asking.{Asking}
use Rattle.posing.specs.Follows.{Follows}
use Rattle.posing.specs.Posing.{Posing, Always}
use Rattle.posing.specs.declared.error.WorkError.{WorkError}
use Rattle.posing.specs.declared.log.Log.{Log}
use Rattle.posing.proofs.Steps.{value_has}

pub result_has : {S A : Type 0} {O : Asking S} {old new : S} {before after : Log} {p : Posing A} (P : A → Type 0) (r : Result A WorkError) → Follows O old new before after r p → Always P p → IfOk r P
result_has P (Ok value) follows holds = value_has P follows holds
result_has P (Err error) follows holds = tt

-- What a call answers, where every error is exact but want of memory.
--
-- The answer that a call should give is stated by a function on plain values, into a `Result`: the
-- value, or the first fault. A call may answer want of memory in its place, and nothing else.
use Rattle.std.specs.Prelude.{◌≡◌, Option, None, Some, Result, Ok, Err}
use Rattle.std.specs.Result.{result_map_both}

infixl 10 ◌>>=◌
-- a step after a step: the first fault is the fault of both
abbrev pub ◌>>=◌ : {A B E : Type 0} → Result A E → (A → Result B E) → Result B E
(Ok x) >>= next = next x
(Err e) >>= next = Err e

-- a stated answer with its fault told in a caller's terms
abbrev pub err_map : {A E F : Type 0} → (E → F) → Result A E → Result A F
err_map as_fault = result_map_both (λ x. x) as_fault

-- An error stands for a fault of the stated answer, or for none: then it is want of memory, which
-- is free.
abbrev pub FailsBy : {Y F : Type 0} → Option F → Result Y F → Type 0
FailsBy None stated = Unit {0}
FailsBy (Some fault) stated = stated ≡ Err fault

-- The call answered what is stated, its value as `view` shows it and its error as `cause` reads it.
abbrev pub Gives : {X Y E F : Type 0} → (E → Option F) → (X → Y) → Result X E → Result Y F → Type 0
Gives cause view (Ok x) stated = stated ≡ Ok (view x)
Gives cause view (Err e) stated = FailsBy (cause e) stated

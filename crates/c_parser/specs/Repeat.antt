-- A step that is taken as long as a test holds, and while what it works on gets smaller.
use Rattle.std.specs.Prelude.{ℕ, zero, suc, nat_lt, Bool, Result, Ok, Err, if◌then◌else◌}
use Rattle.items.specs.Gives.{◌>>=◌}
use Rattle.c_parser.specs.declared.error.ParseError.{ParseError}
use Rattle.c_parser.specs.declared.error.ParseError.TheVariants.{Syntax}

-- `again` at a state whose size is below `bound`, or a refusal at 0 where it is not
abbrev pub go_on : {S : Type 0} → (S → ℕ) → ℕ → (S → Result S ParseError) → S → Result S ParseError
go_on size bound again state = if nat_lt (size state) bound then again state else Err (Syntax 0)

-- at most so many steps
abbrev pub repetition : {S : Type 0} → (S → ℕ) → (S → Bool) → (S → Result S ParseError) → ℕ → S
    → Result S ParseError
repetition size test step zero state = Err (Syntax 0)
repetition size test step (suc times) state =
    if test state then (step state >>= go_on size (size state) (repetition size test step times))
    else Ok state

-- the first state at which the test fails, after steps that each make it smaller, or a refusal
unfoldable pub repeat : {S : Type 0} → (S → ℕ) → (S → Bool) → (S → Result S ParseError) → S
    → Result S ParseError
repeat size test step state = repetition size test step (suc (size state)) state

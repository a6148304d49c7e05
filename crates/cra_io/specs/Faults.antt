-- Counts of faults.
use Rattle.std.specs.Prelude.{◌≡◌, ℕ, ◌≤◌, Result, OnOk, OnErr}
use Rattle.whole_numbers.specs.Counters.{Rose}

-- a call's answer against the count of faults before it and after it: the count never falls, an
-- error comes only where it rose, and an `Ok` leaves it as it was
pub record HasCause {A E : Type 0} (before now : ℕ) (result : Result A E) : Type 0 where
  pub later : before ≤ now
  pub failed : OnErr result (Rose before now)
  pub ok : OnOk result (now ≡ before)

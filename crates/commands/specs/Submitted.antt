-- What comes of one text that is submitted to a session of a rule which has accepted none.
use Rattle.std.specs.Prelude.{◌≡◌, ℕ, List, Result, Ok, Err}
use Rattle.farkas_check.specs.Asking.{Asking}
use Rattle.posing.specs.Follows.{with_all}
use Rattle.summary_cache.specs.declared.error.SubmitError.{SubmitError}
use Rattle.summary_cache.specs.declared.last.Analysed.{Analysed}
use Rattle.summary_cache.specs.First.{IsFirstCause}
use Rattle.summary_cache.specs.Stated.{IsAnalysedBy}

-- The text is analysed under the answers that the oracle had next, or there is a cause why it is
-- not.
abbrev pub IsSubmitted : {S : Type 0} → Asking S → ℕ → S → S → List ℕ → Result Analysed SubmitError
    → Type 0
IsSubmitted O rule old new text (Ok last) = IsAnalysedBy O.allows rule text last.answers last.report
    × (O.left old ≡ with_all last.answers (O.left new))
IsSubmitted O rule old new text (Err error) = IsFirstCause O rule old new text error

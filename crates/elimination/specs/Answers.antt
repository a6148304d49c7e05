-- What an answer is.
use Rattle.std.specs.Prelude.{◌≡◌, Bool, true, false}
use Rattle.farkas_check.specs.declared.answer.Answer.{Answer}
use Rattle.farkas_check.specs.declared.answer.Answer.TheVariants as answer
use Rattle.farkas_check.specs.declared.answer.Limit.TheVariants as limit

-- the search has no further step
abbrev pub IsPivots : Answer → Type 0
IsPivots a = a ≡ answer.Limit limit.Pivots

-- some point makes the rows true
abbrev pub is_no : Answer → Bool
is_no (answer.No point) = true
is_no (answer.Yes by) = false
is_no (answer.Bound at certs case point) = false
is_no (answer.Unbounded case point ray) = false
is_no (answer.Basis relations spots free) = false
is_no (answer.Limit l) = false

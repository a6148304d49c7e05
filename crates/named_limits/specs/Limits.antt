-- The limits that stand in answers and in notes, and when two lists have the same ones.
use Rattle.std.specs.Prelude.{◌≡◌, ℕ, ◌+◌, Bool, List, [], ◌∷◌, cond}
use Rattle.std.specs.List.{flat_map}
use Rattle.farkas_check.specs.declared.answer.Answer.{Answer}
use Rattle.farkas_check.specs.declared.answer.Answer.TheVariants as answer
use Rattle.farkas_check.specs.declared.answer.Limit.{Limit}
use Rattle.posing.specs.declared.note.Note.{Note}
use Rattle.posing.specs.declared.note.Note.TheVariants as note
use Rattle.posing.specs.declared.note.Witness.{Witness}
use Rattle.posing.specs.declared.note.Witness.TheVariants as witness

-- ---- where limits stand

-- the limit that an answer is
abbrev pub limit_given : Answer → List Limit
limit_given (answer.Yes by) = []
limit_given (answer.No point) = []
limit_given (answer.Bound at certs case point) = []
limit_given (answer.Unbounded case point ray) = []
limit_given (answer.Basis relations spots free) = []
limit_given (answer.Limit limit) = limit ∷ []

-- the limits that answers are, in their order
abbrev pub limits_given : List Answer → List Limit
limits_given answers = flat_map limit_given answers

-- the limit for which a row was dropped
abbrev pub limit_by : Witness → List Limit
limit_by (witness.Point of at) = []
limit_by (witness.Limit limit) = limit ∷ []

-- the limit that a note tells
abbrev pub limit_told : Note → List Limit
limit_told (note.Loss loss) = []
limit_told (note.Squash cases) = []
limit_told (note.Cut rows) = []
limit_told (note.Limit limit) = limit ∷ []
limit_told (note.Dropped proc row by) = limit_by by
limit_told note.Facets = []

-- the limits that notes tell, in their order
abbrev pub limits_told : List Note → List Limit
limits_told notes = flat_map limit_told notes

-- ---- the same limits

-- how many of these limits pass a test
abbrev pub count : (Limit → Bool) → List Limit → ℕ
count test [] = 0
count test (limit ∷ limits) = cond (test limit) 1 0 + count test limits

-- The same limits, each as often, in whatever order: whichever limits are counted, there are as
-- many of them in the one list as in the other.
pub record AreSame (limits others : List Limit) : Type 0 where
  pub same : (test : Limit → Bool) → count test limits ≡ count test others

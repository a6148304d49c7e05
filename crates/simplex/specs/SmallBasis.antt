-- What a search for relations finds on a calm question has small numbers.
use Rattle.std.specs.Prelude.{◌≡◌, ℕ, ◌^◌, ◌<◌, ◌≤◌, ℤ, pos, ◌*ℤ◌, ◌<ℤ◌, unsigned_abs, List, length, get_or, Ok, ⊤}
use Rattle.std.specs.List.{AllByRecursion}
use Rattle.linear_terms.specs.declared.col.Col.{Col}
use Rattle.linear_terms.specs.Polynomial.{Polynomial}
use Rattle.farkas_check.specs.Calm.{IsCalm, IsCalmStratum}
use Rattle.farkas_check.specs.Ratios.{Fraction, IsLowest, whole}
use Rattle.farkas_check.specs.Relations.{Changes, numbers_of, stratum_columns, unknown_count}
use Rattle.farkas_check.specs.declared.answer.Answer.{Answer}
use Rattle.farkas_check.specs.declared.answer.Answer.TheVariants as answer
use Rattle.farkas_check.specs.declared.answer.Cert.{Cert}
use Rattle.farkas_check.specs.declared.question.Question.TheVariants.{Stratum}
use Rattle.farkas_check.specs.declared.stratum.Change.{Change}
use Rattle.farkas_check.specs.declared.stratum.Relation.{Relation}
use Rattle.farkas_check.specs.declared.stratum.Spot.{Spot}
use Rattle.farkas_check.specs.declared.stratum.Tie.{Tie}
use Rattle.simplex.specs.Calm.{IsSmallLine}
use Rattle.simplex.specs.CalmStrata.{IsCalmAsked}
use Rattle.simplex.specs.Refusal.{LeavesBits}
use Rattle.simplex.specs.Spots.{AreSpotLines, multiples_from}
use Rattle.simplex.specs.StrataSteps.{IsSearchStep}
use Rattle.simplex.specs.declared.differences.Bond.{Bond}
use Rattle.simplex.specs.declared.differences.Bond.TheVariants as bond
use Rattle.simplex.specs.declared.differences.DifferenceHalf.{DifferenceHalf}
use Rattle.simplex.specs.declared.differences.DifferenceHalf.TheVariants as half
use Rattle.simplex.specs.declared.differences.StrataQuestion.{StrataQuestion}
use Rattle.simplex.specs.declared.stop.SearchStop.{SearchStop}
use Rattle.simplex.specs.declared.stop.SearchStop.TheVariants.{Wide, Memory}
use Rattle.simplex.specs.declared.strata.Course.{Course}
use Rattle.simplex.specs.declared.strata.Course.TheVariants as course
use Rattle.simplex.specs.declared.strata.RelationVerdict.{RelationVerdict}
use Rattle.simplex.specs.declared.strata.RelationVerdict.TheVariants as verdict

-- each number is at most so great in size
abbrev pub AreAtMost : ℕ → List ℤ → Type 0
AreAtMost most numbers = AllByRecursion (λ z. unsigned_abs z ≤ most) numbers

-- the scales and multipliers of a tie are at most 2 ^ 20
pub record IsSmallTie (tie : Tie) : Type 0 where
  pub up_scale : unsigned_abs tie.up_scale ≤ 1048576
  pub up : AreAtMost 1048576 tie.up
  pub down_scale : unsigned_abs tie.down_scale ≤ 1048576
  pub down : AreAtMost 1048576 tie.down

-- the same of a relation's numbers and its ties
pub record IsSmallRelation (relation : Relation) : Type 0 where
  pub numbers : AreAtMost 1048576 (numbers_of relation)
  pub ties : AllByRecursion IsSmallTie relation.ties

-- a ratio in lowest terms that stands for a numerator over a denominator
pub record IsPartOf (r : Fraction) (numerator over : ℤ) : Type 0 where
  pub same : r.num *ℤ over ≡ numerator *ℤ r.den
  pub lowest : IsLowest r

-- a spot's numbers over a common denominator of at most 2 ^ 40: a corner, or a corner and a ray
pub record IsSmallSpot (spot : Spot) : Type 0 where
  pub over : ℤ
  pub numerators : ℕ → ℤ
  pub above : pos 0 <ℤ over
  pub over_small : unsigned_abs over ≤ 1099511627776
  pub small : (j : ℕ) → j < length spot.at → unsigned_abs (numerators j) ≤ 2199023255552
  pub are : (j : ℕ) → j < length spot.at
      → IsPartOf (get_or spot.at j (whole (pos 0))) (numerators j) over

-- the multiples of the spots' differences that a line of small numbers gives, over its own number
pub record IsSmallUnitList (count : ℕ) (scales : List ℤ) (by : List Fraction) : Type 0 where
  pub line : List ℤ
  pub own : ℤ
  pub above : pos 0 <ℤ own
  pub own_small : unsigned_abs own ≤ 1048576
  pub line_small : IsSmallLine 1048576 line
  pub is : multiples_from line own count scales ≡ Ok by

-- a basis of small numbers, with the lines of its spots under the unknowns
pub record IsSmallBasis (cs : List (List Col)) (cases : List Change) (lower : List Polynomial)
    (relations : List Relation) (spots : List Spot) (free : List (List Fraction)) : Type 0 where
  pub few_columns : length cs < 2 ^ 64
  pub few_unknowns : unknown_count cases lower < 2 ^ 61
  pub few_spots : length spots ≤ unknown_count cases lower
  pub relations_small : AllByRecursion IsSmallRelation relations
  pub spots_small : AllByRecursion IsSmallSpot spots
  pub lines : List (List ℤ)
  pub scales : List ℤ
  pub are_lines : AreSpotLines cs cases lower spots lines scales
  pub lines_small : AllByRecursion (IsSmallLine 1048576) lines
  pub scales_small : AreAtMost 1048576 scales
  pub free_small : AllByRecursion (IsSmallUnitList (unknown_count cases lower) scales) free

-- the same where a basis is found
abbrev pub IsSmallFound : List (List Col) → List Change → List Polynomial → Answer → Type 0
IsSmallFound cs cases lower (answer.Basis relations spots free) =
    IsSmallBasis cs cases lower relations spots free
IsSmallFound cs cases lower (answer.Limit l) = ⊤
IsSmallFound cs cases lower (answer.Yes by) = ⊤
IsSmallFound cs cases lower (answer.No point) = ⊤
IsSmallFound cs cases lower (answer.Bound at certs case point) = ⊤
IsSmallFound cs cases lower (answer.Unbounded case point ray) = ⊤

-- a case has no more rows than memory holds
pub record HasFewRows (case : Change) : Type 0 where
  pub few : length case.rows < 2 ^ 64

-- what the search finds where the question is calm
pub record IsSmallWhereCalm (asked : Changes) (a : Answer) : Type 0 where
  pub small : IsCalm (Stratum asked)
      → IsSmallFound (stratum_columns asked.cases asked.lower) asked.cases asked.lower a

-- a step of the search that leaves 128 bits, where the question is not calm
abbrev pub IsRefusalOver : Changes → SearchStop → Type 0
IsRefusalOver asked (Wide step) = LeavesBits step × (IsCalm (Stratum asked) → ⊥)
    × IsSearchStep (stratum_columns asked.cases asked.lower) asked.cases asked.lower step
IsRefusalOver asked Memory = ⊤

-- ---- what the steps of the search find, where the question is calm

-- the scale and the multipliers of a certificate are small
pub record HasSmallMultipliers (s : StrataQuestion) (cert : Cert) : Type 0 where
  pub scale : IsCalmAsked s → unsigned_abs cert.scale ≤ 1048576
  pub by : IsCalmAsked s → AreAtMost 1048576 cert.by

-- the tie is small where the question is calm
pub record HasSmallTie (s : StrataQuestion) (tie : Tie) : Type 0 where
  pub small : IsCalmAsked s → IsSmallTie tie

-- each of the ties is small where the question is calm
pub record HasSmallTies (s : StrataQuestion) (ties : List Tie) : Type 0 where
  pub small : IsCalmAsked s → AllByRecursion IsSmallTie ties

-- the certificate of a half, if it has one, is small where the question is calm
abbrev pub HasSmallHalf : StrataQuestion → DifferenceHalf → Type 0
HasSmallHalf s (half.Tied cert) = HasSmallMultipliers s cert
HasSmallHalf s (half.Apart at) = ⊤
HasSmallHalf s half.Pivots = ⊤

-- the tie of a case, if it has one, is small where the question is calm
abbrev pub HasSmallBond : StrataQuestion → Bond → Type 0
HasSmallBond s (bond.Tied tie) = HasSmallTie s tie
HasSmallBond s (bond.Apart at) = ⊤
HasSmallBond s bond.Pivots = ⊤

-- the ties of a relation, if it is tied in each case, are small where the question is calm
abbrev pub HasSmallVerdict : StrataQuestion → RelationVerdict → Type 0
HasSmallVerdict s (verdict.Tied ties) = HasSmallTies s ties
HasSmallVerdict s (verdict.Apart place at) = ⊤
HasSmallVerdict s verdict.Pivots = ⊤

-- the basis of an answer, if it is one, is small where the question is calm
pub record IsSmallIn (s : StrataQuestion) (a : Answer) : Type 0 where
  pub small : IsCalmAsked s → IsSmallFound s.columns.now s.cases.now s.lower.now a

-- the basis with which a search ends, if it ends with one, is small where the question is calm
abbrev pub HasSmallEnd : StrataQuestion → Course → Type 0
HasSmallEnd s (course.On known) = ⊤
HasSmallEnd s (course.End a) = IsSmallIn s a

-- the basis of an answer, if it is one, is small where the cases, at most 2 ^ 32 of them, and the
-- lower terms are calm over the columns
pub record IsSmallOver (cs : List (List Col)) (cases : List Change) (lower : List Polynomial)
    (a : Answer) : Type 0 where
  pub small : length cases ≤ 4294967296 → IsCalmStratum cs cases lower
      → IsSmallFound cs cases lower a

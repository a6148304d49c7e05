-- Words of the steps that answer a stratum question of small numbers.
use Rattle.std.specs.Prelude.{◌≡◌, ℕ, List, [], length, slice_get, Some}
use Rattle.std.specs.List.{AllByRecursion}
use Rattle.linear_terms.specs.declared.col.Col.{Col}
use Rattle.farkas_check.specs.declared.answer.Answer.{Answer}
use Rattle.farkas_check.specs.declared.question.Question.TheVariants.{Stratum}
use Rattle.farkas_check.specs.declared.stratum.Change.{Change}
use Rattle.farkas_check.specs.Meaning.{IsLimit}
use Rattle.farkas_check.specs.Relations.{Changes}
use Rattle.farkas_check.specs.Sizes.{HasRoom}
use Rattle.farkas_check.specs.Stratum.{rows_of}
use Rattle.farkas_check.specs.Tested.{Passes}
use Rattle.elimination.specs.declared.inner.Inner.{Inner}
use Rattle.elimination.specs.declared.probes.Probe.{Probe}
use Rattle.elimination.specs.Descents.{HasColumns}
use Rattle.elimination.specs.Narrow.{IsSmallCase}
use Rattle.elimination.specs.Probes.{IsProbe, IsInner}

-- an answer that passes and is no limit
pub record IsPassingBasis (asked : Changes) (a : Answer) : Type 0 where
  pub passes : Passes (Stratum asked) a
  pub basis : IsLimit a → ⊥

-- some case leaves no room in some direction
abbrev pub LacksRoom : List Change → Type 0
LacksRoom cases = AllByRecursion HasRoom cases → ⊥

-- small rows over the columns of the question
pub record IsSmallOverColumns (cs : List (List Col)) (case : Change) : Type 0 where
  pub small : IsSmallCase 4 case.rows []
  pub columns : HasColumns cs case.rows

-- probes of cases whose rows are small
pub record AreProbes (cs : List (List Col)) (cases : List Change)
    (probes : List Probe) : Type 0 where
  pub probes_too : AllByRecursion (IsProbe cs cases) probes
  pub rows : AllByRecursion (IsSmallOverColumns cs) cases

-- an inner point for each of the first so many probes, one of the rows of its case
pub record AreInnersTo (cs : List (List Col)) (cases : List Change) (probes : List Probe)
    (count : ℕ) (inners : List Inner) : Type 0 where
  pub each : length inners ≡ count
  pub inside : (i : ℕ) (probe : Probe) (inner : Inner) → slice_get probes i ≡ Some probe
      → slice_get inners i ≡ Some inner → IsInner cs (rows_of cases probe.case) inner

-- Words of the steps that find a kernel: the unknowns are taken from the last to the first, and
-- each becomes the pivot of a relation or gets a probe of its own.
use Rattle.std.specs.Prelude.{◌≡◌, ℕ, zero, suc, ◌-◌, ◌<◌, ◌≤◌, ◌==◌, ◌^◌, ℤ, pos, negsuc, ◌+ℤ◌, ◌*ℤ◌, ◌<ℤ◌, List, [], ◌∷◌, ◌++◌, map, length, get_or, not, unsigned_abs, IsTrue, if◌then◌else◌}
use Rattle.std.specs.List.{AllByRecursion, list_any, filter}
use Rattle.whole_numbers.specs.Divisors.{gcd_of_all}
use Rattle.linear_terms.specs.declared.col.Col.{Col}
use Rattle.linear_terms.specs.Polynomial.{Polynomial}
use Rattle.farkas_check.specs.declared.stratum.Change.{Change}
use Rattle.farkas_check.specs.Calm.{at_chosen}
use Rattle.farkas_check.specs.Frames.{sum_below}
use Rattle.farkas_check.specs.Relations.{unknown_count, pivot, places, entry, is_reduced, have_equally_many, term_count}
use Rattle.farkas_check.specs.Sizes.{HasNumbersUpTo}
use Rattle.elimination.specs.declared.kernel.ProbeStage.{ProbeStage}
use Rattle.elimination.specs.declared.probes.Probe.{Probe}
use Rattle.elimination.specs.Probes.{probe_at, IsRegular, IsNullLine, IsProbe, IsDual}

-- the terms of all cases and the lower terms have small numbers
pub record HasSmallTerms (cases : List Change) (lower : List Polynomial) : Type 0 where
  pub terms : AllByRecursion (λ (case : Change). AllByRecursion (HasNumbersUpTo 4) case.terms) cases
  pub lower_too : AllByRecursion (HasNumbersUpTo 4) lower

-- few columns, and few terms with small numbers, equally many in each case
pub record IsSmallKernel (cs : List (List Col)) (cases : List Change)
    (lower : List Polynomial) : Type 0 where
  pub columns : length cs ≤ 3
  pub terms : term_count cases ≤ 2
  pub even : IsTrue (have_equally_many cases)
  pub small : HasSmallTerms cases lower

-- ---- lines

-- a list of so many lines that a function gives
pub record AreLines (count : ℕ) (line : ℕ → List ℤ) (lines : List (List ℤ)) : Type 0 where
  pub each : length lines ≡ count
  pub at : (i : ℕ) → i < count → get_or lines i [] ≡ line i

-- what stands at chosen unknowns, at the probe of a place
abbrev pub probe_line : List (List Col) → List Change → List Polynomial → List Probe → List ℕ → ℕ
    → List ℤ
probe_line cs cases lower probes chosen i = map (probe_at cs cases lower (get_or probes i (record {
  case = 0;
  place = 0;
}))) chosen

-- what stands at an unknown that is no pivot, at each probe, and then -1 where it is the own one
abbrev pub unit_line : List (List Col) → List Change → List Polynomial → List Probe → List ℕ → ℕ → ℕ
    → List ℤ
unit_line cs cases lower probes free own i =
    map (λ (probe : Probe). probe_at cs cases lower probe (get_or free i 0)) probes
    ++ (if i == own then negsuc 0 else pos 0) ∷ []

-- what stands at the unknown of one place, at the probe of another
abbrev pub probe_number : List (List Col) → List Change → List Polynomial → List Probe → List ℕ → ℕ
    → ℕ → ℤ
probe_number cs cases lower probes free i j = probe_at cs cases lower (get_or probes i (record {
  case = 0;
  place = 0;
})) (get_or free j 0)

-- ---- numbers at chosen unknowns

-- the numbers at all unknowns: 0 at those that are not chosen
abbrev pub spread : List ℕ → (ℕ → ℤ) → ℕ → List ℤ
spread chosen number n = map (at_chosen chosen number) (places n)

-- the difference at a probe
abbrev pub chosen_value : List (List Col) → List Change → List Polynomial → List ℕ → List ℤ → Probe
    → ℕ → ℤ
chosen_value cs cases lower chosen numbers probe count =
    sum_below count (λ j. entry numbers j *ℤ probe_at cs cases lower probe (get_or chosen j 0))

-- it is 0 at each place of a case
pub record VanishesIn (cs : List (List Col)) (cases : List Change) (lower : List Polynomial)
    (chosen : List ℕ) (numbers : List ℤ) (case : ℕ) : Type 0 where
  pub at : (place : ℕ) → place ≤ length cs → chosen_value cs cases lower chosen numbers (record {
    case = case;
    place = place;
  }) (length chosen) ≡ pos 0

-- it is 0 at each place of each case
pub record VanishesAtAll (cs : List (List Col)) (cases : List Change) (lower : List Polynomial)
    (chosen : List ℕ) (numbers : List ℤ) : Type 0 where
  pub at : (case : ℕ) → case < length cases → VanishesIn cs cases lower chosen numbers case

-- it is not 0 at a probe
pub record IsApart (cs : List (List Col)) (cases : List Change) (lower : List Polynomial)
    (chosen : List ℕ) (numbers : List ℤ) (probe : Probe) : Type 0 where
  pub probe_there : IsProbe cs cases probe
  pub some : chosen_value cs cases lower chosen numbers probe (length chosen) ≡ pos 0 → ⊥

-- numbers for chosen unknowns
pub record AreChosenNumbers (chosen : List ℕ) (numbers : List ℤ) : Type 0 where
  pub few : length chosen ≤ 7
  pub each : length numbers ≡ length chosen
  pub small : AllByRecursion (λ z. unsigned_abs z ≤ 28 ^ 6) numbers

-- The one relation over the unknowns that are no pivot and one more, which comes last: its
-- difference is 0 at the probes.
pub record IsOwnRelation (cs : List (List Col)) (cases : List Change) (lower : List Polynomial)
    (probes : List Probe) (free : List ℕ) (unknown : ℕ) (numbers : List ℤ) : Type 0 where
  pub each : length numbers ≡ suc (length free)
  pub zeros : (i : ℕ) → i < length free
      → sum_below (length free)
      (λ j. probe_number cs cases lower probes free i j *ℤ entry numbers j) +ℤ probe_at cs cases
      lower (get_or probes i (record {
        case = 0;
        place = 0;
      })) unknown *ℤ entry numbers (length free) ≡ pos 0
  pub positive : pos 0 <ℤ entry numbers (length free)
  pub primitive : gcd_of_all numbers ≡ 1
  pub small : AllByRecursion (λ z. unsigned_abs z ≤ 28 ^ 6) numbers

-- ---- stages

-- so many unknowns from one on, in order
abbrev pub unknowns_from : ℕ → ℕ → List ℕ
unknowns_from start zero = []
unknowns_from start (suc n) = start ∷ unknowns_from (suc start) n

-- each is greater than the one before, and the first at least the start
abbrev pub IsRisingFrom : ℕ → List ℕ → Type 0
IsRisingFrom start [] = Unit {0}
IsRisingFrom start (u ∷ us) = (start ≤ u) × IsRisingFrom (suc u) us

-- of so many unknowns from one on those that are no pivot
abbrev pub free_from : List (List ℤ) → ℕ → ℕ → List ℕ
free_from relations start n =
    filter (λ place. not (list_any (λ p. p == place) (map pivot relations))) (unknowns_from start n)

-- All unknowns from one on are taken: each is the pivot of a relation, or one of those that have
-- probes. These stand in rising order, so the one that was taken last comes first.
pub record IsStage (cs : List (List Col)) (cases : List Change) (lower : List Polynomial)
    (start : ℕ) (stage : ProbeStage) : Type 0 where
  pub reduced : IsTrue (is_reduced stage.relations)
  pub lines : AllByRecursion (IsNullLine cs cases lower) stage.relations
  pub behind : AllByRecursion (λ line. start ≤ pivot line) stage.relations
  pub free : stage.free ≡ free_from stage.relations start (unknown_count cases lower - start)
  pub rising : IsRisingFrom start stage.free
  pub within : AllByRecursion (λ u. u < unknown_count cases lower) stage.free
  pub few : length stage.free ≤ 6
  pub each : length stage.probes ≡ length stage.free
  pub probes : AllByRecursion (IsProbe cs cases) stage.probes
  pub regular : IsRegular (length stage.free) (probe_number cs cases lower stage.probes stage.free)

-- ---- duals

-- the first so many duals
pub record AreDuals (cs : List (List Col)) (cases : List Change) (lower : List Polynomial)
    (probes : List Probe) (free : List ℕ) (count : ℕ) (duals : List (List ℤ)) : Type 0 where
  pub each : length duals ≡ count
  pub at : (own : ℕ) → own < count → IsDual cs cases lower probes free own (get_or duals own [])

-- What the basis of a kernel is made of: relations that zeros tie in each case, the spots around an
-- inner point for each probe, and for each dual its multiples of these spots.
use Rattle.std.specs.Prelude.{◌≡◌, ℕ, zero, suc, ◌+◌, ◌^◌, ◌≤◌, ℤ, pos, ◌*ℤ◌, ◌<ℤ◌, unsigned_abs, List, [], ◌∷◌, ◌++◌, map, length, slice_get, Some, All}
use Rattle.std.specs.List.{AllByRecursion}
use Rattle.linear_terms.specs.declared.col.Col.{Col}
use Rattle.linear_terms.specs.declared.row.Row.{Row}
use Rattle.linear_terms.specs.Polynomial.{Polynomial}
use Rattle.farkas_check.specs.declared.stratum.Change.{Change}
use Rattle.farkas_check.specs.declared.stratum.Relation.{Relation}
use Rattle.farkas_check.specs.declared.stratum.Spot.{Spot}
use Rattle.farkas_check.specs.declared.stratum.Tie.{Tie}
use Rattle.farkas_check.specs.Ratios.{Fraction, lowest_terms}
use Rattle.farkas_check.specs.Kept.{IsCanonicalStratum}
use Rattle.farkas_check.specs.Relations.{entry, term_count, stratum_columns}
use Rattle.farkas_check.specs.Stratum.{rows_of}
use Rattle.simplex.specs.Relations.{IsRelationWith}
use Rattle.elimination.specs.declared.inner.Inner.{Inner}
use Rattle.elimination.specs.declared.kernel.Kernel.{Kernel}
use Rattle.elimination.specs.declared.probes.Probe.{Probe}
use Rattle.elimination.specs.Around.{AreAround, weight_at}
use Rattle.elimination.specs.Narrow.{IsSmallChange, IsSmallStratum}
use Rattle.elimination.specs.Probes.{IsInner, IsProbe}

-- an inner point for each probe, one of the rows of its case
pub record AreInners (cs : List (List Col)) (cases : List Change) (probes : List Probe)
    (inners : List Inner) : Type 0 where
  pub each : length inners ≡ length probes
  pub inside : (i : ℕ) (probe : Probe) (inner : Inner) → slice_get probes i ≡ Some probe
      → slice_get inners i ≡ Some inner → IsInner cs (rows_of cases probe.case) inner

-- a small question in canonical form over its columns, probes of it, and inner points for them
pub record IsBasisAsked (cs : List (List Col)) (cases : List Change) (lower : List Polynomial)
    (probes : List Probe) (inners : List Inner) : Type 0 where
  pub canonical : IsCanonicalStratum cases lower
  pub columns : cs ≡ stratum_columns cases lower
  pub stratum : IsSmallStratum cases lower
  pub small : All IsSmallChange cases
  pub probes_too : AllByRecursion (IsProbe cs cases) probes
  pub inside : AreInners cs cases probes inners

-- ---- relations

-- the multiplier 0 for each row
abbrev pub no_multipliers : List Row → List ℤ
no_multipliers rows = map (λ (row : Row). pos 0) rows

-- what ties a relation whose difference is the polynomial 0
abbrev pub zero_tie : Change → Tie
zero_tie case = record {
  up_scale = pos 1;
  up = no_multipliers case.rows;
  down_scale = pos 1;
  down = no_multipliers case.rows;
}

-- each relation has the numbers of one line, and zeros tie it in each case
abbrev pub AreTied : List Change → List Polynomial → List (List ℤ) → List Relation → Type 0
AreTied cases lower [] relations = relations ≡ []
AreTied cases lower (line ∷ lines) [] = ⊥
AreTied cases lower (line ∷ lines) (relation ∷ relations) =
    IsRelationWith (term_count cases) (length lower) line (map zero_tie cases) relation
    × AreTied cases lower lines relations

-- ---- spots

-- the spots around the first inner point, in the case of the first probe, and then those of the
-- others
abbrev pub AreGroups : List (List Col) → List Change → List Probe → List Inner → List Spot → Type 0
AreGroups cs cases [] inners spots = spots ≡ []
AreGroups cs cases (probe ∷ probes) [] spots = ⊥
AreGroups cs cases (probe ∷ probes) (inner ∷ inners) spots = (group : List Spot)
    × ((rest : List Spot)
    × ((spots ≡ group ++ rest)
    × (AreAround cs cases probe.case inner group × AreGroups cs cases probes inners rest)))

-- the spots around the inner point at a place, in the case of the probe there
pub record IsGroupAt (cs : List (List Col)) (cases : List Change) (probes : List Probe)
    (inners : List Inner) (place : ℕ) (group : List Spot) : Type 0 where
  pub around : (probe : Probe) (inner : Inner) → slice_get probes place ≡ Some probe
      → slice_get inners place ≡ Some inner → AreAround cs cases probe.case inner group

-- ---- multiples of spots

-- a dual of so many probes: a small number for each, and a positive one behind them
pub record IsSmallDual (probes : List Probe) (dual : List ℤ) : Type 0 where
  pub each : length dual ≡ length probes + 1
  pub positive : pos 0 <ℤ entry dual (length probes)
  pub small : All (λ z. unsigned_abs z ≤ 28 ^ 6) dual

-- no multiple of a spot is greater
abbrev pub AreSmallWeights : List ℤ → Type 0
AreSmallWeights weights = All (λ z. unsigned_abs z ≤ 67108864) weights

-- f 0, .., f (n - 1)
abbrev pub values_below : {A : Type 0} → ℕ → (ℕ → A) → List A
values_below zero f = []
values_below (suc n) f = f zero ∷ values_below n (λ i. f (suc i))

-- what the place of the probe at a place takes of the spots around the inner point there
pub record AreWeightsAt (columns : ℕ) (probes : List Probe) (inners : List Inner) (place : ℕ)
    (weights : List ℤ) : Type 0 where
  pub are : (probe : Probe) (inner : Inner) → slice_get probes place ≡ Some probe
      → slice_get inners place ≡ Some inner
      → weights ≡ values_below (suc columns) (weight_at columns inner probe.place)

-- a number times what the place of a probe takes of the spots around an inner point, over another
-- number
abbrev pub group_multiples : ℕ → ℤ → ℤ → Probe → Inner → List Fraction
group_multiples columns over number probe inner =
    values_below (suc columns) (λ i. lowest_terms (number *ℤ weight_at columns inner probe.place i) over)

-- the same for numbers and probes, one after another
abbrev pub multiples_over : ℕ → ℤ → List ℤ → List Probe → List Inner → List Fraction
multiples_over columns over numbers [] inners = []
multiples_over columns over [] (probe ∷ probes) inners = []
multiples_over columns over (number ∷ numbers) (probe ∷ probes) [] = []
multiples_over columns over (number ∷ numbers) (probe ∷ probes) (inner ∷ inners) =
    group_multiples columns over number probe inner ++ multiples_over columns over numbers probes
    inners

-- the multiples of all spots that a dual gives
abbrev pub dual_multiples : ℕ → List Probe → List Inner → List ℤ → List Fraction
dual_multiples columns probes inners dual = multiples_over columns (entry dual (length probes)) dual
    probes inners

-- ---- the basis

-- the relations, the spots and the multiples of spots that a kernel gives with an inner point for
-- each probe
pub record IsBasisOf (cs : List (List Col)) (cases : List Change) (lower : List Polynomial)
    (kernel : Kernel) (inners : List Inner) (relations : List Relation) (spots : List Spot)
    (free : List (List Fraction)) : Type 0 where
  pub relations_too : AreTied cases lower kernel.relations relations
  pub spots_too : AreGroups cs cases kernel.probes inners spots
  pub free_too : free ≡ map (dual_multiples (length cs) kernel.probes inners) kernel.duals

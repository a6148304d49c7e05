-- What goes between the pairs of members: bases, chains of calls and candidates.
use Rattle.std.specs.Prelude.{◌≡◌, ◌<◌, ◌≤◌, ◌+◌, ◌^◌, ℕ, Bool, IsTrue, if◌then◌else◌, List, [], ◌∷◌, ◌++◌, Some, length, slice_get}
use Rattle.std.specs.List.{AllByRecursion}
use Rattle.std.specs.Option.{unwrap_or}
use Rattle.linear_terms.specs.declared.row.Row.{Row}
use Rattle.transition_formula.specs.Transition.{Transition, IsTransition, every_column, is_below}
use Rattle.syntax_tree.specs.declared.program.Proc.{Proc}
use Rattle.syntax_tree.specs.declared.program.Program.{Program}
use Rattle.vocabularies.specs.Procs.{IsProcOf}
use Rattle.leaf_cases.specs.Conditions.{IsKnown}
use Rattle.path_expr.specs.declared.cell.Cell.{Cell}
use Rattle.path_expr.specs.declared.cell.Cell.TheVariants as known
use Rattle.checked_tree.specs.Law.{IsEnd}
use Rattle.newton_rounds.specs.declared.findings.RoundEnd.{RoundEnd}
use Rattle.newton_rounds.specs.Pairs.{PairEnds, Stretch}
use Rattle.newton_rounds.specs.Closure.{ends_at, pair_cell}
use Rattle.newton_rounds.specs.Shapes.{AreEnds, IsStretchBetween}

-- the ends of a member, of few columns each
pub record IsMember (m : PairEnds) : Type 0 where
  pub ends : AreEnds m
  pub pair : IsEnd m.pair
  pub entry : IsEnd m.ends.entry
  pub exit : IsEnd m.ends.exit

-- how many columns the pairs of the member at a place have
abbrev pub width_at : List PairEnds → ℕ → ℕ
width_at members place = (ends_at members place).pair.columns

-- from so many columns to so many, by cases of so many auxiliaries at most
pub record GoesBetween (most from to : ℕ) (f : Transition) : Type 0 where
  pub from_is : f.from ≡ from
  pub to_is : f.to ≡ to
  pub fits : IsTransition f.from f.to f.cases
  pub few : AllByRecursion (λ case. case.aux ≤ most) f.cases

-- ---- bases, and chains of calls before them

-- one for each member, over its pairs
abbrev pub AreBases : List PairEnds → List Transition → Type 0
AreBases [] [] = Unit {0}
AreBases [] (base ∷ bases) = ⊥
AreBases (member ∷ members) [] = ⊥
AreBases (member ∷ members) (base ∷ bases) = GoesBetween 1000 member.pair.columns 0 base
    × AreBases members bases

-- one behind others, over the pairs of a member
pub record AddsBase (member : PairEnds) (made all : List Transition) : Type 0 where
  pub base : Transition
  pub is : all ≡ made ++ base ∷ []
  pub goes : GoesBetween 1000 member.pair.columns 0 base

-- the base of the member at a place; past the end a formula without a case
abbrev pub base_at : List PairEnds → List Transition → ℕ → Transition
base_at members bases n = unwrap_or (slice_get bases n) record {
  from = width_at members n;
  to = 0;
  cases = [];
}

-- the chains of calls from the member at a place to member n; none past the end of the cells
abbrev pub chain_to : List PairEnds → List (Cell Transition) → ℕ → ℕ → Transition
chain_to members cells place n =
    pair_cell (width_at members place) (width_at members n)
    (unwrap_or (slice_get cells n) known.Zero)

-- one for each member, from the pairs of the member at a place to its pairs
pub record AreChainsFrom (members : List PairEnds) (place : ℕ)
    (cells : List (Cell Transition)) : Type 0 where
  pub each : length cells ≡ length members
  pub lead : (n : ℕ) → n < length members →
      GoesBetween 1000 (width_at members place) (width_at members n)
      (chain_to members cells place n)

-- few members with their ends, a base for each, and the chains from the member at a place to each
pub record AreChained (members : List PairEnds) (bases : List Transition) (place : ℕ)
    (cells : List (Cell Transition)) : Type 0 where
  pub few : length members < 2 ^ 32
  pub within : place < length members
  pub each_member : AllByRecursion IsMember members
  pub each_base : AreBases members bases
  pub each_cell : AreChainsFrom members place cells

-- ---- the graph of a group

-- a call between two members
pub record IsStretchIn (members : List PairEnds) (s : Stretch) : Type 0 where
  pub caller : s.call.caller < length members
  pub callee : s.call.callee < length members
  pub enters :
      (ends_at members s.call.callee).ends.entry.columns
      ≡ (ends_at members s.call.caller).ends.globals + length s.call.args
  pub is : IsStretchBetween (ends_at members s.call.caller) (ends_at members s.call.callee) s

-- few members with their ends, and few calls, each between two of them
pub record IsGroup (members : List PairEnds) (stretches : List Stretch) : Type 0 where
  pub few : length members < 2 ^ 32
  pub few_calls : length stretches < 2 ^ 32
  pub each_member : AllByRecursion IsMember members
  pub calls : AllByRecursion (IsStretchIn members) stretches

-- ---- summaries

-- from the entry to the exit of a member, by few cases
pub record IsSummary (m : PairEnds) (f : Transition) : Type 0 where
  pub goes : GoesBetween 64 m.ends.entry.columns m.ends.exit.columns f
  pub cases : length f.cases ≤ 16

-- one for each member
abbrev pub AreSummaries : List PairEnds → List Transition → Type 0
AreSummaries [] [] = Unit {0}
AreSummaries [] (f ∷ table) = ⊥
AreSummaries (member ∷ members) [] = ⊥
AreSummaries (member ∷ members) (f ∷ table) = IsSummary member f × AreSummaries members table

-- the formulas of a table, which may be shorter, fit the procedures with these numbers
abbrev pub FitTable : Program → List ℕ → List Transition → Type 0
FitTable program procs table =
    (place proc : ℕ) (p : Proc) (f : Transition) → slice_get procs place ≡ Some proc →
    IsProcOf program proc p → slice_get table place ≡ Some f → IsKnown program p f

-- ---- candidates

-- a row over so many columns
abbrev pub IsRowOver : ℕ → Row → Type 0
IsRowOver columns row = IsTrue (every_column (is_below columns 0) row.poly)

-- one for each member, over its pairs
abbrev pub AreCandidates : List PairEnds → List (List Row) → Type 0
AreCandidates [] [] = Unit {0}
AreCandidates [] (rows ∷ candidates) = ⊥
AreCandidates (member ∷ members) [] = ⊥
AreCandidates (member ∷ members) (rows ∷ candidates) =
    AllByRecursion (IsRowOver member.pair.columns) rows × AreCandidates members candidates

-- how many rows there are
abbrev pub row_count : List (List Row) → ℕ
row_count [] = 0
row_count (rows ∷ candidates) = length rows + row_count candidates

-- a round whose result says that it dropped a row has dropped one
abbrev pub IsFewer : List (List Row) → RoundEnd × Bool → Type 0
IsFewer candidates next =
    row_count next.0.candidates + (if next.1 then 1 else 0) ≤ row_count candidates

-- The auxiliaries of formulas of pairs are few enough to be numbered.
use Rattle.std.proofs.Common.{ℕ, ◌+◌, ◌-◌, ◌<◌, ◌≤◌, ◌^◌, map, List, [], ◌∷◌, refl, arith}
use Rattle.std.specs.Prelude.{All, Option, None, Some}
use Rattle.std.specs.List.{AllByRecursion, flat_map, list_all}
use Rattle.std.specs.Option.{is_none}
use Rattle.std.proofs.lemmas.List.Elements.{All-from_recursion}
use Rattle.std.proofs.lemmas.List.Sums.{count_by-le-length}
use Rattle.items.proofs.Each.{each-append, each-more}
use Rattle.linear_terms.specs.declared.row.Case.{Case}
use Rattle.transition_formula.specs.Composition.{after_case, sequence_of_cases}
use Rattle.transition_formula.specs.Hiding.{hidden_case, hiding}
use Rattle.transition_formula.specs.Loss.{answer_of}
use Rattle.transition_formula.specs.Transition.{Transition, fits, IsTransition}
use Rattle.transition_formula.proofs.ColumnTests.{both}
use Rattle.transition_formula.proofs.Fitting.{fitting}
use Rattle.proc_summary.specs.Claims.{FitsIf, IsBetweenStates}
use Rattle.proc_summary.specs.Summary.{exit_formula}
use Rattle.newton_rounds.proofs.CratesBelow.{fitted-few}

-- each case has so many auxiliaries at most
abbrev pub HasFew : ℕ → List Case → Type 0
HasFew most cases = AllByRecursion (λ (case : Case). case.aux ≤ most) cases

pub few-more : (most more : ℕ) (cases : List Case) → most ≤ more → HasFew most cases → HasFew more cases
few-more most more cases le h = each-more (λ (case : Case). case.aux ≤ most) (λ (case : Case). case.aux ≤ more) (λ case few. omega (arith, few, le)) cases h

-- ---- sequence

pub both-few : (j k to : ℕ) (firsts seconds : List Case) → HasFew j firsts → HasFew k seconds → j + k + to < 2 ^ 32 → All (λ (a : Case). All (λ (b : Case). a.aux + b.aux + to < 2 ^ 32) seconds) firsts
both-few j k to firsts seconds h l lt i d below m e within =
    let one = All-from_recursion (λ (case : Case). case.aux ≤ j) firsts h i d below in
    let other = All-from_recursion (λ (case : Case). case.aux ≤ k) seconds l m e within in omega (arith, one, other, lt)

after-few : (j k between to : ℕ) (first : Case) (seconds : List Case) → first.aux ≤ j → IsTransition between to seconds → HasFew k seconds → HasFew (j + k + to) (map (sequence_of_cases first) seconds)
after-few j k between to first [] le h l = tt
after-few j k between to first (second ∷ seconds) le h l =
    let parts = both (fits between to second) (list_all (fits between to) seconds) h in
    let long = (fitting between to second parts.0).length_is in
    let lost = count_by-le-length (λ p. is_none (answer_of (after_case first second p))) second.post in
    let few = l.0 in
    (omega (arith, le, few, lost, long), after-few j k between to first seconds le parts.1 l.1)

pub sequence-few : (j k between to : ℕ) (firsts seconds : List Case) → IsTransition between to seconds → HasFew j firsts → HasFew k seconds → HasFew (j + k + to) (flat_map (λ first. map (sequence_of_cases first) seconds) firsts)
sequence-few j k between to [] seconds h l r = tt
sequence-few j k between to (first ∷ firsts) seconds h l r =
    each-append (λ (case : Case). case.aux ≤ j + k + to) (map (sequence_of_cases first) seconds) (flat_map (λ f. map (sequence_of_cases f) seconds) firsts)
    (after-few j k between to first seconds l.0 h r) (sequence-few j k between to firsts seconds h l.1 r)

-- ---- hiding

pub hidden-few : (n from to most : ℕ) (cases : List Case) → IsTransition from to cases → HasFew most cases → HasFew (most + (from - n) + to) (map (hidden_case n from) cases)
hidden-few n from to most [] h l = tt
hidden-few n from to most (case ∷ cases) h l =
    let parts = both (fits from to case) (list_all (fits from to) cases) h in
    let long = (fitting from to case parts.0).length_is in
    let lost = count_by-le-length (λ p. is_none (answer_of (hiding n from case p))) case.post in
    let few = l.0 in
    (omega (arith, few, lost, long), hidden-few n from to most cases parts.1 l.1)

pub hiding-few : (n most : ℕ) (f : Transition) → HasFew most f.cases → most + (f.from - n) + f.to < 2 ^ 32 → All (λ (case : Case). case.aux + (f.from - n) + f.to < 2 ^ 32) f.cases
hiding-few n most f h lt i d below =
    let one = All-from_recursion (λ (case : Case). case.aux ≤ most) f.cases h i d below in omega (arith, one, lt)

-- ---- formulas of states

pub states-of : (columns : ℕ) (f : Option Transition) → FitsIf columns f → IsBetweenStates columns (exit_formula columns f)
states-of columns None h = record { from = refl; to = refl; fits = refl; fitted = refl }
states-of columns (Some f) h = h

pub states-few : (columns : ℕ) (f : Transition) → IsBetweenStates columns f → HasFew 64 f.cases
states-few columns f h = fitted-few f.cases h.fitted

-- Where the steps to an assertion are excluded, none of them leads from a state of which the rows at
-- its point are true to one in which the condition is false.
use Rattle.std.proofs.Common.{◌≡◌, inl, inr, ℕ, ◌+◌, ◌≤◌, Bool, true, false, ℤ, length, drop, map, List, [], ◌∷◌, ◌++◌, Option, Some, None, refl, sym, ap, subst, ◌∙◌}
use Rattle.std.specs.Prelude.{IsTrue, ◌==◌, ◌&&◌, nat_le, if◌then◌else◌}
use Rattle.std.specs.List.{AllByRecursion}
use Rattle.std.proofs.lemmas.Bool.{eqb-true, false≢true, leb-true}
use Rattle.std.proofs.lemmas.List.{drop-map, drop_at}
use Rattle.std.proofs.lemmas.List.Elements.{recursion_from_All}
use Rattle.std.proofs.lemmas.Option.{same_Some}
use Rattle.items.proofs.Each.{each-both, each-get, each-more, each_from_test}
use Rattle.linear_terms.specs.declared.row.Case.{Case}
use Rattle.linear_terms.specs.declared.row.Row.{Row}
use Rattle.linear_terms.specs.Row.{AreCanonical}
use Rattle.linear_terms.specs.Value.{Valuation, value_of}
use Rattle.row_products.specs.Laws.{HasWholePoint}
use Rattle.syntax_tree.specs.declared.program.Proc.{Proc}
use Rattle.syntax_tree.specs.declared.program.Program.{Program}
use Rattle.syntax_tree.specs.Term.{Term}
use Rattle.syntax_tree.specs.Value.{State}
use Rattle.syntax_tree.specs.WellFormed.{IsWellFormed, width_of}
use Rattle.transition_formula.specs.Meaning.{Holds, HoldsCase, HoldsLeft, HoldsSome, numbers}
use Rattle.transition_formula.specs.Rounds.{in_order}
use Rattle.transition_formula.specs.Transition.{IsTransition, Transition, fits}
use Rattle.transition_formula.proofs.Ordering.{in_order-holds}
use Rattle.posing.specs.Posing.{Posing, Done, Always}
use Rattle.posing.proofs.Paths.{always_weaker}
use Rattle.polyhedra.specs.Laws.{HaveCanonicalRows}
use Rattle.leaf_cases.specs.Conditions.{columns_at, columns_in}
use Rattle.context.specs.Verdicts.{falsity_of}
use Rattle.point_rows.specs.Reading.{AreOverColumns, AreTrueOf, given_rows}
use Rattle.point_rows.proofs.ReadColumns.{given_rows-canonical}
use Rattle.point_rows.proofs.RowMeanings.{given_rows-hold}
use Rattle.point_steps.specs.declared.target.Target.{Target}
use Rattle.point_steps.specs.declared.target.Target.TheVariants.{Head, Entry, Exit, Check}
use Rattle.point_steps.specs.Claims.{target_columns}
use Rattle.point_rounds.specs.declared.round.PointRound.{PointRound}
use Rattle.point_rounds.specs.declared.round.StepFrom.{StepFrom}
use Rattle.point_rounds.specs.declared.table.PointTable.{PointTable}
use Rattle.point_rounds.specs.Closed.{AreStepsFrom, IsStepOf}
use Rattle.point_rounds.specs.Table.{IsTable, rows_at}
use Rattle.point_rounds.proofs.KeptRows.{true_of-longer}
use Rattle.point_rounds.proofs.RowColumns.{points-over}
use Rattle.point_verdicts.specs.Exclusions.{arrival_excluded, arriving_case, case_excluded, every, exclusion_of, failing_case, failure_excluded, is_check, leads_to_check, left_excluded, most_step_auxiliaries, twofold_refutation, step_excluded}
use Rattle.point_verdicts.specs.Parts.{AreFailures, FailsByStep, HaveCanonicalSteps, HoldsWhereFalse, IsArrivingCase, IsFailure}
use Rattle.point_verdicts.proofs.Every.{TellsOf, every-tells}
use Rattle.point_verdicts.proofs.FailingCases.{arriving-fits, failing-canonical, failing-holds, failing-solvable}
use Rattle.point_verdicts.proofs.Refutations.{twofold_refutation-tells}

-- ---- one case in which the condition is false

-- the two cases hold of no states one behind the other
abbrev NeverMeet : Case → Case → Type 0
NeverMeet arriving bad = (middle after : List ℤ) → HoldsCase arriving [] middle → HoldsCase bad middle after → ⊥

module _ (columns : ℕ) (arriving : Case) (fit : IsTrue (fits 0 columns arriving)) (few : arriving.aux ≤ most_step_auxiliaries) (canonical : AreCanonical arriving.rows) where
  failure-tells : (bad : Case) → IsFailure columns bad → Always (TellsOf (NeverMeet arriving bad)) (failure_excluded arriving bad)
  unfolding failure_excluded
  failure-tells bad is_bad =
      by (in_order (failing_case arriving bad)).left
      (in_order-holds (failing_case arriving bad) (failing-canonical columns arriving bad fit few is_bad canonical) (failing-solvable columns arriving bad fit few is_bad).numbered)
    where
      by : (left : Option Case) → ((before after : List ℤ) → HoldsCase (failing_case arriving bad) before after → HoldsLeft left before after) → Always (TellsOf (NeverMeet arriving bad)) (left_excluded left)
      by None keeps = λ e middle after first second. keeps [] [] (failing-holds columns arriving bad fit few is_bad middle after first second)
      by (Some case) keeps =
          always_weaker (TellsOf (HasWholePoint case.rows → ⊥)) (TellsOf (NeverMeet arriving bad)) (twofold_refutation case.rows)
          (λ passes none e middle after first second. let held = keeps [] [] (failing-holds columns arriving bad fit few is_bad middle after first second) in none e (numbers [] held.0, held.1.rows))
          (twofold_refutation-tells case.rows)

-- ---- one case of a step

none-meets : (arriving : Case) (falsity : List Case) → AllByRecursion (NeverMeet arriving) falsity → (middle after : List ℤ) → HoldsCase arriving [] middle → HoldsSome falsity middle after → ⊥
none-meets arriving [] none middle after first some = some
none-meets arriving (bad ∷ falsity) none middle after first (inl one) = none.0 middle after first one
none-meets arriving (bad ∷ falsity) none middle after first (inr later) = none-meets arriving falsity none.1 middle after first later

-- the case leads from no state of which the rows are true to one of which a case of the falsity holds
abbrev NeverFails : (columns : ℕ) → (falsity : List Case) → (source : List Row) → Case → Type 0
NeverFails columns falsity source case = (before after : State) → length before ≡ columns → HoldsCase case [] (before ++ after) → AreTrueOf source before → HoldsSome falsity after after → ⊥

no-None : (rows : List Row) → None ≡ Some rows → ⊥
no-None rows e = absurd (cc)

-- it arrives, and its monomials stand in print order
record IsReady (columns : ℕ) (case : Case) : Type 0 where
  arrives : IsArrivingCase columns case
  canonical : AreCanonical case.rows

module _ (columns : ℕ) (falsity : List Case) (source : List Row) (failures : AllByRecursion (IsFailure columns) falsity) (over : AreOverColumns columns source) where
  -- where a state has its rows, what is given is true, and the case with it arrives
  record Arrives (case : Case) (after : State) : Type 0 where
    given : List Row
    is : given_rows case.post case.rows source ≡ Some given
    holds : HoldsCase (arriving_case columns given case) [] after

  arrives : (case : Case) (before after : State) → length before ≡ columns → HoldsCase case [] (before ++ after) → AreTrueOf source before → Arrives case after
  arrives case before after long held rows =
      let at : Valuation = numbers [] held.0 in
      let longer = true_of-longer source before after (subst (λ n. AreOverColumns n source) (sym long) over) rows in
      let given = given_rows-hold at case.post (before ++ after) held.1.posts case.rows source held.1.rows longer in
      let posts : map (value_of at) (drop columns case.post) ≡ after = sym (drop-map (value_of at) columns case.post) ∙ ap (drop columns) held.1.posts ∙ drop_at before after columns long in
      record { given = given.0; is = given.1; holds = (held.0, record { rows = given.2; posts = posts }) }

  module _ (case : Case) (is_arriving : IsArrivingCase columns case) (canonical : AreCanonical case.rows) (few : case.aux ≤ most_step_auxiliaries) where
    arrival-tells : (made : Option (List Row)) → given_rows case.post case.rows source ≡ made → Always (TellsOf (NeverFails columns falsity source case)) (arrival_excluded columns falsity case made)
    arrival-tells None is = λ e before after long held rows some. let a = arrives case before after long held rows in no-None a.given (sym is ∙ a.is)
    arrival-tells (Some given) is =
        let arriving : Case = arriving_case columns given case in
        always_weaker (TellsOf (AllByRecursion (NeverMeet arriving) falsity)) (TellsOf (NeverFails columns falsity source case)) (arrival_excluded columns falsity case (Some given))
        (λ passes none e before after long held rows some.
        let a = arrives case before after long held rows in
        let same : a.given ≡ given = same_Some a.given given (sym a.is ∙ is) in
        none-meets arriving falsity (none e) after after (subst (λ g. HoldsCase (arriving_case columns g case) [] after) same a.holds) some)
        (every-tells (failure_excluded arriving) (IsFailure columns) (NeverMeet arriving)
        (failure-tells columns arriving (arriving-fits columns case is_arriving source given over is) few (given_rows-canonical case.post case.rows source given canonical is)) falsity failures)

  case-tells : (case : Case) → IsReady columns case → Always (TellsOf (NeverFails columns falsity source case)) (case_excluded columns falsity source case)
  unfolding case_excluded
  case-tells case ready = by (nat_le case.aux most_step_auxiliaries) refl
    where
      by : (b : Bool) → nat_le case.aux most_step_auxiliaries ≡ b
          → Always (TellsOf (NeverFails columns falsity source case)) (if b then arrival_excluded columns falsity case (given_rows case.post case.rows source) else Done false)
      by true e = arrival-tells case ready.arrives ready.canonical (leb-true case.aux most_step_auxiliaries e) (given_rows case.post case.rows source) refl
      by false e = λ same. absurd (false≢true same)

  cases-never : (cases : List Case) → AllByRecursion (NeverFails columns falsity source) cases → (before after : State) → length before ≡ columns → HoldsSome cases [] (before ++ after) → AreTrueOf source before → HoldsSome falsity after after → ⊥
  cases-never [] none before after long some rows bad = some
  cases-never (case ∷ cases) none before after long (inl one) rows bad = none.0 before after long one rows bad
  cases-never (case ∷ cases) none before after long (inr later) rows bad = cases-never cases none.1 before after long later rows bad

-- ---- a step to the assertion

-- such a step goes between states of the procedure
check-columns : (program : Program) (p : Proc) (number : ℕ) (target : Target) → is_check number target ≡ true → target_columns program p target ≡ width_of program p
check-columns program p number (Check other) e = refl
check-columns program p number (Head node) e = refl
check-columns program p number (Entry callee) e = absurd (false≢true e)
check-columns program p number Exit e = absurd (false≢true e)

two-true : (a b : Bool) → (a && b) ≡ true → (a ≡ true) × (b ≡ true)
two-true true b e = (refl, e)
two-true false b e = absurd (false≢true e)

module _ (program : Program) (proc check : ℕ) (from : StepFrom) (is_step : IsStepOf program from) (leads : leads_to_check proc check from ≡ true) where
  step-parts : ((from.proc == proc) ≡ true) × (is_check check from.step.target ≡ true)
  step-parts = two-true (from.proc == proc) (is_check check from.step.target) leads

  step-width : columns_at program proc ≡ width_of program is_step.p
  step-width = ap (columns_at program) (sym (eqb-true from.proc proc step-parts.0)) ∙ ap (columns_in program) is_step.is

  -- each case of it arrives at the assertion
  pub step-arrives : AllByRecursion (IsArrivingCase (columns_at program proc)) from.step.formula.cases
  step-arrives =
      let n = columns_at program proc in
      let cases = from.step.formula.cases in
      let to : from.step.formula.to ≡ n + n =
      is_step.fits.to ∙ ap (λ m. width_of program is_step.p + m) (check-columns program is_step.p check from.step.target step-parts.1) ∙ (λ i. sym step-width i + sym step-width i) in
      each_from_test (fits 0 (n + n)) (IsArrivingCase n) (λ case k. k) cases
      (subst (λ m. IsTransition 0 m cases) to (subst (λ m. IsTransition m from.step.formula.to cases) is_step.fits.from is_step.fits.fits))

module _ (program : Program) (table : PointTable) (proc check : ℕ) (falsity : List Case) (formed : IsWellFormed program) (shape : IsTable program table)
    (failures : AllByRecursion (IsFailure (columns_at program proc)) falsity) where
  abbrev columns : ℕ
  columns = columns_at program proc

  abbrev Source : StepFrom → List Row
  Source from = rows_at program table proc from.node

  -- where it leads to the assertion, it leads from no state of which the rows are true to one of which
  -- a case of the falsity holds
  abbrev NeverLeads : StepFrom → Type 0
  NeverLeads from =
      leads_to_check proc check from ≡ true → (before after : State) → length before ≡ columns → HoldsSome from.step.formula.cases [] (before ++ after) → AreTrueOf (Source from) before → HoldsSome falsity after after → ⊥

  -- a step whose monomials stand in print order
  record IsSeenStep (from : StepFrom) : Type 0 where
    is_step : IsStepOf program from
    canonical : HaveCanonicalRows from.step.formula.cases

  step-tells : (from : StepFrom) → IsSeenStep from → Always (TellsOf (NeverLeads from)) (step_excluded program table proc check falsity from)
  unfolding step_excluded
  step-tells from seen = by (leads_to_check proc check from) refl
    where
      cases : List Case
      cases = from.step.formula.cases

      ready : leads_to_check proc check from ≡ true → AllByRecursion (IsReady columns) cases
      ready leads =
          each-more (λ (case : Case). IsArrivingCase columns case × AreCanonical case.rows) (IsReady columns) (λ case k. record { arrives = k.0; canonical = k.1 }) cases
          (each-both (IsArrivingCase columns) (λ (case : Case). AreCanonical case.rows) cases (step-arrives program proc check from seen.is_step leads)
          (recursion_from_All (λ (case : Case). AreCanonical case.rows) cases seen.canonical))

      by : (b : Bool) → leads_to_check proc check from ≡ b → Always (TellsOf (NeverLeads from)) (if b then every (case_excluded columns falsity (Source from)) cases else Done true)
      by false e = λ same leads. absurd (false≢true (sym e ∙ leads))
      by true e =
          let over = points-over program table formed shape proc from.node in
          always_weaker (TellsOf (AllByRecursion (NeverFails columns falsity (Source from)) cases)) (TellsOf (NeverLeads from)) (every (case_excluded columns falsity (Source from)) cases)
          (λ passes none same leads before after long some rows bad. cases-never columns falsity (Source from) failures over cases (none same) before after long some rows bad)
          (every-tells (case_excluded columns falsity (Source from)) (IsReady columns) (NeverFails columns falsity (Source from)) (case-tells columns falsity (Source from) failures over) cases (ready e))

-- ---- all steps

pub exclusion-tells : (program : Program) (proc check : ℕ) (cond : Term) (round : PointRound) (f : Transition) → IsWellFormed program → IsTable program round.table → AreStepsFrom program round.steps → HaveCanonicalSteps round.steps
    → f ≡ falsity_of (columns_at program proc) cond → AreFailures (columns_at program proc) f → HoldsWhereFalse (columns_at program proc) cond f
    → Always (TellsOf (FailsByStep program round proc check cond → ⊥)) (exclusion_of program proc cond check round.steps round.table)
unfolding exclusion_of
exclusion-tells program proc check cond round f formed shape steps canonical is failures holds =
    let n = columns_at program proc in
    let falsity : List Case = (falsity_of n cond).cases in
    let each : AllByRecursion (IsFailure n) falsity = subst (λ (g : Transition). AllByRecursion (IsFailure n) g.cases) is failures.each in
    let Never : StepFrom → Type 0 = NeverLeads program round.table proc check falsity formed shape each in
    let Seen : StepFrom → Type 0 = IsSeenStep program round.table proc check falsity formed shape each in
    let test : StepFrom → Posing Bool = step_excluded program round.table proc check falsity in
    let seen : AllByRecursion Seen round.steps =
    each-more (λ (from : StepFrom). IsStepOf program from × HaveCanonicalRows from.step.formula.cases) Seen (λ from k. record { is_step = k.0; canonical = k.1 }) round.steps
    (each-both (IsStepOf program) (λ (from : StepFrom). HaveCanonicalRows from.step.formula.cases) round.steps steps canonical) in
    always_weaker (TellsOf (AllByRecursion Never round.steps)) (TellsOf (FailsByStep program round proc check cond → ⊥)) (every test round.steps)
    (λ passes none e fails.
    let bad = subst (λ g. Holds g fails.after fails.after) is (holds fails.after fails.after_width fails.fails) in
    each-get Never round.steps fails.place fails.from (none e) fails.is fails.leads fails.before fails.after fails.before_width fails.holds.some fails.rows bad.some)
    (every-tells test Seen Never (step-tells program round.table proc check falsity formed shape each) round.steps seen)

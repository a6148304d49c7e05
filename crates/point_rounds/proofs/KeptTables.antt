-- Where no row fell, the steps keep the rows of the table.
use Rattle.std.proofs.Common.{◌≡◌, ℕ, ◌+◌, List, [], ◌∷◌, ◌++◌, map, Some, inl, inr, refl, sym, ap, subst, ◌∙◌, length, drop}
use Rattle.std.specs.List.{AllByRecursion}
use Rattle.std.proofs.lemmas.Bool.{false≢true}
use Rattle.std.proofs.lemmas.List.{drop-map, drop_at}
use Rattle.items.proofs.Each.{each-get, each-more}
use Rattle.linear_terms.specs.declared.row.Case.{Case}
use Rattle.linear_terms.specs.declared.row.Row.{Row}
use Rattle.linear_terms.specs.Row.{RowsHold}
use Rattle.linear_terms.specs.Value.{Valuation, value_of}
use Rattle.syntax_tree.specs.declared.program.Program.{Program}
use Rattle.syntax_tree.specs.Value.{State}
use Rattle.transition_formula.specs.Meaning.{HoldsCase, HoldsSome, numbers}
use Rattle.leaf_cases.specs.Conditions.{columns_at}
use Rattle.point_rows.specs.Laws.{ContrariesDecide, GivenRowsHold}
use Rattle.point_rows.specs.Reading.{AreOverColumns, AreTrueOf}
use Rattle.point_rounds.specs.declared.round.RowPlace.{RowPlace}
use Rattle.point_rounds.specs.declared.round.RowPlace.TheVariants.{AtPoint, AtExit}
use Rattle.point_rounds.specs.declared.round.StepFrom.{StepFrom}
use Rattle.point_rounds.specs.declared.table.PointTable.{PointTable}
use Rattle.point_rounds.specs.Closed.{AreKeptBy, target_of}
use Rattle.point_rounds.specs.Rounds.{with_numbers_from, place_of, rows_at_place}
use Rattle.point_rounds.specs.Steps.{StepGoal, ToEntry, ToExit, ToHead, rows_at_goal}
use Rattle.point_rounds.specs.Table.{rows_at}
use Rattle.point_rounds.proofs.FallenRows.{CaseTold, RowTold, StepTold}
use Rattle.point_rounds.proofs.KeptRows.{true_of-longer}

module _ (program : Program) (table : PointTable) (decide : ContrariesDecide) (hold : GivenRowsHold) where
  -- the place of a goal, and the rows there
  goal-place : ℕ → StepGoal → RowPlace
  goal-place proc (ToHead node) = AtPoint proc node
  goal-place proc (ToEntry callee) = AtPoint callee 0
  goal-place proc ToExit = AtExit proc

  goal-is : (proc : ℕ) (goal : StepGoal) → place_of proc (target_of goal) ≡ Some (goal-place proc goal)
  unfolding goal-place
  goal-is proc (ToHead node) = refl
  goal-is proc (ToEntry callee) = refl
  goal-is proc ToExit = refl

  goal-rows : (proc : ℕ) (goal : StepGoal) → rows_at_place program table (goal-place proc goal) ≡ rows_at_goal program table proc goal
  unfolding goal-place
  goal-rows proc (ToHead node) = refl
  goal-rows proc (ToEntry callee) = refl
  goal-rows proc ToExit = refl

  -- a row that is shown or fell, where none fell, is shown
  shown-of : (place : RowPlace) (given : List Row) (case : Case) (columns : ℕ) (at : Valuation) (after : State) → map (value_of at) (drop columns case.post) ≡ after → RowsHold at given
      → (numbered : ℕ × Row) → RowTold program table decide place given (drop columns case.post) numbered [] → AreTrueOf (numbered.1 ∷ []) after
  shown-of place given case columns at after posts holds numbered (inl shown) = shown.shown at after posts holds
  shown-of place given case columns at after posts holds numbered (inr fell) = absurd (false≢true fell)

  rows-true : (after : State) (n : ℕ) (rows : List Row) → AllByRecursion (λ (numbered : ℕ × Row). AreTrueOf (numbered.1 ∷ []) after) (with_numbers_from n rows) → AreTrueOf rows after
  rows-true after n [] h = tt
  rows-true after n (row ∷ rows) h = (h.0.0, rows-true after (n + 1) rows h.1)

  -- in a case that holds of both
  case-keeps : (columns : ℕ) (source : List Row) (place : RowPlace) (case : Case) (before after : State) → length before ≡ columns → AreOverColumns columns source → AreTrueOf source before
      → HoldsCase case [] (before ++ after) → CaseTold program table decide columns source place case [] → AreTrueOf (rows_at_place program table place) after
  case-keeps columns source place case before after long over holds (aux, held) told =
      let at : Valuation = numbers [] aux in
      let longer = true_of-longer source before after (subst (λ n. AreOverColumns n source) (sym long) over) holds in
      let given = hold at case.post (before ++ after) held.posts case.rows source held.rows longer in
      let posts : map (value_of at) (drop columns case.post) ≡ after = sym (drop-map (value_of at) columns case.post) ∙ ap (drop columns) held.posts ∙ drop_at before after columns long in
      rows-true after 0 (rows_at_place program table place)
      (each-more (λ numbered. RowTold program table decide place given.0 (drop columns case.post) numbered []) (λ (numbered : ℕ × Row). AreTrueOf (numbered.1 ∷ []) after)
      (shown-of place given.0 case columns at after posts given.2) (with_numbers_from 0 (rows_at_place program table place)) (told given.0 given.1))

  cases-keep : (columns : ℕ) (source : List Row) (place : RowPlace) (before after : State) → length before ≡ columns → AreOverColumns columns source → AreTrueOf source before
      → (cases : List Case) → HoldsSome cases [] (before ++ after) → AllByRecursion (λ case. CaseTold program table decide columns source place case []) cases → AreTrueOf (rows_at_place program table place) after
  cases-keep columns source place before after long over holds [] some told = absurd some
  cases-keep columns source place before after long over holds (case ∷ cases) (inl one) told = case-keeps columns source place case before after long over holds one told.0
  cases-keep columns source place before after long over holds (case ∷ cases) (inr later) told = cases-keep columns source place before after long over holds cases later told.1

  -- the rows at a point are over the columns of its procedure
  module _ (over : (proc node : ℕ) → AreOverColumns (columns_at program proc) (rows_at program table proc node)) (steps : List StepFrom)
      (told : AllByRecursion (λ from. StepTold program table decide from []) steps) where
    step-keeps : (goal : StepGoal) (before after : State) (from : StepFrom) → StepTold program table decide from [] → from.step.target ≡ target_of goal → length before ≡ columns_at program from.proc
        → HoldsSome from.step.formula.cases [] (before ++ after) → AreTrueOf (rows_at program table from.proc from.node) before → AreTrueOf (rows_at_goal program table from.proc goal) after
    step-keeps goal before after from is_told leads long some holds =
        let place = goal-place from.proc goal in
        subst (λ rows. AreTrueOf rows after) (goal-rows from.proc goal)
        (cases-keep (columns_at program from.proc) (rows_at program table from.proc from.node) place before after long (over from.proc from.node) holds from.step.formula.cases some
        (is_told place (ap (place_of from.proc) leads ∙ goal-is from.proc goal)))

    pub none-fell : AreKeptBy program steps table
    none-fell proc node goal before after step holds =
        let from = step.from in
        let is_told = each-get (λ f. StepTold program table decide f []) steps step.place from told step.is in
        let here = subst (λ (at : ℕ × ℕ). AreTrueOf (rows_at program table at.0 at.1) before) (λ i. (sym step.proc_is i, sym step.node_is i)) holds in
        let kept = step-keeps goal before after from is_told step.leads (step.width ∙ ap (columns_at program) (sym step.proc_is)) step.holds.some here in
        subst (λ p. AreTrueOf (rows_at_goal program table p goal) after) step.proc_is kept

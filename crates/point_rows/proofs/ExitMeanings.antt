-- What known formulas with rows at exits say of calls.
use Rattle.std.proofs.Common.{◌≡◌, inl, inr, ℕ, ◌≤◌, ℤ, length, map, take, List, [], ◌∷◌, ◌++◌, Option, Some, None, refl, sym, subst, ◌∙◌, append_assoc}
use Rattle.std.specs.Prelude.{slice_get, unwrap_or}
use Rattle.std.proofs.lemmas.List.{length-map, map-append}
use Rattle.std.proofs.lemmas.List.Elements.{All-from_recursion, recursion_from_All}
use Rattle.items.proofs.Each.{each-append, each-front, each-map}
use Rattle.syntax_tree.specs.declared.program.Proc.{Proc}
use Rattle.syntax_tree.specs.declared.program.Program.{Program}
use Rattle.syntax_tree.specs.Code.{Set, Any, Call, Guard, Check, If, Loop, Break, Continue, Return}
use Rattle.linear_terms.specs.declared.row.Row.{Row}
use Rattle.linear_terms.specs.declared.row.Case.{Case}
use Rattle.linear_terms.specs.Row.{RowHolds}
use Rattle.linear_terms.specs.Value.{value_of}
use Rattle.transition_formula.specs.Meaning.{Holds, HoldsCase, HoldsSome, numbers}
use Rattle.transition_formula.specs.Transition.{Transition, most_auxiliaries}
use Rattle.leaf_cases.specs.Conditions.{IsKnown}
use Rattle.leaf_cases.specs.Guard.{columns_of}
use Rattle.leaf_cases.proofs.Guards.{columns-read}
use Rattle.point_rows.specs.Reading.{AreTrueOf, stood_rows}
use Rattle.point_rows.specs.Exits.{AreExitRows, case_with_exit_rows, exit_rows_at, formula_with_rows}
use Rattle.point_rows.specs.ExitLaws.{CalleesStayKnown, ExitCallsAreKnown, ExitFormulasAreKnown, ExitRowsAreMet}
use Rattle.point_rows.proofs.ExitColumns.{cases-fit}
use Rattle.point_rows.proofs.ExitTables.{known-from, known-length, known-there}
use Rattle.point_rows.proofs.RowMeanings.{stood-hold}

-- ---- a case

module _ (from : ℕ) (rows : List Row) (before after : List ℤ) (enters : length before ≡ from) where
  -- the columns and the posts have the numbers before and after
  pair-read : (case : Case) (aux : ℕ → ℤ) → map (value_of (numbers before aux)) case.post ≡ after
      → map (value_of (numbers before aux)) (columns_of from ++ case.post) ≡ before ++ after
  pair-read case aux posts =
      map-append (value_of (numbers before aux)) (columns_of from) case.post ∙ (λ i. columns-read from before aux enters i ++ posts i)

  case-met : AreTrueOf rows (before ++ after) → (case : Case) → HoldsCase case before after → HoldsCase (case_with_exit_rows from rows case) before after
  case-met true_of case h =
      let at = numbers before h.0 in (
        h.0,
        record {
          rows =
              each-append (RowHolds at) case.rows (stood_rows (columns_of from ++ case.post) rows) h.1.rows
              (stood-hold at (columns_of from ++ case.post) (before ++ after) (pair-read case h.0 h.1.posts) rows true_of);
          posts = h.1.posts;
        },
      )

  case-told : (case : Case) → HoldsCase (case_with_exit_rows from rows case) before after → HoldsCase case before after
  case-told case h = (
    h.0,
    record {
      rows = each-front (RowHolds (numbers before h.0)) case.rows (stood_rows (columns_of from ++ case.post) rows) h.1.rows;
      posts = h.1.posts;
    },
  )

  some-met : AreTrueOf rows (before ++ after) → (cases : List Case) → HoldsSome cases before after → HoldsSome (map (case_with_exit_rows from rows) cases) before after
  some-met true_of [] h = absurd h
  some-met true_of (case ∷ cases) (inl h) = inl (case-met true_of case h)
  some-met true_of (case ∷ cases) (inr h) = inr (some-met true_of cases h)

  some-told : (cases : List Case) → HoldsSome (map (case_with_exit_rows from rows) cases) before after → HoldsSome cases before after
  some-told [] h = absurd h
  some-told (case ∷ cases) (inl h) = inl (case-told case h)
  some-told (case ∷ cases) (inr h) = inr (some-told cases h)

-- ---- a formula

formula-met : (o : Option (List Row)) (f : Transition) (before after : List ℤ) → AreTrueOf (unwrap_or o []) (before ++ after) → Holds f before after → Holds (formula_with_rows o f) before after
formula-met None f before after true_of h = h
formula-met (Some rows) f before after true_of h = record { enters = h.enters; some = some-met f.from rows before after h.enters true_of f.cases h.some }

formula-told : (o : Option (List Row)) (f : Transition) (before after : List ℤ) → Holds (formula_with_rows o f) before after → Holds f before after
formula-told None f before after h = h
formula-told (Some rows) f before after h = record { enters = h.enters; some = some-told f.from rows before after h.enters f.cases h.some }

-- it leads to as many columns
same-end : (o : Option (List Row)) (f : Transition) → (formula_with_rows o f).to ≡ f.to
same-end None f = refl
same-end (Some rows) f = refl

formula-known : (program : Program) (p : Proc) (o : Option (List Row)) (f : Transition) → AreExitRows f (unwrap_or o []) → IsKnown program p f → IsKnown program p (formula_with_rows o f)
formula-known program p None f over known = known
formula-known program p (Some rows) f over known = record {
  enters = known.enters;
  leaves = known.leaves;
  fits = cases-fit f.from f.to rows f.cases known.fits over;
  cases = simp length-map known.cases;
  auxiliaries =
      All-from_recursion (λ (case : Case). case.aux ≤ most_auxiliaries) (map (case_with_exit_rows f.from rows) f.cases)
      (each-map (λ (case : Case). case.aux ≤ most_auxiliaries) (λ (case : Case). case.aux ≤ most_auxiliaries) (case_with_exit_rows f.from rows) (λ case few. few) f.cases
      (recursion_from_All (λ (case : Case). case.aux ≤ most_auxiliaries) f.cases known.auxiliaries));
}

-- ---- the laws

pub exit_rows-met : ExitRowsAreMet
exit_rows-met known exits proc globals args left value call true_of =
    let rows = slice_get exits proc in
    let f = call.formula in
    let after = take f.to (left ++ value ∷ []) in
    record {
      formula = formula_with_rows rows f;
      is = known-there known exits proc f call.is;
      same = call.same;
      holds =
          subst (λ n. Holds (formula_with_rows rows f) (globals ++ args) (take n (left ++ value ∷ []))) (sym (same-end rows f))
          (formula-met rows f (globals ++ args) after (subst (AreTrueOf (exit_rows_at exits proc)) (sym (append_assoc globals args after)) true_of) call.holds);
    }

pub exit_calls-known : ExitCallsAreKnown
exit_calls-known known exits proc globals args left value call =
    let rows = slice_get exits proc in
    let from = known-from known exits proc call.formula call.is in
    let f = from.0 in
    record {
      formula = f;
      is = from.1;
      same = call.same;
      holds =
          subst (λ n. Holds f (globals ++ args) (take n (left ++ value ∷ []))) (same-end rows f)
          (formula-told rows f (globals ++ args) (take (formula_with_rows rows f).to (left ++ value ∷ []))
          (subst (λ g. Holds g (globals ++ args) (take g.to (left ++ value ∷ []))) (sym from.2) call.holds));
    }

pub exit_formulas-known : ExitFormulasAreKnown
exit_formulas-known program known exits are fit = record {
  each = known-length known exits ∙ are.each;
  fit = λ proc p g there is.
      let from = known-from known exits proc g is in
      subst (IsKnown program p) from.2 (formula-known program p (slice_get exits proc) from.0 (fit.fit proc from.0 from.1) (are.fit proc p from.0 there from.1));
}

pub callees-stay : CalleesStayKnown
callees-stay known exits (Call proc args into) knows = (formula_with_rows (slice_get exits proc) knows.0, known-there known exits proc knows.0 knows.1)
callees-stay known exits (Set col value) knows = tt
callees-stay known exits (Any col) knows = tt
callees-stay known exits (Guard cond) knows = tt
callees-stay known exits (Check number cond) knows = tt
callees-stay known exits (If cond on_true on_false) knows = tt
callees-stay known exits (Loop pre cond body step first) knows = tt
callees-stay known exits Break knows = tt
callees-stay known exits Continue knows = tt
callees-stay known exits Return knows = tt

-- One round: what it keeps, and that rows are true of one more unfolding where it drops none.
use Rattle.std.proofs.Common.{◌≡◌, ℕ, ◌+◌, ◌≤◌, ℤ, List, [], ◌∷◌, ◌++◌, length, map, Option, None, Some, refl, sym, subst, append-nil, append_assoc, arith}
use Rattle.std.specs.Prelude.{IsTrue}
use Rattle.std.specs.List.{AllByRecursion, AllZip, cons_option, filter_map, flat_map}
use Rattle.std.proofs.lemmas.List.Elements.{All-from_recursion}
use Rattle.items.proofs.Each.{each-any, each-both, each-more, each_from_test}
use Rattle.linear_terms.specs.declared.row.Row.{Row}
use Rattle.linear_terms.specs.declared.row.Case.{Case}
use Rattle.linear_terms.specs.Row.{RowHolds}
use Rattle.posing.specs.declared.note.Witness.{Witness}
use Rattle.posing.specs.Posing.{Done, ◌>>=◌, each, Always, AlwaysPassing, IsPassing}
use Rattle.polyhedra.specs.Vocabulary.{Vocabulary}
use Rattle.recurrence.proofs.StarLaws.{always_every}
use Rattle.syntax_tree.specs.declared.program.Proc.{Proc}
use Rattle.syntax_tree.specs.declared.program.Program.{Program}
use Rattle.syntax_tree.specs.Value.{State}
use Rattle.syntax_tree.specs.WellFormed.{IsWellFormed}
use Rattle.transition_formula.specs.Transition.{Transition, every_column, fits, is_below}
use Rattle.transition_formula.proofs.Fitting.{Fitting, fitting, from_fitting}
use Rattle.flow_graph.specs.Heights.{ReturnsOver}
use Rattle.leaf_cases.specs.Conditions.{AreKnown, KnownCalls}
use Rattle.leaf_cases.specs.Summaries.{exit_values}
use Rattle.checked_tree.specs.Law.{IsBetweenEnds}
use Rattle.checked_tree.proofs.Between.{IsFewCase, few-cases}
use Rattle.newton_rounds.specs.declared.dropping.JudgedRow.{JudgedRow}
use Rattle.newton_rounds.specs.declared.findings.Judgements.{Judgements}
use Rattle.newton_rounds.specs.Candidates.{drop_notes_by, drop_notes_in, judgements_and, kept_row, members_with, no_judgements, refutation, unfolded_formula, unless_refuted, with_judged, with_round}
use Rattle.newton_rounds.specs.Closure.{pair_ends, with_places_from}
use Rattle.newton_rounds.specs.Shapes.{IsOverPairs, IsRefutable}
use Rattle.recurrence.proofs.CanonicalOrder.{IsCanonicalFormula}
use Rattle.newton_rounds.proofs.CandidateRows.{ArePairRows, IsPairRow}
use Rattle.newton_rounds.proofs.MemberTables.{IsProcedure}
use Rattle.posing.proofs.Paths.{always_any, always_bind, always_weaker}
use Rattle.posing.proofs.UnderAnswers.{passing-always, under-bind, under-each, under-weaker}
use Rattle.vocabularies.specs.Procs.{IsProcOf}
use Rattle.newton_rounds.proofs.ExitColumns.{exit-few}
use Rattle.newton_rounds.proofs.MatchLoops.{IsBehind, each-part_match}
use Rattle.newton_rounds.proofs.TrueRows.{Entails, pair_numbers, refuted-entails}
use Rattle.newton_rounds.proofs.RoundRows.{AreOf, kept-over}
use Rattle.newton_rounds.proofs.Unfoldings.{IsUnfolded, unfolded-tells}
use Rattle.newton_rounds.proofs.Widths.{ends-are}

-- ---- rows and what refutes them

-- each is judged in its order, and what is not refuted is true
abbrev pub AreJudged : (Row → Type 0) → List Row → List JudgedRow → Type 0
AreJudged True [] [] = Unit {0}
AreJudged True [] (j ∷ js) = ⊥
AreJudged True (row ∷ rows) [] = ⊥
AreJudged True (row ∷ rows) (j ∷ js) = (j.row ≡ row) × (j.by ≡ None → True row) × AreJudged True rows js

pub judged-more : (P Q : Row → Type 0) → ((row : Row) → P row → Q row) → (rows : List Row) (js : List JudgedRow) → AreJudged P rows js → AreJudged Q rows js
judged-more P Q more [] [] h = tt
judged-more P Q more [] (j ∷ js) h = absurd h
judged-more P Q more (row ∷ rows) [] h = absurd h
judged-more P Q more (row ∷ rows) (j ∷ js) h = (h.0, (λ e. more row (h.1 e)), judged-more P Q more rows js h.2)

-- it is judged itself
judged-of : (True : Row → Type 0) (rows : List Row) (js : List JudgedRow) → AreJudged True rows js → AreOf rows js
judged-of True [] [] h = tt
judged-of True [] (j ∷ js) h = absurd h
judged-of True (row ∷ rows) [] h = absurd h
judged-of True (row ∷ rows) (j ∷ js) h = (h.0, judged-of True rows js h.2)

-- where no note says so, all are kept and true
kept-all : (True : Row → Type 0) (place : ℕ) (rows : List Row) (js : List JudgedRow) → AreJudged True rows js → drop_notes_in (place, js) ≡ [] → (filter_map kept_row js ≡ rows) × AllByRecursion True rows
kept-all True place [] [] h none = (refl, tt)
kept-all True place [] (j ∷ js) h none = absurd h
kept-all True place (row ∷ rows) [] h none = absurd h
kept-all True place (row ∷ rows) (j ∷ js) h none = go j.by h.1 none (λ later. kept-all True place rows js h.2 later)
  where
    go : (by : Option Witness) → (by ≡ None → True row) → drop_notes_by place j.row by ++ drop_notes_in (place, js) ≡ [] → (drop_notes_in (place, js) ≡ [] → (filter_map kept_row js ≡ rows) × AllByRecursion True rows)
        → (cons_option (unless_refuted j.row by) (filter_map kept_row js) ≡ row ∷ rows) × AllByRecursion True (row ∷ rows)
    go None tells e later = let rest = later e in ((λ i. h.0 i ∷ rest.0 i), (tells refl, rest.1))
    go (Some w) tells e later = absurd (cc)

-- ---- rows of one formula

module _ (f : Transition) (columns : ℕ) (from to : Vocabulary) (between : IsBetweenEnds from to f) (wide : from.columns + to.columns ≡ columns) (short : to.columns ≤ 63) where
  over-pairs : (row : Row) → IsPairRow columns row → (case : Case) → Fitting f.from f.to case → IsFewCase case → IsOverPairs f.from case row
  over-pairs row is case fit few =
      let long = fit.length_is in
      let starts = between.between.from_is in
      let ends = between.between.to_is in
      let all : columns ≡ f.from + length case.post = omega (arith, wide, long, starts, ends) in
      record {
        row_is = subst (λ n. IsTrue (every_column (is_below n 0) row.poly)) all is.below;
        case_is = from_fitting f.from (length case.post) case record { length_is = refl; rows_are = fit.rows_are; posts_are = fit.posts_are };
        few = omega (arith, few, long, ends, short);
      }

  pub refutable : (row : Row) → IsPairRow columns row → IsRefutable f row
  refutable row is =
      All-from_recursion (λ case. IsOverPairs f.from case row) f.cases
      (each-more (λ case. Fitting f.from f.to case × IsFewCase case) (λ case. IsOverPairs f.from case row) (λ case h. over-pairs row is case h.0 h.1) f.cases
      (each-both (Fitting f.from f.to) IsFewCase f.cases (each_from_test (fits f.from f.to) (Fitting f.from f.to) (λ case h. fitting f.from f.to case h) f.cases between.between.fits) (few-cases f.cases between.fitted)))

-- a row for each step
judged-step : (True : Row → Type 0) (all : List Row) (rows : List Row) (row : Row) (made : List JudgedRow) (j : JudgedRow)
    → ((js : List JudgedRow) → AreJudged True (row ∷ rows) js → AreJudged True all (made ++ js)) → j.row ≡ row → (j.by ≡ None → True row)
    → (js : List JudgedRow) → AreJudged True rows js → AreJudged True all ((made ++ j ∷ []) ++ js)
judged-step True all rows row made j so_far same tells js h = subst (AreJudged True all) (sym (append_assoc made (j ∷ []) js)) (so_far (j ∷ js) (same, tells, h))

abbrev MadeSoFar : (Row → Type 0) → List Row → List Row → List JudgedRow → Type 0
MadeSoFar True all rest made = (js : List JudgedRow) → AreJudged True rest js → AreJudged True all (made ++ js)

module _ (f : Transition) (columns : ℕ) (canonical : IsCanonicalFormula f) (ready : (row : Row) → IsPairRow columns row → IsRefutable f row) where
  abbrev RowsLeft : List Row → List Row → List JudgedRow → Type 0
  RowsLeft rows rest made = ArePairRows columns rest × MadeSoFar (Entails f) rows rest made

  row-judged : (rows : List Row) (row : Row) (rest : List Row) (made : List JudgedRow) → RowsLeft rows (row ∷ rest) made → AlwaysPassing (RowsLeft rows rest) (with_judged f made row)
  unfolding with_judged
  row-judged rows row rest made k =
      under-bind IsPassing (λ by. by ≡ None → Entails f row) (RowsLeft rows rest) (refutation f row) (λ by. Done (made ++ record { row = row; by = by } ∷ []))
      (refuted-entails f row k.0.0.kind canonical (ready row k.0.0))
      (λ by tells. (k.0.1, judged-step (Entails f) rows rest row made (record { row = row; by = by }) k.1 refl tells))

  -- the rows of a candidate are judged by the formula
  pub rows-judged : (rows : List Row) → ArePairRows columns rows → AlwaysPassing (AreJudged (Entails f) rows) (each (with_judged f) [] rows)
  rows-judged rows are =
      under-weaker IsPassing (RowsLeft rows []) (AreJudged (Entails f) rows) (each (with_judged f) [] rows) (λ made k. subst (AreJudged (Entails f) rows) (append-nil made) (k.1 [] tt))
      (under-each IsPassing (RowsLeft rows) (with_judged f) [] rows (λ row rest made k. row-judged rows row rest made k) (are, λ js h. h))

-- ---- the members of a round

module _ (program : Program) (formed : IsWellFormed program) where
  abbrev pub columns_of_pair : Proc → ℕ
  columns_of_pair p = (pair_ends program p).pair.columns

  -- the row is true of each activation of the procedure, where calls mean what the known formulas
  -- say
  abbrev pub IsTrueOf : List (Option Transition) → Proc → Row → Type 0
  IsTrueOf known p row =
      (proc : ℕ) → IsProcOf program proc p → (globals args after : State) (value : ℤ) → ReturnsOver (KnownCalls known) program proc globals args after value
      → RowHolds (pair_numbers ((globals ++ args) ++ exit_values p after value)) row

  -- a candidate for each member, of rows over its pairs
  abbrev pub AreCandidates : List Proc → List (List Row) → Type 0
  AreCandidates [] [] = Unit {0}
  AreCandidates [] (rows ∷ candidates) = ⊥
  AreCandidates (p ∷ ps) [] = ⊥
  AreCandidates (p ∷ ps) (rows ∷ candidates) = ArePairRows (columns_of_pair p) rows × AreCandidates ps candidates

  -- and each row is true
  abbrev pub AreTrueOf : List (Option Transition) → List Proc → List (List Row) → Type 0
  AreTrueOf known [] [] = Unit {0}
  AreTrueOf known [] (rows ∷ candidates) = ⊥
  AreTrueOf known (p ∷ ps) [] = ⊥
  AreTrueOf known (p ∷ ps) (rows ∷ candidates) = AllByRecursion (IsTrueOf known p) rows × AreTrueOf known ps candidates

  module _ (known : List (Option Transition)) (are : AreKnown program known) where
    -- the rows of each member are judged
    abbrev pub AreAllJudged : List (Proc × List Row) → List (List JudgedRow) → Type 0
    AreAllJudged [] [] = Unit {0}
    AreAllJudged [] (js ∷ all) = ⊥
    AreAllJudged (m ∷ ms) [] = ⊥
    AreAllJudged (m ∷ ms) (js ∷ all) = AreJudged (IsTrueOf known m.0) m.1 js × AreAllJudged ms all

    abbrev IsReady : Proc × List Row → Type 0
    IsReady m = IsProcedure program m.0 × ArePairRows (columns_of_pair m.0) m.1

    abbrev AllSoFar : List (Proc × List Row) → List (Proc × List Row) → List (List JudgedRow) → Type 0
    AllSoFar all rest made = (jss : List (List JudgedRow)) → AreAllJudged rest jss → AreAllJudged all (made ++ jss)

    -- it does not matter by which number the procedure goes
    abbrev pub IsUnfoldingOf : Proc → Transition → Type 0
    IsUnfoldingOf p f = (number : (proc : ℕ) × (IsProcOf program proc p)) → IsUnfolded program number.0 p known number.1 formed are f

    abbrev IsMade : Proc × List Row → Transition → Type 0
    IsMade m f = IsUnfoldingOf m.0 f

    every-number : (p : Proc) → Always (IsUnfoldingOf p) (unfolded_formula program known p)
    every-number p =
        always_every (λ number f. IsUnfolded program number.0 p known number.1 formed are f) (unfolded_formula program known p)
        (λ (number : (proc : ℕ) × (IsProcOf program proc p)). unfolded-tells program number.0 p known number.1 formed are)

    member-judged : (p : Proc) (rows : List Row) → IsProcedure program p → ArePairRows (columns_of_pair p) rows → (f : Transition)
        → IsUnfoldingOf p f → AlwaysPassing (AreJudged (IsTrueOf known p) rows) (each (with_judged f) [] rows)
    member-judged p rows member over f tells =
        let own = tells member in
        let ends = ends-are program member.0 p formed member.1 in
        let few = exit-few (pair_ends program p) ends in
        let wide = ends.pair in
        under-weaker IsPassing (AreJudged (Entails f) rows) (AreJudged (IsTrueOf known p) rows) (each (with_judged f) [] rows)
        (λ js h. judged-more (Entails f) (IsTrueOf known p) (λ row entails proc is globals args after value r. entails (globals ++ args) (exit_values p after value) ((tells (proc, is)).tells globals args after value r)) rows js h)
        (rows-judged f (columns_of_pair p) own.canonical
        (refutable f (columns_of_pair p) (pair_ends program p).ends.entry (pair_ends program p).ends.exit own.between (sym wide) (omega (arith, few))) rows over)

    abbrev AreLeft : List (Proc × List Row) → List (Proc × List Row) → Judgements → Type 0
    AreLeft all rest made = AllByRecursion IsReady rest × AllSoFar all rest made.rows

    with_round-judged : (all : List (Proc × List Row)) (m : Proc × List Row) (rest : List (Proc × List Row)) (made : Judgements) → AreLeft all (m ∷ rest) made
        → AlwaysPassing (AreLeft all rest) (with_round program known made m)
    unfolding with_round
    with_round-judged all m rest made k =
        under-bind IsPassing (IsUnfoldingOf m.0) (AreLeft all rest)
        (unfolded_formula program known m.0) (λ f. each (with_judged f) [] m.1 >>= λ judged. Done (judgements_and made f judged))
        (passing-always _ (unfolded_formula program known m.0) (every-number m.0))
        (λ f tells. under-bind IsPassing (AreJudged (IsTrueOf known m.0) m.1) (AreLeft all rest) (each (with_judged f) [] m.1) (λ judged. Done (judgements_and made f judged))
        (member-judged m.0 m.1 k.0.0.0 k.0.0.1 f tells)
        (λ judged h. (k.0.1, λ jss more. subst (AreAllJudged all) (sym (append_assoc made.rows (judged ∷ []) jss)) (k.1 (judged ∷ jss) (h, more)))))

    pub all-judged : (all : List (Proc × List Row)) → AllByRecursion IsReady all → AlwaysPassing (λ (made : Judgements). AreAllJudged all made.rows) (each (with_round program known) no_judgements all)
    all-judged all ready =
        under-weaker IsPassing (AreLeft all []) (λ (made : Judgements). AreAllJudged all made.rows) (each (with_round program known) no_judgements all) (λ made k. subst (AreAllJudged all) (append-nil made.rows) (k.1 [] tt))
        (under-each IsPassing (AreLeft all) (with_round program known) no_judgements all (λ m rest made k. with_round-judged all m rest made k) (ready, λ jss h. h))

    -- ---- the formulas by which they are judged

    formula-behind : (made : Judgements) (m : Proc × List Row) → Always (λ (next : Judgements). IsBehind IsMade made.formulas m next.formulas) (with_round program known made m)
    unfolding with_round
    formula-behind made m =
        always_bind (IsUnfoldingOf m.0) (λ (next : Judgements). IsBehind IsMade made.formulas m next.formulas) (unfolded_formula program known m.0)
        (λ f. each (with_judged f) [] m.1 >>= λ judged. Done (judgements_and made f judged))
        (every-number m.0)
        (λ f tells. always_bind (λ judged. Unit {0}) (λ (next : Judgements). IsBehind IsMade made.formulas m next.formulas) (each (with_judged f) [] m.1) (λ judged. Done (judgements_and made f judged))
        (always_any (λ judged. Unit {0}) (each (with_judged f) [] m.1) (λ judged. tt)) (λ judged any. record { value = f; is = refl; holds = tells }))

    by-members : (ps : List Proc) (candidates : List (List Row)) (fs : List Transition) → length candidates ≡ length ps → AllZip IsMade (members_with ps candidates) fs → AllZip IsUnfoldingOf ps fs
    by-members [] [] fs e h = h
    by-members [] (rows ∷ candidates) fs e h = absurd (omega (arith, e))
    by-members (p ∷ ps) [] fs e h = absurd (omega (arith, e))
    by-members (p ∷ ps) (rows ∷ candidates) [] e h = h
    by-members (p ∷ ps) (rows ∷ candidates) (f ∷ fs) e h = (h.0, by-members ps candidates fs (omega (arith, e)) h.1)

    -- one for each member
    pub all-unfolded : (ps : List Proc) (candidates : List (List Row)) → length candidates ≡ length ps
        → Always (λ (made : Judgements). AllZip IsUnfoldingOf ps made.formulas) (each (with_round program known) no_judgements (members_with ps candidates))
    all-unfolded ps candidates e =
        let all = members_with ps candidates in
        always_weaker (λ (made : Judgements). AllZip IsMade all made.formulas) (λ (made : Judgements). AllZip IsUnfoldingOf ps made.formulas) (each (with_round program known) no_judgements all)
        (λ made h. by-members ps candidates made.formulas e h)
        (each-part_match (λ (made : Judgements). made.formulas) (λ m. Unit {0}) IsMade (with_round program known) (λ made m any. formula-behind made m) no_judgements refl all (each-any (λ m. Unit {0}) (λ m. tt) all))

    -- ---- what a round keeps

    pub all-ready : (ps : List Proc) (candidates : List (List Row)) → AllByRecursion (IsProcedure program) ps → AreCandidates ps candidates → AllByRecursion IsReady (members_with ps candidates)
    all-ready [] [] members h = tt
    all-ready [] (rows ∷ candidates) members h = tt
    all-ready (p ∷ ps) [] members h = tt
    all-ready (p ∷ ps) (rows ∷ candidates) members h = ((members.0, h.0), all-ready ps candidates members.1 h.1)

    pub kept-candidates : (ps : List Proc) (candidates : List (List Row)) (jss : List (List JudgedRow)) → AreCandidates ps candidates → AreAllJudged (members_with ps candidates) jss → AreCandidates ps (map (filter_map kept_row) jss)
    kept-candidates [] [] [] h k = tt
    kept-candidates [] [] (js ∷ jss) h k = absurd k
    kept-candidates [] (rows ∷ candidates) jss h k = absurd h
    kept-candidates (p ∷ ps) [] jss h k = absurd h
    kept-candidates (p ∷ ps) (rows ∷ candidates) [] h k = absurd k
    kept-candidates (p ∷ ps) (rows ∷ candidates) (js ∷ jss) h k =
        (kept-over (IsPairRow (columns_of_pair p)) rows js (judged-of (IsTrueOf known p) rows js k.0) h.0, kept-candidates ps candidates jss h.1 k.1)

    pub all-of : (ps : List Proc) (candidates : List (List Row)) (jss : List (List JudgedRow)) → AreCandidates ps candidates → AreAllJudged (members_with ps candidates) jss → AllZip AreOf candidates jss
    all-of [] [] [] h k = tt
    all-of [] [] (js ∷ jss) h k = absurd k
    all-of [] (rows ∷ candidates) jss h k = absurd h
    all-of (p ∷ ps) [] jss h k = absurd h
    all-of (p ∷ ps) (rows ∷ candidates) [] h k = absurd k
    all-of (p ∷ ps) (rows ∷ candidates) (js ∷ jss) h k = (judged-of (IsTrueOf known p) rows js k.0, all-of ps candidates jss h.1 k.1)

    both-none : {X : Type 0} (xs ys : List X) → xs ++ ys ≡ [] → (xs ≡ []) × (ys ≡ [])
    both-none [] ys e = (refl, e)
    both-none (x ∷ xs) ys e = absurd (cc)

    -- where it drops none, it keeps all, and all are true
    pub kept-true : (place : ℕ) (ps : List Proc) (candidates : List (List Row)) (jss : List (List JudgedRow)) → AreCandidates ps candidates → AreAllJudged (members_with ps candidates) jss
        → flat_map drop_notes_in (with_places_from place jss) ≡ [] → (map (filter_map kept_row) jss ≡ candidates) × AreTrueOf known ps candidates
    kept-true place [] [] [] h k none = (refl, tt)
    kept-true place [] [] (js ∷ jss) h k none = absurd k
    kept-true place [] (rows ∷ candidates) jss h k none = absurd h
    kept-true place (p ∷ ps) [] jss h k none = absurd h
    kept-true place (p ∷ ps) (rows ∷ candidates) [] h k none = absurd k
    kept-true place (p ∷ ps) (rows ∷ candidates) (js ∷ jss) h k none =
        let parts = both-none (drop_notes_in (place, js)) (flat_map drop_notes_in (with_places_from (place + 1) jss)) none in
        let one = kept-all (IsTrueOf known p) place rows js k.0 parts.0 in
        let more = kept-true (place + 1) ps candidates jss h.1 k.1 parts.1 in
        ((λ i. one.0 i ∷ more.0 i), (one.1, more.1))

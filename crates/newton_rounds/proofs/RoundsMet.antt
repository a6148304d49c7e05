-- The summaries that rounds leave are met: the candidates, and the formulas that the last round made
-- of the procedures.
use Rattle.std.proofs.Common.{◌≡◌, ◌⊎◌, inl, inr, ℕ, zero, suc, ◌+◌, ◌<◌, ◌≤◌, ℤ, Bool, true, false, List, [], ◌∷◌, ◌++◌, length, map, take, Option, Some, refl, sym, ap, subst, ◌∙◌, append-nil, append_assoc, length-append, arith}
use Rattle.std.specs.Prelude.{if◌then◌else◌}
use Rattle.std.specs.List.{AllByRecursion, AllZip, range_with_len, slice_get}
use Rattle.std.specs.Option.{option_map}
use Rattle.std.proofs.lemmas.List.{length-map}
use Rattle.std.proofs.lemmas.List.FromFn.{length-range_with_len}
use Rattle.std.proofs.lemmas.Option.{slice_get-map, slice_get_within}
use Rattle.items.proofs.Each.{each-more}
use Rattle.linear_terms.specs.declared.row.Row.{Row}
use Rattle.linear_terms.specs.Row.{RowHolds, RowsHold}
use Rattle.posing.specs.declared.note.Note.{Note}
use Rattle.posing.specs.Posing.{Done, Noted, each, Always, AlwaysPassing, IsPassing}
use Rattle.posing.proofs.Paths.{always_any, always_bind, always_each, always_weaker}
use Rattle.syntax_tree.specs.declared.program.Proc.{Proc}
use Rattle.syntax_tree.specs.declared.program.Program.{Program}
use Rattle.vocabularies.specs.Ends.{value_width}
use Rattle.vocabularies.specs.Procs.{IsProcOf}
use Rattle.proc_summary.proofs.ExitSummaries.{entry-columns, exit-columns}
use Rattle.syntax_tree.specs.Code.{Statement, Set, Any, Call, Guard, Check, If, Loop, Break, Continue, Return}
use Rattle.syntax_tree.specs.Value.{State}
use Rattle.syntax_tree.specs.WellFormed.{IsWellFormed}
use Rattle.execution.specs.Execution.{Returns}
use Rattle.transition_formula.specs.Meaning.{Holds}
use Rattle.transition_formula.specs.Transition.{Transition}
use Rattle.flow_graph.specs.FlowGraph.{Arc, FlowGraph, graph_of}
use Rattle.flow_graph.specs.Heights.{ReturnsOver, ReturnsWithin}
use Rattle.flow_graph.specs.Walks.{CallMeaning}
use Rattle.flow_graph.proofs.Heights.{over-returns, returns-by_height, returns-more, returns_have_heights}
use Rattle.phases.specs.Rules.{has_phases}
use Rattle.leaf_cases.specs.Conditions.{AreKnown, IsKnown, KnownCalls, exits_of}
use Rattle.leaf_cases.specs.Summaries.{AreMet, KnowsCallee, exit_values, if_returned}
use Rattle.leaf_cases.proofs.MetCalls.{exits_are, returns-globals}
use Rattle.proc_summary.specs.Subject.{own_graph}
use Rattle.proc_summary.proofs.Graphs.{graph-is}
use Rattle.newton_rounds.specs.Between.{row_count}
use Rattle.newton_rounds.specs.declared.findings.Judgements.{Judgements}
use Rattle.newton_rounds.specs.declared.findings.RoundEnd.{RoundEnd}
use Rattle.newton_rounds.specs.Candidates.{before_rounds, candidate_formula, candidate_of, dropped_notes, end_of_round, last_round, members_with, most_rounds, no_judgements, round, some_note, summaries_by_round, table_of, with_round}
use Rattle.newton_rounds.specs.Claims.{AreMetMembers}
use Rattle.newton_rounds.specs.Close.{closure_by_rounds, pairs_of, with_candidate}
use Rattle.newton_rounds.specs.Closure.{closed_member, closure_of, ends_of_members, pair_ends, sides_of, stretches_with, with_closed}
use Rattle.newton_rounds.specs.Laws.{CallsMember, KnowsOthers}
use Rattle.newton_rounds.specs.Members.{calls_from, members_of, with_table}
use Rattle.newton_rounds.specs.Pairs.{PairEnds, Stretch}
use Rattle.newton_rounds.proofs.GroupCalls.{AreThere, member-at, members-many}
use Rattle.newton_rounds.proofs.CandidateFormulas.{candidate-holds, candidate-known, table-at, table-long}
use Rattle.newton_rounds.proofs.CandidateRows.{ArePairRows, candidate-rows}
use Rattle.newton_rounds.proofs.JudgedRows.{AreAllJudged, AreCandidates, AreTrueOf, IsTrueOf, IsUnfoldingOf, all-judged, all-of, all-ready, all-unfolded, kept-candidates, kept-true}
use Rattle.newton_rounds.proofs.MemberTables.{IsKnownAt, each-member, table-either, table-keeps, table-knows}
use Rattle.posing.proofs.UnderAnswers.{IsRound, passing-always, under-bind, under-both, under-until}
use Rattle.newton_rounds.proofs.TrueRows.{pair_numbers}
use Rattle.newton_rounds.proofs.KnownTables.{AreFor, tabled-known}
use Rattle.newton_rounds.proofs.ToldCalls.{TellsArcs, TellsCall, returns-told}
use Rattle.newton_rounds.proofs.RoundRows.{all-counted, rows-counted}
use Rattle.newton_rounds.proofs.Widths.{ends-are}
use Rattle.newton_rounds.proofs.PairLists.{some-one, zipped-at}

-- ---- as many formulas as members

closed-next : (members : List PairEnds) (stretches : List Stretch) (bases : List Transition) (all : ℕ) (place : ℕ) (rest : List ℕ) (made : List Transition) → length made + length (place ∷ rest) ≡ all
    → Always (λ next. length next + length rest ≡ all) (with_closed members stretches bases made place)
unfolding with_closed
closed-next members stretches bases all place rest made k =
    always_bind (λ f. Unit {0}) (λ next. length next + length rest ≡ all) (closed_member members stretches bases place) (λ f. Done (made ++ f ∷ []))
    (always_any (λ f. Unit {0}) (closed_member members stretches bases place) (λ f. tt)) (λ f any. let long = length-append made (f ∷ []) in omega (arith, long, k))

closed-long : (members : List PairEnds) (stretches : List Stretch) (bases : List Transition) (n : ℕ) → Always (λ made. length made ≡ n) (each (with_closed members stretches bases) [] (range_with_len 0 n))
closed-long members stretches bases n =
    always_weaker (λ made. length made + 0 ≡ n) (λ made. length made ≡ n) (each (with_closed members stretches bases) [] (range_with_len 0 n)) (λ made k. omega (arith, k))
    (always_each (λ rest made. length made + length rest ≡ n) (with_closed members stretches bases) [] (range_with_len 0 n) (λ place rest made k. closed-next members stretches bases n place rest made k)
    (let all = length-range_with_len 0 n in omega (arith, all)))

closure-long : (program : Program) (procs : List ℕ) (known : List (Option Transition)) (bases table : List Transition) → Always (λ made. length made ≡ length (members_of program procs)) (closure_of program procs known bases table)
unfolding closure_of
closure-long program procs known bases table =
    always_bind (λ sides. Unit {0}) (λ made. length made ≡ length (members_of program procs)) (sides_of program procs (with_table procs table known))
    (λ sides. each (with_closed (ends_of_members program procs) (stretches_with (calls_from procs 0 (members_of program procs)) sides) bases) [] (range_with_len 0 (length (members_of program procs))))
    (always_any (λ sides. Unit {0}) (sides_of program procs (with_table procs table known)) (λ sides. tt))
    (λ sides any. closed-long (ends_of_members program procs) (stretches_with (calls_from procs 0 (members_of program procs)) sides) bases (length (members_of program procs)))

-- ---- a candidate for each

abbrev AreRowsFor : List (PairEnds × Transition) → List (List Row) → Type 0
AreRowsFor [] [] = Unit {0}
AreRowsFor [] (rows ∷ made) = ⊥
AreRowsFor (m ∷ ms) [] = ⊥
AreRowsFor (m ∷ ms) (rows ∷ made) = ArePairRows m.0.pair.columns rows × AreRowsFor ms made

candidate-next : (all rest : List (PairEnds × Transition)) (m : PairEnds × Transition) (made : List (List Row)) → ((cs : List (List Row)) → AreRowsFor (m ∷ rest) cs → AreRowsFor all (made ++ cs))
    → Always (λ next. (cs : List (List Row)) → AreRowsFor rest cs → AreRowsFor all (next ++ cs)) (with_candidate made m)
unfolding with_candidate
candidate-next all rest m made k =
    always_bind (ArePairRows m.0.pair.columns) (λ next. (cs : List (List Row)) → AreRowsFor rest cs → AreRowsFor all (next ++ cs)) (candidate_of m.0 m.1) (λ rows. Done (made ++ rows ∷ []))
    (candidate-rows m.0 m.1) (λ rows h cs more. subst (AreRowsFor all) (sym (append_assoc made (rows ∷ []) cs)) (k (rows ∷ cs) (h, more)))

rows-for : (all : List (PairEnds × Transition)) → Always (AreRowsFor all) (each with_candidate [] all)
rows-for all =
    always_weaker (Keeps []) (AreRowsFor all) (each with_candidate [] all) (λ made k. subst (AreRowsFor all) (append-nil made) (k [] tt)) (always_each Keeps with_candidate [] all one (λ cs h. h))
  where
    Keeps : List (PairEnds × Transition) → List (List Row) → Type 0
    Keeps rest made = (cs : List (List Row)) → AreRowsFor rest cs → AreRowsFor all (made ++ cs)

    one : (m : PairEnds × Transition) (rest : List (PairEnds × Transition)) (made : List (List Row)) → Keeps (m ∷ rest) made → Always (Keeps rest) (with_candidate made m)
    one m rest made k = candidate-next all rest m made k

module _ (program : Program) (formed : IsWellFormed program) where
  candidates-for : (ps : List Proc) (table : List Transition) (cs : List (List Row)) → length table ≡ length ps → AreRowsFor (pairs_of (map (pair_ends program) ps) table) cs → AreCandidates program formed ps cs
  candidates-for [] table [] same h = tt
  candidates-for [] table (rows ∷ cs) same h = absurd h
  candidates-for (p ∷ ps) [] cs same h = absurd (omega (arith, same))
  candidates-for (p ∷ ps) (f ∷ table) [] same h = absurd h
  candidates-for (p ∷ ps) (f ∷ table) (rows ∷ cs) same h = (h.0, candidates-for ps table cs (omega (arith, same)) h.1)

  candidates-long : (ps : List Proc) (candidates : List (List Row)) → AreCandidates program formed ps candidates → length ps ≡ length candidates
  candidates-long [] [] h = refl
  candidates-long [] (rows ∷ candidates) h = absurd h
  candidates-long (p ∷ ps) [] h = absurd h
  candidates-long (p ∷ ps) (rows ∷ candidates) h = ap suc (candidates-long ps candidates h.1)

  candidate-at : (ps : List Proc) (candidates : List (List Row)) → AreCandidates program formed ps candidates → (place : ℕ) (p : Proc) (rows : List Row) → slice_get ps place ≡ Some p → slice_get candidates place ≡ Some rows
      → ArePairRows (pair_ends program p).pair.columns rows
  candidate-at [] [] h place p rows e g = absurd (none place e)
    where
      none : (n : ℕ) → slice_get [] n ≡ Some p → ⊥
      none n e = cc
  candidate-at [] (other ∷ candidates) h place p rows e g = absurd h
  candidate-at (q ∷ ps) [] h place p rows e g = absurd h
  candidate-at (q ∷ ps) (other ∷ candidates) h zero p rows e g =
      let same : q ≡ p = cc in
      let rows_same : other ≡ rows = cc in
      subst (λ r. ArePairRows (pair_ends program r).pair.columns rows) same (subst (ArePairRows (pair_ends program q).pair.columns) rows_same h.0)
  candidate-at (q ∷ ps) (other ∷ candidates) h (suc place) p rows e g = candidate-at ps candidates h.1 place p rows e g

  true-at : (known : List (Option Transition)) (ps : List Proc) (candidates : List (List Row)) → AreTrueOf program formed known ps candidates → (place : ℕ) (p : Proc) (rows : List Row) → slice_get ps place ≡ Some p → slice_get candidates place ≡ Some rows
      → AllByRecursion (IsTrueOf program formed known p) rows
  true-at known [] [] h place p rows e g = absurd (none place e)
    where
      none : (n : ℕ) → slice_get [] n ≡ Some p → ⊥
      none n e = cc
  true-at known [] (other ∷ candidates) h place p rows e g = absurd h
  true-at known (q ∷ ps) [] h place p rows e g = absurd h
  true-at known (q ∷ ps) (other ∷ candidates) h zero p rows e g =
      let same : q ≡ p = cc in
      let rows_same : other ≡ rows = cc in
      subst (λ r. AllByRecursion (IsTrueOf program formed known r) rows) same (subst (AllByRecursion (IsTrueOf program formed known q)) rows_same h.0)
  true-at known (q ∷ ps) (other ∷ candidates) h (suc place) p rows e g = true-at known ps candidates h.1 place p rows e g

-- ---- the rounds

pub exit-long : (returns : Bool) (after : State) (value : ℤ) (n : ℕ) → length after ≡ n → length (if_returned returns after value) ≡ n + value_width returns
exit-long true after value n e = let all = length-append after (value ∷ []) in omega (arith, all, e)
exit-long false after value n e = omega (arith, e)

module _ (program : Program) (procs : List ℕ) (known : List (Option Transition)) (formed : IsWellFormed program) (there : AreThere program procs) (are : AreKnown program known) where
  abbrev ps : List Proc
  ps = members_of program procs

  abbrev table : List (List Row) → List Transition
  table candidates = table_of (map (pair_ends program) ps) candidates

  abbrev known_with : List (List Row) → List (Option Transition)
  known_with candidates = with_table procs (table candidates) known

  -- the formula at a place of a group is a candidate's
  table-found : (candidates : List (List Row)) → (place proc : ℕ) (p : Proc) (f : Transition) → slice_get procs place ≡ Some proc → IsProcOf program proc p → slice_get (table candidates) place ≡ Some f
      → (rows : List Row) × (slice_get candidates place ≡ Some rows) × (f ≡ candidate_formula (pair_ends program p) rows)
  table-found candidates place proc p f e is g =
      table-at (map (pair_ends program) ps) candidates place (pair_ends program p) f (slice_get-map (pair_ends program) ps place ∙ ap (option_map (pair_ends program)) (member-at program procs place proc p there e is)) g

  module _ (candidates : List (List Row)) (over : AreCandidates program formed ps candidates) where
    rows-at : (place proc : ℕ) (p : Proc) (rows : List Row) → slice_get procs place ≡ Some proc → IsProcOf program proc p → slice_get candidates place ≡ Some rows → ArePairRows (pair_ends program p).pair.columns rows
    rows-at place proc p rows e is g = candidate-at program formed ps candidates over place p rows (member-at program procs place proc p there e is) g

    table-for : AreFor program procs (table candidates)
    table-for place proc p f e is g =
        let found = table-found candidates place proc p f e is g in
        subst (IsKnown program p) (sym found.2) (candidate-known program proc p formed is found.0 (rows-at place proc p found.0 e is found.1))

    pub with-known : AreKnown program (known_with candidates)
    with-known = tabled-known program procs (table candidates) known table-for are

    table-enough : length procs ≤ length (table candidates)
    table-enough =
        let long = candidates-long program formed ps candidates over in
        let mapped = length-map ps (pair_ends program) in
        let all = table-long (map (pair_ends program) ps) candidates (mapped ∙ long) in
        let members = members-many program procs there in
        omega (arith, mapped, all, members)

  -- each row is true, where calls of the group mean what these candidates say
  abbrev pub AreSettled : List (List Row) → Type 0
  AreSettled candidates = AreTrueOf program formed (known_with candidates) ps candidates

  -- and each formula holds of the activations of its procedure
  abbrev IsToldBy : List (Option Transition) → Proc → Transition → Type 0
  IsToldBy all p f =
      (proc : ℕ) → IsProcOf program proc p → (globals args after : State) (value : ℤ) → ReturnsOver (KnownCalls all) program proc globals args after value
      → Holds f (globals ++ args) (exit_values p after value)

  abbrev AreToldBy : List (Option Transition) → List Proc → List Transition → Type 0
  AreToldBy all qs formulas = AllZip (IsToldBy all) qs formulas

  all-told : (all : List (Option Transition)) (fine : AreKnown program all) (qs : List Proc) (formulas : List Transition) → AllZip (IsUnfoldingOf program formed all fine) qs formulas → AreToldBy all qs formulas
  all-told all fine [] [] h = tt
  all-told all fine [] (f ∷ formulas) h = absurd h
  all-told all fine (q ∷ qs) [] h = absurd h
  all-told all fine (q ∷ qs) (f ∷ formulas) h = ((λ proc is globals args after value r. (h.0 (proc, is)).tells globals args after value r), all-told all fine qs formulas h.1)

  -- ---- the end of a round

  abbrev AreOver : RoundEnd → Type 0
  AreOver end = AreCandidates program formed ps end.candidates

  abbrev IsSettled : RoundEnd → Type 0
  IsSettled end = AreSettled end.candidates × AreToldBy (known_with end.candidates) ps end.formulas

  abbrev rows_left : RoundEnd → ℕ
  rows_left end = row_count end.candidates

  noted : (notes : List Note) → some_note notes ≡ true → 0 < length notes
  noted [] e = absurd (cc)
  noted (n ∷ ns) e = omega arith

  unnoted : (notes : List Note) → some_note notes ≡ false → notes ≡ []
  unnoted [] e = refl
  unnoted (n ∷ ns) e = absurd (cc)

  round-kept : (end : RoundEnd) → AreOver end → AlwaysPassing (IsRound AreOver IsSettled rows_left end) (round program procs known end.candidates)
  unfolding round
  round-kept end over =
      let candidates = end.candidates in
      let all = known_with candidates in
      let fine = with-known candidates over in
      under-bind IsPassing (λ (made : Judgements). AreAllJudged program formed all fine (members_with ps candidates) made.rows × AllZip (IsUnfoldingOf program formed all fine) ps made.formulas)
      (IsRound AreOver IsSettled rows_left end)
      (each (with_round program all) no_judgements (members_with ps candidates)) (λ judged. Noted (dropped_notes judged.rows) (Done (end_of_round judged, some_note (dropped_notes judged.rows))))
      (under-both IsPassing (λ (made : Judgements). AreAllJudged program formed all fine (members_with ps candidates) made.rows) (λ (made : Judgements). AllZip (IsUnfoldingOf program formed all fine) ps made.formulas)
      (each (with_round program all) no_judgements (members_with ps candidates))
      (all-judged program formed all fine (members_with ps candidates) (all-ready program formed all fine ps candidates (each-member program procs there) over))
      (passing-always (λ (made : Judgements). AllZip (IsUnfoldingOf program formed all fine) ps made.formulas) (each (with_round program all) no_judgements (members_with ps candidates))
      (all-unfolded program formed all fine ps candidates (sym (candidates-long program formed ps candidates over)))))
      (λ judged h. record {
        keeps = kept-candidates program formed all fine ps candidates judged.rows over h.0;
        falls = λ e.
            let some = noted (dropped_notes judged.rows) e in
            let count = all-counted 0 candidates judged.rows (all-of program formed all fine ps candidates judged.rows over h.0) in
            omega (arith, some, count);
        fine = λ e.
            let kept = kept-true program formed all fine 0 ps candidates judged.rows over h.0 (unnoted (dropped_notes judged.rows) e) in
            (subst AreSettled (sym kept.0) kept.1, subst (λ cs. AreToldBy (known_with cs) ps judged.formulas) (sym kept.0) (all-told all fine ps judged.formulas h.1));
      })

  candidates-settled : (candidates : List (List Row)) → AreCandidates program formed ps candidates → AlwaysPassing (λ end. AreOver end × IsSettled end) (last_round program procs known candidates)
  unfolding last_round
  candidates-settled candidates over =
      let many = rows-counted candidates in
      under-until IsPassing AreOver IsSettled rows_left (λ (end : RoundEnd). round program procs known end.candidates) (most_rounds candidates) (before_rounds candidates)
      round-kept (omega (arith, many)) over

  -- ---- settled candidates are met

  module _ (met : AreMet program known) (knows : KnowsOthers program procs known) (kept : List (List Row)) (over : AreCandidates program formed ps kept) (settled : AreSettled kept) where
    -- an activation returns, and the rows of its procedure's candidate are true of it
    RowsTrue : CallMeaning
    RowsTrue proc globals args after value =
        Returns program proc globals args after value
        × ((place : ℕ) (p : Proc) (rows : List Row) → slice_get procs place ≡ Some proc → IsProcOf program proc p → slice_get kept place ≡ Some rows → RowsHold (pair_numbers ((globals ++ args) ++ exit_values p after value)) rows)

    returned : {proc : ℕ} {globals args after : State} {value : ℤ} → RowsTrue proc globals args after value → Returns program proc globals args after value
    unfolding RowsTrue
    returned both = both.0

    -- the formula that the candidate is holds of it
    formula-true : (proc : ℕ) (globals args after : State) (value : ℤ) → RowsTrue proc globals args after value → (place : ℕ) (p : Proc) (f : Transition) → slice_get procs place ≡ Some proc → IsProcOf program proc p
        → slice_get (table kept) place ≡ Some f → Holds f (globals ++ args) (exit_values p after value)
    unfolding RowsTrue
    formula-true proc globals args after value both place p f e is g =
        let found = table-found kept place proc p f e is g in
        let m = pair_ends program p in
        let ends = ends-are program proc p formed is in
        let r = both.0 in
        let own : r.begins.entered.callee ≡ p = some-one r.begins.entered.is is in
        let params : length args ≡ p.params = r.begins.entered.params ∙ ap (λ (q : Proc). q.params) own in
        let all = length-append globals args in
        let width = r.begins.width in
        let same = returns-globals program proc globals args after value r in
        subst (λ h. Holds h (globals ++ args) (exit_values p after value)) (sym found.2)
        (candidate-holds m ends found.0 (rows-at kept over place proc p found.0 e is found.1) (globals ++ args) (exit_values p after value)
        (omega (arith, all, width, params) ∙ sym (entry-columns program proc p formed is))
        (exit-long p.returns after value (length program.globals) (same ∙ width) ∙ sym (exit-columns program proc p formed is))
        (both.1 place p found.0 e is found.1))

    -- so a call of it is a known call
    call-known : (proc : ℕ) (globals args left : State) (value : ℤ) → IsKnownAt (known_with kept) proc → RowsTrue proc globals args left value → KnownCalls (known_with kept) proc globals args left value
    unfolding RowsTrue
    call-known proc globals args left value at both =
        let r = both.0 in
        let callee = r.begins.entered.callee in
        let there = r.begins.entered.is in
        let same = returns-globals program proc globals args left value r in
        let exits = exits_are callee.returns (length program.globals) left value (same ∙ r.begins.width) in
        let to : at.0.to ≡ exits_of program callee = ((with-known kept over).fit proc callee at.0 there at.1).leaves in
        record {
          formula = at.0;
          is = at.1;
          same = same;
          holds = subst (λ l. Holds at.0 (globals ++ args) l) (sym (ap (λ n. take n (left ++ value ∷ [])) to ∙ exits)) (go callee there (table-either procs (table kept) known proc at.0 at.1));
        }
      where
        go : (callee : Proc) → IsProcOf program proc callee → ((place : ℕ) × (slice_get procs place ≡ Some proc) × (slice_get (table kept) place ≡ Some at.0)) ⊎ (slice_get known proc ≡ Some (Some at.0))
            → Holds at.0 (globals ++ args) (exit_values callee left value)
        go callee is (inl found) = formula-true proc globals args left value both found.0 callee at.0 found.1 is found.2
        go callee is (inr older) = met proc at.0 older callee is globals args left value both.0

    act-told : (act : Statement) → CallsMember procs act ⊎ KnowsCallee known act → TellsCall RowsTrue (KnownCalls (known_with kept)) act
    act-told (Call proc args into) (inl member) =
        λ globals values left value both.
        let within : proc < length known = subst (λ n. proc < n) (sym are.each) (slice_get_within program.procs proc (returned both).begins.entered.callee (returned both).begins.entered.is) in
        call-known proc globals values left value (table-knows procs (table kept) known member.0 proc (table-enough kept over) within member.1) both
    act-told (Call proc args into) (inr older) = λ globals values left value both. call-known proc globals values left value (table-keeps procs (table kept) known proc (table-enough kept over) older) both
    act-told (Set col value) h = tt
    act-told (Any col) h = tt
    act-told (Guard cond) h = tt
    act-told (Check number cond) h = tt
    act-told (If cond a b) h = tt
    act-told (Loop pre cond body step first) h = tt
    act-told Break h = tt
    act-told Continue h = tt
    act-told Return h = tt

    arcs-told : (place proc : ℕ) (p : Proc) → slice_get procs place ≡ Some proc → (is : IsProcOf program proc p) → TellsArcs RowsTrue (KnownCalls (known_with kept)) (graph_of program proc).arcs
    arcs-told place proc p e is =
        subst (λ (f : FlowGraph). TellsArcs RowsTrue (KnownCalls (known_with kept)) f.arcs) (sym (graph-is program proc p known is))
        (each-more (λ (way : Arc). CallsMember procs way.act ⊎ KnowsCallee known way.act) (λ (way : Arc). TellsCall RowsTrue (KnownCalls (known_with kept)) way.act) (λ way h. act-told way.act h) (own_graph p).arcs (knows place proc p e is))

    -- one unfolding more
    rows-true-over : (proc : ℕ) (globals args after : State) (value : ℤ) → ReturnsOver RowsTrue program proc globals args after value → RowsTrue proc globals args after value
    unfolding RowsTrue
    rows-true-over proc globals args after value r = (
      over-returns program proc globals args after value (returns-more RowsTrue (Returns program) (λ q g a l v both. both.0) program proc globals args after value r),
      λ place p rows e is g.
          each-more (IsTrueOf program formed (known_with kept) p) (RowHolds (pair_numbers ((globals ++ args) ++ exit_values p after value)))
          (λ row tells. tells proc is globals args after value (returns-told RowsTrue (KnownCalls (known_with kept)) program proc (arcs-told place proc p e is) globals args after value r)) rows
          (true-at program formed (known_with kept) ps kept settled place p rows (member-at program procs place proc p there e is) g),
    )

    pub rounds-met : AreMetMembers program procs (table kept)
    rounds-met place proc f e g p is globals args after value returns =
        let tree = (returns_have_heights program proc globals args after value).0 returns in
        formula-true proc globals args after value (returns-by_height program RowsTrue rows-true-over tree.0 proc globals args after value tree.1) place p f e is g

    -- ---- so are the formulas by which they were judged

    formulas-met : (formulas : List Transition) → AreToldBy (known_with kept) ps formulas → AreMetMembers program procs formulas
    formulas-met formulas told place proc f e g p is globals args after value returns = go tree.0 tree.1
      where
        tree : (n : ℕ) × ReturnsWithin program n proc globals args after value
        tree = (returns_have_heights program proc globals args after value).0 returns

        own : (h : Transition) × (slice_get formulas place ≡ Some h) × IsToldBy (known_with kept) p h
        own = zipped-at (IsToldBy (known_with kept)) ps formulas told place p (member-at program procs place proc p there e is)

        go : (n : ℕ) → ReturnsWithin program n proc globals args after value → Holds f (globals ++ args) (exit_values p after value)
        go zero none = absurd none
        go (suc n) r =
            subst (λ h. Holds h (globals ++ args) (exit_values p after value)) (some-one own.1 g)
            (own.2 proc is globals args after value
            (returns-told RowsTrue (KnownCalls (known_with kept)) program proc (arcs-told place proc p e is) globals args after value
            (returns-more (ReturnsWithin program n) RowsTrue (returns-by_height program RowsTrue rows-true-over n) program proc globals args after value r)))

  -- ---- where calls of the group may follow one another

  summaries_by_round-met : AreMet program known → KnowsOthers program procs known → (end : RoundEnd) → AreOver end → IsSettled end → AreMetMembers program procs (summaries_by_round program.rule (map (pair_ends program) ps) end)
  summaries_by_round-met met knows end over settled = go (has_phases program.rule)
    where
      go : (phases : Bool) → AreMetMembers program procs (if phases then end.formulas else table end.candidates)
      go true = formulas-met met knows end.candidates over settled.0 end.formulas settled.1
      go false = rounds-met met knows end.candidates over settled.0

  pub closed_by_rounds-met : AreMet program known → KnowsOthers program procs known → (bases : List Transition) → AlwaysPassing (AreMetMembers program procs) (closure_by_rounds program procs known bases)
  unfolding closure_by_rounds
  closed_by_rounds-met met knows bases =
      under-bind IsPassing (λ t. Unit {0}) (AreMetMembers program procs) (closure_of program procs known bases []) _
      (passing-always (λ t. Unit {0}) (closure_of program procs known bases []) (always_any (λ t. Unit {0}) (closure_of program procs known bases []) (λ t. tt))) (λ first any.
      under-bind IsPassing (λ t. length t ≡ length ps) (AreMetMembers program procs) (closure_of program procs known bases first) _
      (passing-always (λ t. length t ≡ length ps) (closure_of program procs known bases first) (closure-long program procs known bases first)) (λ second long.
      under-bind IsPassing (AreRowsFor (pairs_of (map (pair_ends program) ps) second)) (AreMetMembers program procs) (each with_candidate [] (pairs_of (map (pair_ends program) ps) second)) _
      (passing-always (AreRowsFor (pairs_of (map (pair_ends program) ps) second)) (each with_candidate [] (pairs_of (map (pair_ends program) ps) second)) (rows-for (pairs_of (map (pair_ends program) ps) second))) (λ candidates rows.
      under-bind IsPassing (λ end. AreOver end × IsSettled end) (AreMetMembers program procs) (last_round program procs known candidates) (λ end. Done (summaries_by_round program.rule (map (pair_ends program) ps) end))
      (candidates-settled candidates (candidates-for program formed ps second candidates long rows)) (λ end both. summaries_by_round-met met knows end both.0 both.1))))

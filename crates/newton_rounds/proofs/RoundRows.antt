-- What a round keeps: rows over the pairs of members, of which some may be dropped.
use Rattle.std.proofs.Common.{◌≡◌, ℕ, zero, suc, ◌+◌, ◌<◌, ◌≤◌, Bool, true, false, length, length-append, drop, map, List, [], ◌∷◌, ◌++◌, get_or, refl, sym, ap, subst, ◌∙◌, arith}
use Rattle.std.specs.Prelude.{IsTrue, Result, Ok, Err, IsErrAnd, Option, None, Some, not, if◌then◌else◌, ◌↔◌}
use Rattle.std.specs.List.{AllByRecursion, AllZip, cons_option, filter_map, flat_map, slice_get}
use Rattle.std.proofs.lemmas.Bool.{false≢true}
use Rattle.std.proofs.lemmas.List.{drop_all, drop_more}
use Rattle.std.proofs.lemmas.List.Elements.{All-from_recursion, recursion_from_All}
use Rattle.items.proofs.Each.{each-any, each-both, each-more, each_from_test}
use Rattle.linear_terms.specs.declared.row.Case.{Case}
use Rattle.linear_terms.specs.declared.row.Row.{Row}
use Rattle.transition_formula.specs.Transition.{Transition, fits}
use Rattle.transition_formula.proofs.Fitting.{fitting}
use Rattle.posing.specs.declared.note.Note.{Note}
use Rattle.posing.specs.declared.note.Witness.{Witness}
use Rattle.farkas_check.specs.Asking.{Asking}
use Rattle.posing.specs.declared.error.WorkError.{WorkError}
use Rattle.posing.specs.declared.log.Log.{Log}
use Rattle.posing.specs.Follows.{Follows, Leads}
use Rattle.posing.specs.Posing.{◌>>=◌, Posing, Done, Noted, each, until, Always}
use Rattle.posing.proofs.Following.{leads_none}
use Rattle.posing.proofs.Steps.{all_left, at_end, error_first, first_left}
use Rattle.posing.proofs.Paths.{always_any, always_bind, always_weaker}
use Rattle.syntax_tree.specs.declared.program.Proc.{Proc}
use Rattle.syntax_tree.specs.declared.program.Program.{Program}
use Rattle.vocabularies.specs.Ends.{entry_of, pair_of}
use Rattle.vocabularies.specs.Ends as ends
use Rattle.leaf_cases.specs.Conditions.{IsKnown, exits_of}
use Rattle.newton_rounds.specs.declared.dropping.JudgedRow.{JudgedRow}
use Rattle.newton_rounds.specs.Between.{AreCandidates, AreSummaries, FitTable, IsFewer, IsRowOver, IsSummary, row_count}
use Rattle.newton_rounds.specs.declared.findings.Judgements.{Judgements}
use Rattle.newton_rounds.specs.declared.findings.RoundEnd.{RoundEnd}
use Rattle.newton_rounds.specs.Candidates.{before_rounds, drop_notes_by, drop_notes_in, dropped_notes, end_of_round, judgements_and, kept_row, most_rounds, members_with, no_judgements, refutation, round, some_note, table_of, unfolded_formula, unless_refuted, with_judged, with_round}
use Rattle.newton_rounds.specs.Claims.{AreKnownMembers}
use Rattle.newton_rounds.specs.Closure.{ends_of_members, pair_ends, with_places_from}
use Rattle.newton_rounds.specs.Members.{members_of, with_table}
use Rattle.newton_rounds.specs.Pairs.{PairEnds}
use Rattle.newton_rounds.specs.Shapes.{IsOverPairs, IsRefutable}
use Rattle.newton_rounds.proofs.GroupCalls.{AreThere, ends-at, ends-many}
use Rattle.newton_rounds.proofs.MatchLoops.{IsBehind, each-match, each-part_match}
use Rattle.newton_rounds.proofs.ProcedureLoops.{members-next}
use Rattle.newton_rounds.proofs.ClosureSummaries.{summaries-length, summary-at}

-- ---- summaries as known formulas

module _ (program : Program) where
  exit-columns : (p : Proc) → (pair_ends program p).ends.exit.columns ≡ exits_of program p
  unfolding ends.exit_of
  exit-columns p = go p.returns
    where
      go : (returns : Bool) → length program.globals + ends.value_width returns ≡ (if returns then length program.globals + 1 else length program.globals)
      go true = refl
      go false = omega arith

  entry-columns : (p : Proc) → (pair_ends program p).ends.entry.columns ≡ length program.globals + p.params
  unfolding entry_of
  entry-columns p = refl

  exits-few : (p : Proc) → exits_of program p ≤ length program.globals + 1
  exits-few p = go p.returns
    where
      go : (returns : Bool) → (if returns then length program.globals + 1 else length program.globals) ≤ length program.globals + 1
      go true = omega arith
      go false = omega arith

  pair-columns : (p : Proc) → (pair_ends program p).pair.columns ≡ (pair_ends program p).ends.entry.columns + (pair_ends program p).ends.exit.columns
  unfolding pair_of entry_of ends.exit_of
  pair-columns p = refl

  summary-known : (p : Proc) (f : Transition) → IsSummary (pair_ends program p) f → IsKnown program p f
  summary-known p f is = record {
    enters = is.goes.from_is ∙ entry-columns p;
    leaves = is.goes.to_is ∙ exit-columns p;
    fits = is.goes.fits;
    cases = is.cases;
    auxiliaries = All-from_recursion (λ (case : Case). case.aux ≤ 64) f.cases is.goes.few;
  }

  pub summaries-fit : (procs : List ℕ) → AreThere program procs → (table : List Transition) → AreSummaries (ends_of_members program procs) table → FitTable program procs table
  summaries-fit procs there table h place proc p f at is found =
      summary-known p f (subst (λ m. IsSummary m f) (ends-at program procs there place proc p at is) (summary-at (ends_of_members program procs) table place f h found))

  pub summaries-known : (procs : List ℕ) → AreThere program procs → (table : List Transition) → AreSummaries (ends_of_members program procs) table → AreKnownMembers program procs table
  summaries-known procs there table h = record {
    each = summaries-length (ends_of_members program procs) table h ∙ ends-many program procs there;
    fit = summaries-fit procs there table h;
  }

  -- ---- rows that are judged

  pub row-refutable : length program.globals ≤ 16 → (p : Proc) (f : Transition) (row : Row) → IsKnown program p f → IsRowOver (pair_ends program p).pair.columns row → IsRefutable f row
  row-refutable narrow p f row known over =
      let from = known.enters ∙ sym (entry-columns p) in
      let to = known.leaves ∙ sym (exit-columns p) in
      let wide = pair-columns p in
      let few = exits-few p in
      All-from_recursion (λ case. IsOverPairs f.from case row) f.cases
      (each-more (λ (case : Case). (case.aux ≤ 64) × IsTrue (fits f.from f.to case)) (λ case. IsOverPairs f.from case row)
      (λ case h.
      let long = (fitting f.from f.to case h.1).length_is in
      let one = h.0 in
      let width : (pair_ends program p).pair.columns ≡ f.from + length case.post = omega (arith, from, to, wide, long) in
      record {
        row_is = subst (λ n. IsRowOver n row) width over;
        case_is = subst (λ n. IsTrue (fits f.from n case)) (sym long) h.1;
        few = let leaves = known.leaves in omega (arith, one, long, few, leaves, narrow);
      }) f.cases
      (each-both (λ (case : Case). case.aux ≤ 64) (λ case. IsTrue (fits f.from f.to case)) f.cases (recursion_from_All (λ (case : Case). case.aux ≤ 64) f.cases known.auxiliaries)
      (each_from_test (fits f.from f.to) (λ case. IsTrue (fits f.from f.to case)) (λ case k. k) f.cases known.fits)))

-- what a judged row is
abbrev pub IsOf : Row → JudgedRow → Type 0
IsOf row judged = judged.row ≡ row

abbrev pub AreOf : List Row → List JudgedRow → Type 0
AreOf rows judged = AllZip IsOf rows judged

judged-behind : (f : Transition) (made : List JudgedRow) (row : Row) → Always (IsBehind IsOf made row) (with_judged f made row)
unfolding with_judged
judged-behind f made row =
    always_bind (λ by. Unit {0}) (IsBehind IsOf made row) (refutation f row) (λ by. Done (made ++ record { row = row; by = by } ∷ [])) (always_any (λ by. Unit {0}) (refutation f row) (λ by. tt))
    (λ by any. record { value = record { row = row; by = by }; is = refl; holds = refl })

judged-rows : (f : Transition) (rows : List Row) → Always (AreOf rows) (each (with_judged f) [] rows)
judged-rows f rows = each-match (λ row. Unit {0}) IsOf (with_judged f) (λ made row any. judged-behind f made row) rows (each-any (λ row. Unit {0}) (λ row. tt) rows)

abbrev AreOfMember : Proc × List Row → List JudgedRow → Type 0
AreOfMember member judged = AreOf member.1 judged

member-behind : (program : Program) (known : List (Option Transition)) (made : Judgements) (member : Proc × List Row) → Always (λ (next : Judgements). IsBehind AreOfMember made.rows member next.rows) (with_round program known made member)
unfolding with_round
member-behind program known made member =
    always_bind (λ f. Unit {0}) (λ (next : Judgements). IsBehind AreOfMember made.rows member next.rows) (unfolded_formula program known member.0)
    (λ f. each (with_judged f) [] member.1 >>= λ judged. Done (judgements_and made f judged))
    (always_any (λ f. Unit {0}) (unfolded_formula program known member.0) (λ f. tt))
    (λ f any. always_bind (AreOf member.1) (λ (next : Judgements). IsBehind AreOfMember made.rows member next.rows) (each (with_judged f) [] member.1) (λ judged. Done (judgements_and made f judged)) (judged-rows f member.1)
    (λ judged are. record { value = judged; is = refl; holds = are }))

all-judged : (program : Program) (known : List (Option Transition)) (members : List (Proc × List Row)) → Always (λ (made : Judgements). AllZip AreOfMember members made.rows) (each (with_round program known) no_judgements members)
all-judged program known members =
    each-part_match (λ (made : Judgements). made.rows) (λ member. Unit {0}) AreOfMember (with_round program known) (λ made member any. member-behind program known made member) no_judgements refl members
    (each-any (λ member. Unit {0}) (λ member. tt) members)

by-rows : (ps : List Proc) (candidates : List (List Row)) (judged : List (List JudgedRow)) → length candidates ≡ length ps → AllZip AreOfMember (members_with ps candidates) judged → AllZip AreOf candidates judged
by-rows [] [] [] e h = h
by-rows [] [] (js ∷ judged) e h = h
by-rows [] (rows ∷ candidates) judged e h = absurd (omega (arith, e))
by-rows (p ∷ ps) [] judged e h = absurd (omega (arith, e))
by-rows (p ∷ ps) (rows ∷ candidates) [] e h = h
by-rows (p ∷ ps) (rows ∷ candidates) (js ∷ judged) e h = (h.0, by-rows ps candidates judged (omega (arith, e)) h.1)

pub rows-judged : (program : Program) (known : List (Option Transition)) (ps : List Proc) (candidates : List (List Row)) → length candidates ≡ length ps
    → Always (λ (made : Judgements). AllZip AreOf candidates made.rows) (each (with_round program known) no_judgements (members_with ps candidates))
rows-judged program known ps candidates e =
    always_weaker (λ (made : Judgements). AllZip AreOfMember (members_with ps candidates) made.rows) (λ (made : Judgements). AllZip AreOf candidates made.rows) (each (with_round program known) no_judgements (members_with ps candidates))
    (λ made h. by-rows ps candidates made.rows e h) (all-judged program known (members_with ps candidates))

-- ---- rows that are kept

pub kept-over : (P : Row → Type 0) (rows : List Row) (judged : List JudgedRow) → AreOf rows judged → AllByRecursion P rows → AllByRecursion P (filter_map kept_row judged)
kept-over P [] [] h k = tt
kept-over P [] (j ∷ judged) h k = absurd h
kept-over P (row ∷ rows) [] h k = absurd h
kept-over P (row ∷ rows) (j ∷ judged) h k = go j.by (kept-over P rows judged h.1 k.1)
  where
    go : (by : Option Witness) → AllByRecursion P (filter_map kept_row judged) → AllByRecursion P (cons_option (unless_refuted j.row by) (filter_map kept_row judged))
    go None more = (subst P (sym h.0) k.0, more)
    go (Some by) more = more

kept-candidates : (members : List PairEnds) (candidates : List (List Row)) (judged : List (List JudgedRow)) → AllZip AreOf candidates judged → AreCandidates members candidates → AreCandidates members (map (filter_map kept_row) judged)
kept-candidates [] [] [] h k = tt
kept-candidates [] [] (js ∷ judged) h k = absurd h
kept-candidates [] (rows ∷ candidates) judged h k = absurd k
kept-candidates (m ∷ members) [] judged h k = absurd k
kept-candidates (m ∷ members) (rows ∷ candidates) [] h k = absurd h
kept-candidates (m ∷ members) (rows ∷ candidates) (js ∷ judged) h k =
    (kept-over (IsRowOver m.pair.columns) rows js h.0 k.0, kept-candidates members candidates judged h.1 k.1)

-- each row is kept, or its note is made
each-counted : (place : ℕ) (rows : List Row) (judged : List JudgedRow) → AreOf rows judged
    → length (filter_map kept_row judged) + length (flat_map (λ (j : JudgedRow). drop_notes_by place j.row j.by) judged) ≡ length rows
each-counted place [] [] h = refl
each-counted place [] (j ∷ judged) h = absurd h
each-counted place (row ∷ rows) [] h = absurd h
each-counted place (row ∷ rows) (j ∷ judged) h = go j.by (each-counted place rows judged h.1)
  where
    kept : List Row
    kept = filter_map kept_row judged

    notes : List Note
    notes = flat_map (λ (j : JudgedRow). drop_notes_by place j.row j.by) judged

    go : (by : Option Witness) → length kept + length notes ≡ length rows → length (cons_option (unless_refuted j.row by) kept) + length (drop_notes_by place j.row by ++ notes) ≡ length (row ∷ rows)
    go None e = omega (arith, e)
    go (Some by) e = omega (arith, e)

pub all-counted : (place : ℕ) (candidates : List (List Row)) (judged : List (List JudgedRow)) → AllZip AreOf candidates judged
    → row_count (map (filter_map kept_row) judged) + length (flat_map drop_notes_in (with_places_from place judged)) ≡ row_count candidates
all-counted place [] [] h = refl
all-counted place [] (js ∷ judged) h = absurd h
all-counted place (rows ∷ candidates) [] h = absurd h
all-counted place (rows ∷ candidates) (js ∷ judged) h =
    let one = each-counted place rows js h.0 in
    let more = all-counted (place + 1) candidates judged h.1 in
    let all = length-append (drop_notes_in (place, js)) (flat_map drop_notes_in (with_places_from (place + 1) judged)) in
    omega (arith, one, more, all)

some-counted : (notes : List Note) → (if some_note notes then 1 else 0) ≤ length notes
some-counted [] = omega arith
some-counted (n ∷ ns) = omega arith

-- a round over the members keeps candidates, and has dropped a row where it says so
pub round-keeps : (program : Program) (procs : List ℕ) (known : List (Option Transition)) (candidates : List (List Row)) → length candidates ≡ length (members_of program procs) → AreCandidates (ends_of_members program procs) candidates
    → Always (λ (next : RoundEnd × Bool). AreCandidates (ends_of_members program procs) next.0.candidates × IsFewer candidates next) (round program procs known candidates)
unfolding round
round-keeps program procs known candidates e are =
    let members = ends_of_members program procs in
    let all = with_table procs (table_of members candidates) known in
    always_bind (λ (made : Judgements). AllZip AreOf candidates made.rows) (λ (next : RoundEnd × Bool). AreCandidates members next.0.candidates × IsFewer candidates next)
    (each (with_round program all) no_judgements (members_with (members_of program procs) candidates))
    (λ judged. Noted (dropped_notes judged.rows) (Done (end_of_round judged, some_note (dropped_notes judged.rows))))
    (rows-judged program all (members_of program procs) candidates e)
    (λ judged h. (
      kept-candidates members candidates judged.rows h are,
      let all = all-counted 0 candidates judged.rows h in let some = some-counted (dropped_notes judged.rows) in omega (arith, all, some),
    ))

-- ---- loops over members and rows

pub none-noted : (b : Bool) (notes : List Note) → (IsTrue b ↔ (notes ≡ [])) → not b ≡ some_note notes
none-noted true [] h = refl
none-noted false [] h = absurd (false≢true (h.1 refl))
none-noted true (n ∷ ns) h = absurd (cc (h.0 refl))
none-noted false (n ∷ ns) h = refl

pub next-member : (program : Program) (procs : List ℕ) (candidates : List (List Row)) (i proc : ℕ) (p : Proc) (rows : List Row) → i < length procs → i < length candidates → slice_get program.procs (get_or procs i proc) ≡ Some p
    → rows ≡ get_or candidates i rows
    → members_with (members_of program (drop i procs)) (drop i candidates) ≡ (p, rows) ∷ members_with (members_of program (drop (i + 1) procs)) (drop (i + 1) candidates)
next-member program procs candidates i proc p rows lt short there is =
    λ j. members_with (members-next program procs i proc p lt there j) ((drop_more candidates i rows short ∙ ap (λ x. x ∷ drop (i + 1) candidates) (sym is)) j)

pub rows-counted : (candidates : List (List Row)) → length (flat_map (λ rows. rows) candidates) ≡ row_count candidates
rows-counted [] = refl
rows-counted (rows ∷ candidates) = length-append rows (flat_map (λ rows. rows) candidates) ∙ ap (λ n. length rows + n) (rows-counted candidates)

pub members-end : (program : Program) (procs : List ℕ) (candidates : List (List Row)) (i : ℕ) → length candidates ≤ i → length candidates ≡ length procs → members_with (members_of program (drop i procs)) (drop i candidates) ≡ []
members-end program procs candidates i end same = ap (λ ns. members_with (members_of program ns) (drop i candidates)) (drop_all i procs (omega (arith, end, same)))

-- ---- rounds until none drops a row

-- so far rounds were made, and if the last one dropped a row more of them are left than rows
pub record AreRounds {S : Type 0} (O : Asking S) (old now : S) (before between : Log) (whole : Posing RoundEnd) (step : RoundEnd → Posing (RoundEnd × Bool)) (left : RoundEnd) (dropped : Bool) : Type 0 where
  pub rounds : ℕ
  pub enough : row_count left.candidates + (if dropped then 1 else 0) ≤ rounds
  pub leads : Leads O old now before between whole (if dropped then until step rounds left else Done left)

pub rounds-begin : {S : Type 0} (O : Asking S) (state : S) (log : Log) (step : RoundEnd → Posing (RoundEnd × Bool)) (candidates : List (List Row))
    → AreRounds O state state log log (until step (most_rounds candidates) (before_rounds candidates)) step (before_rounds candidates) true
rounds-begin O state log step candidates = record { rounds = most_rounds candidates; enough = let many = rows-counted candidates in omega (arith, many); leads = leads_none _ _ _ _ }

pub rounds-next : {S : Type 0} {O : Asking S} {old now new : S} {before between after : Log} {whole : Posing RoundEnd} {step : RoundEnd → Posing (RoundEnd × Bool)} {left : RoundEnd} {dropped : Bool}
    (next : RoundEnd × Bool) → dropped ≡ true → AreRounds O old now before between whole step left dropped → Follows O now new between after (Ok next) (step left) → IsFewer left.candidates next
    → AreRounds O old new before after whole step next.0 next.1
rounds-next {O = O} {old = old} {now = now} {new = new} {before = before} {between = between} {after = after} {whole = whole} {step = step} {left = left} next true_is are one fewer =
    go are.rounds (subst (λ d. row_count left.candidates + (if d then 1 else 0) ≤ are.rounds) true_is are.enough)
    (subst (λ d. Leads O old now before between whole (if d then until step are.rounds left else Done left)) true_is are.leads)
  where
    go : (n : ℕ) → row_count left.candidates + 1 ≤ n → Leads O old now before between whole (until step n left) → AreRounds O old new before after whole step next.0 next.1
    go zero enough leads = absurd (omega (arith, enough))
    go (suc n) enough leads = record {
      rounds = n;
      enough = omega (arith, enough, fewer);
      leads = first_left (λ (r : RoundEnd × Bool). if r.1 then until step n r.0 else Done r.0) leads refl one refl;
    }

pub rounds-fail : {S : Type 0} {O : Asking S} {old now new : S} {before between after : Log} {whole : Posing RoundEnd} {step : RoundEnd → Posing (RoundEnd × Bool)} {left : RoundEnd} {dropped : Bool}
    {result : Result RoundEnd WorkError} {error : WorkError} → dropped ≡ true → AreRounds O old now before between whole step left dropped → Follows O now new between after (Err error) (step left) → IsErrAnd result (λ e. e ≡ error)
    → Follows O old new before after result whole
rounds-fail {O = O} {old = old} {now = now} {new = new} {before = before} {between = between} {after = after} {whole = whole} {step = step} {left = left} {result = result} true_is are one failed =
    go are.rounds (subst (λ d. row_count left.candidates + (if d then 1 else 0) ≤ are.rounds) true_is are.enough)
    (subst (λ d. Leads O old now before between whole (if d then until step are.rounds left else Done left)) true_is are.leads)
  where
    go : (n : ℕ) → row_count left.candidates + 1 ≤ n → Leads O old now before between whole (until step n left) → Follows O old new before after result whole
    go zero enough leads = absurd (omega (arith, enough))
    go (suc n) enough leads = all_left leads (error_first (λ (r : RoundEnd × Bool). if r.1 then until step n r.0 else Done r.0) one refl failed)

pub rounds-end : {S : Type 0} {O : Asking S} {old now : S} {before between : Log} {whole : Posing RoundEnd} {step : RoundEnd → Posing (RoundEnd × Bool)} {left : RoundEnd} {dropped : Bool}
    → dropped ≡ false → AreRounds O old now before between whole step left dropped → Follows O old now before between (Ok left) whole
rounds-end {O = O} {old = old} {now = now} {before = before} {between = between} {whole = whole} {step = step} {left = left} false_is are =
    all_left (subst (λ d. Leads O old now before between whole (if d then until step are.rounds left else Done left)) false_is are.leads) (at_end refl)

-- The summaries of a recursive group tell each limit: at once, or at the end of the round that drops
-- a row for it. The program's rule has no phases.
--     refuted-balances      what refutes a row carries one limit at most, and tells the others
--     round-tells           a round tells those of its rows at its end
--     closed-tells          the whole
use Rattle.std.proofs.Common.{◌≡◌, ℕ, ◌+◌, List, [], ◌∷◌, ◌++◌, Bool, true, false, refl, sym, ap, ◌∙◌, append_assoc, append-nil, arith}
use Rattle.std.specs.Prelude.{Option, None, Some, map, unwrap_or}
use Rattle.std.specs.List.{AllByRecursion, flat_map}
use Rattle.std.proofs.lemmas.Grind.{flat_map-append}
use Rattle.linear_terms.specs.declared.row.Case.{Case}
use Rattle.linear_terms.specs.declared.row.Row.{Row}
use Rattle.farkas_check.specs.declared.answer.Answer.{Answer}
use Rattle.farkas_check.specs.declared.answer.Answer.TheVariants as answer
use Rattle.farkas_check.specs.declared.answer.Limit.{Limit}
use Rattle.farkas_check.specs.declared.question.Question.TheVariants.{Infeasible}
use Rattle.farkas_check.specs.Columns.{columns}
use Rattle.syntax_tree.specs.declared.program.Proc.{Proc}
use Rattle.syntax_tree.specs.declared.program.Program.{Program}
use Rattle.transition_formula.specs.Transition.{Transition}
use Rattle.posing.specs.declared.note.Witness.{Witness}
use Rattle.posing.specs.declared.note.Witness.TheVariants as witness
use Rattle.posing.specs.Posing.{Done, ◌>>=◌, each}
use Rattle.path_expr.specs.declared.cell.Cell.{Cell}
use Rattle.phases.specs.Rules.{IsPlainRule}
use Rattle.vocabularies.specs.Ends.{pair_of}
use Rattle.proc_summary.specs.Subject.{Subject, graph_by, subject_of}
use Rattle.newton_rounds.specs.Candidates.{before_rounds, candidate_by, candidate_of, drop_notes_by, drop_notes_in, dropped_notes, end_of_round, findings_in, found_left, kept_row, last_round, limit_notes, most_rounds, no_judgements, outcome, outcome_by, refutation, round, unfolded_formula, with_answer, with_case, with_judged, with_point, with_round}
use Rattle.newton_rounds.specs.Close.{closure_by_rounds, closure_from, group_closure, with_candidate}
use Rattle.newton_rounds.specs.Closure.{base_of, bases_of, closure_at, closed_member, closure_of, ends_of_members, group_graph, pair_ends, with_places_from, sides_from, sides_of, with_base, with_closed, with_member, with_sides}
use Rattle.newton_rounds.specs.Members.{GroupCall, members_of}
use Rattle.newton_rounds.specs.Pairs.{PairEnds, Stretch}
use Rattle.named_limits.specs.Limits.{AreSame, count, limit_by, limit_given, limit_told, limits_told}
use Rattle.named_limits.proofs.Balance.{Balances, TellsAll, balances-asked, balances-bind, balances-done, balances-each, balances-frame, balances-noted, balances-quiet, count-append, no_limit, same-of, same-refl, tells-bind, tells-done, tells-each, tells-frame, tells-noted, tells-then, tells-until}
use Rattle.named_limits.proofs.FittingLimits.{bounded-tells, losses-tell_none}
use Rattle.named_limits.proofs.Stars.{HasPlainRule, HavePlainRules, cells-tell, evaluated-tells, nodes-plain, settled_and_fitted-tells, subject-plain, summary-tells}

-- types that their crate keeps to itself
abbrev Domain : {A B : Type 0} → (A → B) → Type 0
Domain {A} f = A

abbrev Codomain : {A B : Type 0} → (A → B) → Type 0
Codomain {A} {B} f = B

abbrev Findings : Type 0
Findings = Domain outcome

abbrev Judged : Type 0
Judged = Domain kept_row

abbrev Judgements : Type 0
Judgements = Domain end_of_round

abbrev RoundEnd : Type 0
RoundEnd = Codomain end_of_round

-- ---- closures

sides-tell : (s : Subject) (starts : List (Cell Transition)) (call : GroupCall) → HavePlainRules (graph_by s) → TellsAll (sides_from s starts call)
unfolding sides_from
sides-tell s starts call is_plain = tells-then _ (cells-tell s call.to is_plain)

with_sides-tells : (s : Subject) (starts : List (Cell Transition)) (made : _) (call : GroupCall) → HavePlainRules (graph_by s) → TellsAll (with_sides s starts made call)
unfolding with_sides
with_sides-tells s starts made call is_plain = tells-then _ (sides-tell s starts call is_plain)

with_member-tells : (program : Program) (procs : List ℕ) (known : List (Option Transition)) (made : _) (member : ℕ × Proc) → IsPlainRule program.rule → TellsAll (with_member program procs known made member)
unfolding with_member
with_member-tells program procs known made member is_plain =
    let s = subject_of program member.1 known in
    let plain = subject-plain program member.1 known is_plain in tells-bind (cells-tell s 0 plain) (λ starts. tells-each _ made _ (λ made call. with_sides-tells s starts made call plain))

sides_of-tells : (program : Program) (procs : List ℕ) (known : List (Option Transition)) → IsPlainRule program.rule → TellsAll (sides_of program procs known)
unfolding sides_of
sides_of-tells program procs known is_plain = tells-each _ [] _ (λ made member. with_member-tells program procs known made member is_plain)

closed_by-tells : (members : List PairEnds) (bases : List Transition) (place : ℕ) (cells : List (Cell Transition)) → TellsAll (closure_at members bases place cells)
unfolding closure_at
closed_by-tells members bases place cells = tells-noted (losses-tell_none _) (settled_and_fitted-tells _ _ _)

-- the vocabularies of a group's pairs
abbrev ArePlain : List PairEnds → Type 0
ArePlain members = AllByRecursion HasPlainRule (map (λ (member : PairEnds). member.pair) members)

pairs-plain : (program : Program) (procs : List Proc) → IsPlainRule program.rule → ArePlain (map (pair_ends program) procs)
unfolding pair_of
pairs-plain program [] is_plain = tt
pairs-plain program (p ∷ procs) is_plain = (is_plain, pairs-plain program procs is_plain)

closed_member-tells : (members : List PairEnds) (stretches : List Stretch) (bases : List Transition) (place : ℕ) → ArePlain members → TellsAll (closed_member members stretches bases place)
unfolding closed_member
closed_member-tells members stretches bases place plain = tells-bind (tells-noted (losses-tell_none _) (evaluated-tells (group_graph members stretches) place (nodes-plain (group_graph members stretches) plain))) (λ cells. closed_by-tells members bases place cells)

with_closed-tells : (members : List PairEnds) (stretches : List Stretch) (bases made : List Transition) (place : ℕ) → ArePlain members → TellsAll (with_closed members stretches bases made place)
unfolding with_closed
with_closed-tells members stretches bases made place plain = tells-then _ (closed_member-tells members stretches bases place plain)

closure-tells : (program : Program) (procs : List ℕ) (known : List (Option Transition)) (bases table : List Transition) → IsPlainRule program.rule → TellsAll (closure_of program procs known bases table)
unfolding closure_of
closure-tells program procs known bases table is_plain =
    tells-bind (sides_of-tells program procs _ is_plain)
    (λ sides. tells-each _ [] _ (λ made place. with_closed-tells (ends_of_members program procs) _ bases made place (pairs-plain program (members_of program procs) is_plain)))

base-tells : (program : Program) (known : List (Option Transition)) (p : Proc) → IsPlainRule program.rule → TellsAll (base_of program known p)
unfolding base_of
base-tells program known p is_plain = tells-bind (cells-tell (subject_of program p known) 0 (subject-plain program p known is_plain)) (λ cells. tells-noted (losses-tell_none _) (tells-done _))

with_base-tells : (program : Program) (known : List (Option Transition)) (made : List Transition) (p : Proc) → IsPlainRule program.rule → TellsAll (with_base program known made p)
unfolding with_base
with_base-tells program known made p is_plain = tells-then _ (base-tells program known p is_plain)

bases-tell : (program : Program) (procs : List ℕ) (known : List (Option Transition)) → IsPlainRule program.rule → TellsAll (bases_of program procs known)
unfolding bases_of
bases-tell program procs known is_plain = tells-each _ [] _ (λ made p. with_base-tells program _ made p is_plain)

-- ---- candidates

candidate_by-tells : (member : PairEnds) (from : ℕ) (cases : List Case) → TellsAll (candidate_by member from cases)
candidate_by-tells member from [] = tells-done []
candidate_by-tells member from (case ∷ cases) = tells-each _ [] _ (λ rows d. bounded-tells _ _ _ rows)

candidate-tells : (member : PairEnds) (f : Transition) → TellsAll (candidate_of member f)
unfolding candidate_of
candidate-tells member f = candidate_by-tells member f.from f.cases

with_candidate-tells : (made : List (List Row)) (member : PairEnds × Transition) → TellsAll (with_candidate made member)
unfolding with_candidate
with_candidate-tells made member = tells-then _ (candidate-tells member.0 member.1)

-- ---- what refutes a row

abbrev pub limit_if : Option Witness → List Limit
limit_if None = []
limit_if (Some by) = limit_by by

-- the limit of what was found first, and those that are found
abbrev limits_found : Findings → List Limit
limits_found found = limit_if found.point ++ found.limits

first-stays : (point : Option Witness) (by : Witness) → limit_by by ≡ [] → limit_if (Some (unwrap_or point by)) ≡ limit_if point
first-stays None by none = none
first-stays (Some first) by none = refl

point-same : (found : Findings) (by : Witness) → limit_by by ≡ [] → limits_found found ≡ limits_found (with_point found by)
point-same found by none = ap (λ l. l ++ found.limits) (sym (first-stays found.point by none))

answer-same : (found : Findings) (rows : List Row) (a : Answer) → AreSame (limits_found found ++ limit_given a) (limits_found (with_answer found rows a))
answer-same found rows (answer.Yes by) = same-of (append-nil (limits_found found))
answer-same found rows (answer.No point) = same-of (append-nil (limits_found found) ∙ point-same found (witness.Point (columns rows []) point) refl)
answer-same found rows (answer.Bound at certs case point) = same-of (append-nil (limits_found found))
answer-same found rows (answer.Unbounded case point ray) = same-of (append-nil (limits_found found))
answer-same found rows (answer.Basis relations spots free) = same-of (append-nil (limits_found found))
answer-same found rows (answer.Limit limit) = same-of (append_assoc (limit_if found.point) found.limits (limit ∷ []))

found_in-balances : (found : Findings) (rows : List Row) → Balances (limits_found found) limits_found (findings_in found rows)
unfolding ◌>>=◌
found_in-balances found [] = balances-done (limits_found found) limits_found _ (same-of (point-same found (witness.Point [] []) refl))
found_in-balances found (row ∷ rows) =
    balances-asked (limits_found found) limits_found (Infeasible (row ∷ rows)) _
    (λ a. balances-done (limits_found found ++ limit_given a) limits_found (with_answer found (row ∷ rows) a) (answer-same found (row ∷ rows) a))

found_left-balances : (found : Findings) (left : Option Case) → Balances (limits_found found) limits_found (found_left found left)
found_left-balances found None = balances-done (limits_found found) limits_found found (same-refl (limits_found found))
found_left-balances found (Some case) = found_in-balances found case.rows

with_case-balances : (from : ℕ) (row : Row) (found : Findings) (case : Case) → Balances (limits_found found) limits_found (with_case from row found case)
unfolding with_case
with_case-balances from row found case = balances-quiet (losses-tell_none _) (found_left-balances found _)

limits-noted : (limits : List Limit) → limits_told (limit_notes limits) ≡ limits
limits-noted [] = refl
limits-noted (limit ∷ limits) = ap (λ l. limit ∷ l) (limits-noted limits)

outcome_by-balances : (point : Option Witness) (limits : List Limit) → Balances (limit_if point ++ limits) limit_if (outcome_by point limits)
outcome_by-balances (Some point) limits =
    balances-noted (limit_by point ++ limits) (limit_by point) limit_if (limit_notes limits) (Done (Some point))
    (λ test.
    let both = count-append test (limit_by point) limits in
    let noted = ap (count test) (limits-noted limits) in
    omega (arith, both, noted))
    (balances-done (limit_by point) limit_if (Some point) (same-refl (limit_by point)))
outcome_by-balances None [] = balances-done [] limit_if None (same-refl [])
outcome_by-balances None (limit ∷ limits) =
    balances-noted (limit ∷ limits) (limit ∷ []) limit_if (limit_notes limits) (Done (Some (witness.Limit limit)))
    (λ test. let noted = ap (count test) (limits-noted limits) in omega (arith, noted))
    (balances-done (limit ∷ []) limit_if (Some (witness.Limit limit)) (same-refl (limit ∷ [])))

pub refuted-balances : (f : Transition) (row : Row) → Balances [] limit_if (refutation f row)
unfolding refutation
refuted-balances f row =
    balances-bind [] limits_found limit_if _ outcome (balances-each limits_found (with_case f.from row) _ f.cases (λ found case. with_case-balances f.from row found case))
    (λ found. outcome_by-balances found.point found.limits)

-- ---- rounds

-- the limits for which rows are dropped: of one member, and of all
abbrev limits_of_member : List Judged → List Limit
limits_of_member judged = flat_map (λ j. limit_if j.by) judged

abbrev limits_of_all : List (List Judged) → List Limit
limits_of_all judged = flat_map limits_of_member judged

abbrev limits_of : Judgements → List Limit
limits_of made = limits_of_all made.rows

one-more : {X : Type 0} (f : X → List Limit) (xs : List X) (x : X) → f x ++ [] ≡ f x → flat_map f xs ++ f x ≡ flat_map f (xs ++ x ∷ [])
one-more f xs x e = ap (λ l. flat_map f xs ++ l) (sym e) ∙ sym (flat_map-append f xs (x ∷ []))

with_judged-balances : (f : Transition) (made : List Judged) (row : Row) → Balances (limits_of_member made) limits_of_member (with_judged f made row)
unfolding with_judged
with_judged-balances f made row =
    balances-bind (limits_of_member made) (λ by. limits_of_member made ++ limit_if by) limits_of_member (refutation f row) _
    (balances-frame (limits_of_member made) limit_if (refutation f row) (refuted-balances f row))
    (λ by. balances-done (limits_of_member made ++ limit_if by) limits_of_member _ (same-of (one-more (λ j. limit_if j.by) made _ (append-nil (limit_if by)))))

unfolded-tells : (program : Program) (known : List (Option Transition)) (p : Proc) → IsPlainRule program.rule → TellsAll (unfolded_formula program known p)
unfolding unfolded_formula
unfolded-tells program known p is_plain = tells-bind (cells-tell (subject_of program p known) 0 (subject-plain program p known is_plain)) (λ cells. summary-tells _ _)

with_round-balances : (program : Program) (known : List (Option Transition)) (made : Judgements) (member : Proc × List Row)
    → IsPlainRule program.rule → Balances (limits_of made) limits_of (with_round program known made member)
unfolding with_round
with_round-balances program known made member is_plain =
    balances-bind (limits_of made) (λ f. limits_of made) limits_of (unfolded_formula program known member.0) _ (tells-frame (limits_of made) (unfolded-tells program known member.0 is_plain))
    (λ f. balances-bind (limits_of made) (λ judged. limits_of made ++ limits_of_member judged) limits_of (each (with_judged f) [] member.1) _
    (balances-frame (limits_of made) limits_of_member (each (with_judged f) [] member.1)
    (balances-each limits_of_member (with_judged f) [] member.1 (λ made row. with_judged-balances f made row)))
    (λ judged. balances-done (limits_of made ++ limits_of_member judged) limits_of _
    (same-of (one-more limits_of_member made.rows judged (append-nil (limits_of_member judged))))))

dropped_by-told : (place : ℕ) (row : Row) (by : Option Witness) → limits_told (drop_notes_by place row by) ≡ limit_if by
dropped_by-told place row None = refl
dropped_by-told place row (Some by) = append-nil (limit_by by)

member-told : (place : ℕ) (judged : List Judged) → limits_told (drop_notes_in (place, judged)) ≡ limits_of_member judged
member-told place [] = refl
member-told place (j ∷ judged) =
    flat_map-append limit_told (drop_notes_by place j.row j.by) (drop_notes_in (place, judged))
    ∙ (λ i. dropped_by-told place j.row j.by i ++ member-told place judged i)

all-told : (place : ℕ) (judged : List (List Judged)) → limits_told (flat_map drop_notes_in (with_places_from place judged)) ≡ limits_of_all judged
all-told place [] = refl
all-told place (own ∷ judged) =
    flat_map-append limit_told (drop_notes_in (place, own)) (flat_map drop_notes_in (with_places_from (place + 1) judged))
    ∙ (λ i. member-told place own i ++ all-told (place + 1) judged i)

pub round-tells : (program : Program) (procs : List ℕ) (known : List (Option Transition)) (candidates : List (List Row)) → IsPlainRule program.rule → TellsAll (round program procs known candidates)
unfolding round
round-tells program procs known candidates is_plain =
    record {
      balances = balances-bind [] limits_of no_limit _ _ (balances-each limits_of _ no_judgements _ (λ made member. with_round-balances program _ made member is_plain))
          (λ judged. balances-noted (limits_of judged) [] no_limit (dropped_notes judged.rows) (Done _)
          (λ test. let told = ap (count test) (all-told 0 judged.rows) in omega (arith, told))
          (balances-done [] no_limit _ (same-refl [])));
    }

last_round-tells : (program : Program) (procs : List ℕ) (known : List (Option Transition)) (candidates : List (List Row)) → IsPlainRule program.rule → TellsAll (last_round program procs known candidates)
unfolding last_round
last_round-tells program procs known candidates is_plain =
    tells-until (λ (end : RoundEnd). round program procs known end.candidates) (most_rounds candidates) (before_rounds candidates) (λ end. round-tells program procs known end.candidates is_plain)

-- ---- the whole

rounds-tell : (program : Program) (procs : List ℕ) (known : List (Option Transition)) (bases : List Transition) → IsPlainRule program.rule → TellsAll (closure_by_rounds program procs known bases)
unfolding closure_by_rounds
rounds-tell program procs known bases is_plain =
    tells-bind (closure-tells program procs known bases [] is_plain) (λ first.
    tells-bind (closure-tells program procs known bases first is_plain) (λ second.
    tells-bind (tells-each with_candidate [] _ with_candidate-tells) (λ candidates. tells-then _ (last_round-tells program procs known candidates is_plain))))

closed_from-tells : (linear : Bool) (program : Program) (procs : List ℕ) (known : List (Option Transition)) (bases : List Transition) → IsPlainRule program.rule → TellsAll (closure_from linear program procs known bases)
closed_from-tells true program procs known bases is_plain = closure-tells program procs known bases [] is_plain
closed_from-tells false program procs known bases is_plain = rounds-tell program procs known bases is_plain

pub closed-tells : (linear : Bool) (program : Program) (procs : List ℕ) (known : List (Option Transition)) → IsPlainRule program.rule → TellsAll (group_closure linear program procs known)
unfolding group_closure
closed-tells linear program procs known is_plain = tells-bind (bases-tell program procs known is_plain) (λ bases. closed_from-tells linear program procs known bases is_plain)

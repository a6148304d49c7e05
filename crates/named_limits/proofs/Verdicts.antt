-- Entries tell each limit; a verdict carries the first where no case is refuted, and tells the others.
-- Under a rule with phases the limit of a second question is told nowhere.
--     entries-tell             the entries, under a rule without phases
--     verdict-balances         the verdict on an assertion, under a rule without phases
--     verdict-owns             the limit that it carries was the answer to the question about its case
use Rattle.std.proofs.Common.{◌≡◌, ℕ, ◌+◌, ◌⊎◌, inl, inr, List, [], ◌∷◌, ◌++◌, Bool, true, false, refl, sym, ap, ◌∙◌, subst, append-nil, arith}
use Rattle.std.specs.Prelude.{Option, None, Some, ◌==◌, cond, drop, map, option_to_list, slice_get, if◌then◌else◌}
use Rattle.std.specs.List.{AllByRecursion, filter_map, find, flat_map, list_any}
use Rattle.std.proofs.lemmas.Grind.{flat_map-append}
use Rattle.items.proofs.Each.{each-append}
use Rattle.linear_terms.specs.declared.row.Case.{Case}
use Rattle.linear_terms.specs.declared.row.Row.{Row}
use Rattle.farkas_check.specs.declared.answer.Answer.{Answer}
use Rattle.farkas_check.specs.declared.answer.Answer.TheVariants as answer
use Rattle.farkas_check.specs.declared.answer.Limit.{Limit}
use Rattle.farkas_check.specs.declared.question.Question.{Question}
use Rattle.farkas_check.specs.declared.question.Question.TheVariants.{Infeasible}
use Rattle.syntax_tree.specs.declared.program.Proc.{Proc}
use Rattle.syntax_tree.specs.declared.program.Program.{Program}
use Rattle.syntax_tree.specs.Term.{Term}
use Rattle.transition_formula.specs.Transition.{Transition}
use Rattle.posing.specs.declared.note.Note.{Note}
use Rattle.posing.specs.Posing.{Posing, Done, answer_to, ◌>>=◌, each}
use Rattle.polyhedra.specs.Infeasibility.{is_yes}
use Rattle.polyhedra.specs.Vocabulary.{Vocabulary}
use Rattle.phases.specs.Rules.{IsPlainRule, has_phases}
use Rattle.vocabularies.specs.Ends.{entry_of, full_of, start_of}
use Rattle.proc_summary.specs.declared.stop.Flow.{Flow}
use Rattle.context.specs.Entries.{entries_from, entry_graph, main_entry, nodes_of, others_from, unless_main}
use Rattle.context.specs.SecondQuestions.{by_rule, proved_if, second_rows, second_verdict, verdict_after}
use Rattle.context.specs.Verdicts.{case_verdict, else_by, failure_verdict_from, is_limited, is_refuted, verdict_on_cases_from, limit_of, limits_of, place_of, reach_from, verdict_at, verdict_by, verdict_from, verdict_left, verdict_of, with_verdict}
use Rattle.report.specs.declared.verdict.Verdict.{Verdict}
use Rattle.report.specs.declared.verdict.Verdict.TheVariants.{Proved, Unproved, UnprovedLimit}
use Rattle.named_limits.specs.Leading.{LeadsTo, WasAsked}
use Rattle.named_limits.specs.Limits.{AreSame, count, limit_given, limits_told}
use Rattle.named_limits.specs.Reported.{limit_carried}
use Rattle.named_limits.proofs.LeadingQuestions.{Never, Owns, asked-now, owns-before, owns-bind, owns-done, owns-each, owns-frame, owns-none, owns-noted}
use Rattle.named_limits.proofs.Balance.{Balances, TellsAll, balances-asked, balances-bind, balances-done, balances-each, balances-frame, balances-noted, balances-quiet, no_limit, same-of, same-refl, tells-noted, tells-then, told}
use Rattle.named_limits.proofs.Cuts.{from-Asked, from-Done}
use Rattle.named_limits.proofs.FittingLimits.{losses-tell_none}
use Rattle.named_limits.proofs.Stars.{HasPlainRule, evaluated-tells, nodes-plain, settled_and_fitted-tells}

-- ---- entries

module _ (program : Program) (is_plain : IsPlainRule program.rule) where
  start-plain : HasPlainRule (start_of program)
  unfolding start_of
  start-plain = is_plain

  entry-plain : (p : Proc) → HasPlainRule (entry_of program p)
  unfolding entry_of
  entry-plain p = is_plain

  main-plain : (procs : List Proc) → AllByRecursion HasPlainRule (map (entry_of program) procs)
  main-plain [] = tt
  main-plain (p ∷ procs) = (entry-plain p, main-plain procs)

  others-plain : (number : ℕ) (procs : List Proc) → AllByRecursion HasPlainRule (others_from program number procs)
  others-plain number [] = tt
  others-plain number (p ∷ procs) = go (number == program.main) (others_from program (number + 1) procs) (others-plain (number + 1) procs)
    where
      go : (is_main : Bool) (others : List Vocabulary) → AllByRecursion HasPlainRule others → AllByRecursion HasPlainRule (unless_main is_main (entry_of program p) others)
      go true others all = all
      go false others all = (entry-plain p, all)

  entry_nodes-plain : AllByRecursion HasPlainRule (nodes_of program)
  entry_nodes-plain =
      (start-plain, each-append HasPlainRule (main_entry program) (others_from program 0 program.procs) (main-plain (option_to_list (slice_get program.procs program.main))) (others-plain 0 program.procs))

pub entries-tell : (program : Program) (flows : List Flow) → IsPlainRule program.rule → TellsAll (entries_from program flows)
unfolding entries_from
entries-tell program flows is_plain =
    tells-noted (losses-tell_none _) (tells-then _ (evaluated-tells (entry_graph program flows) 0 (nodes-plain (entry_graph program flows) (entry_nodes-plain program is_plain))))

reached-tells : (place : _) (begun stand : Transition) → TellsAll (reach_from place begun stand)
unfolding reach_from
reached-tells place begun stand = tells-noted (losses-tell_none _) (settled_and_fitted-tells _ _ _)

-- ---- one case

verdict-same : (case : Case) (a : Answer) → AreSame (limit_given a) (limit_carried (verdict_by case a))
verdict-same case (answer.Yes by) = same-refl []
verdict-same case (answer.No point) = same-refl []
verdict-same case (answer.Bound at certs place point) = same-refl []
verdict-same case (answer.Unbounded place point ray) = same-refl []
verdict-same case (answer.Basis relations spots free) = same-refl []
verdict-same case (answer.Limit limit) = same-refl (limit ∷ [])

verdict_at-balances : (case : Case) (rows : List Row) → Balances [] limit_carried (verdict_at case rows)
unfolding ◌>>=◌
verdict_at-balances case [] = balances-done [] limit_carried (Unproved case []) (same-refl [])
verdict_at-balances case (row ∷ rows) =
    balances-asked [] limit_carried (Infeasible (row ∷ rows)) _ (λ a. balances-done (limit_given a) limit_carried (verdict_by case a) (verdict-same case a))

verdict_left-balances : (rule : ℕ) (left : Option Case) → IsPlainRule rule → Balances [] limit_carried (verdict_left rule left)
verdict_left-balances rule None is_plain = balances-done [] limit_carried Proved (same-refl [])
verdict_left-balances rule (Some case) is_plain =
    subst (λ phases. Balances [] limit_carried (by_rule phases (verdict_at case case.rows))) (sym is_plain.no_phases) (verdict_at-balances case case.rows)

case-balances : (rule : ℕ) (case : Case) → IsPlainRule rule → Balances [] limit_carried (case_verdict rule case)
unfolding case_verdict
case-balances rule case is_plain = balances-quiet (losses-tell_none _) (verdict_left-balances rule _ is_plain)

-- ---- all cases

abbrev all_carried : List Verdict → List Limit
all_carried verdicts = flat_map limit_carried verdicts

with_verdict-balances : (rule : ℕ) (made : List Verdict) (case : Case) → IsPlainRule rule → Balances (all_carried made) all_carried (with_verdict rule made case)
unfolding with_verdict
with_verdict-balances rule made case is_plain =
    balances-bind (all_carried made) (λ verdict. all_carried made ++ limit_carried verdict) all_carried (case_verdict rule case) _
    (balances-frame (all_carried made) limit_carried (case_verdict rule case) (case-balances rule case is_plain))
    (λ verdict. balances-done (all_carried made ++ limit_carried verdict) all_carried (made ++ verdict ∷ [])
    (same-of (ap (λ l. all_carried made ++ l) (sym (append-nil (limit_carried verdict))) ∙ sym (flat_map-append limit_carried made (verdict ∷ [])))))

noted-all : (verdicts : List Verdict) → limits_told (filter_map limit_of verdicts) ≡ all_carried verdicts
noted-all [] = refl
noted-all (Proved ∷ verdicts) = noted-all verdicts
noted-all (Unproved case point ∷ verdicts) = noted-all verdicts
noted-all (UnprovedLimit case limit ∷ verdicts) = ap (λ l. limit ∷ l) (noted-all verdicts)

-- where a case is refuted, the verdict carries no limit
refuted-carries : (verdicts : List Verdict) (other : Option Verdict) → list_any is_refuted verdicts ≡ true → limit_carried (else_by (find is_refuted verdicts) other) ≡ []
refuted-carries [] other e = absurd (cc e)
refuted-carries (Proved ∷ verdicts) other e = refuted-carries verdicts other e
refuted-carries (Unproved case point ∷ verdicts) other e = refl
refuted-carries (UnprovedLimit case limit ∷ verdicts) other e = refuted-carries verdicts other e

none-refuted : (verdicts : List Verdict) → list_any is_refuted verdicts ≡ false → find is_refuted verdicts ≡ None
none-refuted [] e = refl
none-refuted (Proved ∷ verdicts) e = none-refuted verdicts e
none-refuted (Unproved case point ∷ verdicts) e = absurd (cc e)
none-refuted (UnprovedLimit case limit ∷ verdicts) e = none-refuted verdicts e

-- and where none is, it carries the first
first-carried : (test : Limit → Bool) (verdicts : List Verdict) → list_any is_refuted verdicts ≡ false
    → count test (all_carried verdicts) ≡ told test (drop 1 (filter_map limit_of verdicts)) + count test (limit_carried (else_by (find is_refuted verdicts) (find is_limited verdicts)))
first-carried test [] e = refl
first-carried test (Proved ∷ verdicts) e = first-carried test verdicts e
first-carried test (Unproved case point ∷ verdicts) e = absurd (cc e)
first-carried test (UnprovedLimit case limit ∷ verdicts) e =
    let others = ap (count test) (noted-all verdicts) in
    let own = ap (λ o. count test (limit_carried (else_by o (Some (UnprovedLimit case limit))))) (none-refuted verdicts e) in
    omega (arith, others, own)

all-told : (test : Limit → Bool) (verdicts : List Verdict) → count test (all_carried verdicts) ≡ told test (limits_of verdicts) + count test (limit_carried (verdict_from verdicts))
all-told test verdicts = go (list_any is_refuted verdicts) refl
  where
    go : (any : Bool) → list_any is_refuted verdicts ≡ any
        → count test (all_carried verdicts) ≡ told test (drop (if any then 0 else 1) (filter_map limit_of verdicts)) + count test (limit_carried (verdict_from verdicts))
    go true e =
        let others = ap (count test) (noted-all verdicts) in
        let own = ap (count test) (refuted-carries verdicts (find is_limited verdicts) e) in
        omega (arith, others, own)
    go false e = first-carried test verdicts e

judged-balances : (rule : ℕ) (cases : List Case) → IsPlainRule rule → Balances [] limit_carried (verdict_on_cases_from rule cases)
unfolding verdict_on_cases_from
judged-balances rule cases is_plain =
    balances-bind [] all_carried limit_carried (each (with_verdict rule) [] cases) _ (balances-each all_carried (with_verdict rule) [] cases (λ made case. with_verdict-balances rule made case is_plain))
    (λ verdicts. balances-noted (all_carried verdicts) (limit_carried (verdict_from verdicts)) limit_carried (limits_of verdicts) (Done (verdict_from verdicts)) (λ test. all-told test verdicts)
    (balances-done (limit_carried (verdict_from verdicts)) limit_carried (verdict_from verdicts) (same-refl (limit_carried (verdict_from verdicts)))))

-- ---- the assertion

failed-balances : (program : Program) (p : Proc) (cond : Term) (f : Transition) → IsPlainRule program.rule → Balances [] limit_carried (failure_verdict_from (place_of program p) cond f)
unfolding failure_verdict_from full_of
failed-balances program p cond f is_plain = balances-quiet (losses-tell_none _) (judged-balances program.rule _ is_plain)

pub verdict-balances : (program : Program) (p : Proc) (cond : Term) (entry stand : Option Transition) → IsPlainRule program.rule → Balances [] limit_carried (verdict_of (place_of program p) cond entry stand)
unfolding verdict_of
verdict-balances program p cond entry stand is_plain =
    balances-bind [] no_limit limit_carried _ (failure_verdict_from (place_of program p) cond) ((reached-tells (place_of program p) _ _).balances) (λ f. failed-balances program p cond f is_plain)

-- ---- whose question it was

-- the verdict carries this answer to this question about its case
pub record Carries (verdict : Verdict) (question : Question) (a : Answer) : Type 0 where
  pub case : Case
  pub limit : Limit
  pub is : verdict ≡ UnprovedLimit case limit
  pub question_is : question ≡ Infeasible case.rows
  pub answer_is : a ≡ answer.Limit limit

abbrev CarriedIn : List Verdict → Question → Answer → Type 0
CarriedIn [] question a = ⊥
CarriedIn (verdict ∷ verdicts) question a = Carries verdict question a ⊎ CarriedIn verdicts question a

-- the case and the limit of a verdict that has one
abbrev case_of : Case → Verdict → Case
case_of other (UnprovedLimit case limit) = case
case_of other _ = other

abbrev limit_in : Limit → Verdict → Limit
limit_in other (UnprovedLimit case limit) = limit
limit_in other _ = other

by-limit : (case own : Case) (limit : Limit) (a : Answer) → verdict_by case a ≡ UnprovedLimit own limit → (case ≡ own) × (a ≡ answer.Limit limit)
by-limit case own limit (answer.Yes by) e = absurd (cc e)
by-limit case own limit (answer.No point) e = absurd (cc e)
by-limit case own limit (answer.Bound at certs place point) e = absurd (cc e)
by-limit case own limit (answer.Unbounded place point ray) e = absurd (cc e)
by-limit case own limit (answer.Basis relations spots free) e = absurd (cc e)
by-limit case own limit (answer.Limit other) e = (ap (case_of own) e, ap (λ v. answer.Limit (limit_in limit v)) e)

verdict_at-owns : (case : Case) (rows : List Row) → case.rows ≡ rows → Owns Never Carries (verdict_at case rows)
unfolding ◌>>=◌
verdict_at-owns case [] same = owns-done Never Carries (Unproved case []) (λ question a h. absurd (cc (h.is)))
verdict_at-owns case (row ∷ rows) same =
    record {
      own = λ notes answers last path question a h.
          let step = from-Asked (Infeasible (row ∷ rows)) (λ a. Done (verdict_by case a)) notes answers last path in
          let end = from-Done (verdict_by case step.answer) last notes step.others step.path in
          let by = by-limit case h.case h.limit step.answer (sym end.same ∙ h.is) in
          let asks : question ≡ Infeasible (row ∷ rows) = h.question_is ∙ ap (λ (c : Case). Infeasible c.rows) (sym by.0) ∙ ap (λ rs. Infeasible rs) same in
          let gives : a ≡ step.answer = h.answer_is ∙ sym by.1 in
          inr (moved answers (step.answer ∷ step.others) question (Infeasible (row ∷ rows)) a step.answer step.answers_are asks gives
          (asked-now (Infeasible (row ∷ rows)) step.answer (λ a. Done (verdict_by case a)) step.others));
    }
  where
    moved : (answers others : List Answer) (question q : Question) (a b : Answer) → answers ≡ others → question ≡ q → a ≡ b → WasAsked (verdict_at case (row ∷ rows)) others q b → WasAsked (verdict_at case (row ∷ rows)) answers question a
    moved answers others question q a b e f g was =
        subst (λ l. WasAsked (verdict_at case (row ∷ rows)) l question a) (sym e)
        (subst (λ x. WasAsked (verdict_at case (row ∷ rows)) others x a) (sym f)
        (subst (λ x. WasAsked (verdict_at case (row ∷ rows)) others q x) (sym g) was))

-- a second question leaves the limit as it was
after-owns : (rows : List Row) (verdict : Verdict) → Owns (Carries verdict) Carries (verdict_after rows verdict)
after-owns [] verdict = owns-done (Carries verdict) Carries verdict (λ question a h. h)
after-owns (row ∷ rows) verdict =
    owns-bind (Carries verdict) (λ answer. Carries verdict) Carries (answer_to (Infeasible (row ∷ rows))) (λ answer. Done (proved_if (is_yes answer) verdict))
    (owns-before (Carries verdict) (answer_to (Infeasible (row ∷ rows)))) (λ answer. owns-done (Carries verdict) Carries (proved_if (is_yes answer) verdict) (kept (is_yes answer)))
  where
    kept : (yes : Bool) (question : Question) (a : Answer) → Carries (proved_if yes verdict) question a → Carries verdict question a
    kept true question a h = absurd (cc (h.is))
    kept false question a h = h

second-owns : (verdict : Verdict) → Owns (Carries verdict) Carries (second_verdict verdict)
unfolding second_verdict
second-owns verdict = after-owns (second_rows verdict) verdict

rule-owns : (phases : Bool) (first : Posing Verdict) → Owns Never Carries first → Owns Never Carries (by_rule phases first)
rule-owns true first owns = owns-bind Never Carries Carries first second_verdict owns second-owns
rule-owns false first owns = owns

verdict_left-owns : (rule : ℕ) (left : Option Case) → Owns Never Carries (verdict_left rule left)
verdict_left-owns rule None = owns-done Never Carries Proved (λ question a h. absurd (cc (h.is)))
verdict_left-owns rule (Some case) = rule-owns (has_phases rule) (verdict_at case case.rows) (verdict_at-owns case case.rows refl)

case-owns : (rule : ℕ) (case : Case) → Owns Never Carries (case_verdict rule case)
unfolding case_verdict
case-owns rule case = owns-noted Never Carries _ _ (verdict_left-owns rule _)

one-more : (made : List Verdict) (verdict : Verdict) (question : Question) (a : Answer) → CarriedIn (made ++ verdict ∷ []) question a → CarriedIn made question a ⊎ Carries verdict question a
one-more [] verdict question a (inl own) = inr own
one-more [] verdict question a (inr never) = absurd never
one-more (first ∷ made) verdict question a (inl own) = inl (inl own)
one-more (first ∷ made) verdict question a (inr later) = go (one-more made verdict question a later)
  where
    go : CarriedIn made question a ⊎ Carries verdict question a → (Carries first question a ⊎ CarriedIn made question a) ⊎ Carries verdict question a
    go (inl there) = inl (inr there)
    go (inr own) = inr own

with_verdict-owns : (rule : ℕ) (made : List Verdict) (case : Case) → Owns (CarriedIn made) CarriedIn (with_verdict rule made case)
unfolding with_verdict
with_verdict-owns rule made case =
    owns-bind (CarriedIn made) (λ verdict question a. CarriedIn made question a ⊎ Carries verdict question a) CarriedIn (case_verdict rule case) _
    (owns-frame (CarriedIn made) Carries (case_verdict rule case) (case-owns rule case))
    (λ verdict. owns-done _ CarriedIn (made ++ verdict ∷ []) (λ question a h. one-more made verdict question a h))

found-in : (test : Verdict → Bool) (verdicts : List Verdict) (verdict : Verdict) (question : Question) (a : Answer) → find test verdicts ≡ Some verdict → Carries verdict question a → CarriedIn verdicts question a
found-in test [] verdict question a e h = absurd (cc e)
found-in test (first ∷ verdicts) verdict question a e h = go (test first) e (λ later. found-in test verdicts verdict question a later h)
  where
    go : (passes : Bool) → cond passes (Some first) (find test verdicts) ≡ Some verdict → (find test verdicts ≡ Some verdict → CarriedIn verdicts question a) → Carries first question a ⊎ CarriedIn verdicts question a
    go true is later = let same : first ≡ verdict = cc is in inl (subst (λ v. Carries v question a) (sym same) h)
    go false is later = inr (later is)

chosen-in : (verdicts : List Verdict) (question : Question) (a : Answer) → Carries (verdict_from verdicts) question a → CarriedIn verdicts question a
chosen-in verdicts question a h = go (find is_refuted verdicts) (find is_limited verdicts) refl refl h
  where
    go : (one other : Option Verdict) → find is_refuted verdicts ≡ one → find is_limited verdicts ≡ other → Carries (else_by one other) question a → CarriedIn verdicts question a
    go (Some verdict) other e f own = found-in is_refuted verdicts verdict question a e own
    go None (Some verdict) e f own = found-in is_limited verdicts verdict question a f own
    go None None e f own = absurd (cc (own.is))

judged-owns : (rule : ℕ) (cases : List Case) → Owns Never Carries (verdict_on_cases_from rule cases)
unfolding verdict_on_cases_from
judged-owns rule cases =
    owns-bind Never CarriedIn Carries (each (with_verdict rule) [] cases) _ (owns-each CarriedIn (with_verdict rule) [] cases (with_verdict-owns rule))
    (λ verdicts. owns-noted (CarriedIn verdicts) Carries (limits_of verdicts) (Done (verdict_from verdicts)) (owns-done (CarriedIn verdicts) Carries (verdict_from verdicts) (chosen-in verdicts)))

failed-owns : (place : _) (cond : Term) (f : Transition) → Owns Never Carries (failure_verdict_from place cond f)
unfolding failure_verdict_from
failed-owns place cond f = owns-noted Never Carries _ _ (judged-owns place.full.rule _)

verdict_of-owns : (place : _) (cond : Term) (entry stand : Option Transition) → Owns Never Carries (verdict_of place cond entry stand)
unfolding verdict_of
verdict_of-owns place cond entry stand = owns-bind Never (λ f. Never) Carries _ (failure_verdict_from place cond) (owns-none _) (λ f. failed-owns place cond f)

pub verdict-owns : (place : _) (cond : Term) (entry stand : Option Transition) (notes : List Note) (answers : List Answer) (verdict : Verdict) (case : Case) (limit : Limit)
    → LeadsTo (verdict_of place cond entry stand) notes answers (Done verdict) → verdict ≡ UnprovedLimit case limit
    → WasAsked (verdict_of place cond entry stand) answers (Infeasible case.rows) (answer.Limit limit)
verdict-owns place cond entry stand notes answers verdict case limit path is =
    go ((verdict_of-owns place cond entry stand).own notes answers verdict path (Infeasible case.rows) (answer.Limit limit) (record { case = case; limit = limit; is = is; question_is = refl; answer_is = refl }))
  where
    go : ⊥ ⊎ WasAsked (verdict_of place cond entry stand) answers (Infeasible case.rows) (answer.Limit limit) → WasAsked (verdict_of place cond entry stand) answers (Infeasible case.rows) (answer.Limit limit)
    go (inl never) = absurd never
    go (inr was) = was

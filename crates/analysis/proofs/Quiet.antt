-- The analysis notes nothing beside its report: a call that follows it leaves the notes of its log
-- as they were.
--     quiet-bind, quiet-each, quiet-apart    how quiet computations are put together
--     quiet-kept                             what a call that follows one does to the notes
--     found-quiet, found_report-quiet        what is found of procedures, and the report by it
--     analysed-quiet                         the whole analysis is one
use Rattle.std.proofs.Common.{◌≡◌, List, [], ◌∷◌, ◌++◌, Option, None, Some, Result, Ok, Err, refl, ap, ◌∙◌}
use Rattle.std.specs.Prelude.{⊤}
use Rattle.std.proofs.lemmas.List.{append-nil}
use Rattle.farkas_check.specs.declared.answer.Answer.{Answer}
use Rattle.farkas_check.specs.declared.question.Question.{Question}
use Rattle.farkas_check.specs.Asking.{Asking}
use Rattle.syntax_tree.specs.declared.program.Program.{Program}
use Rattle.transition_formula.specs.Transition.{Transition}
use Rattle.posing.specs.declared.error.WorkError.{WorkError}
use Rattle.posing.specs.declared.error.WorkError.TheVariants.{Refused, Memory}
use Rattle.posing.specs.declared.log.Log.{Log}
use Rattle.posing.specs.declared.note.Note.{Note}
use Rattle.posing.specs.Follows.{Follows, IsGood, Leads}
use Rattle.posing.specs.Posing.{Posing, Done, Noted, Asked, ◌>>=◌, each, Path, here, noted, asked}
use Rattle.proc_summary.specs.declared.stop.Flow.{Flow}
use Rattle.context.specs.Entries.{entries_from}
use Rattle.context.specs.Verdicts.{place_of, verdict_of}
use Rattle.analysis.specs.declared.places.TextPlace.{TextPlace}
use Rattle.analysis.specs.declared.planning.Planned.{Planned}
use Rattle.analysis.specs.declared.found.Found.{Found}
use Rattle.analysis.specs.Analysis.{found_report, report_by_plan, report_by_findings, report_by}
use Rattle.analysis.specs.Apart.{apart, apart_from}
use Rattle.analysis.specs.Found.{findings_by_plan, with_group, flows_in}
use Rattle.analysis.specs.Judging.{Asserted, numbered_assertion, judgements_on_all, judgement_of, place_in, with_judged}
use Rattle.analysis.specs.Parts.{part_of, summaries_by}

-- no step of it makes notes
abbrev pub IsQuiet : {A : Type 0} → Posing A → Type 0
IsQuiet (Done value) = ⊤
IsQuiet (Noted notes next) = ⊥
IsQuiet (Asked question next) = (answer : Answer) → IsQuiet (next answer)

pub quiet-bind : {A B : Type 0} (p : Posing A) (f : A → Posing B) → IsQuiet p → ((x : A) → IsQuiet (f x)) → IsQuiet (p >>= f)
unfolding ◌>>=◌
quiet-bind (Done x) f h rest = rest x
quiet-bind (Noted notes next) f h rest = absurd h
quiet-bind (Asked question next) f h rest = λ answer. quiet-bind (next answer) f (h answer) rest

pub quiet-each : {A B : Type 0} (step : B → A → Posing B) (made : B) (xs : List A) → ((made : B) (x : A) → IsQuiet (step made x)) → IsQuiet (each step made xs)
quiet-each step made [] h = tt
quiet-each step made (x ∷ xs) h = quiet-bind (step made x) (λ next. each step next xs) (h made x) (λ next. quiet-each step next xs h)

pub quiet-apart_from : {A : Type 0} (before : List Note) (p : Posing A) → IsQuiet (apart_from before p)
unfolding apart_from
quiet-apart_from before (Done x) = tt
quiet-apart_from before (Noted notes next) = quiet-apart_from (before ++ notes) next
quiet-apart_from before (Asked question next) = λ answer. quiet-apart_from before (next answer)

pub quiet-path : {A : Type 0} (Good : Question → Answer → Type 0) (p q : Posing A) (notes : List Note) (answers : List Answer) → Path Good p notes answers q → IsQuiet p → notes ≡ []
quiet-path Good _ _ _ _ (here p) h = refl
quiet-path Good _ _ _ _ (noted first rest answers p q path) h = absurd h
quiet-path Good _ _ _ _ (asked question answer next notes answers q good path) h = quiet-path Good (next answer) q notes answers path (h answer)

leads-kept : {S A : Type 0} (O : Asking S) (old new : S) (before after : Log) (p q : Posing A) → Leads O old new before after p q → IsQuiet p → after.notes ≡ before.notes
leads-kept O old new before after p q leads h =
    leads.noted ∙ ap (λ notes. before.notes ++ notes) (quiet-path (IsGood O.allows) p q leads.notes leads.answers leads.path h) ∙ append-nil before.notes

pub quiet-kept : {S A : Type 0} (O : Asking S) (old new : S) (before after : Log) (result : Result A WorkError) (p : Posing A)
    → IsQuiet p → Follows O old new before after result p → after.notes ≡ before.notes
quiet-kept O old new before after (Ok value) p h follows = leads-kept O old new before after p (Done value) follows.comes h
quiet-kept O old new before after (Err Refused) p h follows =
    leads-kept O old follows.comes.at before after p (Asked follows.comes.question follows.comes.next) follows.comes.leads h
quiet-kept O old new before after (Err Memory) p h follows = leads-kept O old new before after p follows.comes.rest follows.comes.leads h

-- ---- the analysis

judged-quiet : (at : TextPlace) (a : Option Asserted) → IsQuiet (judgement_of at a)
unfolding judgement_of
judged-quiet at None = tt
judged-quiet at (Some a) = quiet-bind (apart (verdict_of (place_of a.program a.p) a.cond a.entry a.stand)) _ (quiet-apart_from [] (verdict_of (place_of a.program a.p) a.cond a.entry a.stand)) (λ made. tt)

all_judged-quiet : (program : Program) (places : List TextPlace) (entries : List (Option Transition)) (flows : List Flow) → IsQuiet (judgements_on_all program places entries flows)
unfolding judgements_on_all with_judged
all_judged-quiet program places entries flows =
    quiet-each _ [] _ (λ made number. quiet-bind (judgement_of (place_in places number) (numbered_assertion program entries flows number)) _ (judged-quiet (place_in places number) (numbered_assertion program entries flows number)) (λ judged. tt))

pub ended-quiet : (program : Program) (places : List TextPlace) (found : Found) → IsQuiet (report_by_findings program places found)
unfolding report_by_findings report_by
ended-quiet program places found =
    quiet-bind (apart (entries_from program (flows_in found))) _ (quiet-apart_from [] (entries_from program (flows_in found)))
    (λ entries. quiet-bind (judgements_on_all program places entries.0 (flows_in found)) _ (all_judged-quiet program places entries.0 (flows_in found)) (λ judged. tt))

pub found_report-quiet : (program : Program) (places : List TextPlace) (found : Found) → IsQuiet (found_report program places found)
unfolding found_report report_by
found_report-quiet program places found =
    quiet-bind (apart (entries_from program (flows_in found))) _ (quiet-apart_from [] (entries_from program (flows_in found)))
    (λ entries. quiet-bind (report_by program places found entries.0 entries.1) _
    (quiet-bind (judgements_on_all program places entries.0 (flows_in found)) _ (all_judged-quiet program places entries.0 (flows_in found)) (λ judged. tt)) (λ report. tt))

pub found-quiet : (program : Program) (plan : List Planned) → IsQuiet (findings_by_plan program plan)
unfolding findings_by_plan with_group part_of
found-quiet program plan =
    quiet-each _ _ plan (λ found planned.
    quiet-bind (part_of program planned found.known) _
    (quiet-bind (apart (summaries_by planned.kind program planned.procs found.known)) _ (quiet-apart_from [] (summaries_by planned.kind program planned.procs found.known)) (λ made. tt))
    (λ part. tt))

pub analysed-quiet : (program : Program) (places : List TextPlace) (plan : List Planned) → IsQuiet (report_by_plan program places plan)
unfolding report_by_plan
analysed-quiet program places plan = quiet-bind (findings_by_plan program plan) _ (found-quiet program plan) (λ found. ended-quiet program places found)

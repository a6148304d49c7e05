-- What proving the program of a text tells of the text.
--     proof-made       the report with points, where the answers lead to it
--     never-refused    no question is refused by an oracle that declines none
--     read-refused     an error of reading is one of proving
use Rattle.std.proofs.Common.{◌≡◌, ◌≢◌, ℕ, List, [], ◌∷◌, ◌++◌, map, refl, sym, ap, subst, ◌∙◌, IsErrAnd}
use Rattle.std.specs.Prelude.{Err, IfOk, Ok, Result}
use Rattle.farkas_check.specs.declared.answer.Answer.{Answer}
use Rattle.farkas_check.specs.declared.question.Question.{Question}
use Rattle.farkas_check.specs.Asking.{Asking}
use Rattle.syntax_tree.specs.declared.program.Program.{Program}
use Rattle.posing.specs.declared.error.WorkError.{WorkError}
use Rattle.posing.specs.declared.error.WorkError.TheVariants.{Refused, Memory}
use Rattle.posing.specs.declared.log.Log.{Log}
use Rattle.posing.specs.declared.note.Note.{Note}
use Rattle.posing.specs.Follows.{Follows, IsGood}
use Rattle.posing.specs.Posing.{Done, Path, Posing}
use Rattle.report.specs.declared.blocks.Report.{Report}
use Rattle.report.specs.Claims.{PointsMeetRows, ReportCovers}
use Rattle.analysis.specs.declared.places.TextPlace.{TextPlace}
use Rattle.analysis.specs.declared.planning.Planned.{Planned}
use Rattle.analysis.specs.Claims.{AreTheirPlaces}
use Rattle.analysis.specs.Plan.{IsPlan}
use Rattle.point_search.specs.declared.found.FoundTable.{FoundTable}
use Rattle.point_reports.specs.declared.whole.PointReport.{PointReport}
use Rattle.point_reports.specs.Claims.{AreAllMet}
use Rattle.point_reports.specs.Proof.{proof_by_plan}
use Rattle.summary_cache.specs.declared.refusal.TextError.{TextError}
use Rattle.summary_cache.specs.declared.refusal.TextError.TheVariants as text_error
use Rattle.summary_cache.specs.Accepted.{Accepts, IsErrorOf}
use Rattle.summary_cache.specs.Rules.{with_rule}
use Rattle.summary_cache.specs.Stated.{places_of, text_place}
use Rattle.commands.specs.Prove.{IsProofOf, IsProvedBy}
use Rattle.commands.proofs.RuledPoints.{all-met}

-- ---- errors

pub never-refused : {S A : Type 0} {O : Asking S} {old new : S} {before after : Log} {p : Posing A} (result : Result A WorkError) → ((s : S) (question : Question) → O.declines s question → ⊥) → Follows O old new before after result p → result ≢ Err Refused
never-refused (Ok value) none follows e = absurd (cc)
never-refused {S} {A} {O} {old} {new} (Err Refused) none follows e = none new follows.comes.question follows.comes.declined
never-refused (Err Memory) none follows e = absurd (cc)

pub wanting-only : {A : Type 0} (result : Result A WorkError) → IsErrAnd result (λ e. e ≡ Memory) → result ≢ Err Refused
wanting-only (Ok value) is e = absurd is
wanting-only (Err Refused) is e = absurd (cc)
wanting-only (Err Memory) is e = absurd (cc)

pub read-refused : (text : List ℕ) (result : Result PointReport TextError) (error : TextError) → IsErrorOf text error → IsErrAnd result (λ e. e ≡ error) → IsProofOf text result
read-refused text (Ok made) error h is = absurd is
read-refused text (Err (text_error.Refused refusal)) error h is = subst (IsErrorOf text) (sym is) h
read-refused text (Err text_error.Memory) error h is = tt

-- ---- the report

-- the place of a byte is that byte
text-places : (text checks : List ℕ) → map (λ (at : TextPlace). at.at) (map (text_place text) checks) ≡ checks
text-places text [] = refl
text-places text (at ∷ checks) = ap (λ rest. at ∷ rest) (text-places text checks)

-- a log whose notes stay as they were has gained none
no-notes : (before after : Log) (notes : List Note) → before ≡ record { notes = []; answers = [] } → after.notes ≡ before.notes → after.notes ≡ before.notes ++ notes → notes ≡ []
no-notes before after notes new kept gained =
    let none : before.notes ≡ [] = ap (λ (log : Log). log.notes) new in
    ap (λ front. front ++ notes) (sym none) ∙ sym gained ∙ kept ∙ none

covers-anew : (rule : ℕ) (program : Program) (report : Report) → ReportCovers (with_rule rule program) report → ReportCovers program report
covers-anew rule program report covers = record {
  blocks = covers.blocks;
  verdicts = covers.verdicts;
  fit = λ proc p block is at.
      let known = covers.fit proc p block is at in
      record { enters = known.enters; leaves = known.leaves; fits = known.fits; cases = known.cases; auxiliaries = known.auxiliaries };
}

module _ {S : Type 0} (O : Asking S) (text : List ℕ) (program ruled : Program) (under : ruled ≡ with_rule 4 program) (places : List TextPlace) (are : places ≡ map (text_place text) ruled.checks) (plan : List Planned) (accepted : Accepts text program) (is_plan : IsPlan ruled plan) where
  their-places : AreTheirPlaces ruled places
  their-places = ap (map (λ (at : TextPlace). at.at)) are ∙ text-places text ruled.checks

  places-are : places ≡ places_of text program
  places-are = are ∙ ap (λ (p : Program). map (text_place text) p.checks) under

  pub proof-made : (old new : S) (before after : Log) (result : Result PointReport WorkError) → before ≡ record { notes = []; answers = [] } → after.notes ≡ before.notes
      → (found : FoundTable) × Follows O old new before after result (proof_by_plan ruled places plan found)
      → IfOk result (AreAllMet ruled) → (AreTheirPlaces ruled places → IfOk result (λ made. ReportCovers ruled made.report)) → IfOk result (λ made. PointsMeetRows made.report)
      → IfOk result (λ made. (answers : List Answer) × IsProvedBy O.allows text answers made)
  proof-made old new before after (Err error) begun kept told met covers points = tt
  proof-made old new before after (Ok made) begun kept (found, follows) met covers points =
      let leads = follows.comes in
      let none = no-notes before after leads.notes begun kept leads.noted in (
        leads.answers,
        record {
          program = program;
          plan = plan;
          planned = record { accepted = accepted; is_plan = subst (λ (p : Program). IsPlan p plan) under is_plan };
          found = found;
          leads =
              subst (λ notes. Path (IsGood O.allows) (proof_by_plan (with_rule 4 program) (places_of text program) plan found) notes leads.answers (Done made)) none
              (subst (λ at. Path (IsGood O.allows) (proof_by_plan (with_rule 4 program) at plan found) leads.notes leads.answers (Done made)) places-are
              (subst (λ (p : Program). Path (IsGood O.allows) (proof_by_plan p places plan found) leads.notes leads.answers (Done made)) under leads.path));
          met = all-met program 4 made (subst (λ (p : Program). AreAllMet p made) under met);
          covers = covers-anew 4 program made.report (subst (λ (p : Program). ReportCovers p made.report) under (covers their-places));
          points = points;
        },
      )

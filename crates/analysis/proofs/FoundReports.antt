-- The report by what is found.
--     report-made, report-fails    a call that makes it from the judgements, and one that fails there
--     report-found                 it is that of the report with what it is made by
use Rattle.std.proofs.Common.{◌≡◌, ◌∙◌, List, Option, Ok, Err, refl}
use Rattle.farkas_check.specs.Asking.{Asking}
use Rattle.syntax_tree.specs.declared.program.Program.{Program}
use Rattle.transition_formula.specs.Transition.{Transition}
use Rattle.posing.specs.declared.error.WorkError.{WorkError}
use Rattle.posing.specs.declared.log.Log.{Log}
use Rattle.posing.specs.declared.note.Note.{Note}
use Rattle.posing.specs.Follows.{Follows}
use Rattle.posing.specs.Posing.{Done, ◌>>=◌}
use Rattle.posing.proofs.Paths.{bind-Done, bind-assoc}
use Rattle.posing.proofs.Steps.{at_end, error_first, value_first}
use Rattle.report.specs.declared.blocks.Judged.{Judged}
use Rattle.context.specs.Entries.{entries_from}
use Rattle.analysis.specs.declared.found.Found.{Found}
use Rattle.analysis.specs.declared.places.TextPlace.{TextPlace}
use Rattle.analysis.specs.declared.whole.FoundReport.{FoundReport}
use Rattle.analysis.specs.Analysis.{blocks_by, found_report, report_by, report_by_findings, with_findings}
use Rattle.analysis.specs.Apart.{apart}
use Rattle.analysis.specs.Found.{flows_in}
use Rattle.analysis.specs.Judging.{judgements_on_all}

module _ {S : Type 0} {O : Asking S} {old new : S} {before after : Log} (program : Program) (places : List TextPlace) (found : Found) (entries : List (Option Transition)) (notes : List Note) where
  pub report-made : {judged : List Judged} → Follows O old new before after (Ok judged) (judgements_on_all program places entries (flows_in found))
      → Follows O old new before after (Ok (record { procs = blocks_by program program.procs found.known found.notes; notes = notes; judged = judged })) (report_by program places found entries notes)
  unfolding report_by
  report-made follows = value_first _ follows refl (at_end refl)

  pub report-fails : {error : WorkError} → Follows O old new before after (Err error) (judgements_on_all program places entries (flows_in found))
      → Follows O old new before after (Err error) (report_by program places found entries notes)
  unfolding report_by
  report-fails follows = error_first _ follows refl refl

pub report-found : (program : Program) (places : List TextPlace) (found : Found) → found_report program places found >>= (λ (made : FoundReport). Done made.report) ≡ report_by_findings program places found
unfolding found_report report_by_findings ◌>>=◌
report-found program places found =
    let all = apart (entries_from program (flows_in found)) in
    bind-assoc all (λ entries. report_by program places found entries.0 entries.1 >>= λ report. Done (with_findings found entries.0 report)) (λ (made : FoundReport). Done made.report)
    ∙ λ i. all >>= λ entries.
    (bind-assoc (report_by program places found entries.0 entries.1) (λ report. Done (with_findings found entries.0 report)) (λ (made : FoundReport). Done made.report)
    ∙ bind-Done (report_by program places found entries.0 entries.1)) i

-- The stated analysis of a well-formed program by its plan leaves nothing out.
--     found-whole       every end of what is found has a summary and a flow for each procedure
--     reports-cover     every end is a report that covers the program
--     summaries-hold    and whose summaries are met
use Rattle.std.proofs.Common.{◌≡◌, List, [], ◌∷◌, length, map, Option}
use Rattle.posing.specs.declared.note.Note.{Note}
use Rattle.posing.specs.Posing.{Done, each, AlwaysPassing, IsPassing}
use Rattle.posing.proofs.UnderAnswers.{passing-always, under-bind, under-each, under-weaker}
use Rattle.syntax_tree.specs.declared.program.Program.{Program}
use Rattle.syntax_tree.specs.WellFormed.{IsWellFormed}
use Rattle.transition_formula.specs.Transition.{Transition}
use Rattle.context.specs.Entries.{entries_from}
use Rattle.report.specs.declared.blocks.Judged.{Judged}
use Rattle.report.specs.declared.blocks.Report.{Report}
use Rattle.report.specs.Claims.{ReportCovers}
use Rattle.analysis.specs.declared.found.Found.{Found}
use Rattle.analysis.specs.declared.places.TextPlace.{TextPlace}
use Rattle.analysis.specs.declared.planning.Planned.{Planned}
use Rattle.analysis.specs.Analysis.{report_by_plan, blocks_by, report_by_findings, report_by}
use Rattle.analysis.specs.Apart.{apart}
use Rattle.analysis.specs.Claims.{AreTheirPlaces, FitsFound, FoundIsMet, IsLeft}
use Rattle.analysis.specs.Found.{flows_in, findings_by_plan, nothing_found, with_group, with_part}
use Rattle.analysis.specs.Judging.{judgements_on_all}
use Rattle.analysis.specs.Parts.{part_of}
use Rattle.analysis.specs.Plan.{IsPlan}
use Rattle.analysis.proofs.ReportCover.{always-judged_by}
use Rattle.analysis.proofs.ReportParts.{blocks-all, blocks-fit, blocks-met}
use Rattle.analysis.proofs.GroupFindings.{found-fits, found-has, found-met, left-all, left-next, left-ready, nothing-fits, nothing-left, nothing-met}
use Rattle.analysis_laws.specs.Laws.{FoundIsWhole, IsFinePart, IsWhole, ReportedSummariesHold, ReportsCover, SummariesHold}
use Rattle.analysis_laws.proofs.GroupParts.{part-fine, under-any}

-- ---- what is found

module _ (program : Program) (formed : IsWellFormed program) where
  -- what is found fits and is met, and what is left of the plan is of the groups that are left
  record Keeps (rest : List Planned) (found : Found) : Type 0 where
    fits : FitsFound program found
    met : FoundIsMet program found
    left : IsLeft program found rest

  group-next : (planned : Planned) (rest : List Planned) (found : Found) → Keeps (planned ∷ rest) found → AlwaysPassing (Keeps rest) (with_group program found planned)
  unfolding with_group
  group-next planned rest found kept =
      let ready = left-ready program found planned rest formed kept.left in
      under-bind IsPassing (IsFinePart program planned found.known) (Keeps rest) (part_of program planned found.known)
      (λ part. Done (with_part found planned.procs part))
      (part-fine program formed planned found.known kept.fits.known ready)
      (λ part own. record {
        fits = found-fits program planned.procs found part kept.fits own.fits;
        met = found-met program planned.procs found part kept.met (own.met kept.met.summaries);
        left = left-next program found (with_part found planned.procs part) planned rest kept.left (λ come has. found-has program planned.procs found part come kept.fits own.fits ready.there has);
      })

  found-all : (plan : List Planned) → IsPlan program plan → AlwaysPassing (IsWhole program) (findings_by_plan program plan)
  unfolding findings_by_plan
  found-all plan is =
      under-weaker IsPassing (Keeps []) (IsWhole program) (each (with_group program) (nothing_found (length program.procs)) plan)
      (λ found kept. record { fits = kept.fits; all = left-all program found kept.left; met = kept.met })
      (under-each IsPassing Keeps (with_group program) (nothing_found (length program.procs)) plan group-next
      record { fits = nothing-fits program; met = nothing-met program; left = nothing-left program plan is })

  -- ---- the report

  report-fine : (places : List TextPlace) (found : Found) → IsWhole program found → (entries : List (Option Transition)) (notes : List Note) → AlwaysPassing (SummariesHold program) (report_by program places found entries notes)
  unfolding report_by
  report-fine places found has entries notes =
      under-bind IsPassing (λ judged. Unit {0}) (SummariesHold program) (judgements_on_all program places entries (flows_in found))
      (λ judged. Done record { procs = blocks_by program program.procs found.known found.notes; notes = notes; judged = judged })
      (under-any IsPassing (judgements_on_all program places entries (flows_in found))) (λ judged any. blocks-met program found has.fits has.all has.met)

  report-covers : (places : List TextPlace) → AreTheirPlaces program places → (found : Found) → IsWhole program found → (entries : List (Option Transition)) (notes : List Note)
      → AlwaysPassing (ReportCovers program) (report_by program places found entries notes)
  unfolding report_by
  report-covers places theirs found has entries notes =
      under-bind IsPassing (λ made. map (λ (j : Judged). j.at) made ≡ program.checks) (ReportCovers program) (judgements_on_all program places entries (flows_in found))
      (λ judged. Done record { procs = blocks_by program program.procs found.known found.notes; notes = notes; judged = judged })
      (passing-always (λ made. map (λ (j : Judged). j.at) made ≡ program.checks) (judgements_on_all program places entries (flows_in found)) (always-judged_by program places entries (flows_in found) theirs))
      (λ judged at. record {
        blocks = blocks-all program found has.fits has.all;
        verdicts = at;
        fit = blocks-fit program found has.fits has.all;
      })

  -- what every end of it is by any entries, is every end of the whole
  ended-fine : (P : Report → Type 0) (places : List TextPlace) (found : Found) → ((entries : List (Option Transition)) (notes : List Note) → AlwaysPassing P (report_by program places found entries notes))
      → AlwaysPassing P (report_by_findings program places found)
  unfolding report_by_findings
  ended-fine P places found fine =
      under-bind IsPassing (λ entries. Unit {0}) P (apart (entries_from program (flows_in found))) (λ entries. report_by program places found entries.0 entries.1)
      (under-any IsPassing (apart (entries_from program (flows_in found)))) (λ entries any. fine entries.0 entries.1)

  analysed-fine : (P : Report → Type 0) (places : List TextPlace) (plan : List Planned) → IsPlan program plan
      → ((found : Found) → IsWhole program found → (entries : List (Option Transition)) (notes : List Note) → AlwaysPassing P (report_by program places found entries notes))
      → AlwaysPassing P (report_by_plan program places plan)
  unfolding report_by_plan
  analysed-fine P places plan is fine =
      under-bind IsPassing (IsWhole program) P (findings_by_plan program plan) (λ found. report_by_findings program places found) (found-all plan is)
      (λ found has. ended-fine P places found (fine found has))

pub found-whole : FoundIsWhole
found-whole program plan formed is = found-all program formed plan is

pub reports-cover : ReportsCover
reports-cover program places plan formed is theirs =
    analysed-fine program formed (ReportCovers program) places plan is (λ found has entries notes. report-covers program formed places theirs found has entries notes)

pub summaries-hold : ReportedSummariesHold
summaries-hold program places plan formed is =
    analysed-fine program formed (SummariesHold program) places plan is (λ found has entries notes. report-fine program formed places found has entries notes)

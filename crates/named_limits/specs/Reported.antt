-- The limits that stand in a report.
use Rattle.std.specs.Prelude.{◌≡◌, List, [], ◌∷◌, ◌++◌}
use Rattle.std.specs.List.{flat_map}
use Rattle.farkas_check.specs.declared.answer.Limit.{Limit}
use Rattle.report.specs.declared.blocks.Judged.{Judged}
use Rattle.report.specs.declared.blocks.ProcBlock.{ProcBlock}
use Rattle.report.specs.declared.blocks.Report.{Report}
use Rattle.report.specs.declared.verdict.Verdict.{Verdict}
use Rattle.report.specs.declared.verdict.Verdict.TheVariants.{Proved, Unproved, UnprovedLimit}
use Rattle.named_limits.specs.Limits.{limits_told}

-- the limit that a verdict carries
abbrev pub limit_carried : Verdict → List Limit
limit_carried Proved = []
limit_carried (Unproved case point) = []
limit_carried (UnprovedLimit case limit) = limit ∷ []

-- those of an assertion: what its verdict carries, and what its notes tell
abbrev pub limits_judged : Judged → List Limit
limits_judged judged = limit_carried judged.verdict ++ limits_told judged.notes

-- those of a report: what the notes of its blocks tell, those of the entries, and its assertions
abbrev pub limits_in : Report → List Limit
limits_in report =
    flat_map (λ (block : ProcBlock). limits_told block.notes) report.procs
    ++ (limits_told report.notes ++ flat_map limits_judged report.judged)

-- no note tells a limit, no row was dropped for one, and no verdict carries one
pub record HasNoLimit (report : Report) : Type 0 where
  pub none : limits_in report ≡ []

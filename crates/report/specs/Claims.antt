-- What a report claims of a program, and when that is true. It speaks of executions alone (`Fails`
-- and `Returns` of `execution`, `specs/Execution`). That a report leaves nothing of its program
-- out, and that each point that it tells makes the rows of its case true.
use Rattle.std.specs.Prelude.{◌≡◌, ℕ, ◌+◌, map, Some, slice_get}
use Rattle.syntax_tree.specs.declared.program.Proc.{Proc}
use Rattle.syntax_tree.specs.declared.program.Program.{Program}
use Rattle.execution.specs.Execution.{Fails}
use Rattle.farkas_check.specs.Meaning.{HasPoint}
use Rattle.leaf_cases.specs.Conditions.{IsKnown}
use Rattle.leaf_cases.specs.Summaries.{SummaryIsMet}
use Rattle.report.specs.declared.verdict.Verdict.{Verdict}
use Rattle.report.specs.declared.verdict.Verdict.TheVariants.{Proved, Unproved, UnprovedLimit}
use Rattle.report.specs.declared.blocks.ProcBlock.{ProcBlock}
use Rattle.report.specs.declared.blocks.Judged.{Judged}
use Rattle.report.specs.declared.blocks.Report.{Report}

-- The claims of a report are met: each summary holds of every execution that returns
-- (`SummaryIsMet` of `leaf_cases`, `specs/Summaries`), and no execution from `main` fails an
-- assertion that is proved.
pub record ClaimsAreMet (program : Program) (report : Report) : Type 0 where
  pub summaries : (proc : ℕ) (block : ProcBlock) → slice_get report.procs proc ≡ Some block
      → SummaryIsMet program proc block.formula
  pub proved : (n : ℕ) (judged : Judged) → slice_get report.judged n ≡ Some judged
      → judged.verdict ≡ Proved
      → ¬ Fails program (n + 1)

-- The report covers the program: it has a block for each procedure, in order and with its name, and
-- a verdict for each assertion, in order and at its place in the text. The n-th assertion has the
-- number n.
pub record ReportCovers (program : Program) (report : Report) : Type 0 where
  pub blocks : map (λ (b : ProcBlock). b.name) report.procs
      ≡ map (λ (p : Proc). p.name) program.procs
  pub verdicts : map (λ (j : Judged). j.at) report.judged ≡ program.checks
  -- each summary goes from the columns at the entry of its procedure to those at its exit
  pub fit : (proc : ℕ) (p : Proc) (block : ProcBlock) → slice_get program.procs proc ≡ Some p
      → slice_get report.procs proc ≡ Some block → IsKnown program p block.formula

-- The point makes each row of the case true, with a number for each of their monomials (`HasPoint`
-- of `farkas_check`, `specs/Meaning`). Which case that is, says `verdict_of` of `context`,
-- `specs/Verdicts`.
abbrev pub IsRefuted : Verdict → Type 0
IsRefuted Proved = Unit {0}
IsRefuted (Unproved case point) = HasPoint case.rows point
IsRefuted (UnprovedLimit case limit) = Unit {0}

-- where an assertion is told as unproved with a point, the point makes the rows of its case true
abbrev pub PointsMeetRows : Report → Type 0
PointsMeetRows report = (n : ℕ) (judged : Judged) → slice_get report.judged n ≡ Some judged
    → IsRefuted judged.verdict

-- What the end of a run says, in words of executions alone.
use Rattle.std.specs.Prelude.{◌≡◌, ℕ, ◌+◌, ◌<◌, List, ◌++◌, Option, length}
use Rattle.std.specs.Io.KnownBytes.{Appends}
use Rattle.execution.specs.Execution.{Fails}
use Rattle.syntax_tree.specs.declared.program.Program.{Program}
use Rattle.report.specs.declared.blocks.Report.{Report}
use Rattle.report.specs.Claims.{ClaimsAreMet, PointsMeetRows, ReportCovers}
use Rattle.report.specs.Text.{text_of}
use Rattle.wire.specs.declared.certificate.Certificate.{Certificate}

-- no execution of the program from `main` fails any of its assertions
abbrev pub NoAssertionFails : Program → Type 0
NoAssertionFails program = (n : ℕ) → n < length program.checks → ¬ Fails program (n + 1)

-- an execution of the program from `main` fails this assertion
abbrev pub AnAssertionFails : Program → Type 0
AnAssertionFails program = (number : ℕ) × Fails program number

-- The text is that of a report that covers the program, whose claims are met, and each point of
-- which makes the rows of its case true.
pub record IsTrueText (program : Program) (text : List ℕ) : Type 0 where
  pub report : Report
  pub told : text ≡ text_of report
  pub covers : ReportCovers program report
  pub met : ClaimsAreMet program report
  pub points : PointsMeetRows report

-- the report of a certificate file, whoever made the file, is true of the program of its text
abbrev pub IsTrueFile : Certificate → Program → Type 0
IsTrueFile file program = IsTrueText program file.report

-- what was written is a text that is true of the program
abbrev pub TellsTrueText : Program → Option (List ℕ) → Option (List ℕ) → Type 0
TellsTrueText program before now = (text : List ℕ) × IsTrueText program text
    × Appends before now text

-- what was written ends with a text that is true of the program
abbrev pub EndsWithTrueText : Program → Option (List ℕ) → Option (List ℕ) → Type 0
EndsWithTrueText program before now = (lines : List ℕ) × (text : List ℕ) × IsTrueText program text
    × Appends before now (lines ++ text)

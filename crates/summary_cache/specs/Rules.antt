-- The rule by which iterations are summed up is that of the session, and no execution knows it.
use Rattle.std.specs.Prelude.{ℕ, IsTrue, ◌&&◌, nat_le}
use Rattle.syntax_tree.specs.declared.program.Program.{Program}
use Rattle.syntax_tree.specs.WellFormed.{IsWellFormed}
use Rattle.report.specs.declared.blocks.Report.{Report}
use Rattle.report.specs.Claims.{ClaimsAreMet}

-- the rules that a session may have: those of the first and the second version of a certificate
-- file, that of facets, and that of phases
abbrev pub IsRule : ℕ → Type 0
IsRule rule = IsTrue (nat_le 1 rule && nat_le rule 4)

-- a program with another rule
abbrev pub with_rule : ℕ → Program → Program
with_rule rule program =
    record {
      globals = program.globals;
      procs = program.procs;
      main = program.main;
      checks = program.checks;
      rule = rule;
    }

-- a program is well formed under each rule
abbrev pub RulesAreFree : Type 0
RulesAreFree = (program : Program) (rule : ℕ) → IsWellFormed program → IsRule rule
    → IsWellFormed (with_rule rule program)

-- claims that are met under a rule are met
abbrev pub ClaimsKnowNoRule : Type 0
ClaimsKnowNoRule = (program : Program) (rule : ℕ) (report : Report)
    → ClaimsAreMet (with_rule rule program) report → ClaimsAreMet program report

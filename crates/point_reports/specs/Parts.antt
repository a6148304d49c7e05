-- What is asked of the parts of the analysis with points, and what its parts come to.
use Rattle.std.specs.Prelude.{◌≡◌, ◌≤◌, ◌+◌, ℕ, List, [], ◌∷◌, ◌++◌, Option, Some, length, map, slice_get}
use Rattle.syntax_tree.specs.declared.program.Program.{Program}
use Rattle.syntax_tree.specs.WellFormed.{IsWellFormed}
use Rattle.transition_formula.specs.Transition.{Transition}
use Rattle.flow_graph.specs.FlowGraph.{graph_of}
use Rattle.point_induction.specs.Induction.{AreTrue}
use Rattle.point_induction.specs.Points.{heads_of}
use Rattle.report.specs.declared.blocks.Judged.{Judged}
use Rattle.report.specs.Claims.{ClaimsAreMet, IsRefuted, PointsMeetRows}
use Rattle.point_rounds.specs.declared.round.PointRound.{PointRound}
use Rattle.point_rounds.specs.declared.round.PointState.{PointState}
use Rattle.point_rounds.specs.Closed.{AreStepsFrom, CoverTable}
use Rattle.point_rounds.specs.Sayings.{sayings_of_table}
use Rattle.point_rounds.specs.Source.{AreGraphsOf, all_heads}
use Rattle.point_rounds.specs.Table.{IsTable}
use Rattle.point_verdicts.specs.Claims.{StandsAtPoints}
use Rattle.analysis.specs.declared.whole.FoundReport.{FoundReport}
use Rattle.analysis.specs.Claims.{FitsFoundReport, FoundReportHolds, IsJudged, IsStanding}
use Rattle.point_reports.specs.declared.again.JudgedRound.{JudgedRound}
use Rattle.point_reports.specs.declared.blocks.ToldProc.{ToldProc}
use Rattle.point_reports.specs.declared.rounds.PointGround.{PointGround}
use Rattle.point_reports.specs.declared.whole.PointReport.{PointReport}

-- ---- what is asked

-- what is found of a well-formed program fits it, with its graphs and their heads
pub record IsPointGround (ground : PointGround) : Type 0 where
  pub formed : IsWellFormed ground.program.now
  pub graphs : AreGraphsOf ground.program.now ground.standing.now.graphs
  pub heads : ground.heads.now ≡ all_heads ground.standing.now.graphs
  pub fits : FitsFoundReport ground.program.now ground.made.now

-- a table and steps of a well-formed program, with its graphs, their heads and its assertions
pub record IsJudgedRound (left : JudgedRound) : Type 0 where
  pub formed : IsWellFormed left.program.now
  pub standing : IsStanding left.program.now left.standing.now
  pub graphs : AreGraphsOf left.program.now left.standing.now.graphs
  pub heads : left.heads.now ≡ all_heads left.standing.now.graphs
  pub table : IsTable left.program.now left.round.now.table
  pub steps : AreStepsFrom left.program.now left.round.now.steps

-- the heads of each procedure of the program
pub record AreHeadsOf (program : Program) (heads : List (List ℕ)) : Type 0 where
  pub each : length heads ≡ length program.procs
  pub are : (proc : ℕ) (own : List ℕ) → slice_get heads proc ≡ Some own
      → own ≡ heads_of (graph_of program proc)

-- a procedure whose parameters are among its columns, with the heads of its loops
pub record IsToldProc (at : ToldProc) : Type 0 where
  pub params : at.proc.now.params ≤ length at.proc.now.columns
  pub heads : at.heads.now ≡ heads_of (graph_of at.program.now at.number)

-- what is found fits the program and holds, and the report that is made of it is true
pub record IsFoundProof (program : Program) (made : FoundReport) : Type 0 where
  pub fits : FitsFoundReport program made
  pub holds : FoundReportHolds program made
  pub met : ClaimsAreMet program made.report
  pub points : PointsMeetRows made.report

-- ---- a round

-- its table and its steps are of the program
pub record FitsRound (program : Program) (round : PointRound) : Type 0 where
  pub table : IsTable program round.table
  pub steps : AreStepsFrom program round.steps

-- they cover its rows, by known formulas and states
abbrev pub CoversRound : Program → List (Option Transition) → List PointState → PointRound
    → Type 0
CoversRound program known states round = CoverTable program known states round.steps round.table

-- in every execution from `main` its rows are true
abbrev pub IsTrueRound : Program → PointRound → Type 0
IsTrueRound program round = AreTrue program (sayings_of_table program round.table)

-- ---- what is known at points

-- by some known formulas and some states, the round's rows and steps are true of executions
abbrev pub IsKnownAtPoints : Program → PointRound → Type 0
IsKnownAtPoints program round = (known : List (Option Transition)) × (states : List PointState)
    × StandsAtPoints program known states round

-- ---- judgements once more

-- a judgement on the same assertion, true where the one before is, by what is known at points
pub record IsAgain (program : Program) (round : PointRound) (number : ℕ)
    (before after : Judged) : Type 0 where
  pub at : after.at ≡ before.at
  pub refuted : IsRefuted before.verdict → IsRefuted after.verdict
  pub sound : IsKnownAtPoints program round → IsJudged program number before
      → IsJudged program number after

-- one of an assertion of this number behind those made
pub record AddsAgain (program : Program) (round : PointRound) (number : ℕ) (before : Judged)
    (made all : List Judged) : Type 0 where
  pub judged : Judged
  pub is : all ≡ made ++ judged ∷ []
  pub again : IsAgain program round number before judged

-- one for each, in their order, of which the first has this number
abbrev pub AreAgain : Program → PointRound → ℕ → (before after : List Judged) → Type 0
AreAgain program round number [] [] = Unit {0}
AreAgain program round number [] (after ∷ more) = ⊥
AreAgain program round number (before ∷ rest) [] = ⊥
AreAgain program round number (before ∷ rest) (after ∷ more) =
    IsAgain program round number before after × AreAgain program round (number + 1) rest more

-- the procedures of a report, and where its assertions stand, are kept
pub record KeepsReport (before : FoundReport) (after : PointReport) : Type 0 where
  pub procs : after.report.procs ≡ before.report.procs
  pub ats : map (λ (j : Judged). j.at) after.report.judged
      ≡ map (λ (j : Judged). j.at) before.report.judged

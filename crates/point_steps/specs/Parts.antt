-- What the code makes states and steps from, and what it asks for that.
use Rattle.std.specs.Prelude.{◌≡◌, ◌≤◌, ◌<◌, ◌^◌, ℕ, ◌+◌, ◌-◌, ℤ, IsTrue, All, List, [], ◌++◌, length}
use Rattle.std.specs.List.{AllByRecursion}
use Rattle.linear_terms.specs.declared.row.Case.{Case}
use Rattle.syntax_tree.specs.declared.program.Proc.{Proc}
use Rattle.syntax_tree.specs.declared.program.Program.{Program}
use Rattle.syntax_tree.specs.Term.{Term}
use Rattle.syntax_tree.specs.WellFormed.{width_of}
use Rattle.flow_graph.specs.FlowGraph.{Arc, CheckPlace}
use Rattle.flow_graph.specs.Plain.{plain}
use Rattle.leaf_cases.specs.Conditions.{columns_at}
use Rattle.proc_summary.specs.Flow.{formula_at}
use Rattle.transition_formula.specs.Meaning.{Holds}
use Rattle.transition_formula.specs.Transition.{Transition, IsTransition, fits}
use Rattle.checked_tree.specs.Law.{IsEnd}
use Rattle.point_steps.specs.declared.ends.PointEnds.{PointEnds}
use Rattle.point_steps.specs.declared.outs.WayOut.{WayOut}
use Rattle.point_steps.specs.declared.source.StepSource.{StepSource}
use Rattle.point_steps.specs.declared.target.PointStep.{PointStep}
use Rattle.point_steps.specs.declared.target.Target.{Target}
use Rattle.point_steps.specs.declared.target.Target.TheVariants.{Head, Entry, Exit, Check}
use Rattle.point_steps.specs.Claims.{HasStep, most_state_auxiliaries, target_columns}
use Rattle.point_steps.specs.Outs.{call_outs, check_outs, edge_outs, entry_outs, exit_outs, head_outs, if_passed, out_to}
use Rattle.point_steps.specs.Steps.{point_case, step_formula}

-- ---- states

-- numbers of columns that fit one another, and vocabularies of as many
pub record ArePointEnds (ends : PointEnds) : Type 0 where
  pub entry : ends.entry ≤ ends.columns
  pub few_entry : ends.entry ≤ 24
  pub few_columns : ends.columns ≤ 63
  pub remembered : ends.remembered ≤ ends.entry
  pub start_columns : ends.start.columns ≡ 0
  pub point_columns : ends.point.columns ≡ ends.columns + ends.remembered
  pub start : IsEnd ends.start
  pub point : IsEnd ends.point

-- a case of an entry of so many columns
pub record IsEntryCase (entry : ℕ) (case : Case) : Type 0 where
  pub fits : IsTrue (fits 0 entry case)
  pub few : case.aux ≤ 64

-- it holds of what an entry and then a formula of so many columns lead to, and of what the entry
-- held of
abbrev pub HoldsAtPoint : (columns : ℕ) → Transition → Transition → Transition → Type 0
HoldsAtPoint columns entry reach f =
    (begun others after : List ℤ) → Holds entry [] begun → length (begun ++ others) ≡ columns
    → Holds reach (begun ++ others) after → Holds f [] (after ++ begun)

-- ---- ways out, by the parts of a source

-- how many columns the states of its procedure have
abbrev pub own_columns : StepSource → ℕ
own_columns source = columns_at source.program.now source.proc

-- the ways to heads
abbrev pub own_heads : StepSource → List WayOut
own_heads source =
    head_outs (own_columns source) source.cells.now source.graph.now.nodes source.heads.now

-- the ways to the entries of procedures that are called
abbrev pub own_calls : StepSource → List WayOut
own_calls source =
    call_outs (own_columns source) (length source.program.now.globals) source.cells.now
    (plain source.graph.now).arcs source.node

-- the way to the exit, as a list of one; [] of `main`
abbrev pub own_exits : StepSource → List WayOut
own_exits source =
    exit_outs source.program.now.main source.proc (own_columns source) source.cells.now
    (source.graph.now.nodes - 1)

-- the ways to assertions
abbrev pub own_checks : StepSource → List WayOut
own_checks source =
    check_outs (own_columns source) source.cells.now (plain source.graph.now).arcs source.node 0
    (plain source.graph.now).checks

-- the way out by an edge, as a list of one; [] where there is none
abbrev pub outs_by_edge : StepSource → Arc → List WayOut
outs_by_edge source way =
    edge_outs (own_columns source) (length source.program.now.globals) source.cells.now
    (plain source.graph.now).arcs source.node way

-- the same by a call from a node
abbrev pub outs_by_call : StepSource → (from callee : ℕ) → List Term → List WayOut
outs_by_call source from callee args =
    if_passed (plain source.graph.now).arcs source.node from
    (entry_outs (own_columns source) (length source.program.now.globals) callee args
    (formula_at (own_columns source) source.cells.now from))

-- the same by an assertion of a number
abbrev pub outs_by_check : StepSource → ℕ → CheckPlace → List WayOut
outs_by_check source number check =
    if_passed (plain source.graph.now).arcs source.node check.node
    (out_to (Check number) (formula_at (own_columns source) source.cells.now check.node))

-- the globals are among the columns that a formula leads to, of which there are at most 63
pub record AreWidthsOf (globals : ℕ) (f : Transition) : Type 0 where
  pub within : globals ≤ f.to
  pub few : f.to ≤ 63

-- ---- steps

-- a state with so many columns of a point, and more behind them, and some places that are told
pub record IsStepOrigin (columns : ℕ) (places : List ℕ) (f : Transition) : Type 0 where
  pub from : f.from ≡ 0
  pub to : columns ≤ f.to
  pub few_columns : f.to ≤ 1000
  pub few_places : length places ≤ 1000
  pub fits : IsTransition f.from f.to f.cases
  pub few : All (λ case. case.aux ≤ most_state_auxiliaries) f.cases

-- a case of a state, of whose columns so many are those of a point
pub record IsStateCase (columns : ℕ) (case : Case) : Type 0 where
  pub long : columns ≤ length case.post
  pub fits : IsTrue (fits 0 columns (point_case columns case))
  pub few : case.aux ≤ most_state_auxiliaries

-- how many auxiliaries a case of a way out may have: those of a way, of arguments and of their
-- sequence
abbrev pub most_out_auxiliaries : ℕ
most_out_auxiliaries = 2 ^ 31 + 1000

-- the formula of a way out leads from so many columns to few
pub record IsOutFormula (columns : ℕ) (f : Transition) : Type 0 where
  pub from : f.from ≡ columns
  pub to : f.to ≤ 1000
  pub fits : IsTransition f.from f.to f.cases
  pub few : All (λ case. case.aux ≤ most_out_auxiliaries) f.cases

-- the places that are told of it at exits are there
abbrev pub ArePlacesAt : List ℕ → Target → Transition → Type 0
ArePlacesAt places Exit f = All (λ place. place < f.to) places
ArePlacesAt places (Head node) f = Unit {0}
ArePlacesAt places (Entry callee) f = Unit {0}
ArePlacesAt places (Check number) f = Unit {0}

-- both of a way out
pub record IsOut (columns : ℕ) (places : List ℕ) (out : WayOut) : Type 0 where
  pub formula : IsOutFormula columns out.formula
  pub there : ArePlacesAt places out.target out.formula

-- how many columns a way to a target leads to: all of the procedure's where it leads to the exit
abbrev pub way_columns : Program → Proc → Target → ℕ
way_columns program p Exit = width_of program p
way_columns program p (Head node) = width_of program p
way_columns program p (Entry callee) = target_columns program p (Entry callee)
way_columns program p (Check number) = width_of program p

-- a way out leads between the columns of the procedure and those of its target, by cases of few
-- auxiliaries
pub record IsWayOut (program : Program) (p : Proc) (out : WayOut) : Type 0 where
  pub from : out.formula.from ≡ width_of program p
  pub to : out.formula.to ≡ way_columns program p out.target
  pub fits : IsTransition out.formula.from out.formula.to out.formula.cases
  pub few : All (λ case. case.aux ≤ most_out_auxiliaries) out.formula.cases

-- some step to the target of a way out holds of what the step by that way holds of
pub record CoversOut (columns : ℕ) (places : List ℕ) (state : Transition) (steps : List PointStep)
    (out : WayOut) : Type 0 where
  pub covers : (after : List ℤ)
      → Holds (step_formula columns places out.target state out.formula) [] after
      → HasStep steps out.target after

-- so for each of these ways out
abbrev pub CoverOuts : (columns : ℕ) → List ℕ → Transition → List WayOut → List PointStep → Type 0
CoverOuts columns places state outs steps =
    AllByRecursion (CoversOut columns places state steps) outs

-- further steps are made behind others
pub record IsBehind (made all : List PointStep) : Type 0 where
  pub more : List PointStep
  pub is : all ≡ made ++ more

-- The assertions of a program in the order of the text, each with what its verdict is found by.
use Rattle.std.specs.Prelude.{ℕ, ◌+◌, ◌-◌, ◌==◌, List, [], ◌∷◌, ◌++◌, Option, None, Some, map, length, slice_get}
use Rattle.std.specs.List.{find, range_with_len, slice_index_or}
use Rattle.syntax_tree.specs.declared.program.Column.{Column}
use Rattle.syntax_tree.specs.declared.program.GlobalVar.{GlobalVar}
use Rattle.syntax_tree.specs.declared.program.Proc.{Proc}
use Rattle.syntax_tree.specs.declared.program.Program.{Program}
use Rattle.syntax_tree.specs.Term.{Term}
use Rattle.transition_formula.specs.Transition.{Transition}
use Rattle.flow_graph.specs.FlowGraph.{CheckPlace, graph_of}
use Rattle.posing.specs.Posing.{Posing, Done, ◌>>=◌, each}
use Rattle.proc_summary.specs.declared.stop.Flow.{Flow}
use Rattle.proc_summary.specs.declared.stop.NodeFormula.{NodeFormula}
use Rattle.proc_summary.specs.Subject.{own_graph}
use Rattle.report.specs.declared.blocks.Judged.{Judged}
use Rattle.report.specs.declared.verdict.Verdict.TheVariants.{Proved}
use Rattle.context.specs.Verdicts.{place_of, shown_columns_of, verdict_of}
use Rattle.analysis.specs.declared.places.TextPlace.{TextPlace}
use Rattle.analysis.specs.declared.standing.CheckAt.{CheckAt}
use Rattle.analysis.specs.Apart.{apart}

-- ---- names

-- the names of the globals, in the order of the text
abbrev pub global_names : Program → List (List ℕ)
global_names program = map (λ (g : GlobalVar). g.name) program.globals

-- a name, if there is one, before the others
abbrev pub names_onto : Option (List ℕ) → List (List ℕ) → List (List ℕ)
names_onto None names = names
names_onto (Some name) names = name ∷ names

-- the names of the columns that have one
abbrev pub column_names : List Column → List (List ℕ)
column_names [] = []
column_names (c ∷ columns) = names_onto c.name (column_names columns)

-- ---- where assertions stand

-- those of a procedure, from a place on
abbrev pub checks_from : (proc check : ℕ) → List CheckPlace → List CheckAt
checks_from proc check [] = []
checks_from proc check (at ∷ checks) =
    record { number = at.number; proc = proc; check = check } ∷ checks_from proc (check + 1) checks

-- those of these procedures, from a number on
abbrev pub checks_of : ℕ → List Proc → List CheckAt
checks_of proc [] = []
checks_of proc (p ∷ procs) = checks_from proc 0 (own_graph p).checks ++ checks_of (proc + 1) procs

-- the assertion with a number
abbrev pub check_with : ℕ → List CheckAt → Option CheckAt
check_with number checks = find (λ (c : CheckAt). c.number == number) checks

-- ---- assertions

-- its procedure, the condition, the entry of the procedure and the formula of where it stands there
pub record Asserted : Type 0 where
  pub program : Program
  pub p : Proc
  pub cond : Term
  pub entry : Option Transition
  pub stand : Option Transition

-- the assertion at a place of a procedure's graph, by the procedure's entry and the formula there
abbrev pub assertion_at : Program → Proc → CheckPlace → Option Transition → NodeFormula → Asserted
assertion_at program p check entry stop =
    record { program = program; p = p; cond = check.cond; entry = entry; stand = stop.formula }

-- the assertion where all that it takes is there, else None
abbrev pub asserted_if : Program → Option Proc → Option CheckPlace → Option (Option Transition)
    → Option NodeFormula → Option Asserted
asserted_if program (Some p) (Some check) (Some entry) (Some stop) =
    Some (assertion_at program p check entry stop)
asserted_if program _ _ _ _ = None

-- where the assertions of a procedure stand, in order; [] where the procedure has no flow
abbrev pub stops_in : Option Flow → List NodeFormula
stops_in None = []
stops_in (Some flow) = flow.checks

-- the assertion that stands at a place of a graph, if its procedure has an entry and a flow
abbrev pub assertion_by : Program → List (Option Transition) → List Flow → CheckAt → Option Asserted
assertion_by program entries flows c =
    asserted_if program (slice_get program.procs c.proc)
    (slice_get (graph_of program c.proc).checks c.check)
    (slice_get entries c.proc) (slice_get (stops_in (slice_get flows c.proc)) c.check)

-- the assertion that stands at a place, where one is known, else None
abbrev pub assertion_of : Program → List (Option Transition) → List Flow → Option CheckAt
    → Option Asserted
assertion_of program entries flows None = None
assertion_of program entries flows (Some c) = assertion_by program entries flows c

-- that of a number
abbrev pub numbered_assertion : Program → List (Option Transition) → List Flow → ℕ → Option Asserted
numbered_assertion program entries flows number =
    assertion_of program entries flows (check_with number (checks_of 0 program.procs))

-- ---- verdicts

-- what stands for a place past the end: byte, line and column 0
abbrev pub no_place : TextPlace
no_place = record { at = 0; line = 0; column = 0 }

-- the number of an assertion counts from 1 through the places in the text
abbrev pub place_in : List TextPlace → ℕ → TextPlace
place_in places number = slice_index_or places (number - 1) no_place

-- one that stands in no graph is not come to, and so never fails
abbrev pub unreached_judgement : TextPlace → Judged
unreached_judgement at =
    record {
      at = at.at;
      line = at.line;
      column = at.column;
      named = [];
      shown = [];
      verdict = Proved;
      notes = [];
    }

-- the columns that are told are the globals and those that have a name
unfoldable pub judgement_of : TextPlace → Option Asserted → Posing Judged
judgement_of at None = Done (unreached_judgement at)
judgement_of at (Some a) =
    apart (verdict_of (place_of a.program a.p) a.cond a.entry a.stand) >>= λ made.
    Done record {
      at = at.at;
      line = at.line;
      column = at.column;
      named = global_names a.program ++ column_names a.p.columns;
      shown = shown_columns_of a.program a.p;
      verdict = made.0;
      notes = made.1;
    }

-- the verdict on the assertion of one number more, behind those that are made
unfoldable pub with_judged : Program → List TextPlace → List (Option Transition) → List Flow
    → List Judged → ℕ → Posing (List Judged)
with_judged program places entries flows made number =
    judgement_of (place_in places number) (numbered_assertion program entries flows number)
    >>= λ judged. Done (made ++ judged ∷ [])

-- all assertions, in the order of their numbers
unfoldable pub judgements_on_all : Program → List TextPlace → List (Option Transition) → List Flow
    → Posing (List Judged)
judgements_on_all program places entries flows =
    each (with_judged program places entries flows) [] (range_with_len 1 (length program.checks))

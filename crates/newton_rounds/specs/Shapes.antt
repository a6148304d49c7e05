-- What the parts of a closure are like: ends of procedures, and calls between them.
use Rattle.std.specs.Prelude.{◌≡◌, ◌<◌, ◌≤◌, ◌+◌, ◌++◌, ◌∷◌, [], ◌^◌, ℕ, All, IsTrue, List, Option, None, Some, length, map}
use Rattle.std.specs.List.{AllByRecursion}
use Rattle.transition_formula.specs.declared.loss.Loss.{Loss}
use Rattle.transition_formula.specs.Hiding.{losses_in_hiding}
use Rattle.flow_graph.specs.FlowGraph.{exit_of}
use Rattle.syntax_tree.specs.Term.{term_of}
use Rattle.proc_summary.specs.Subject.{own_graph}
use Rattle.syntax_tree.specs.declared.program.Proc.{Proc}
use Rattle.syntax_tree.specs.Code.{code_of}
use Rattle.leaf_cases.specs.Edges.{arguments_of}
use Rattle.proc_summary.specs.Summary.{exit_formula}
use Rattle.linear_terms.specs.declared.row.Case.{Case}
use Rattle.linear_terms.specs.declared.row.Row.{Row}
use Rattle.syntax_tree.specs.declared.limits.TheConstants.{MOST_OPERATORS}
use Rattle.syntax_tree.specs.WellFormed.{all_columns_below, joint_operators}
use Rattle.transition_formula.specs.declared.solving.Solved.{Solved}
use Rattle.transition_formula.specs.declared.solving.Solved.TheVariants.{Kept, False}
use Rattle.transition_formula.specs.Transition.{Transition, every_column, fits, is_below}
use Rattle.vocabularies.specs.Ends.{value_width}
use Rattle.proc_summary.specs.Claims.{FitsIf}
use Rattle.newton_rounds.specs.Members.{GroupCall}
use Rattle.newton_rounds.specs.declared.calls.GroupCall as own
use Rattle.newton_rounds.specs.declared.calls.Sides.{Sides}
use Rattle.newton_rounds.specs.Pairs.{PairEnds, Stretch, losses_along, stations_of}
use Rattle.newton_rounds.specs.Closure.{ends_at}

-- how many columns the ends of a procedure have
pub record AreEnds (m : PairEnds) : Type 0 where
  pub globals : m.ends.globals ≤ 16
  pub globals_enter : m.ends.globals ≤ m.ends.entry.columns
  pub entry : m.ends.entry.columns < m.ends.full.columns
  pub full : m.ends.full.columns ≤ 63
  pub exit : m.ends.exit.columns ≡ m.ends.globals + value_width m.ends.returns
  pub pair : m.pair.columns ≡ m.ends.entry.columns + m.ends.exit.columns

-- the arguments of a call can be made from the caller's columns
pub record IsCallFrom (caller : PairEnds) (call : GroupCall) : Type 0 where
  pub few : length call.args ≤ 8
  pub below : IsTrue (all_columns_below caller.ends.full.columns call.args)
  pub operators : joint_operators call.args ≤ MOST_OPERATORS

-- a call and its stretches go between two procedures of one program
pub record IsStretchBetween (caller callee : PairEnds) (s : Stretch) : Type 0 where
  pub caller_is : AreEnds caller
  pub callee_is : AreEnds callee
  pub globals : callee.ends.globals ≡ caller.ends.globals
  pub call : IsCallFrom caller s.call
  pub before : FitsIf caller.ends.full.columns s.before
  pub after : FitsIf caller.ends.full.columns s.after

-- what is lost before the pair's rows are added
abbrev pub losses_on_the_way : PairEnds → PairEnds → Stretch → List Loss
losses_on_the_way caller callee s =
    losses_in_hiding caller.ends.entry.columns (exit_formula caller.ends.full.columns s.before)
    ++ ((arguments_of s.call.args).lost ++ losses_along (stations_of caller callee s))

-- a call with its terms
abbrev pub plain_call : own.GroupCall → GroupCall
plain_call call =
    record {
      caller = call.caller;
      callee = call.callee;
      from = call.from;
      to = call.to;
      args = map term_of call.args;
      into = call.into;
    }

-- a call with its terms, and what holds at both sides of it
abbrev pub stretch_of : own.GroupCall → Sides → Stretch
stretch_of call sides = record {
  call = plain_call call;
  before = sides.before;
  after = sides.after;
}

-- ---- calls of a group, and what stands at both sides of them

-- a call from a member to a member
pub record IsCallIn (members : List PairEnds) (call : GroupCall) : Type 0 where
  pub caller : call.caller < length members
  pub callee : call.callee < length members
  pub enters : (ends_at members call.callee).ends.entry.columns
      ≡ (ends_at members call.caller).ends.globals + length call.args
  pub is : IsCallFrom (ends_at members call.caller) call

-- between states of so many columns
pub record FitSides (columns : ℕ) (sides : Sides) : Type 0 where
  pub before : FitsIf columns sides.before
  pub after : FitsIf columns sides.after

-- so many stand behind others
pub record AddSides (columns count : ℕ) (made all : List Sides) : Type 0 where
  pub more : List Sides
  pub is : all ≡ made ++ more
  pub many : length more ≡ count
  pub fit : AllByRecursion (FitSides columns) more

-- both sides of each call, between the states of its caller
abbrev pub FitCalls : List PairEnds → List GroupCall → List Sides → Type 0
FitCalls members [] [] = Unit {0}
FitCalls members [] (one ∷ sides) = ⊥
FitCalls members (call ∷ calls) [] = ⊥
FitCalls members (call ∷ calls) (one ∷ sides) =
    FitSides (ends_at members call.caller).ends.full.columns one × FitCalls members calls sides

-- ---- what refutes a row

-- the row is over the entry columns and the posts of the case, whose auxiliaries are few enough to
-- be numbered
pub record IsOverPairs (from : ℕ) (case : Case) (row : Row) : Type 0 where
  pub row_is : IsTrue (every_column (is_below (from + length case.post) 0) row.poly)
  pub case_is : IsTrue (fits from (length case.post) case)
  pub few : case.aux + length case.post < 2 ^ 32

-- the row is over the pairs of each case of the formula
abbrev pub IsRefutable : Transition → Row → Type 0
IsRefutable f row = All (λ case. IsOverPairs f.from case row) f.cases

-- the case that is left
abbrev pub case_left_of : Solved → Option Case
case_left_of False = None
case_left_of (Kept case) = Some case

-- ---- the nodes of a procedure's graph

-- the node of its exit, and the nodes at which calls end
pub record HasNodes (p : Proc) (exit : ℕ) (calls : List own.GroupCall) : Type 0 where
  pub exit_is : exit ≡ exit_of (code_of p.body)
  pub ends : All (λ call. call.to < (own_graph p).nodes) calls

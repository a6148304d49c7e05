-- Procedures that nothing in a flow tells apart: their names, the numbers of their assertions and
-- the initial values of globals may differ, and so may the numbers of the procedures that they
-- call, as long as the same is known of these.
use Rattle.std.specs.Prelude.{◌≡◌, ℕ, Bool, List, Option, length, map, slice_get}
use Rattle.syntax_tree.specs.declared.program.Proc.{Proc}
use Rattle.syntax_tree.specs.declared.program.Program.{Program}
use Rattle.syntax_tree.specs.Code.{Statement, Set, Any, Call, Guard, Check, If, Loop, Break, Continue, Return, Code, End, Then, code_of}
use Rattle.syntax_tree.specs.Term.{Term}
use Rattle.syntax_tree.specs.WellFormed.{has_name}
use Rattle.transition_formula.specs.Transition.{Transition}
use Rattle.proc_summary.specs.Subject.{subject_of}
use Rattle.proc_summary.specs.Summary.{ends_of}

mutual
  -- Statements that are the same but for the numbers of assertions, and for the procedures that are
  -- called, which are alike.
  pub data AreAlikeStatements (same : ℕ → ℕ → Type 0) : Statement → Statement → Type 0 where
    alike_sets : (col : ℕ) (value : Term) → AreAlikeStatements same (Set col value) (Set col value)
    alike_anys : (col : ℕ) → AreAlikeStatements same (Any col) (Any col)
    alike_calls : (proc other : ℕ) (args : List Term) (into : Option ℕ) → same proc other
        → AreAlikeStatements same (Call proc args into) (Call other args into)
    alike_guards : (cond : Term) → AreAlikeStatements same (Guard cond) (Guard cond)
    alike_checks : (number other : ℕ) (cond : Term)
        → AreAlikeStatements same (Check number cond) (Check other cond)
    alike_ifs : (cond : Term) (on_true on_false true_code false_code : Code)
        → AreAlike same on_true true_code
        → AreAlike same on_false false_code
        → AreAlikeStatements same (If cond on_true on_false) (If cond true_code false_code)
    alike_loops : (pre other_pre : Code) (cond : Term) (body step other_body other_step : Code)
        (first : Bool)
        → AreAlike same pre other_pre → AreAlike same body other_body
        → AreAlike same step other_step
        → AreAlikeStatements same (Loop pre cond body step first)
        (Loop other_pre cond other_body other_step first)
    alike_breaks : AreAlikeStatements same Break Break
    alike_continues : AreAlikeStatements same Continue Continue
    alike_returns : AreAlikeStatements same Return Return

  -- lists of statements that are alike, one by one
  pub data AreAlike (same : ℕ → ℕ → Type 0) : Code → Code → Type 0 where
    alike_ends : AreAlike same End End
    alike_more : (statement other : Statement) (rest others : Code)
        → AreAlikeStatements same statement other
        → AreAlike same rest others → AreAlike same (Then statement rest) (Then other others)

-- two procedures of programs with as many globals and one rule: as many parameters, a value or
-- none, names at the same columns, and bodies that are alike
pub record AreAlikeProcs (same : ℕ → ℕ → Type 0) (program other : Program)
    (p q : Proc) : Type 0 where
  pub globals : length program.globals ≡ length other.globals
  pub rule : program.rule ≡ other.rule
  pub params : p.params ≡ q.params
  pub returns : p.returns ≡ q.returns
  pub named : map has_name p.columns ≡ map has_name q.columns
  pub body : AreAlike same (code_of p.body) (code_of q.body)

-- the same formula is known of both procedures, or none
abbrev pub AreKnownAlike : List (Option Transition) → List (Option Transition) → ℕ → ℕ → Type 0
AreKnownAlike known others proc other = slice_get known proc ≡ slice_get others other

-- what the flow is made from is then the same, and so are the ends of the summary
abbrev pub AlikeProcsAreOne : Type 0
AlikeProcsAreOne =
    (program other : Program) (p q : Proc) (known others : List (Option Transition)) →
    AreAlikeProcs (AreKnownAlike known others) program other p q →
    (subject_of program p known ≡ subject_of other q others) × (ends_of program p ≡ ends_of other q)

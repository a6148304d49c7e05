-- The plain form of a statement, case by case.
use Rattle.std.proofs.Common.{◌≡◌, ℕ, Bool, Option, List, [], ◌∷◌, refl, sym, ap, ◌∙◌}
use Rattle.std.specs.Prelude.{map}
use Rattle.syntax_tree.specs.declared.core_expr.Core.{Core}
use Rattle.syntax_tree.specs.declared.stmt.Stmt.{Stmt, fold-roll-Stmt}
use Rattle.syntax_tree.specs.declared.stmt.Stmt.TheOpen.{Stmt-F}
use Rattle.syntax_tree.specs.declared.stmt.Stmt.TheVariants as made
use Rattle.syntax_tree.specs.Term.{term_of}
use Rattle.syntax_tree.specs.Code.{Statement, Set, Any, Call, Guard, Check, If, Loop, Break, Continue, Return, Then, code_from, code_of, statement_layer, statement_of}

code_from-map : (stmts : List Stmt) → code_from (map statement_of stmts) ≡ code_of stmts
code_from-map [] = refl
code_from-map (s ∷ rest) = ap (Then (statement_of s)) (code_from-map rest)

pub statement_of-Set : (col : ℕ) (value : Core) → statement_of (made.Set col value) ≡ Set col (term_of value)
statement_of-Set col value = ap statement_of (sym (made.rolls-Set col value)) ∙ fold-roll-Stmt Statement statement_layer (Stmt-F.Set col value)

pub statement_of-Any : (col : ℕ) → statement_of (made.Any col) ≡ Any col
statement_of-Any col = ap statement_of (sym (made.rolls-Any col)) ∙ fold-roll-Stmt Statement statement_layer (Stmt-F.Any col)

pub statement_of-Call : (proc : ℕ) (args : List Core) (into : Option ℕ) → statement_of (made.Call proc args into) ≡ Call proc (map term_of args) into
statement_of-Call proc args into = ap statement_of (sym (made.rolls-Call proc args into)) ∙ fold-roll-Stmt Statement statement_layer (Stmt-F.Call proc args into)

pub statement_of-Guard : (cond : Core) → statement_of (made.Guard cond) ≡ Guard (term_of cond)
statement_of-Guard cond = ap statement_of (sym (made.rolls-Guard cond)) ∙ fold-roll-Stmt Statement statement_layer (Stmt-F.Guard cond)

pub statement_of-Check : (number : ℕ) (cond : Core) → statement_of (made.Check number cond) ≡ Check number (term_of cond)
statement_of-Check number cond = ap statement_of (sym (made.rolls-Check number cond)) ∙ fold-roll-Stmt Statement statement_layer (Stmt-F.Check number cond)

pub statement_of-If : (cond : Core) (on_true on_false : List Stmt) → statement_of (made.If cond on_true on_false) ≡ If (term_of cond) (code_of on_true) (code_of on_false)
statement_of-If cond on_true on_false =
    ap statement_of (sym (made.rolls-If cond on_true on_false)) ∙ fold-roll-Stmt Statement statement_layer (Stmt-F.If cond on_true on_false)
    ∙ ap (λ c. If (term_of cond) c (code_from (map statement_of on_false))) (code_from-map on_true)
    ∙ ap (If (term_of cond) (code_of on_true)) (code_from-map on_false)

pub statement_of-Loop : (pre : List Stmt) (cond : Core) (body step : List Stmt) (first : Bool)
    → statement_of (made.Loop pre cond body step first) ≡ Loop (code_of pre) (term_of cond) (code_of body) (code_of step) first
statement_of-Loop pre cond body step first =
    ap statement_of (sym (made.rolls-Loop pre cond body step first)) ∙ fold-roll-Stmt Statement statement_layer (Stmt-F.Loop pre cond body step first)
    ∙ ap (λ c. Loop c (term_of cond) (code_from (map statement_of body)) (code_from (map statement_of step)) first) (code_from-map pre)
    ∙ ap (λ c. Loop (code_of pre) (term_of cond) c (code_from (map statement_of step)) first) (code_from-map body)
    ∙ ap (λ c. Loop (code_of pre) (term_of cond) (code_of body) c first) (code_from-map step)

pub statement_of-Break : statement_of made.Break ≡ Break
statement_of-Break = ap statement_of (sym made.rolls-Break) ∙ fold-roll-Stmt Statement statement_layer Stmt-F.Break

pub statement_of-Continue : statement_of made.Continue ≡ Continue
statement_of-Continue = ap statement_of (sym made.rolls-Continue) ∙ fold-roll-Stmt Statement statement_layer Stmt-F.Continue

pub statement_of-Return : statement_of made.Return ≡ Return
statement_of-Return = ap statement_of (sym made.rolls-Return) ∙ fold-roll-Stmt Statement statement_layer Stmt-F.Return

pub ruleset statements = (statement_of-Set, statement_of-Any, statement_of-Call, statement_of-Guard, statement_of-Check, statement_of-If, statement_of-Loop, statement_of-Break, statement_of-Continue, statement_of-Return)

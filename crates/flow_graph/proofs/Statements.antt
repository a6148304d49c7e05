-- The next statement of a list, and those behind it.
use Rattle.std.proofs.Common.{◌≡◌, ◌<◌, ℕ, suc, ◌+◌, List, drop, get_or, length, sym, ap, add-one}
use Rattle.std.proofs.Math.Seq.{drop-cons}
use Rattle.syntax_tree.specs.declared.stmt.Stmt.{Stmt}
use Rattle.syntax_tree.specs.Code.{Then, code_of, statement_of}

pub code_of-drop : (stmts : List Stmt) (k : ℕ) (s : Stmt) → s ≡ get_or stmts k s → k < length stmts
    → code_of (drop k stmts) ≡ Then (statement_of s) (code_of (drop (k + 1) stmts))
code_of-drop stmts k s e h = rw (add-one, drop-cons stmts k s h) (ap (λ x. Then (statement_of x) (code_of (drop (suc k) stmts))) (sym e))

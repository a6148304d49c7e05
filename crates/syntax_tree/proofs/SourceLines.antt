-- The plain form of a line of a text, case by case.
use Rattle.std.proofs.Common.{◌≡◌, ℕ, Bool, Option, List, [], ◌∷◌, refl, sym, ap, ◌∙◌}
use Rattle.std.specs.Prelude.{map}
use Rattle.std.specs.Option.{option_map}
use Rattle.syntax_tree.specs.declared.expr.Expr.{Expr}
use Rattle.syntax_tree.specs.declared.line.Line.{Line, fold-roll-Line}
use Rattle.syntax_tree.specs.declared.line.Line.TheOpen.{Line-F}
use Rattle.syntax_tree.specs.declared.line.Line.TheVariants as made
use Rattle.syntax_tree.specs.SourceExpr.{source_expr_of}
use Rattle.syntax_tree.specs.SourceLine.{SourceLine, Block, Local, Assign, Act, If, Loop, Break, Continue, Return, Then, lines_from, source_line_layer, source_line_of, source_lines_of}

lines_from-map : (lines : List Line) → lines_from (map source_line_of lines) ≡ source_lines_of lines
lines_from-map [] = refl
lines_from-map (line ∷ rest) = ap (Then (source_line_of line)) (lines_from-map rest)

pub source_line_of-Block : (lines : List Line) → source_line_of (made.Block lines) ≡ Block (source_lines_of lines)
source_line_of-Block lines =
    ap source_line_of (sym (made.rolls-Block lines)) ∙ fold-roll-Line SourceLine source_line_layer (Line-F.Block lines)
    ∙ ap Block (lines_from-map lines)

pub source_line_of-Local : (name : List ℕ) (at : ℕ) (init : Option Expr) → source_line_of (made.Local name at init) ≡ Local name at (option_map source_expr_of init)
source_line_of-Local name at init = ap source_line_of (sym (made.rolls-Local name at init)) ∙ fold-roll-Line SourceLine source_line_layer (Line-F.Local name at init)

pub source_line_of-Assign : (name : List ℕ) (at : ℕ) (value : Expr) → source_line_of (made.Assign name at value) ≡ Assign name at (source_expr_of value)
source_line_of-Assign name at value = ap source_line_of (sym (made.rolls-Assign name at value)) ∙ fold-roll-Line SourceLine source_line_layer (Line-F.Assign name at value)

pub source_line_of-Act : (call : Expr) → source_line_of (made.Act call) ≡ Act (source_expr_of call)
source_line_of-Act call = ap source_line_of (sym (made.rolls-Act call)) ∙ fold-roll-Line SourceLine source_line_layer (Line-F.Act call)

pub source_line_of-If : (cond : Expr) (on_true on_false : List Line) → source_line_of (made.If cond on_true on_false) ≡ If (source_expr_of cond) (source_lines_of on_true) (source_lines_of on_false)
source_line_of-If cond on_true on_false =
    ap source_line_of (sym (made.rolls-If cond on_true on_false)) ∙ fold-roll-Line SourceLine source_line_layer (Line-F.If cond on_true on_false)
    ∙ ap (λ lines. If (source_expr_of cond) lines (lines_from (map source_line_of on_false))) (lines_from-map on_true)
    ∙ ap (If (source_expr_of cond) (source_lines_of on_true)) (lines_from-map on_false)

pub source_line_of-Loop : (init : List Line) (cond : Expr) (step body : List Line) (first : Bool)
    → source_line_of (made.Loop init cond step body first) ≡ Loop (source_lines_of init) (source_expr_of cond) (source_lines_of step) (source_lines_of body) first
source_line_of-Loop init cond step body first =
    ap source_line_of (sym (made.rolls-Loop init cond step body first)) ∙ fold-roll-Line SourceLine source_line_layer (Line-F.Loop init cond step body first)
    ∙ ap (λ lines. Loop lines (source_expr_of cond) (lines_from (map source_line_of step)) (lines_from (map source_line_of body)) first) (lines_from-map init)
    ∙ ap (λ lines. Loop (source_lines_of init) (source_expr_of cond) lines (lines_from (map source_line_of body)) first) (lines_from-map step)
    ∙ ap (λ lines. Loop (source_lines_of init) (source_expr_of cond) (source_lines_of step) lines first) (lines_from-map body)

pub source_line_of-Break : (at : ℕ) → source_line_of (made.Break at) ≡ Break at
source_line_of-Break at = ap source_line_of (sym (made.rolls-Break at)) ∙ fold-roll-Line SourceLine source_line_layer (Line-F.Break at)

pub source_line_of-Continue : (at : ℕ) → source_line_of (made.Continue at) ≡ Continue at
source_line_of-Continue at = ap source_line_of (sym (made.rolls-Continue at)) ∙ fold-roll-Line SourceLine source_line_layer (Line-F.Continue at)

pub source_line_of-Return : (at : ℕ) (value : Option Expr) → source_line_of (made.Return at value) ≡ Return at (option_map source_expr_of value)
source_line_of-Return at value = ap source_line_of (sym (made.rolls-Return at value)) ∙ fold-roll-Line SourceLine source_line_layer (Line-F.Return at value)

pub ruleset source_lines = (source_line_of-Block, source_line_of-Local, source_line_of-Assign, source_line_of-Act, source_line_of-If, source_line_of-Loop, source_line_of-Break, source_line_of-Continue, source_line_of-Return)

-- The size of a line: each line that stands in it is smaller.
use Rattle.std.proofs.Common.{◌≡◌, ℕ, zero, suc, ◌+◌, ◌<◌, ◌≤◌, List, [], ◌∷◌, ap, arith, get_or, length}
use Rattle.syntax_tree.specs.declared.line.Line.{Line}
use Rattle.syntax_tree.specs.SourceLine.{SourceLine, Block, Local, Assign, Act, If, Loop, Break, Continue, Return, SourceLines, End, Then, source_line_of, source_lines_of}

abbrev mutual
  pub line_size : SourceLine → ℕ
  line_size (Block lines) = 1 + lines_size lines
  line_size (Local name at init) = 1
  line_size (Assign name at value) = 1
  line_size (Act call) = 1
  line_size (If cond on_true on_false) = 1 + lines_size on_true + lines_size on_false
  line_size (Loop init cond step body first) = 1 + lines_size init + lines_size step + lines_size body
  line_size (Break at) = 1
  line_size (Continue at) = 1
  line_size (Return at value) = 1

  pub lines_size : SourceLines → ℕ
  lines_size End = 0
  lines_size (Then line rest) = line_size line + lines_size rest

pub item_size : (lines : List Line) (i : ℕ) (line : Line) → line ≡ get_or lines i line → i < length lines
    → line_size (source_line_of line) ≤ lines_size (source_lines_of lines)
item_size [] i line is h = absurd (omega arith)
item_size (x ∷ xs) zero line is h =
    let same : line_size (source_line_of line) ≡ line_size (source_line_of x) = ap (λ l. line_size (source_line_of l)) is in
    omega arith
item_size (x ∷ xs) (suc i) line is h =
    let less : i < length xs = omega arith in
    let rest : line_size (source_line_of line) ≤ lines_size (source_lines_of xs) = item_size xs i line is less in
    omega arith

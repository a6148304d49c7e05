-- Lists of lines in their plain forms, and the functions of `Statements` that do not unfold.
use Rattle.std.proofs.Common.{◌≡◌, ℕ, zero, suc, List, [], ◌∷◌, refl, ap}
use Rattle.std.specs.Prelude.{map}
use Rattle.syntax_tree.specs.declared.line.Line.{Line}
use Rattle.syntax_tree.specs.SourceLine.{Then, lines_from, source_line_of, source_lines_of}
use Rattle.c_parser.specs.Spots.{Spot}
use Rattle.c_parser.specs.Statements.{line_in, line_read}

pub lines_from-map : (lines : List Line) → lines_from (map source_line_of lines) ≡ source_lines_of lines
lines_from-map [] = refl
lines_from-map (line ∷ rest) = ap (Then (source_line_of line)) (lines_from-map rest)

pub line_at : (most levels : ℕ) (spots : List Spot) → line_read most levels spots ≡ line_in most (line_read most) levels spots
unfolding line_read
line_at most zero spots = refl
line_at most (suc levels) spots = refl

pub ruleset listed = (lines_from-map)

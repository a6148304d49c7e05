-- A `for` by its parts.
use Rattle.std.specs.Prelude.{ℕ, false, Ok, List, [], ◌∷◌}
use Rattle.items.specs.Gives.{◌>>=◌}
use Rattle.c_lexer.specs.declared.mark.Mark.TheVariants as marks
use Rattle.syntax_tree.specs.SourceLine as line
use Rattle.syntax_tree.specs.SourceLine.{lines_from}
use Rattle.c_parser.specs.Descent.{deeper, past}
use Rattle.c_parser.specs.Spots.{Spot}
use Rattle.c_parser.specs.Statements.{LineReader, LinesRead, for_condition, for_step, init}

-- the beginning of a `for`, up to behind the first semicolon in its brackets
abbrev pub for_begin : ℕ → ℕ → List Spot → LinesRead
for_begin most level spots = past marks.OpenRound spots >>= λ inside. init most level inside

-- what stands behind the condition of a `for`, up to behind its closing bracket: the step
abbrev pub for_end : ℕ → ℕ → List Spot → LinesRead
for_end most level spots =
    past marks.Semi spots >>= λ then_step. for_step most level then_step >>= λ step.
    past marks.CloseRound step.1 >>= λ then_body. Ok (step.0, then_body)

-- a `for` by these parts
abbrev pub for_parts : ℕ → (ℕ → LineReader) → ℕ → ℕ → List Spot → LinesRead
for_parts most reader levels at rest =
    deeper levels at >>= λ level. for_begin most level rest >>= λ first. for_condition most level
    first.1 >>= λ cond.
    for_end most level cond.1 >>= λ step. reader level step.1 >>= λ body.
    Ok (
      line.Loop (lines_from first.0) cond.0 (lines_from step.0) (lines_from body.0) false
          ∷ [],
      body.1,
    )

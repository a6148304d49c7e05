use Rattle.std.proofs.Common.{◌≡◌, List, Result, Ok, ap, refl, sym, subst, ◌∙◌, arith, map}
use Rattle.std.proofs.lemmas.List.{length-map, map-append}
use Rattle.std.proofs.lemmas.Result.{err_from_is_err_and}
use Rattle.items.specs.Gives.{FailsBy, ◌>>=◌}
use Rattle.syntax_tree.specs.SourceLine.{SourceLine, source_line_of}
use Rattle.syntax_tree.proofs.SourceLines.{source_line_of-Block, source_line_of-If}
use Rattle.c_parser.specs.declared.error.ParseError.{ParseError}
use Rattle.c_parser.specs.Descent.{exact_error}
use Rattle.c_parser.specs.Spots.{Spot, spots_of}
use Rattle.c_parser.specs.Statements.{LinesRead, line_read}
use Rattle.c_parser.specs.Limits.{most_binary_operators}
use Rattle.c_parser.proofs.LineLoops.{entries-done, entries-fail, entries-more, line-block, line-empty, line-other}
use Rattle.c_parser.proofs.Lines.{lines_from-map}
use Rattle.c_parser.proofs.Parts.{for_by-parts}
use Rattle.c_parser.proofs.line.+line.Goals as goal

pub entries-returns-in_err-more-clause-exact : goal.entries-returns-in_err-more-clause-exact
entries-returns-in_err-more-clause-exact t c =
    let p = err_from_is_err_and c.from_residual.result c.from_residual.ensures.1 in
    rw (p.1, p.2) (subst (FailsBy (exact_error c.in_err-more.field-0.0)) c.entries.invariant.stated
    (entries-fail most_binary_operators (line_read most_binary_operators c.args.level) c.args.level (map source_line_of c.entries.lines, spots_of c.entries.after.now) _
    (sym c.begins_with.ensures.exact ∙ c.entries-test.true) c.in_err-more.ensures.exact))

pub entries-entries-preserved : goal.entries-entries-preserved
entries-entries-preserved t c = record {
  stated =
      rw (c.in_ok-append.ensures.ok, map-append)
      (sym (entries-more most_binary_operators (line_read most_binary_operators c.args.level) c.args.level (map source_line_of c.entries.lines, spots_of c.entries.after.now) _
      (sym c.begins_with.ensures.exact ∙ c.entries-test.true) c.in_ok-more.ensures.exact
      (simp length-map (omega (arith, c.in_ok-more.ensures.shorter))))
      ∙ c.entries.invariant.stated);
  within = omega (arith, c.in_ok-more.ensures.shorter);
}

pub entries-returns-clause-exact : goal.entries-returns-clause-exact
entries-returns-clause-exact t c =
    sym c.entries.invariant.stated
    ∙ entries-done most_binary_operators (line_read most_binary_operators c.args.level) c.args.level (map source_line_of c.entries.lines, spots_of c.entries.after.now)
    (sym c.begins_with.ensures.exact ∙ c.entries-test.false)

pub line-returns-then-begins_with-clause-exact : goal.line-returns-then-begins_with-clause-exact
line-returns-then-begins_with-clause-exact t c =
    rw (line-block most_binary_operators c.args.levels (spots_of c.args.tokens.now) (sym c.begins_with.ensures.exact ∙ c.if-begins_with.true), ← c.place_at.ensures, ← c.tail.ensures.exact)
    c.block_line.ensures.exact

pub line-returns-then-begins_with-2-clause-exact : goal.line-returns-then-begins_with-2-clause-exact
line-returns-then-begins_with-2-clause-exact t c =
    rw (
      line-empty most_binary_operators c.args.levels (spots_of c.args.tokens.now) (sym c.begins_with.ensures.exact ∙ c.if-begins_with.false)
          (sym c.begins_with-2.ensures.exact ∙ c.if-begins_with-2.true),
      ← c.tail-then-begins_with-2.ensures.exact,
      c.new.ensures,
    )
    refl

pub line-returns-in-Some-clause-exact : goal.line-returns-in-Some-clause-exact
line-returns-in-Some-clause-exact t c =
    rw (line-other most_binary_operators c.args.levels (spots_of c.args.tokens.now) _ (sym c.begins_with.ensures.exact ∙ c.if-begins_with.false)
    (sym c.begins_with-2.ensures.exact ∙ c.if-begins_with-2.false) (sym c.keyword_at.ensures.exact ∙ c.in-Some.is))
    c.keyword_line.ensures.exact

pub keyword_line-returns-in-For-clause-exact : goal.keyword_line-returns-in-For-clause-exact
keyword_line-returns-in-For-clause-exact t c =
    rw (c.in-For.is, for_by-parts, ← c.place_at-at.ensures, ← c.tail-rest.ensures.exact) c.for_line.ensures.exact

pub line-returns-in-None-clause-exact : goal.line-returns-in-None-clause-exact
line-returns-in-None-clause-exact t c =
    rw (line-other most_binary_operators c.args.levels (spots_of c.args.tokens.now) _ (sym c.begins_with.ensures.exact ∙ c.if-begins_with.false)
    (sym c.begins_with-2.ensures.exact ∙ c.if-begins_with-2.false) (sym c.keyword_at.ensures.exact ∙ c.in-None.is))
    c.simple_line.ensures.exact

-- the tokens that are left behind lines
abbrev with_left : (spots : List Spot) (lines : List SourceLine) → LinesRead
with_left spots lines = Ok (lines, spots)

lines-left : (spots : List Spot) (a b : Result (List SourceLine) ParseError) → a ≡ b → a >>= with_left spots ≡ b >>= with_left spots
lines-left spots a b e = ap (λ (r : Result (List SourceLine) ParseError). r >>= with_left spots) e

pub for_line-returns-clause-exact : goal.for_line-returns-clause-exact
for_line-returns-clause-exact t c =
    simp (c.in_ok-level.ensures.exact, c.in_ok-init.ensures.exact, c.in_ok-cond.ensures.exact, c.in_ok-step.ensures.exact, c.in_ok-body.ensures.exact)
    (lines-left _ _ _ c.in_ok-loop_line.ensures)

pub if_line-returns-clause-exact : goal.if_line-returns-clause-exact
if_line-returns-clause-exact t c =
    simp (c.in_ok-level.ensures.exact, c.in_ok-cond.ensures.exact, c.in_ok-yes.ensures.exact, c.in_ok-no.ensures.exact, lines_from-map)
    (lines-left _ _ _ (simp source_line_of-If at c.in_ok-single.ensures))

pub block_line-returns-clause-exact : goal.block_line-returns-clause-exact
block_line-returns-clause-exact t c =
    simp (c.in_ok-level.ensures.exact, c.in_ok-lines.ensures.exact, lines_from-map)
    (lines-left _ _ _ (simp source_line_of-Block at c.in_ok-single.ensures))

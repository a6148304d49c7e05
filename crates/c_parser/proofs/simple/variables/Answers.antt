use Rattle.std.proofs.Common.{sym, subst, ◌∙◌, arith, map}
use Rattle.std.proofs.lemmas.List.{length-map, map_push}
use Rattle.std.proofs.lemmas.Result.{err_from_is_err_and}
use Rattle.items.specs.Gives.{FailsBy}
use Rattle.syntax_tree.specs.SourceLine.{source_line_of}
use Rattle.c_parser.specs.Descent.{exact_error}
use Rattle.c_parser.specs.Spots.{spots_of}
use Rattle.c_parser.specs.Limits.{most_binary_operators}
use Rattle.c_parser.proofs.LineLoops.{variables-done, variables-fail, variables-more}
use Rattle.c_parser.proofs.simple.variables.Goals as goal

pub returns-in_err-next-clause-exact : goal.returns-in_err-next-clause-exact
returns-in_err-next-clause-exact c =
    let p = err_from_is_err_and c.from_residual.result c.from_residual.ensures.1 in
    rw (p.1, p.2) (subst (FailsBy (exact_error c.in_err-next.field-0.0)) c.more.invariant.stated
    (variables-fail most_binary_operators c.args.levels (map source_line_of c.more.lines, spots_of c.more.after.now) _
    (sym c.begins_with.ensures.exact ∙ c.more-test.true) (rw (← c.tail.ensures.exact) c.in_err-next.ensures.exact)))

pub more-preserved : goal.more-preserved
more-preserved c = record {
  stated =
      rw (c.in_ok-push.ensures.ok, map_push)
      (sym (variables-more most_binary_operators c.args.levels (map source_line_of c.more.lines, spots_of c.more.after.now) _
      (sym c.begins_with.ensures.exact ∙ c.more-test.true) (rw (← c.tail.ensures.exact) c.in_ok-next.ensures.exact)
      (simp length-map (omega (arith, c.in_ok-next.ensures.shorter, c.tail.ensures.within))))
      ∙ c.more.invariant.stated);
  within = omega (arith, c.in_ok-next.ensures.shorter, c.tail.ensures.within);
}

pub returns-clause-exact : goal.returns-clause-exact
returns-clause-exact c =
    sym c.more.invariant.stated
    ∙ variables-done most_binary_operators c.args.levels (map source_line_of c.more.lines, spots_of c.more.after.now) (sym c.begins_with.ensures.exact ∙ c.more-test.false)

use Rattle.std.proofs.Common.{sym, subst, ◌∙◌, arith, map}
use Rattle.std.proofs.lemmas.List.{length-map, map-append}
use Rattle.std.proofs.lemmas.Result.{err_from_is_err_and}
use Rattle.items.specs.Gives.{FailsBy}
use Rattle.c_parser.specs.Descent.{exact_error}
use Rattle.c_parser.specs.SourceItem.{source_item_of}
use Rattle.c_parser.specs.Spots.{spots_of}
use Rattle.c_parser.specs.Limits.{most_binary_operators}
use Rattle.c_parser.proofs.TextLoops.{text-done, text-fails, text-more}
use Rattle.c_parser.proofs.item.text.Goals as goal

pub returns-in_err-more : goal.returns-in_err-more
returns-in_err-more c =
    let p = err_from_is_err_and c.from_residual.result c.from_residual.ensures.1 in
    rw (p.1, p.2) (subst (FailsBy (exact_error c.in_err-more.field-0.0)) c.text.invariant
    (text-fails most_binary_operators c.args.levels (map source_item_of c.text.items, spots_of c.text.after.now) _
    (sym c.at_end.ensures ∙ c.text-test.true) c.in_err-more.ensures.exact))

pub text-preserved : goal.text-preserved
text-preserved c =
    rw (c.in_ok-append.ensures.ok, map-append)
    (sym (text-more most_binary_operators c.args.levels (map source_item_of c.text.items, spots_of c.text.after.now) _
    (sym c.at_end.ensures ∙ c.text-test.true) c.in_ok-more.ensures.exact (simp length-map (omega (arith, c.in_ok-more.ensures.shorter))))
    ∙ c.text.invariant)

pub returns : goal.returns
returns c =
    sym c.text.invariant
    ∙ text-done most_binary_operators c.args.levels (map source_item_of c.text.items, spots_of c.text.after.now) (sym c.at_end.ensures ∙ c.text-test.false)

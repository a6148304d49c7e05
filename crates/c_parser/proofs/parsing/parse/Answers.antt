use Rattle.std.proofs.Common.{ap, sym, ◌∙◌, List}
use Rattle.std.proofs.lemmas.Result.{err_from_is_err_and}
use Rattle.c_parser.specs.SourceItem.{SourceItem}
use Rattle.c_parser.specs.Spots.{Spot}
use Rattle.c_parser.proofs.Derivations.{ok_one}
use Rattle.c_parser.proofs.Readings.{no_other_error, read_is_reading, within_is_read}
use Rattle.c_parser.proofs.Refusals.{error_is_refused, error_stated, reading_is_not_refused, refusal_is_one}
use Rattle.c_parser.proofs.parsing.parse.Goals as goal

pub returns-in_err-items-clause-complete : goal.returns-in_err-items-clause-complete
returns-in_err-items-clause-complete c items reads =
    let p = err_from_is_err_and c.from_residual.result c.from_residual.ensures.1 in
    let is = within_is_read c.args.tokens.now items reads in
    rw (p.1, p.2) (no_other_error c.in_err-items.field-0.0 _ _ is.1 c.in_err-items.ensures, tt)

pub returns-in_err-items-clause-refused : goal.returns-in_err-items-clause-refused
returns-in_err-items-clause-refused c =
    let p = err_from_is_err_and c.from_residual.result c.from_residual.ensures.1 in
    let e = c.in_err-items.field-0.0 in
    rw (p.1, p.2) (λ other. error_is_refused c.args.tokens.now e c.requires (error_stated e _ c.in_err-items.ensures other))

pub returns-in_err-items-clause-refusal : goal.returns-in_err-items-clause-refusal
returns-in_err-items-clause-refusal c e refusal =
    let p = err_from_is_err_and c.from_residual.result c.from_residual.ensures.1 in
    let d = c.in_err-items.field-0.0 in
    rw (p.1, p.2)
    ((λ other. refusal_is_one c.args.tokens.now d e (error_is_refused c.args.tokens.now d c.requires (error_stated d _ c.in_err-items.ensures other)) refusal), tt)

pub returns-clause-found : goal.returns-clause-found
returns-clause-found c = read_is_reading c.args.tokens.now _ _ c.requires c.in_ok-items.ensures

pub returns-clause-complete : goal.returns-clause-complete
returns-clause-complete c items reads =
    let is = within_is_read c.args.tokens.now items reads in
    (tt, ap (λ (r : List SourceItem × List Spot). r.0) (ok_one _ _ (sym c.in_ok-items.ensures ∙ is.1)))

pub returns-clause-refusal : goal.returns-clause-refusal
returns-clause-refusal c e refusal =
    (tt, reading_is_not_refused c.args.tokens.now _ e (read_is_reading c.args.tokens.now _ _ c.requires c.in_ok-items.ensures) refusal)

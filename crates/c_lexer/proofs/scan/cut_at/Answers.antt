use Rattle.std.proofs.Common.{subst}
use Rattle.std.proofs.lemmas.Result.{err_from_is_err_and}
use Rattle.c_lexer.specs.Found.{Tells}
use Rattle.c_lexer.proofs.Cuts.{name_stands}
use Rattle.c_lexer.proofs.scan.cut_at.Goals as goal

pub returns-in_err-kind-in-Ok-Word-clause-why : goal.returns-in_err-kind-in-Ok-Word-clause-why
returns-in_err-kind-in-Ok-Word-clause-why c =
    let p = err_from_is_err_and c.from_residual.result c.from_residual.ensures.1 in
    rw (p.1, p.2) (name_stands c.args.fresh c.args.bytes.now c.in-Ok-Word.len
    (subst (Tells c.args.fresh c.args.bytes.now) c.in-Ok-Word.field-0-is c.in-Ok-Word.ensures.found) c.in_err-kind-in-Ok-Word.ensures.name)

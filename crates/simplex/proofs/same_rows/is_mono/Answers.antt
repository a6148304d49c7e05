use Rattle.std.proofs.Common.{sym, ◌∙◌}
use Rattle.farkas_check.proofs.Spreads.{same_mono}
use Rattle.simplex.proofs.same_rows.is_mono.Goals as goal

pub returns-in_default : goal.returns-in_default
returns-in_default c = λ is. same_mono c.args.own.now c.args.mono.now (sym c.eq-in_default.ensures ∙ is)

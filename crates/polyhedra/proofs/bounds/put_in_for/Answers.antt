use Rattle.std.proofs.Common.{sym, subst}
use Rattle.items.specs.Gives.{Gives}
use Rattle.linear_terms.specs.TermError.{cause}
use Rattle.polyhedra.proofs.PutIn.{put_in_for-substituted}
use Rattle.polyhedra.proofs.bounds.put_in_for.Goals as goal

pub returns : goal.returns
returns c = subst (λ stated. Gives cause (λ p. p) c.subst.result stated) (sym (put_in_for-substituted c.args.polys.now c.args.d.now)) c.subst.ensures.exact

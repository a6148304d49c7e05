use Rattle.std.proofs.Common.{refl}
use Rattle.std.proofs.lemmas.Slice.Eq.{slice_eq-Decides}
use Rattle.linear_terms.proofs.Equal.{row_decides}
use Rattle.finder.proofs.known.are_rows.Goals as goal

pub returns : goal.returns
returns c = (slice_eq-Decides (λ r s. row_decides r s _ refl) c.args.own.now c.args.rows.now c.eq.result c.eq.ensures).0

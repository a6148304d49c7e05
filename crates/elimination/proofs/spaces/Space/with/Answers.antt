use Rattle.std.proofs.Common.{sym, subst}
use Rattle.elimination.specs.declared.spaces.Space.{Space}
use Rattle.elimination.specs.declared.spaces.Space.TheVariants.{Whole}
use Rattle.elimination.specs.Spaces.{Extends}
use Rattle.elimination.proofs.Extensions.{whole_kept}
use Rattle.elimination.proofs.spaces.Space.with.Goals as goal

pub returns-in-Whole : goal.returns-in-Whole
returns-in-Whole c = subst (λ (s : Space). Extends s c.args.v.now Whole) (sym c.in-Whole.is) (whole_kept c.args.v.now)

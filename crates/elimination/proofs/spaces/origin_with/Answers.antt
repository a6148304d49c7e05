use Rattle.std.proofs.Common.{sym, ◌∙◌}
use Rattle.std.proofs.lemmas.Bool.{false≢true}
use Rattle.elimination.proofs.Extensions.{origin_kept, origin_to_line}
use Rattle.elimination.proofs.spaces.origin_with.Goals as goal

pub returns-then-is_zero : goal.returns-then-is_zero
returns-then-is_zero c = origin_kept c.args.v.now (c.is_zero.ensures.0 c.if-is_zero.true)

pub returns : goal.returns
returns c = origin_to_line c.args.v.now (λ zero. absurd (false≢true (sym c.if-is_zero.false ∙ c.is_zero.ensures.1 zero))) c.requires

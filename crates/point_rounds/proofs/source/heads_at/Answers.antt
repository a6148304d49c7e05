use Rattle.std.proofs.Common.{◌∙◌}
use Rattle.point_rounds.proofs.SourceParts.{heads-there}
use Rattle.point_rounds.proofs.source.heads_at.Goals as goal

pub returns : goal.returns
returns c = c.list_at.ensures ∙ heads-there c.args.source c.requires c.args.proc

use Rattle.std.proofs.Common.{ap}
use Rattle.summary_cache.specs.Kept.{Kept}
use Rattle.commands.proofs.SampleTexts.{kept-counted}
use Rattle.commands.proofs.sampling.counts_of.Goals as goal

pub returns-in-Ok : goal.returns-in-Ok
returns-in-Ok c =
    kept-counted _ _ _ c.new-session.result.rule _ _ c.args.text.now c.in-Ok.counts _ (ap (λ (s : Kept). s.rule) c.new-session.ensures)
    (c.in-Ok.ensures.first (ap (λ (s : Kept). s.last) c.new-session.ensures))

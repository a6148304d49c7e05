use Rattle.std.proofs.Common.{⊎_elim}
use Rattle.report.proofs.Values.{values_of-end, values_at-end}
use Rattle.report.proofs.text.ReportText.put_more_values.Goals as goal

pub returns : goal.returns
returns c =
    let of = c.loop-mono.mono-iterator.a.rest.now in
    let at = c.loop-mono.mono-iterator.b.rest.now in
    ⊎_elim (λ s. values_of-end c.args.names.now of at c.loop-mono.invariant s.1.0) (λ s. values_at-end c.args.names.now of at c.loop-mono.invariant s.1.0) c.in-None.ensures.steps

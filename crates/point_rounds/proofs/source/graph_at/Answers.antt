use Rattle.std.proofs.Common.{◌<◌, sym, subst}
use Rattle.std.proofs.lemmas.Option.{slice_get-get_or}
use Rattle.point_rounds.proofs.source.graph_at.Goals as goal

pub returns : goal.returns
returns c =
    let source = c.args.source in
    let lt = subst (λ n. c.args.proc < n) (sym c.requires.source.graphs.each) c.requires.procedure in
    c.requires.source.graphs.are c.args.proc _ (slice_get-get_or source.graphs.now c.args.proc c.index-source-proc.result lt)

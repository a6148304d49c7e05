use Rattle.point_search.proofs.TableLists.{lists-of}
use Rattle.point_search.proofs.tables.lists_of.Goals as goal

pub returns : goal.returns
returns c = lists-of c.args.source.program.now c.args.proc c.proc_at-p.result.now c.heads_at-heads.result.now c.in_ok-entry.entry c.in_ok-others.others c.in_ok-lists.lists c.proc_at-p.ensures.is c.heads_at-heads.ensures
    c.in_ok-entry.ensures c.in_ok-others.ensures c.in_ok-lists.ensures

use Rattle.kept_groups.proofs.GroupCall.{part-declined, part-made}
use Rattle.kept_groups.proofs.over.new_part.Goals as goal

pub returns-in_err-summaries-clause-makes : goal.returns-in_err-summaries-clause-makes
returns-in_err-summaries-clause-makes g c =
    part-declined g.O.Oracle.asking c.args.program.now c.args.known.now c.args.planned.now c.args.oracle.now c.summaries_apart.new.oracle c.new-log.result c.summaries_apart.new.log _ c.from_residual.result
    c.in_err-summaries.ensures.follows c.from_residual.ensures.1

pub returns-clause-makes : goal.returns-clause-makes
returns-clause-makes g c =
    record {
      is = part-made g.O.Oracle.asking c.args.program.now c.args.known.now c.args.planned.now c.args.oracle.now c.summaries_apart.new.oracle c.new-log.result c.summaries_apart.new.log
          c.in_ok-summaries.summaries c.in_ok-summaries.notes c.new-log.ensures c.in_ok-summaries.ensures.follows;
    }

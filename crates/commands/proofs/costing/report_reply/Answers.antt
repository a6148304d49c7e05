use Rattle.std.proofs.Common.{rules}
use Rattle.commands.proofs.Costs.{costs-told}
use Rattle.commands.proofs.costing.report_reply.Goals as goal

pub returns-clause-reply : goal.returns-clause-reply
returns-clause-reply c = costs-told c.costs_reply.result c.args.number c.args.blocks.now c.in_ok-costs.costs _ c.in_ok-costs.ensures (search rules) c.costs_reply.ensures.reply

use Rattle.commands.proofs.Costs.{none-told}
use Rattle.commands.proofs.costing.accepted_reply.Goals as goal

pub global_of-requires : goal.global_of-requires
global_of-requires c = (c.accepted_is_well_formed.ensures c.args.text.now c.args.program.now c.requires.accepted).globals

pub global_reply-requires-clause-global : goal.global_reply-requires-clause-global
global_reply-requires-clause-global c = record { program = c.args.program.now; accepted = c.requires.accepted; global = c.in-Some.ensures }

pub returns-in-None-clause-reply : goal.returns-in-None-clause-reply
returns-in-None-clause-reply c =
    none-told c.no_global_reply.result c.args.text.now c.args.name.now (record { program = c.args.program.now; accepted = c.requires.accepted; none = c.in-None.ensures }) c.no_global_reply.ensures.reply

use Rattle.std.proofs.Common.{rules, subst}
use Rattle.commands.specs.Posts.{HavePosts}
use Rattle.commands.proofs.Costs.{posts-of, text-told}
use Rattle.commands.proofs.costing.global_reply.Goals as goal

pub report_reply-requires : goal.report_reply-requires
report_reply-requires c =
    subst (HavePosts c.args.number) (search rules) (posts-of c.args.text.now c.args.name.now c.args.number c.in-Ok.last.report c.in-Ok.last.answers c.in-Ok.ensures c.requires.global)

pub returns-in-Ok-clause-reply : goal.returns-in-Ok-clause-reply
returns-in-Ok-clause-reply c =
    text-told c.report_reply.result c.args.text.now c.args.name.now c.args.number c.in-Ok.last.report c.in-Ok.last.answers c.in-Ok.ensures c.requires.global (search rules)

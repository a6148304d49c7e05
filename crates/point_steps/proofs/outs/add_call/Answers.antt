use Rattle.std.proofs.Common.{sym, ◌∙◌}
use Rattle.flow_graph.specs.Plain.{plain}
use Rattle.point_steps.proofs.Loops.{call-made, own-arguments, own-way, own-widths}
use Rattle.point_steps.proofs.outs.add_call.Goals as goal

pub entry_out-requires-clause-widths : goal.entry_out-requires-clause-widths
entry_out-requires-clause-widths c = own-widths c.args.source c.requires.source c.columns_of-columns.result c.args.from c.in-Some.way c.columns_of-columns.ensures (sym c.in_ok-way.ensures ∙ c.in-Some.is) c.len-globals.result c.len-globals.ensures

pub entry_out-requires-clause-way : goal.entry_out-requires-clause-way
entry_out-requires-clause-way c = own-way c.args.source c.requires.source c.columns_of-columns.result c.args.from c.in-Some.way c.columns_of-columns.ensures (sym c.in_ok-way.ensures ∙ c.in-Some.is)

pub entry_out-requires-clause-arguments : goal.entry_out-requires-clause-arguments
entry_out-requires-clause-arguments c =
    own-arguments c.args.source c.requires.source c.columns_of-columns.result c.args.from c.in-Some.way c.columns_of-columns.ensures (sym c.in_ok-way.ensures ∙ c.in-Some.is) _ c.requires.arguments

pub returns-in_ok-push-in-Some : goal.returns-in_ok-push-in-Some
returns-in_ok-push-in-Some c =
    call-made c.args.source c.requires.source c.columns_of-columns.result c.args.from c.in-Some.way c.columns_of-columns.ensures (sym c.in_ok-way.ensures ∙ c.in-Some.is) c.is_passed.result
    (c.is_passed.ensures (plain c.args.source.graph.now) c.requires.source.heads c.requires.there) c.if-not-is_passed.false c.len-globals.result c.len-globals.ensures c.args.callee _ c.in_ok-entry_out-in-Some.field-0 c.in_ok-entry_out-in-Some.ensures c.args.outs.now _ c.in_ok-push-in-Some.ensures.ok

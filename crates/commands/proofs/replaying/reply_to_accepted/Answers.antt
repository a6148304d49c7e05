use Rattle.std.proofs.Common.{◌≡◌, rules, subst}
use Rattle.replay.specs.Chosen.{IsTrace}
use Rattle.commands.specs.Replay.{IsFollowed}
use Rattle.commands.proofs.Replays.{trace-answers}
use Rattle.commands.proofs.replaying.reply_to_accepted.Goals as goal

pub follow-requires : goal.follow-requires
follow-requires c = c.accepted_is_well_formed.ensures c.args.input.now.text c.args.program.now c.requires.accepted

-- the trace is that of the chosen execution, and a failed stop shows a failure
pub returns-clause-reply : goal.returns-clause-reply
returns-clause-reply c =
    let input = c.args.input.now in
    let program = c.args.program.now in
    let trace = c.in_ok-trace.trace in
    let traced : IsTrace program input.values input.turns trace = subst (λ values. IsTrace program values input.turns trace) c.deref.ensures c.in_ok-trace.ensures in
    let well_formed = c.accepted_is_well_formed.ensures input.text program c.requires.accepted in
    let followed : IsFollowed input program trace = record {
      accepted = c.requires.accepted;
      traced = traced;
      fails = λ number at. c.failed_stop_fails.ensures program input.values input.turns trace number well_formed traced at;
    } in
    let text : c.as_bytes.result.now ≡ input.text = search rules in
    trace-answers c.trace_reply.result input program trace c.as_bytes.result.now text followed c.trace_reply.ensures.reply

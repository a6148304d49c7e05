use Rattle.std.proofs.Common.{◌≡◌, rules, ◌+◌, ◌-◌, [], codes, subst}
use Rattle.report.specs.Text.{text_of}
use Rattle.summary_cache.specs.declared.error.SubmitError.TheVariants.{Refused}
use Rattle.summary_cache.specs.First.{IsFirstCause, IsUnanswered}
use Rattle.commands.specs.Check.{IsCheckUnder, failed_reply, finished_reply}
use Rattle.commands.proofs.Checks.{asking, shown-finished, shown-stuck, where-ok}
use Rattle.commands.proofs.checking.shown_reply.Goals as goal

pub returns-in-Ok-clause-reply : goal.returns-in-Ok-clause-reply
returns-in-Ok-clause-reply c =
    let text = c.args.text.now in
    let told = c.args.told.now in
    let old = c.args.replay in
    let new = c.analysis_by_oracle.new.oracle in
    let last = c.in-Ok.last in
    let left = c.left_count.result in
    where-ok c.finished_reply.result (λ reply. reply ≡ finished_reply (text_of last.report) told left) (IsCheckUnder c.args.rule text old.left told)
    (λ reply is. shown-finished c.args.rule text old new told reply last left c.in-Ok.ensures.0 c.in-Ok.ensures.1 c.left_count.ensures is)
    c.finished_reply.ensures.reply

pub returns-in-Err-Refused-clause-reply : goal.returns-in-Err-Refused-clause-reply
returns-in-Err-Refused-clause-reply c =
    let text = c.args.text.now in
    let told = c.args.told.now in
    let old = c.args.replay in
    let new = c.analysis_by_oracle.new.oracle in
    let all = c.left_count-all.result in
    let left = c.left_count-in-Err-Refused.result in
    let refused : c.in-Err-Refused.field-0 ≡ Refused = search rules in
    let unanswered : IsUnanswered asking c.args.rule old new text = subst (IsFirstCause asking c.args.rule old new text) refused c.in-Err-Refused.ensures in
    where-ok c.stuck_reply.result (λ reply. reply ≡ failed_reply (codes "answer ") (all - left + 1) []) (IsCheckUnder c.args.rule text old.left told)
    (λ reply is. shown-stuck c.args.rule text old new told reply all left unanswered c.left_count-all.ensures c.left_count-in-Err-Refused.ensures is)
    c.stuck_reply.ensures.reply

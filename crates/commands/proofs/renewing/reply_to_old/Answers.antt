use Rattle.std.proofs.Common.{◌≡◌, rules, IfOk, List, ℕ, subst}
use Rattle.commands.specs.Renew.{IsRenewed, IsRenewedBy}
use Rattle.commands.proofs.Checks.{where-ok}
use Rattle.commands.proofs.renewing.reply_to_old.Goals as goal

pub returns-clause-reply : goal.returns-clause-reply
returns-clause-reply c =
    let file = c.args.file in
    let checked = c.in_ok-checked.checked in
    let text : c.as_bytes.result.now ≡ file.text = search rules in
    let renewed = subst (λ (text : List ℕ). IfOk c.renewed_reply.result (IsRenewedBy text checked)) text c.renewed_reply.ensures.reply in
    where-ok c.renewed_reply.result (IsRenewedBy file.text checked) (IsRenewed file)
    (λ reply is. record { checked = checked; is_checked = c.in_ok-checked.ensures.reply; is_renewed = is }) renewed

use Rattle.std.proofs.Common.{◌≡◌, rules, List, ℕ, Option, Some, subst, sym}
use Rattle.std.specs.Io.KnownBytes.{Consumes}
use Rattle.commands.specs.declared.reply.Reply.{Reply}
use Rattle.commands.specs.declared.words.Work.TheVariants.{Analyse, Certify, Check, Edit, Renew, Replay, Cost, Prove, Facets}
use Rattle.commands.specs.Input.{IsInput}
use Rattle.summary_cache.specs.Limits.{most_bytes}
use Rattle.commands.specs.Limits.{most_file, most_input}
use Rattle.commands.specs.Analyse.{IsReplyToAnalyse, IsReplyToFacets}
use Rattle.commands.specs.Certify.{IsReplyToCertify}
use Rattle.commands.specs.Check.{IsReplyToCheck}
use Rattle.commands.specs.Cost.{IsReplyToCost}
use Rattle.commands.specs.Edit.{IsReplyToEdit}
use Rattle.commands.specs.Prove.{IsReplyToProve}
use Rattle.commands.specs.Renew.{IsReplyToRenew}
use Rattle.commands.specs.Replay.{IsReplyToReplay}
use Rattle.commands.specs.Replies.{IsReplyToRead, IsReplyToWork}
use Rattle.commands.proofs.running.answer_to.Goals as goal

to-read : (limit : ℕ) (Answers : List ℕ → Reply → Type 0) (before after : Option (List ℕ)) (input : List ℕ) (reply : Reply) → IsInput limit before input
    → Consumes before after input → Answers input reply → IsReplyToRead limit Answers before after reply
to-read limit Answers before after input reply is front answer = record { input = input; is_input = is; is_front = front; is_reply = answer }

pub returns-in_ok-analyse_reply-in-Some-Analyse-clause-answer :
    goal.returns-in_ok-analyse_reply-in-Some-Analyse-clause-answer
returns-in_ok-analyse_reply-in-Some-Analyse-clause-answer g c =
    let before = g.R.Source.left c.args.source.now in
    let after = g.R.Source.left c.read_input.new.source in
    let reply = c.in_ok-analyse_reply-in-Some-Analyse.field-0 in
    let is : IsInput most_bytes before c.deref.result.now = search rules in
    let front : Consumes before after c.deref.result.now = search rules in
    let asked : c.in-Some-Analyse.field-0 ≡ Analyse = search rules in
    subst (λ work. IsReplyToWork work before after reply) (sym c.in-Some-Analyse.is) (subst (λ work. IsReplyToWork (Some work) before after reply) (sym asked)
    (to-read most_bytes IsReplyToAnalyse before after c.deref.result.now reply is front c.in_ok-analyse_reply-in-Some-Analyse.ensures.reply))

pub returns-in_ok-prove_reply-in-Some-Prove-clause-answer :
    goal.returns-in_ok-prove_reply-in-Some-Prove-clause-answer
returns-in_ok-prove_reply-in-Some-Prove-clause-answer g c =
    let before = g.R.Source.left c.args.source.now in
    let after = g.R.Source.left c.read_input-in-Some-Prove.new.source in
    let reply = c.in_ok-prove_reply-in-Some-Prove.field-0 in
    let is : IsInput most_bytes before c.deref-in-Some-Prove.result.now = search rules in
    let front : Consumes before after c.deref-in-Some-Prove.result.now = search rules in
    let asked : c.in-Some-Prove.field-0 ≡ Prove = search rules in
    subst (λ work. IsReplyToWork work before after reply) (sym c.in-Some-Prove.is) (subst (λ work. IsReplyToWork (Some work) before after reply) (sym asked)
    (to-read most_bytes IsReplyToProve before after c.deref-in-Some-Prove.result.now reply is front c.in_ok-prove_reply-in-Some-Prove.ensures.reply))

pub returns-in_ok-facets_reply-in-Some-Facets-clause-answer :
    goal.returns-in_ok-facets_reply-in-Some-Facets-clause-answer
returns-in_ok-facets_reply-in-Some-Facets-clause-answer g c =
    let before = g.R.Source.left c.args.source.now in
    let after = g.R.Source.left c.read_input-in-Some-Facets.new.source in
    let reply = c.in_ok-facets_reply-in-Some-Facets.field-0 in
    let is : IsInput most_bytes before c.deref-in-Some-Facets.result.now = search rules in
    let front : Consumes before after c.deref-in-Some-Facets.result.now = search rules in
    let asked : c.in-Some-Facets.field-0 ≡ Facets = search rules in
    subst (λ work. IsReplyToWork work before after reply) (sym c.in-Some-Facets.is) (subst (λ work. IsReplyToWork (Some work) before after reply) (sym asked)
    (to-read most_bytes IsReplyToFacets before after c.deref-in-Some-Facets.result.now reply is front c.in_ok-facets_reply-in-Some-Facets.ensures.reply))

pub returns-in_ok-certify_reply-in-Some-Certify-clause-answer :
    goal.returns-in_ok-certify_reply-in-Some-Certify-clause-answer
returns-in_ok-certify_reply-in-Some-Certify-clause-answer g c =
    let before = g.R.Source.left c.args.source.now in
    let after = g.R.Source.left c.read_input-in-Some-Certify.new.source in
    let reply = c.in_ok-certify_reply-in-Some-Certify.field-0 in
    let is : IsInput most_bytes before c.deref-in-Some-Certify.result.now = search rules in
    let front : Consumes before after c.deref-in-Some-Certify.result.now = search rules in
    let asked : c.in-Some-Certify.field-0 ≡ Certify = search rules in
    subst (λ work. IsReplyToWork work before after reply) (sym c.in-Some-Certify.is) (subst (λ work. IsReplyToWork (Some work) before after reply) (sym asked)
    (to-read most_bytes IsReplyToCertify before after c.deref-in-Some-Certify.result.now reply is front c.in_ok-certify_reply-in-Some-Certify.ensures.reply))

pub returns-in_ok-check_reply-in-Some-Check-clause-answer :
    goal.returns-in_ok-check_reply-in-Some-Check-clause-answer
returns-in_ok-check_reply-in-Some-Check-clause-answer g c =
    let before = g.R.Source.left c.args.source.now in
    let after = g.R.Source.left c.read_input-in-Some-Check.new.source in
    let reply = c.in_ok-check_reply-in-Some-Check.field-0 in
    let is : IsInput most_file before c.deref-in-Some-Check.result.now = search rules in
    let front : Consumes before after c.deref-in-Some-Check.result.now = search rules in
    let asked : c.in-Some-Check.field-0 ≡ Check = search rules in
    subst (λ work. IsReplyToWork work before after reply) (sym c.in-Some-Check.is) (subst (λ work. IsReplyToWork (Some work) before after reply) (sym asked)
    (to-read most_file IsReplyToCheck before after c.deref-in-Some-Check.result.now reply is front c.in_ok-check_reply-in-Some-Check.ensures.reply))

pub returns-in_ok-edit_reply-in-Some-Edit-clause-answer :
    goal.returns-in_ok-edit_reply-in-Some-Edit-clause-answer
returns-in_ok-edit_reply-in-Some-Edit-clause-answer g c =
    let before = g.R.Source.left c.args.source.now in
    let after = g.R.Source.left c.read_input-in-Some-Edit.new.source in
    let reply = c.in_ok-edit_reply-in-Some-Edit.field-0 in
    let is : IsInput most_input before c.deref-in-Some-Edit.result.now = search rules in
    let front : Consumes before after c.deref-in-Some-Edit.result.now = search rules in
    let asked : c.in-Some-Edit.field-0 ≡ Edit = search rules in
    subst (λ work. IsReplyToWork work before after reply) (sym c.in-Some-Edit.is) (subst (λ work. IsReplyToWork (Some work) before after reply) (sym asked)
    (to-read most_input IsReplyToEdit before after c.deref-in-Some-Edit.result.now reply is front c.in_ok-edit_reply-in-Some-Edit.ensures.reply))

pub returns-in_ok-renew_reply-in-Some-Renew-clause-answer :
    goal.returns-in_ok-renew_reply-in-Some-Renew-clause-answer
returns-in_ok-renew_reply-in-Some-Renew-clause-answer g c =
    let before = g.R.Source.left c.args.source.now in
    let after = g.R.Source.left c.read_input-in-Some-Renew.new.source in
    let reply = c.in_ok-renew_reply-in-Some-Renew.field-0 in
    let is : IsInput most_file before c.deref-in-Some-Renew.result.now = search rules in
    let front : Consumes before after c.deref-in-Some-Renew.result.now = search rules in
    let asked : c.in-Some-Renew.field-0 ≡ Renew = search rules in
    subst (λ work. IsReplyToWork work before after reply) (sym c.in-Some-Renew.is) (subst (λ work. IsReplyToWork (Some work) before after reply) (sym asked)
    (to-read most_file IsReplyToRenew before after c.deref-in-Some-Renew.result.now reply is front c.in_ok-renew_reply-in-Some-Renew.ensures.reply))

pub returns-in_ok-replay_reply-in-Some-Replay-clause-answer :
    goal.returns-in_ok-replay_reply-in-Some-Replay-clause-answer
returns-in_ok-replay_reply-in-Some-Replay-clause-answer g c =
    let before = g.R.Source.left c.args.source.now in
    let after = g.R.Source.left c.read_input-in-Some-Replay.new.source in
    let reply = c.in_ok-replay_reply-in-Some-Replay.field-0 in
    let is : IsInput most_input before c.deref-in-Some-Replay.result.now = search rules in
    let front : Consumes before after c.deref-in-Some-Replay.result.now = search rules in
    let asked : c.in-Some-Replay.field-0 ≡ Replay = search rules in
    subst (λ work. IsReplyToWork work before after reply) (sym c.in-Some-Replay.is) (subst (λ work. IsReplyToWork (Some work) before after reply) (sym asked)
    (to-read most_input IsReplyToReplay before after c.deref-in-Some-Replay.result.now reply is front c.in_ok-replay_reply-in-Some-Replay.ensures.reply))

pub returns-in_ok-cost_reply-in-Some-Cost-clause-answer :
    goal.returns-in_ok-cost_reply-in-Some-Cost-clause-answer
returns-in_ok-cost_reply-in-Some-Cost-clause-answer g c =
    let before = g.R.Source.left c.args.source.now in
    let after = g.R.Source.left c.read_input-in-Some-Cost.new.source in
    let reply = c.in_ok-cost_reply-in-Some-Cost.field-0 in
    let is : IsInput most_bytes before c.deref-in-Some-Cost.result.now = search rules in
    let front : Consumes before after c.deref-in-Some-Cost.result.now = search rules in
    let asked : c.in-Some-Cost.field-0 ≡ Cost c.as_slice.result.now = search rules in
    subst (λ work. IsReplyToWork work before after reply) (sym c.in-Some-Cost.is) (subst (λ work. IsReplyToWork (Some work) before after reply) (sym asked)
    (to-read most_bytes (IsReplyToCost c.as_slice.result.now) before after c.deref-in-Some-Cost.result.now reply is front c.in_ok-cost_reply-in-Some-Cost.ensures.reply))

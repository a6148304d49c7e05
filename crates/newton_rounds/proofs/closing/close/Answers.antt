use Rattle.std.proofs.Common.{◌∙◌, refl}
use Rattle.newton_rounds.specs.Claims.{AreMetMembers}
use Rattle.newton_rounds.specs.Close.{group_closure}
use Rattle.posing.proofs.Following.{stops}
use Rattle.posing.proofs.UnderAnswers.{passing-result}
use Rattle.newton_rounds.proofs.SummariesMet.{summaries-met}
use Rattle.newton_rounds.proofs.closing.close.Goals as goal

pub returns-in_err-members-clause-follows : goal.returns-in_err-members-clause-follows
unfolding group_closure
returns-in_err-members-clause-follows g c = stops _ _ _ _ _ _ refl c.from_residual.ensures.1

pub group_closure-requires : goal.group_closure-requires
group_closure-requires g c = record {
  formed = c.requires.formed;
  there = c.requires.there;
  few = c.requires.few;
  members = c.as_slice.ensures ∙ c.in_ok-members.ensures;
  known = c.requires.known;
}

pub returns-clause-met : goal.returns-clause-met
returns-clause-met g c = λ met knows.
    let program = c.args.program.now in
    let procs = c.args.procs.now in
    passing-result (AreMetMembers program procs) c.group_closure.result c.group_closure.ensures.follows
    (summaries-met program procs c.args.known.now c.args.linear c.requires.formed c.requires.there c.requires.few c.requires.known met knows c.requires.linear.0)

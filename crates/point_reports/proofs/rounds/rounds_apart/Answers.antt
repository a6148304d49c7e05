use Rattle.std.proofs.Common.{◌∙◌, refl}
use Rattle.analysis.proofs.NotesApart.{IsSwapped, error_apart, value_apart}
use Rattle.point_reports.proofs.rounds.rounds_apart.Goals as goal

pub returns-in_err-result-clause-follows : goal.returns-in_err-result-clause-follows
returns-in_err-result-clause-follows g c =
    let swap : IsSwapped c.args.log.now (record { notes = c.replace-others.new.dest; answers = c.args.log.now.answers }) c.rounds_on-result.new.log (record { notes = c.replace-notes.new.dest; answers = c.rounds_on-result.new.log.answers }) =
    record { none = c.replace-others.ensures.after ∙ c.new.ensures; same = refl; back = c.replace-notes.ensures.after ∙ c.replace-others.ensures.value; logged = refl } in
    (c.in_err-result.ensures.follows.0, error_apart swap c.in_err-result.ensures.follows.1 c.from_residual.ensures.1)

pub returns-clause-follows : goal.returns-clause-follows
returns-clause-follows g c =
    let swap : IsSwapped c.args.log.now (record { notes = c.replace-others.new.dest; answers = c.args.log.now.answers }) c.rounds_on-result.new.log (record { notes = c.replace-notes.new.dest; answers = c.rounds_on-result.new.log.answers }) =
    record { none = c.replace-others.ensures.after ∙ c.new.ensures; same = refl; back = c.replace-notes.ensures.after ∙ c.replace-others.ensures.value; logged = refl } in
    (c.in_ok-result.ensures.follows.0, value_apart swap c.replace-notes.ensures.value c.in_ok-result.ensures.follows.1)

pub returns-clause-known : goal.returns-clause-known
returns-clause-known g c = λ holds. c.in_ok-result.ensures.known holds

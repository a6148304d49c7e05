use Rattle.std.proofs.Common.{◌∙◌, refl}
use Rattle.analysis.proofs.NotesApart.{IsSwapped, error_apart, value_apart}
use Rattle.analysis.proofs.parts.summaries_apart.Goals as goal

pub returns-in_err-result-clause-follows : goal.returns-in_err-result-clause-follows
returns-in_err-result-clause-follows g c =
    let swap : IsSwapped c.args.log.now (record { notes = c.replace-others.new.dest; answers = c.args.log.now.answers }) c.summaries_by-result.new.log (record { notes = c.replace-notes.new.dest; answers = c.summaries_by-result.new.log.answers }) =
    record { none = c.replace-others.ensures.after ∙ c.new.ensures; same = refl; back = c.replace-notes.ensures.after ∙ c.replace-others.ensures.value; logged = refl } in
    error_apart swap c.in_err-result.ensures.follows c.from_residual.ensures.1

pub returns-clause-follows : goal.returns-clause-follows
returns-clause-follows g c =
    let swap : IsSwapped c.args.log.now (record { notes = c.replace-others.new.dest; answers = c.args.log.now.answers }) c.summaries_by-result.new.log (record { notes = c.replace-notes.new.dest; answers = c.summaries_by-result.new.log.answers }) =
    record { none = c.replace-others.ensures.after ∙ c.new.ensures; same = refl; back = c.replace-notes.ensures.after ∙ c.replace-others.ensures.value; logged = refl } in
    value_apart swap c.replace-notes.ensures.value c.in_ok-result.ensures.follows

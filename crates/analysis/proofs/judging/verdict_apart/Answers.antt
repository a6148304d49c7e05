use Rattle.std.proofs.Common.{◌∙◌, Ok, refl, ap}
use Rattle.analysis.proofs.NotesApart.{IsSwapped, error_apart, value_apart}
use Rattle.analysis.proofs.judging.verdict_apart.Goals as goal

pub returns-in_err-result-clause-follows : goal.returns-in_err-result-clause-follows
returns-in_err-result-clause-follows g c = λ p at stop is_p is_at is_stop.
    let swap : IsSwapped c.args.log.now (record { notes = c.replace-others.new.dest; answers = c.args.log.now.answers }) c.graph_verdict-result.new.log (record { notes = c.replace-notes.new.dest; answers = c.graph_verdict-result.new.log.answers }) =
    record { none = c.replace-others.ensures.after ∙ c.new.ensures; same = refl; back = c.replace-notes.ensures.after ∙ c.replace-others.ensures.value; logged = refl } in
    error_apart swap (c.in_err-result.ensures.follows p at stop is_p is_at is_stop) c.from_residual.ensures.1

pub returns-clause-follows : goal.returns-clause-follows
returns-clause-follows g c = λ p at stop is_p is_at is_stop.
    let swap : IsSwapped c.args.log.now (record { notes = c.replace-others.new.dest; answers = c.args.log.now.answers }) c.graph_verdict-result.new.log (record { notes = c.replace-notes.new.dest; answers = c.graph_verdict-result.new.log.answers }) =
    record { none = c.replace-others.ensures.after ∙ c.new.ensures; same = refl; back = c.replace-notes.ensures.after ∙ c.replace-others.ensures.value; logged = refl } in
    value_apart swap c.replace-notes.ensures.value (c.in_ok-result.ensures.follows p at stop is_p is_at is_stop)

pub returns-clause-sound : goal.returns-clause-sound
returns-clause-sound g c = λ p at is_p is_at enters holds proved. c.in_ok-result.ensures.sound p at is_p is_at enters holds (ap (λ v. Ok v) proved)

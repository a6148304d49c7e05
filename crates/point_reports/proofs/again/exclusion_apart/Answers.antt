use Rattle.std.proofs.Common.{◌∙◌, ◌<◌, get_or, length, refl, sym, ap, subst}
use Rattle.execution.specs.Execution.{Fails}
use Rattle.analysis.proofs.NotesApart.{IsSwapped, error_apart, value_apart}
use Rattle.point_reports.proofs.OwnGraphs.{check-own, graph-there, heads-there, own-of}
use Rattle.point_reports.proofs.again.exclusion_apart.Goals as goal

pub bounds-graphs-at : goal.bounds-graphs-at
bounds-graphs-at g c =
    subst (λ l. c.args.at.proc < length l) (sym c.as_slice-graphs.ensures) (graph-there c.args.left.program.now c.args.left.standing.now.graphs c.args.left.heads.now c.requires.left.graphs c.requires.left.heads c.args.at c.requires.at)

pub bounds-left-at : goal.bounds-left-at
bounds-left-at g c = heads-there c.args.left.program.now c.args.left.standing.now.graphs c.args.left.heads.now c.requires.left.graphs c.requires.left.heads c.args.at c.requires.at

pub is_excluded-result-requires : goal.is_excluded-result-requires
is_excluded-result-requires g c =
    let left = c.args.left in
    let at = c.args.at in
    let own =
    own-of left.program.now left.standing.now.graphs left.heads.now c.requires.left.graphs c.requires.left.heads at c.requires.at c.index-graphs-at.result c.index-left-at.result
    (c.index-graphs-at.is ∙ ap (λ l. get_or l at.proc c.index-graphs-at.result) c.as_slice-graphs.ensures) c.index-left-at.is in
    record {
      formed = c.requires.left.formed;
      procedure = own.within;
      graph = own.graph_is;
      heads = c.as_slice.ensures ∙ sym c.index-left-at.is ∙ own.heads_are;
      check = own.check_within;
      table = c.requires.left.table;
      steps = c.requires.left.steps;
    }

pub returns-in_err-result-clause-follows : goal.returns-in_err-result-clause-follows
returns-in_err-result-clause-follows g c = λ check is.
    let swap : IsSwapped c.args.log.now (record { notes = c.replace-others.new.dest; answers = c.args.log.now.answers }) c.is_excluded-result.new.log (record { notes = c.replace-notes.new.dest; answers = c.is_excluded-result.new.log.answers }) =
    record { none = c.replace-others.ensures.after ∙ c.new.ensures; same = refl; back = c.replace-notes.ensures.after ∙ c.replace-others.ensures.value; logged = refl } in
    error_apart swap (c.in_err-result.ensures.follows c.requires.at.p check c.requires.at.is (check-own c.args.left.program.now c.args.at c.requires.at check is)) c.from_residual.ensures.1

pub returns-clause-follows : goal.returns-clause-follows
returns-clause-follows g c = λ check is.
    let swap : IsSwapped c.args.log.now (record { notes = c.replace-others.new.dest; answers = c.args.log.now.answers }) c.is_excluded-result.new.log (record { notes = c.replace-notes.new.dest; answers = c.is_excluded-result.new.log.answers }) =
    record { none = c.replace-others.ensures.after ∙ c.new.ensures; same = refl; back = c.replace-notes.ensures.after ∙ c.replace-others.ensures.value; logged = refl } in
    value_apart swap c.replace-notes.ensures.value (c.in_ok-result.ensures.follows c.requires.at.p check c.requires.at.is (check-own c.args.left.program.now c.args.at c.requires.at check is))

pub returns-clause-sound : goal.returns-clause-sound
returns-clause-sound g c = λ known excluded fails.
    c.in_ok-result.ensures.sound c.requires.at.p c.requires.at.at known.0 known.1 c.requires.at.is c.requires.at.at_is known.2 excluded
    (subst (Fails c.args.left.program.now) (sym c.requires.at.number) fails)

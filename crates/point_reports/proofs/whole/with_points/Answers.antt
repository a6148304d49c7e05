use Rattle.std.proofs.Common.{List, refl, sym, ap, subst, ◌∙◌}
use Rattle.std.specs.Prelude.{All, IfSome}
use Rattle.syntax_tree.specs.declared.program.Program.{Program}
use Rattle.posing.specs.declared.note.Note.{Note}
use Rattle.posing.specs.Posing.{Posing}
use Rattle.posing.proofs.Following.{stops}
use Rattle.posing.proofs.Steps.{at_end, error_first, in_other_words, value_first}
use Rattle.point_induction.specs.Heads.{AreInside}
use Rattle.point_rounds.specs.Source.{all_heads}
use Rattle.analysis.specs.declared.whole.FoundReport.{FoundReport}
use Rattle.report.specs.Claims.{PointsMeetRows}
use Rattle.point_reports.specs.declared.rounds.RoundsTold.{RoundsTold}
use Rattle.point_reports.specs.declared.whole.PointReport.{PointReport}
use Rattle.point_reports.specs.Claims.{AreAllMet}
use Rattle.point_reports.specs.Parts.{FitsRound, IsKnownAtPoints, KeepsReport}
use Rattle.point_reports.specs.Proof.{by_round, with_points}
use Rattle.point_reports.proofs.OwnGraphs.{graphs-are, inside-all}
use Rattle.point_reports.proofs.PointTruth.{no_table, none-met}
use Rattle.point_reports.proofs.whole.with_points.Goals as goal

-- what is left after the rounds
abbrev after_rounds : Program → FoundReport → RoundsTold × List Note → Posing PointReport
after_rounds program made left = by_round program made left.0.is_cut left.1 left.0.round

pub returns-in_err-standing-clause-follows : goal.returns-in_err-standing-clause-follows
returns-in_err-standing-clause-follows g c = (no_table, stops _ _ _ _ _ _ refl c.from_residual.ensures.1)

pub returns-in_err-heads-clause-follows : goal.returns-in_err-heads-clause-follows
returns-in_err-heads-clause-follows g c = (no_table, stops _ _ _ _ _ _ refl c.from_residual-in_err-heads.ensures.1)

pub all_heads-requires : goal.all_heads-requires
all_heads-requires g c = subst (All AreInside) (sym c.as_slice.ensures) (inside-all c.args.program.now c.in_ok-standing.standing c.in_ok-standing.ensures)

pub rounds_apart-requires : goal.rounds_apart-requires
rounds_apart-requires g c = record {
  formed = c.requires.formed;
  graphs = graphs-are c.args.program.now c.in_ok-standing.standing c.in_ok-standing.ensures;
  heads = c.as_slice-2.ensures ∙ c.in_ok-heads.ensures ∙ ap all_heads c.as_slice.ensures;
  fits = c.requires.made.fits;
}

pub returns-in_err-told-clause-follows : goal.returns-in_err-told-clause-follows
unfolding with_points
returns-in_err-told-clause-follows g c =
    (c.in_err-told.ensures.follows.0, error_first (after_rounds c.args.program.now c.args.made) c.in_err-told.ensures.follows.1 refl c.from_residual-in_err-told.ensures.1)

pub with_round-requires-clause-left : goal.with_round-requires-clause-left
with_round-requires-clause-left g c =
    let fits = subst (λ r. IfSome r (FitsRound c.args.program.now)) c.in-Some.is c.in_ok-told.ensures.fits in record {
      formed = c.requires.formed;
      standing = c.in_ok-standing.ensures;
      graphs = graphs-are c.args.program.now c.in_ok-standing.standing c.in_ok-standing.ensures;
      heads = c.as_slice-in-Some.ensures ∙ c.in_ok-heads.ensures ∙ ap all_heads c.as_slice.ensures;
      table = fits.table;
      steps = fits.steps;
    }

pub returns-in-Some-clause-follows : goal.returns-in-Some-clause-follows
unfolding with_points by_round
returns-in-Some-clause-follows g c =
    let told = c.in_ok-told.told in (
      c.in_ok-told.ensures.follows.0,
      value_first (after_rounds c.args.program.now c.args.made) c.in_ok-told.ensures.follows.1 refl
          (in_other_words (ap (by_round c.args.program.now c.args.made told.is_cut c.in_ok-told.own) (sym c.in-Some.is)) c.with_round.ensures.follows),
    )

pub with_round-requires-clause-known : goal.with_round-requires-clause-known
with_round-requires-clause-known g c = subst (λ r. IfSome r (IsKnownAtPoints c.args.program.now)) c.in-Some.is (c.in_ok-told.ensures.known c.requires.made.holds)

pub returns-in_err-whole-in-None-clause-follows : goal.returns-in_err-whole-in-None-clause-follows
unfolding with_points
returns-in_err-whole-in-None-clause-follows g c =
    (c.in_ok-told.ensures.follows.0, value_first (after_rounds c.args.program.now c.args.made) c.in_ok-told.ensures.follows.1 refl (stops _ _ _ _ _ _ refl c.from_residual-in_err-whole-in-None.ensures.1))

pub returns-clause-follows : goal.returns-clause-follows
unfolding with_points by_round
returns-clause-follows g c =
    let told = c.in_ok-told.told in (
      c.in_ok-told.ensures.follows.0,
      value_first (after_rounds c.args.program.now c.args.made) c.in_ok-told.ensures.follows.1 refl
          (in_other_words (ap (by_round c.args.program.now c.args.made told.is_cut c.in_ok-told.own) (sym c.in-None.is)) (at_end c.in_ok-whole-in-None.ensures)),
    )

pub returns-clause-keeps : goal.returns-clause-keeps
returns-clause-keeps g c = subst (KeepsReport c.args.made) (sym c.in_ok-whole-in-None.ensures) record { procs = refl; ats = refl }

pub returns-clause-met : goal.returns-clause-met
returns-clause-met g c =
    let met = c.requires.made.met in
    subst (AreAllMet c.args.program.now) (sym c.in_ok-whole-in-None.ensures) record { claims = record { summaries = met.summaries; proved = met.proved }; points = none-met c.args.program.now }

pub returns-clause-points : goal.returns-clause-points
returns-clause-points g c = subst (λ (whole : PointReport). PointsMeetRows whole.report) (sym c.in_ok-whole-in-None.ensures) c.requires.made.points

use Rattle.std.proofs.Common.{◌≡◌, ◌∙◌, List, length, refl, sym, ap, subst, arith}
use Rattle.std.specs.Prelude.{Bool}
use Rattle.std.specs.List.{AllZip}
use Rattle.std.proofs.lemmas.Slice.Zip.{AllZip-long}
use Rattle.posing.specs.Posing.{Done, Noted, each}
use Rattle.posing.proofs.Following.{stops}
use Rattle.posing.proofs.Steps.{at_end, error_first, notes_first, value_first, value_has}
use Rattle.leaf_cases.specs.Conditions.{AreKnown}
use Rattle.newton_rounds.specs.Between.{AreCandidates, IsFewer}
use Rattle.newton_rounds.specs.declared.findings.Judgements.{Judgements}
use Rattle.newton_rounds.specs.declared.findings.RoundEnd.{RoundEnd}
use Rattle.newton_rounds.specs.Candidates.{dropped_notes, end_of_round, members_with, no_judgements, round, some_note, table_of, with_round}
use Rattle.newton_rounds.specs.Closure.{ends_of_members}
use Rattle.newton_rounds.specs.Members.{members_of, with_table}
use Rattle.newton_rounds.specs.Pairs.{PairEnds}
use Rattle.newton_rounds.proofs.GroupCalls.{ends-many, members-many}
use Rattle.newton_rounds.proofs.RoundRows.{AreOf, round-keeps, rows-judged}
use Rattle.newton_rounds.proofs.CandidateSummaries.{candidates-length, table-summaries}
use Rattle.newton_rounds.proofs.KnownTables.{tabled-known}
use Rattle.newton_rounds.proofs.ReadyGroups.{members-are, procs-few, procs-there, table-fits}
use Rattle.newton_rounds.proofs.rounds.round.Goals as goal

pub judgements_in-requires-clause-group : goal.judgements_in-requires-clause-group
judgements_in-requires-clause-group g c =
    let group = c.args.group in
    let ready = c.requires.group in
    let members = group.members.now in
    let table = table_of members c.args.candidates.now in
    record {
      formed = ready.formed;
      there = ready.there;
      few = ready.few;
      members = ready.members;
      known =
          subst (AreKnown group.program.now) (sym (c.as_slice-known.ensures ∙ c.in_ok-all.ensures))
          (tabled-known group.program.now group.procs.now table group.known.now (table-fits group ready table (table-summaries members c.args.candidates.now (members-are group ready) c.requires.candidates)) ready.known);
    }

pub round_end-requires : goal.round_end-requires
round_end-requires g c =
    let group = c.args.group in
    let ready = c.requires.group in
    let program = group.program.now in
    let procs = group.procs.now in
    let candidates = c.args.candidates.now in
    let there = procs-there group ready in
    let many : length candidates ≡ length procs = candidates-length group.members.now candidates c.requires.candidates ∙ ap length ready.members ∙ ends-many program procs there in
    let judged = value_has (λ (made : Judgements). AllZip AreOf candidates made.rows) c.in_ok-judged.ensures (rows-judged program c.as_slice-known.result.now (members_of program procs) candidates (many ∙ sym (members-many program procs there))) in
    let long = AllZip-long AreOf candidates c.in_ok-judged.judged.rows judged ∙ many in
    let few = procs-few group ready in
    omega (arith, long, few)

pub returns-in_err-judged-clause-follows : goal.returns-in_err-judged-clause-follows
unfolding round
returns-in_err-judged-clause-follows g c =
    let program = c.args.group.program.now in
    let procs = c.args.group.procs.now in
    let candidates = c.args.candidates.now in
    let known = c.as_slice-known.ensures ∙ c.in_ok-all.ensures ∙ ap (λ (ms : List PairEnds). with_table procs (table_of ms candidates) c.args.group.known.now) c.requires.group.members in
    error_first (λ (found : Judgements). Noted (dropped_notes found.rows) (Done (end_of_round found, some_note (dropped_notes found.rows)))) c.in_err-judged.ensures
    (ap (λ all. each (with_round program all) no_judgements (members_with (members_of program procs) candidates)) known) c.from_residual-in_err-judged.ensures.1

pub returns-in_err-round_end-clause-follows : goal.returns-in_err-round_end-clause-follows
unfolding round
returns-in_err-round_end-clause-follows g c =
    let program = c.args.group.program.now in
    let procs = c.args.group.procs.now in
    let candidates = c.args.candidates.now in
    let known = c.as_slice-known.ensures ∙ c.in_ok-all.ensures ∙ ap (λ (ms : List PairEnds). with_table procs (table_of ms candidates) c.args.group.known.now) c.requires.group.members in
    value_first (λ (found : Judgements). Noted (dropped_notes found.rows) (Done (end_of_round found, some_note (dropped_notes found.rows)))) c.in_ok-judged.ensures
    (ap (λ all. each (with_round program all) no_judgements (members_with (members_of program procs) candidates)) known)
    (stops _ _ _ _ _ _ c.in_err-round_end.ensures.noted c.from_residual-in_err-round_end.ensures.1)

pub returns-clause-follows : goal.returns-clause-follows
unfolding round
returns-clause-follows g c =
    let program = c.args.group.program.now in
    let procs = c.args.group.procs.now in
    let candidates = c.args.candidates.now in
    let known = c.as_slice-known.ensures ∙ c.in_ok-all.ensures ∙ ap (λ (ms : List PairEnds). with_table procs (table_of ms candidates) c.args.group.known.now) c.requires.group.members in
    value_first (λ (found : Judgements). Noted (dropped_notes found.rows) (Done (end_of_round found, some_note (dropped_notes found.rows)))) c.in_ok-judged.ensures
    (ap (λ all. each (with_round program all) no_judgements (members_with (members_of program procs) candidates)) known)
    (notes_first c.in_ok-round_end.ensures.noted refl (at_end c.in_ok-round_end.ensures.exact))

pub returns-clause-over : goal.returns-clause-over
returns-clause-over g c =
    let group = c.args.group in
    let ready = c.requires.group in
    let program = group.program.now in
    let procs = group.procs.now in
    let candidates = c.args.candidates.now in
    let there = procs-there group ready in
    let members = ends_of_members program procs in
    let are = subst (λ (ms : List PairEnds). AreCandidates ms candidates) ready.members c.requires.candidates in
    let same : length candidates ≡ length (members_of program procs) = candidates-length members candidates are ∙ ends-many program procs there ∙ sym (members-many program procs there) in
    let kept = value_has (λ (next : RoundEnd × Bool). AreCandidates members next.0.candidates × IsFewer candidates next) (returns-clause-follows g c) (round-keeps program procs group.known.now candidates same are) in
    subst (λ (ms : List PairEnds). AreCandidates ms c.in_ok-round_end.field-0.0.candidates) (sym ready.members) kept.0

pub returns-clause-fewer : goal.returns-clause-fewer
returns-clause-fewer g c =
    let group = c.args.group in
    let ready = c.requires.group in
    let program = group.program.now in
    let procs = group.procs.now in
    let candidates = c.args.candidates.now in
    let there = procs-there group ready in
    let members = ends_of_members program procs in
    let are = subst (λ (ms : List PairEnds). AreCandidates ms candidates) ready.members c.requires.candidates in
    let same : length candidates ≡ length (members_of program procs) = candidates-length members candidates are ∙ ends-many program procs there ∙ sym (members-many program procs there) in
    let kept = value_has (λ (next : RoundEnd × Bool). AreCandidates members next.0.candidates × IsFewer candidates next) (returns-clause-follows g c) (round-keeps program procs group.known.now candidates same are) in
    kept.1

use Rattle.std.proofs.Common.{◌≡◌, ◌<◌, get_or, length, true, sym, ap, subst}
use Rattle.std.specs.Prelude.{Bool}
use Rattle.execution.specs.Execution.{Fails}
use Rattle.posing.proofs.Steps.{in_other_words}
use Rattle.syntax_tree.specs.Term.{term_of}
use Rattle.context.proofs.WaysToAssertions.{if_ok-more}
use Rattle.point_verdicts.specs.Exclusions.{exclusion_of}
use Rattle.point_verdicts.specs.Parts.{FailsByStep}
use Rattle.point_verdicts.proofs.Assertions.{read-condition, read-is}
use Rattle.point_verdicts.proofs.FailingSteps.{fails-by_step}
use Rattle.point_verdicts.proofs.assertion.is_excluded.Goals as goal

pub bounds-as_slice-assertion : goal.bounds-as_slice-assertion
bounds-as_slice-assertion g c = subst (λ l. c.args.assertion.check < length l) (sym c.as_slice.ensures) c.requires.check

pub is_never_false-requires-clause-cond : goal.is_never_false-requires-clause-cond
is_never_false-requires-clause-cond g c =
    read-condition c.args.assertion c.requires c.as_slice.result.now (get_or c.as_slice.result.now c.args.assertion.check c.index-as_slice-assertion.result) c.as_slice.ensures (ap (get_or c.as_slice.result.now c.args.assertion.check) c.index-as_slice-assertion.is)

pub returns-clause-follows : goal.returns-clause-follows
returns-clause-follows g c = λ p at is is_at.
    let assertion = c.args.assertion in
    let x = get_or c.as_slice.result.now assertion.check c.index-as_slice-assertion.result in
    in_other_words (ap (λ cond. exclusion_of assertion.program.now assertion.proc cond assertion.check assertion.round.now.steps assertion.round.now.table) (read-is assertion c.requires c.as_slice.result.now x c.as_slice.ensures (ap (get_or c.as_slice.result.now c.args.assertion.check) c.index-as_slice-assertion.is) p at is is_at))
    c.is_never_false.ensures.follows

pub returns-clause-sound : goal.returns-clause-sound
returns-clause-sound g c = λ p at known states is is_at stands.
    let assertion = c.args.assertion in
    let x = get_or c.as_slice.result.now assertion.check c.index-as_slice-assertion.result in
    let same = read-is assertion c.requires c.as_slice.result.now x c.as_slice.ensures (ap (get_or c.as_slice.result.now c.args.assertion.check) c.index-as_slice-assertion.is) p at is is_at in
    let Reached = FailsByStep assertion.program.now assertion.round.now assertion.proc assertion.check in
    if_ok-more (λ (excluded : Bool). excluded ≡ true → Reached (term_of x.cond) → ⊥) (λ (excluded : Bool). excluded ≡ true → Fails assertion.program.now at.number → ⊥) c.is_never_false.result
    (λ excluded none e fails. none e (subst Reached (sym same) (fails-by_step assertion.program.now assertion.proc assertion.check p at known states assertion.round.now is is_at stands c.requires.formed fails)))
    c.is_never_false.ensures.excludes

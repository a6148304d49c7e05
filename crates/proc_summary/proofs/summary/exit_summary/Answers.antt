use Rattle.std.proofs.Common.{◌≡◌, ◌∙◌, [], ◌++◌, ap, sym, subst}
use Rattle.std.proofs.lemmas.Result.{IfOk-weaker}
use Rattle.transition_formula.specs.Meaning.{Covers}
use Rattle.transition_formula.specs.Transition.{Transition, AreSolvable}
use Rattle.posing.specs.Logs.{loss_notes}
use Rattle.posing.proofs.Steps.{in_other_words, notes_first}
use Rattle.polyhedra.specs.Vocabulary.{Vocabulary}
use Rattle.transition_formula.specs.Hiding.{losses_in_hiding}
use Rattle.syntax_tree.specs.WellFormed.{width_of}
use Rattle.vocabularies.specs.Ends.{entry_of, entry_width, full_of}
use Rattle.vocabularies.specs.Ends as ends
use Rattle.leaf_cases.specs.Conditions.{IsKnown}
use Rattle.checked_tree.specs.Evaluation.{settled_and_fitted}
use Rattle.checked_tree.specs.Law.{IsBetweenEnds, IsEnd, IsFrom}
use Rattle.proc_summary.specs.Summary.{ends_of, exit_formula, exit_places, summary_from, projection_of}
use Rattle.proc_summary.proofs.CratesBelow.{some_at}
use Rattle.proc_summary.proofs.Graphs.{columns-is, full-columns}
use Rattle.proc_summary.proofs.ExitSummaries.{entry-columns, entry-end, exit-end, summary-known, told-as, told-between, told-is, told-solved}
use Rattle.proc_summary.proofs.summary.exit_summary.Goals as goal

pub exit_projection-requires : goal.exit_projection-requires
exit_projection-requires g c =
    let program = c.args.program.now in
    let there = some_at program.procs c.args.proc c.requires.procedure in
    let p = there.0 in
    let is = there.1 in
    told-as program c.args.proc p c.requires.formed is c.columns_of-columns.result c.columns.result c.as_slice.result.now c.args.exit.now
    (c.columns_of-columns.ensures ∙ columns-is program c.args.proc p [] is)
    (c.columns.ensures.columns ∙ ap (λ (voc : Vocabulary). voc.columns) (c.in_ok-start.ensures p is) ∙ entry-columns program c.args.proc p c.requires.formed is)
    (c.as_slice.ensures ∙ c.in_ok-places.ensures p is) (c.requires.exit p is)

pub settled_and_fitted-requires-clause-between : goal.settled_and_fitted-requires-clause-between
settled_and_fitted-requires-clause-between g c =
    let program = c.args.program.now in
    let there = some_at program.procs c.args.proc c.requires.procedure in
    let p = there.0 in
    let is = there.1 in
    let fits = (c.requires.exit p is) in
    let made : c.in_ok-told.told ≡ projection_of (entry_width program p) (exit_places (ends_of program p)) (exit_formula (width_of program p) c.args.exit.now) =
    c.in_ok-told.ensures.made ∙ told-is program c.args.proc p c.requires.formed is c.columns_of-columns.result c.columns.result c.as_slice.result.now c.args.exit.now
    (c.columns_of-columns.ensures ∙ columns-is program c.args.proc p [] is)
    (c.columns.ensures.columns ∙ ap (λ (voc : Vocabulary). voc.columns) (c.in_ok-start.ensures p is) ∙ entry-columns program c.args.proc p c.requires.formed is)
    (c.as_slice.ensures ∙ c.in_ok-places.ensures p is) fits in
    subst (λ voc. IsFrom voc c.in_ok-end.end c.in_ok-told.told) (sym (c.in_ok-start.ensures p is))
    (subst (λ voc. IsFrom (entry_of program p) voc c.in_ok-told.told) (sym (c.in_ok-end.ensures p is))
    (subst (IsFrom (entry_of program p) (ends.exit_of program p)) (sym made) (told-between program c.args.proc p c.requires.formed is c.args.exit.now fits)))

pub settled_and_fitted-requires-clause-start : goal.settled_and_fitted-requires-clause-start
settled_and_fitted-requires-clause-start g c =
    let there = some_at c.args.program.now.procs c.args.proc c.requires.procedure in
    subst IsEnd (sym (c.in_ok-start.ensures there.0 there.1)) (entry-end c.args.program.now c.args.proc there.0 c.requires.formed there.1)

pub settled_and_fitted-requires-clause-end : goal.settled_and_fitted-requires-clause-end
settled_and_fitted-requires-clause-end g c =
    let there = some_at c.args.program.now.procs c.args.proc c.requires.procedure in
    subst IsEnd (sym (c.in_ok-end.ensures there.0 there.1)) (exit-end c.args.program.now c.args.proc there.0 c.requires.formed there.1)

pub settled_and_fitted-requires-clause-solvable : goal.settled_and_fitted-requires-clause-solvable
settled_and_fitted-requires-clause-solvable g c =
    let program = c.args.program.now in
    let there = some_at program.procs c.args.proc c.requires.procedure in
    let p = there.0 in
    let is = there.1 in
    let fits = (c.requires.exit p is) in
    let made : c.in_ok-told.told ≡ projection_of (entry_width program p) (exit_places (ends_of program p)) (exit_formula (width_of program p) c.args.exit.now) =
    c.in_ok-told.ensures.made ∙ told-is program c.args.proc p c.requires.formed is c.columns_of-columns.result c.columns.result c.as_slice.result.now c.args.exit.now
    (c.columns_of-columns.ensures ∙ columns-is program c.args.proc p [] is)
    (c.columns.ensures.columns ∙ ap (λ (voc : Vocabulary). voc.columns) (c.in_ok-start.ensures p is) ∙ entry-columns program c.args.proc p c.requires.formed is)
    (c.as_slice.ensures ∙ c.in_ok-places.ensures p is) fits in
    subst (λ (t : Transition). AreSolvable t.cases) (sym made) (told-solved program c.args.proc p c.requires.formed is c.args.exit.now fits)

pub returns-clause-follows : goal.returns-clause-follows
unfolding summary_from
returns-clause-follows g c = λ p is.
    let program = c.args.program.now in
    let exit = c.args.exit.now in
    let wide : c.columns_of-columns.result ≡ (full_of program p).columns = c.columns_of-columns.ensures ∙ columns-is program c.args.proc p [] is ∙ sym (full-columns program p) in
    let first : c.columns.result ≡ (entry_of program p).columns = c.columns.ensures.columns ∙ ap (λ (voc : Vocabulary). voc.columns) (c.in_ok-start.ensures p is) in
    let same : c.as_slice.result.now ≡ exit_places (ends_of program p) = c.as_slice.ensures ∙ c.in_ok-places.ensures p is in
    let told : c.in_ok-told.told ≡ projection_of (entry_of program p).columns (exit_places (ends_of program p)) (exit_formula (full_of program p).columns exit) =
    c.in_ok-told.ensures.made ∙ (λ i. projection_of (first i) (same i) (exit_formula (wide i) exit)) in
    let lost : c.as_slice-2.result.now ≡ losses_in_hiding (entry_of program p).columns (exit_formula (full_of program p).columns exit) =
    c.as_slice-2.ensures ∙ c.in_ok-told.ensures.noted ∙ ap (λ front. front ++ losses_in_hiding c.columns.result (exit_formula c.columns_of-columns.result exit)) c.new-lost.ensures ∙ (λ i. losses_in_hiding (first i) (exit_formula (wide i) exit)) in
    notes_first c.in_ok-add_losses.ensures (ap loss_notes lost)
    (in_other_words (λ i. settled_and_fitted (told i) (c.in_ok-start.ensures p is i) (c.in_ok-end.ensures p is i)) c.settled_and_fitted.ensures.follows)

pub returns-clause-known : goal.returns-clause-known
returns-clause-known g c = λ p is.
    IfOk-weaker c.settled_and_fitted.result (IsBetweenEnds c.in_ok-start.start c.in_ok-end.end) (IsKnown c.args.program.now p)
    (λ made h. summary-known c.args.program.now c.args.proc p c.requires.formed is made
    (subst (λ voc. IsBetweenEnds voc (ends.exit_of c.args.program.now p) made) (c.in_ok-start.ensures p is) (subst (λ voc. IsBetweenEnds c.in_ok-start.start voc made) (c.in_ok-end.ensures p is) h)))
    c.settled_and_fitted.ensures.fits

pub returns-clause-covers : goal.returns-clause-covers
returns-clause-covers g c = λ p is.
    let program = c.args.program.now in
    let fits = (c.requires.exit p is) in
    let made : c.in_ok-told.told ≡ projection_of (entry_width program p) (exit_places (ends_of program p)) (exit_formula (width_of program p) c.args.exit.now) =
    c.in_ok-told.ensures.made ∙ told-is program c.args.proc p c.requires.formed is c.columns_of-columns.result c.columns.result c.as_slice.result.now c.args.exit.now
    (c.columns_of-columns.ensures ∙ columns-is program c.args.proc p [] is)
    (c.columns.ensures.columns ∙ ap (λ (voc : Vocabulary). voc.columns) (c.in_ok-start.ensures p is) ∙ entry-columns program c.args.proc p c.requires.formed is)
    (c.as_slice.ensures ∙ c.in_ok-places.ensures p is) fits in
    IfOk-weaker c.settled_and_fitted.result (λ f. Covers f c.in_ok-told.told) (λ f. Covers f (projection_of (entry_width program p) (exit_places (ends_of program p)) (exit_formula (width_of program p) c.args.exit.now)))
    (λ f covers. subst (Covers f) made covers) c.settled_and_fitted.ensures.covers

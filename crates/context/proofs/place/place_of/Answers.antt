use Rattle.std.proofs.Common.{◌<◌, ◌-◌, length, take, ap, sym, subst, ◌∙◌}
use Rattle.polyhedra.specs.Vocabulary.{Vocabulary}
use Rattle.syntax_tree.specs.declared.program.Proc.{Proc}
use Rattle.vocabularies.proofs.Columns.{IsVocabulary-full}
use Rattle.context.specs.Ends.{IsPlace}
use Rattle.context.proofs.EntryGraph.{start-end}
use Rattle.context.proofs.AssertionPlaces.{proc-fit}
use Rattle.context.proofs.PlaceColumns.{full-columns, got, named-some, place-is, shown-is}
use Rattle.context.proofs.place.place_of.Goals as goal

pub shown_columns-requires : goal.shown_columns-requires
shown_columns-requires c =
    let there = got c.args.program.now.procs c.args.proc c.requires.procedure in
    subst (λ (voc : Vocabulary). 0 < length voc.named) (sym (c.in_ok-full.ensures there.0 there.1)) (named-some c.args.program.now there.0)

pub returns-clause-exact : goal.returns-clause-exact
returns-clause-exact c = λ p is.
    let full = c.in_ok-full.ensures p is in
    λ i. record {
      entry = c.entry_width-entry.ensures p is i;
      columns = (c.columns-columns.ensures.columns ∙ ap (λ (voc : Vocabulary). voc.columns) full ∙ full-columns c.args.program.now p) i;
      start = c.in_ok-start.ensures i;
      full = full i;
      shown = (c.in_ok-shown.ensures ∙ ap (λ (voc : Vocabulary). take (length voc.named - 1) voc.named) full ∙ shown-is c.args.program.now p) i;
    }

pub returns-clause-known : goal.returns-clause-known
returns-clause-known c =
    let program = c.args.program.now in
    let there = got program.procs c.args.proc c.requires.procedure in
    let p : Proc = there.0 in
    let fit = proc-fit program c.args.proc p c.requires.formed there.1 in
    let full = c.in_ok-full.ensures p there.1 in
    subst IsPlace
    (λ i. record {
      entry = sym (c.entry_width-entry.ensures p there.1) i;
      columns = sym (c.columns-columns.ensures.columns ∙ ap (λ (voc : Vocabulary). voc.columns) full ∙ full-columns program p) i;
      start = sym c.in_ok-start.ensures i;
      full = sym full i;
      shown = sym (c.in_ok-shown.ensures ∙ ap (λ (voc : Vocabulary). take (length voc.named - 1) voc.named) full ∙ shown-is program p) i;
    })
    (place-is program p c.requires.formed fit (start-end program).is (IsVocabulary-full program p fit))

use Rattle.std.proofs.Common.{ap, sym, subst, ◌∙◌, arith}
use Rattle.polyhedra.specs.Vocabulary.{Vocabulary}
use Rattle.vocabularies.proofs.Columns.{IsVocabulary-full}
use Rattle.context.proofs.AssertionPlaces.{proc-fit}
use Rattle.context.proofs.EntryGraph.{start-end}
use Rattle.context.proofs.PlaceColumns.{full-columns, got}
use Rattle.point_steps.specs.Parts.{ArePointEnds}
use Rattle.point_steps.specs.States.{remembered_count, with_named_columns}
use Rattle.point_steps.proofs.PointColumns.{ends-known}
use Rattle.point_steps.proofs.ends.ends_of.Goals as goal

pub remembered_count-remembered-requires-clause-columns : goal.remembered_count-remembered-requires-clause-columns
remembered_count-remembered-requires-clause-columns c =
    let program = c.args.program.now in
    let there = got program.procs c.args.proc c.requires.procedure in
    let fit = proc-fit program c.args.proc there.0 c.requires.formed there.1 in
    let known = ends-known program there.0 c.requires.formed fit (start-end program).is (IsVocabulary-full program there.0 fit) in
    let few = known.few_columns in
    let same = c.columns-columns.ensures.columns ∙ ap (λ (voc : Vocabulary). voc.columns) (c.in_ok-full.ensures there.0 there.1) ∙ full-columns program there.0 in
    omega (arith, few, same)

pub remembered_count-remembered-requires-clause-entry : goal.remembered_count-remembered-requires-clause-entry
remembered_count-remembered-requires-clause-entry c =
    let program = c.args.program.now in
    let there = got program.procs c.args.proc c.requires.procedure in
    let fit = proc-fit program c.args.proc there.0 c.requires.formed there.1 in
    let known = ends-known program there.0 c.requires.formed fit (start-end program).is (IsVocabulary-full program there.0 fit) in
    let few = known.few_entry in
    let same = c.entry_width-entry.ensures there.0 there.1 in
    omega (arith, few, same)

pub with_named_columns-requires : goal.with_named_columns-requires
with_named_columns-requires c =
    let program = c.args.program.now in
    let there = got program.procs c.args.proc c.requires.procedure in
    let fit = proc-fit program c.args.proc there.0 c.requires.formed there.1 in
    let known = ends-known program there.0 c.requires.formed fit (start-end program).is (IsVocabulary-full program there.0 fit) in
    let few = known.few_columns in
    let entry = known.few_entry in
    let less = known.remembered in
    let full = ap (λ (voc : Vocabulary). voc.columns) (c.in_ok-full.ensures there.0 there.1) ∙ full-columns program there.0 in
    let columns = c.columns-columns.ensures.columns ∙ full in
    let kept = c.remembered_count-remembered.ensures ∙ (λ i. remembered_count (columns i) (c.entry_width-entry.ensures there.0 there.1 i)) in
    omega (arith, few, entry, less, full, kept)

pub returns-clause-exact : goal.returns-clause-exact
returns-clause-exact c = λ p is.
    let program = c.args.program.now in
    let full = c.in_ok-full.ensures p is in
    let columns = c.columns-columns.ensures.columns ∙ ap (λ (voc : Vocabulary). voc.columns) full ∙ full-columns program p in
    let entry = c.entry_width-entry.ensures p is in
    let kept = c.remembered_count-remembered.ensures ∙ (λ i. remembered_count (columns i) (entry i)) in
    let point = c.in_ok-point.ensures ∙ (λ j. with_named_columns (kept j) (full j)) in
    λ i. record { columns = columns i; entry = entry i; remembered = kept i; start = c.in_ok-start.ensures i; point = point i }

pub returns-clause-known : goal.returns-clause-known
returns-clause-known c =
    let program = c.args.program.now in
    let there = got program.procs c.args.proc c.requires.procedure in
    let p = there.0 in
    let is = there.1 in
    let fit = proc-fit program c.args.proc p c.requires.formed is in
    let full = c.in_ok-full.ensures p is in
    let columns = c.columns-columns.ensures.columns ∙ ap (λ (voc : Vocabulary). voc.columns) full ∙ full-columns program p in
    let entry = c.entry_width-entry.ensures p is in
    let kept = c.remembered_count-remembered.ensures ∙ (λ i. remembered_count (columns i) (entry i)) in
    let point = c.in_ok-point.ensures ∙ (λ j. with_named_columns (kept j) (full j)) in
    subst ArePointEnds
    (λ i. record {
      columns = sym columns i;
      entry = sym entry i;
      remembered = sym kept i;
      start = sym c.in_ok-start.ensures i;
      point = sym point i;
    })
    (ends-known program p c.requires.formed fit (start-end program).is (IsVocabulary-full program p fit))

use Rattle.std.proofs.Common.{◌+◌, ◌-◌, ◌<◌, ◌≤◌, ◌^◌, ◌++◌, All, map, ap, sym, subst, ◌∙◌, arith}
use Rattle.std.proofs.lemmas.List.{length-map}
use Rattle.linear_terms.specs.declared.row.Case.{Case}
use Rattle.syntax_tree.specs.Term.{term_of}
use Rattle.transition_formula.specs.Composition.{sequence_of}
use Rattle.transition_formula.specs.Hiding.{hidden, losses_in_hiding}
use Rattle.transition_formula.specs.Transition.{AreFew, Transition}
use Rattle.context.specs.Entries.{stand_from_entry}
use Rattle.context.proofs.CallLeaves.{handing-is, hiding-few, hiding-within, losses-join, meets, pairs-few, sequence-losses}
use Rattle.context.proofs.stand.call_leaf.Goals as goal

pub hidden-requires-clause-fewer : goal.hidden-requires-clause-fewer
hidden-requires-clause-fewer c =
    subst (λ (f : Transition). c.args.widths.entry ≤ f.from) (sym c.in_ok-stand.ensures.exact) (hiding-within c.args.widths c.requires.widths c.args.stand.now c.requires.stand)

pub hidden-requires-clause-few : goal.hidden-requires-clause-few
hidden-requires-clause-few c =
    subst (λ (f : Transition). All (λ (case : Case). case.aux + (f.from - c.args.widths.entry) + f.to < 2 ^ 32) f.cases) (sym c.in_ok-stand.ensures.exact)
    (hiding-few c.args.widths c.requires.widths c.args.stand.now c.requires.stand)

pub call_entry-requires-clause-few_arguments : goal.call_entry-requires-clause-few_arguments
call_entry-requires-clause-few_arguments c = let few = c.requires.arguments.few in let long = length-map c.args.args.now term_of in omega (arith, few, long)

pub seq-requires-clause-between : goal.seq-requires-clause-between
seq-requires-clause-between c =
    ap (λ (f : Transition). f.to) (c.in_ok-told.ensures.exact ∙ ap (hidden c.args.widths.entry) c.in_ok-stand.ensures.exact)
    ∙ meets c.args.widths c.requires.widths c.args.stand.now c.requires.stand (map term_of c.args.args.now) c.requires.arguments
    ∙ sym (ap (λ (f : Transition). f.from) c.in_ok-handing.ensures.exact)

pub seq-requires-clause-few : goal.seq-requires-clause-few
seq-requires-clause-few c =
    subst (λ (f : Transition). AreFew f c.in_ok-handing.handing) (sym (c.in_ok-told.ensures.exact ∙ ap (hidden c.args.widths.entry) c.in_ok-stand.ensures.exact))
    (subst (λ (f : Transition). AreFew (stand_from_entry c.args.widths c.args.stand.now) f) (sym (handing-is c.args.widths c.args.args.now c.in_ok-handing.handing c.in_ok-handing.ensures.exact))
    (pairs-few c.args.widths c.requires.widths c.args.stand.now c.requires.stand (map term_of c.args.args.now) c.requires.arguments))

pub returns-clause-exact : goal.returns-clause-exact
returns-clause-exact c =
    c.in_ok-leaf.ensures.exact
    ∙ (λ i. sequence_of ((c.in_ok-told.ensures.exact ∙ ap (hidden c.args.widths.entry) c.in_ok-stand.ensures.exact) i) (handing-is c.args.widths c.args.args.now c.in_ok-handing.handing c.in_ok-handing.ensures.exact i))

pub returns-clause-noted : goal.returns-clause-noted
returns-clause-noted c =
    losses-join c.args.losses.now _ _ _ _ _ _
    (c.in_ok-told.ensures.noted ∙ ap (λ f. c.args.losses.now ++ losses_in_hiding c.args.widths.entry f) c.in_ok-stand.ensures.exact)
    c.in_ok-handing.ensures.noted
    (c.in_ok-leaf.ensures.noted
    ∙ sequence-losses _ _ _ _ _ (c.in_ok-told.ensures.exact ∙ ap (hidden c.args.widths.entry) c.in_ok-stand.ensures.exact) (handing-is c.args.widths c.args.args.now c.in_ok-handing.handing c.in_ok-handing.ensures.exact))

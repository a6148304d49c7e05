use Rattle.std.proofs.Common.{◌≡◌, ◌++◌, ℤ, List, map, sym, subst, ◌∙◌}
use Rattle.std.specs.List.{flat_map}
use Rattle.transition_formula.specs.Composition.{sequence_of_cases, sequence_of, losses_in_sequence, losses_by, after_case}
use Rattle.transition_formula.specs.Transition.{Transition, IsTransition}
use Rattle.linear_terms.specs.declared.row.Case.{Case}
use Rattle.transition_formula.specs.Meaning.{Holds}
use Rattle.transition_formula.proofs.Meanings.{transition, sequence-holds, sequence-held, nothing-more}
use Rattle.transition_formula.proofs.Fitting.{sequence_of-fits}
use Rattle.transition_formula.proofs.Loops.{one_gathered, all_gathered}
use Rattle.transition_formula.proofs.sequence.sequence_formula.Goals as goal

pub loop-first-preserved : goal.loop-first-preserved
loop-first-preserved c =
    record {
      made =
          one_gathered (λ first. map (sequence_of_cases first) c.args.b.now.cases) c.cases-first-items.result.now c.loop-first.first-index c.first-item.result c.loop-first.cases c.before_each.new.cases
          c.loop-first-test.true c.first-item.is c.in_ok-before_each.ensures.made
          ∙ c.loop-first.invariant.made;
      noted =
          one_gathered (λ first. flat_map (λ second. losses_by (after_case first second) second) c.args.b.now.cases) c.cases-first-items.result.now c.loop-first.first-index c.first-item.result c.loop-first.losses c.before_each.new.losses
          c.loop-first-test.true c.first-item.is c.in_ok-before_each.ensures.noted
          ∙ c.loop-first.invariant.noted;
    }

pub invariant_of-result : goal.invariant_of-result
invariant_of-result c =
    let a = c.args.a.now in
    let b = c.args.b.now in
    let made = all_gathered (λ first. map (sequence_of_cases first) b.cases) c.cases-first-items.result.now c.loop-first.first-index c.loop-first.cases (sequence_of a b).cases c.loop-first-test.false c.loop-first.invariant.made in
    let a_fits : IsTransition a.from a.to a.cases = subst (λ (f : Transition). IsTransition f.from f.to f.cases) c.a.view_is c.a.invariant in
    let b_fits : IsTransition b.from b.to b.cases = subst (λ (f : Transition). IsTransition f.from f.to f.cases) c.b.view_is c.b.invariant in
    let fits : IsTransition a.from b.to c.loop-first.cases = subst (IsTransition a.from b.to) (sym made) (sequence_of-fits a b c.requires.between a_fits b_fits) in
    subst (λ (f : Transition). IsTransition f.from c.b.inside.to c.loop-first.cases) (sym c.a.view_is) (subst (λ (f : Transition). IsTransition a.from f.to c.loop-first.cases) (sym c.b.view_is) fits)

-- the formula that is made
sequence_made : (a b c d : Transition) (cases : List Case) → c ≡ a → d ≡ b → cases ≡ (sequence_of a b).cases → transition c.from d.to cases ≡ sequence_of a b
sequence_made a b c d cases e f made = λ i. record { from = (e i).from; to = (f i).to; cases = made i }

pub returns-clause-at_least : goal.returns-clause-at_least
returns-clause-at_least c before middle after =
    let a = c.args.a.now in
    let b = c.args.b.now in
    let made = all_gathered (λ first. map (sequence_of_cases first) b.cases) c.cases-first-items.result.now c.loop-first.first-index c.loop-first.cases (sequence_of a b).cases c.loop-first-test.false c.loop-first.invariant.made in
    let a_fits : IsTransition a.from a.to a.cases = subst (λ (f : Transition). IsTransition f.from f.to f.cases) c.a.view_is c.a.invariant in
    let b_fits : IsTransition b.from b.to b.cases = subst (λ (f : Transition). IsTransition f.from f.to f.cases) c.b.view_is c.b.invariant in
    let same = sequence_made a b (transition c.a.inside.from c.a.inside.to c.a.inside.cases) (transition c.b.inside.from c.b.inside.to c.b.inside.cases) c.loop-first.cases c.a.view_is c.b.view_is made in
    subst (λ (f : Transition). Holds a before middle → Holds b middle after → Holds f before after) (sym same) (sequence-holds a b c.requires.between a_fits b_fits before middle after)

pub returns-clause-at_most : goal.returns-clause-at_most
returns-clause-at_most c before after kept =
    let a = c.args.a.now in
    let b = c.args.b.now in
    let made = all_gathered (λ first. map (sequence_of_cases first) b.cases) c.cases-first-items.result.now c.loop-first.first-index c.loop-first.cases (sequence_of a b).cases c.loop-first-test.false c.loop-first.invariant.made in
    let noted = all_gathered (λ first. flat_map (λ second. losses_by (after_case first second) second) b.cases) c.cases-first-items.result.now c.loop-first.first-index c.loop-first.losses (c.args.losses.now ++ losses_in_sequence a b) c.loop-first-test.false c.loop-first.invariant.noted in
    let a_fits : IsTransition a.from a.to a.cases = subst (λ (f : Transition). IsTransition f.from f.to f.cases) c.a.view_is c.a.invariant in
    let b_fits : IsTransition b.from b.to b.cases = subst (λ (f : Transition). IsTransition f.from f.to f.cases) c.b.view_is c.b.invariant in
    let same = sequence_made a b (transition c.a.inside.from c.a.inside.to c.a.inside.cases) (transition c.b.inside.from c.b.inside.to c.b.inside.cases) c.loop-first.cases c.a.view_is c.b.view_is made in
    let none = nothing-more c.args.losses.now (losses_in_sequence a b) (sym noted ∙ kept) in
    subst (λ (f : Transition). Holds f before after → (middle : List ℤ) × (Holds a before middle × Holds b middle after)) (sym same) (sequence-held a b c.requires.between a_fits b_fits none before after)

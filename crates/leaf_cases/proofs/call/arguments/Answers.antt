use Rattle.std.proofs.Common.{[], ◌∷◌, ◌++◌, map, take, ap, sym, ◌∙◌, append_assoc, append-nil, arith}
use Rattle.std.proofs.lemmas.List.{take_all}
use Rattle.syntax_tree.specs.Term.{term_of}
use Rattle.leaf_cases.specs.declared.expression.Sought.TheVariants as sought
use Rattle.leaf_cases.specs.Edges.{arguments_of}
use Rattle.leaf_cases.specs.Expression.{lists_of}
use Rattle.leaf_cases.specs.Listed.{Listed}
use Rattle.leaf_cases.specs.Listed as listed
use Rattle.leaf_cases.proofs.Arguments.{arguments-none, arguments_ready, next_argument}
use Rattle.leaf_cases.proofs.Ready.{found_ready}
use Rattle.leaf_cases.proofs.call.arguments.Goals as goal

pub loop-e-init : goal.loop-e-init
loop-e-init c =
    record {
      made =
          c.in_ok-push.ensures.ok
          ∙ (λ i. c.new-made.ensures i ++ record { aux = 0; rows = c.new.ensures i; post = c.new-2.ensures i } ∷ [])
          ∙ ap (λ (l : Listed). l.cases) (sym arguments-none);
      noted = sym (append-nil c.args.losses.now) ∙ ap (λ (l : Listed). c.args.losses.now ++ l.lost) (sym arguments-none);
    }

pub cases_of-requires : goal.cases_of-requires
cases_of-requires c =
    let next = next_argument c.args.args.now c.loop-e.e-index c.e-item.result c.requires c.loop-e-test.true c.e-item.is in
    let one = next.one in omega arith

pub both-requires-clause-firsts : goal.both-requires-clause-firsts
both-requires-clause-firsts c =
    let next = next_argument c.args.args.now c.loop-e.e-index c.e-item.result c.requires c.loop-e-test.true c.e-item.is in
    arguments_ready (map term_of (take c.loop-e.e-index c.args.args.now)) c.as_slice.result.now c.loop-e.made next.front c.loop-e.invariant.made c.as_slice.ensures

pub both-requires-clause-seconds : goal.both-requires-clause-seconds
both-requires-clause-seconds c =
    let next = next_argument c.args.args.now c.loop-e.e-index c.e-item.result c.requires c.loop-e-test.true c.e-item.is in
    let one = next.one in
    found_ready (term_of c.e-item.result) sought.Value c.as_slice-in-loop-e.result.now c.in_ok-values.values (omega arith) c.in_ok-values.ensures.exact c.as_slice-in-loop-e.ensures

pub loop-e-preserved : goal.loop-e-preserved
loop-e-preserved c =
    let next = next_argument c.args.args.now c.loop-e.e-index c.e-item.result c.requires c.loop-e-test.true c.e-item.is in
    let front = arguments_of (map term_of (take c.loop-e.e-index c.args.args.now)) in
    let value = (lists_of (term_of c.e-item.result)).value in
    record {
      made =
          c.in_ok-made.ensures
          ∙ (λ i. listed.both ((c.as_slice.ensures ∙ c.loop-e.invariant.made) i) ((c.as_slice-in-loop-e.ensures ∙ c.in_ok-values.ensures.exact) i))
          ∙ ap (λ (l : Listed). l.cases) (sym next.more);
      noted =
          c.in_ok-values.ensures.noted
          ∙ ap (λ l. l ++ value.lost) c.loop-e.invariant.noted
          ∙ append_assoc c.args.losses.now front.lost value.lost
          ∙ ap (λ (l : Listed). c.args.losses.now ++ l.lost) (sym next.more);
    }

pub returns-clause-exact : goal.returns-clause-exact
returns-clause-exact c = c.loop-e.invariant.made ∙ ap (λ xs. (arguments_of (map term_of xs)).cases) (take_all c.loop-e.e-index c.args.args.now c.loop-e-test.false)

pub returns-clause-noted : goal.returns-clause-noted
returns-clause-noted c = c.loop-e.invariant.noted ∙ ap (λ xs. c.args.losses.now ++ (arguments_of (map term_of xs)).lost) (take_all c.loop-e.e-index c.args.args.now c.loop-e-test.false)

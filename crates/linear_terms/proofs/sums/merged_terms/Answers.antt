use Rattle.std.proofs.Common.{◌≡◌, Ok, Err, sym, ap, ◌∙◌, arith, rules, SFits}
use Rattle.std.specs.Int.{w128}
use Rattle.std.proofs.lemmas.Result.{err_from_is_err_and}
use Rattle.std.proofs.lemmas.Int.{ints}
use Rattle.linear_terms.specs.Operations.{put_all}
use Rattle.linear_terms.proofs.Steps.{with_front}
use Rattle.linear_terms.proofs.Merge.{step_left, step_right, step_both, step_zero, step_failed, no_left, no_right, none, rest_canonical}
use Rattle.linear_terms.proofs.sums.merged_terms.Goals as goal
use Rattle.linear_terms.proofs.sums.merged_terms.Goals.{in_default, in-Some+in_default-split_first}

pub loop-first-preserved-in-Less : goal.loop-first-preserved-in-Less
loop-first-preserved-in-Less c =
    let so_far = c.loop-first.invariant in
    let left_is = c.in-Some.ensures.cases.0 in
    let right_is = c.in-Some-split_first.ensures.cases.0 in
    record {
      same = ap (λ front. with_front front (put_all c.in-Some.lefts.now c.loop-first.right.now)) c.in_ok-push-in-Less.ensures.ok
          ∙ step_left c.loop-first.made c.loop-first.left.now c.loop-first.right.now c.in-Some.first.now c.in-Some-split_first.other.now c.in-Some.lefts.now c.in-Some-split_first.rights.now left_is right_is (sym c.cmp.ensures ∙ c.in-Less.is) so_far.right_canonical
          ∙ so_far.same;
      left_canonical = rest_canonical c.in-Some.first.now c.loop-first.left.now c.in-Some.lefts.now left_is so_far.left_canonical;
      right_canonical = so_far.right_canonical;
    }

pub loop-first-preserved-in-Greater : goal.loop-first-preserved-in-Greater
loop-first-preserved-in-Greater c =
    let so_far = c.loop-first.invariant in
    let left_is = c.in-Some.ensures.cases.0 in
    let right_is = c.in-Some-split_first.ensures.cases.0 in
    record {
      same = ap (λ front. with_front front (put_all c.loop-first.left.now c.in-Some-split_first.rights.now)) c.in_ok-push-in-Greater.ensures.ok
          ∙ step_right c.loop-first.made c.loop-first.left.now c.loop-first.right.now c.in-Some.first.now c.in-Some-split_first.other.now c.in-Some.lefts.now c.in-Some-split_first.rights.now left_is right_is (sym c.cmp.ensures ∙ c.in-Greater.is) so_far.right_canonical
          ∙ so_far.same;
      left_canonical = so_far.left_canonical;
      right_canonical = rest_canonical c.in-Some-split_first.other.now c.loop-first.right.now c.in-Some-split_first.rights.now right_is so_far.right_canonical;
    }

pub loop-first-preserved-in_ok-push-in-Equal : goal.loop-first-preserved-in_ok-push-in-Equal
loop-first-preserved-in_ok-push-in-Equal c =
    let so_far = c.loop-first.invariant in
    let left_is = c.in-Some.ensures.cases.0 in
    let right_is = c.in-Some-split_first.ensures.cases.0 in
    let term = c.in_ok-term-in-Equal.term in
    record {
      same = ap (λ front. with_front front (put_all c.in-Some.lefts.now c.in-Some-split_first.rights.now)) c.in_ok-push-in-Equal.ensures.ok
          ∙ step_both c.loop-first.made c.loop-first.left.now c.loop-first.right.now c.in-Some.first.now c.in-Some-split_first.other.now term c.in-Some.lefts.now c.in-Some-split_first.rights.now left_is right_is (sym c.cmp.ensures ∙ c.in-Equal.is) so_far.right_canonical
          c.in_ok-term-in-Equal.ensures.number c.in_ok-term-in-Equal.ensures.mono (λ e. omega (arith, ints, e, c.if-term-ne0.true))
          ∙ so_far.same;
      left_canonical = rest_canonical c.in-Some.first.now c.loop-first.left.now c.in-Some.lefts.now left_is so_far.left_canonical;
      right_canonical = rest_canonical c.in-Some-split_first.other.now c.loop-first.right.now c.in-Some-split_first.rights.now right_is so_far.right_canonical;
    }

pub loop-first-preserved : goal.loop-first-preserved
loop-first-preserved c =
    let so_far = c.loop-first.invariant in
    let left_is = c.in-Some.ensures.cases.0 in
    let right_is = c.in-Some-split_first.ensures.cases.0 in
    let term = c.in_ok-term-in-Equal.term in
    let fits : SFits w128 c.in_ok-term-in-Equal.term.1 = search rules in
    record {
      same = step_zero c.loop-first.made c.loop-first.left.now c.loop-first.right.now c.in-Some.first.now c.in-Some-split_first.other.now term c.in-Some.lefts.now c.in-Some-split_first.rights.now left_is right_is (sym c.cmp.ensures ∙ c.in-Equal.is)
          c.in_ok-term-in-Equal.ensures.number (omega (arith, ints, fits, c.if-term-ne0.false))
          ∙ so_far.same;
      left_canonical = rest_canonical c.in-Some.first.now c.loop-first.left.now c.in-Some.lefts.now left_is so_far.left_canonical;
      right_canonical = rest_canonical c.in-Some-split_first.other.now c.loop-first.right.now c.in-Some-split_first.rights.now right_is so_far.right_canonical;
    }

pub returns-in_err-term-in-Equal-clause-exact : goal.returns-in_err-term-in-Equal-clause-exact
returns-in_err-term-in-Equal-clause-exact c =
    let fault = c.in_err-term-in-Equal.field-0.0 in
    let p = err_from_is_err_and c.from_residual-in_err-term-in-Equal.result c.from_residual-in_err-term-in-Equal.ensures.1 in
    let fails : put_all c.args.left.now c.args.right.now ≡ Err fault =
    sym c.loop-first.invariant.same
    ∙ step_failed c.loop-first.made c.loop-first.left.now c.loop-first.right.now c.in-Some.first.now c.in-Some-split_first.other.now c.in-Some.lefts.now c.in-Some-split_first.rights.now fault
    c.in-Some.ensures.cases.0 c.in-Some-split_first.ensures.cases.0 (sym c.cmp.ensures ∙ c.in-Equal.is) c.in_err-term-in-Equal.ensures.err in
    rw (p.1, p.2, c.in_err-term-in-Equal.ensures.told) fails

pub returns-clause-exact : goal.returns-clause-exact
returns-clause-exact c =
    let so_far = c.loop-first.invariant in
    let made_is = c.in_ok-push_both.ensures.made in
    elim c.match-split_first.branch [
      | in_default w ↦ sym so_far.same ∙ no_left c.loop-first.made c.loop-first.left.now c.loop-first.right.now (none c.loop-first.left.now w.in_default.ensures.cases) so_far.right_canonical ∙ ap (λ l. Ok l) (sym made_is)
      | in-Some+in_default-split_first w ↦ sym so_far.same ∙ no_right c.loop-first.made c.loop-first.left.now c.loop-first.right.now (none c.loop-first.right.now w.in_default-split_first.ensures.cases) ∙ ap (λ l. Ok l) (sym made_is)
    ]

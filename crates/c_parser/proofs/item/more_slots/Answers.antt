use Rattle.std.proofs.Common.{sym, subst, ◌∙◌, arith, map}
use Rattle.std.proofs.lemmas.List.{length-map}
use Rattle.std.proofs.lemmas.Result.{err_from_is_err_and}
use Rattle.items.specs.Gives.{FailsBy}
use Rattle.c_parser.specs.Descent.{exact_error}
use Rattle.c_parser.specs.SourceItem.{parameter_of}
use Rattle.c_parser.specs.Spots.{spots_of}
use Rattle.c_parser.proofs.TextLoops.{slots-done, slots-fail, slots-more}
use Rattle.c_parser.proofs.item.more_slots.Goals as goal

pub returns-in_err-slots-clause-exact : goal.returns-in_err-slots-clause-exact
returns-in_err-slots-clause-exact c =
    let p = err_from_is_err_and c.from_residual.result c.from_residual.ensures.1 in
    rw (p.1, p.2) (subst (FailsBy (exact_error c.in_err-slots.field-0.0)) c.more.invariant.stated
    (slots-fail (record { count = c.more.slots.count; named = map parameter_of c.more.slots.named; rest = spots_of c.more.slots.rest.now }) _
    (sym c.begins_with.ensures.exact ∙ c.more-test.true) (rw (← c.tail-tokens.ensures.exact) c.in_err-slots.ensures.exact)))

pub more-preserved : goal.more-preserved
more-preserved c = record {
  stated =
      sym (slots-more (record { count = c.more.slots.count; named = map parameter_of c.more.slots.named; rest = spots_of c.more.slots.rest.now }) _
      (sym c.begins_with.ensures.exact ∙ c.more-test.true) (rw (← c.tail-tokens.ensures.exact) c.in_ok-slots.ensures.exact)
      (simp length-map (omega (arith, c.in_ok-slots.ensures.shorter, c.tail-tokens.ensures.within))))
      ∙ c.more.invariant.stated;
  within = omega (arith, c.in_ok-slots.ensures.shorter, c.tail-tokens.ensures.within);
}

pub returns-clause-exact : goal.returns-clause-exact
returns-clause-exact c =
    sym c.more.invariant.stated
    ∙ slots-done (record { count = c.more.slots.count; named = map parameter_of c.more.slots.named; rest = spots_of c.more.slots.rest.now })
    (sym c.begins_with.ensures.exact ∙ c.more-test.false)

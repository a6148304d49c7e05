use Rattle.std.proofs.Common.{ap, sym, ◌∙◌}
use Rattle.context.specs.Verdicts.{entry_from_start}
use Rattle.context.proofs.WaysToAssertions.{begun-known, extendable}
use Rattle.context.proofs.assertion.entry_from_start.Goals as goal

pub extended_formula-requires-clause-more : goal.extended_formula-requires-clause-more
extended_formula-requires-clause-more c = (extendable c.args.place.now c.args.entry.now c.in-Some.f c.requires.place c.requires.entry c.in-Some.is).more

pub extended_formula-requires-clause-few : goal.extended_formula-requires-clause-few
extended_formula-requires-clause-few c = (extendable c.args.place.now c.args.entry.now c.in-Some.f c.requires.place c.requires.entry c.in-Some.is).few

pub extended_formula-requires-clause-narrow : goal.extended_formula-requires-clause-narrow
extended_formula-requires-clause-narrow c = (extendable c.args.place.now c.args.entry.now c.in-Some.f c.requires.place c.requires.entry c.in-Some.is).narrow

pub returns-in_ok-made-in-Some-clause-exact : goal.returns-in_ok-made-in-Some-clause-exact
returns-in_ok-made-in-Some-clause-exact c = c.in_ok-made-in-Some.ensures ∙ ap (entry_from_start c.args.place.now) (sym c.in-Some.is)

pub returns-in_ok-made-in-Some-clause-fits : goal.returns-in_ok-made-in-Some-clause-fits
returns-in_ok-made-in-Some-clause-fits c =
    (begun-known c.args.place.now c.args.entry.now c.in_ok-made-in-Some.made c.requires.place c.requires.entry (c.in_ok-made-in-Some.ensures ∙ ap (entry_from_start c.args.place.now) (sym c.in-Some.is))).fits

pub returns-in_ok-made-in-Some-clause-few : goal.returns-in_ok-made-in-Some-clause-few
returns-in_ok-made-in-Some-clause-few c =
    (begun-known c.args.place.now c.args.entry.now c.in_ok-made-in-Some.made c.requires.place c.requires.entry (c.in_ok-made-in-Some.ensures ∙ ap (entry_from_start c.args.place.now) (sym c.in-Some.is))).few

pub returns-in_ok-made-in-Some-clause-holds : goal.returns-in_ok-made-in-Some-clause-holds
returns-in_ok-made-in-Some-clause-holds c =
    (begun-known c.args.place.now c.args.entry.now c.in_ok-made-in-Some.made c.requires.place c.requires.entry (c.in_ok-made-in-Some.ensures ∙ ap (entry_from_start c.args.place.now) (sym c.in-Some.is))).holds

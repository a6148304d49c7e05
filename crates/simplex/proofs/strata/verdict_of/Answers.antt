use Rattle.std.proofs.Common.{rules, refl, length}
use Rattle.std.proofs.lemmas.Option.{slice_get_read}
use Rattle.simplex.proofs.HonestTies.{ties-more}
use Rattle.simplex.proofs.SmallTies.{more_ties_small}
use Rattle.simplex.proofs.strata.verdict_of.Goals as goal

pub loop-place-preserved : goal.loop-place-preserved
loop-place-preserved c = (
  ties-more c.args.strata.now.columns.now c.args.strata.now.lower.now c.args.numbers.now c.args.strata.now.cases.now c.loop-place.place c.loop-place.ties c.push.new.self c.index-strata-place.result c.in-Tied.tie
      c.loop-place.invariant.0 (slice_get_read c.args.strata.now.cases.now (length c.args.strata.now.cases.now) c.loop-place.place c.index-strata-place.result refl (search rules) c.index-strata-place.is) (search rules) (search rules),
  more_ties_small c.args.strata.now c.loop-place.ties c.push.new.self c.in-Tied.tie c.loop-place.invariant.1 (search rules) (search rules),
)

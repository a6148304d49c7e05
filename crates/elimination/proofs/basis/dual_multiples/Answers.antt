use Rattle.std.proofs.Common.{rules, length, arith}
use Rattle.farkas_check.specs.Relations.{entry}
use Rattle.elimination.proofs.BasisSteps.{multiples-more, multiples-end}
use Rattle.elimination.proofs.basis.dual_multiples.Goals as goal

pub loop-place-preserved : goal.loop-place-preserved
loop-place-preserved c =
    multiples-more (length c.args.columns.now) (entry c.args.dual.now (length c.args.probes.now)) c.args.dual.now c.args.probes.now c.args.inners.now c.loop-place.place c.loop-place.made c.append.new.self c.in_ok-multiples.field-0 c.in_ok-taken.taken
    (omega arith) c.requires.asked.inside.each c.requires.dual.each c.loop-place.invariant c.in_ok-taken.ensures.are (search rules) (search rules)

pub returns : goal.returns
returns c = multiples-end (length c.args.columns.now) (entry c.args.dual.now (length c.args.probes.now)) c.args.dual.now c.args.probes.now c.args.inners.now c.loop-place.place c.loop-place.made (omega arith) c.loop-place.invariant

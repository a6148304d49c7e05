use Rattle.std.proofs.Common.{rules, refl}
use Rattle.simplex.specs.declared.strata.KnownRelations.{KnownRelations}
use Rattle.simplex.proofs.Courses.{known-first, turns_first}
use Rattle.simplex.proofs.strata.basis_of.Goals as goal

pub loop-turn-init : goal.loop-turn-init
loop-turn-init c =
    let known : KnownRelations = record { next = 0; start = 0; relations = c.new.result; spots = c.no_spots.result } in (
      known-first c.args.strata.now (record { next = 0; start = 0; relations = c.new.result; spots = c.no_spots.result })
          (c.no_spots.ensures.spots c.args.strata.now.count) c.no_spots.ensures.none c.no_spots.ensures.lines c.no_spots.ensures.scales (search rules) refl refl,
      turns_first c.args.strata.now.count (record { next = 0; start = 0; relations = c.new.result; spots = c.no_spots.result }) refl refl c.no_spots.ensures.lines,
    )

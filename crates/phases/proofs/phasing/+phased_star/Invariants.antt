use Rattle.phases.proofs.phasing.+phased_star.Given as goal

abbrev pub decreases-phased_star : goal.decreases-phased_star
decreases-phased_star g l = l.depth

use Rattle.elimination.proofs.null_vectors.null_vector.Goals as goal

pub solution-requires : goal.solution-requires
solution-requires c = record { few = c.requires.few; wide = c.requires.wide; small = c.requires.small; regular = c.requires.regular }

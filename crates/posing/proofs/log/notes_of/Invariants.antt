use Rattle.std.proofs.Common.{◌≡◌, take, map}
use Rattle.posing.specs.declared.note.Note.TheVariants as note
use Rattle.posing.proofs.log.notes_of.Given as goal

abbrev pub invariant-loop-loss : goal.invariant-loop-loss
invariant-loop-loss l = l.notes ≡ map (λ loss. note.Loss loss) (take l.loss-index l.losses)

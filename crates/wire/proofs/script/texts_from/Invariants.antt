use Rattle.std.proofs.Common.{◌≡◌, ◌+◌, ◌∷◌, drop}
use Rattle.std.specs.Prelude.{Ok}
use Rattle.items.specs.Gives.{◌>>=◌}
use Rattle.wire.specs.Edits.{texts_after, texts_from}
use Rattle.wire.proofs.Lists.{behind}
use Rattle.wire.proofs.script.texts_from.Given as goal

-- the texts so far, the last of them, and then those after the edits that are left
abbrev pub invariant-loop-place : goal.invariant-loop-place
invariant-loop-place l = behind l.made (texts_after (l.place + 1) l.last (drop l.place l.edits) >>= λ more. Ok (l.last ∷ more))
    ≡ texts_from l.initial.last l.edits

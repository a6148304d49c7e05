-- A computation whose notes come with its value, in place of being noted.
use Rattle.std.specs.Prelude.{List, [], ◌++◌}
use Rattle.posing.specs.declared.note.Note.{Note}
use Rattle.posing.specs.Posing.{Posing, Done, Noted, Asked}

-- the value with its notes behind these; the questions stay as they are
unfoldable pub apart_from : {A : Type 0} → List Note → Posing A → Posing (A × List Note)
apart_from before (Done value) = Done (value, before)
apart_from before (Noted notes next) = apart_from (before ++ notes) next
apart_from before (Asked question next) = Asked question (λ answer. apart_from before (next answer))

-- the value with all notes, in the order in which they were noted
abbrev pub apart : {A : Type 0} → Posing A → Posing (A × List Note)
apart p = apart_from [] p

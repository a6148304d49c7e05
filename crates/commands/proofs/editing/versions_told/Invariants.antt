use Rattle.commands.specs.Editing.{AreToldSoFar, HoldsFound}
use Rattle.commands.proofs.editing.versions_told.Given as goal

abbrev pub invariant-loop-number : goal.invariant-loop-number
invariant-loop-number l =
    record {
      held : HoldsFound l.session;
      told : AreToldSoFar l.texts l.number l.session.last l.lines.bytes.items l.last;
    }

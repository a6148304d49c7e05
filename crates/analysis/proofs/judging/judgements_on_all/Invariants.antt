use Rattle.std.proofs.Common.{◌≡◌, [], drop, length}
use Rattle.std.specs.List.{range_with_len}
use Rattle.posing.specs.Follows.{Leads}
use Rattle.posing.specs.Posing.{each}
use Rattle.context.specs.Claims.{EntriesHold, FlowsHold}
use Rattle.analysis.specs.Claims.{AreJudged, AreRefuted}
use Rattle.analysis.specs.Judging.{with_judged}
use Rattle.analysis.proofs.judging.judgements_on_all.Given as goal

abbrev pub invariant-loop-n : goal.invariant-loop-n
invariant-loop-n g l =
    record {
      leads : Leads g.O.Oracle.asking l.initial.oracle l.oracle l.initial.log l.log
          (each (with_judged l.program l.places l.entries l.flows) [] (range_with_len 1 (length l.program.checks)))
          (each (with_judged l.program l.places l.entries l.flows) l.made (drop l.n (range_with_len 1 (length l.program.checks))));
      long : length l.made ≡ l.n;
      sound : EntriesHold l.program l.entries → FlowsHold l.program l.flows → AreJudged l.program l.made;
      refuted : AreRefuted l.made;
    }

use Rattle.std.proofs.Common.{◌∙◌, ap, get_or, length, refl}
use Rattle.std.proofs.lemmas.List.{length-set}
use Rattle.newton_rounds.proofs.KnownTables.{one-placed}
use Rattle.newton_rounds.proofs.tables.with_table.Goals as goal

pub loop-place-preserved : goal.loop-place-preserved
loop-place-preserved c =
    let procs = c.args.procs.now in
    let place = c.loop-place.place in
    let all = c.loop-place.all.items in
    record {
      long = ap length c.formulas_with-all.ensures ∙ length-set all (get_or procs place 0) c.in_ok-f.f ∙ c.loop-place.invariant.long;
      made =
          one-placed place (get_or procs place 0) procs c.args.table.now all c.formulas_with-all.result.items c.in_ok-f.f c.loop-place-test.true refl c.in_ok-f.ensures c.formulas_with-all.ensures
          ∙ c.loop-place.invariant.made;
    }

use Rattle.std.proofs.Common.{◌≡◌, ◌+◌, ◌++◌, ap, append_assoc, drop, subst, sym, ◌∙◌, map}
use Rattle.std.specs.Prelude.{Ok}
use Rattle.std.proofs.Math.ListN.{drop_of_length-le}
use Rattle.serde_json.specs.View.{view}
use Rattle.wire.specs.Written.{read_then}
use Rattle.wire.proofs.Lists.{next_left, read_then-end}
use Rattle.wire.proofs.shape.values.Goals as goal

pub loop-value-preserved : goal.loop-value-preserved
loop-value-preserved g c =
    let left = next_left c.args.list.now c.loop-value.value-index c.value-item.result c.value-item.is c.loop-value-test.true in (
      rw (c.in_ok-add_part.ensures.written, append_assoc)
          (subst (λ xs. map view c.loop-value.parts.items ++ map g.T.Written.writes xs ≡ map g.T.Written.writes c.args.list.now) left c.loop-value.invariant.0),
      c.in_ok-add_part.ensures.back (drop (c.loop-value.value-index + 1) c.args.list.now)
          ∙ subst (λ xs. read_then g.T.Shape.reads (map view c.loop-value.parts.items) xs ≡ Ok c.args.list.now) left c.loop-value.invariant.1,
    )

-- no value is left to write
pub returns-clause-back : goal.returns-clause-back
returns-clause-back g c = read_then-end g.T.Shape.reads (map view c.loop-value.parts.items) c.args.list.now
    (ap (read_then g.T.Shape.reads (map view c.loop-value.parts.items)) (sym (drop_of_length-le c.args.list.now c.loop-value-test.false)) ∙ c.loop-value.invariant.1)

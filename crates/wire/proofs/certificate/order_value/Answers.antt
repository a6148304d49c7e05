use Rattle.serde_json.specs.View.{view}
use Rattle.wire.proofs.Places.{list-place}
use Rattle.wire.proofs.certificate.order_value.Goals as goal

pub returns-clause-back : goal.returns-clause-back
returns-clause-back c = list-place c.args.count (view c.in_ok-part.part) c.args.order.now c.in_ok-part.ensures.back c.requires

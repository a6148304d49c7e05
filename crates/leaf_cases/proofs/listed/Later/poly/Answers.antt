use Rattle.leaf_cases.proofs.AuxiliaryMoves.{moved_numbered, moved_order, moved_made}
use Rattle.leaf_cases.proofs.listed.Later.poly.Goals as goal

pub renumbered_poly-requires-clause-numbered : goal.renumbered_poly-requires-clause-numbered
renumbered_poly-requires-clause-numbered c = moved_numbered c.args.self.now.first c.args.self.now.count c.args.self.now.numbers.now c.args.poly.now c.requires.numbers c.requires.numbered

pub renumbered_poly-requires-clause-order : goal.renumbered_poly-requires-clause-order
renumbered_poly-requires-clause-order c = moved_order c.args.self.now.first c.args.self.now.count c.args.self.now.numbers.now c.args.poly.now c.requires.numbers c.requires.numbered

pub returns : goal.returns
returns c = moved_made c.args.self.now.first c.args.self.now.count c.args.self.now.numbers.now c.args.poly.now c.in_ok-renumbered_poly.field-0 c.requires.numbers c.requires.numbered c.in_ok-renumbered_poly.ensures

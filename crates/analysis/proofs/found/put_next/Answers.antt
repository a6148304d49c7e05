use Rattle.std.proofs.Common.{◌∙◌, sym}
use Rattle.std.specs.Vec.Iter.{into_iter_items}
use Rattle.analysis.proofs.Puts.{put-none}
use Rattle.analysis.proofs.found.put_next.Goals as goal

pub returns-in-None-clause-put : goal.returns-in-None-clause-put
returns-in-None-clause-put g c = λ more.
    let at = c.in-None.ensures in
    put-none c.args.place more (into_iter_items c.next.new.self) (into_iter_items c.args.left.now) c.args.all.items at.items (sym c.next.new.self.rest.ok.0 ∙ at.cases.1)

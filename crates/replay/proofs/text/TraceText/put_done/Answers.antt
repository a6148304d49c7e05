use Rattle.std.proofs.Common.{codes, rules}
use Rattle.std.specs.Int.{w128}
use Rattle.std.proofs.lemmas.Int.{to_z-of_z}
use Rattle.replay.proofs.Texts.{two-parts}
use Rattle.replay.proofs.text.TraceText.put_done.Goals as goal

pub returns : goal.returns
returns c =
    let returned = rw (to_z-of_z w128 c.args.value (search rules)) at c.put_returned.ensures in
    two-parts c.put_returned.result _ _ _ (codes "main returned") _ c.in_ok-put.ensures returned

use Rattle.std.proofs.Common.{◌≡◌, drop}
use Rattle.farkas_check.specs.Tested.{tested_certs}
use Rattle.farkas_check.proofs.passing.tested_certs.Given as goal

abbrev pub invariant-loop-i : goal.invariant-loop-i
invariant-loop-i l = tested_certs l.at (drop l.i l.goals) (drop l.i l.certs) ≡ tested_certs l.at l.goals l.certs

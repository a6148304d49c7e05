use Rattle.point_induction.specs.Induction.{sayings_of}
use Rattle.point_induction.proofs.Truth.{kept_sayings_are_true}
use Rattle.point_induction.proofs.laws.kept_assertions_are_true.Goals as goal

pub returns : goal.returns
returns c = λ program asserted kept. kept_sayings_are_true program (sayings_of asserted) kept

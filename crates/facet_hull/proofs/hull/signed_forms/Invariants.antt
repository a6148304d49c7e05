use Rattle.std.proofs.Common.{◌≡◌, drop}
use Rattle.cones.specs.InBits.{behind, all_of}
use Rattle.facet_hull.specs.InBits as in_bits
use Rattle.facet_hull.proofs.hull.signed_forms.Given as goal

abbrev pub invariant-loop-form : goal.invariant-loop-form
invariant-loop-form l = behind l.made (all_of in_bits.both_signs (drop l.form-index l.forms)) ≡ all_of in_bits.both_signs l.forms

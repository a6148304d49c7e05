use Rattle.std.proofs.Common.{map, refl, sym, ◌∙◌}
use Rattle.linear_terms.specs.declared.col.Col.TheVariants.{At}
use Rattle.linear_terms.specs.Polynomial.{column_of}
use Rattle.recurrence.proofs.Along.{maps-twice}
use Rattle.recurrence.proofs.RisingNumbers.{entries-ascend}
use Rattle.recurrence.proofs.terms.start_of.Goals as goal

pub returns : goal.returns
returns c =
    let vs = c.args.variables.now in
    let entries = c.as_slice.ensures ∙ c.in_ok-entries.ensures ∙ sym (maps-twice column_of (λ v. At v) (λ v. column_of (At v)) vs (λ v. refl)) in
    c.linear.ensures (map (λ v. At v) vs) (entries-ascend vs c.requires) entries

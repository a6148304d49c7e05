use Rattle.std.proofs.Common.{◌≡◌, Ok, rules}
use Rattle.linear_terms.specs.Operations.{substituted_polynomial}
use Rattle.linear_terms.specs.Auxiliaries.{put_for}
use Rattle.linear_terms.proofs.Values.{substituted-value}
use Rattle.linear_terms.proofs.auxiliaries.subst_aux.Goals as goal

pub returns-clause-value : goal.returns-clause-value
returns-clause-value c at =
    let f = put_for c.args.aux c.args.by.now in
    let exact : substituted_polynomial f c.args.a.now ≡ Ok c.in_ok-made.made = search rules in
    substituted-value at f c.args.a.now c.in_ok-made.made exact

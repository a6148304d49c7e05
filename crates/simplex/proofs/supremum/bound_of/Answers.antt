use Rattle.std.proofs.Common.{rules, refl, length, IfErr, ◌≡◌, get_or, [], sym, subst, ℤ, List}
use Rattle.std.proofs.lemmas.List.{get_or_read}
use Rattle.simplex.specs.Calm.{IsSmallLine}
use Rattle.simplex.specs.Refusal.{IsRefusalIn}
use Rattle.items.specs.Gives.{Gives}
use Rattle.farkas_check.specs.declared.answer.Cert.{Cert}
use Rattle.simplex.specs.Exchange.{cause}
use Rattle.simplex.specs.SearchSteps.{IsTableauIn}
use Rattle.simplex.specs.Suprema.{certificate_of}
use Rattle.simplex.proofs.Overruns.{refused}
use Rattle.simplex.proofs.Stops.{numbers_stop, certificate_stops}
use Rattle.simplex.proofs.supremum.bound_of.Goals as goal

pub returns-in_err-cert-clause-refusal : goal.returns-in_err-cert-clause-refusal
returns-in_err-cert-clause-refusal g c =
    let own : c.as_slice.result.now ≡ get_or c.args.t.now.lines c.args.goal [] = get_or_read c.args.t.now.lines c.args.goal c.as_slice.result.now (search rules) (search rules) [] in
    let exact : Gives cause (λ (cert : Cert). cert) c.certificate.result (certificate_of c.args.constants c.args.goal c.as_slice.result.now) = search rules in
    let known : IfErr c.certificate.result (IsRefusalIn g.over (length c.args.t.now.lines)) =
    let of : IsTableauIn g.over (length c.args.t.now.lines) c.args.t.now = record { many = refl; tableau = c.requires.0; primitive = c.requires.1.0 } in
    refused g.over (length c.args.t.now.lines) c.args.t.now of c.certificate.result c.certificate.ensures.refusal
    (λ n room small. c.certificate.ensures.calm n room (subst (λ (line : List ℤ). IsSmallLine n line) (sym own) (λ j. small c.args.goal j)))
    (certificate_stops g.over (length c.args.t.now.lines) c.args.t.now of c.args.constants c.args.goal c.as_slice.result.now c.certificate.result c.requires.1.1.0 own exact) in search rules

pub returns-in_err-point-clause-refusal : goal.returns-in_err-point-clause-refusal
returns-in_err-point-clause-refusal g c =
    let known : IfErr c.corner.result (IsRefusalIn g.over (length c.args.t.now.lines)) =
    let of : IsTableauIn g.over (length c.args.t.now.lines) c.args.t.now = record { many = refl; tableau = c.requires.0; primitive = c.requires.1.0 } in
    refused g.over (length c.args.t.now.lines) c.args.t.now of c.corner.result c.corner.ensures.refusal c.corner.ensures.calm
    (numbers_stop g.over (length c.args.t.now.lines) c.args.t.now of c.args.constants c.corner.result c.requires.1.1.0 c.corner.ensures.step) in search rules

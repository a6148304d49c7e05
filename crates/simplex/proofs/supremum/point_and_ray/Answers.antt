use Rattle.std.proofs.Common.{rules, refl, length, IfErr}
use Rattle.simplex.specs.Refusal.{IsRefusalIn}
use Rattle.simplex.specs.SearchSteps.{IsTableauIn}
use Rattle.simplex.proofs.Overruns.{refused}
use Rattle.simplex.proofs.Stops.{numbers_stop, slopes_stop}
use Rattle.simplex.proofs.supremum.point_and_ray.Goals as goal

pub returns-in_err-point-clause-refusal : goal.returns-in_err-point-clause-refusal
returns-in_err-point-clause-refusal g c =
    let known : IfErr c.corner.result (IsRefusalIn g.over (length c.args.t.now.lines)) =
    let of : IsTableauIn g.over (length c.args.t.now.lines) c.args.t.now = record { many = refl; tableau = c.requires.0; primitive = c.requires.1.0 } in
    refused g.over (length c.args.t.now.lines) c.args.t.now of c.corner.result c.corner.ensures.refusal c.corner.ensures.calm
    (numbers_stop g.over (length c.args.t.now.lines) c.args.t.now of c.args.constants c.corner.result c.requires.1.1.0 c.corner.ensures.step) in search rules

pub returns-in_err-ray-clause-refusal : goal.returns-in_err-ray-clause-refusal
returns-in_err-ray-clause-refusal g c =
    let known : IfErr c.ray.result (IsRefusalIn g.over (length c.args.t.now.lines)) =
    let of : IsTableauIn g.over (length c.args.t.now.lines) c.args.t.now = record { many = refl; tableau = c.requires.0; primitive = c.requires.1.0 } in
    refused g.over (length c.args.t.now.lines) c.args.t.now of c.ray.result c.ray.ensures.refusal c.ray.ensures.calm
    (slopes_stop g.over (length c.args.t.now.lines) c.args.t.now of c.args.column c.args.up c.ray.result c.ray.ensures.step) in search rules

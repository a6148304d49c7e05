use Rattle.std.proofs.Common.{rules, ◌≡◌, List, refl, sym, subst}
use Rattle.std.specs.Map.{keys_of}
use Rattle.linear_terms.specs.declared.col.Col.{Col}
use Rattle.farkas_check.specs.Columns.{columns}
use Rattle.farkas_check.proofs.Spreads.{AreAmong}
use Rattle.simplex.specs.Suprema.{IsSupremumOver}
use Rattle.simplex.proofs.MergedColumns.{columns-own}
use Rattle.simplex.proofs.OwnColumns.{case_columns}
use Rattle.simplex.proofs.next_supremum.supremum_with.Goals as goal

pub ray_supremum-requires : goal.ray_supremum-requires
ray_supremum-requires c =
    let is : c.as_slice-in-Some-2.result.now ≡ columns c.args.rows.now c.args.objective.now.terms = search rules in (
      refl,
      (case_columns c.as_slice-in-Some-2.result.now c.args.rows.now c.args.objective.now is, (c.requires.own, (c.requires.met, search rules))),
    )

pub returns-in_ok-found-in-Some-clause-supremum : goal.returns-in_ok-found-in-Some-clause-supremum
returns-in_ok-found-in-Some-clause-supremum c =
    let is : c.as_slice-in-Some-2.result.now ≡ columns c.args.rows.now c.args.objective.now.terms = search rules in
    subst (λ (cs : List (List Col)). IsSupremumOver cs c.args.rows.now c.args.objective.now c.args.budget c.in_ok-found-in-Some.found) is (c.in_ok-found-in-Some.ensures.supremum c.args.budget)

pub returns-in_ok-found-in-None-clause-supremum : goal.returns-in_ok-found-in-None-clause-supremum
returns-in_ok-found-in-None-clause-supremum c =
    let among : AreAmong (keys_of c.args.objective.now.terms) c.args.corner.columns = search rules in
    subst (λ (cs : List (List Col)). IsSupremumOver cs c.args.rows.now c.args.objective.now c.args.budget c.in_ok-found-in-None.found) (sym (columns-own c.args.rows.now c.args.objective.now.terms c.args.corner.columns c.requires.own among)) c.in_ok-found-in-None.ensures.supremum

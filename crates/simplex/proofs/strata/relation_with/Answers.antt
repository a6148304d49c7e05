use Rattle.std.proofs.Common.{rules, length, refl}
use Rattle.simplex.proofs.RelationParts.{relation_of_parts}
use Rattle.simplex.proofs.strata.relation_with.Goals as goal
use mir.Val.{to_z, of_z}
use mir.Syntax.{w128}

pub returns : goal.returns
returns c =
    relation_of_parts c.args.strata.now.terms (length c.args.strata.now.lower.now) c.args.numbers.now c.split_at.result.1.now c.args.ties
    (record { a = c.in_ok-a.a; b = c.in_ok-b.b; c = to_z w128 (of_z w128 c.entry.result); ties = c.args.ties }) c.requires (search rules) (search rules) (search rules) (search rules) refl

use Rattle.std.proofs.Common.{sym, ap, ◌∙◌}
use Rattle.std.specs.List.{list_any}
use Rattle.linear_terms.specs.Equality.{poly_eq}
use Rattle.vocabularies.proofs.Rooms.{term-new, term-known}
use Rattle.vocabularies.proofs.comparisons.add_term.Goals as goal

pub returns-in_ok-push : goal.returns-in_ok-push
returns-in_ok-push c =
    c.in_ok-push.ensures.ok
    ∙ term-new c.args.terms.now c.args.term c.requires (ap (list_any (poly_eq c.args.term)) (sym c.as_slice.ensures) ∙ sym c.is_known.ensures ∙ c.if-not-is_known.true)

pub returns-else-not-is_known : goal.returns-else-not-is_known
returns-else-not-is_known c =
    term-known c.args.terms.now c.args.term c.requires (ap (list_any (poly_eq c.args.term)) (sym c.as_slice.ensures) ∙ sym c.is_known.ensures ∙ c.if-not-is_known.false)

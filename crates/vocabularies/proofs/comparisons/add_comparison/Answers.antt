use Rattle.std.proofs.Common.{◌≤◌, sym, ap, subst, ◌∙◌}
use Rattle.std.specs.Prelude.{option_to_list}
use Rattle.syntax_tree.specs.Term.{term_of}
use Rattle.vocabularies.specs.Harvest.{compared_term}
use Rattle.vocabularies.specs.Room.{with_terms}
use Rattle.vocabularies.proofs.Rooms.{term-full, with_terms-none}
use Rattle.vocabularies.proofs.comparisons.add_comparison.Goals as goal

pub returns-then-len-ge-MOST_TERMS : goal.returns-then-len-ge-MOST_TERMS
returns-then-len-ge-MOST_TERMS c =
    term-full c.args.terms.now (option_to_list (compared_term c.args.op (term_of c.args.left.now) (term_of c.args.right.now))) (subst (λ n. 32 ≤ n) c.len.ensures c.if-len-ge-MOST_TERMS.true)

pub returns-in-None : goal.returns-in-None
returns-in-None c =
    sym (with_terms-none c.args.terms.now) ∙ ap (λ term. with_terms c.args.terms.now (option_to_list term)) (sym c.in-None.is ∙ c.in_ok-term.ensures)

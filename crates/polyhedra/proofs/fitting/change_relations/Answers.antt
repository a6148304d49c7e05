use Rattle.std.proofs.Common.{Some, map, ap, sym, subst, refl, ◌∙◌}
use Rattle.std.specs.Prelude.{IsTrue}
use Rattle.farkas_check.specs.Relations.{have_equally_many}
use Rattle.polyhedra.specs.Changes.{changes_of}
use Rattle.polyhedra.specs.Relations.{relations_of}
use Rattle.polyhedra.specs.Squash.{change_after, entries_of, with_relations, change_relations}
use Rattle.posing.proofs.Following.{stops}
use Rattle.posing.proofs.Steps.{value_first, error_first, at_end, in_other_words}
use Rattle.polyhedra.proofs.Coverage.{equally_many}
use Rattle.polyhedra.proofs.RelationRows.{noted_rows}
use Rattle.polyhedra.proofs.fitting.change_relations.Goals as goal

pub stratum_of-requires : goal.stratum_of-requires
stratum_of-requires g c = subst (λ cs. IsTrue (have_equally_many cs)) (sym c.requires.cases) (equally_many c.args.fitting.one c.args.fitting.f.now)

pub returns-in_err-lower : goal.returns-in_err-lower
returns-in_err-lower g c = stops _ _ _ _ _ _ refl c.from_residual.ensures.1

pub related_rows-requires : goal.related_rows-requires
related_rows-requires g c = c.requires.few

pub returns-in_err-found : goal.returns-in_err-found
unfolding change_relations
returns-in_err-found g c =
    let asked =
    ap (λ s. relations_of s.cases s.lower) c.stratum_of.ensures
    ∙ (λ i. relations_of (c.requires.cases i) (c.in_ok-lower.ensures i))
    ∙ ap (λ vs. relations_of (changes_of c.args.fitting.one c.args.fitting.f.now) (entries_of vs)) c.requires.occurring in
    error_first _ c.in_err-found.ensures asked c.from_residual-in_err-found.ensures.1

pub returns-in-None : goal.returns-in-None
unfolding change_relations
returns-in-None g c =
    let asked =
    ap (λ s. relations_of s.cases s.lower) c.stratum_of.ensures
    ∙ (λ i. relations_of (c.requires.cases i) (c.in_ok-lower.ensures i))
    ∙ ap (λ vs. relations_of (changes_of c.args.fitting.one c.args.fitting.f.now) (entries_of vs)) c.requires.occurring in
    value_first _ c.in_ok-found.ensures asked (in_other_words (ap (with_relations _ _) (sym c.in-None.is)) (at_end c.new.ensures))

pub returns-in_err-related_rows-in-Some : goal.returns-in_err-related_rows-in-Some
unfolding change_relations
returns-in_err-related_rows-in-Some g c =
    let asked =
    ap (λ s. relations_of s.cases s.lower) c.stratum_of.ensures
    ∙ (λ i. relations_of (c.requires.cases i) (c.in_ok-lower.ensures i))
    ∙ ap (λ vs. relations_of (changes_of c.args.fitting.one c.args.fitting.f.now) (entries_of vs)) c.requires.occurring in
    value_first _ c.in_ok-found.ensures asked
    (stops _ _ _ _ _ _ c.in_err-related_rows-in-Some.ensures.noted c.from_residual-in_err-related_rows-in-Some.ensures.1)

pub returns-in_ok-related_rows-in-Some : goal.returns-in_ok-related_rows-in-Some
unfolding change_relations
returns-in_ok-related_rows-in-Some g c =
    let f = c.args.fitting.f.now in
    let asked =
    ap (λ s. relations_of s.cases s.lower) c.stratum_of.ensures
    ∙ (λ i. relations_of (c.requires.cases i) (c.in_ok-lower.ensures i))
    ∙ ap (λ vs. relations_of (changes_of c.args.fitting.one f) (entries_of vs)) c.requires.occurring in
    value_first _ c.in_ok-found.ensures asked
    (in_other_words ((λ i. with_relations (map (change_after c.args.fitting.one (c.requires.modified i)) (c.requires.moving i)) (entries_of (c.requires.occurring i)) (Some (c.as_slice-relations.ensures i))) ∙ ap (with_relations _ _) (sym c.in-Some.is))
    (noted_rows _ _ g.O.Oracle.asking _ c.as_slice-relations.result.now _ _ c.in_ok-related_rows-in-Some.field-0 c.in_ok-related_rows-in-Some.ensures.noted c.in_ok-related_rows-in-Some.ensures.exact))

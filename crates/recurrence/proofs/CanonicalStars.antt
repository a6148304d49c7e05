-- What fitting and star make of canonical rows is canonical.
use Rattle.std.proofs.Common.{◌≡◌, ℤ, pos, Bool, true, false, List, [], ◌∷◌, map, Option, Some, None, Ok, subst}
use Rattle.std.specs.Prelude.{option_to_list, if◌then◌else◌}
use Rattle.std.specs.List.{AllByRecursion}
use Rattle.items.specs.Gives.{◌>>=◌ as ◌>>>=◌}
use Rattle.items.proofs.Gives.{on_ok}
use Rattle.items.proofs.Each.{each-any, each-append, each-more}
use Rattle.linear_terms.specs.declared.row.Row.{Row}
use Rattle.linear_terms.specs.declared.row.Case.{Case}
use Rattle.linear_terms.specs.declared.row.Kind.TheVariants.{Equal}
use Rattle.linear_terms.specs.Expressions.{Made, ◌⊟◌, whole, weighted_sum, sum_from, equation, put_into}
use Rattle.linear_terms.specs.Operations.{sum_of_polys, product_of_polys}
use Rattle.linear_terms.specs.Polynomial.{Polynomial, IsCanonical, constant_of}
use Rattle.linear_terms.proofs.Canonical.{IsCanonical-nil, IsCanonical-sum_of_polys}
use Rattle.transition_formula.specs.Composition.{identity_of, union_of}
use Rattle.transition_formula.specs.Transition.{Transition, is_fitted}
use Rattle.farkas_check.specs.declared.stratum.Relation.{Relation}
use Rattle.posing.specs.Posing.{Done, ◌>>=◌, each, Always}
use Rattle.posing.proofs.Paths.{always_any, always_bind}
use Rattle.polyhedra.specs.Bounds.{after_row, before_row, rows_with_exit_bound, rows_with_entry_bound, bounded_change, change_row, for_entries, put_in_for}
use Rattle.polyhedra.specs.Changes.{change, changes_of, moving, modified_variables, occurring}
use Rattle.polyhedra.specs.Directions.{directions}
use Rattle.polyhedra.specs.Finish.{finish_of_case}
use Rattle.polyhedra.specs.Relations.{relations_of}
use Rattle.polyhedra.specs.Squash.{are_same, change_after, changes_after, entries_of, fitted_formula, noted_squash, posts_after, change_relations, relation_row, squash_case, squash_rows, squashed_formula, squashed_case, with_bounds, with_differences, with_relation, with_relations}
use Rattle.polyhedra.specs.Vocabulary.{Vocabulary, IsDirectionOver, IsVocabulary}
use Rattle.polyhedra.proofs.DirectionShapes.{directions-over}
use Rattle.polyhedra.proofs.RowShapes.{HasIfMade, bounded-keeps, each-keeps, with_row-keeps}
use Rattle.recurrence.specs.Star.{star_by, star_of, turns}
use Rattle.recurrence.proofs.ColumnShapes.{IsCanonicalIfMade, canonical-Ok, canonical-at_most, canonical-difference, canonical-put_in_for, turns-canonical}
use Rattle.recurrence.proofs.CanonicalOrder.{AreCanonicalCases, IsCanonicalCase, IsCanonicalFormula, IsCanonicalIf, IsCanonicalRow, finished-canonical}

-- ---- sums, and the rows of relations

sum_from-canonical : (total : Polynomial) (ns : List ℤ) (ps : List Polynomial) → IsCanonical total.terms → IsCanonicalIfMade (sum_from total ns ps)
sum_from-canonical total [] ps h = canonical-Ok total h
sum_from-canonical total (n ∷ ns) [] h = canonical-Ok total h
sum_from-canonical total (n ∷ ns) (p ∷ ps) h = record {
  as_made = λ r e.
      on_ok (product_of_polys (constant_of n) p >>>= λ q. sum_of_polys total q) (λ next. sum_from next ns ps) r e (λ next f g.
      on_ok (product_of_polys (constant_of n) p) (λ q. sum_of_polys total q) next f (λ q l m.
      (sum_from-canonical next ns ps (IsCanonical-sum_of_polys total q next m h)).as_made r g));
}

equation-canonical : (a : Made) → IsCanonicalIfMade a → HasIfMade IsCanonicalRow (equation a)
equation-canonical a h row e =
    on_ok a (λ p. Ok record { poly = p; kind = Equal }) row e (λ p f g. let same : p ≡ row.poly = cc in subst (λ q. IsCanonical q.terms) same (h.as_made p f))

abbrev pub AreCanonicalRows : List Row → Type 0
AreCanonicalRows rows = AllByRecursion IsCanonicalRow rows

-- each is canonical
abbrev pub AreCanonicalPolys : List Polynomial → Type 0
AreCanonicalPolys ps = AllByRecursion (λ p. IsCanonical p.terms) ps

pub directions-canonical : (voc : Vocabulary) → IsVocabulary voc → AreCanonicalPolys (directions voc)
directions-canonical voc is = each-more (IsDirectionOver voc.columns) (λ (d : Polynomial). IsCanonical d.terms) (λ d k. k.canonical) (directions voc) (directions-over voc is)

-- ---- bounds

pub before-canonical : (cases : List Case) (rows : List Row) (ds : List Polynomial) → AreCanonicalPolys ds → AreCanonicalRows rows → Always AreCanonicalRows (each (rows_with_entry_bound cases) rows ds)
before-canonical cases rows ds all h =
    each-keeps IsCanonicalRow (λ (d : Polynomial). IsCanonical d.terms) (rows_with_entry_bound cases) rows ds
    (λ made d k fine. bounded-keeps IsCanonicalRow cases (λ case. Ok d) (before_row d) made (λ most. (canonical-at_most (Ok d ⊟ whole most) (canonical-difference (Ok d) (whole most) (canonical-Ok d k))).as_made) fine) all h

pub after-canonical : (cases : List Case) (after : List Polynomial) (rows : List Row) (ds : List Polynomial) → AreCanonicalRows rows → Always AreCanonicalRows (each (rows_with_exit_bound cases after) rows ds)
after-canonical cases after rows ds h =
    each-keeps IsCanonicalRow (λ d. Unit {0}) (rows_with_exit_bound cases after) rows ds
    (λ made d k fine. bounded-keeps IsCanonicalRow cases (λ case. put_in_for case.post d) (after_row after d) made
    (λ most. (canonical-at_most (put_in_for after d ⊟ whole most) (canonical-difference (put_in_for after d) (whole most) (canonical-put_in_for after d))).as_made) fine)
    (each-any (λ d. Unit {0}) (λ d. tt) ds) h

-- ---- squashing

module _ (one : Bool) (f : Transition) where
  relation-canonical : (terms lower : List Polynomial) (rows : List Row) (r : Relation) → AreCanonicalRows rows → Always AreCanonicalRows (with_relation terms lower rows r)
  relation-canonical terms lower rows r h =
      with_row-keeps IsCanonicalRow rows (relation_row terms lower r)
      (equation-canonical (weighted_sum r.a terms ⊟ weighted_sum r.b lower ⊟ whole r.c)
      (canonical-difference (weighted_sum r.a terms ⊟ weighted_sum r.b lower) (whole r.c)
      (canonical-difference (weighted_sum r.a terms) (weighted_sum r.b lower) (sum_from-canonical (constant_of (pos 0)) r.a terms IsCanonical-nil)))) h

  relations-canonical : (terms lower : List Polynomial) (found : Option (List Relation)) → Always AreCanonicalRows (with_relations terms lower found)
  relations-canonical terms lower None = tt
  relations-canonical terms lower (Some relations) =
      each-keeps IsCanonicalRow (λ r. Unit {0}) (with_relation terms lower) [] relations (λ rows r any h. relation-canonical terms lower rows r h) (each-any (λ r. Unit {0}) (λ r. tt) relations) tt

  related-canonical : Always AreCanonicalRows (change_relations one f)
  unfolding change_relations
  related-canonical =
      always_bind (λ found. Unit {0}) AreCanonicalRows (relations_of (changes_of one f) (entries_of (occurring one f)))
      (with_relations (map (change_after one (modified_variables one f)) (moving one f)) (entries_of (occurring one f)))
      (always_any (λ found. Unit {0}) (relations_of (changes_of one f) (entries_of (occurring one f))) (λ found. tt)) (λ found any. relations-canonical _ _ found)

  module _ (from to : Vocabulary) (known : AreCanonicalPolys (directions from)) where
    differences-canonical : (b : Bool) (rows : List Row) → AreCanonicalRows rows → Always AreCanonicalRows (with_differences b f from rows)
    differences-canonical false rows h = h
    differences-canonical true rows h =
        each-keeps IsCanonicalRow (λ d. Unit {0}) (bounded_change f.cases (changes_after true f) None) rows (directions from)
        (λ made d k fine. bounded-keeps IsCanonicalRow f.cases (λ case. put_into (for_entries (change true case)) d) (change_row (changes_after true f) None d) made
        (λ most. (canonical-at_most (put_in_for (changes_after true f) d ⊟ whole most) (canonical-difference (put_in_for (changes_after true f) d) (whole most) (canonical-put_in_for (changes_after true f) d))).as_made) fine)
        (each-any (λ d. Unit {0}) (λ d. tt) (directions from)) h

    squash_rows-canonical : Always AreCanonicalRows (squash_rows one f from to)
    unfolding squash_rows with_bounds
    squash_rows-canonical =
        always_bind AreCanonicalRows AreCanonicalRows (change_relations one f) (with_bounds one f from to) related-canonical
        (λ equations h. always_bind AreCanonicalRows AreCanonicalRows (each (rows_with_entry_bound f.cases) equations (directions from))
        (λ rows. each (rows_with_exit_bound f.cases (posts_after one f)) rows (directions to) >>= λ both. with_differences one f from both)
        (before-canonical f.cases equations (directions from) known h)
        (λ rows k. always_bind AreCanonicalRows AreCanonicalRows (each (rows_with_exit_bound f.cases (posts_after one f)) rows (directions to)) (λ both. with_differences one f from both)
        (after-canonical f.cases (posts_after one f) rows (directions to) k) (λ both l. differences-canonical one both l)))

pub listed-canonical : (left : Option Case) → IsCanonicalIf left → AreCanonicalCases (option_to_list left)
listed-canonical None k = tt
listed-canonical (Some left) k = (k, tt)

module _ (f : Transition) (from to : Vocabulary) (known : AreCanonicalPolys (directions from)) where
  squashed_case-canonical : Always IsCanonicalCase (squashed_case (are_same from to) f from to)
  unfolding squashed_case
  squashed_case-canonical =
      always_bind AreCanonicalRows IsCanonicalCase (squash_rows (are_same from to) f from to) (λ rows. Done (squash_case (are_same from to) f rows))
      (squash_rows-canonical (are_same from to) f from to known) (λ rows h. h)

  squashed-canonical : Always IsCanonicalFormula (squashed_formula f from to)
  unfolding squashed_formula
  squashed-canonical =
      always_bind IsCanonicalCase IsCanonicalFormula (squashed_case (are_same from to) f from to)
      (λ case. finish_of_case case >>= λ left. Done record { from = f.from; to = f.to; cases = option_to_list left }) squashed_case-canonical
      (λ case h. always_bind IsCanonicalIf IsCanonicalFormula (finish_of_case case) (λ left. Done record { from = f.from; to = f.to; cases = option_to_list left })
      (finished-canonical case h) (λ left k. listed-canonical left k))

  pub fitted-canonical : IsCanonicalFormula f → Always IsCanonicalFormula (fitted_formula f from to)
  unfolding fitted_formula noted_squash
  fitted-canonical h = go (is_fitted f.cases)
    where
      go : (b : Bool) → Always IsCanonicalFormula (if b then Done f else noted_squash f from to)
      go true = h
      go false = squashed-canonical

-- ---- star

pub joined-canonical : (a b : Transition) → IsCanonicalFormula a → IsCanonicalFormula b → IsCanonicalFormula (union_of a b)
joined-canonical a b h k = each-append IsCanonicalCase a.cases b.cases h k

pub star-canonical : (body : Transition) (voc : Vocabulary) → AreCanonicalPolys (directions voc) → Always IsCanonicalFormula (star_of body voc)
unfolding star_of
star-canonical body voc known = go body.cases
  where
    go : (cases : List Case) → Always IsCanonicalFormula (star_by body voc cases)
    go [] = (tt, tt)
    go (case ∷ cases) =
        always_bind IsCanonicalIf IsCanonicalFormula (turns body voc >>= finish_of_case) (λ left. Done (union_of (identity_of body.from) record { from = body.from; to = body.to; cases = option_to_list left }))
        (always_bind IsCanonicalCase IsCanonicalIf (turns body voc) finish_of_case (turns-canonical body voc known) (λ c k. finished-canonical c k))
        (λ left h. joined-canonical (identity_of body.from) record { from = body.from; to = body.to; cases = option_to_list left } (tt, tt) (listed-canonical left h))

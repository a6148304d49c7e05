-- Formulas between vocabularies: settled and fitted ones, sequences, joins and repetitions.
use Rattle.std.proofs.Common.{◌≡◌, ℕ, ◌≤◌, ℤ, List, [], ◌∷◌, map, length, refl, sym, ◌∙◌, ap, subst, inl, inr, arith, Ok, Err}
use Rattle.std.specs.Prelude.{IsTrue, Result, ◌&&◌, nat_le, nat_lt}
use Rattle.std.specs.List.{AllByRecursion, list_all, cons_option}
use Rattle.std.proofs.lemmas.Bool.{leb-true}
use Rattle.std.proofs.lemmas.List.{length-map}
use Rattle.std.proofs.lemmas.List.Elements.{All-from_recursion, recursion_from_All}
use Rattle.std.proofs.lemmas.List.Sums.{count_by-le-length}
use Rattle.items.proofs.Each.{each-append, each-map, each-flat_map, each-more, each-both, each-any}
use Rattle.linear_terms.specs.declared.error.TermError.{TermError}
use Rattle.linear_terms.specs.declared.row.Row.{Row}
use Rattle.linear_terms.specs.declared.row.Case.{Case}
use Rattle.linear_terms.specs.Polynomial.{Polynomial, IsCanonical}
use Rattle.linear_terms.specs.Value.{value_of}
use Rattle.linear_terms.proofs.Canonical.{IsCanonical-substituted}
use Rattle.transition_formula.specs.Composition.{Operation, union_of, row_of, rows_by, sequence_of_cases, sequence_of, after_case}
use Rattle.transition_formula.specs.Meaning.{Holds, HoldsSome, numbers, Covers}
use Rattle.transition_formula.specs.Transition.{Transition, IsTransition, IsFitted, IsSolvable, AreSolvable, AreFew, fits}
use Rattle.transition_formula.proofs.ColumnTests.{both, lost, each_from_test, test_from_each}
use Rattle.transition_formula.proofs.FittedFormulas.{fits-solvable}
use Rattle.transition_formula.proofs.Few.{all_few}
use Rattle.transition_formula.proofs.Fitting.{below-true, fitting, joined-fits, sequence_of-fits}
use Rattle.posing.specs.Posing.{Done, Always}
use Rattle.posing.proofs.Paths.{always_bind, always_weaker}
use Rattle.polyhedra.specs.Laws.{HaveCanonicalRows, IsBetween, IsSmall}
use Rattle.polyhedra.specs.Settle.{settled_formula, settled_cases}
use Rattle.polyhedra.specs.Squash.{fitted_formula}
use Rattle.polyhedra.specs.Vocabulary.{Vocabulary}
use Rattle.polyhedra.proofs.FitLaws.{fitted-covers, fitted-small}
use Rattle.polyhedra.proofs.SettleLaws.{settled-covers, settled_cases-fit}
use Rattle.recurrence.specs.Law.{IsStarred}
use Rattle.recurrence.proofs.StarLaws.{always_both}
use Rattle.phases.specs.Law.{IsPhasable, IsPhased}
use Rattle.phases.specs.Repetition.{repetition}
use Rattle.phases.proofs.Repetitions.{repetitions-fit}
use Rattle.checked_tree.specs.Evaluation.{settled_and_fitted}
use Rattle.checked_tree.specs.Law.{IsFrom, IsEnd, IsBetweenEnds}

-- ---- settled and fitted

-- what is small, and between as many columns as one that goes between two vocabularies
pub small-between : (from to : Vocabulary) (f g : Transition) → IsFrom from to f → IsSmall f g → IsBetweenEnds from to g
small-between from to f g is small = record {
  between = record {
    from_is = small.from ∙ is.from_is;
    to_is = small.to ∙ is.to_is;
    fits = subst (λ m. IsTransition m g.to g.cases) (sym small.from) (subst (λ m. IsTransition f.from m g.cases) (sym small.to) small.fits);
  };
  fitted = small.fitted;
}

module _ (from to : Vocabulary) (start : IsEnd from) (end : IsEnd to) where
  pub settled-from : (f : Transition) → IsFrom from to f → Always (IsFrom from to) (settled_formula f)
  unfolding settled_formula
  settled-from f is =
      always_bind (IsTransition f.from f.to) (IsFrom from to) (settled_cases f.cases) (λ cases. Done record { from = f.from; to = f.to; cases = cases })
      (settled_cases-fit f.from f.to f.cases is.fits) (λ cases fit. record { from_is = is.from_is; to_is = is.to_is; fits = fit })

  pub between : (f : Transition) → IsFrom from to f → IsBetween f from to
  between f is = record {
    fits = is.fits;
    starts = sym is.from_is;
    ends = sym is.to_is;
    few_before = subst (λ n. n ≤ 63) (sym is.from_is) start.few;
    few_after = subst (λ n. n ≤ 63) (sym is.to_is) end.few;
    from_is = start.is;
    to_is = end.is;
  }

  pub fitted-between : (f : Transition) → IsFrom from to f → Always (IsBetweenEnds from to) (fitted_formula f from to)
  fitted-between f is = always_weaker (IsSmall f) (IsBetweenEnds from to) (fitted_formula f from to) (λ g. small-between from to f g is) (fitted-small f from to (between f is))

  pub fitted-covered : (f : Transition) → IsFrom from to f → Always (λ g. Covers g f) (fitted_formula f from to)
  fitted-covered f is = fitted-covers f from to (between f is)

  pub settled_and_fitted-between : (f : Transition) → IsFrom from to f → Always (IsBetweenEnds from to) (settled_and_fitted f from to)
  unfolding settled_and_fitted
  settled_and_fitted-between f is =
      always_bind (IsFrom from to) (IsBetweenEnds from to) (settled_formula f) (λ g. fitted_formula g from to) (settled-from f is) (λ g k. fitted-between g k)

  pub settled_and_fitted-covers : (f : Transition) → IsFrom from to f → HaveCanonicalRows f.cases → AreSolvable f.cases → Always (λ g. Covers g f) (settled_and_fitted f from to)
  unfolding settled_and_fitted
  settled_and_fitted-covers f is canonical solvable =
      always_bind (λ g. IsFrom from to g × Covers g f) (λ g. Covers g f) (settled_formula f) (λ g. fitted_formula g from to)
      (always_both (IsFrom from to) (λ g. Covers g f) (settled_formula f) (settled-from f is) (settled-covers f canonical solvable))
      (λ g k. always_weaker (λ h. Covers h g) (λ h. Covers h f) (fitted_formula g from to) (λ h covers before after held. covers before after (k.1 before after held)) (fitted-covered g k.0))

-- ---- cases of a fitted formula

abbrev pub IsFewCase : Case → Type 0
IsFewCase case = case.aux ≤ 64

pub few-cases : (cases : List Case) → IsFitted cases → AllByRecursion IsFewCase cases
few-cases cases fit =
    each_from_test (λ case. nat_le (length case.rows) 64 && nat_le case.aux 64) IsFewCase
    (λ case h. leb-true case.aux 64 (both (nat_le (length case.rows) 64) (nat_le case.aux 64) h).1) cases
    (both (nat_le (length cases) 16) (list_all (λ case. nat_le (length case.rows) 64 && nat_le case.aux 64) cases) fit).1

-- ---- sequences

module _ (from through to : Vocabulary) (end : IsEnd to) (a b : Transition) (first : IsBetweenEnds from through a) (second : IsBetweenEnds through to b) where
  pub meet : a.to ≡ b.from
  meet = first.between.to_is ∙ sym second.between.from_is

  pub sequence-from : IsFrom from to (sequence_of a b)
  sequence-from = record {
    from_is = first.between.from_is;
    to_is = second.between.to_is;
    fits = sequence_of-fits a b meet first.between.fits second.between.fits;
  }

  abbrev IsShort : Case → Type 0
  IsShort case = IsFewCase case × (length case.post ≤ 63)

  shorts : AllByRecursion IsShort b.cases
  shorts =
      each-both IsFewCase (λ (case : Case). length case.post ≤ 63) b.cases (few-cases b.cases second.fitted)
      (each_from_test (fits b.from b.to) (λ (case : Case). length case.post ≤ 63)
      (λ case h. subst (λ n. n ≤ 63) (sym ((fitting b.from b.to case h).length_is ∙ second.between.to_is)) end.few) b.cases second.between.fits)

  abbrev IsFewer : Case → Type 0
  IsFewer case = case.aux ≤ 1000

  both-fewer : (x y : Case) → IsFewCase x → IsShort y → IsFewer (sequence_of_cases x y)
  both-fewer x y h k = let lost_most = count_by-le-length (lost (after_case x y)) y.post in let one = k.0 in let two = k.1 in omega arith

  sequence-fewer : AllByRecursion IsFewer (sequence_of a b).cases
  sequence-fewer =
      each-flat_map IsFewCase IsFewer (λ x. map (sequence_of_cases x) b.cases)
      (λ x h. each-map IsShort IsFewer (sequence_of_cases x) (λ y k. both-fewer x y h k) b.cases shorts) a.cases (few-cases a.cases first.fitted)

  pub sequence-solvable : AreSolvable (sequence_of a b).cases
  sequence-solvable =
      All-from_recursion IsSolvable (sequence_of a b).cases
      (each-more (λ (case : Case). IsFewer case × IsTrue (fits a.from b.to case)) IsSolvable
      (λ case h. let few = h.0 in let small = subst (λ n. n ≤ 63) (sym second.between.to_is) end.few in fits-solvable a.from b.to case h.1 (omega arith)) (sequence_of a b).cases
      (each-both IsFewer (λ case. IsTrue (fits a.from b.to case)) (sequence_of a b).cases sequence-fewer
      (each_from_test (fits a.from b.to) (λ case. IsTrue (fits a.from b.to case)) (λ case h. h) (sequence_of a b).cases sequence-from.fits)))

-- ---- rows of sequences are in canonical form

abbrev IsCanonicalRow : Row → Type 0
IsCanonicalRow row = IsCanonical row.poly.terms

abbrev IsCanonicalCase : Case → Type 0
IsCanonicalCase case = AllByRecursion IsCanonicalRow case.rows

rows_by-canonical : (op : Operation) → ((p r : Polynomial) → op p ≡ Ok r → IsCanonical r.terms) → (rows : List Row) → AllByRecursion IsCanonicalRow (rows_by op rows)
rows_by-canonical op makes [] = tt
rows_by-canonical op makes (row ∷ rows) = by_answer (op row.poly) refl (rows_by-canonical op makes rows)
  where
    by_answer : (r : Result Polynomial TermError) → op row.poly ≡ r → AllByRecursion IsCanonicalRow (rows_by op rows) → AllByRecursion IsCanonicalRow (cons_option (row_of row.kind r) (rows_by op rows))
    by_answer (Ok p) e h = (makes row.poly p e, h)
    by_answer (Err x) e h = h

pair-canonical : (x y : Case) → IsCanonicalCase x → IsCanonicalCase (sequence_of_cases x y)
pair-canonical x y h =
    each-append IsCanonicalRow x.rows (rows_by (after_case x y) y.rows) h
    (rows_by-canonical (after_case x y) (λ p r e. IsCanonical-substituted _ p r e) y.rows)

pub sequence-canonical : (a b : Transition) → HaveCanonicalRows a.cases → HaveCanonicalRows (sequence_of a b).cases
sequence-canonical a b h =
    All-from_recursion (λ (case : Case). _) (sequence_of a b).cases
    (each-more IsCanonicalCase (λ (case : Case). _) (λ case k. All-from_recursion IsCanonicalRow case.rows k) (sequence_of a b).cases
    (each-flat_map IsCanonicalCase IsCanonicalCase (λ x. map (sequence_of_cases x) b.cases)
    (λ x k. each-map (λ y. Unit {0}) IsCanonicalCase (sequence_of_cases x) (λ y any. pair-canonical x y k) b.cases (each-any (λ y. Unit {0}) (λ y. tt) b.cases)) a.cases
    (each-more _ IsCanonicalCase (λ (case : Case) k. recursion_from_All IsCanonicalRow case.rows k) a.cases (recursion_from_All _ a.cases h))))

-- ---- joins

module _ (from to : Vocabulary) (a b : Transition) (first : IsBetweenEnds from to a) (second : IsBetweenEnds from to b) where
  pub same_from : a.from ≡ b.from
  same_from = first.between.from_is ∙ sym second.between.from_is

  same_to : a.to ≡ b.to
  same_to = first.between.to_is ∙ sym second.between.to_is

  pub joined-from : IsFrom from to (union_of a b)
  joined-from = record {
    from_is = first.between.from_is;
    to_is = first.between.to_is;
    fits = joined-fits a.from a.to a.cases b.cases first.between.fits
        (subst (λ m. IsTransition m a.to b.cases) (sym same_from) (subst (λ m. IsTransition b.from m b.cases) (sym same_to) second.between.fits));
  }

-- ---- repetitions

module _ (voc : Vocabulary) (end : IsEnd voc) (a : Transition) (body : IsBetweenEnds voc voc a) where
  pub same_ends : a.from ≡ a.to
  same_ends = body.between.from_is ∙ sym body.between.to_is

  few_columns : a.to ≤ 63
  few_columns = subst (λ n. n ≤ 63) (sym body.between.to_is) end.few

  starred : IsStarred a voc
  starred = record {
    body_fits = body.between.fits;
    same_ends = same_ends;
    vocabulary = end.is;
    same_columns = sym body.between.to_is;
    few = let few = few_columns in omega arith;
  }

  pub phasable : IsPhasable a voc
  phasable = record { starred = starred; few_columns = few_columns; few_auxiliaries = few-cases a.cases body.fitted }

  pub repetition-between : Always (IsBetweenEnds voc voc) (repetition a voc)
  repetition-between =
      always_weaker (IsPhased a.to) (IsBetweenEnds voc voc) (repetition a voc)
      (λ g h. record {
        between = record {
          from_is = h.from_is ∙ body.between.to_is;
          to_is = h.to_is ∙ body.between.to_is;
          fits = subst (λ m. IsTransition m g.to g.cases) (sym h.from_is) (subst (λ m. IsTransition a.to m g.cases) (sym h.to_is) h.fits);
        };
        fitted = h.fitted;
      })
      (repetitions-fit a voc phasable)

-- ---- the state after a formula has its columns

pub some-length : (from to : ℕ) (cases : List Case) → IsTransition from to cases → (before after : List ℤ) → HoldsSome cases before after → length after ≡ to
some-length from to [] e before after h = absurd h
some-length from to (case ∷ cases) e before after (inl h) =
    let parts = both (fits from to case) (list_all (fits from to) cases) e in
    sym (ap length h.1.posts) ∙ length-map case.post (value_of (numbers before h.0)) ∙ (fitting from to case parts.0).length_is
some-length from to (case ∷ cases) e before after (inr h) = some-length from to cases (both (fits from to case) (list_all (fits from to) cases) e).1 before after h

pub after-length : (from to : Vocabulary) (f : Transition) → IsBetweenEnds from to f → (before after : List ℤ) → Holds f before after → length after ≡ to.columns
after-length from to f is before after h = some-length f.from f.to f.cases is.between.fits before after h.some ∙ is.between.to_is

-- ---- two fitted formulas have few auxiliaries together

few_test : (cases : List Case) → IsFitted cases → IsTrue (list_all (λ (case : Case). nat_lt case.aux 1000) cases)
few_test cases fit = test_from_each (λ (case : Case). nat_lt case.aux 1000) IsFewCase (λ case h. below-true case.aux 1000 (omega arith)) cases (few-cases cases fit)

pub pair-few : (a b : Transition) → IsFitted a.cases → IsFitted b.cases → b.to ≤ 63 → AreFew a b
pair-few a b h k few = all_few a.cases b.cases b.to (omega arith) (few_test a.cases h) (few_test b.cases k)

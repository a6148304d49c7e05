-- Formulas between vocabularies: settled and fitted ones, sequences and joins.
use Rattle.std.proofs.Common.{◌≡◌, ◌≤◌, List, map, length, refl, sym, ◌∙◌, ap, subst, arith, Bool, true, false, true≢false}
use Rattle.std.specs.Prelude.{IsTrue, ◌&&◌, nat_le, nat_lt, if◌then◌else◌}
use Rattle.std.specs.List.{AllByRecursion, list_all}
use Rattle.std.proofs.lemmas.Bool.{leb-true, le-leb}
use Rattle.std.proofs.lemmas.List.Elements.{All-from_recursion}
use Rattle.std.proofs.lemmas.List.Sums.{count_by-le-length}
use Rattle.items.proofs.Each.{each-map, each-flat_map, each-more, each-both, each_from_test, test_from_each}
use Rattle.linear_terms.specs.declared.row.Case.{Case}
use Rattle.transition_formula.specs.Composition.{union_of, sequence_of_cases, sequence_of, after_case}
use Rattle.transition_formula.specs.Meaning.{Covers}
use Rattle.transition_formula.specs.Transition.{Transition, IsTransition, IsFitted, IsSolvable, AreSolvable, AreFew, fits, is_fitted}
use Rattle.transition_formula.proofs.ColumnTests.{both, both_true, lost}
use Rattle.transition_formula.proofs.FittedFormulas.{fits-solvable}
use Rattle.transition_formula.proofs.Few.{all_few}
use Rattle.transition_formula.proofs.Fitting.{below-true, fitting, joined-fits, sequence_of-fits}
use Rattle.posing.specs.Posing.{Posing, Done, Noted, Asked, Always}
use Rattle.posing.proofs.Paths.{always_bind, always_weaker}
use Rattle.polyhedra.specs.Laws.{HaveCanonicalRows, IsBetween, IsSmall}
use Rattle.polyhedra.specs.Settle.{settled_formula, settled_cases}
use Rattle.polyhedra.specs.Squash.{fitted_formula, noted_squash}
use Rattle.polyhedra.specs.Vocabulary.{Vocabulary}
use Rattle.polyhedra.proofs.FitLaws.{fitted-covers, fitted-small}
use Rattle.polyhedra.proofs.SettleLaws.{settled-covers, settled_cases-fit}
use Rattle.forward_graphs.specs.Law.{IsWalkFormula}
use Rattle.forward_graphs.specs.UnderWay.{AreInSequence}
use Rattle.forward_graphs.specs.Within.{IsWithin, is_within, most_walk_cases, fitted_formula_within, settled_formula_within}

-- ---- two properties at once

pub always-both : {A : Type 0} (P Q : A → Type 0) (p : Posing A) → Always P p → Always Q p → Always (λ x. P x × Q x) p
always-both P Q (Done x) h k = (h, k)
always-both P Q (Noted notes p) h k = always-both P Q p h k
always-both P Q (Asked question next) h k = λ answer is_true. always-both P Q (next answer) (h answer is_true) (k answer is_true)

-- what follows from a premise at every end holds at every end if the premise does
pub always-if : {A C : Type 0} (P : A → Type 0) (p : Posing A) → (C → Always P p) → Always (λ x. C → P x) p
always-if P (Done x) h = h
always-if P (Noted notes p) h = always-if P p h
always-if P (Asked question next) h = λ answer is_true. always-if P (next answer) (λ c. h c answer is_true)

-- ---- fitted

abbrev has_few_parts : Case → Bool
has_few_parts case = nat_le (length case.rows) 64 && nat_le case.aux 64

-- what fits within 16 cases fits within 64
pub fitted-within : (cases : List Case) → IsFitted cases → IsWithin cases
fitted-within cases fit =
    let parts = both (nat_le (length cases) 16) (list_all has_few_parts cases) fit in
    let few : length cases ≤ 16 = leb-true (length cases) 16 parts.0 in
    both_true (nat_le (length cases) 64) (list_all has_few_parts cases) (le-leb (length cases) 64 (omega arith)) parts.1

-- so what does not fit within 64 does not fit within 16
large-unfitted : (cases : List Case) → is_within most_walk_cases cases ≡ false → is_fitted cases ≡ false
large-unfitted cases e = by_test (is_fitted cases) refl
  where
    by_test : (b : Bool) → is_fitted cases ≡ b → is_fitted cases ≡ false
    by_test true fit = absurd (true≢false (sym (fitted-within cases fit) ∙ e))
    by_test false fit = fit

pub small-same : (f : Transition) (from to : Vocabulary) → is_within most_walk_cases f.cases ≡ true → Done f ≡ fitted_formula_within most_walk_cases f from to
unfolding fitted_formula_within
small-same f from to e = ap (λ b. if b then Done f else noted_squash f from to) (sym e)

pub large-same : (f : Transition) (from to : Vocabulary) → is_within most_walk_cases f.cases ≡ false → fitted_formula f from to ≡ fitted_formula_within most_walk_cases f from to
unfolding fitted_formula fitted_formula_within
large-same f from to e =
    ap (λ b. if b then Done f else noted_squash f from to) (large-unfitted f.cases e)
    ∙ ap (λ b. if b then Done f else noted_squash f from to) (sym e)

pub small-between : (from to : Vocabulary) (f g : Transition) → IsBetween f from to → IsSmall f g → IsBetween g from to
small-between from to f g is small = record {
  fits = subst (λ m. IsTransition m g.to g.cases) (sym small.from) (subst (λ m. IsTransition f.from m g.cases) (sym small.to) small.fits);
  starts = is.starts ∙ sym small.from;
  ends = is.ends ∙ sym small.to;
  few_before = subst (λ n. n ≤ 63) (sym small.from) is.few_before;
  few_after = subst (λ n. n ≤ 63) (sym small.to) is.few_after;
  from_is = is.from_is;
  to_is = is.to_is;
}

module _ (from to : Vocabulary) where
  pub fitted-walk : (f : Transition) → IsBetween f from to → Always (IsWalkFormula from to) (fitted_formula_within most_walk_cases f from to)
  fitted-walk f is = by_test (is_within most_walk_cases f.cases) refl
    where
      by_test : (b : Bool) → is_within most_walk_cases f.cases ≡ b → Always (IsWalkFormula from to) (fitted_formula_within most_walk_cases f from to)
      by_test true e = subst (Always (IsWalkFormula from to)) (small-same f from to e) (record { between = is; within = e })
      by_test false e =
          subst (Always (IsWalkFormula from to)) (large-same f from to e)
          (always_weaker (IsSmall f) (IsWalkFormula from to) (fitted_formula f from to)
          (λ g small. record { between = small-between from to f g is small; within = fitted-within g.cases small.fitted })
          (fitted-small f from to is))

  pub fitted-covered : (f : Transition) → IsBetween f from to → Always (λ g. Covers g f) (fitted_formula_within most_walk_cases f from to)
  fitted-covered f is = by_test (is_within most_walk_cases f.cases) refl
    where
      by_test : (b : Bool) → is_within most_walk_cases f.cases ≡ b → Always (λ g. Covers g f) (fitted_formula_within most_walk_cases f from to)
      by_test true e = subst (Always (λ g. Covers g f)) (small-same f from to e) (λ before after h. h)
      by_test false e = subst (Always (λ g. Covers g f)) (large-same f from to e) (fitted-covers f from to is)

  -- ---- settled

  pub settled-between : (f : Transition) → IsBetween f from to → Always (λ g. IsBetween g from to) (settled_formula f)
  unfolding settled_formula
  settled-between f is =
      always_bind (IsTransition f.from f.to) (λ g. IsBetween g from to) (settled_cases f.cases) (λ cases. Done record { from = f.from; to = f.to; cases = cases })
      (settled_cases-fit f.from f.to f.cases is.fits) (λ cases fit. record {
        fits = fit;
        starts = is.starts;
        ends = is.ends;
        few_before = is.few_before;
        few_after = is.few_after;
        from_is = is.from_is;
        to_is = is.to_is;
      })

  pub settled-walk : (f : Transition) → IsBetween f from to → Always (IsWalkFormula from to) (settled_formula_within most_walk_cases f from to)
  unfolding settled_formula_within
  settled-walk f is =
      always_bind (λ g. IsBetween g from to) (IsWalkFormula from to) (settled_formula f) (λ g. fitted_formula_within most_walk_cases g from to) (settled-between f is) (λ g k. fitted-walk g k)

  pub settled-covered : (f : Transition) → IsBetween f from to → HaveCanonicalRows f.cases → AreSolvable f.cases → Always (λ g. Covers g f) (settled_formula_within most_walk_cases f from to)
  unfolding settled_formula_within
  settled-covered f is canonical solvable =
      always_bind (λ g. IsBetween g from to × Covers g f) (λ g. Covers g f) (settled_formula f) (λ g. fitted_formula_within most_walk_cases g from to)
      (always-both (λ g. IsBetween g from to) (λ g. Covers g f) (settled_formula f) (settled-between f is) (settled-covers f canonical solvable))
      (λ g k. always_weaker (λ h. Covers h g) (λ h. Covers h f) (fitted_formula_within most_walk_cases g from to) (λ h covers before after held. covers before after (k.1 before after held)) (fitted-covered g k.0))

-- ---- cases of a formula of walks

abbrev IsFewCase : Case → Type 0
IsFewCase case = case.aux ≤ 64

few-cases : (cases : List Case) → IsWithin cases → AllByRecursion IsFewCase cases
few-cases cases fit =
    each_from_test has_few_parts IsFewCase (λ case h. leb-true case.aux 64 (both (nat_le (length case.rows) 64) (nat_le case.aux 64) h).1) cases
    (both (nat_le (length cases) 64) (list_all has_few_parts cases) fit).1

few-test : (cases : List Case) → IsWithin cases → IsTrue (list_all (λ (case : Case). nat_lt case.aux 1000) cases)
few-test cases fit = test_from_each (λ (case : Case). nat_lt case.aux 1000) IsFewCase (λ case h. below-true case.aux 1000 (omega (arith, h))) cases (few-cases cases fit)

-- ---- sequences

module _ (from to : Vocabulary) (a b : Transition) (is : AreInSequence from to a b) where
  pub meet : a.to ≡ b.from
  meet = sym is.first_is.between.ends ∙ is.second_is.between.starts

  pub sequence-few : AreFew a b
  sequence-few =
      let few = is.second_is.between.few_after in
      all_few a.cases b.cases b.to (omega (arith, few)) (few-test a.cases is.first_is.within) (few-test b.cases is.second_is.within)

  pub sequence-between : IsBetween (sequence_of a b) from to
  sequence-between = record {
    fits = sequence_of-fits a b meet is.first_is.between.fits is.second_is.between.fits;
    starts = is.first_is.between.starts;
    ends = is.second_is.between.ends;
    few_before = is.first_is.between.few_before;
    few_after = is.second_is.between.few_after;
    from_is = is.first_is.between.from_is;
    to_is = is.second_is.between.to_is;
  }

  abbrev IsShort : Case → Type 0
  IsShort case = IsFewCase case × (length case.post ≤ 63)

  shorts : AllByRecursion IsShort b.cases
  shorts =
      each-both IsFewCase (λ (case : Case). length case.post ≤ 63) b.cases (few-cases b.cases is.second_is.within)
      (each_from_test (fits b.from b.to) (λ (case : Case). length case.post ≤ 63)
      (λ case h. subst (λ n. n ≤ 63) (sym (fitting b.from b.to case h).length_is) is.second_is.between.few_after) b.cases is.second_is.between.fits)

  abbrev IsFewer : Case → Type 0
  IsFewer case = case.aux ≤ 1000

  both-fewer : (x y : Case) → IsFewCase x → IsShort y → IsFewer (sequence_of_cases x y)
  both-fewer x y h k = let lost_most = count_by-le-length (lost (after_case x y)) y.post in let one = k.0 in let two = k.1 in omega arith

  sequence-fewer : AllByRecursion IsFewer (sequence_of a b).cases
  sequence-fewer =
      each-flat_map IsFewCase IsFewer (λ x. map (sequence_of_cases x) b.cases)
      (λ x h. each-map IsShort IsFewer (sequence_of_cases x) (λ y k. both-fewer x y h k) b.cases shorts) a.cases (few-cases a.cases is.first_is.within)

  pub sequence-solvable : AreSolvable (sequence_of a b).cases
  sequence-solvable =
      All-from_recursion IsSolvable (sequence_of a b).cases
      (each-more (λ (case : Case). IsFewer case × IsTrue (fits a.from b.to case)) IsSolvable
      (λ case h. let few = h.0 in let small = is.second_is.between.few_after in fits-solvable a.from b.to case h.1 (omega arith)) (sequence_of a b).cases
      (each-both IsFewer (λ case. IsTrue (fits a.from b.to case)) (sequence_of a b).cases sequence-fewer
      (each_from_test (fits a.from b.to) (λ case. IsTrue (fits a.from b.to case)) (λ case h. h) (sequence_of a b).cases sequence-between.fits)))

-- ---- joins

module _ (from to : Vocabulary) (a b : Transition) (first : IsWalkFormula from to a) (second : IsWalkFormula from to b) where
  pub same-from : a.from ≡ b.from
  same-from = sym first.between.starts ∙ second.between.starts

  pub same-to : a.to ≡ b.to
  same-to = sym first.between.ends ∙ second.between.ends

  pub either-between : IsBetween (union_of a b) from to
  either-between = record {
    fits = joined-fits a.from a.to a.cases b.cases first.between.fits
        (subst (λ m. IsTransition m a.to b.cases) (sym same-from) (subst (λ m. IsTransition b.from m b.cases) (sym same-to) second.between.fits));
    starts = first.between.starts;
    ends = first.between.ends;
    few_before = first.between.few_before;
    few_after = first.between.few_after;
    from_is = first.between.from_is;
    to_is = first.between.to_is;
  }

-- Directions have no columns but those of their vocabulary, and so none but those of the posts;
-- what else the calls of a squash ask.
use Rattle.std.proofs.Common.{◌≡◌, ℕ, zero, suc, ◌+◌, ◌≤◌, List, [], ◌∷◌, Bool, true, false, map, length, refl, sym, ap, subst, ◌∙◌, arith}
use Rattle.std.specs.Prelude.{IsTrue, All, ◌==◌, ◌&&◌, if◌then◌else◌}
use Rattle.std.specs.List.{AllByRecursion, filter, list_all, range_with_len}
use Rattle.std.proofs.lemmas.List.{length-map}
use Rattle.std.proofs.lemmas.List.Elements.{All-from_recursion}
use Rattle.items.proofs.Each.{each-more, each_from_test}
use Rattle.linear_terms.specs.declared.col.Col.{Col}
use Rattle.linear_terms.specs.declared.col.Col.TheVariants.{At, Aux}
use Rattle.linear_terms.specs.declared.row.Case.{Case}
use Rattle.linear_terms.specs.Expressions.{or_zero}
use Rattle.linear_terms.specs.Polynomial.{Polynomial}
use Rattle.linear_terms.specs.Replacement.{IsBelow}
use Rattle.transition_formula.specs.Transition.{Transition, is_below, fits, IsTransition}
use Rattle.transition_formula.proofs.Fitting.{fitting, true-below}
use Rattle.farkas_check.specs.Relations.{has_count, have_equally_many}
use Rattle.polyhedra.specs.Bounds.{IsCovered, IsCoveredByPosts}
use Rattle.polyhedra.specs.Changes.{change, is_modified, modified_variables, moving, changes_in, changes_of}
use Rattle.polyhedra.specs.Directions.{directions}
use Rattle.polyhedra.specs.Vocabulary.{Vocabulary, IsDirectionOver, IsVocabulary}
use Rattle.polyhedra.proofs.DirectionShapes.{directions-over}

-- ---- directions

pub over-covered : (n : ℕ) (d : Polynomial) → IsDirectionOver n d → IsCovered n d
over-covered n d h =
    All-from_recursion (λ t. All (IsBelow n 0) t.0) d.terms
    (each-more (λ t. AllByRecursion (λ c. IsTrue (is_below n 0 c)) t.0) (λ t. All (IsBelow n 0) t.0)
    (λ t k. All-from_recursion (IsBelow n 0) t.0 (each-more (λ c. IsTrue (is_below n 0 c)) (IsBelow n 0) column t.0 k)) d.terms h.within)
  where
    column : (c : Col) → IsTrue (is_below n 0 c) → IsBelow n 0 c
    column (At v) k = true-below v n k
    column (Aux m) k = true-below m 0 k

module _ (voc : Vocabulary) (is : IsVocabulary voc) (n : ℕ) (columns : voc.columns ≡ n) where
  each-covered : AllByRecursion (IsCovered n) (directions voc)
  each-covered = subst (λ k. AllByRecursion (IsCovered k) (directions voc)) columns (each-more (IsDirectionOver voc.columns) (IsCovered voc.columns) (over-covered voc.columns) (directions voc) (directions-over voc is))

  pub directions-covered : (m : ℕ) → m ≡ n → All (IsCovered m) (directions voc)
  directions-covered m e = subst (λ k. All (IsCovered k) (directions voc)) (sym e) (All-from_recursion (IsCovered n) (directions voc) each-covered)

  posts-covered : (d : Polynomial) → IsCovered n d → (from : ℕ) (cases : List Case) → IsTransition from n cases → IsCoveredByPosts cases d
  posts-covered d h from cases fit =
      All-from_recursion (λ (case : Case). IsCovered (length case.post) d) cases
      (each_from_test (fits from n) (λ (case : Case). IsCovered (length case.post) d) (λ case k. subst (λ m. IsCovered m d) (sym (fitting from n case k).length_is) h) cases fit)

  pub directions-covered_by_posts : (from : ℕ) (cases : List Case) → IsTransition from n cases → All (IsCoveredByPosts cases) (directions voc)
  directions-covered_by_posts from cases fit =
      All-from_recursion (IsCoveredByPosts cases) (directions voc) (each-more (IsCovered n) (IsCoveredByPosts cases) (λ d h. posts-covered d h from cases fit) (directions voc) each-covered)

-- ---- cases

pub posts-long : (from to : ℕ) (cases : List Case) → IsTransition from to cases → All (λ (case : Case). length case.post ≡ to) cases
posts-long from to cases fit =
    All-from_recursion (λ (case : Case). length case.post ≡ to) cases (each_from_test (fits from to) (λ (case : Case). length case.post ≡ to) (λ case k. (fitting from to case k).length_is) cases fit)

pub filter-short : {A : Type 0} (test : A → Bool) (xs : List A) → length (filter test xs) ≤ length xs
filter-short test [] = omega arith
filter-short test (x ∷ xs) = go (test x) (filter-short test xs)
  where
    go : (b : Bool) → length (filter test xs) ≤ length xs → length (if b then x ∷ filter test xs else filter test xs) ≤ suc (length xs)
    go true le = omega arith
    go false le = omega arith

pub range-long : (a n : ℕ) → length (range_with_len a n) ≡ n
range-long a zero = refl
range-long a (suc n) = let rest = range-long (a + 1) n in omega arith

pub modified-few : (one : Bool) (f : Transition) → length (modified_variables one f) ≤ f.to
modified-few one f = let short = filter-short (is_modified one f.cases) (range_with_len 0 f.to) in let long = range-long 0 f.to in omega arith

-- each case has as many terms as the first
pub equally_many : (one : Bool) (f : Transition) → IsTrue (have_equally_many (changes_of one f))
equally_many one f = go f.cases
  where
    same : (n : ℕ) → (n == n) ≡ true
    same n = grind arith

    counted : (d c : Case) → IsTrue (has_count (length (changes_in one (moving one f) d).terms) (changes_in one (moving one f) c))
    counted d c =
        ap (λ n. n == length (changes_in one (moving one f) d).terms) (length-map (moving one f) (λ v. or_zero (change one c v)) ∙ sym (length-map (moving one f) (λ v. or_zero (change one d v))))
        ∙ same (length (changes_in one (moving one f) d).terms)

    all : (d : Case) (cases : List Case) → IsTrue (list_all (has_count (length (changes_in one (moving one f) d).terms)) (map (changes_in one (moving one f)) cases))
    all d [] = refl
    all d (c ∷ cases) = (λ i. counted d c i && list_all (has_count (length (changes_in one (moving one f) d).terms)) (map (changes_in one (moving one f)) cases)) ∙ all d cases

    go : (cases : List Case) → IsTrue (have_equally_many (map (changes_in one (moving one f)) cases))
    go [] = refl
    go (case ∷ cases) = all case (case ∷ cases)

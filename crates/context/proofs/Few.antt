-- How many auxiliaries the cases of formulas have.
use Rattle.std.proofs.Common.{◌≡◌, ℕ, ◌+◌, ◌<◌, ◌≤◌, ◌^◌, length, map, List, arith}
use Rattle.std.specs.Prelude.{IsTrue, All, ◌&&◌, nat_le}
use Rattle.std.specs.List.{AllByRecursion, list_all}
use Rattle.std.proofs.lemmas.Bool.{leb-true}
use Rattle.std.proofs.lemmas.List.Elements.{recursion_from_All, All-from_recursion}
use Rattle.items.proofs.Each.{each-both, each-flat_map, each-map, each-more, each_from_test}
use Rattle.linear_terms.specs.declared.row.Case.{Case}
use Rattle.transition_formula.specs.Composition.{after_case, sequence_of, sequence_of_cases}
use Rattle.transition_formula.specs.Posts.{case_with_posts, with_posts}
use Rattle.transition_formula.specs.Transition.{Transition, fits, AreFew, AreSolvable, IsFitted, IsSolvable, IsTransition}
use Rattle.transition_formula.proofs.ColumnTests.{both, lost}
use Rattle.transition_formula.proofs.FittedFormulas.{fits-solvable}
use Rattle.transition_formula.proofs.Fitting.{fitting}
use Rattle.std.proofs.lemmas.List.Sums.{count_by-le-length}
use Rattle.context.specs.Ends.{HasFew}

abbrev Has : ℕ → Case → Type 0
Has most case = case.aux ≤ most

few-each : (n : ℕ) (f : Transition) → HasFew n f → AllByRecursion (Has n) f.cases
few-each n f h = recursion_from_All (Has n) f.cases h

each-few : (n : ℕ) (f : Transition) → AllByRecursion (Has n) f.cases → HasFew n f
each-few n f h = All-from_recursion (Has n) f.cases h

pub few-more : (m n : ℕ) (f : Transition) → m ≤ n → HasFew m f → HasFew n f
few-more m n f le h = each-few n f (each-more (Has m) (Has n) (λ case few. omega (arith, few, le)) f.cases (few-each m f h))

pub few-below : (n : ℕ) (f : Transition) → All (λ (case : Case). case.aux < n + 1) f.cases → HasFew n f
few-below n f h = each-few n f (each-more (λ (case : Case). case.aux < n + 1) (Has n) (λ case lt. omega (arith, lt)) f.cases (recursion_from_All (λ (case : Case). case.aux < n + 1) f.cases h))

pub fitted-few : (f : Transition) → IsFitted f.cases → HasFew 64 f
fitted-few f fit =
    each-few 64 f
    (each_from_test (λ case. nat_le (length case.rows) 64 && nat_le case.aux 64) (Has 64)
    (λ case h. leb-true case.aux 64 (both (nat_le (length case.rows) 64) (nat_le case.aux 64) h).1) f.cases
    (both (nat_le (length f.cases) 16) (list_all (λ case. nat_le (length case.rows) 64 && nat_le case.aux 64) f.cases) fit).1)

pub few-pairs : (m n : ℕ) (a b : Transition) → HasFew m a → HasFew n b → m + n + b.to < 2 ^ 32 → AreFew a b
few-pairs m n a b h k lt =
    All-from_recursion (λ (x : Case). All (λ (y : Case). x.aux + y.aux + b.to < 2 ^ 32) b.cases) a.cases
    (each-more (Has m) (λ (x : Case). All (λ (y : Case). x.aux + y.aux + b.to < 2 ^ 32) b.cases)
    (λ x one. All-from_recursion (λ (y : Case). x.aux + y.aux + b.to < 2 ^ 32) b.cases
    (each-more (Has n) (λ (y : Case). x.aux + y.aux + b.to < 2 ^ 32) (λ y two. omega (arith, one, two, lt)) b.cases (few-each n b k))) a.cases (few-each m a h))

abbrev Short : ℕ → ℕ → Case → Type 0
Short n to case = (case.aux ≤ n) × (length case.post ≡ to)

pub sequence-few : (m n : ℕ) (a b : Transition) → IsTransition b.from b.to b.cases → HasFew m a → HasFew n b → HasFew (m + n + b.to) (sequence_of a b)
sequence-few m n a b fit h k =
    each-few (m + n + b.to) (sequence_of a b)
    (each-flat_map (Has m) (Has (m + n + b.to)) (λ x. map (sequence_of_cases x) b.cases)
    (λ x one. each-map (Short n b.to) (Has (m + n + b.to)) (sequence_of_cases x)
    (λ y two. let most = count_by-le-length (lost (after_case x y)) y.post in let few = two.0 in let long = two.1 in omega (arith, most, few, long, one)) b.cases
    (each-both (Has n) (λ (case : Case). length case.post ≡ b.to) b.cases (few-each n b k)
    (each_from_test (fits b.from b.to) (λ (case : Case). length case.post ≡ b.to) (λ case f. (fitting b.from b.to case f).length_is) b.cases fit))) a.cases (few-each m a h))

pub posts-few : (n : ℕ) (places : List ℕ) (f : Transition) → HasFew n f → HasFew n (with_posts places f)
posts-few n places f h = each-few n (with_posts places f) (each-map (Has n) (Has n) (case_with_posts places) (λ case few. few) f.cases (few-each n f h))

pub few-solvable : (n : ℕ) (f : Transition) → IsTransition f.from f.to f.cases → HasFew n f → n + f.to < 2 ^ 32 → AreSolvable f.cases
few-solvable n f fit h lt =
    All-from_recursion IsSolvable f.cases
    (each-more (λ (case : Case). Has n case × IsTrue (fits f.from f.to case)) IsSolvable (λ case k. let few = k.0 in fits-solvable f.from f.to case k.1 (omega (arith, few, lt))) f.cases
    (each-both (Has n) (λ case. IsTrue (fits f.from f.to case)) f.cases (few-each n f h)
    (each_from_test (fits f.from f.to) (λ case. IsTrue (fits f.from f.to case)) (λ case k. k) f.cases fit)))

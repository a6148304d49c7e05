-- The formulas of assignments and of calls fit between their columns, and have few auxiliaries.
use Rattle.std.proofs.Common.{◌≡◌, ℕ, zero, suc, ◌+◌, ◌-◌, ◌*◌, ◌<◌, ◌≤◌, ◌^◌, Bool, true, length, map, take, drop, List, [], ◌∷◌, ◌++◌, Option, Some, None, refl, sym, subst, ◌∙◌, length-append, length-drop, arith}
use Rattle.std.specs.Prelude.{IsTrue, All, slice_set}
use Rattle.std.specs.List.{AllByRecursion, list_all}
use Rattle.std.proofs.lemmas.List.{length-map, length-take-le, length-set}
use Rattle.std.proofs.lemmas.List.Elements.{recursion_from_All, All-from_recursion}
use Rattle.std.proofs.lemmas.List.Folds.{list_all-append}
use Rattle.linear_terms.specs.declared.col.Col.{Col}
use Rattle.linear_terms.specs.declared.col.Col.TheVariants.{At, Aux}
use Rattle.linear_terms.specs.declared.row.Case.{Case}
use Rattle.linear_terms.specs.Polynomial.{Polynomial, column_of}
use Rattle.syntax_tree.specs.declared.core_expr.Core.{Core}
use Rattle.syntax_tree.specs.Term.{Term, term_of}
use Rattle.syntax_tree.specs.WellFormed.{columns_below, all_columns_below, joint_operators}
use Rattle.transition_formula.specs.Transition.{Transition, every_column, is_below, fits, IsTransition, AreFew}
use Rattle.transition_formula.proofs.ColumnTests.{both, both_true, more_columns, all_more}
use Rattle.transition_formula.proofs.Fitting.{Fitting, fitting, from_fitting, identity-fits, below-true, true-below}
use Rattle.leaf_cases.specs.Edges.{set_case, any_case, entering, cut, awaited_count, posts_with_value, leaving_case, arguments_of}
use Rattle.leaf_cases.specs.Expression.{lists_of}
use Rattle.leaf_cases.specs.Guard.{columns_of, with_posts}
use Rattle.leaf_cases.specs.Steps.{operand}
use Rattle.leaf_cases.proofs.Arguments.{arguments-sit, value-fits}
use Rattle.leaf_cases.proofs.CaseColumns.{Sits, got-covered, column_passes}

-- ---- parts of lists

all-set : {X : Type 0} (test : X → Bool) (xs : List X) (i : ℕ) (x : X) → IsTrue (list_all test xs) → IsTrue (test x) → IsTrue (list_all test (slice_set xs i x))
all-set test [] i x h k = refl
all-set test (y ∷ ys) zero x h k = let parts = both (test y) (list_all test ys) h in both_true (test x) (list_all test ys) k parts.1
all-set test (y ∷ ys) (suc i) x h k = let parts = both (test y) (list_all test ys) h in both_true (test y) (list_all test (slice_set ys i x)) parts.0 (all-set test ys i x parts.1 k)

all-take : {X : Type 0} (test : X → Bool) (n : ℕ) (xs : List X) → IsTrue (list_all test xs) → IsTrue (list_all test (take n xs))
all-take test zero xs h = refl
all-take test (suc n) [] h = refl
all-take test (suc n) (x ∷ xs) h = let parts = both (test x) (list_all test xs) h in both_true (test x) (list_all test (take n xs)) parts.0 (all-take test n xs parts.1)

all-drop : {X : Type 0} (test : X → Bool) (n : ℕ) (xs : List X) → IsTrue (list_all test xs) → IsTrue (list_all test (drop n xs))
all-drop test zero xs h = h
all-drop test (suc n) [] h = refl
all-drop test (suc n) (x ∷ xs) h = let parts = both (test x) (list_all test xs) h in all-drop test n xs parts.1

-- ---- the columns of a state

below-wider : (g n a b : ℕ) → g ≤ n → a ≤ b → (c : Col) → IsTrue (is_below g a c) → IsTrue (is_below n b c)
below-wider g n a b le few (At k) h = let lt = true-below k g h in below-true k n (omega arith)
below-wider g n a b le few (Aux k) h = let lt = true-below k a h in below-true k b (omega arith)

same-fits : (g : ℕ) → Fitting g g (record { aux = 0; rows = []; post = columns_of g })
same-fits g = let same : Case = record { aux = 0; rows = []; post = columns_of g } in fitting g g same (both (fits g g same) true (identity-fits g)).0

columns-long : (g : ℕ) → length (columns_of g) ≡ g
columns-long g = (same-fits g).length_is

columns-covered : (g n aux : ℕ) → g ≤ n → IsTrue (list_all (every_column (is_below n aux)) (columns_of g))
columns-covered g n aux le =
    all_more (every_column (is_below g 0)) (every_column (is_below n aux)) (more_columns (is_below g 0) (is_below n aux) (below-wider g n 0 aux le (omega arith))) (columns_of g) (same-fits g).posts_are

-- ---- other posts

each-posted : (from between to : ℕ) (F : Case → List Polynomial) → ((case : Case) → Fitting from between case → Fitting from to (with_posts (F case) case)) → (cases : List Case) → IsTransition from between cases
    → IsTransition from to (map (λ case. with_posts (F case) case) cases)
each-posted from between to F tells [] h = refl
each-posted from between to F tells (case ∷ cases) h =
    let parts = both (fits from between case) (list_all (fits from between) cases) h in
    both_true (fits from to (with_posts (F case) case)) (list_all (fits from to) (map (λ case. with_posts (F case) case) cases)) (from_fitting from to (with_posts (F case) case) (tells case (fitting from between case parts.0)))
    (each-posted from between to F tells cases parts.1)

operand-fits : (from between n : ℕ) (case : Case) → Fitting from between case → IsTrue (every_column (is_below from case.aux) (operand n case))
operand-fits from between n case f = got-covered (is_below from case.aux) case.post n f.posts_are

pub set_fits : (columns col : ℕ) (e : Term) (made : List Case) → IsTrue (columns_below columns e) → made ≡ map (set_case columns col) (lists_of e).value.cases → IsTransition columns columns made
set_fits columns col e made h is =
    subst (IsTransition columns columns) (sym is)
    (each-posted columns 1 columns (λ case. slice_set (columns_of columns) col (operand 0 case))
    (λ case f. record {
      length_is = length-set (columns_of columns) col (operand 0 case) ∙ columns-long columns;
      rows_are = f.rows_are;
      posts_are = all-set (every_column (is_below columns case.aux)) (columns_of columns) col (operand 0 case) (columns-covered columns columns case.aux (omega arith)) (operand-fits columns 1 0 case f);
    }) (lists_of e).value.cases (value-fits columns e h))

pub any_fits : (columns col : ℕ) (made : List Case) → made ≡ any_case columns col ∷ [] → IsTransition columns columns made
any_fits columns col made is =
    let free = column_passes (is_below columns 1) (Aux 0) refl in
    let fit : IsTrue (fits columns columns (any_case columns col)) = from_fitting columns columns (any_case columns col) record {
      length_is = length-set (columns_of columns) col (column_of (Aux 0)) ∙ columns-long columns;
      rows_are = refl;
      posts_are = all-set (every_column (is_below columns 1)) (columns_of columns) col (column_of (Aux 0)) (columns-covered columns columns 1 (omega arith)) free;
    } in
    subst (IsTransition columns columns) (sym is) (both_true (fits columns columns (any_case columns col)) true fit refl)

pub entering_fits : (columns globals count : ℕ) (cases made : List Case) → globals ≤ columns → IsTransition columns count cases → made ≡ (entering columns globals count cases).cases → IsTransition columns (globals + count) made
entering_fits columns globals count cases made le h is =
    subst (IsTransition columns (globals + count)) (sym is)
    (each-posted columns count (globals + count) (λ case. columns_of globals ++ case.post)
    (λ case f. record {
      length_is = length-append (columns_of globals) case.post ∙ (λ i. columns-long globals i + f.length_is i);
      rows_are = f.rows_are;
      posts_are =
          list_all-append (every_column (is_below columns case.aux)) (columns_of globals) case.post
          ∙ both_true (list_all (every_column (is_below columns case.aux)) (columns_of globals)) (list_all (every_column (is_below columns case.aux)) case.post) (columns-covered globals columns case.aux le) f.posts_are;
    }) cases h)

pub cut_fits : (to : ℕ) (f : Transition) (made : List Case) → to ≤ f.to → IsTransition f.from f.to f.cases → made ≡ (cut to f).cases → IsTransition f.from to made
cut_fits to f made le h is =
    subst (IsTransition f.from to) (sym is)
    (each-posted f.from f.to to (λ case. take to case.post)
    (λ case fit. let long = fit.length_is in record {
      length_is = length-take-le to case.post (omega arith);
      rows_are = fit.rows_are;
      posts_are = all-take (every_column (is_below f.from case.aux)) to case.post fit.posts_are;
    }) f.cases h)

-- how many posts there are, where some are received
received-long : (into : Option ℕ) (value : Polynomial) (posts : List Polynomial) → length (posts_with_value into value posts) ≡ length posts
received-long None value posts = refl
received-long (Some col) value posts = length-set posts col value

received-covered : (test : Polynomial → Bool) (into : Option ℕ) (value : Polynomial) (posts : List Polynomial) → IsTrue (list_all test posts) → IsTrue (test value) → IsTrue (list_all test (posts_with_value into value posts))
received-covered test None value posts h k = h
received-covered test (Some col) value posts h k = all-set test posts col value h k

awaited-most : (globals : ℕ) (into : Option ℕ) → globals ≤ awaited_count globals into
awaited-most globals None = omega arith
awaited-most globals (Some col) = omega arith

left-long : (columns globals to : ℕ) (posts : List Polynomial) → globals ≤ columns → globals ≤ length posts → length (take globals posts ++ drop globals (columns_of columns)) ≡ columns
left-long columns globals to posts le long =
    length-append (take globals posts) (drop globals (columns_of columns)) ∙ (λ i. length-take-le globals posts long i + length-drop globals (columns_of columns) i) ∙ together (columns-long columns)
  where
    together : length (columns_of columns) ≡ columns → globals + (length (columns_of columns) - globals) ≡ columns
    together e = omega arith

pub leaving_fits : (columns globals : ℕ) (into : Option ℕ) (cases made : List Case) → globals ≤ columns → IsTransition columns (awaited_count globals into) cases → made ≡ map (leaving_case columns globals into) cases → IsTransition columns columns made
leaving_fits columns globals into cases made le h is =
    subst (IsTransition columns columns) (sym is)
    (each-posted columns (awaited_count globals into) columns (λ case. posts_with_value into (operand globals case) (take globals case.post ++ drop globals (columns_of columns)))
    (λ case f. let long = f.length_is in let most = awaited-most globals into in record {
      length_is = received-long into (operand globals case) (take globals case.post ++ drop globals (columns_of columns)) ∙ left-long columns globals (awaited_count globals into) case.post le (omega arith);
      rows_are = f.rows_are;
      posts_are =
          received-covered (every_column (is_below columns case.aux)) into (operand globals case) (take globals case.post ++ drop globals (columns_of columns))
          (list_all-append (every_column (is_below columns case.aux)) (take globals case.post) (drop globals (columns_of columns))
          ∙ both_true (list_all (every_column (is_below columns case.aux)) (take globals case.post)) (list_all (every_column (is_below columns case.aux)) (drop globals (columns_of columns)))
          (all-take (every_column (is_below columns case.aux)) globals case.post f.posts_are) (all-drop (every_column (is_below columns case.aux)) globals (columns_of columns) (columns-covered columns columns case.aux (omega arith))))
          (operand-fits columns (awaited_count globals into) globals case f);
    }) cases h)

-- ---- few auxiliaries

each-aux : (P : ℕ → Type 0) (F : Case → List Polynomial) (cases : List Case) → AllByRecursion (λ case. P case.aux) cases → AllByRecursion (λ case. P case.aux) (map (λ case. with_posts (F case) case) cases)
each-aux P F [] h = tt
each-aux P F (case ∷ cases) h = (h.0, each-aux P F cases h.1)

pub few-sit : (columns most : ℕ) (cases : List Case) → AllByRecursion (Sits columns most) cases → AllByRecursion (λ case. case.aux ≤ most) cases
few-sit columns most [] h = tt
few-sit columns most (case ∷ cases) h = (h.0.few, few-sit columns most cases h.1)

all-few : (j k to : ℕ) (firsts seconds : List Case) → AllByRecursion (λ case. case.aux ≤ j) firsts → AllByRecursion (λ case. case.aux ≤ k) seconds → j + k + to < 2 ^ 32 → All (λ (a : Case). All (λ (b : Case). a.aux + b.aux + to < 2 ^ 32) seconds) firsts
all-few j k to firsts seconds h l lt i d below m e within =
    let one = All-from_recursion (λ (case : Case). case.aux ≤ j) firsts h i d below in
    let other = All-from_recursion (λ (case : Case). case.aux ≤ k) seconds l m e within in omega arith

-- arguments have few auxiliaries
arguments_few : (columns : ℕ) (args : List Term) → IsTrue (all_columns_below columns args) → joint_operators args ≤ 200000 → AllByRecursion (λ case. case.aux ≤ 800000) (arguments_of args).cases
arguments_few columns args h few = wider (4 * joint_operators args) (arguments_of args).cases (omega arith) (few-sit columns (4 * joint_operators args) (arguments_of args).cases (arguments-sit columns args h))
  where
    wider : (m : ℕ) (cases : List Case) → m ≤ 800000 → AllByRecursion (λ case. case.aux ≤ m) cases → AllByRecursion (λ case. case.aux ≤ 800000) cases
    wider m [] le h = tt
    wider m (case ∷ cases) le h = let one = h.0 in (omega arith, wider m cases le h.1)

pub entering_few : (columns globals : ℕ) (args : List Term) (f : Transition) → IsTrue (all_columns_below columns args) → joint_operators args ≤ 200000 → f ≡ entering columns globals (length args) (arguments_of args).cases
    → All (λ (case : Case). case.aux < 2 ^ 31) f.cases
entering_few columns globals args f h few is =
    subst (λ (g : Transition). All (λ (case : Case). case.aux < 2 ^ 31) g.cases) (sym is)
    (All-from_recursion (λ (case : Case). case.aux < 2 ^ 31) (entering columns globals (length args) (arguments_of args).cases).cases
    (each-aux (λ n. n < 2 ^ 31) (λ case. columns_of globals ++ case.post) (arguments_of args).cases (smaller (arguments_of args).cases (arguments_few columns args h few))))
  where
    smaller : (cases : List Case) → AllByRecursion (λ case. case.aux ≤ 800000) cases → AllByRecursion (λ case. case.aux < 2 ^ 31) cases
    smaller [] h = tt
    smaller (case ∷ cases) h = let one = h.0 in (omega arith, smaller cases h.1)

pub call_few : (columns globals : ℕ) (args : List Term) (into : Option ℕ) (f a b : Transition) → IsTrue (all_columns_below columns args) → joint_operators args ≤ 200000 → columns ≤ 1000 → globals ≤ columns → All (λ (case : Case). case.aux ≤ 64) f.cases
    → a ≡ entering columns globals (length args) (arguments_of args).cases → b ≡ cut (awaited_count globals into) f → AreFew a b
call_few columns globals args into f a b h few narrow le known e g =
    subst (λ (x : Transition). AreFew x b) (sym e)
    (subst (λ (x : Transition). AreFew (entering columns globals (length args) (arguments_of args).cases) x) (sym g)
    (all-few 800000 64 (awaited_count globals into) (entering columns globals (length args) (arguments_of args).cases).cases (cut (awaited_count globals into) f).cases
    (each-aux (λ n. n ≤ 800000) (λ case. columns_of globals ++ case.post) (arguments_of args).cases (arguments_few columns args h few))
    (each-aux (λ n. n ≤ 64) (λ case. take (awaited_count globals into) case.post) f.cases (recursion_from_All (λ (case : Case). case.aux ≤ 64) f.cases known)) (most into)))
  where
    most : (into : Option ℕ) → 800000 + 64 + awaited_count globals into < 2 ^ 32
    most None = omega arith
    most (Some col) = omega arith

-- the two formulas of a call, as the code has them
pub first_is : (columns globals : ℕ) (args : List Core) (count : ℕ) (slice cases : List Case) (f : Transition) → count ≡ length args → cases ≡ (arguments_of (map term_of args)).cases → slice ≡ cases → f ≡ entering columns globals count slice
    → f ≡ entering columns globals (length (map term_of args)) (arguments_of (map term_of args)).cases
first_is columns globals args count slice cases f many is same made = made ∙ (λ i. entering columns globals ((many ∙ sym (length-map args term_of)) i) ((same ∙ is) i))

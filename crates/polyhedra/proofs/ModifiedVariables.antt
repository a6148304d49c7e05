-- The variables that a formula modifies, by the tables of its cases.
use Rattle.std.proofs.Common.{◌≡◌, ℕ, zero, suc, ◌+◌, ◌<◌, ◌≤◌, List, [], ◌∷◌, ◌++◌, take, get_or, drop, length, Ok, Err, Bool, true, false, map, refl, sym, ap, ◌∙◌, arith, pos, append-nil, append_assoc}
use Rattle.std.specs.Prelude.{None, unwrap_or, not, ◌&&◌, ◌||◌, if◌then◌else◌}
use Rattle.std.specs.List.{AllByRecursion, filter, flat_map, range_with_len}
use Rattle.std.specs.Option.{is_some, is_none}
use Rattle.std.specs.Result.{is_ok}
use Rattle.std.proofs.lemmas.List.{drop_more}
use Rattle.linear_terms.specs.declared.col.Col.TheVariants.{At}
use Rattle.linear_terms.specs.declared.error.TermError.TheVariants as error
use Rattle.linear_terms.specs.declared.row.Case.{Case}
use Rattle.linear_terms.specs.Equality.{poly_eq}
use Rattle.linear_terms.specs.Expressions.{Made, or_zero}
use Rattle.linear_terms.specs.Polynomial.{column_of, constant_of}
use Rattle.transition_formula.specs.Loss.{losses_of}
use Rattle.transition_formula.specs.Transition.{Transition}
use Rattle.transition_formula.proofs.NotedErrors.{Tells, difference_of_polys-tells}
use Rattle.farkas_check.specs.declared.stratum.Change.{Change}
use Rattle.polyhedra.specs.declared.changes.Moves.{Moves}
use Rattle.polyhedra.specs.Changes.{poly_at, change, is_zero, is_modified, is_exact, modified_variables, moving, changes_in, changes_of}
use Rattle.polyhedra.specs.Tables.{fault_of, fault_at, or_else, table_of, is_moved, is_moved_in, is_made, is_made_in, first_of, losses_at, change_of, changes_from}
use Rattle.polyhedra.proofs.Lists.{each-filter}
use Rattle.polyhedra.proofs.ChangeTables.{first_got}

-- ---- variables that move

change-tells : (one : Bool) (case : Case) (v : ℕ) → Tells (change one case v)
change-tells true case v = difference_of_polys-tells (poly_at case.post v) (column_of (At v))
change-tells false case v = λ e. cc

module _ (one : Bool) (n v : ℕ) (low : v < n) where
  fault-at : (case : Case) → fault_at (table_of one n case).faults (At v) ≡ fault_of (change one case v)
  fault-at case = ap (λ o. unwrap_or o None) (first_got (λ k. fault_of (change one case k)) n v low)

  moved-at : (case : Case) → is_moved v (table_of one n case) ≡ not (is_zero (change one case v))
  moved-at case =
      (λ i. is_some (fault-at case i) || not (poly_eq (unwrap_or (first_got (λ k. or_zero (change one case k)) n v low i) (constant_of (pos 0))) (constant_of (pos 0))))
      ∙ by_made (change one case v)
    where
      by_made : (m : Made) → (is_some (fault_of m) || not (poly_eq (or_zero m) (constant_of (pos 0)))) ≡ not (is_zero m)
      by_made (Ok p) = refl
      by_made (Err e) = refl

  made-at : (case : Case) → is_made v (table_of one n case) ≡ is_ok (change one case v)
  made-at case = ap is_none (fault-at case) ∙ by_made (change one case v)
    where
      by_made : (m : Made) → is_none (fault_of m) ≡ is_ok m
      by_made (Ok p) = refl
      by_made (Err e) = refl

  poly-at : (case : Case) → poly_at (table_of one n case).polys v ≡ or_zero (change one case v)
  poly-at case = ap (λ o. unwrap_or o (constant_of (pos 0))) (first_got (λ k. or_zero (change one case k)) n v low)

  -- the loss in the first case that has one
  pub first_loss : (cases : List Case) → take 1 (flat_map (λ case. losses_of (change one case v)) cases) ≡ losses_at (first_of (map (table_of one n) cases) v)
  first_loss [] = refl
  first_loss (case ∷ cases) = by_made (change one case v) (change-tells one case v) (first_loss cases) ∙ ap (λ o. losses_at (or_else o (first_of (map (table_of one n) cases) v))) (sym (fault-at case))
    where
      by_made : (m : Made) → Tells m → take 1 (flat_map (λ case. losses_of (change one case v)) cases) ≡ losses_at (first_of (map (table_of one n) cases) v)
          → take 1 (losses_of m ++ flat_map (λ case. losses_of (change one case v)) cases) ≡ losses_at (or_else (fault_of m) (first_of (map (table_of one n) cases) v))
      by_made (Ok p) tells rest = rest
      by_made (Err (error.Wide left right times)) tells rest = refl
      by_made (Err error.Degree) tells rest = refl
      by_made (Err error.Memory) tells rest = absurd (tells refl)

  pub is_modified-tables : (cases : List Case) → is_moved_in (map (table_of one n) cases) v ≡ is_modified one cases v
  is_modified-tables [] = refl
  is_modified-tables (case ∷ cases) = λ i. moved-at case i || is_modified-tables cases i

  pub is_exact-tables : (cases : List Case) → is_made_in (map (table_of one n) cases) v ≡ is_exact one cases v
  is_exact-tables [] = refl
  is_exact-tables (case ∷ cases) = λ i. made-at case i && is_exact-tables cases i

filter-same : (s t : ℕ → Bool) (xs : List ℕ) → AllByRecursion (λ v. s v ≡ t v) xs → filter s xs ≡ filter t xs
filter-same s t [] h = refl
filter-same s t (x ∷ xs) h = λ i. if h.0 i then x ∷ filter-same s t xs h.1 i else filter-same s t xs h.1 i

each-below : (b a n : ℕ) (P : ℕ → Type 0) → a + n ≤ b → ((v : ℕ) → v < b → P v) → AllByRecursion P (range_with_len a n)
each-below b a zero P few h = tt
each-below b a (suc n) P few h = (h a (omega arith), each-below b (a + 1) n P (omega arith) h)

pub modified-tables : (one : Bool) (f : Transition) → filter (is_moved_in (map (table_of one f.to) f.cases)) (range_with_len 0 f.to) ≡ modified_variables one f
modified-tables one f =
    filter-same (is_moved_in (map (table_of one f.to) f.cases)) (is_modified one f.cases) (range_with_len 0 f.to)
    (each-below f.to 0 f.to (λ v. is_moved_in (map (table_of one f.to) f.cases) v ≡ is_modified one f.cases v) (omega arith) (λ v low. is_modified-tables one f.to v low f.cases))

pub moving-tables : (one : Bool) (f : Transition) → filter (is_made_in (map (table_of one f.to) f.cases)) (modified_variables one f) ≡ moving one f
moving-tables one f =
    filter-same (is_made_in (map (table_of one f.to) f.cases)) (is_exact one f.cases) (modified_variables one f)
    (each-filter (λ v. is_made_in (map (table_of one f.to) f.cases) v ≡ is_exact one f.cases v) (is_modified one f.cases) (range_with_len 0 f.to)
    (each-below f.to 0 f.to (λ v. is_made_in (map (table_of one f.to) f.cases) v ≡ is_exact one f.cases v) (omega arith) (λ v low. is_exact-tables one f.to v low f.cases)))

-- ---- the loops that make them

abbrev one_if : Bool → ℕ → List ℕ
one_if passes v = if passes then v ∷ [] else []

filter-more : (test : ℕ → Bool) (a n : ℕ) → filter test (range_with_len a (suc n)) ≡ filter test (range_with_len a n) ++ one_if (test (a + n)) (a + n)
filter-more test a zero = ap (λ k. one_if (test k) k) (none a)
  where
    none : (a : ℕ) → a ≡ a + 0
    none a = omega arith
filter-more test a (suc n) = go (test a) (filter-more test (a + 1) n ∙ ap (λ k. filter test (range_with_len (a + 1) n) ++ one_if (test k) k) (shifted a n))
  where
    shifted : (a n : ℕ) → a + 1 + n ≡ a + suc n
    shifted a n = omega arith

    go : (b : Bool) → filter test (range_with_len (a + 1) (suc n)) ≡ filter test (range_with_len (a + 1) n) ++ one_if (test (a + suc n)) (a + suc n)
        → (if b then a ∷ filter test (range_with_len (a + 1) (suc n)) else filter test (range_with_len (a + 1) (suc n))) ≡ (if b then a ∷ filter test (range_with_len (a + 1) n) else filter test (range_with_len (a + 1) n)) ++ one_if (test (a + suc n)) (a + suc n)
    go true e = ap (λ xs. a ∷ xs) e
    go false e = e

first-more : (test : ℕ → Bool) (n : ℕ) → filter test (range_with_len 0 (n + 1)) ≡ filter test (range_with_len 0 n) ++ one_if (test n) n
first-more test n = ap (λ k. filter test (range_with_len 0 k)) (next n) ∙ filter-more test 0 n ∙ ap (λ k. filter test (range_with_len 0 n) ++ one_if (test k) k) (none n)
  where
    next : (n : ℕ) → n + 1 ≡ suc n
    next n = omega arith

    none : (n : ℕ) → 0 + n ≡ n
    none n = omega arith

pub filtered-with : (test : ℕ → Bool) (n : ℕ) (made next : List ℕ) → made ≡ filter test (range_with_len 0 n) → test n ≡ true → next ≡ made ++ n ∷ [] → next ≡ filter test (range_with_len 0 (n + 1))
filtered-with test n made next e passes pushed = pushed ∙ ap (λ xs. xs ++ n ∷ []) e ∙ sym (first-more test n ∙ ap (λ b. filter test (range_with_len 0 n) ++ one_if b n) passes)

pub filtered-without : (test : ℕ → Bool) (n : ℕ) (made : List ℕ) → made ≡ filter test (range_with_len 0 n) → test n ≡ false → made ≡ filter test (range_with_len 0 (n + 1))
filtered-without test n made e fails = e ∙ sym (first-more test n ∙ ap (λ b. filter test (range_with_len 0 n) ++ one_if b n) fails ∙ append-nil (filter test (range_with_len 0 n)))

-- ---- losses and terms

modified-below : (one : Bool) (f : Transition) → AllByRecursion (λ v. v < f.to) (modified_variables one f)
modified-below one f = each-filter (λ v. v < f.to) (is_modified one f.cases) (range_with_len 0 f.to) (each-below f.to 0 f.to (λ v. v < f.to) (omega arith) (λ v low. low))

moving-below : (one : Bool) (f : Transition) → AllByRecursion (λ v. v < f.to) (moving one f)
moving-below one f = each-filter (λ v. v < f.to) (is_exact one f.cases) (modified_variables one f) (modified-below one f)

pub losses-tables : (one : Bool) (f : Transition)
    → flat_map (λ v. losses_at (first_of (map (table_of one f.to) f.cases) v)) (modified_variables one f) ≡ flat_map (λ v. take 1 (flat_map (λ case. losses_of (change one case v)) f.cases)) (modified_variables one f)
losses-tables one f = go (modified_variables one f) (modified-below one f)
  where
    go : (vs : List ℕ) → AllByRecursion (λ v. v < f.to) vs
        → flat_map (λ v. losses_at (first_of (map (table_of one f.to) f.cases) v)) vs ≡ flat_map (λ v. take 1 (flat_map (λ case. losses_of (change one case v)) f.cases)) vs
    go [] h = refl
    go (v ∷ vs) h = λ i. sym (first_loss one f.to v h.0 f.cases) i ++ go vs h.1 i

pub change-table : (one : Bool) (f : Transition) (case : Case) (moves : Moves) → moves ≡ table_of one f.to case → change_of (moving one f) case moves ≡ changes_in one (moving one f) case
change-table one f case moves table = ap (change_of (moving one f) case) table ∙ (λ i. record { rows = case.rows; terms = go (moving one f) (moving-below one f) i })
  where
    go : (vs : List ℕ) → AllByRecursion (λ v. v < f.to) vs → map (poly_at (table_of one f.to case).polys) vs ≡ map (λ v. or_zero (change one case v)) vs
    go [] h = refl
    go (v ∷ vs) h = λ i. poly-at one f.to v h.0 case i ∷ go vs h.1 i

pub changes-tables : (one : Bool) (f : Transition) → changes_from (moving one f) f.cases (map (table_of one f.to) f.cases) ≡ changes_of one f
changes-tables one f = go f.cases
  where
    go : (cases : List Case) → changes_from (moving one f) cases (map (table_of one f.to) cases) ≡ map (changes_in one (moving one f)) cases
    go [] = refl
    go (case ∷ cases) = λ i. change-table one f case (table_of one f.to case) refl i ∷ go cases i

-- the loop over cases and their tables
pub changes_from-next : (vs : List ℕ) (cases : List Case) (tables : List Moves) (i : ℕ) (case : Case) (moves : Moves) (made next whole : List Change) (change : Change)
    → i < length cases → i < length tables → case ≡ get_or cases i case → moves ≡ get_or tables i moves → made ++ changes_from vs (drop i cases) (drop i tables) ≡ whole
    → change ≡ change_of vs case moves → next ≡ made ++ change ∷ [] → next ++ changes_from vs (drop (i + 1) cases) (drop (i + 1) tables) ≡ whole
changes_from-next vs cases tables i case moves made next whole change low few case_is moves_is so_far same pushed =
    ap (λ xs. xs ++ changes_from vs (drop (i + 1) cases) (drop (i + 1) tables)) (pushed ∙ ap (λ c. made ++ c ∷ []) same)
    ∙ append_assoc made (change_of vs case moves ∷ []) (changes_from vs (drop (i + 1) cases) (drop (i + 1) tables))
    ∙ sym (λ j. made ++ changes_from vs ((drop_more cases i case low ∙ ap (λ c. c ∷ drop (i + 1) cases) (sym case_is)) j) ((drop_more tables i moves few ∙ ap (λ m. m ∷ drop (i + 1) tables) (sym moves_is)) j))
    ∙ so_far

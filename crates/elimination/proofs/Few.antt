-- At most six unknowns have probes with regular numbers: behind the two terms all numbers depend on
-- the place alone, of which there are four, so seven-irregular unknowns would have numbers, not all
-- 0, that are 0 at each probe.
use Rattle.std.proofs.Common.{◌≡◌, ℕ, zero, suc, ◌+◌, ◌-◌, ◌*◌, ◌<◌, ◌≤◌, true, false, List, [], ◌∷◌, ◌++◌, map, length, get_or, refl, sym, ap, subst, ◌∙◌, arith, ⊎_elim, ℤ, pos, ◌*ℤ◌}
use Rattle.std.specs.Prelude.{nat_lt, unsigned_abs, ◌^◌}
use Rattle.std.specs.List.{AllByRecursion, list_all}
use Rattle.std.proofs.lemmas.Bool.{cases_eq, cases_lt, eqb-true, and_parts}
use Rattle.items.proofs.Each.{each-front, each-back}
use Rattle.linear_terms.specs.declared.col.Col.{Col}
use Rattle.linear_terms.specs.declared.row.Row.{Row}
use Rattle.linear_terms.specs.Polynomial.{Polynomial}
use Rattle.farkas_check.specs.declared.stratum.Change.{Change}
use Rattle.farkas_check.specs.Frames.{sum_below}
use Rattle.farkas_check.specs.Relations.{sides, has_count, term_count}
use Rattle.farkas_check.specs.Sizes.{HasNumbersUpTo, change_polys}
use Rattle.farkas_check.specs.Stratum.{terms_of}
use Rattle.simplex.proofs.Exchanges.{times_zero}
use Rattle.simplex.proofs.Sums.{sum_below-same}
use Rattle.elimination.specs.declared.probes.Probe.{Probe}
use Rattle.elimination.specs.Probes.{side_at, probe_at, IsRegular, IsProbe}
use Rattle.elimination.specs.Stages.{HasSmallTerms, IsSmallKernel, IsRisingFrom, probe_number}
use Rattle.elimination.proofs.Regular.{regular-null}
use Rattle.elimination.proofs.Sides.{side_at-behind, side_at-small}
use Rattle.elimination.proofs.Solutions.{HasSolution, solution}

-- ---- elements by places

pub each_at : {A : Type 0} (P : A → Type 0) (xs : List A) (d : A) (i : ℕ) → AllByRecursion P xs → i < length xs → P (get_or xs i d)
each_at P [] d i h g = absurd (omega (arith, g))
each_at P (x ∷ xs) d zero h g = h.0
each_at P (x ∷ xs) d (suc i) h g = each_at P xs d i h.1 (omega (arith, g))

pub each_from : {A : Type 0} (P : A → Type 0) (xs : List A) (d : A) → ((i : ℕ) → i < length xs → P (get_or xs i d)) → AllByRecursion P xs
each_from P [] d f = tt
each_from P (x ∷ xs) d f = (f 0 (omega arith), each_from P xs d (λ i h. f (suc i) (omega (arith, h))))

pub rising-from : (start : ℕ) (us : List ℕ) (i : ℕ) → IsRisingFrom start us → i < length us → start + i ≤ get_or us i 0
rising-from start [] i r h = absurd (omega (arith, h))
rising-from start (u ∷ us) zero r h = let low : start ≤ u = r.0 in omega (arith, low)
rising-from start (u ∷ us) (suc i) r h = let low : start ≤ u = r.0 in let more : suc u + i ≤ get_or us i 0 = rising-from (suc u) us i r.1 (omega (arith, h)) in omega (arith, low, more)

pub rising-less : (start : ℕ) (us : List ℕ) (i k : ℕ) → IsRisingFrom start us → i < k → k < length us → get_or us i 0 < get_or us k 0
rising-less start [] i k r l h = absurd (omega (arith, h))
rising-less start (u ∷ us) i zero r l h = absurd (omega (arith, l))
rising-less start (u ∷ us) zero (suc k) r l h = let more : suc u + k ≤ get_or us k 0 = rising-from (suc u) us k r.1 (omega (arith, h)) in omega (arith, more)
rising-less start (u ∷ us) (suc i) (suc k) r l h = rising-less (suc u) us i k r.1 (omega (arith, l)) (omega (arith, h))

-- ---- terms of a case

terms_of-even : (count : ℕ) (cases : List Change) (case : ℕ) → list_all (has_count count) cases ≡ true → case < length cases → length (terms_of cases case) ≡ count
terms_of-even count [] case e h = absurd (omega (arith, h))
terms_of-even count (c ∷ cases) zero e h = eqb-true (length c.terms) count (and_parts (has_count count c) (list_all (has_count count) cases) e).0
terms_of-even count (c ∷ cases) (suc case) e h = terms_of-even count cases case (and_parts (has_count count c) (list_all (has_count count) cases) e).1 (omega (arith, h))

pub terms_of-small : (cases : List Change) (case : ℕ) → AllByRecursion (λ (case : Change). AllByRecursion (HasNumbersUpTo 4) case.terms) cases → AllByRecursion (HasNumbersUpTo 4) (terms_of cases case)
terms_of-small [] case h = tt
terms_of-small (c ∷ cases) zero h = h.0
terms_of-small (c ∷ cases) (suc case) h = terms_of-small cases case h.1

pub probe_at-small : (cs : List (List Col)) (cases : List Change) (lower : List Polynomial) (probe : Probe) (unknown : ℕ) → HasSmallTerms cases lower → unsigned_abs (probe_at cs cases lower probe unknown) ≤ 4
probe_at-small cs cases lower probe unknown h = side_at-small cs probe.place (terms_of cases probe.case) lower unknown (terms_of-small cases probe.case h.terms) h.lower_too

-- the polynomials of a question are small where each is
pub polys-small : (cases : List Change) (lower : List Polynomial) → AllByRecursion (HasNumbersUpTo 4) (change_polys cases lower) → HasSmallTerms cases lower
polys-small cases lower h = record { terms = terms cases h; lower_too = lowest cases h }
  where
    behind : (case : Change) (cases : List Change) → AllByRecursion (HasNumbersUpTo 4) (change_polys (case ∷ cases) lower) → AllByRecursion (HasNumbersUpTo 4) (case.terms ++ change_polys cases lower)
    behind case cases h = each-back (HasNumbersUpTo 4) (map (λ (row : Row). row.poly) case.rows) (case.terms ++ change_polys cases lower) h

    terms : (cases : List Change) → AllByRecursion (HasNumbersUpTo 4) (change_polys cases lower) → AllByRecursion (λ (case : Change). AllByRecursion (HasNumbersUpTo 4) case.terms) cases
    terms [] h = tt
    terms (case ∷ cases) h = (each-front (HasNumbersUpTo 4) case.terms (change_polys cases lower) (behind case cases h), terms cases (each-back (HasNumbersUpTo 4) case.terms (change_polys cases lower) (behind case cases h)))

    lowest : (cases : List Change) → AllByRecursion (HasNumbersUpTo 4) (change_polys cases lower) → AllByRecursion (HasNumbersUpTo 4) lower
    lowest [] h = h
    lowest (case ∷ cases) h = lowest cases (each-back (HasNumbersUpTo 4) case.terms (change_polys cases lower) (behind case cases h))

-- ---- seven-irregular are too many

low_outside : (j : ℕ) → j < 2 → nat_lt 1 j ≡ false
low_outside zero h = refl
low_outside (suc zero) h = refl
low_outside (suc (suc j)) h = absurd (omega (arith, h))

seven-irregular : (numbers at : ℕ → ℕ → ℤ) (place : ℕ → ℕ) → IsRegular 7 numbers → ((i : ℕ) → i < 7 → place i < 4) → ((i j : ℕ) → i < 7 → j < 7 → 2 ≤ j → numbers i j ≡ at (place i) j) → ((p j : ℕ) → unsigned_abs (at p j) ≤ 4) → ⊥
seven-irregular numbers at place r within same small = found (solution 7 4 4 (λ j. nat_lt 1 j) (λ i. true) at (omega arith) (omega arith) (λ i j h k. small i j))
  where
    found : HasSolution 7 4 (λ j. nat_lt 1 j) (λ i. true) at ((7 * 4) ^ 4) → ⊥
    found s = s.not_zero (regular-null 7 numbers s.x r zeros s.place s.here)
      where
        zeros : (i : ℕ) → i < 7 → sum_below 7 (λ j. numbers i j *ℤ s.x j) ≡ pos 0
        zeros i h = sum_below-same 7 (λ j. numbers i j *ℤ s.x j) (λ j. at (place i) j *ℤ s.x j) (λ j k. level j k) ∙ s.solves (place i) (within i h) refl
          where
            level : (j : ℕ) → j < 7 → numbers i j *ℤ s.x j ≡ at (place i) j *ℤ s.x j
            level j k =
                ⊎_elim (λ (low : j < 2). let none : s.x j ≡ pos 0 = s.outside j (low_outside j low) in ap (λ z. numbers i j *ℤ z) none ∙ times_zero (numbers i j) ∙ sym (times_zero (at (place i) j)) ∙ ap (λ z. at (place i) j *ℤ z) (sym none))
                (λ (high : 2 ≤ j). ap (λ z. z *ℤ s.x j) (same i j h k high)) (cases_lt j 2)

pub free-few : (cs : List (List Col)) (cases : List Change) (lower : List Polynomial) (probes : List Probe) (free : List ℕ) (start : ℕ) → IsSmallKernel cs cases lower → IsRisingFrom start free → AllByRecursion (IsProbe cs cases) probes
    → length probes ≡ length free → length free ≤ 7 → IsRegular (length free) (probe_number cs cases lower probes free) → length free ≤ 6
free-few cs cases lower probes free start s rising are each few r = ⊎_elim (λ (e : length free ≡ 7). absurd (clash e)) (λ other. omega (arith, few, other)) (cases_eq (length free) 7)
  where
    clash : length free ≡ 7 → ⊥
    clash e =
        seven-irregular (probe_number cs cases lower probes free) (λ p j. side_at cs p (sides (terms_of cases 0) lower) (get_or free j 0)) (λ i. (get_or probes i (record { case = 0; place = 0 })).place)
        (subst (λ n. IsRegular n (probe_number cs cases lower probes free)) e r)
        (λ i h. let p : (get_or probes i (record { case = 0; place = 0 })).place ≤ length cs = (there i h).place in let c : length cs ≤ 3 = s.columns in omega (arith, p, c))
        (λ i j h k high. same i j h k high)
        (λ p j. side_at-small cs p (terms_of cases 0) lower (get_or free j 0) (terms_of-small cases 0 s.small.terms) s.small.lower_too)
      where
        there : (i : ℕ) → i < 7 → IsProbe cs cases (get_or probes i (record { case = 0; place = 0 }))
        there i h = each_at (IsProbe cs cases) probes (record { case = 0; place = 0 }) i are (omega (arith, h, e, each))

        same : (i j : ℕ) → i < 7 → j < 7 → 2 ≤ j → probe_number cs cases lower probes free i j ≡ side_at cs (get_or probes i (record { case = 0; place = 0 })).place (sides (terms_of cases 0) lower) (get_or free j 0)
        same i j h k high =
            let low : start + j ≤ get_or free j 0 = rising-from start free j rising (omega (arith, k, e)) in
            let own : length (terms_of cases (get_or probes i (record { case = 0; place = 0 })).case) ≡ term_count cases = terms_of-even (term_count cases) cases (get_or probes i (record { case = 0; place = 0 })).case s.even (there i h).case in
            let within : (get_or probes i (record { case = 0; place = 0 })).case < length cases = (there i h).case in
            let front : length (terms_of cases 0) ≡ term_count cases = terms_of-even (term_count cases) cases 0 s.even (omega (arith, within)) in
            let two : term_count cases ≤ 2 = s.terms in
            let behind : get_or free j 0 ≡ term_count cases + (get_or free j 0 - term_count cases) = omega (arith, low, two, high) in
            side_at-behind cs (get_or probes i (record { case = 0; place = 0 })).place (terms_of cases (get_or probes i (record { case = 0; place = 0 })).case) lower (get_or free j 0) (get_or free j 0 - term_count cases) (behind ∙ ap (λ n. n + (get_or free j 0 - term_count cases)) (sym own))
            ∙ sym (side_at-behind cs (get_or probes i (record { case = 0; place = 0 })).place (terms_of cases 0) lower (get_or free j 0) (get_or free j 0 - term_count cases) (behind ∙ ap (λ n. n + (get_or free j 0 - term_count cases)) (sym front)))

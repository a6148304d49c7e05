-- A sum of multiples of small polynomials stays within 128 bits.
use Rattle.std.proofs.Common.{◌≡◌, ℕ, suc, ◌+◌, ◌*◌, ◌^◌, ◌<◌, ◌≤◌, Bool, true, false, cond, List, [], ◌∷◌, length, Result, Ok, refl, sym, ap, subst, ◌∙◌, arith, ℤ, pos, ◌+ℤ◌, ◌*ℤ◌}
use Rattle.std.specs.Prelude.{unsigned_abs}
use Rattle.std.specs.List.{AllByRecursion}
use Rattle.std.specs.Ordering.{eq_by_cmp, is_eq, match_ordering}
use Rattle.std.specs.declared.cmp.Ordering.{Ordering}
use Rattle.std.specs.declared.cmp.Ordering.TheVariants.{Less, Equal, Greater}
use Rattle.std.proofs.lemmas.Int.{ints}
use Rattle.std.proofs.lemmas.Bool.{false≢true}
use Rattle.items.specs.Gives.{◌>>=◌, err_map}
use Rattle.whole_numbers.proofs.Ring.{unsigned_abs-+ℤ}
use Rattle.linear_terms.specs.declared.col.Col.{Col}
use Rattle.linear_terms.specs.declared.error.TermError.{TermError}
use Rattle.linear_terms.specs.TermError.{wide, plus, times}
use Rattle.linear_terms.specs.Mono.{mono_cmp}
use Rattle.linear_terms.specs.Operations.{with_term, put, put_all, sum_of_polys, times_each, multiple_of}
use Rattle.linear_terms.specs.Polynomial.{Terms, Polynomial, coefficient_in, IsCanonical}
use Rattle.linear_terms.proofs.Canonical.{first_before, IsCanonical-tail, IsCanonical-put, IsCanonical-sum_of_polys, IsCanonical-multiple_of}
use Rattle.farkas_check.specs.Sizes.{HasNumbersUpTo}
use Rattle.farkas_check.proofs.Spreads.{itself, same_mono}
use Rattle.simplex.specs.Differences.{with_multiples}
use Rattle.simplex.proofs.Coefficients.{put-coefficient, none_before, sum-coefficient, multiple-coefficient}
use Rattle.simplex.proofs.Small.{product-small, sum_of-fits, product_of-fits}

-- a value of an operation on polynomials
abbrev HasMade : {X : Type 0} → Result X TermError → Type 0
HasMade {X} r = (x : X) × (r ≡ Ok x)

plus-fits : (a b : ℤ) → unsigned_abs (a +ℤ b) < 2 ^ 127 → plus a b ≡ Ok (a +ℤ b)
plus-fits a b h = ap (err_map wide) (sum_of-fits a b h)

times-fits : (a b : ℤ) → unsigned_abs (a *ℤ b) < 2 ^ 127 → times a b ≡ Ok (a *ℤ b)
times-fits a b h = ap (err_map wide) (product_of-fits a b h)

-- ---- sums

put-fits : (m : List Col) (c : ℤ) (ts : Terms) → IsCanonical ts → unsigned_abs (coefficient_in ts m +ℤ c) < 2 ^ 127 → HasMade (put m c ts)
put-fits m c [] k h = (with_term m c [], refl)
put-fits m c (t ∷ ts) k h = go (mono_cmp m t.0) refl (λ g. put-fits m c ts (IsCanonical-tail t ts k) g)
  where
    terms_ok : Terms → Result Terms TermError
    terms_ok us = Ok us

    own : m ≡ t.0 → coefficient_in (t ∷ ts) m ≡ t.1
    own e = ap (coefficient_in (t ∷ ts)) e ∙ ap (λ (b : Bool). cond b t.1 (coefficient_in ts t.0)) (itself t.0)

    later : (q : Bool) → eq_by_cmp mono_cmp t.0 m ≡ q → mono_cmp m t.0 ≡ Greater → unsigned_abs (cond q t.1 (coefficient_in ts m) +ℤ c) < 2 ^ 127 → unsigned_abs (coefficient_in ts m +ℤ c) < 2 ^ 127
    later true e f g = absurd (false≢true (sym (ap is_eq f) ∙ ap (λ (x : List Col). eq_by_cmp mono_cmp m x) (same_mono t.0 m e) ∙ itself m))
    later false e f g = g

    go : (o : Ordering) → mono_cmp m t.0 ≡ o → (unsigned_abs (coefficient_in ts m +ℤ c) < 2 ^ 127 → HasMade (put m c ts)) → HasMade (match_ordering o (Ok (with_term m c (t ∷ ts))) (plus t.1 c >>= λ s. Ok (with_term t.0 s ts)) (put m c ts >>= λ made. Ok (t ∷ made)))
    go Less e ih = (with_term m c (t ∷ ts), refl)
    go Equal e ih = (with_term t.0 (t.1 +ℤ c) ts, ap (λ (r : Result ℤ TermError). r >>= λ s. terms_ok (with_term t.0 s ts)) (plus-fits t.1 c (subst (λ z. unsigned_abs (z +ℤ c) < 2 ^ 127) (own (same_mono m t.0 (ap is_eq e))) h)))
    go Greater e ih = with_more (ih (later (eq_by_cmp mono_cmp t.0 m) refl e h))
      where
        with_more : HasMade (put m c ts) → HasMade (put m c ts >>= λ made. Ok (t ∷ made))
        with_more more = (t ∷ more.0, ap (λ (r : Result Terms TermError). r >>= λ made. terms_ok (t ∷ made)) more.1)

put_all-fits : (b : ℕ) (more ts : Terms) → IsCanonical ts → IsCanonical more → ((n : List Col) → unsigned_abs (coefficient_in ts n) + unsigned_abs (coefficient_in more n) ≤ b) → b < 2 ^ 127 → HasMade (put_all ts more)
put_all-fits b [] ts k l h room = (ts, refl)
put_all-fits b (t ∷ more) ts k l h room = joined (put-fits t.0 t.1 ts k first) (λ next e. put_all-fits b more next (IsCanonical-put t.0 t.1 ts next k e) (IsCanonical-tail t more l) (rest next e) room)
  where
    first : unsigned_abs (coefficient_in ts t.0 +ℤ t.1) < 2 ^ 127
    first =
        let g : unsigned_abs (coefficient_in ts t.0) + unsigned_abs t.1 ≤ b = subst (λ z. unsigned_abs (coefficient_in ts t.0) + unsigned_abs z ≤ b) (ap (λ (q : Bool). cond q t.1 (coefficient_in more t.0)) (itself t.0)) (h t.0) in
        let s : unsigned_abs (coefficient_in ts t.0 +ℤ t.1) ≤ unsigned_abs (coefficient_in ts t.0) + unsigned_abs t.1 = unsigned_abs-+ℤ (coefficient_in ts t.0) t.1 in omega (arith, g, s, room)

    level : (q : Bool) (x y z : ℤ) → (q ≡ true → z ≡ pos 0) → y ≡ x +ℤ cond q t.1 (pos 0) → unsigned_abs x + unsigned_abs (cond q t.1 z) ≤ b → unsigned_abs y + unsigned_abs z ≤ b
    level true x y z f e g = let n : z ≡ pos 0 = f refl in let s : unsigned_abs y ≤ unsigned_abs x + unsigned_abs t.1 = subst (λ w. unsigned_abs w ≤ unsigned_abs x + unsigned_abs t.1) (sym e) (unsigned_abs-+ℤ x t.1) in let m : unsigned_abs z ≡ 0 = ap unsigned_abs n in omega (arith, s, m, g)
    level false x y z f e g = subst (λ w. unsigned_abs w + unsigned_abs z ≤ b) (plain x ∙ sym e) g
      where
        plain : (w : ℤ) → w ≡ w +ℤ pos 0
        plain w = omega (arith, ints)

    rest : (next : Terms) → put t.0 t.1 ts ≡ Ok next → (n : List Col) → unsigned_abs (coefficient_in next n) + unsigned_abs (coefficient_in more n) ≤ b
    rest next e n = level (eq_by_cmp mono_cmp t.0 n) (coefficient_in ts n) (coefficient_in next n) (coefficient_in more n) (λ p. none_before t.0 n more (first_before t more l) p) (put-coefficient t.0 n t.1 ts next k e) (h n)

    joined : HasMade (put t.0 t.1 ts) → ((next : Terms) → put t.0 t.1 ts ≡ Ok next → HasMade (put_all next more)) → HasMade (put t.0 t.1 ts >>= λ made. put_all made more)
    joined n f = let last = f n.0 n.1 in (last.0, ap (λ (r : Result Terms TermError). r >>= λ made. put_all made more) n.1 ∙ last.1)

-- no coefficient, and not the constant, is greater than n in size
pub record IsBelow (n : ℕ) (p : Polynomial) : Type 0 where
  pub canonical : IsCanonical p.terms
  pub terms : (m : List Col) → unsigned_abs (coefficient_in p.terms m) ≤ n
  pub rest : unsigned_abs p.rest ≤ n

pub below_more : (n m : ℕ) (p : Polynomial) → n ≤ m → IsBelow n p → IsBelow m p
below_more n m p h b = record {
  canonical = b.canonical;
  terms = λ c. let g : unsigned_abs (coefficient_in p.terms c) ≤ n = b.terms c in omega (arith, g, h);
  rest = let g : unsigned_abs p.rest ≤ n = b.rest in omega (arith, g, h);
}

pub sum-below : (a c : ℕ) (p q : Polynomial) → IsBelow a p → IsBelow c q → a + c < 2 ^ 127 → (r : Polynomial) × ((sum_of_polys p q ≡ Ok r) × IsBelow (a + c) r)
sum-below a c p q h k room = joined (put_all-fits (a + c) q.terms p.terms h.canonical k.canonical (λ n. both n) room)
  where
    both : (n : List Col) → unsigned_abs (coefficient_in p.terms n) + unsigned_abs (coefficient_in q.terms n) ≤ a + c
    both n = let f : unsigned_abs (coefficient_in p.terms n) ≤ a = h.terms n in let g : unsigned_abs (coefficient_in q.terms n) ≤ c = k.terms n in omega (arith, f, g)

    poly_ok : Terms → ℤ → Result Polynomial TermError
    poly_ok ts r = Ok (record { terms = ts; rest = r })

    rest_small : unsigned_abs (p.rest +ℤ q.rest) ≤ a + c
    rest_small = let f : unsigned_abs p.rest ≤ a = h.rest in let g : unsigned_abs q.rest ≤ c = k.rest in let s : unsigned_abs (p.rest +ℤ q.rest) ≤ unsigned_abs p.rest + unsigned_abs q.rest = unsigned_abs-+ℤ p.rest q.rest in omega (arith, f, g, s)

    joined : HasMade (put_all p.terms q.terms) → (r : Polynomial) × ((sum_of_polys p q ≡ Ok r) × IsBelow (a + c) r)
    joined ts = (made, (is, record { canonical = IsCanonical-sum_of_polys p q made is h.canonical; terms = λ n. at n; rest = rest_small }))
      where
        made : Polynomial
        made = record { terms = ts.0; rest = p.rest +ℤ q.rest }

        is : sum_of_polys p q ≡ Ok made
        is = ap (λ (r : Result Terms TermError). r >>= λ us. plus p.rest q.rest >>= λ z. poly_ok us z) ts.1
            ∙ ap (λ (r : Result ℤ TermError). r >>= λ z. poly_ok ts.0 z) (plus-fits p.rest q.rest (let g : unsigned_abs (p.rest +ℤ q.rest) ≤ a + c = rest_small in omega (arith, g, room)))

        at : (n : List Col) → unsigned_abs (coefficient_in ts.0 n) ≤ a + c
        at n = let s : unsigned_abs (coefficient_in ts.0 n) ≤ unsigned_abs (coefficient_in p.terms n) + unsigned_abs (coefficient_in q.terms n) = subst (λ z. unsigned_abs z ≤ unsigned_abs (coefficient_in p.terms n) + unsigned_abs (coefficient_in q.terms n)) (sym (sum-coefficient p q made n h.canonical k.canonical is)) (unsigned_abs-+ℤ (coefficient_in p.terms n) (coefficient_in q.terms n)) in let g : unsigned_abs (coefficient_in p.terms n) + unsigned_abs (coefficient_in q.terms n) ≤ a + c = both n in omega (arith, s, g)

-- ---- multiples

pub coefficient-small : (n : ℕ) (ts : Terms) (m : List Col) → AllByRecursion (λ t. unsigned_abs t.1 ≤ n) ts → unsigned_abs (coefficient_in ts m) ≤ n
coefficient-small n [] m h = omega arith
coefficient-small n (t ∷ ts) m h = go (eq_by_cmp mono_cmp t.0 m) (coefficient-small n ts m h.1)
  where
    go : (q : Bool) → unsigned_abs (coefficient_in ts m) ≤ n → unsigned_abs (cond q t.1 (coefficient_in ts m)) ≤ n
    go true ih = h.0
    go false ih = ih

times_each-fits : (n k : ℕ) (by : ℤ) (ts : Terms) → unsigned_abs by ≤ k → n * k < 2 ^ 127 → AllByRecursion (λ t. unsigned_abs t.1 ≤ n) ts → HasMade (times_each ts by)
times_each-fits n k by [] small room h = ([], refl)
times_each-fits n k by (t ∷ ts) small room h = joined (times_each-fits n k by ts small room h.1)
  where
    terms_ok : Terms → Result Terms TermError
    terms_ok us = Ok us

    joined : HasMade (times_each ts by) → HasMade (times_each (t ∷ ts) by)
    joined more = (
      with_term t.0 (t.1 *ℤ by) more.0,
      ap (λ (r : Result ℤ TermError). r >>= λ c. times_each ts by >>= λ made. terms_ok (with_term t.0 c made)) (times-fits t.1 by (let g : unsigned_abs (t.1 *ℤ by) ≤ n * k = product-small n k t.1 by h.0 small in omega (arith, g, room)))
          ∙ ap (λ (r : Result Terms TermError). r >>= λ made. terms_ok (with_term t.0 (t.1 *ℤ by) made)) more.1,
    )

pub multiple-below : (n k : ℕ) (p : Polynomial) (by : ℤ) → IsCanonical p.terms → HasNumbersUpTo n p → unsigned_abs by ≤ k → n * k < 2 ^ 127 → (q : Polynomial) × ((multiple_of p by ≡ Ok q) × IsBelow (n * k) q)
multiple-below n k p by canonical up small room = joined (times_each-fits n k by p.terms small room up.terms)
  where
    poly_ok : Terms → ℤ → Result Polynomial TermError
    poly_ok ts r = Ok (record { terms = ts; rest = r })

    joined : HasMade (times_each p.terms by) → (q : Polynomial) × ((multiple_of p by ≡ Ok q) × IsBelow (n * k) q)
    joined ts = (
      made,
      (
        is,
        record {
          canonical = IsCanonical-multiple_of p by made is canonical;
          terms = λ m. subst (λ z. unsigned_abs z ≤ n * k) (sym (multiple-coefficient p made by m canonical is)) (product-small n k (coefficient_in p.terms m) by (coefficient-small n p.terms m up.terms) small);
          rest = product-small n k p.rest by up.rest small;
        },
      ),
    )
      where
        made : Polynomial
        made = record { terms = ts.0; rest = p.rest *ℤ by }

        is : multiple_of p by ≡ Ok made
        is = ap (λ (r : Result Terms TermError). r >>= λ us. times p.rest by >>= λ z. poly_ok us z) ts.1
            ∙ ap (λ (r : Result ℤ TermError). r >>= λ z. poly_ok ts.0 z) (times-fits p.rest by (let g : unsigned_abs (p.rest *ℤ by) ≤ n * k = product-small n k p.rest by up.rest small in omega (arith, g, room)))

-- ---- a polynomial with multiples of others

-- a polynomial in canonical form of numbers of at most 2 ^ 20
pub record IsSmallTerm (p : Polynomial) : Type 0 where
  pub canonical : IsCanonical p.terms
  pub up_to : HasNumbersUpTo 1048576 p

pub multiples-below : (b : ℕ) (total : Polynomial) (ns : List ℤ) (ps : List Polynomial) → IsBelow b total → AllByRecursion (λ z. unsigned_abs z ≤ 1048576) ns → AllByRecursion IsSmallTerm ps → b + length ns * 1099511627776 < 2 ^ 127
    → (p : Polynomial) × ((with_multiples total ns ps ≡ Ok p) × IsBelow (b + length ns * 1099511627776) p)
multiples-below b total [] ps t h k room = (total, (refl, below_more b (b + 0 * 1099511627776) total (omega arith) t))
multiples-below b total (n ∷ ns) [] t h k room = (total, (refl, below_more b (b + suc (length ns) * 1099511627776) total (omega arith) t))
multiples-below b total (n ∷ ns) (q ∷ ps) t h k room =
    first (multiple-below 1048576 1048576 q n k.0.canonical k.0.up_to h.0 (omega arith)) (λ next e. multiples-below (b + 1048576 * 1048576) next ns ps e h.1 k.1 (omega (arith, step, room)))
  where
    step : suc (length ns) * 1099511627776 ≡ length ns * 1099511627776 + 1099511627776
    step = omega arith

    first : (r : Polynomial) × ((multiple_of q n ≡ Ok r) × IsBelow (1048576 * 1048576) r) → ((next : Polynomial) → IsBelow (b + 1048576 * 1048576) next → (p : Polynomial) × ((with_multiples next ns ps ≡ Ok p) × IsBelow (b + 1048576 * 1048576 + length ns * 1099511627776) p)) → (p : Polynomial) × ((with_multiples total (n ∷ ns) (q ∷ ps) ≡ Ok p) × IsBelow (b + suc (length ns) * 1099511627776) p)
    first r more = second (sum-below b (1048576 * 1048576) total r.0 t r.1.1 (omega (arith, step, room)))
      where
        second : (s : Polynomial) × ((sum_of_polys total r.0 ≡ Ok s) × IsBelow (b + 1048576 * 1048576) s) → (p : Polynomial) × ((with_multiples total (n ∷ ns) (q ∷ ps) ≡ Ok p) × IsBelow (b + suc (length ns) * 1099511627776) p)
        second s = last (more s.0 s.1.1)
          where
            last : (p : Polynomial) × ((with_multiples s.0 ns ps ≡ Ok p) × IsBelow (b + 1048576 * 1048576 + length ns * 1099511627776) p) → (p : Polynomial) × ((with_multiples total (n ∷ ns) (q ∷ ps) ≡ Ok p) × IsBelow (b + suc (length ns) * 1099511627776) p)
            last p = (
              p.0,
              (
                ap (λ (x : Result Polynomial TermError). (x >>= λ part. sum_of_polys total part) >>= λ next. with_multiples next ns ps) r.1.0 ∙ ap (λ (x : Result Polynomial TermError). x >>= λ next. with_multiples next ns ps) s.1.0 ∙ p.1.0,
                below_more (b + 1048576 * 1048576 + length ns * 1099511627776) (b + suc (length ns) * 1099511627776) p.0 (omega (arith, step)) p.1.1,
              ),
            )

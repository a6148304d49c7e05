-- The coefficients of a sum of multiples of polynomials.
use Rattle.std.proofs.Common.{◌≡◌, Bool, true, false, cond, List, [], ◌∷◌, Result, Ok, refl, sym, ap, subst, ◌∙◌, arith, ℤ, pos, ◌+ℤ◌, ◌*ℤ◌}
use Rattle.std.specs.List.{AllByRecursion}
use Rattle.std.specs.Ordering.{int_eq, is_eq, eq_by_cmp, match_ordering}
use Rattle.std.specs.declared.cmp.Ordering.{Ordering}
use Rattle.std.specs.declared.cmp.Ordering.TheVariants.{Less, Equal, Greater}
use Rattle.std.proofs.lemmas.Int.{ints}
use Rattle.std.proofs.lemmas.Bool.Decides.{Decides-int_eq}
use Rattle.std.proofs.Math.IntN.{zero-*ℤ}
use Rattle.items.specs.Gives.{◌>>=◌}
use Rattle.items.proofs.Gives.{on_ok}
use Rattle.linear_terms.specs.declared.col.Col.{Col}
use Rattle.linear_terms.specs.declared.error.TermError.{TermError}
use Rattle.linear_terms.specs.TermError.{plus, times}
use Rattle.linear_terms.specs.Mono.{mono_cmp}
use Rattle.linear_terms.specs.Operations.{with_term, put, put_all, sum_of_polys, times_each, multiple_of}
use Rattle.linear_terms.specs.Polynomial.{Terms, Polynomial, coefficient_in, IsCanonical}
use Rattle.linear_terms.proofs.Canonical.{Before, Before-trans, first_before, IsCanonical-tail, IsCanonical-put, IsCanonical-sum_of_polys, IsCanonical-multiple_of}
use Rattle.linear_terms.proofs.Values.{plus-value, times-value}
use Rattle.farkas_check.proofs.Spreads.{same_mono}
use Rattle.simplex.specs.Differences.{with_multiple, with_multiples, weighted_value}
use Rattle.simplex.proofs.Tame.{coefficient-before}

-- ---- one term

-- a number at a monomial, and 0 at each other
abbrev pub at_mono : List Col → ℤ → List Col → ℤ
at_mono m c n = cond (eq_by_cmp mono_cmp m n) c (pos 0)

chosen_sum : (q : Bool) (c x : ℤ) → (q ≡ true → x ≡ pos 0) → cond q c x ≡ x +ℤ cond q c (pos 0)
chosen_sum true c x f = let e : x ≡ pos 0 = f refl in omega (arith, ints, e)
chosen_sum false c x f = omega (arith, ints)

-- what stands before all terms has no part in them
pub none_before : (m n : List Col) (ts : Terms) → Before m ts → eq_by_cmp mono_cmp m n ≡ true → coefficient_in ts n ≡ pos 0
none_before m n ts b e = ap (coefficient_in ts) (sym (same_mono m n e)) ∙ coefficient-before m ts b

kept-coefficient : (m n : List Col) (c : ℤ) (ts : Terms) → (eq_by_cmp mono_cmp m n ≡ true → c ≡ pos 0 → coefficient_in ts n ≡ pos 0) → coefficient_in (with_term m c ts) n ≡ cond (eq_by_cmp mono_cmp m n) c (coefficient_in ts n)
kept-coefficient m n c ts f = go (int_eq c (pos 0)) refl
  where
    level : (q : Bool) → (q ≡ true → coefficient_in ts n ≡ pos 0) → c ≡ pos 0 → coefficient_in ts n ≡ cond q c (coefficient_in ts n)
    level true g e = g refl ∙ sym e
    level false g e = refl

    go : (z : Bool) → int_eq c (pos 0) ≡ z → coefficient_in (cond z ts ((m, c) ∷ ts)) n ≡ cond (eq_by_cmp mono_cmp m n) c (coefficient_in ts n)
    go true e = let nothing : c ≡ pos 0 = (Decides-int_eq c (pos 0)).0 e in level (eq_by_cmp mono_cmp m n) (λ g. f g nothing) nothing
    go false e = refl

-- ---- sums

same_terms : (ts made : Terms) (z : ℤ) (n : List Col) → (let r : Result Terms TermError = Ok ts in r ≡ Ok made) → coefficient_in ts n ≡ z → coefficient_in made n ≡ z
same_terms ts made z n e f = let same : ts ≡ made = cc in ap (λ (x : Terms). coefficient_in x n) (sym same) ∙ f

pub put-coefficient : (m n : List Col) (c : ℤ) (ts made : Terms) → IsCanonical ts → put m c ts ≡ Ok made → coefficient_in made n ≡ coefficient_in ts n +ℤ at_mono m c n
put-coefficient m n c [] made k e = same_terms (with_term m c []) made (pos 0 +ℤ at_mono m c n) n e (kept-coefficient m n c [] (λ g h. refl) ∙ chosen_sum (eq_by_cmp mono_cmp m n) c (pos 0) (λ g. refl))
put-coefficient m n c (t ∷ ts) made k e = go (mono_cmp m t.0) refl e (λ more f. put-coefficient m n c ts more (IsCanonical-tail t ts k) f)
  where
    sum : ℤ
    sum = coefficient_in (t ∷ ts) n +ℤ at_mono m c n

    shared : (q : Bool) (s x : ℤ) → s ≡ t.1 +ℤ c → cond q s x ≡ cond q t.1 x +ℤ cond q c (pos 0)
    shared true s x f = f
    shared false s x f = omega (arith, ints)

    later : (q r : Bool) (x y : ℤ) → (q ≡ true → r ≡ false) → x ≡ y +ℤ cond r c (pos 0) → cond q t.1 x ≡ cond q t.1 y +ℤ cond r c (pos 0)
    later true r x y f g = sym (ap (λ (b : Bool). t.1 +ℤ cond b c (pos 0)) (f refl) ∙ plain t.1)
      where
        plain : (z : ℤ) → z +ℤ pos 0 ≡ z
        plain z = omega (arith, ints)
    later false r x y f g = g

    go : (o : Ordering) → mono_cmp m t.0 ≡ o → match_ordering o (Ok (with_term m c (t ∷ ts))) (plus t.1 c >>= λ s. Ok (with_term t.0 s ts)) (put m c ts >>= λ more. Ok (t ∷ more)) ≡ Ok made → ((more : Terms) → put m c ts ≡ Ok more → coefficient_in more n ≡ coefficient_in ts n +ℤ at_mono m c n) → coefficient_in made n ≡ coefficient_in (t ∷ ts) n +ℤ at_mono m c n
    go Less o f ih = same_terms (with_term m c (t ∷ ts)) made sum n f
        (kept-coefficient m n c (t ∷ ts) (λ g h. before g) ∙ chosen_sum (eq_by_cmp mono_cmp m n) c (coefficient_in (t ∷ ts) n) before)
      where
        before : eq_by_cmp mono_cmp m n ≡ true → coefficient_in (t ∷ ts) n ≡ pos 0
        before g = none_before m n (t ∷ ts) (o, Before-trans m t.0 ts o (first_before t ts k)) g
    go Equal o f ih = on_ok (plus t.1 c) (λ s. Ok (with_term t.0 s ts)) made f
        (λ s g l. same_terms (with_term t.0 s ts) made sum n l
        (kept-coefficient t.0 n s ts (λ p h. none_before t.0 n ts (first_before t ts k) p)
        ∙ shared (eq_by_cmp mono_cmp t.0 n) s (coefficient_in ts n) (plus-value t.1 c s g)
        ∙ ap (λ (x : List Col). coefficient_in (t ∷ ts) n +ℤ at_mono x c n) (sym (same_mono m t.0 (ap is_eq o)))))
    go Greater o f ih = on_ok (put m c ts) (λ more. Ok (t ∷ more)) made f
        (λ more g l. same_terms (t ∷ more) made sum n l (later (eq_by_cmp mono_cmp t.0 n) (eq_by_cmp mono_cmp m n) (coefficient_in more n) (coefficient_in ts n) (λ p. ap (λ (x : List Col). eq_by_cmp mono_cmp m x) (sym (same_mono t.0 n p)) ∙ ap is_eq o) (ih more g)))

put_all-coefficient : (n : List Col) (more ts made : Terms) → IsCanonical ts → IsCanonical more → put_all ts more ≡ Ok made → coefficient_in made n ≡ coefficient_in ts n +ℤ coefficient_in more n
put_all-coefficient n [] ts made k l e = same_terms ts made (coefficient_in ts n +ℤ pos 0) n e (plain (coefficient_in ts n))
  where
    plain : (z : ℤ) → z ≡ z +ℤ pos 0
    plain z = omega (arith, ints)
put_all-coefficient n (t ∷ more) ts made k l e =
    on_ok (put t.0 t.1 ts) (λ next. put_all next more) made e
    (λ next f g. put_all-coefficient n more next made (IsCanonical-put t.0 t.1 ts next k f) (IsCanonical-tail t more l) g
    ∙ ap (λ z. z +ℤ coefficient_in more n) (put-coefficient t.0 n t.1 ts next k f)
    ∙ joined (coefficient_in ts n) (at_mono t.0 t.1 n) (coefficient_in more n) (chosen_sum (eq_by_cmp mono_cmp t.0 n) t.1 (coefficient_in more n) (λ p. none_before t.0 n more (first_before t more l) p)))
  where
    joined : (a b c : ℤ) {d : ℤ} → d ≡ c +ℤ b → a +ℤ b +ℤ c ≡ a +ℤ d
    joined a b c f = omega (arith, ints, f)

-- ---- multiples

times_each-coefficient : (n : List Col) (by : ℤ) (ts made : Terms) → IsCanonical ts → times_each ts by ≡ Ok made → coefficient_in made n ≡ coefficient_in ts n *ℤ by
times_each-coefficient n by [] made k e = same_terms [] made (pos 0 *ℤ by) n e (sym (zero-*ℤ by))
times_each-coefficient n by (t ∷ ts) made k e =
    on_ok (times t.1 by) (λ c. times_each ts by >>= λ more. Ok (with_term t.0 c more)) made e
    (λ c f g. on_ok (times_each ts by) (λ more. Ok (with_term t.0 c more)) made g
    (λ more h l. same_terms (with_term t.0 c more) made (coefficient_in (t ∷ ts) n *ℤ by) n l
    (kept-coefficient t.0 n c more (λ p z. times_each-coefficient n by ts more (IsCanonical-tail t ts k) h ∙ ap (λ x. x *ℤ by) (none_before t.0 n ts (first_before t ts k) p) ∙ zero-*ℤ by)
    ∙ both (eq_by_cmp mono_cmp t.0 n) c (coefficient_in more n) (times-value t.1 by c f) (times_each-coefficient n by ts more (IsCanonical-tail t ts k) h))))
  where
    both : (q : Bool) (c x : ℤ) → c ≡ t.1 *ℤ by → x ≡ coefficient_in ts n *ℤ by → cond q c x ≡ cond q t.1 (coefficient_in ts n) *ℤ by
    both true c x f g = f
    both false c x f g = g

-- ---- polynomials

pub sum-coefficient : (a b p : Polynomial) (n : List Col) → IsCanonical a.terms → IsCanonical b.terms → sum_of_polys a b ≡ Ok p → coefficient_in p.terms n ≡ coefficient_in a.terms n +ℤ coefficient_in b.terms n
sum-coefficient a b p n k l e =
    on_ok (put_all a.terms b.terms) (λ ts. plus a.rest b.rest >>= λ r. poly_ok ts r) p e
    (λ ts f g. on_ok (plus a.rest b.rest) (λ r. poly_ok ts r) p g
    (λ r h o. let same : record { terms = ts; rest = r } ≡ p = cc in ap (λ (x : Polynomial). coefficient_in x.terms n) (sym same) ∙ put_all-coefficient n b.terms a.terms ts k l f))
  where
    poly_ok : Terms → ℤ → Result Polynomial TermError
    poly_ok ts r = Ok (record { terms = ts; rest = r })

pub sum-rest : (a b p : Polynomial) → sum_of_polys a b ≡ Ok p → p.rest ≡ a.rest +ℤ b.rest
sum-rest a b p e =
    on_ok (put_all a.terms b.terms) (λ ts. plus a.rest b.rest >>= λ r. poly_ok ts r) p e
    (λ ts f g. on_ok (plus a.rest b.rest) (λ r. poly_ok ts r) p g
    (λ r h o. let same : record { terms = ts; rest = r } ≡ p = cc in ap (λ (x : Polynomial). x.rest) (sym same) ∙ plus-value a.rest b.rest r h))
  where
    poly_ok : Terms → ℤ → Result Polynomial TermError
    poly_ok ts r = Ok (record { terms = ts; rest = r })

pub multiple-coefficient : (a p : Polynomial) (by : ℤ) (n : List Col) → IsCanonical a.terms → multiple_of a by ≡ Ok p → coefficient_in p.terms n ≡ coefficient_in a.terms n *ℤ by
multiple-coefficient a p by n k e =
    on_ok (times_each a.terms by) (λ ts. times a.rest by >>= λ r. poly_ok ts r) p e
    (λ ts f g. on_ok (times a.rest by) (λ r. poly_ok ts r) p g
    (λ r h o. let same : record { terms = ts; rest = r } ≡ p = cc in ap (λ (x : Polynomial). coefficient_in x.terms n) (sym same) ∙ times_each-coefficient n by a.terms ts k f))
  where
    poly_ok : Terms → ℤ → Result Polynomial TermError
    poly_ok ts r = Ok (record { terms = ts; rest = r })

pub multiple-rest : (a p : Polynomial) (by : ℤ) → multiple_of a by ≡ Ok p → p.rest ≡ a.rest *ℤ by
multiple-rest a p by e =
    on_ok (times_each a.terms by) (λ ts. times a.rest by >>= λ r. poly_ok ts r) p e
    (λ ts f g. on_ok (times a.rest by) (λ r. poly_ok ts r) p g
    (λ r h o. let same : record { terms = ts; rest = r } ≡ p = cc in ap (λ (x : Polynomial). x.rest) (sym same) ∙ times-value a.rest by r h))
  where
    poly_ok : Terms → ℤ → Result Polynomial TermError
    poly_ok ts r = Ok (record { terms = ts; rest = r })

-- what a polynomial is that is another one with multiples of polynomials
pub record IsWeightedSum (total p : Polynomial) (ns : List ℤ) (ps : List Polynomial) : Type 0 where
  pub canonical : IsCanonical p.terms
  pub coefficient : (n : List Col) → coefficient_in p.terms n ≡ coefficient_in total.terms n +ℤ weighted_value (λ (q : Polynomial). coefficient_in q.terms n) ns ps
  pub rest : p.rest ≡ total.rest +ℤ weighted_value (λ (q : Polynomial). q.rest) ns ps

pub weighted_sum : (total p : Polynomial) (ns : List ℤ) (ps : List Polynomial) → IsCanonical total.terms → AllByRecursion (λ (q : Polynomial). IsCanonical q.terms) ps → with_multiples total ns ps ≡ Ok p → IsWeightedSum total p ns ps
weighted_sum total p [] ps k l e = unchanged total p k (cc)
  where
    unchanged : (total p : Polynomial) → IsCanonical total.terms → total ≡ p → IsWeightedSum total p [] ps
    unchanged total p k same = subst (λ (x : Polynomial). IsWeightedSum total x [] ps) same (record { canonical = k; coefficient = λ n. plain (coefficient_in total.terms n); rest = plain total.rest })
      where
        plain : (z : ℤ) → z ≡ z +ℤ pos 0
        plain z = omega (arith, ints)
weighted_sum total p (n ∷ ns) [] k l e = subst (λ (x : Polynomial). IsWeightedSum total x (n ∷ ns) []) (let same : total ≡ p = cc in same) (record { canonical = k; coefficient = λ m. plain (coefficient_in total.terms m); rest = plain total.rest })
  where
    plain : (z : ℤ) → z ≡ z +ℤ pos 0
    plain z = omega (arith, ints)
weighted_sum total p (n ∷ ns) (q ∷ qs) k l e =
    on_ok (with_multiple total n q) (λ next. with_multiples next ns qs) p e
    (λ next d o. on_ok (multiple_of q n) (λ part. sum_of_polys total part) next d
    (λ part f h. step part next f h (weighted_sum next p ns qs (IsCanonical-sum_of_polys total part next h k) l.1 o)))
  where
    grouped : (a b c : ℤ) {x y : ℤ} → x ≡ y +ℤ c → y ≡ a +ℤ b → x ≡ a +ℤ (b +ℤ c)
    grouped a b c f g = omega (arith, ints, f, g)

    step : (part next : Polynomial) → multiple_of q n ≡ Ok part → sum_of_polys total part ≡ Ok next → IsWeightedSum next p ns qs → IsWeightedSum total p (n ∷ ns) (q ∷ qs)
    step part next f h w = record {
      canonical = w.canonical;
      coefficient = λ m. grouped (coefficient_in total.terms m) (coefficient_in q.terms m *ℤ n) (weighted_value (λ (r : Polynomial). coefficient_in r.terms m) ns qs) (w.coefficient m)
          (sum-coefficient total part next m k (IsCanonical-multiple_of q n part f l.0) h ∙ ap (λ z. coefficient_in total.terms m +ℤ z) (multiple-coefficient q part n m l.0 f));
      rest = grouped total.rest (q.rest *ℤ n) (weighted_value (λ (r : Polynomial). r.rest) ns qs) w.rest (sum-rest total part next h ∙ ap (λ z. total.rest +ℤ z) (multiple-rest q part n f));
    }

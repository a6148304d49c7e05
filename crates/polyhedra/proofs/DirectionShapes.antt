-- Directions are linear, without a constant, and over the columns of their vocabulary.
use Rattle.std.proofs.Common.{◌≡◌, ℕ, ◌<◌, List, [], ◌∷◌, ◌++◌, Bool, true, false, Ok, Err, fold, refl, sym, ap, subst, ◌∙◌, arith, ℤ, pos, negsuc, ◌+ℤ◌, ◌*ℤ◌}
use Rattle.std.specs.Prelude.{IsTrue, if◌then◌else◌, not, ◌==◌}
use Rattle.std.specs.List.{AllByRecursion, filter, filter_map, flat_map, list_any}
use Rattle.std.specs.Ordering.{int_eq, match_ordering}
use Rattle.std.specs.declared.cmp.Ordering.{Ordering}
use Rattle.std.specs.declared.cmp.Ordering.TheVariants.{Less, Equal, Greater}
use Rattle.std.proofs.lemmas.Int.{ints}
use Rattle.items.specs.Gives.{◌>>=◌}
use Rattle.items.proofs.Gives.{on_ok}
use Rattle.items.proofs.Each.{each-append, each-map, each-flat_map, each-more, each-both}
use Rattle.linear_terms.specs.declared.col.Col.{Col}
use Rattle.linear_terms.specs.declared.col.Col.TheVariants.{At}
use Rattle.linear_terms.specs.Equality.{poly_eq}
use Rattle.linear_terms.specs.Expressions.{Made, ◌⊟◌, column, negative_of}
use Rattle.linear_terms.specs.Mono.{mono_cmp}
use Rattle.linear_terms.specs.Polynomial.{Terms, Polynomial, IsCanonical, column_of}
use Rattle.linear_terms.proofs.Canonical.{IsCanonical-column, IsCanonical-put_all, IsCanonical-times_each}
use Rattle.linear_terms.specs.Operations.{with_term, put, put_all, sum_of_polys, times_each, multiple_of}
use Rattle.linear_terms.specs.TermError.{plus, times}
use Rattle.linear_terms.proofs.Values.{plus-value, times-value}
use Rattle.transition_formula.specs.Loss.{answer_of}
use Rattle.transition_formula.specs.Transition.{is_below}
use Rattle.transition_formula.proofs.Fitting.{below-true, true-below}
use Rattle.polyhedra.specs.Vocabulary.{Vocabulary, IsDirection, IsDirectionOver, IsVocabulary}
use Rattle.polyhedra.proofs.Lists.{each-filter}
use Rattle.polyhedra.specs.Directions.{with_new, distinct, both_signs, less_others, candidates, directions}

-- ---- lists without repetitions have elements of the list

new_each : {A : Type 0} (P : A → Type 0) (same : A → A → Bool) (made xs : List A) → AllByRecursion P made → AllByRecursion P xs → AllByRecursion P (fold (with_new same) made xs)
new_each P same made [] h k = h
new_each P same made (x ∷ xs) h k = new_each P same (with_new same made x) xs (go (list_any (same x) made)) k.1
  where
    go : (b : Bool) → AllByRecursion P (if b then made else made ++ x ∷ [])
    go true = h
    go false = each-append P made (x ∷ []) h (k.0, tt)

pub each-distinct : {A : Type 0} (P : A → Type 0) (same : A → A → Bool) (xs : List A) → AllByRecursion P xs → AllByRecursion P (distinct same xs)
each-distinct P same xs h = new_each P same [] xs tt h

-- ---- monomials of sums and multiples

module _ (P : List Col → Type 0) where
  abbrev Each : Terms → Type 0
  Each ts = AllByRecursion (λ t. P t.0) ts

  kept-each : (m : List Col) (c : ℤ) (ts : Terms) → P m → Each ts → Each (with_term m c ts)
  kept-each m c ts p h = go (int_eq c (pos 0))
    where
      go : (b : Bool) → AllByRecursion (λ t. P t.0) (if b then ts else (m, c) ∷ ts)
      go true = h
      go false = (p, h)

  put-each : (m : List Col) (c : ℤ) (ts made : Terms) → put m c ts ≡ Ok made → P m → Each ts → Each made
  put-each m c [] made e p h = let same : with_term m c [] ≡ made = cc in subst Each same (kept-each m c [] p tt)
  put-each m c (t ∷ ts) made e p h = go (mono_cmp m t.0) e (λ more f. put-each m c ts more f p h.1)
    where
      go : (o : Ordering) → match_ordering o (Ok (with_term m c (t ∷ ts))) (plus t.1 c >>= λ s. Ok (with_term t.0 s ts)) (put m c ts >>= λ more. Ok (t ∷ more)) ≡ Ok made → ((more : Terms) → put m c ts ≡ Ok more → AllByRecursion (λ t. P t.0) more) → AllByRecursion (λ t. P t.0) made
      go Less f ih = let same : with_term m c (t ∷ ts) ≡ made = cc in subst (λ (us : Terms). AllByRecursion (λ t. P t.0) us) same (kept-each m c (t ∷ ts) p h)
      go Equal f ih = on_ok (plus t.1 c) (λ s. Ok (with_term t.0 s ts)) made f (λ s g k. let same : with_term t.0 s ts ≡ made = cc in subst (λ (us : Terms). AllByRecursion (λ t. P t.0) us) same (kept-each t.0 s ts h.0 h.1))
      go Greater f ih = on_ok (put m c ts) (λ more. Ok (t ∷ more)) made f (λ more g k. let same : t ∷ more ≡ made = cc in subst (λ (us : Terms). AllByRecursion (λ t. P t.0) us) same (h.0, ih more g))

  put_all-each : (more ts made : Terms) → put_all ts more ≡ Ok made → Each ts → Each more → Each made
  put_all-each [] ts made e h k = let same : ts ≡ made = cc in subst Each same h
  put_all-each (t ∷ more) ts made e h k = on_ok (put t.0 t.1 ts) (λ next. put_all next more) made e (λ next f g. put_all-each more next made g (put-each t.0 t.1 ts next f k.0 h) k.1)

  times_each-each : (ts : Terms) (by : ℤ) (made : Terms) → times_each ts by ≡ Ok made → Each ts → Each made
  times_each-each [] by made e h = let same : [] ≡ made = cc in subst Each same tt
  times_each-each (t ∷ ts) by made e h =
      on_ok (times t.1 by) (λ c. times_each ts by >>= λ more. Ok (with_term t.0 c more)) made e (λ c f g.
      on_ok (times_each ts by) (λ more. Ok (with_term t.0 c more)) made g (λ more k l.
      let same : with_term t.0 c more ≡ made = cc in subst Each same (kept-each t.0 c more h.0 (times_each-each ts by more k h.1))))

-- ---- directions

module _ (columns : ℕ) where
  -- one of the columns alone
  abbrev IsColumn : List Col → Type 0
  IsColumn m = (v : ℕ) × ((m ≡ At v ∷ []) × (v < columns))

  record IsPlain (d : Polynomial) : Type 0 where
    single : AllByRecursion (λ t. IsColumn t.0) d.terms
    plain : d.rest ≡ pos 0
    canonical : IsCanonical d.terms

  sum-plain : (a b p : Polynomial) → sum_of_polys a b ≡ Ok p → IsPlain a → IsPlain b → IsPlain p
  sum-plain a b p e of_a of_b =
      on_ok (put_all a.terms b.terms) (λ ts. plus a.rest b.rest >>= λ r. Ok record { terms = ts; rest = r }) p e (λ ts f g.
      on_ok (plus a.rest b.rest) (λ r. Ok record { terms = ts; rest = r }) p g (λ r h k.
      let same : record { terms = ts; rest = r } ≡ p = cc in
      subst IsPlain same (record {
        single = put_all-each IsColumn b.terms a.terms ts f of_a.single of_b.single;
        plain = none r a.rest b.rest (plus-value a.rest b.rest r h) of_a.plain of_b.plain;
        canonical = IsCanonical-put_all b.terms a.terms ts of_a.canonical f;
      })))
    where
      none : (r x y : ℤ) → r ≡ x +ℤ y → x ≡ pos 0 → y ≡ pos 0 → r ≡ pos 0
      none r x y e f g = omega (arith, ints)

  multiple-plain : (a : Polynomial) (by : ℤ) (p : Polynomial) → multiple_of a by ≡ Ok p → IsPlain a → IsPlain p
  multiple-plain a by p e of_a =
      on_ok (times_each a.terms by) (λ ts. times a.rest by >>= λ r. Ok record { terms = ts; rest = r }) p e (λ ts f g.
      on_ok (times a.rest by) (λ r. Ok record { terms = ts; rest = r }) p g (λ r h k.
      let same : record { terms = ts; rest = r } ≡ p = cc in
      subst IsPlain same (record {
        single = times_each-each IsColumn a.terms by ts f of_a.single;
        plain = times-value a.rest by r h ∙ ap (λ x. x *ℤ by) of_a.plain ∙ none by;
        canonical = IsCanonical-times_each by a.terms ts of_a.canonical f;
      })))
    where
      none : (x : ℤ) → pos 0 *ℤ x ≡ pos 0
      none x = omega (arith, ints)

  record IsPlainIfMade (m : Made) : Type 0 where
    as_made : (p : Polynomial) → m ≡ Ok p → IsPlain p

  given : (d : Polynomial) → IsPlain d → IsPlainIfMade (Ok d)
  given d h = record { as_made = λ p e. let same : d ≡ p = cc in subst IsPlain same h }

  column-made : (v : ℕ) → v < columns → IsPlainIfMade (column (At v))
  column-made v lt = given (column_of (At v)) (record { single = ((v, (refl, lt)), tt); plain = refl; canonical = IsCanonical-column (At v ∷ []) })

  turned-made : (m : Made) → IsPlainIfMade m → IsPlainIfMade (negative_of m)
  turned-made m h = record { as_made = λ p e. on_ok m (λ a. multiple_of a (negsuc 0)) p e (λ a f g. multiple-plain a (negsuc 0) p g (h.as_made a f)) }

  difference-made : (a b : Made) → IsPlainIfMade a → IsPlainIfMade b → IsPlainIfMade (a ⊟ b)
  difference-made a b of_a of_b = record {
    as_made = λ r e.
        on_ok a (λ p. b >>= λ q. multiple_of q (negsuc 0) >>= λ turned. sum_of_polys p turned) r e (λ p f g.
        on_ok b (λ q. multiple_of q (negsuc 0) >>= λ turned. sum_of_polys p turned) r g (λ q h l.
        on_ok (multiple_of q (negsuc 0)) (λ turned. sum_of_polys p turned) r l (λ t m n.
        sum-plain p t r n (of_a.as_made p f) (multiple-plain q (negsuc 0) t m (of_b.as_made q h)))));
  }

  both_signs-made : (m : Made) → IsPlainIfMade m → AllByRecursion IsPlainIfMade (both_signs m)
  both_signs-made m h = (h, (turned-made m h, tt))

  answered-plain : (ms : List Made) → AllByRecursion IsPlainIfMade ms → AllByRecursion IsPlain (filter_map answer_of ms)
  answered-plain [] h = tt
  answered-plain (Ok p ∷ ms) h = (h.0.as_made p refl, answered-plain ms h.1)
  answered-plain (Err e ∷ ms) h = answered-plain ms h.1

  abbrev IsNamed : ℕ → Type 0
  IsNamed v = v < columns

  less_others-made : (named : List ℕ) (u : ℕ) → AllByRecursion IsNamed named → u < columns → AllByRecursion IsPlainIfMade (less_others named u)
  less_others-made named u all lt =
      each-map IsNamed IsPlainIfMade (λ v. column (At u) ⊟ column (At v)) (λ v below. difference-made (column (At u)) (column (At v)) (column-made u lt) (column-made v below))
      (filter (λ v. not (u == v)) named) (each-filter IsNamed (λ v. not (u == v)) named all)

  plain-direction : (d : Polynomial) → IsPlain d → IsDirection d
  plain-direction d h = record { single = each-more (λ t. IsColumn t.0) (λ t. (v : ℕ) × (t.0 ≡ At v ∷ [])) (λ t k. (k.0, k.1.0)) d.terms h.single; plain = h.plain }

  plain-within : (d : Polynomial) → IsPlain d → AllByRecursion (λ t. AllByRecursion (λ c. IsTrue (is_below columns 0 c)) t.0) d.terms
  plain-within d h = each-more (λ t. IsColumn t.0) (λ t. AllByRecursion (λ c. IsTrue (is_below columns 0 c)) t.0) (λ t k. one t.0 k) d.terms h.single
    where
      one : (m : List Col) → IsColumn m → AllByRecursion (λ c. IsTrue (is_below columns 0 c)) m
      one m (v, (e, lt)) = subst (λ cs. AllByRecursion (λ c. IsTrue (is_below columns 0 c)) cs) (sym e) (below-true v columns lt, tt)

  direction-column : (m : List Col) → (v : ℕ) × (m ≡ At v ∷ []) → AllByRecursion (λ c. IsTrue (is_below columns 0 c)) m → IsColumn m
  direction-column m (v, e) below = let here = subst (λ cs. AllByRecursion (λ c. IsTrue (is_below columns 0 c)) cs) e below in (v, (e, true-below v columns here.0))

  direction-plain : (d : Polynomial) → IsDirectionOver columns d → IsPlain d
  direction-plain d h =
      record {
        single = each-more (λ t. ((v : ℕ) × (t.0 ≡ At v ∷ [])) × AllByRecursion (λ c. IsTrue (is_below columns 0 c)) t.0) (λ t. IsColumn t.0) (λ t k. direction-column t.0 k.0 k.1) d.terms
            (each-both (λ t. (v : ℕ) × (t.0 ≡ At v ∷ [])) (λ t. AllByRecursion (λ c. IsTrue (is_below columns 0 c)) t.0) d.terms h.straight.single h.within);
        plain = h.straight.plain;
        canonical = h.canonical;
      }

candidates-plain : (voc : Vocabulary) → IsVocabulary voc → AllByRecursion (IsPlainIfMade voc.columns) (candidates voc)
candidates-plain voc is =
    let C = IsPlainIfMade voc.columns in
    each-append C (flat_map (λ v. both_signs (column (At v))) voc.named ++ flat_map (less_others voc.named) voc.named) (flat_map (λ h. both_signs (Ok h)) voc.harvested)
    (each-append C (flat_map (λ v. both_signs (column (At v))) voc.named) (flat_map (less_others voc.named) voc.named)
    (each-flat_map (IsNamed voc.columns) C (λ v. both_signs (column (At v))) (λ v lt. both_signs-made voc.columns (column (At v)) (column-made voc.columns v lt)) voc.named is.named)
    (each-flat_map (IsNamed voc.columns) C (less_others voc.named) (λ u lt. less_others-made voc.columns voc.named u is.named lt) voc.named is.named))
    (each-flat_map (IsDirectionOver voc.columns) C (λ h. both_signs (Ok h)) (λ h k. both_signs-made voc.columns (Ok h) (given voc.columns h (direction-plain voc.columns h k))) voc.harvested is.harvested)

all-plain : (voc : Vocabulary) → IsVocabulary voc → AllByRecursion (IsPlain voc.columns) (directions voc)
unfolding directions
all-plain voc is =
    each-distinct (IsPlain voc.columns) poly_eq (filter_map answer_of (candidates voc)) (answered-plain voc.columns (candidates voc) (candidates-plain voc is))

-- ---- the law

plain-over : (columns : ℕ) (d : Polynomial) → IsPlain columns d → IsDirectionOver columns d
plain-over columns d h = record { straight = plain-direction columns d h; canonical = h.canonical; within = plain-within columns d h }

pub directions-over : (voc : Vocabulary) → IsVocabulary voc → AllByRecursion (IsDirectionOver voc.columns) (directions voc)
directions-over voc is = each-more (IsPlain voc.columns) (IsDirectionOver voc.columns) (plain-over voc.columns) (directions voc) (all-plain voc is)

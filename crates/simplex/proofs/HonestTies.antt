-- What ties a relation to 0 in a case: no part of the test of a tie is false.
use Rattle.std.proofs.Common.{◌≡◌, ℕ, suc, ◌+◌, ◌<◌, Bool, true, false, List, [], ◌∷◌, ◌++◌, length, map, get_or, Result, Ok, Err, refl, sym, ap, subst, ◌∙◌, arith, ⊎_elim, ℤ, pos, negsuc, ◌+ℤ◌, ◌*ℤ◌, ◌<ℤ◌}
use Rattle.std.specs.Prelude.{◌&&◌, ◌==◌, int_le, neg_ℤ, slice_get, Some}
use Rattle.std.specs.List.{AllByRecursion, zip}
use Rattle.std.specs.Cmp.Lexicographic.{pointwise}
use Rattle.std.specs.Ordering.{int_eq}
use Rattle.std.proofs.lemmas.Int.{ints}
use Rattle.std.proofs.lemmas.Bool.{eq-eqb}
use Rattle.std.proofs.lemmas.Bool.Decides.{Decides-int_eq}
use Rattle.items.specs.Gives.{◌>>=◌}
use Rattle.items.proofs.Gives.{on_ok}
use Rattle.whole_numbers.specs.declared.wide.Wide as Step
use Rattle.whole_numbers.proofs.Ring.{ring}
use Rattle.linear_terms.specs.declared.col.Col.{Col}
use Rattle.linear_terms.specs.declared.row.Row.{Row}
use Rattle.linear_terms.specs.Polynomial.{Polynomial, coefficient_in}
use Rattle.farkas_check.specs.Multiples.{Form, number_at as coefficient_at, constant_in, are_multipliers, sum_of_multiples, same_form}
use Rattle.farkas_check.specs.Parts.{and_then}
use Rattle.farkas_check.specs.Ratios.{Fraction}
use Rattle.farkas_check.specs.Relations.{Side, sides, numbers_of, difference_form}
use Rattle.farkas_check.specs.Stratum.{multiple_of, scale_times, minus_scale_times, tested_multiple, tested_half, tested_tie, tested_relation, all_of}
use Rattle.farkas_check.specs.declared.answer.Cert.{Cert}
use Rattle.farkas_check.specs.declared.stratum.Change.{Change}
use Rattle.farkas_check.specs.declared.stratum.Relation.{Relation}
use Rattle.farkas_check.specs.declared.stratum.Tie.{Tie}
use Rattle.farkas_check.proofs.Differences.{numbers_at, constant_at, on_difference, Multiplies, scaled_up-value, scaled_down-value, on_multiple}
use Rattle.farkas_check.proofs.Farkas.{bool_ok, total, sums, form_of, on_sum}
use Rattle.simplex.specs.Differences.{IsDifferenceOf}
use Rattle.simplex.specs.Suprema.{IsSupremumOver}
use Rattle.simplex.specs.Ties.{IsHonestHalf, IsHonestTie, AreTies}
use Rattle.simplex.specs.declared.supremum.Supremum.TheVariants as supremum
use Rattle.simplex.proofs.BoundCertificates.{equal_lists, IsCertifiedOver, certified_over}
use Rattle.simplex.proofs.Cases.{one_more}
use Rattle.simplex.proofs.Certificates.{le_true}
use Rattle.simplex.proofs.RowTableaux.{long}
use Rattle.simplex.proofs.SpotPoints.{all_honest}

-- a certificate of a multiple of the difference
record IsMultipleOf (cs : List (List Col)) (rows : List Row) (ns : List ℤ) (ss : List Side) (k : ℤ) (by : List ℤ) : Type 0 where
  columns : (j : ℕ) → j < length cs → total (coefficient_at (get_or cs j [])) rows by ≡ k *ℤ numbers_at ns ss (get_or cs j [])
  constant : total constant_in rows by ≡ k *ℤ constant_at ns ss

multiple_honest : (times : ℤ → Result ℤ Step.Wide) (k : ℤ) (cs : List (List Col)) (rows : List Row) (ns : List ℤ) (ss : List Side) (by : List ℤ) (b : Bool) → Multiplies times k → IsMultipleOf cs rows ns ss k by → tested_multiple times cs rows (difference_form ns ss cs) by ≡ Ok b → b ≡ true
multiple_honest times k cs rows ns ss by b m c e =
    on_ok (sum_of_multiples rows by cs) (λ left. difference_form ns ss cs >>= λ own. multiple_of times own >>= λ right. bool_ok (same_form left right)) b e
    (λ left f g. on_ok (difference_form ns ss cs) (λ own. multiple_of times own >>= λ right. bool_ok (same_form left right)) b g
    (λ own h i. on_ok (multiple_of times own) (λ right. bool_ok (same_form left right)) b i
    (λ right j l. on_sum rows by cs left f
    (λ left_is. on_difference ns ss cs own h
    (λ own_is. on_multiple times k (numbers_at ns ss) (constant_at ns ss) cs right m (subst (λ (x : Form). multiple_of times x ≡ Ok right) own_is j)
    (λ right_is. made left right left_is right_is (cc)))))))
  where
    made : (left right : Form) → left ≡ form_of (sums rows by cs) (total constant_in rows by) → right ≡ form_of (map (λ d. k *ℤ numbers_at ns ss d) cs) (k *ℤ constant_at ns ss) → same_form left right ≡ b → b ≡ true
    made left right f g same =
        sym same ∙ ap (λ (x : Form). same_form x right) f ∙ ap (λ (x : Form). same_form (form_of (sums rows by cs) (total constant_in rows by)) x) g
        ∙ both (pointwise int_eq (sums rows by cs) (map (λ d. k *ℤ numbers_at ns ss d) cs)) (equal_lists (λ d. total (coefficient_at d) rows by) (λ d. k *ℤ numbers_at ns ss d) cs c.columns)
        (int_eq (total constant_in rows by) (k *ℤ constant_at ns ss)) ((Decides-int_eq (total constant_in rows by) (k *ℤ constant_at ns ss)).1 c.constant)
      where
        both : (x : Bool) → x ≡ true → (y : Bool) → y ≡ true → x && y ≡ true
        both x u y v = rw (u, v) refl

-- a bound of 0 for the difference, or for minus the difference
half_honest : (scaled : ℤ → ℤ → Result ℤ Step.Wide) (sign : ℤ) (cs : List (List Col)) (rows : List Row) (p : Polynomial) (ns : List ℤ) (ss : List Side) (cert : Cert) (b : Bool)
    → Multiplies (scaled cert.scale) (cert.scale *ℤ sign) → IsCertifiedOver cs rows p cert → cert.sum ≡ pos 0 → ((c : List Col) → coefficient_in p.terms c ≡ sign *ℤ numbers_at ns ss c) → p.rest ≡ sign *ℤ constant_at ns ss
    → tested_half scaled cs rows (difference_form ns ss cs) cert.scale cert.by ≡ Ok b → b ≡ true
half_honest scaled sign cs rows p ns ss cert b m c none columns rest e = after (are_multipliers rows cert.by && int_le (pos 1) cert.scale) first e
  where
    assoc : (x y z : ℤ) → x *ℤ (y *ℤ z) ≡ x *ℤ y *ℤ z
    assoc x y z = simp ring (omega (arith, ints))

    no_sum : (x y : ℤ) → y ≡ pos 0 → x +ℤ y *ℤ negsuc 0 ≡ x
    no_sum x y f = omega (arith, ints, f)

    is : IsMultipleOf cs rows ns ss (cert.scale *ℤ sign) cert.by
    is = record {
      columns = λ j h. c.columns j h ∙ ap (λ z. cert.scale *ℤ z) (columns (get_or cs j [])) ∙ assoc cert.scale sign (numbers_at ns ss (get_or cs j []));
      constant = c.constant ∙ no_sum (cert.scale *ℤ p.rest) cert.sum none ∙ ap (λ z. cert.scale *ℤ z) rest ∙ assoc cert.scale sign (constant_at ns ss);
    }

    above : (z : ℤ) → pos 0 <ℤ z → int_le (pos 1) z ≡ true
    above z h = le_true (pos 1) z (omega (arith, ints, h))

    first : are_multipliers rows cert.by && int_le (pos 1) cert.scale ≡ true
    first = both (are_multipliers rows cert.by) c.multipliers (int_le (pos 1) cert.scale) (above cert.scale c.scale)
      where
        both : (x : Bool) → x ≡ true → (y : Bool) → y ≡ true → x && y ≡ true
        both x u y v = rw (u, v) refl

    after : (q : Bool) → q ≡ true → and_then (bool_ok q) (tested_multiple (scaled cert.scale) cs rows (difference_form ns ss cs) cert.by) ≡ Ok b → b ≡ true
    after true f g = multiple_honest (scaled cert.scale) (cert.scale *ℤ sign) cs rows ns ss cert.by b m is g
    after false f g = cc

scaled_up-sign : (scale : ℤ) → Multiplies (scale_times scale) (scale *ℤ pos 1)
scaled_up-sign scale z next e = scaled_up-value scale z next e ∙ ap (λ x. x *ℤ z) (once scale)
  where
    once : (x : ℤ) → x ≡ x *ℤ pos 1
    once x = omega (arith, ints)

scaled_down-sign : (scale : ℤ) → Multiplies (minus_scale_times scale) (scale *ℤ negsuc 0)
scaled_down-sign scale z next e = scaled_down-value scale z next e ∙ ap (λ x. x *ℤ z) (turned scale)
  where
    turned : (x : ℤ) → neg_ℤ x ≡ x *ℤ negsuc 0
    turned x = omega (arith, ints)

pub tied_half : (cs : List (List Col)) (lower : List Polynomial) (numbers : List ℤ) (case : Change) (budget : ℕ) (p : Polynomial) (cert : Cert) (point : List Fraction) (up : Bool)
    → IsDifferenceOf case.terms lower numbers up p → IsSupremumOver cs case.rows p budget (supremum.Bound cert point) → cert.sum ≡ pos 0 → IsHonestHalf cs lower numbers case up cert
tied_half cs lower numbers case budget p cert point true d s none =
    λ b e. half_honest scale_times (pos 1) cs case.rows p numbers (sides case.terms lower) cert b (scaled_up-sign cert.scale) (certified_over cs case.rows p s.1.0 s.0 cert s.1.1.0 s.1.1.1) none d.coefficient d.rest e
tied_half cs lower numbers case budget p cert point false d s none =
    λ b e. half_honest minus_scale_times (negsuc 0) cs case.rows p numbers (sides case.terms lower) cert b (scaled_down-sign cert.scale) (certified_over cs case.rows p s.1.0 s.0 cert s.1.1.0 s.1.1.1) none d.coefficient d.rest e

pub tie_honest : (cs : List (List Col)) (lower : List Polynomial) (numbers : List ℤ) (case : Change) (up down : Cert) (tie : Tie) → IsHonestHalf cs lower numbers case true up → IsHonestHalf cs lower numbers case false down → tie.up_scale ≡ up.scale → tie.up ≡ up.by → tie.down_scale ≡ down.scale → tie.down ≡ down.by → IsHonestTie cs lower numbers case tie
tie_honest cs lower numbers case up down tie u d e f g h b i = go (half scale_times tie.up_scale tie.up) refl i
  where
    half : (ℤ → ℤ → Result ℤ Step.Wide) → ℤ → List ℤ → Result Bool Step.Wide
    half scaled scale by = tested_half scaled cs case.rows (difference_form numbers (sides case.terms lower) cs) scale by

    go : (r : Result Bool Step.Wide) → half scale_times tie.up_scale tie.up ≡ r → and_then r (half minus_scale_times tie.down_scale tie.down) ≡ Ok b → b ≡ true
    go (Ok true) j k = d b (sym (ap (λ z. half minus_scale_times z tie.down) g ∙ ap (λ zs. half minus_scale_times down.scale zs) h) ∙ k)
    go (Ok false) j k = absurd (no (u false (sym (ap (λ z. half scale_times z tie.up) e ∙ ap (λ zs. half scale_times up.scale zs) f) ∙ j)))
      where
        no : false ≡ true → ⊥
        no l = cc
    go (Err w) j k = cc

-- ---- ties of all cases

pub ties-first : (cs : List (List Col)) (lower : List Polynomial) (numbers : List ℤ) (cases : List Change) (ties : List Tie) → ties ≡ [] → AreTies cs lower numbers cases 0 ties
ties-first cs lower numbers cases ties none = record { each = ap length none; honest = λ l case tie e f. absurd (nothing l tie (subst (λ (ts : List Tie). slice_get ts l ≡ Some tie) none f)) }
  where
    nothing : (l : ℕ) (tie : Tie) → (let ts : List Tie = [] in slice_get ts l ≡ Some tie) → ⊥
    nothing l tie e = cc

pub ties-more : (cs : List (List Col)) (lower : List Polynomial) (numbers : List ℤ) (cases : List Change) (place : ℕ) (ties made : List Tie) (case : Change) (tie : Tie) → AreTies cs lower numbers cases place ties → slice_get cases place ≡ Some case → IsHonestTie cs lower numbers case tie → made ≡ ties ++ tie ∷ [] → AreTies cs lower numbers cases (place + 1) made
ties-more cs lower numbers cases place ties made case tie t is honest more = record {
  each = ap length more ∙ long ties (tie ∷ []) ∙ ap (λ (n : ℕ). n + 1) t.each;
  honest = λ l c u e f. ⊎_elim (λ (g : slice_get ties l ≡ Some u). t.honest l c u e g) (λ last. at_last l c u e last.0 last.1) (one_more ties tie u l (subst (λ (ts : List Tie). slice_get ts l ≡ Some u) more f));
}
  where
    at_last : (l : ℕ) (c : Change) (u : Tie) → slice_get cases l ≡ Some c → l ≡ length ties → tie ≡ u → IsHonestTie cs lower numbers c u
    at_last l c u e f g =
        let same : case ≡ c = some_same (sym is ∙ ap (slice_get cases) (sym (f ∙ t.each)) ∙ e) in
        subst (λ (x : Change). IsHonestTie cs lower numbers x u) same (subst (λ (x : Tie). IsHonestTie cs lower numbers case x) g honest)
      where
        some_same : {x y : Change} → Some x ≡ Some y → x ≡ y
        some_same e = cc

each_tie : (cs : List (List Col)) (lower : List Polynomial) (numbers : List ℤ) (cases : List Change) (ties : List Tie) → ((l : ℕ) (case : Change) (tie : Tie) → slice_get cases l ≡ Some case → slice_get ties l ≡ Some tie → IsHonestTie cs lower numbers case tie)
    → AllByRecursion (λ (p : Change × Tie). (c : Bool) → tested_tie cs lower numbers p.0 p.1 ≡ Ok c → c ≡ true) (zip cases ties)
each_tie cs lower numbers [] ties h = tt
each_tie cs lower numbers (case ∷ cases) [] h = tt
each_tie cs lower numbers (case ∷ cases) (tie ∷ ties) h = (h 0 case tie refl refl, each_tie cs lower numbers cases ties (λ l c u e f. h (suc l) c u e f))

pub relation_honest : (cs : List (List Col)) (cases : List Change) (lower : List Polynomial) (relation : Relation) → AreTies cs lower (numbers_of relation) cases (length cases) relation.ties → (b : Bool) → tested_relation cs cases lower relation ≡ Ok b → b ≡ true
relation_honest cs cases lower relation t b e = after (length relation.ties == length cases) (eq-eqb (length relation.ties) (length cases) t.each) e
  where
    part : Change × Tie → Result Bool Step.Wide
    part p = tested_tie cs lower (numbers_of relation) p.0 p.1

    after : (q : Bool) → q ≡ true → and_then (bool_ok q) (all_of part (zip cases relation.ties)) ≡ Ok b → b ≡ true
    after true f g = all_honest part (zip cases relation.ties) b (each_tie cs lower (numbers_of relation) cases relation.ties t.honest) g
    after false f g = cc

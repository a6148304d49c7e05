-- The basis of a kernel passes the test of its question.
use Rattle.std.proofs.Common.{◌≡◌, ℕ, zero, suc, ◌^◌, ◌<◌, Bool, true, false, cond, All, List, [], ◌∷◌, ◌++◌, map, length, Result, Ok, refl, sym, ap, subst, ◌∙◌, ℤ}
use Rattle.std.specs.Prelude.{◌&&◌, ◌==◌}
use Rattle.std.specs.List.{AllByRecursion, list_all}
use Rattle.std.specs.Map.{keys_of}
use Rattle.std.specs.Ordering.{eq_by_cmp}
use Rattle.std.proofs.lemmas.Bool.{eq-eqb, false≢true}
use Rattle.std.proofs.lemmas.List.Elements.{recursion_from_All}
use Rattle.whole_numbers.specs.declared.wide.Wide as Step
use Rattle.linear_terms.specs.declared.col.Col.{Col}
use Rattle.linear_terms.specs.Mono.{mono_cmp}
use Rattle.linear_terms.specs.Polynomial.{Polynomial, IsCanonical}
use Rattle.farkas_check.specs.declared.stratum.Change.{Change}
use Rattle.farkas_check.specs.declared.stratum.Relation.{Relation}
use Rattle.farkas_check.specs.declared.stratum.Spot.{Spot}
use Rattle.farkas_check.specs.Kept.{IsCanonicalChange, IsCanonicalStratum}
use Rattle.farkas_check.specs.Parts.{and_then}
use Rattle.farkas_check.specs.Ratios.{Fraction}
use Rattle.farkas_check.specs.Relations.{Side, Term, Lower, One, sides, numbers_of, term_count, unknown_count, stratum_columns, is_reduced, free_places}
use Rattle.farkas_check.specs.Sizes.{HasNumbersUpTo}
use Rattle.farkas_check.specs.Stratum.{all_of, terms_of, tested_relation, tested_spot, tested_free, spot_side, has_unknowns, tested_basis}
use Rattle.farkas_check.proofs.Farkas.{bool_ok}
use Rattle.farkas_check.proofs.Spreads.{AreAmong, is_among, same_mono}
use Rattle.farkas_check.proofs.Vanishing.{CanonicalPolys, PolysAmong, IsCaseAmong, cases_among, lower_among}
use Rattle.elimination.specs.declared.inner.Inner.{Inner}
use Rattle.elimination.specs.declared.kernel.Kernel.{Kernel}
use Rattle.elimination.specs.declared.probes.Probe.{Probe}
use Rattle.elimination.specs.Around.{IsSmallOver}
use Rattle.elimination.specs.BasisParts.{AreInners, AreTied, AreGroups, IsBasisOf}
use Rattle.elimination.specs.Narrow.{IsSmallChange, IsSmallStratum}
use Rattle.elimination.specs.Probes.{IsNullLine, IsKernel}
use Rattle.elimination.proofs.FreeSums.{IsSmallSide}
use Rattle.elimination.proofs.FreeUnits.{AreReading, AreSmallSides, duals-tested}
use Rattle.elimination.proofs.ZeroTies.{and_then-passes, and-true, relation-passes}

-- ---- what stands at the unknowns

pub among-each : (ms cs : List (List Col)) (m : List Col) → AreAmong ms cs → is_among m ms ≡ true → is_among m cs ≡ true
among-each [] cs m h e = absurd (false≢true e)
among-each (n ∷ ms) cs m h e = go (eq_by_cmp mono_cmp m n) refl e (λ f. among-each ms cs m h.1 f)
  where
    go : (b : Bool) → eq_by_cmp mono_cmp m n ≡ b → cond b true (is_among m ms) ≡ true → (is_among m ms ≡ true → is_among m cs ≡ true) → is_among m cs ≡ true
    go true f k ih = subst (λ (x : List Col). is_among x cs ≡ true) (sym (same_mono m n f)) h.0
    go false f k ih = ih k

polys-small : (cs : List (List Col)) (ps : List Polynomial) → CanonicalPolys ps → AllByRecursion (HasNumbersUpTo 4) ps → PolysAmong ps cs → AllByRecursion (IsSmallOver cs) ps
polys-small cs [] k h a = tt
polys-small cs (p ∷ ps) k h a = (record { canonical = k.0; small = h.0; among = λ m e. among-each (keys_of p.terms) cs m a.0 e }, polys-small cs ps k.1 h.1 a.1)

lowers-small : (cs : List (List Col)) (ps : List Polynomial) → AllByRecursion (IsSmallOver cs) ps → AllByRecursion (IsSmallSide cs) (map Lower ps ++ (One ∷ []))
lowers-small cs [] h = (tt, tt)
lowers-small cs (p ∷ ps) h = (h.0, lowers-small cs ps h.1)

terms-small : (cs : List (List Col)) (ps : List Polynomial) (rest : List Side) → AllByRecursion (IsSmallOver cs) ps → AllByRecursion (IsSmallSide cs) rest → AllByRecursion (IsSmallSide cs) (map Term ps ++ rest)
terms-small cs [] rest h k = k
terms-small cs (p ∷ ps) rest h k = (h.0, terms-small cs ps rest h.1 k)

abbrev AreCasesSmall : List (List Col) → List Change → List Polynomial → Type 0
AreCasesSmall cs cases lower = AllByRecursion (λ (case : Change). AllByRecursion (IsSmallSide cs) (sides case.terms lower)) cases

cases-small : (cs : List (List Col)) (cases : List Change) (lower : List Polynomial) → AllByRecursion IsCanonicalChange cases → AllByRecursion IsSmallChange cases → AllByRecursion (IsCaseAmong cs) cases → AllByRecursion (IsSmallOver cs) lower → AreCasesSmall cs cases lower
cases-small cs [] lower k h a l = tt
cases-small cs (case ∷ cases) lower k h a l = (
  terms-small cs case.terms (map Lower lower ++ (One ∷ [])) (polys-small cs case.terms (recursion_from_All (λ (p : Polynomial). IsCanonical p.terms) case.terms k.0.terms) (recursion_from_All (HasNumbersUpTo 4) case.terms h.0.terms) a.0.terms) (lowers-small cs lower l),
  cases-small cs cases lower k.1 h.1 a.1 l,
)

any_case : (cs : List (List Col)) (cases : List Change) (lower : List Polynomial) (case : ℕ) → AreCasesSmall cs cases lower → AllByRecursion (IsSmallSide cs) (sides [] lower) → AllByRecursion (IsSmallSide cs) (sides (terms_of cases case) lower)
any_case cs [] lower case h k = k
any_case cs (own ∷ cases) lower zero h k = h.0
any_case cs (own ∷ cases) lower (suc case) h k = any_case cs cases lower case h.1 k

-- ---- relations

tied_counts : (cases : List Change) (lower : List Polynomial) (lines : List (List ℤ)) (relations : List Relation) → AreTied cases lower lines relations → list_all (has_unknowns cases lower) relations ≡ true
tied_counts cases lower [] relations t = ap (list_all (has_unknowns cases lower)) t
tied_counts cases lower (line ∷ lines) [] t = absurd t
tied_counts cases lower (line ∷ lines) (relation ∷ relations) t =
    and-true (has_unknowns cases lower relation) (list_all (has_unknowns cases lower) relations)
    (and-true (length relation.a == term_count cases) (length relation.b == length lower) (eq-eqb (length relation.a) (term_count cases) t.0.a) (eq-eqb (length relation.b) (length lower) t.0.b))
    (tied_counts cases lower lines relations t.1)

tied_numbers : (cases : List Change) (lower : List Polynomial) (lines : List (List ℤ)) (relations : List Relation) → AreTied cases lower lines relations → map numbers_of relations ≡ lines
tied_numbers cases lower [] relations t = ap (map numbers_of) t
tied_numbers cases lower (line ∷ lines) [] t = absurd t
tied_numbers cases lower (line ∷ lines) (relation ∷ relations) t = pair t.0.is (tied_numbers cases lower lines relations t.1)
  where
    pair : {x y : List ℤ} {xs ys : List (List ℤ)} → x ≡ y → xs ≡ ys → x ∷ xs ≡ y ∷ ys
    pair e f = cc

relations-pass : (cs : List (List Col)) (cases : List Change) (lower : List Polynomial) (lines : List (List ℤ)) (relations : List Relation) → AreCasesSmall cs cases lower → unknown_count cases lower < 2 ^ 61 → AllByRecursion (IsNullLine cs cases lower) lines → AreTied cases lower lines relations
    → all_of (tested_relation cs cases lower) relations ≡ Ok true
relations-pass cs cases lower [] relations k few h t = ap (all_of (tested_relation cs cases lower)) t
relations-pass cs cases lower (line ∷ lines) [] k few h t = absurd t
relations-pass cs cases lower (line ∷ lines) (relation ∷ relations) k few h t =
    and_then-passes (tested_relation cs cases lower relation) (all_of (tested_relation cs cases lower) relations)
    (relation-passes cs cases lower (term_count cases) (length lower) line relation t.0 h.0.small (subst (λ (n : ℕ). n < 2 ^ 61) (sym h.0.each) few) k h.0.vanish)
    (relations-pass cs cases lower lines relations k few h.1 t.1)

-- ---- spots

append-passes : {A : Type 0} (part : A → Result Bool Step.Wide) (xs ys : List A) → AllByRecursion (λ x. part x ≡ Ok true) xs → all_of part ys ≡ Ok true → all_of part (xs ++ ys) ≡ Ok true
append-passes part [] ys h e = e
append-passes part (x ∷ xs) ys h e = and_then-passes (part x) (all_of part (xs ++ ys)) h.0 (append-passes part xs ys h.1 e)

spots-pass : (cs : List (List Col)) (cases : List Change) (probes : List Probe) (inners : List Inner) (spots : List Spot) → AreGroups cs cases probes inners spots → all_of (tested_spot cs cases) spots ≡ Ok true
spots-pass cs cases [] inners spots g = ap (all_of (tested_spot cs cases)) g
spots-pass cs cases (probe ∷ probes) [] spots g = absurd g
spots-pass cs cases (probe ∷ probes) (inner ∷ inners) spots g =
    ap (all_of (tested_spot cs cases)) g.1.1.0 ∙ append-passes (tested_spot cs cases) g.0 g.1.0 g.1.1.1.0.tested (spots-pass cs cases probes inners g.1.0 g.1.1.1.1)

-- ---- all

-- a small question in canonical form, its kernel, and inner points for the probes
pub record IsAskedFor (cs : List (List Col)) (cases : List Change) (lower : List Polynomial) (kernel : Kernel) (inners : List Inner) : Type 0 where
  pub canonical : IsCanonicalStratum cases lower
  pub stratum : IsSmallStratum cases lower
  pub small : All IsSmallChange cases
  pub unknowns : unknown_count cases lower < 2 ^ 61
  pub reading : AreReading cs
  pub kernel_too : IsKernel cs cases lower kernel
  pub inside : AreInners cs cases kernel.probes inners

own_columns-pass : (cases : List Change) (lower : List Polynomial) (kernel : Kernel) (inners : List Inner) (relations : List Relation) (spots : List Spot) (free : List (List Fraction)) → IsAskedFor (stratum_columns cases lower) cases lower kernel inners
    → IsBasisOf (stratum_columns cases lower) cases lower kernel inners relations spots free → tested_basis cases lower relations spots free ≡ Ok true
own_columns-pass cases lower kernel inners relations spots free a b =
    and_then-passes (bool_ok (list_all (has_unknowns cases lower) relations && is_reduced (map numbers_of relations)))
    (and_then (all_of (tested_relation cs cases lower) relations) (and_then (all_of (tested_spot cs cases) spots) (tested_free (spot_side cs cases lower) spots (free_places (map numbers_of relations) (unknown_count cases lower)) free)))
    (ap bool_ok (and-true (list_all (has_unknowns cases lower) relations) (is_reduced (map numbers_of relations)) (tied_counts cases lower kernel.relations relations b.relations_too) (ap is_reduced numbers ∙ a.kernel_too.reduced)))
    (and_then-passes (all_of (tested_relation cs cases lower) relations) (and_then (all_of (tested_spot cs cases) spots) (tested_free (spot_side cs cases lower) spots (free_places (map numbers_of relations) (unknown_count cases lower)) free))
    (relations-pass cs cases lower kernel.relations relations cases_too a.unknowns a.kernel_too.lines b.relations_too)
    (and_then-passes (all_of (tested_spot cs cases) spots) (tested_free (spot_side cs cases lower) spots (free_places (map numbers_of relations) (unknown_count cases lower)) free)
    (spots-pass cs cases kernel.probes inners spots b.spots_too)
    (ap (λ (ls : List (List ℤ)). tested_free (spot_side cs cases lower) spots (free_places ls (unknown_count cases lower)) free) numbers
    ∙ ap (tested_free (spot_side cs cases lower) spots (free_places kernel.relations (unknown_count cases lower))) b.free_too
    ∙ duals-tested cs cases lower kernel.relations (unknown_count cases lower) kernel.probes inners spots kernel.duals
    (record { law = a.reading; sides_too = sides_small; few = a.kernel_too.few; are = a.kernel_too.probes; inside = a.inside; groups = b.spots_too }) a.kernel_too.counted a.kernel_too.duals)))
  where
    cs : List (List Col)
    cs = stratum_columns cases lower

    numbers : map numbers_of relations ≡ kernel.relations
    numbers = tied_numbers cases lower kernel.relations relations b.relations_too

    lower_small : AllByRecursion (IsSmallOver (stratum_columns cases lower)) lower
    lower_small = polys-small (stratum_columns cases lower) lower (recursion_from_All (λ (p : Polynomial). IsCanonical p.terms) lower a.canonical.lower_too) (recursion_from_All (HasNumbersUpTo 4) lower a.stratum.lower_too) (lower_among cases lower)

    cases_too : AreCasesSmall (stratum_columns cases lower) cases lower
    cases_too = cases-small (stratum_columns cases lower) cases lower (recursion_from_All IsCanonicalChange cases a.canonical.cases_too) (recursion_from_All IsSmallChange cases a.small) (cases_among cases lower) lower_small

    sides_small : AreSmallSides (stratum_columns cases lower) cases lower
    sides_small = record { few = a.stratum.few_columns; small = λ case. any_case (stratum_columns cases lower) cases lower case cases_too (lowers-small (stratum_columns cases lower) lower lower_small) }

pub basis-passes : (cs : List (List Col)) (cases : List Change) (lower : List Polynomial) (kernel : Kernel) (inners : List Inner) (relations : List Relation) (spots : List Spot) (free : List (List Fraction)) → cs ≡ stratum_columns cases lower → IsAskedFor cs cases lower kernel inners
    → IsBasisOf cs cases lower kernel inners relations spots free → tested_basis cases lower relations spots free ≡ Ok true
basis-passes cs cases lower kernel inners relations spots free e a b =
    own_columns-pass cases lower kernel inners relations spots free (subst (λ (xs : List (List Col)). IsAskedFor xs cases lower kernel inners) e a) (subst (λ (xs : List (List Col)). IsBasisOf xs cases lower kernel inners relations spots free) e b)

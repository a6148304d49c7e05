-- Normal forms: that they say as much as their rows, and that they are normal.
use Rattle.std.proofs.Common.{◌≡◌, ◌≢◌, ℕ, zero, suc, Bool, true, false, cond, ℤ, pos, negsuc, ◌+◌, ◌*◌, ◌<◌, ◌≤◌, length, drop, get_or, ◌+ℤ◌, ◌*ℤ◌, ◌≤ℤ◌, ◌<ℤ◌, List, [], ◌∷◌, Result, Ok, Err, refl, sym, ap, subst, ◌∙◌, arith}
use Rattle.std.specs.Prelude.{neg_ℤ, unsigned_abs, int_div, int_le, int_lt, IsTrue, ◌↔◌, IfOk}
use Rattle.std.specs.Int.{◌∣◌}
use Rattle.std.specs.List.{AllByRecursion}
use Rattle.std.specs.Map.{keys_of, values_of}
use Rattle.std.specs.Ordering.{int_eq}
use Rattle.std.proofs.lemmas.Int.{ints, by_lt_z, unsigned_abs-mul}
use Rattle.std.proofs.lemmas.Bool.Decides.{Decides-int_eq}
use Rattle.std.proofs.Math.IntN.{zero-*ℤ}
use Rattle.std.proofs.lemmas.Bool.{true≢false, false≢true}
use Rattle.std.proofs.Math.Nat.{mul-one}
use native.Mathlib.Nat.{dvd-mul_left}
use Rattle.items.specs.Gives.{◌>>=◌, Gives}
use Rattle.items.proofs.Gives.{on_ok}
use Rattle.whole_numbers.specs.Divisors.{divides, gcd_of, gcd_of_all, ceiling_of}
use Rattle.whole_numbers.proofs.CommonDivisors.{DividesEach, DividesEach-gcd_of_all, gcd_of_all-positive, zero-gcd_of, gcd_of-zero, gcd_of_assoc, divides-true, true-divides}
use Rattle.whole_numbers.proofs.Quotients.{ceiling_of-above, ceiling_of-least, int_div-*ℤ, quotients, gcd_of_all-reduced}
use Rattle.whole_numbers.proofs.Ring.{ring, ≤ℤ-*ℤ, *ℤ_cancel, +ℤ-*ℤ, neg_ℤ-*ℤ}
use Rattle.linear_terms.specs.declared.col.Col.{Col}
use Rattle.linear_terms.specs.declared.error.TermError.{TermError}
use Rattle.linear_terms.specs.declared.row.Kind.{Kind}
use Rattle.linear_terms.specs.declared.row.Kind.TheVariants.{AtMost, Equal}
use Rattle.linear_terms.specs.declared.row.Row.{Row}
use Rattle.linear_terms.specs.declared.row.Normal.{Normal}
use Rattle.linear_terms.specs.declared.row.Normal.TheVariants.{Constant, Kept}
use Rattle.linear_terms.specs.TermError.{times, cause}
use Rattle.linear_terms.specs.Polynomial.{Terms, Polynomial, IsCanonical}
use Rattle.linear_terms.specs.Operations.{with_term, times_each, multiple_of}
use Rattle.linear_terms.specs.Row.{IsWithin, is_within, divided_terms, starts_negative, with_positive_first, reduced_row, normal_form, SaysAsMuch, StartsPositive, IsNormal, HasCanonicalTerms}
use Rattle.linear_terms.specs.Value.{Valuation, mono_value, terms_value, value_of}
use Rattle.std.proofs.lemmas.List.{drop_all}
use Rattle.linear_terms.proofs.Canonical.{first_some, IsCanonical-multiple_of}
use Rattle.linear_terms.proofs.Steps.{at_index}
use Rattle.linear_terms.proofs.Values.{times-value, int_eq-zero, multiple_of-value}

-- ---- terms divided by a common divisor

values_of-divided : (d : ℕ) (ts : Terms) → values_of (divided_terms d ts) ≡ quotients d (values_of ts)
values_of-divided d [] = refl
values_of-divided d (t ∷ ts) = ap (λ zs. int_div t.1 (pos d) ∷ zs) (values_of-divided d ts)

keys_of-divided : (d : ℕ) (ts : Terms) → keys_of (divided_terms d ts) ≡ keys_of ts
keys_of-divided d [] = refl
keys_of-divided d (t ∷ ts) = ap (λ ms. t.0 ∷ ms) (keys_of-divided d ts)

terms_value-divided : (at : Valuation) (d : ℕ) (ts : Terms) → DividesEach d (values_of ts) → terms_value at (divided_terms d ts) *ℤ pos d ≡ terms_value at ts
terms_value-divided at d [] h = zero-*ℤ (pos d)
terms_value-divided at d (t ∷ ts) h =
    spread (int_div t.1 (pos d)) (mono_value at t.0) (terms_value at (divided_terms d ts)) (pos d)
    ∙ ap (λ z. z *ℤ mono_value at t.0 +ℤ terms_value at (divided_terms d ts) *ℤ pos d) (int_div-*ℤ t.1 d h.0)
    ∙ ap (λ v. t.1 *ℤ mono_value at t.0 +ℤ v) (terms_value-divided at d ts h.1)
  where
    spread : (x v w k : ℤ) → (x *ℤ v +ℤ w) *ℤ k ≡ x *ℤ k *ℤ v +ℤ w *ℤ k
    spread x v w k = simp ring (omega (arith, ints))

some-divided : (d : ℕ) (z : ℤ) → d ∣ unsigned_abs z → z ≢ pos 0 → int_div z (pos d) ≢ pos 0
some-divided d z h some e = some (sym (int_div-*ℤ z d h) ∙ ap (λ q. q *ℤ pos d) e ∙ zero-*ℤ (pos d))

no_zero-divided : (d : ℕ) (ts : Terms) → DividesEach d (values_of ts) → AllByRecursion (λ c. c ≢ pos 0) (values_of ts) → AllByRecursion (λ c. c ≢ pos 0) (values_of (divided_terms d ts))
no_zero-divided d [] h k = tt
no_zero-divided d (t ∷ ts) h k = (some-divided d t.1 h.0 k.0, no_zero-divided d ts h.1 k.1)

pub IsCanonical-divided : (d : ℕ) (ts : Terms) → d ≡ gcd_of_all (values_of ts) → IsCanonical ts → IsCanonical (divided_terms d ts)
IsCanonical-divided d ts e c = record {
  in_print_order = rw (keys_of-divided d ts) c.in_print_order;
  no_zero = no_zero-divided d ts (rw e (DividesEach-gcd_of_all (values_of ts))) c.no_zero;
}

-- ---- what a divided row says

IsTrue-is_within : (k : Kind) (z : ℤ) → IsTrue (is_within k z) ↔ IsWithin k z
IsTrue-is_within AtMost z = go (int_le z (pos 0)) refl
  where
    go : (b : Bool) → int_le z (pos 0) ≡ b → (b ≡ true) ↔ (z ≤ℤ pos 0)
    go true e = (λ h. omega (arith, ints), λ h. refl)
    go false e = (λ h. absurd (false≢true h), λ h. absurd (omega (arith, ints)))
IsTrue-is_within Equal z = Decides-int_eq z (pos 0)

-- an inequality whose constant is rounded up
rounded : (v w r : ℤ) (g : ℕ) → 0 < g → v *ℤ pos g ≡ w → ((v +ℤ ceiling_of r g) ≤ℤ pos 0) ↔ ((w +ℤ r) ≤ℤ pos 0)
rounded v w r g p e = (down, up)
  where
    turn : neg_ℤ v *ℤ pos g ≡ neg_ℤ w
    turn = neg_ℤ-*ℤ v (pos g) ∙ ap neg_ℤ e

    down : (v +ℤ ceiling_of r g) ≤ℤ pos 0 → (w +ℤ r) ≤ℤ pos 0
    down h =
        let above = ceiling_of-above r g p in
        let below : (ceiling_of r g *ℤ pos g) ≤ℤ (neg_ℤ v *ℤ pos g) = ≤ℤ-*ℤ (ceiling_of r g) (neg_ℤ v) (pos g) (omega (arith, ints)) (omega (arith, ints)) in
        chain (ceiling_of r g *ℤ pos g) (neg_ℤ v *ℤ pos g) above below turn
      where
        chain : (c n : ℤ) → r ≤ℤ c → c ≤ℤ n → n ≡ neg_ℤ w → (w +ℤ r) ≤ℤ pos 0
        chain c n h k l = omega (arith, ints)

    up : (w +ℤ r) ≤ℤ pos 0 → (v +ℤ ceiling_of r g) ≤ℤ pos 0
    up h =
        let least : ceiling_of r g ≤ℤ neg_ℤ v = ceiling_of-least r (neg_ℤ v) g p (rw turn (omega (arith, ints))) in
        last (ceiling_of r g) least
      where
        last : (c : ℤ) → c ≤ℤ neg_ℤ v → (v +ℤ c) ≤ℤ pos 0
        last c h = omega (arith, ints)

-- an equation whose constant is divided too
exact : (v w q r : ℤ) (g : ℕ) → 0 < g → v *ℤ pos g ≡ w → q *ℤ pos g ≡ r → (v +ℤ q ≡ pos 0) ↔ (w +ℤ r ≡ pos 0)
exact v w q r g p e f = (λ h. sym whole ∙ ap (λ z. z *ℤ pos g) h ∙ zero-*ℤ (pos g), λ h. *ℤ_cancel (v +ℤ q) (pos 0) (pos g) (omega (arith, ints)) (whole ∙ h ∙ sym (zero-*ℤ (pos g))))
  where
    whole : (v +ℤ q) *ℤ pos g ≡ w +ℤ r
    whole = +ℤ-*ℤ v q (pos g) ∙ ap (λ z. z +ℤ q *ℤ pos g) e ∙ ap (λ z. w +ℤ z) f

-- an equation whose constant is not divisible
divisible : (v w r : ℤ) (g : ℕ) → v *ℤ pos g ≡ w → w +ℤ r ≡ pos 0 → divides g (unsigned_abs r) ≡ true
divisible v w r g e h = true-divides g (unsigned_abs r) (rw size (dvd-mul_left g (unsigned_abs (neg_ℤ v))))
  where
    turn : neg_ℤ v *ℤ pos g ≡ neg_ℤ w
    turn = neg_ℤ-*ℤ v (pos g) ∙ ap neg_ℤ e

    other : r ≡ neg_ℤ w
    other = omega (arith, ints)

    size : unsigned_abs r ≡ unsigned_abs (neg_ℤ v) * g
    size = ap unsigned_abs (other ∙ sym turn) ∙ unsigned_abs-mul (neg_ℤ v) (pos g)

-- ---- the sign turned

gcd_of_all-kept : (m : List Col) (c : ℤ) (ts : Terms) → gcd_of_all (values_of (with_term m c ts)) ≡ gcd_of (unsigned_abs c) (gcd_of_all (values_of ts))
gcd_of_all-kept m c ts = go (int_eq c (pos 0)) refl
  where
    gone : c ≡ pos 0 → gcd_of_all (values_of ts) ≡ gcd_of (unsigned_abs c) (gcd_of_all (values_of ts))
    gone e = rw e (sym (zero-gcd_of (gcd_of_all (values_of ts))))

    go : (b : Bool) → int_eq c (pos 0) ≡ b → gcd_of_all (values_of (cond b ts ((m, c) ∷ ts))) ≡ gcd_of (unsigned_abs c) (gcd_of_all (values_of ts))
    go true e = gone (int_eq-zero c e)
    go false e = refl

unsigned_abs-turned : (c z : ℤ) → c ≡ z *ℤ negsuc 0 → unsigned_abs c ≡ unsigned_abs z
unsigned_abs-turned c z e = ap unsigned_abs e ∙ unsigned_abs-mul z (negsuc 0) ∙ mul-one (unsigned_abs z)

gcd_of_all-turned : (ts made : Terms) → times_each ts (negsuc 0) ≡ Ok made → gcd_of_all (values_of made) ≡ gcd_of_all (values_of ts)
gcd_of_all-turned [] made e = let same : [] ≡ made = cc in ap (λ (us : Terms). gcd_of_all (values_of us)) (sym same)
gcd_of_all-turned (t ∷ ts) made e =
    on_ok (times t.1 (negsuc 0)) (λ c. times_each ts (negsuc 0) >>= λ more. Ok (with_term t.0 c more)) made e
    (λ c f g. on_ok (times_each ts (negsuc 0)) (λ more. Ok (with_term t.0 c more)) made g
    (λ more h k. let same : with_term t.0 c more ≡ made = cc in
    ap (λ (us : Terms). gcd_of_all (values_of us)) (sym same) ∙ gcd_of_all-kept t.0 c more
    ∙ ap (λ n. gcd_of n (gcd_of_all (values_of more))) (unsigned_abs-turned c t.1 (times-value t.1 (negsuc 0) c f))
    ∙ ap (gcd_of (unsigned_abs t.1)) (gcd_of_all-turned ts more h)))

StartsPositive-turned : (ts made : Terms) → starts_negative ts ≡ true → times_each ts (negsuc 0) ≡ Ok made → StartsPositive made
StartsPositive-turned [] made n e = cc
StartsPositive-turned (t ∷ ts) made n e =
    on_ok (times t.1 (negsuc 0)) (λ c. times_each ts (negsuc 0) >>= λ more. Ok (with_term t.0 c more)) made e
    (λ c f g. on_ok (times_each ts (negsuc 0)) (λ more. Ok (with_term t.0 c more)) made g
    (λ more h k. let same : with_term t.0 c more ≡ made = cc in subst StartsPositive same (first c more (times-value t.1 (negsuc 0) c f))))
  where
    below : t.1 <ℤ pos 0
    below = let k : int_lt t.1 (pos 0) ≡ true = n in omega (arith, ints)

    first : (c : ℤ) (more : Terms) → c ≡ t.1 *ℤ negsuc 0 → StartsPositive (with_term t.0 c more)
    first c more f = go (int_eq c (pos 0)) refl
      where
        positive : pos 0 <ℤ c
        positive = omega (arith, ints)

        never : c ≡ pos 0 → ⊥
        never z = omega (arith, ints)

        go : (b : Bool) → int_eq c (pos 0) ≡ b → StartsPositive (cond b more ((t.0, c) ∷ more))
        go true z = absurd (never (int_eq-zero c z))
        go false z = positive

StartsPositive-kept : (t : List Col × ℤ) (ts : Terms) → starts_negative (t ∷ ts) ≡ false → t.1 ≢ pos 0 → StartsPositive (t ∷ ts)
StartsPositive-kept t ts n some = by_lt_z (pos 0) t.1 (λ above. above) (λ below. absurd (some (tie below n)))
  where
    tie : t.1 ≤ℤ pos 0 → int_lt t.1 (pos 0) ≡ false → t.1 ≡ pos 0
    tie h k = omega (arith, ints)

with_positive_first-zero : (at : Valuation) (p q : Polynomial) → with_positive_first p ≡ Ok q → (value_of at q ≡ pos 0) ↔ (value_of at p ≡ pos 0)
with_positive_first-zero at p q e = go (starts_negative p.terms) e
  where
    negated : (u v : ℤ) → u ≡ v *ℤ negsuc 0 → (u ≡ pos 0) ↔ (v ≡ pos 0)
    negated u v e = (λ h. omega (arith, ints), λ h. omega (arith, ints))

    go : (b : Bool) → cond b (multiple_of p (negsuc 0)) (Ok p) ≡ Ok q → (value_of at q ≡ pos 0) ↔ (value_of at p ≡ pos 0)
    go true f = negated (value_of at q) (value_of at p) (multiple_of-value at p (negsuc 0) q f)
    go false f = let same : p ≡ q = cc in subst (λ r. (value_of at r ≡ pos 0) ↔ (value_of at p ≡ pos 0)) same (λ h. h, λ h. h)

StartsPositive-not_negative : (ts : Terms) → IsCanonical ts → gcd_of_all (values_of ts) ≡ 1 → starts_negative ts ≡ false → StartsPositive ts
StartsPositive-not_negative [] c one n = absurd (omega arith)
StartsPositive-not_negative (t ∷ ts) c one n = StartsPositive-kept t ts n (first_some t ts c)

-- as the polynomial of an equation in normal form is
abbrev IsReduced : Polynomial → Type 0
IsReduced p = (gcd_of_all (values_of p.terms) ≡ 1) × StartsPositive p.terms

with_positive_first-IsReduced : (p q : Polynomial) → IsCanonical p.terms → gcd_of_all (values_of p.terms) ≡ 1 → with_positive_first p ≡ Ok q → IsReduced q
with_positive_first-IsReduced p q c one e = go (starts_negative p.terms) refl e
  where
    go : (b : Bool) → starts_negative p.terms ≡ b → cond b (multiple_of p (negsuc 0)) (Ok p) ≡ Ok q → IsReduced q
    go true n f =
        on_ok (times_each p.terms (negsuc 0)) (λ ts. times p.rest (negsuc 0) >>= λ r. Ok record { terms = ts; rest = r }) q f
        (λ ts h k. on_ok (times p.rest (negsuc 0)) (λ r. Ok record { terms = ts; rest = r }) q k
        (λ r l m. let same : record { terms = ts; rest = r } ≡ q = cc in
        subst IsReduced same (gcd_of_all-turned p.terms ts h ∙ one, StartsPositive-turned p.terms ts n h)))
    go false n f = let same : p ≡ q = cc in subst IsReduced same (one, StartsPositive-not_negative p.terms c one n)

-- ---- normal forms

abbrev row_of : Kind → Polynomial → Row
row_of k p = record { poly = p; kind = k }

abbrev done : Normal → Result Normal TermError
done n = Ok n

same_made : (P : Normal → Type 0) (m n : Normal) → done m ≡ Ok n → P m → P n
same_made P m n e p = let same : m ≡ n = cc in subst P same p

-- the terms of p divided by g, with a constant
abbrev over : ℕ → Polynomial → ℤ → Polynomial
over g p r = record { terms = divided_terms g p.terms; rest = r }

value_of-over : (at : Valuation) (g : ℕ) (p : Polynomial) → g ≡ gcd_of_all (values_of p.terms) → terms_value at (divided_terms g p.terms) *ℤ pos g ≡ terms_value at p.terms
value_of-over at g p e = terms_value-divided at g p.terms (rw e (DividesEach-gcd_of_all (values_of p.terms)))

gcd_of_all-over : (g : ℕ) (p : Polynomial) → 0 < g → g ≡ gcd_of_all (values_of p.terms) → gcd_of_all (values_of (divided_terms g p.terms)) ≡ 1
gcd_of_all-over g p h e =
    ap gcd_of_all (values_of-divided g p.terms) ∙ ap (λ d. gcd_of_all (quotients d (values_of p.terms))) e ∙ gcd_of_all-reduced (values_of p.terms) (rw (sym e) h)

both : {A B C : Type 0} → A ↔ B → B ↔ C → A ↔ C
both f g = (λ a. g.0 (f.0 a), λ c. f.1 (g.1 c))

pub reduced-SaysAsMuch : (at : Valuation) (k : Kind) (g : ℕ) (p : Polynomial) (n : Normal) → 0 < g → g ≡ gcd_of_all (values_of p.terms) → reduced_row k g p ≡ Ok n → SaysAsMuch at (row_of k p) n
reduced-SaysAsMuch at AtMost g p n h e f =
    same_made (SaysAsMuch at (row_of AtMost p)) (Kept (row_of AtMost (over g p (ceiling_of p.rest g)))) n f
    (rounded (terms_value at (divided_terms g p.terms)) (terms_value at p.terms) p.rest g h (value_of-over at g p e))
reduced-SaysAsMuch at Equal g p n h e f = go (divides g (unsigned_abs p.rest)) refl f
  where
    go : (b : Bool) → divides g (unsigned_abs p.rest) ≡ b → cond b (with_positive_first (over g p (int_div p.rest (pos g))) >>= λ q. Ok (Kept (row_of Equal q))) (Ok (Constant false)) ≡ Ok n → SaysAsMuch at (row_of Equal p) n
    go true d k =
        on_ok (with_positive_first (over g p (int_div p.rest (pos g)))) (λ q. Ok (Kept (row_of Equal q))) n k
        (λ q l m. same_made (SaysAsMuch at (row_of Equal p)) (Kept (row_of Equal q)) n m
        (both (with_positive_first-zero at (over g p (int_div p.rest (pos g))) q l)
        (exact (terms_value at (divided_terms g p.terms)) (terms_value at p.terms) (int_div p.rest (pos g)) p.rest g h (value_of-over at g p e) (int_div-*ℤ p.rest g (divides-true g (unsigned_abs p.rest) d)))))
    go false d k =
        same_made (SaysAsMuch at (row_of Equal p)) (Constant false) n k
        (λ l. absurd (false≢true l), λ l. absurd (true≢false (sym (divisible (terms_value at (divided_terms g p.terms)) (terms_value at p.terms) p.rest g (value_of-over at g p e) l) ∙ d)))

pub reduced-IsNormal : (k : Kind) (g : ℕ) (p : Polynomial) (n : Normal) → 0 < g → g ≡ gcd_of_all (values_of p.terms) → IsCanonical p.terms → reduced_row k g p ≡ Ok n → IsNormal n
reduced-IsNormal AtMost g p n h e c f =
    same_made IsNormal (Kept (row_of AtMost (over g p (ceiling_of p.rest g)))) n f (gcd_of_all-over g p h e, λ l. cc)
reduced-IsNormal Equal g p n h e c f = go (divides g (unsigned_abs p.rest)) f
  where
    go : (b : Bool) → cond b (with_positive_first (over g p (int_div p.rest (pos g))) >>= λ q. Ok (Kept (row_of Equal q))) (Ok (Constant false)) ≡ Ok n → IsNormal n
    go true k =
        on_ok (with_positive_first (over g p (int_div p.rest (pos g)))) (λ q. Ok (Kept (row_of Equal q))) n k
        (λ q l m. let parts = with_positive_first-IsReduced (over g p (int_div p.rest (pos g))) q (IsCanonical-divided g p.terms e c) (gcd_of_all-over g p h e) l in
        same_made IsNormal (Kept (row_of Equal q)) n m (parts.0, λ e. parts.1))
    go false k = same_made IsNormal (Constant false) n k tt

-- a row without columns, and one with

none : (ts : Terms) → IsCanonical ts → gcd_of_all (values_of ts) ≡ 0 → ts ≡ []
none [] c e = refl
none (t ∷ ts) c e = let some = gcd_of_all-positive t.1 (values_of ts) (first_some t ts c) in absurd (omega arith)

pub normal_form-none : (row : Row) → IsCanonical row.poly.terms → gcd_of_all (values_of row.poly.terms) ≡ 0 → normal_form row ≡ Ok (Constant (is_within row.kind row.poly.rest))
normal_form-none row c e = go row.poly.terms (none row.poly.terms c e)
  where
    go : (ts : Terms) → ts ≡ [] → normal_form (row_of row.kind (record { terms = ts; rest = row.poly.rest })) ≡ Ok (Constant (is_within row.kind row.poly.rest))
    go [] e = refl
    go (t ∷ ts) e = cc

pub SaysAsMuch-none : (at : Valuation) (row : Row) → IsCanonical row.poly.terms → gcd_of_all (values_of row.poly.terms) ≡ 0 → SaysAsMuch at row (Constant (is_within row.kind row.poly.rest))
SaysAsMuch-none at row c e =
    let sum : value_of at row.poly ≡ row.poly.rest = ap (λ ts. terms_value at ts +ℤ row.poly.rest) (none row.poly.terms c e) ∙ alone row.poly.rest in
    rw sum (IsTrue-is_within row.kind row.poly.rest)
  where
    alone : (r : ℤ) → pos 0 +ℤ r ≡ r
    alone r = omega (arith, ints)

pub normal_form-some : (row : Row) → 0 < gcd_of_all (values_of row.poly.terms) → normal_form row ≡ reduced_row row.kind (gcd_of_all (values_of row.poly.terms)) row.poly
normal_form-some row h = go row.poly.terms h
  where
    go : (ts : Terms) → 0 < gcd_of_all (values_of ts) → normal_form (row_of row.kind (record { terms = ts; rest = row.poly.rest })) ≡ reduced_row row.kind (gcd_of_all (values_of ts)) (record { terms = ts; rest = row.poly.rest })
    go [] h = absurd (omega arith)
    go (t ∷ ts) h = refl

-- ---- laws of normal forms

-- a law of all rows without columns and of all reduced rows is one of all normal forms
normal_form-law : (P : Normal → Type 0) (row : Row) (n : Normal) → IsCanonical row.poly.terms → normal_form row ≡ Ok n
    → (gcd_of_all (values_of row.poly.terms) ≡ 0 → P (Constant (is_within row.kind row.poly.rest)))
    → (0 < gcd_of_all (values_of row.poly.terms) → reduced_row row.kind (gcd_of_all (values_of row.poly.terms)) row.poly ≡ Ok n → P n) → P n
normal_form-law P row n c e without_columns with_columns = go (gcd_of_all (values_of row.poly.terms)) refl
  where
    go : (g : ℕ) → gcd_of_all (values_of row.poly.terms) ≡ g → P n
    go zero z = same_made P (Constant (is_within row.kind row.poly.rest)) n (sym (normal_form-none row c z) ∙ e) (without_columns z)
    go (suc g) z = let some : 0 < gcd_of_all (values_of row.poly.terms) = omega arith in with_columns some (sym (normal_form-some row some) ∙ e)

pub normal_form-SaysAsMuch : (at : Valuation) (row : Row) (n : Normal) → IsCanonical row.poly.terms → normal_form row ≡ Ok n → SaysAsMuch at row n
normal_form-SaysAsMuch at row n c e =
    normal_form-law (SaysAsMuch at row) row n c e (SaysAsMuch-none at row c) (λ some f. reduced-SaysAsMuch at row.kind (gcd_of_all (values_of row.poly.terms)) row.poly n some refl f)

pub normal_form-IsNormal : (row : Row) (n : Normal) → IsCanonical row.poly.terms → normal_form row ≡ Ok n → IsNormal n
normal_form-IsNormal row n c e =
    normal_form-law IsNormal row n c e (λ z. tt) (λ some f. reduced-IsNormal row.kind (gcd_of_all (values_of row.poly.terms)) row.poly n some refl c f)

with_positive_first-IsCanonical : (p q : Polynomial) → IsCanonical p.terms → with_positive_first p ≡ Ok q → IsCanonical q.terms
with_positive_first-IsCanonical p q c e = go (starts_negative p.terms) e
  where
    go : (b : Bool) → cond b (multiple_of p (negsuc 0)) (Ok p) ≡ Ok q → IsCanonical q.terms
    go true f = IsCanonical-multiple_of p (negsuc 0) q f c
    go false f = let same : p ≡ q = cc in subst (λ r. IsCanonical r.terms) same c

reduced-HasCanonicalTerms : (k : Kind) (g : ℕ) (p : Polynomial) (n : Normal) → g ≡ gcd_of_all (values_of p.terms) → IsCanonical p.terms → reduced_row k g p ≡ Ok n → HasCanonicalTerms n
reduced-HasCanonicalTerms AtMost g p n e c f =
    same_made HasCanonicalTerms (Kept (row_of AtMost (over g p (ceiling_of p.rest g)))) n f (IsCanonical-divided g p.terms e c)
reduced-HasCanonicalTerms Equal g p n e c f = go (divides g (unsigned_abs p.rest)) f
  where
    go : (b : Bool) → cond b (with_positive_first (over g p (int_div p.rest (pos g))) >>= λ q. Ok (Kept (row_of Equal q))) (Ok (Constant false)) ≡ Ok n → HasCanonicalTerms n
    go true k =
        on_ok (with_positive_first (over g p (int_div p.rest (pos g)))) (λ q. Ok (Kept (row_of Equal q))) n k
        (λ q l m. same_made HasCanonicalTerms (Kept (row_of Equal q)) n m (with_positive_first-IsCanonical (over g p (int_div p.rest (pos g))) q (IsCanonical-divided g p.terms e c) l))
    go false k = same_made HasCanonicalTerms (Constant false) n k tt

pub normal_form-HasCanonicalTerms : (row : Row) (n : Normal) → IsCanonical row.poly.terms → normal_form row ≡ Ok n → HasCanonicalTerms n
normal_form-HasCanonicalTerms row n c e =
    normal_form-law HasCanonicalTerms row n c e (λ z. tt) (λ some f. reduced-HasCanonicalTerms row.kind (gcd_of_all (values_of row.poly.terms)) row.poly n refl c f)

-- ---- for the code: what a call that answers the reduced row answers of the row

pub Gives-normal_form : (row : Row) (g : ℕ) (r : Result Normal TermError) → 0 < g → g ≡ gcd_of_all (values_of row.poly.terms) → Gives cause (λ n. n) r (reduced_row row.kind g row.poly) → Gives cause (λ n. n) r (normal_form row)
Gives-normal_form row g r h e given =
    subst (λ s. Gives cause (λ n. n) r s) (ap (λ d. reduced_row row.kind d row.poly) e ∙ sym (normal_form-some row (rw (sym e) h))) given

pub IfOk-SaysAsMuch : (at : Valuation) (row : Row) (g : ℕ) (r : Result Normal TermError) → 0 < g → g ≡ gcd_of_all (values_of row.poly.terms) → Gives cause (λ n. n) r (reduced_row row.kind g row.poly) → IfOk r (SaysAsMuch at row)
IfOk-SaysAsMuch at row g (Ok n) h e given = reduced-SaysAsMuch at row.kind g row.poly n h e given
IfOk-SaysAsMuch at row g (Err f) h e given = tt

pub IfOk-IsNormal : (row : Row) (g : ℕ) (r : Result Normal TermError) → 0 < g → g ≡ gcd_of_all (values_of row.poly.terms) → IsCanonical row.poly.terms → Gives cause (λ n. n) r (reduced_row row.kind g row.poly) → IfOk r IsNormal
IfOk-IsNormal row g (Ok n) h e c given = reduced-IsNormal row.kind g row.poly n h e c given
IfOk-IsNormal row g (Err f) h e c given = tt

-- ---- the loop over the coefficients

pub gcd_of_all-next : (d : ℕ) (items : Terms) (i : ℕ) (t : List Col × ℤ) → i < length items → t ≡ get_or items i t → gcd_of (gcd_of d (unsigned_abs t.1)) (gcd_of_all (values_of (drop (i + 1) items))) ≡ gcd_of d (gcd_of_all (values_of (drop i items)))
gcd_of_all-next d items i t h e =
    gcd_of_assoc d (unsigned_abs t.1) (gcd_of_all (values_of (drop (i + 1) items)))
    ∙ ap (λ (l : Terms). gcd_of d (gcd_of_all (values_of l))) (sym (at_index items i t h e))

pub gcd_of_all-end : (d : ℕ) (items : Terms) (i : ℕ) → length items ≤ i → gcd_of d (gcd_of_all (values_of (drop i items))) ≡ d
gcd_of_all-end d items i h = ap (λ (l : Terms). gcd_of d (gcd_of_all (values_of l))) (drop_all i items h) ∙ gcd_of-zero d

pub ruleset common_divisors = (zero-gcd_of)

pub ruleset normal_forms = (normal_form-none, SaysAsMuch-none, Gives-normal_form, IfOk-SaysAsMuch, IfOk-IsNormal)

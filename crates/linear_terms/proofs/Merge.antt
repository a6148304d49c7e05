-- A merge of two lists of terms in print order is their sum.
use Rattle.std.proofs.Common.{◌≡◌, Bool, true, false, cond, ℤ, pos, List, [], ◌∷◌, ◌++◌, Result, Ok, Err, ◌≢◌, refl, sym, ap, subst, ◌∙◌, append_assoc, append-nil, length, arith}
use Rattle.std.specs.Ordering.{int_eq, match_ordering}
use Rattle.std.specs.declared.cmp.Ordering.TheVariants.{Less, Equal, Greater}
use Rattle.std.proofs.lemmas.Bool.Decides.{Decides-int_eq}
use Rattle.items.specs.Gives.{◌>>=◌}
use Rattle.items.proofs.Gives.{bind-assoc}
use Rattle.linear_terms.specs.declared.col.Col.{Col}
use Rattle.linear_terms.specs.declared.error.TermError.{TermError}
use Rattle.linear_terms.specs.TermError.{plus}
use Rattle.linear_terms.specs.Mono.{mono_cmp}
use Rattle.linear_terms.specs.Polynomial.{Terms, Polynomial, constant_of, IsCanonical}
use Rattle.linear_terms.specs.Operations.{with_term, put, put_all, sum_of_polys}
use Rattle.linear_terms.proofs.Steps.{with_front}
use Rattle.linear_terms.proofs.Order.{mono_tie}
use Rattle.linear_terms.proofs.Canonical.{Before, Before-trans, first_before, first_some, IsCanonical-tail, reversed}

-- a first term stays first where the others come after it
pub put_all-behind : (t : List Col × ℤ) (ts more : Terms) → Before t.0 more → put_all (t ∷ ts) more ≡ with_front (t ∷ []) (put_all ts more)
put_all-behind t ts [] b = refl
put_all-behind t ts (u ∷ more) b =
    ap (λ o. match_ordering o (Ok (with_term u.0 u.1 (t ∷ ts))) (plus t.1 u.1 >>= λ s. Ok (with_term t.0 s ts)) (put u.0 u.1 ts >>= λ made. Ok (t ∷ made)) >>= λ made. put_all made more) (reversed t.0 u.0 Less b.0)
    ∙ bind-assoc (put u.0 u.1 ts) (λ made. Ok (t ∷ made)) (λ made. put_all made more)
    ∙ each (λ made. put_all-behind t made more b.1) (put u.0 u.1 ts)
  where
    each : ((made : Terms) → put_all (t ∷ made) more ≡ with_front (t ∷ []) (put_all made more)) → (r : Result Terms TermError) → r >>= (λ made. put_all (t ∷ made) more) ≡ with_front (t ∷ []) (r >>= λ made. put_all made more)
    each later (Ok made) = later made
    each later (Err e) = refl

kept-some : (m : List Col) (c : ℤ) (ts : Terms) → (c ≡ pos 0 → ⊥) → with_term m c ts ≡ (m, c) ∷ ts
kept-some m c ts h = go (int_eq c (pos 0)) refl
  where
    go : (b : Bool) → int_eq c (pos 0) ≡ b → cond b ts ((m, c) ∷ ts) ≡ (m, c) ∷ ts
    go true e = absurd (h ((Decides-int_eq c (pos 0)).0 e))
    go false e = refl

-- ---- one step of the merge

pub merge_left : (t u : List Col × ℤ) (ts us : Terms) → mono_cmp t.0 u.0 ≡ Less → IsCanonical (u ∷ us) → put_all (t ∷ ts) (u ∷ us) ≡ with_front (t ∷ []) (put_all ts (u ∷ us))
merge_left t u ts us o k = put_all-behind t ts (u ∷ us) (o, Before-trans t.0 u.0 us o (first_before u us k))

pub merge_right : (t u : List Col × ℤ) (ts us : Terms) → mono_cmp t.0 u.0 ≡ Greater → IsCanonical (u ∷ us) → put_all (t ∷ ts) (u ∷ us) ≡ with_front (u ∷ []) (put_all (t ∷ ts) us)
merge_right t u ts us o k =
    ap (λ p. match_ordering p (Ok (with_term u.0 u.1 (t ∷ ts))) (plus t.1 u.1 >>= λ s. Ok (with_term t.0 s ts)) (put u.0 u.1 ts >>= λ made. Ok (t ∷ made)) >>= λ made. put_all made us) (reversed t.0 u.0 Greater o)
    ∙ ap (λ l. put_all l us) (kept-some u.0 u.1 (t ∷ ts) (first_some u us k))
    ∙ put_all-behind u (t ∷ ts) us (first_before u us k)

pub merge_both : (t u : List Col × ℤ) (ts us : Terms) → mono_cmp t.0 u.0 ≡ Equal → put_all (t ∷ ts) (u ∷ us) ≡ plus t.1 u.1 >>= λ s. put_all (with_term t.0 s ts) us
merge_both t u ts us o =
    ap (λ p. match_ordering p (Ok (with_term u.0 u.1 (t ∷ ts))) (plus t.1 u.1 >>= λ s. Ok (with_term t.0 s ts)) (put u.0 u.1 ts >>= λ made. Ok (t ∷ made)) >>= λ made. put_all made us) (reversed t.0 u.0 Equal o)
    ∙ bind-assoc (plus t.1 u.1) (λ s. Ok (with_term t.0 s ts)) (λ made. put_all made us)

-- ---- the ends

pub put_all-nil : (us : Terms) → IsCanonical us → put_all [] us ≡ Ok us
put_all-nil [] k = refl
put_all-nil (u ∷ us) k =
    ap (λ l. put_all l us) (kept-some u.0 u.1 [] (first_some u us k)) ∙ put_all-behind u [] us (first_before u us k) ∙ ap (with_front (u ∷ [])) (put_all-nil us (IsCanonical-tail u us k))

abbrev make : Terms → ℤ → Polynomial
make ts x = record { terms = ts; rest = x }

-- the sum of a constant and a polynomial
pub sum_of_polys-constant : (c : ℤ) (more : Polynomial) → IsCanonical more.terms → sum_of_polys (constant_of c) more ≡ (plus c more.rest >>= λ r. Ok (make more.terms r))
sum_of_polys-constant c more k = ap (λ s. s >>= λ ts. plus c more.rest >>= λ r. Ok (make ts r)) (put_all-nil more.terms k)

-- where the first has no terms
pub sum_of_polys-no_terms : (a b : Polynomial) → a.terms ≡ [] → sum_of_polys (constant_of a.rest) b ≡ sum_of_polys a b
sum_of_polys-no_terms a b e = ap (λ ts. sum_of_polys (make ts a.rest) b) (sym e)

-- ---- the same behind what is made already

with_front-append : (front more : Terms) (r : Result Terms TermError) → with_front (front ++ more) r ≡ with_front front (with_front more r)
with_front-append front more (Ok ts) = ap (λ l. Ok l) (append_assoc front more ts)
with_front-append front more (Err e) = refl

pub rest_canonical : (t : List Col × ℤ) (all ts : Terms) → all ≡ t ∷ ts → IsCanonical all → IsCanonical ts
rest_canonical t all ts e k = IsCanonical-tail t ts (subst IsCanonical e k)

pub step_left : (made left right : Terms) (t u : List Col × ℤ) (ts us : Terms) → left ≡ t ∷ ts → right ≡ u ∷ us → mono_cmp t.0 u.0 ≡ Less → IsCanonical right → with_front (made ++ t ∷ []) (put_all ts right) ≡ with_front made (put_all left right)
step_left made left right t u ts us e f o k =
    with_front-append made (t ∷ []) (put_all ts right)
    ∙ ap (with_front made) (rw (e, f) (sym (merge_left t u ts us o (subst IsCanonical f k))))

pub step_right : (made left right : Terms) (t u : List Col × ℤ) (ts us : Terms) → left ≡ t ∷ ts → right ≡ u ∷ us → mono_cmp t.0 u.0 ≡ Greater → IsCanonical right → with_front (made ++ u ∷ []) (put_all left us) ≡ with_front made (put_all left right)
step_right made left right t u ts us e f o k =
    with_front-append made (u ∷ []) (put_all left us)
    ∙ ap (with_front made) (rw (e, f) (sym (merge_right t u ts us o (subst IsCanonical f k))))

both_made : (t u : List Col × ℤ) (ts us : Terms) (s : ℤ) → mono_cmp t.0 u.0 ≡ Equal → plus t.1 u.1 ≡ Ok s → put_all (t ∷ ts) (u ∷ us) ≡ put_all (with_term t.0 s ts) us
both_made t u ts us s o f = merge_both t u ts us o ∙ ap (λ r. r >>= λ x. put_all (with_term t.0 x ts) us) f

pub step_both : (made left right : Terms) (t u v : List Col × ℤ) (ts us : Terms) → left ≡ t ∷ ts → right ≡ u ∷ us → mono_cmp t.0 u.0 ≡ Equal → IsCanonical right → plus t.1 u.1 ≡ Ok v.1 → v.0 ≡ t.0 → v.1 ≢ pos 0 → with_front (made ++ v ∷ []) (put_all ts us) ≡ with_front made (put_all left right)
step_both made left right t u v ts us e f o k made_sum same some =
    let before_u : Before u.0 us = first_before u us (subst IsCanonical f k) in
    let before_t : Before t.0 us = subst (λ m. Before m us) (sym (mono_tie t.0 u.0 o)) before_u in
    with_front-append made (v ∷ []) (put_all ts us)
    ∙ ap (λ m. with_front made (with_front ((m, v.1) ∷ []) (put_all ts us))) same
    ∙ ap (with_front made) (sym (put_all-behind (t.0, v.1) ts us before_t) ∙ ap (λ l. put_all l us) (sym (kept-some t.0 v.1 ts some)) ∙ sym (both_made t u ts us v.1 o made_sum) ∙ (rw (e, f) refl))

pub step_zero : (made left right : Terms) (t u v : List Col × ℤ) (ts us : Terms) → left ≡ t ∷ ts → right ≡ u ∷ us → mono_cmp t.0 u.0 ≡ Equal → plus t.1 u.1 ≡ Ok v.1 → v.1 ≡ pos 0 → with_front made (put_all ts us) ≡ with_front made (put_all left right)
step_zero made left right t u v ts us e f o made_sum zero_is =
    ap (with_front made) (ap (λ l. put_all l us) (sym (kept-none zero_is)) ∙ sym (both_made t u ts us v.1 o made_sum) ∙ (rw (e, f) refl))
  where
    kept-none : v.1 ≡ pos 0 → with_term t.0 v.1 ts ≡ ts
    kept-none z = ap (λ c. with_term t.0 c ts) z

pub step_failed : (made left right : Terms) (t u : List Col × ℤ) (ts us : Terms) (e : TermError) → left ≡ t ∷ ts → right ≡ u ∷ us → mono_cmp t.0 u.0 ≡ Equal → plus t.1 u.1 ≡ Err e → with_front made (put_all left right) ≡ Err e
step_failed made left right t u ts us d e f o failed =
    ap (with_front made) ((rw (e, f) (merge_both t u ts us o)) ∙ ap (λ r. r >>= λ x. put_all (with_term t.0 x ts) us) failed)

pub no_left : (made left right : Terms) → left ≡ [] → IsCanonical right → with_front made (put_all left right) ≡ Ok (made ++ left ++ right)
no_left made left right e k = rw e (ap (with_front made) (put_all-nil right k) ∙ ap (λ l. Ok (l ++ right)) (sym (append-nil made)))

pub no_right : (made left right : Terms) → right ≡ [] → with_front made (put_all left right) ≡ Ok (made ++ left ++ right)
no_right made left right e = rw e (ap (λ l. Ok l) (sym (append-nil (made ++ left))))

pub none : (ts : Terms) → length ts ≡ 0 → ts ≡ []
none [] e = refl
none (t ∷ ts) e = absurd (omega (arith, e))

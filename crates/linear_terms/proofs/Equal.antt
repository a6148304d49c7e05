-- The test of equality decides it.
use Rattle.std.proofs.Common.{◌≡◌, Bool, true, false, ℤ, List, [], ◌∷◌, refl, sym, ◌∙◌, subst}
use Rattle.std.specs.Prelude.{◌&&◌, ◌==◌, ◌↔◌, IsTrue}
use Rattle.std.specs.Ordering.{eq_by_cmp, int_eq, is_eq}
use Rattle.std.specs.declared.cmp.Ordering.{Ordering}
use Rattle.std.specs.declared.cmp.Ordering.TheVariants.{Less, Equal, Greater}
use Rattle.std.specs.Bool.{Decides}
use Rattle.std.specs.Cmp.Lexicographic.{pointwise}
use Rattle.std.proofs.lemmas.Bool.Decides.{Decides-int_eq, Decides-eqb}
use Rattle.std.proofs.lemmas.Slice.Eq.{slice_eq-Decides}
use denote.Enum.Bare.{sameb, same_true, true_same}
use Rattle.linear_terms.specs.contracts.row.Kind.{the_type}
use Rattle.linear_terms.specs.declared.row.Kind.{Kind}
use Rattle.linear_terms.specs.declared.row.Row.{Row}
use Rattle.linear_terms.specs.declared.row.Case.{Case}
use Rattle.linear_terms.specs.declared.col.Col.{Col}
use Rattle.linear_terms.specs.Mono.{mono_cmp}
use Rattle.linear_terms.specs.Polynomial.{Polynomial}
use Rattle.linear_terms.specs.Equality.{term_eq, poly_eq, poly_eq_equiv}
use Rattle.linear_terms.proofs.Order.{mono_tie}

both : (a b : Bool) → a && b ≡ true → (a ≡ true) × (b ≡ true)
both true b e = (refl, e)
both false b e = cc

both_true : {a b : Bool} → a ≡ true → b ≡ true → a && b ≡ true
both_true e f = rw (e, f) refl

tie : (o : Ordering) → is_eq o ≡ true → o ≡ Equal
tie Less e = cc
tie Equal e = refl
tie Greater e = cc

term_same : (t u : List Col × ℤ) → term_eq t u ≡ true → t ≡ u
term_same t u e =
    let parts = both (eq_by_cmp mono_cmp t.0 u.0) (int_eq t.1 u.1) e in
    let monos : t.0 ≡ u.0 = mono_tie t.0 u.0 (tie (mono_cmp t.0 u.0) parts.0) in
    let numbers : t.1 ≡ u.1 = (Decides-int_eq t.1 u.1).0 parts.1 in
    λ i. (monos i, numbers i)

terms_same : (xs ys : List (List Col × ℤ)) → pointwise term_eq xs ys ≡ true → xs ≡ ys
terms_same [] [] e = refl
terms_same [] (y ∷ ys) e = cc
terms_same (x ∷ xs) [] e = cc
terms_same (x ∷ xs) (y ∷ ys) e =
    let parts = both (term_eq x y) (pointwise term_eq xs ys) e in
    let first = term_same x y parts.0 in
    let others = terms_same xs ys parts.1 in
    λ i. first i ∷ others i

poly_same : (p q : Polynomial) → poly_eq p q ≡ true → p ≡ q
poly_same p q e =
    let parts = both (pointwise term_eq p.terms q.terms) (int_eq p.rest q.rest) e in
    let terms = terms_same p.terms q.terms parts.0 in
    let rests : p.rest ≡ q.rest = (Decides-int_eq p.rest q.rest).0 parts.1 in
    λ i. record { terms = terms i; rest = rests i }

pub poly_eq_decides : (p q : Polynomial) (b : Bool) → b ≡ poly_eq p q → IsTrue b ↔ (p ≡ q)
poly_eq_decides p q b e = (λ t. poly_same p q (sym e ∙ t), λ s. e ∙ subst (λ r. poly_eq p r ≡ true) s (poly_eq_equiv.refl p))

-- ---- rows and cases

poly_decides : (p q : Polynomial) → Decides (poly_eq p q) (p ≡ q)
poly_decides p q = poly_eq_decides p q (poly_eq p q) refl

kind_decides : (k l : Kind) → Decides (sameb the_type k l) (k ≡ l)
kind_decides k l = (λ t. same_true the_type tt k l t, λ e. true_same the_type k l e)

pub row_decides : (r s : Row) (b : Bool) → b ≡ (poly_eq r.poly s.poly && sameb the_type r.kind s.kind) → Decides b (r ≡ s)
row_decides r s b e =
    let polys = poly_decides r.poly s.poly in
    let kinds = kind_decides r.kind s.kind in (
      λ t.
          let parts = both (poly_eq r.poly s.poly) (sameb the_type r.kind s.kind) (sym e ∙ t) in
          let same_polys = polys.0 parts.0 in
          let same_kinds = kinds.0 parts.1 in
          λ i. record { poly = same_polys i; kind = same_kinds i },
      λ same. e ∙ both_true (polys.1 (λ i. (same i).poly)) (kinds.1 (λ i. (same i).kind)),
    )

pub case_decides : {row_eq : Row → Row → Bool} → ((r s : Row) → Decides (row_eq r s) (r ≡ s)) → (c d : Case) (b : Bool)
    → b ≡ ((c.aux == d.aux) && (pointwise row_eq c.rows d.rows && pointwise poly_eq c.post d.post)) → Decides b (c ≡ d)
case_decides {row_eq} decides c d b e =
    let aux = Decides-eqb c.aux d.aux in
    let rows = slice_eq-Decides decides c.rows d.rows (pointwise row_eq c.rows d.rows) refl in
    let posts = slice_eq-Decides poly_decides c.post d.post (pointwise poly_eq c.post d.post) refl in (
      λ t.
          let parts = both (c.aux == d.aux) (pointwise row_eq c.rows d.rows && pointwise poly_eq c.post d.post) (sym e ∙ t) in
          let lists = both (pointwise row_eq c.rows d.rows) (pointwise poly_eq c.post d.post) parts.1 in
          let same_aux = aux.0 parts.0 in
          let same_rows = rows.0 lists.0 in
          let same_posts = posts.0 lists.1 in
          λ i. record { aux = same_aux i; rows = same_rows i; post = same_posts i },
      λ same. e ∙ both_true (aux.1 (λ i. (same i).aux)) (both_true (rows.1 (λ i. (same i).rows)) (posts.1 (λ i. (same i).post))),
    )

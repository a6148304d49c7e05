-- Rows by their keys: which are alike, and the map of their places as rows are put in.
use Rattle.std.proofs.Common.{◌≡◌, ℕ, suc, ◌+◌, ◌<◌, ℤ, Bool, true, false, cond, length, map, get_or, set, List, [], ◌∷◌, ◌++◌, Option, Some, None, refl, sym, ap, subst, ◌∙◌, arith}
use Rattle.std.specs.Prelude.{◌&&◌, int_lt}
use Rattle.std.specs.BTreeMap as tree
use Rattle.std.specs.BTreeMap.{BTreeMap}
use Rattle.std.specs.Cmp.{IsTotalOrder, eq_by_cmp_equiv, int_cmp_total, on_total, then_total}
use Rattle.std.specs.Cmp.Lexicographic.{slice_cmp, pointwise, lists_total, lists_ties, options_total}
use Rattle.std.specs.Map.{update}
use Rattle.std.specs.Option.{option_map, option_cmp}
use Rattle.std.specs.Ordering.{eq_by_cmp, int_cmp, int_eq, is_eq, ordering_then}
use Rattle.std.specs.declared.cmp.Ordering.{Ordering}
use Rattle.std.specs.declared.cmp.Ordering.TheVariants as order
use Rattle.std.proofs.lemmas.Bool.Decides.{Decides-int_eq}
use Rattle.std.proofs.lemmas.List.{set-get_or}
use Rattle.linear_terms.specs.declared.col.Col.{Col}
use Rattle.linear_terms.specs.declared.row.Kind.{Kind}
use Rattle.linear_terms.specs.declared.row.Kind.TheVariants.{AtMost, Equal}
use Rattle.linear_terms.specs.declared.row.Row.{Row}
use Rattle.linear_terms.specs.Equality.{term_eq}
use Rattle.linear_terms.specs.Mono.{mono_cmp}
use Rattle.linear_terms.specs.MonoOrder.{mono_cmp_total}
use Rattle.linear_terms.specs.Polynomial.{Terms, Polynomial}
use Rattle.transition_formula.specs.Places.{RowKey, key_by, key_of, term_cmp, key_cmp, first_place, TellsPlaces}
use Rattle.transition_formula.specs.Rows.{alike_by, alike, stronger, with_row}
use Rattle.transition_formula.proofs.ColumnTests.{both}
use Rattle.transition_formula.proofs.Loops.{row_with}
use Rattle.transition_formula.proofs.Truths.{terms_same}

pub key_total : IsTotalOrder key_cmp
key_total =
    then_total (on_total (λ (k : RowKey). k.0) (options_total int_cmp_total))
    (on_total (λ (k : RowKey). k.1) (lists_total (then_total (on_total (λ (t : List Col × ℤ). t.0) mono_cmp_total) (on_total (λ (t : List Col × ℤ). t.1) int_cmp_total))))

abbrev pub same_key : RowKey → RowKey → Bool
same_key k l = eq_by_cmp key_cmp k l

pub turned_key : (k l : RowKey) → same_key k l ≡ same_key l k
turned_key k l = (eq_by_cmp_equiv key_total).symm k l

-- ---- keys that are equal

is_eq-then : (a b : Ordering) → is_eq (ordering_then a b) ≡ is_eq a && is_eq b
is_eq-then order.Less b = refl
is_eq-then order.Equal b = refl
is_eq-then order.Greater b = refl

term-ties : (t u : List Col × ℤ) → term_eq t u ≡ eq_by_cmp term_cmp t u
term-ties t u = sym (is_eq-then (mono_cmp t.0 u.0) (int_cmp t.1 u.1))

pub terms-tie : (ts us : Terms) → pointwise term_eq ts us ≡ eq_by_cmp (slice_cmp term_cmp) ts us
terms-tie ts us = lists_ties term_cmp term-ties ts us

same_option : (p q : Option ℤ) → is_eq (option_cmp int_cmp p q) ≡ true → p ≡ q
same_option None None e = refl
same_option None (Some y) e = cc
same_option (Some x) None e = cc
same_option (Some x) (Some y) e = ap (λ z. Some z) ((Decides-int_eq x y).0 e)

pub key_exact : (k l : RowKey) → same_key k l ≡ true → k ≡ l
key_exact k l e =
    let parts = both (is_eq (option_cmp int_cmp k.0 l.0)) (is_eq (slice_cmp term_cmp k.1 l.1)) (sym (is_eq-then (option_cmp int_cmp k.0 l.0) (slice_cmp term_cmp k.1 l.1)) ∙ e) in
    let first = same_option k.0 l.0 parts.0 in
    let second = terms_same k.1 l.1 (terms-tie k.1 l.1 ∙ parts.1) in
    λ i. (first i, second i)

and_turned : (a b : Bool) → a && b ≡ b && a
and_turned true true = refl
and_turned true false = refl
and_turned false true = refl
and_turned false false = refl

alike-keys : (p : Polynomial) (k : Kind) (q : Polynomial) (l : Kind) → alike_by k l (row_with p k) (row_with q l) ≡ same_key (key_by k p) (key_by l q)
alike-keys p AtMost q AtMost = terms-tie p.terms q.terms
alike-keys p AtMost q Equal = refl
alike-keys p Equal q AtMost = refl
alike-keys p Equal q Equal =
    (λ i. terms-tie p.terms q.terms i && int_eq p.rest q.rest)
    ∙ and_turned (eq_by_cmp (slice_cmp term_cmp) p.terms q.terms) (int_eq p.rest q.rest)
    ∙ sym (is_eq-then (int_cmp p.rest q.rest) (slice_cmp term_cmp p.terms q.terms))

pub alike-key : (r s : Row) → alike r s ≡ same_key (key_of s) (key_of r)
alike-key r s = alike-keys r.poly r.kind s.poly s.kind ∙ turned_key (key_of r) (key_of s)

-- ---- first places

pub none_mapped : (o : Option ℕ) → option_map (λ n. n + 1) o ≡ None → o ≡ None
none_mapped None e = refl
none_mapped (Some n) e = cc

pub some_mapped : {P : Type 0} (o : Option ℕ) (i : ℕ) → option_map (λ n. n + 1) o ≡ Some i → ((j : ℕ) → o ≡ Some j → i ≡ suc j → P) → P
some_mapped None i e tells = cc
some_mapped (Some n) i e tells = let same : n + 1 ≡ i = cc in tells n refl (omega arith)

-- a row with a new key
pub row-new : (rows : List Row) (s : Row) → first_place (same_key (key_of s)) (map key_of rows) ≡ None → with_row rows s ≡ rows ++ s ∷ []
row-new [] s e = refl
row-new (r ∷ rows) s e = go (same_key (key_of s) (key_of r)) (alike-key r s) e (λ f. row-new rows s f)
  where
    go : (b : Bool) → alike r s ≡ b → cond b (Some 0) (option_map (λ n. n + 1) (first_place (same_key (key_of s)) (map key_of rows))) ≡ None
        → (first_place (same_key (key_of s)) (map key_of rows) ≡ None → with_row rows s ≡ rows ++ s ∷ []) → with_row (r ∷ rows) s ≡ r ∷ (rows ++ s ∷ [])
    go true f g ih = cc
    go false f g ih = ap (λ b. cond b (stronger r s ∷ rows) (r ∷ with_row rows s)) f ∙ ap (λ l. r ∷ l) (ih (none_mapped (first_place (same_key (key_of s)) (map key_of rows)) g))

-- a row with the key of another
pub record PutAt (rows : List Row) (s d : Row) (i : ℕ) : Type 0 where
  pub within : i < length rows
  pub made : with_row rows s ≡ set rows i (stronger (get_or rows i d) s)
  pub keys : map key_of (set rows i s) ≡ map key_of rows

pub row-at : (rows : List Row) (s d : Row) (i : ℕ) → first_place (same_key (key_of s)) (map key_of rows) ≡ Some i → PutAt rows s d i
row-at [] s d i e = cc
row-at (r ∷ rows) s d i e = go (same_key (key_of s) (key_of r)) refl e (λ j f. row-at rows s d j f)
  where
    here : same_key (key_of s) (key_of r) ≡ true → 0 ≡ i → PutAt (r ∷ rows) s d i
    here f same = subst (PutAt (r ∷ rows) s d) same record {
      within = omega arith;
      made = ap (λ b. cond b (stronger r s ∷ rows) (r ∷ with_row rows s)) (alike-key r s ∙ f);
      keys = ap (λ k. k ∷ map key_of rows) (key_exact (key_of s) (key_of r) f);
    }

    later : same_key (key_of s) (key_of r) ≡ false → (j : ℕ) → PutAt rows s d j → i ≡ suc j → PutAt (r ∷ rows) s d i
    later f j put same = subst (PutAt (r ∷ rows) s d) (sym same) record {
      within = let lt = put.within in omega arith;
      made = ap (λ b. cond b (stronger r s ∷ rows) (r ∷ with_row rows s)) (alike-key r s ∙ f) ∙ ap (λ l. r ∷ l) put.made;
      keys = ap (λ k. key_of r ∷ k) put.keys;
    }

    go : (b : Bool) → same_key (key_of s) (key_of r) ≡ b → cond b (Some 0) (option_map (λ n. n + 1) (first_place (same_key (key_of s)) (map key_of rows))) ≡ Some i
        → ((j : ℕ) → first_place (same_key (key_of s)) (map key_of rows) ≡ Some j → PutAt rows s d j) → PutAt (r ∷ rows) s d i
    go true f g ih = let same : 0 ≡ i = cc in here f same
    go false f g ih = some_mapped (first_place (same_key (key_of s)) (map key_of rows)) i g (λ j h same. later f j (ih j h) same)

-- the places after a row is put behind the others
pub place-behind : (rows : List Row) (s : Row) (q : RowKey) → first_place (same_key (key_of s)) (map key_of rows) ≡ None
    → first_place (same_key q) (map key_of (rows ++ s ∷ [])) ≡ cond (same_key (key_of s) q) (Some (length rows)) (first_place (same_key q) (map key_of rows))
place-behind [] s q e = ap (λ b. cond b (Some 0) None) (turned_key q (key_of s))
place-behind (r ∷ rows) s q e = go (same_key (key_of s) (key_of r)) refl e (λ f. place-behind rows s q f)
  where
    second : (b : Bool) → same_key (key_of s) q ≡ b → same_key (key_of s) (key_of r) ≡ false
        → first_place (same_key q) (map key_of (rows ++ s ∷ [])) ≡ cond b (Some (length rows)) (first_place (same_key q) (map key_of rows))
        → cond (same_key q (key_of r)) (Some 0) (option_map (λ n. n + 1) (first_place (same_key q) (map key_of (rows ++ s ∷ []))))
        ≡ cond b (Some (suc (length rows))) (cond (same_key q (key_of r)) (Some 0) (option_map (λ n. n + 1) (first_place (same_key q) (map key_of rows))))
    second true f g ih =
        let other : same_key q (key_of r) ≡ false = ap (λ k. same_key k (key_of r)) (sym (key_exact (key_of s) q f)) ∙ g in
        let next : length rows + 1 ≡ suc (length rows) = omega arith in
        ap (λ b. cond b (Some 0) (option_map (λ n. n + 1) (first_place (same_key q) (map key_of (rows ++ s ∷ []))))) other
        ∙ ap (option_map (λ n. n + 1)) ih
        ∙ ap (λ n. Some n) next
    second false f g ih = ap (λ o. cond (same_key q (key_of r)) (Some 0) (option_map (λ n. n + 1) o)) ih

    go : (b : Bool) → same_key (key_of s) (key_of r) ≡ b → cond b (Some 0) (option_map (λ n. n + 1) (first_place (same_key (key_of s)) (map key_of rows))) ≡ None
        → (first_place (same_key (key_of s)) (map key_of rows) ≡ None → first_place (same_key q) (map key_of (rows ++ s ∷ [])) ≡ cond (same_key (key_of s) q) (Some (length rows)) (first_place (same_key q) (map key_of rows)))
        → first_place (same_key q) (map key_of ((r ∷ rows) ++ s ∷ [])) ≡ cond (same_key (key_of s) q) (Some (suc (length rows))) (first_place (same_key q) (map key_of (r ∷ rows)))
    go true f g ih = cc
    go false f g ih = second (same_key (key_of s) q) refl f (ih (none_mapped (first_place (same_key (key_of s)) (map key_of rows)) g))

-- ---- what the code does

module _ (rows : List Row) (s : Row) (places : BTreeMap RowKey ℕ) (tells : TellsPlaces places rows) where
  pub told : (key : RowKey) (o : Option ℕ) → key ≡ key_of s → o ≡ tree.get key_cmp places key → first_place (same_key (key_of s)) (map key_of rows) ≡ o
  told key o is e = sym (e ∙ ap (tree.get key_cmp places) is ∙ tells (key_of s))

  pub replaced : (r : Row) (i : ℕ) → first_place (same_key (key_of s)) (map key_of rows) ≡ Some i → r ≡ get_or rows i r → int_lt r.poly.rest s.poly.rest ≡ true → set rows i s ≡ with_row rows s
  replaced r i e same weaker =
      let put = row-at rows s r i e in
      sym (put.made ∙ ap (λ x. set rows i (stronger x s)) (sym same) ∙ ap (λ b. set rows i (cond b s r)) weaker)

  pub replaced-tells : (i : ℕ) → first_place (same_key (key_of s)) (map key_of rows) ≡ Some i → TellsPlaces places (set rows i s)
  replaced-tells i e key = tells key ∙ ap (first_place (same_key key)) (sym (row-at rows s s i e).keys)

  pub left_as_is : (r : Row) (i : ℕ) → first_place (same_key (key_of s)) (map key_of rows) ≡ Some i → r ≡ get_or rows i r → int_lt r.poly.rest s.poly.rest ≡ false → rows ≡ with_row rows s
  left_as_is r i e same weaker =
      let put = row-at rows s r i e in
      sym (put.made ∙ ap (λ x. set rows i (stronger x s)) (sym same) ∙ ap (λ b. set rows i (cond b s r)) weaker ∙ ap (λ x. set rows i x) same ∙ set-get_or rows i r)

  pub pushed-tells : (more : BTreeMap RowKey ℕ) (next : List Row) (key : RowKey) (place : ℕ) → first_place (same_key (key_of s)) (map key_of rows) ≡ None → key ≡ key_of s → place ≡ length rows → next ≡ rows ++ s ∷ []
      → ((q : RowKey) → tree.get key_cmp more q ≡ update same_key (tree.get key_cmp places) key (Some place) q) → TellsPlaces more next
  pushed-tells more next key place e is at behind updates q =
      updates q
      ∙ (λ i. cond (same_key (is i) q) (Some (at i)) (tells q i))
      ∙ sym (place-behind rows s q e)
      ∙ ap (λ l. first_place (same_key q) (map key_of l)) (sym behind)

-- The columns of rows and an objective: a merge of the rows' own columns with the objective's
-- monomials.
use Rattle.std.proofs.Common.{◌≡◌, Bool, true, false, cond, List, [], ◌∷◌, ◌++◌, length, refl, sym, ap, subst, ◌∙◌, append_assoc, append-nil, arith, ℤ}
use Rattle.std.specs.Map.{keys_of}
use Rattle.std.specs.Ordering.{eq_by_cmp, match_ordering, ordering_reverse}
use Rattle.std.proofs.lemmas.Bool.{false≢true}
use Rattle.std.specs.declared.cmp.Ordering.{Ordering}
use Rattle.std.specs.declared.cmp.Ordering.TheVariants.{Less, Equal, Greater}
use Rattle.linear_terms.specs.declared.col.Col.{Col}
use Rattle.linear_terms.specs.declared.row.Row.{Row}
use Rattle.linear_terms.specs.Mono.{mono_cmp}
use Rattle.linear_terms.specs.MonoOrder.{mono_cmp_total}
use Rattle.linear_terms.specs.Polynomial.{Terms, IsCanonical}
use Rattle.linear_terms.proofs.Order.{mono_tie}
use Rattle.linear_terms.proofs.Canonical.{first_before, IsCanonical-tail}
use Rattle.farkas_check.specs.Columns.{with_mono, in_print_order, monos_of, columns}
use Rattle.farkas_check.proofs.Spreads.{same_mono, is_among, AreAmong, AreAmong-itself}
use Rattle.farkas_check.proofs.Walks.{IsBefore, IsOrdered, IsOrdered-columns, reversed}
use Rattle.simplex.proofs.WiderColumns.{before-among, before-trans, in_order-among}

-- ---- a monomial put among others

-- where the monomial comes beside the first of the others
abbrev beside : List Col → List Col → List (List Col) → Ordering → List (List Col)
beside m n ns o = match_ordering o (m ∷ n ∷ ns) (n ∷ ns) (n ∷ with_mono m ns)

mono_itself : (m : List Col) → mono_cmp m m ≡ Equal
mono_itself m = go (mono_cmp m m) (mono_cmp_total.antisymm m m)
  where
    go : (o : Ordering) → o ≡ ordering_reverse o → o ≡ Equal
    go Less e = cc
    go Equal e = refl
    go Greater e = cc

with_mono-first : (m : List Col) (ns : List (List Col)) → IsBefore m ns → with_mono m ns ≡ m ∷ ns
with_mono-first m [] b = refl
with_mono-first m (n ∷ ns) b = ap (beside m n ns) b.0

with_mono-twice : (m : List Col) (ns : List (List Col)) → with_mono m (with_mono m ns) ≡ with_mono m ns
with_mono-twice m [] = ap (beside m m []) (mono_itself m)
with_mono-twice m (n ∷ ns) = go (mono_cmp m n) refl (with_mono-twice m ns)
  where
    go : (o : Ordering) → mono_cmp m n ≡ o → with_mono m (with_mono m ns) ≡ with_mono m ns → with_mono m (beside m n ns o) ≡ beside m n ns o
    go Less e ih = ap (beside m m (n ∷ ns)) (mono_itself m)
    go Equal e ih = ap (beside m n ns) e
    go Greater e ih = ap (beside m n (with_mono m ns)) e ∙ ap (λ (l : List (List Col)). n ∷ l) ih

-- the order in which two are put in does not matter
swap-less : (m n : List Col) (ns : List (List Col)) → mono_cmp m n ≡ Less → with_mono m (with_mono n ns) ≡ with_mono n (with_mono m ns)
swap-less m n [] e = ap (beside m n []) e ∙ sym (ap (beside n m []) (reversed m n Less e))
swap-less m n (x ∷ ns) e = go (mono_cmp m x) refl (swap-less m n ns e)
  where
    -- the greater one comes behind what the lesser one does not come before
    behind : mono_cmp x n ≡ Less → with_mono n (x ∷ ns) ≡ x ∷ with_mono n ns
    behind f = ap (beside n x ns) (reversed x n Less f)

    first : mono_cmp m x ≡ Less → (o : Ordering) → with_mono m (beside n x ns o) ≡ m ∷ beside n x ns o
    first f Less = ap (beside m n (x ∷ ns)) e
    first f Equal = ap (beside m x ns) f
    first f Greater = ap (beside m x (with_mono n ns)) f

    go : (o : Ordering) → mono_cmp m x ≡ o → with_mono m (with_mono n ns) ≡ with_mono n (with_mono m ns) → with_mono m (with_mono n (x ∷ ns)) ≡ with_mono n (beside m x ns o)
    go Less f ih = first f (mono_cmp n x) ∙ sym (ap (beside n m (x ∷ ns)) (reversed m n Less e))
    go Equal f ih =
        let far : with_mono n (x ∷ ns) ≡ x ∷ with_mono n ns = behind (subst (λ (y : List Col). mono_cmp y n ≡ Less) (mono_tie m x f) e) in
        ap (with_mono m) far ∙ ap (beside m x (with_mono n ns)) f ∙ sym far
    go Greater f ih =
        let less : mono_cmp x n ≡ Less = mono_cmp_total.trans x m n (reversed m x Greater f) e in
        ap (with_mono m) (behind less)
        ∙ ap (beside m x (with_mono n ns)) f
        ∙ ap (λ (l : List (List Col)). x ∷ l) ih
        ∙ sym (ap (beside n x (with_mono m ns)) (reversed x n Less less))

with_mono-swap : (m n : List Col) (ns : List (List Col)) → with_mono m (with_mono n ns) ≡ with_mono n (with_mono m ns)
with_mono-swap m n ns = go (mono_cmp m n) refl
  where
    go : (o : Ordering) → mono_cmp m n ≡ o → with_mono m (with_mono n ns) ≡ with_mono n (with_mono m ns)
    go Less e = swap-less m n ns e
    go Equal e = subst (λ (x : List Col). with_mono m (with_mono x ns) ≡ with_mono x (with_mono m ns)) (mono_tie m n e) refl
    go Greater e = sym (swap-less n m ns (reversed m n Greater e))

-- ---- lists in print order

in_print_order-move : (m : List Col) (ms ns : List (List Col)) → in_print_order (ms ++ m ∷ ns) ≡ with_mono m (in_print_order (ms ++ ns))
in_print_order-move m [] ns = refl
in_print_order-move m (x ∷ ms) ns = ap (with_mono x) (in_print_order-move m ms ns) ∙ with_mono-swap x m (in_print_order (ms ++ ns))

in_print_order-with : (m : List Col) (ms ns : List (List Col)) → in_print_order (with_mono m ms ++ ns) ≡ with_mono m (in_print_order (ms ++ ns))
in_print_order-with m [] ns = refl
in_print_order-with m (x ∷ ms) ns = go (mono_cmp m x) refl (in_print_order-with m ms ns)
  where
    go : (o : Ordering) → mono_cmp m x ≡ o → in_print_order (with_mono m ms ++ ns) ≡ with_mono m (in_print_order (ms ++ ns)) → in_print_order (beside m x ms o ++ ns) ≡ with_mono m (with_mono x (in_print_order (ms ++ ns)))
    go Less e ih = refl
    go Equal e ih = sym (ap (λ (y : List Col). with_mono y (with_mono x (in_print_order (ms ++ ns)))) (mono_tie m x e) ∙ with_mono-twice x (in_print_order (ms ++ ns)))
    go Greater e ih = ap (with_mono x) ih ∙ with_mono-swap x m (in_print_order (ms ++ ns))

in_print_order-twice : (ms ns : List (List Col)) → in_print_order (in_print_order ms ++ ns) ≡ in_print_order (ms ++ ns)
in_print_order-twice [] ns = refl
in_print_order-twice (m ∷ ms) ns = in_print_order-with m (in_print_order ms) ns ∙ ap (with_mono m) (in_print_order-twice ms ns)

monos_of-append : (rows : List Row) (terms : Terms) → monos_of rows terms ≡ monos_of rows [] ++ keys_of terms
monos_of-append [] terms = refl
monos_of-append (row ∷ rows) terms = ap (λ (l : List (List Col)). keys_of row.poly.terms ++ l) (monos_of-append rows terms) ∙ sym (append_assoc (keys_of row.poly.terms) (monos_of rows []) (keys_of terms))

-- the columns of rows and an objective are the rows' own with the objective's monomials
columns-merged : (rows : List Row) (terms : Terms) → columns rows terms ≡ in_print_order (columns rows [] ++ keys_of terms)
columns-merged rows terms = ap in_print_order (monos_of-append rows terms) ∙ sym (in_print_order-twice (monos_of rows []) (keys_of terms))

-- ---- monomials that are there

in_print_order-ordered : (ms : List (List Col)) → IsOrdered ms → in_print_order ms ≡ ms
in_print_order-ordered [] o = refl
in_print_order-ordered (m ∷ ms) o = ap (with_mono m) (in_print_order-ordered ms o.1) ∙ with_mono-first m ms o.0

with_mono-there : (m : List Col) (ms : List (List Col)) → is_among m ms ≡ true → with_mono m (in_print_order ms) ≡ in_print_order ms
with_mono-there m [] h = absurd (false≢true h)
with_mono-there m (x ∷ ms) h = go (eq_by_cmp mono_cmp m x) refl h (λ k. with_mono-there m ms k)
  where
    go : (t : Bool) → eq_by_cmp mono_cmp m x ≡ t → cond t true (is_among m ms) ≡ true → (is_among m ms ≡ true → with_mono m (in_print_order ms) ≡ in_print_order ms) → with_mono m (with_mono x (in_print_order ms)) ≡ with_mono x (in_print_order ms)
    go true e k ih = subst (λ (y : List Col). with_mono m (with_mono y (in_print_order ms)) ≡ with_mono y (in_print_order ms)) (same_mono m x e) (with_mono-twice m (in_print_order ms))
    go false e k ih = with_mono-swap m x (in_print_order ms) ∙ ap (with_mono x) (ih k)

in_print_order-there : (ms ns : List (List Col)) → AreAmong ns ms → in_print_order (ms ++ ns) ≡ in_print_order ms
in_print_order-there ms [] a = ap in_print_order (append-nil ms)
in_print_order-there ms (n ∷ ns) a = in_print_order-move n ms ns ∙ ap (with_mono n) (in_print_order-there ms ns a.1) ∙ with_mono-there n ms a.0

-- an objective whose monomials are all among those of the rows brings no column
pub columns-own : (rows : List Row) (terms : Terms) (own : List (List Col)) → own ≡ columns rows [] → AreAmong (keys_of terms) own → columns rows terms ≡ own
columns-own rows terms own e a =
    columns-merged rows terms
    ∙ in_print_order-there (columns rows []) (keys_of terms) (subst (AreAmong (keys_of terms)) e a)
    ∙ in_print_order-ordered (columns rows []) (IsOrdered-columns (monos_of rows []))
    ∙ sym e

-- ---- one step of the merge

before-all : (m : List Col) (ms ns : List (List Col)) → IsBefore m ns → AreAmong ms ns → IsBefore m ms
before-all m [] ns b a = tt
before-all m (x ∷ ms) ns b a = (before-among m x ns b a.0, before-all m ms ns b a.1)

before-append : (m : List Col) (ms ns : List (List Col)) → IsBefore m ms → IsBefore m ns → IsBefore m (ms ++ ns)
before-append m [] ns a b = b
before-append m (x ∷ ms) ns a b = (a.0, before-append m ms ns a.1 b)

in_print_order-first : (m : List Col) (ns : List (List Col)) → IsBefore m ns → with_mono m (in_print_order ns) ≡ m ∷ in_print_order ns
in_print_order-first m ns b = with_mono-first m (in_print_order ns) (before-all m (in_print_order ns) ns b (in_order-among ns ns (AreAmong-itself ns)))

keys-ordered : (terms : Terms) → IsCanonical terms → IsOrdered (keys_of terms)
keys-ordered [] k = tt
keys-ordered (t ∷ terms) k = (first_before t terms k, keys-ordered terms (IsCanonical-tail t terms k))

merge-less : (c : List Col) (cs : List (List Col)) (t : List Col × ℤ) (ts : Terms) → mono_cmp c t.0 ≡ Less → IsOrdered (c ∷ cs) → IsCanonical (t ∷ ts) → in_print_order ((c ∷ cs) ++ keys_of (t ∷ ts)) ≡ c ∷ in_print_order (cs ++ keys_of (t ∷ ts))
merge-less c cs t ts e o k = in_print_order-first c (cs ++ keys_of (t ∷ ts)) (before-append c cs (keys_of (t ∷ ts)) o.0 (e, before-trans c t.0 (keys_of ts) e (first_before t ts k)))

merge-greater : (c : List Col) (cs : List (List Col)) (t : List Col × ℤ) (ts : Terms) → mono_cmp c t.0 ≡ Greater → IsOrdered (c ∷ cs) → IsCanonical (t ∷ ts) → in_print_order ((c ∷ cs) ++ keys_of (t ∷ ts)) ≡ t.0 ∷ in_print_order ((c ∷ cs) ++ keys_of ts)
merge-greater c cs t ts e o k =
    let less : mono_cmp t.0 c ≡ Less = reversed c t.0 Greater e in
    in_print_order-move t.0 (c ∷ cs) (keys_of ts)
    ∙ in_print_order-first t.0 ((c ∷ cs) ++ keys_of ts) (before-append t.0 (c ∷ cs) (keys_of ts) (less, before-trans t.0 c cs less o.0) (first_before t ts k))

merge-equal : (c : List Col) (cs : List (List Col)) (t : List Col × ℤ) (ts : Terms) → mono_cmp c t.0 ≡ Equal → IsOrdered (c ∷ cs) → IsCanonical (t ∷ ts) → in_print_order ((c ∷ cs) ++ keys_of (t ∷ ts)) ≡ c ∷ in_print_order (cs ++ keys_of ts)
merge-equal c cs t ts e o k =
    let same : t.0 ≡ c = sym (mono_tie c t.0 e) in
    in_print_order-move t.0 (c ∷ cs) (keys_of ts)
    ∙ ap (λ (y : List Col). with_mono y (with_mono c (in_print_order (cs ++ keys_of ts)))) same
    ∙ with_mono-twice c (in_print_order (cs ++ keys_of ts))
    ∙ in_print_order-first c (cs ++ keys_of ts) (before-append c cs (keys_of ts) o.0 (subst (λ (y : List Col). IsBefore y (keys_of ts)) same (first_before t ts k)))

-- ---- what is made so far, before the merge of what is left: all columns

pub record SoFar (made left : List (List Col)) (right : Terms) (all : List (List Col)) : Type 0 where
  pub same : made ++ in_print_order (left ++ keys_of right) ≡ all
  pub left_ordered : IsOrdered left
  pub right_canonical : IsCanonical right

pub at_first : (rows : List Row) (made own : List (List Col)) (terms : Terms) → made ≡ [] → own ≡ columns rows [] → IsCanonical terms → SoFar made own terms (columns rows terms)
at_first rows made own terms e f k = record {
  same = ap (λ (x : List (List Col)). x ++ in_print_order (own ++ keys_of terms)) e ∙ ap (λ (x : List (List Col)). in_print_order (x ++ keys_of terms)) f ∙ sym (columns-merged rows terms);
  left_ordered = subst IsOrdered (sym f) (IsOrdered-columns (monos_of rows []));
  right_canonical = k;
}

module _ (made left all more : List (List Col)) (right : Terms) (c : List Col) (cs : List (List Col)) (t : List Col × ℤ) (ts : Terms) (l : left ≡ c ∷ cs) (r : right ≡ t ∷ ts) where
  next_made : (m : List Col) (rest : List (List Col)) → more ≡ made ++ m ∷ [] → in_print_order (left ++ keys_of right) ≡ m ∷ rest → made ++ in_print_order (left ++ keys_of right) ≡ all → more ++ rest ≡ all
  next_made m rest e f g = ap (λ (x : List (List Col)). x ++ rest) e ∙ append_assoc made (m ∷ []) rest ∙ ap (λ (x : List (List Col)). made ++ x) (sym f) ∙ g

  abbrev whole : List (List Col) → Terms → List (List Col)
  whole xs us = in_print_order (xs ++ keys_of us)

  pub after_less : mono_cmp c t.0 ≡ Less → more ≡ made ++ c ∷ [] → SoFar made left right all → SoFar more cs right all
  after_less e f s =
      let o : IsOrdered (c ∷ cs) = subst IsOrdered l s.left_ordered in
      let k : IsCanonical (t ∷ ts) = subst IsCanonical r s.right_canonical in
      record {
        same = next_made c (whole cs right) f (rw (l, r) (merge-less c cs t ts e o k)) s.same;
        left_ordered = o.1;
        right_canonical = s.right_canonical;
      }

  pub after_equal : mono_cmp c t.0 ≡ Equal → more ≡ made ++ c ∷ [] → SoFar made left right all → SoFar more cs ts all
  after_equal e f s =
      let o : IsOrdered (c ∷ cs) = subst IsOrdered l s.left_ordered in
      let k : IsCanonical (t ∷ ts) = subst IsCanonical r s.right_canonical in
      record {
        same = next_made c (whole cs ts) f (rw (l, r) (merge-equal c cs t ts e o k)) s.same;
        left_ordered = o.1;
        right_canonical = IsCanonical-tail t ts k;
      }

  pub after_greater : mono_cmp c t.0 ≡ Greater → more ≡ made ++ t.0 ∷ [] → SoFar made left right all → SoFar more left ts all
  after_greater e f s =
      let o : IsOrdered (c ∷ cs) = subst IsOrdered l s.left_ordered in
      let k : IsCanonical (t ∷ ts) = subst IsCanonical r s.right_canonical in
      record {
        same = next_made t.0 (whole left ts) f (rw (l, r) (merge-greater c cs t ts e o k)) s.same;
        left_ordered = s.left_ordered;
        right_canonical = IsCanonical-tail t ts k;
      }

pub none : (ms : List (List Col)) → length ms ≡ 0 → ms ≡ []
none [] e = refl
none (m ∷ ms) e = absurd (omega (arith, e))

pub no_left : (made left : List (List Col)) (right : Terms) (all : List (List Col)) → left ≡ [] → SoFar made left right all → made ++ left ++ keys_of right ≡ all
no_left made left right all e s =
    ap (λ (x : List (List Col)). (made ++ x) ++ keys_of right) e
    ∙ append_assoc made [] (keys_of right)
    ∙ ap (λ (x : List (List Col)). made ++ x) (sym (in_print_order-ordered (keys_of right) (keys-ordered right s.right_canonical)))
    ∙ ap (λ (x : List (List Col)). made ++ in_print_order (x ++ keys_of right)) (sym e)
    ∙ s.same

pub no_right : (made left : List (List Col)) (right : Terms) (all : List (List Col)) → right ≡ [] → SoFar made left right all → made ++ left ++ keys_of right ≡ all
no_right made left right all e s =
    ap (λ (ts : Terms). (made ++ left) ++ keys_of ts) e
    ∙ append-nil (made ++ left)
    ∙ ap (λ (x : List (List Col)). made ++ x) (sym (ap in_print_order (append-nil left) ∙ in_print_order-ordered left s.left_ordered))
    ∙ ap (λ (ts : Terms). made ++ in_print_order (left ++ keys_of ts)) (sym e)
    ∙ s.same

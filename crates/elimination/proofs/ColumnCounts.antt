-- How many columns a case has: not more than a longer list of monomials gives.
use Rattle.std.proofs.Common.{◌≡◌, suc, ◌+◌, ◌≤◌, Bool, true, false, cond, List, [], ◌∷◌, length, refl, sym, ap, ◌∙◌, arith}
use Rattle.std.specs.List.{AllByRecursion}
use Rattle.std.specs.Ordering.{eq_by_cmp, is_eq, match_ordering}
use Rattle.std.specs.declared.cmp.Ordering.{Ordering}
use Rattle.std.specs.declared.cmp.Ordering.TheVariants.{Less, Equal, Greater}
use Rattle.std.proofs.lemmas.Bool.{false≢true}
use Rattle.linear_terms.specs.declared.col.Col.{Col}
use Rattle.linear_terms.specs.Mono.{mono_cmp}
use Rattle.farkas_check.specs.Columns.{with_mono, in_print_order}
use Rattle.farkas_check.proofs.Spreads.{is_among, same_mono, itself, is_among-in_print_order}
use Rattle.farkas_check.proofs.Walks.{IsBefore, IsOrdered, IsOrdered-columns}

-- ---- monomials without one of them

without_mono : List Col → List (List Col) → List (List Col)
without_mono m [] = []
without_mono m (n ∷ ns) = cond (eq_by_cmp mono_cmp m n) ns (n ∷ without_mono m ns)

without-first : (m n : List Col) (ns : List (List Col)) (b : Bool) → eq_by_cmp mono_cmp m n ≡ b → without_mono m (n ∷ ns) ≡ cond b ns (n ∷ without_mono m ns)
unfolding without_mono
without-first m n ns b e = ap (λ c. cond c ns (n ∷ without_mono m ns)) e

without-length : (m : List Col) (ns : List (List Col)) → is_among m ns ≡ true → length (without_mono m ns) + 1 ≡ length ns
without-length m [] h = absurd (false≢true h)
without-length m (n ∷ ns) h = go (eq_by_cmp mono_cmp m n) refl h (without-length m ns)
  where
    go : (b : Bool) → eq_by_cmp mono_cmp m n ≡ b → cond b true (is_among m ns) ≡ true → (is_among m ns ≡ true → length (without_mono m ns) + 1 ≡ length ns) → length (without_mono m (n ∷ ns)) + 1 ≡ suc (length ns)
    go true e k ih = let g : length (without_mono m (n ∷ ns)) ≡ length ns = ap length (without-first m n ns true e) in omega (arith, g)
    go false e k ih = let g : length (without_mono m (n ∷ ns)) ≡ suc (length (without_mono m ns)) = ap length (without-first m n ns false e) in let r : length (without_mono m ns) + 1 ≡ length ns = ih k in omega (arith, g, r)

-- another monomial is still there
without-other : (m x : List Col) (ns : List (List Col)) → eq_by_cmp mono_cmp x m ≡ false → is_among x ns ≡ true → is_among x (without_mono m ns) ≡ true
without-other m x [] other h = absurd (false≢true h)
without-other m x (n ∷ ns) other h = go (eq_by_cmp mono_cmp m n) refl (eq_by_cmp mono_cmp x n) refl h (without-other m x ns other)
  where
    go : (b : Bool) → eq_by_cmp mono_cmp m n ≡ b → (c : Bool) → eq_by_cmp mono_cmp x n ≡ c → cond c true (is_among x ns) ≡ true → (is_among x ns ≡ true → is_among x (without_mono m ns) ≡ true) → is_among x (without_mono m (n ∷ ns)) ≡ true
    go true e true f k ih = absurd (false≢true (sym other ∙ ap (λ y. eq_by_cmp mono_cmp x y) (same_mono m n e) ∙ f))
    go true e false f k ih = ap (is_among x) (without-first m n ns true e) ∙ k
    go false e true f k ih = ap (is_among x) (without-first m n ns false e) ∙ ap (λ b. cond b true (is_among x (without_mono m ns))) f
    go false e false f k ih = ap (is_among x) (without-first m n ns false e) ∙ ap (λ b. cond b true (is_among x (without_mono m ns))) f ∙ ih k

-- ---- counts

apart_from : (m n : List Col) → mono_cmp m n ≡ Less → eq_by_cmp mono_cmp n m ≡ false
apart_from m n e = go (eq_by_cmp mono_cmp n m) refl
  where
    go : (b : Bool) → eq_by_cmp mono_cmp n m ≡ b → b ≡ false
    go false f = refl
    go true f = absurd (false≢true (sym (ap is_eq e) ∙ ap (λ x. eq_by_cmp mono_cmp m x) (same_mono n m f) ∙ itself m))

-- monomials that all stand among others, each once, are at most as many
pub among-length : (ms ns : List (List Col)) → IsOrdered ms → AllByRecursion (λ m. is_among m ns ≡ true) ms → length ms ≤ length ns
among-length [] ns o h = omega arith
among-length (m ∷ ms) ns o h =
    let rest : length ms ≤ length (without_mono m ns) = among-length ms (without_mono m ns) o.1 (each ms o.0 h.1) in
    let one : length (without_mono m ns) + 1 ≡ length ns = without-length m ns h.0 in
    omega (arith, rest, one)
  where
    each : (xs : List (List Col)) → IsBefore m xs → AllByRecursion (λ x. is_among x ns ≡ true) xs → AllByRecursion (λ x. is_among x (without_mono m ns) ≡ true) xs
    each [] b k = tt
    each (x ∷ xs) b k = (without-other m x ns (apart_from m x b.0) k.0, each xs b.1 k.1)

-- what is put in print order was there
among_with : (m n : List Col) (ns : List (List Col)) → is_among m (with_mono n ns) ≡ true → is_among m (n ∷ ns) ≡ true
among_with m n [] h = h
among_with m n (x ∷ ns) h = go (mono_cmp n x) refl h (among_with m n ns)
  where
    go : (o : Ordering) → mono_cmp n x ≡ o → is_among m (match_ordering o (n ∷ x ∷ ns) (x ∷ ns) (x ∷ with_mono n ns)) ≡ true → (is_among m (with_mono n ns) ≡ true → is_among m (n ∷ ns) ≡ true) → is_among m (n ∷ x ∷ ns) ≡ true
    go Less e k ih = k
    go Equal e k ih = either (eq_by_cmp mono_cmp m n)
      where
        either : (b : Bool) → cond b true (is_among m (x ∷ ns)) ≡ true
        either true = refl
        either false = k
    go Greater e k ih = split (eq_by_cmp mono_cmp m x) (eq_by_cmp mono_cmp m n) k ih
      where
        split : (b c : Bool) → cond b true (is_among m (with_mono n ns)) ≡ true → (is_among m (with_mono n ns) ≡ true → cond c true (is_among m ns) ≡ true) → cond c true (cond b true (is_among m ns)) ≡ true
        split b true l r = refl
        split true false l r = refl
        split false false l r = r l

among_ordered : (m : List Col) (ms : List (List Col)) → is_among m (in_print_order ms) ≡ true → is_among m ms ≡ true
among_ordered m [] h = h
among_ordered m (n ∷ ms) h = go (eq_by_cmp mono_cmp m n) (among_with m n (in_print_order ms) h) (among_ordered m ms)
  where
    go : (b : Bool) → cond b true (is_among m (in_print_order ms)) ≡ true → (is_among m (in_print_order ms) ≡ true → is_among m ms ≡ true) → cond b true (is_among m ms) ≡ true
    go true k ih = refl
    go false k ih = ih k

all_among : (ms ns : List (List Col)) → ((m : List Col) → is_among m ms ≡ true → is_among m ns ≡ true) → AllByRecursion (λ m. is_among m ns ≡ true) ms
all_among [] ns f = tt
all_among (m ∷ ms) ns f = (f m (ap (λ b. cond b true (is_among m ms)) (itself m)), all_among ms ns (λ x h. f x (later x h)))
  where
    later : (x : List Col) → is_among x ms ≡ true → is_among x (m ∷ ms) ≡ true
    later x h = either (eq_by_cmp mono_cmp x m)
      where
        either : (b : Bool) → cond b true (is_among x ms) ≡ true
        either true = refl
        either false = h

-- fewer monomials give at most as many columns
pub fewer_columns : (ms ns : List (List Col)) → ((m : List Col) → is_among m ms ≡ true → is_among m ns ≡ true) → length (in_print_order ms) ≤ length (in_print_order ns)
fewer_columns ms ns f =
    among-length (in_print_order ms) (in_print_order ns) (IsOrdered-columns ms)
    (all_among (in_print_order ms) (in_print_order ns) (λ m h. is_among-in_print_order m ns (f m (among_ordered m ms h))))

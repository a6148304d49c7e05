-- Putting columns in order: the loop that puts one at its place, and what comes of it.
use Rattle.std.proofs.Common.{◌≡◌, ℕ, suc, ◌+◌, ◌-◌, ◌<◌, ◌≤◌, Bool, true, false, not, cond, List, [], ◌∷◌, ◌++◌, length, take, drop, get_or, set, fold, refl, sym, ap, ◌∙◌, arith, append_assoc, add-one}
use Rattle.std.specs.Prelude.{◌&&◌, replicate}
use Rattle.std.specs.Ordering.{is_lt, is_gt, ordering_reverse}
use Rattle.std.specs.declared.cmp.Ordering.{Ordering}
use Rattle.std.specs.declared.cmp.Ordering.TheVariants.{Less, Equal, Greater}
use Rattle.std.proofs.Math.Seq.{take-suc-set, drop-cons, take-suc}
use Rattle.std.proofs.lemmas.List.{drop-set-lt, drop-drop, drop-replicate, length-take, take-append-drop}
use Rattle.std.proofs.lemmas.List.Sums.{fold-append}
use Rattle.std.proofs.lemmas.Cmp.{upto}
use Rattle.linear_terms.specs.declared.col.Col.{Col}
use Rattle.linear_terms.specs.declared.col.Col.TheVariants.{At}
use Rattle.linear_terms.specs.Col.{col_cmp}
use Rattle.linear_terms.specs.Mono.{with_column, starts_from, is_in_order}
use Rattle.linear_terms.specs.MonoOrder.{col_cmp_total}

-- ---- one column

-- the cells before i are done, and those from i to len still take the carried column
abbrev pub so_far : List Col → ℕ → ℕ → Col → List Col
so_far cells i len carried = take i cells ++ with_column (take (len - i) (drop i cells)) carried

-- the cells at i and after, up to len
at_place : (cells : List Col) (i len : ℕ) (cell : Col) → i < len → len ≤ length cells → cell ≡ get_or cells i (At 0) → take (len - i) (drop i cells) ≡ cell ∷ take (len - (i + 1)) (drop (i + 1) cells)
at_place cells i len cell h k e =
    let shape : drop i cells ≡ cell ∷ drop (suc i) cells = drop-cons cells i (At 0) (omega arith) ∙ ap (λ c. c ∷ drop (suc i) cells) (sym e) in
    let count : len - i ≡ suc (len - (i + 1)) = omega arith in
    rw (shape, count, add-one i) refl

one_more : (cells : List Col) (i : ℕ) (cell : Col) → i < length cells → cell ≡ get_or cells i (At 0) → take (i + 1) cells ≡ take i cells ++ cell ∷ []
one_more cells i cell h e = rw (add-one i) (take-suc cells i (At 0) h ∙ ap (λ c. take i cells ++ c ∷ []) (sym e))

pub so_far-kept : (cells : List Col) (i len : ℕ) (carried cell : Col) → i < len → len ≤ length cells → cell ≡ get_or cells i (At 0) → is_lt (col_cmp carried cell) ≡ false → so_far cells i len carried ≡ so_far cells (i + 1) len carried
so_far-kept cells i len carried cell h k e test =
    let others = take (len - (i + 1)) (drop (i + 1) cells) in
    ap (λ rest. take i cells ++ with_column rest carried) (at_place cells i len cell h k e)
    ∙ ap (λ b. take i cells ++ cond b (carried ∷ with_column others cell) (cell ∷ with_column others carried)) test
    ∙ sym (append_assoc (take i cells) (cell ∷ []) (with_column others carried))
    ∙ ap (λ front. front ++ with_column others carried) (sym (one_more cells i cell (omega arith) e))

pub so_far-swapped : (cells : List Col) (i len : ℕ) (carried cell : Col) → i < len → len ≤ length cells → cell ≡ get_or cells i (At 0) → is_lt (col_cmp carried cell) ≡ true → so_far cells i len carried ≡ so_far (set cells i carried) (i + 1) len cell
so_far-swapped cells i len carried cell h k e test =
    let others = take (len - (i + 1)) (drop (i + 1) cells) in
    ap (λ rest. take i cells ++ with_column rest carried) (at_place cells i len cell h k e)
    ∙ ap (λ b. take i cells ++ cond b (carried ∷ with_column others cell) (cell ∷ with_column others carried)) test
    ∙ sym (append_assoc (take i cells) (carried ∷ []) (with_column others cell))
    ∙ ap (λ front. front ++ with_column others cell) (sym (rw (add-one i) (take-suc-set cells i carried (omega arith))))
    ∙ ap (λ rest. take (i + 1) (set cells i carried) ++ with_column (take (len - (i + 1)) rest) cell) (sym (drop-set-lt (i + 1) cells i carried (omega arith)))

-- ---- several columns

pub fold_next : (front columns : List Col) (i : ℕ) (d : Col) → i < length columns → fold with_column front (take (i + 1) columns) ≡ with_column (fold with_column front (take i columns)) (get_or columns i d)
fold_next front columns i d h =
    rw (add-one i) (ap (fold with_column front) (take-suc columns i d h) ∙ fold-append with_column front (take i columns) (get_or columns i d ∷ []))

pub drop_later : (xs ys : List Col) (n m : ℕ) → n ≤ m → drop n xs ≡ drop n ys → drop m xs ≡ drop m ys
drop_later xs ys n m h e =
    let split : m ≡ n + (m - n) = omega arith in
    rw split (sym (drop-drop (m - n) n xs) ∙ ap (drop (m - n)) e ∙ drop-drop (m - n) n ys)

-- ---- what comes of it is in order

both : (a b : Bool) → a && b ≡ true → (a ≡ true) × (b ≡ true)
both true b e = (refl, e)
both false b e = cc

joined : (a b : Bool) → a ≡ true → b ≡ true → a && b ≡ true
joined a b e f = rw (e, f) refl

not_gt : (o : Ordering) → not (is_gt o) ≡ true → is_gt o ≡ false
not_gt Less e = refl
not_gt Equal e = refl
not_gt Greater e = cc

lt_not_gt : (o : Ordering) → is_lt o ≡ true → is_gt o ≡ false
lt_not_gt Less e = refl
lt_not_gt Equal e = cc
lt_not_gt Greater e = cc

-- a column that is not before another is at or after it
turned : (x y : Col) → is_lt (col_cmp x y) ≡ false → is_gt (col_cmp y x) ≡ false
turned x y e = ap is_gt (col_cmp_total.antisymm y x) ∙ back (col_cmp x y) e
  where
    back : (o : Ordering) → is_lt o ≡ false → is_gt (ordering_reverse o) ≡ false
    back Less e = cc
    back Equal e = refl
    back Greater e = refl

starts-placed : (x c : Col) (m : List Col) → is_gt (col_cmp x c) ≡ false → starts_from x m ≡ true → starts_from x (with_column m c) ≡ true
starts-placed x c [] h k = ap not h
starts-placed x c (d ∷ m) h k = go (is_lt (col_cmp c d))
  where
    go : (b : Bool) → starts_from x (cond b (c ∷ with_column m d) (d ∷ with_column m c)) ≡ true
    go true = ap not h
    go false = k

starts-earlier : (x y : Col) (m : List Col) → is_gt (col_cmp x y) ≡ false → starts_from y m ≡ true → starts_from x m ≡ true
starts-earlier x y [] h k = refl
starts-earlier x y (d ∷ m) h k = ap not (upto col_cmp_total x y d h (not_gt (col_cmp y d) k))

in_order-placed : (m : List Col) (c : Col) → is_in_order m ≡ true → is_in_order (with_column m c) ≡ true
in_order-placed [] c e = refl
in_order-placed (d ∷ m) c e = go (is_lt (col_cmp c d)) refl (both (starts_from d m) (is_in_order m) e) (in_order-placed m d) (in_order-placed m c)
  where
    go : (b : Bool) → is_lt (col_cmp c d) ≡ b → (starts_from d m ≡ true) × (is_in_order m ≡ true) → (is_in_order m ≡ true → is_in_order (with_column m d) ≡ true) → (is_in_order m ≡ true → is_in_order (with_column m c) ≡ true) → is_in_order (cond b (c ∷ with_column m d) (d ∷ with_column m c)) ≡ true
    go true test p f g =
        let before = lt_not_gt (col_cmp c d) test in
        joined (starts_from c (with_column m d)) (is_in_order (with_column m d)) (starts-placed c d m before (starts-earlier c d m before p.0)) (f p.1)
    go false test p f g =
        joined (starts_from d (with_column m c)) (is_in_order (with_column m c)) (starts-placed d c m (turned c d test) p.0) (g p.1)

pub in_order-fold : (front columns : List Col) → is_in_order front ≡ true → is_in_order (fold with_column front columns) ≡ true
in_order-fold front [] e = e
in_order-fold front (c ∷ columns) e = in_order-fold (with_column front c) columns (in_order-placed front c e)

-- ---- the fields of a monomial that was made so

pub length-front : (n : ℕ) (cells : List Col) → length cells ≡ 4 → n ≤ 4 → length (take n cells) ≡ n
length-front n cells e h = omega (arith, length-take n cells, e)

pub unused_cells : (n : ℕ) (cells : List Col) → drop n cells ≡ drop n (replicate 4 (At 0)) → cells ≡ take n cells ++ replicate (4 - n) (At 0)
unused_cells n cells e = sym (take-append-drop n cells) ∙ ap (λ rest. take n cells ++ rest) (e ∙ drop-replicate n 4 (At 0))

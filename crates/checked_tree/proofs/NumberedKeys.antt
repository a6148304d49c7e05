-- Keys with numbers: what one operation more does to the paths of numbers.
use Rattle.std.proofs.Common.{◌≡◌, ℕ, zero, suc, Bool, true, false, cond, List, [], ◌∷◌, ◌++◌, length, take, refl, sym, ◌∙◌, ap, subst, eqb-true, Ok, Err, Some}
use Rattle.std.specs.Prelude.{Result, IfOk, OnOk, OnErr}
use Rattle.std.specs.List.{slice_get, list_any}
use Rattle.std.proofs.lemmas.Bool.{and_parts}
use Rattle.std.proofs.lemmas.List.{append-nil}
use Rattle.path_expr.specs.PathExpr.{PathExpr, Zero, One, Edge, Seq, Join, Star}
use Rattle.checked_tree.specs.declared.key.Key.{Key}
use Rattle.checked_tree.specs.declared.key.Key.TheVariants as key
use Rattle.checked_tree.specs.contracts.key.KeyPartialEq.TheImpl as keys
use Rattle.path_expr.specs.declared.cell.Cell.{Cell}
use Rattle.path_expr.specs.declared.cell.Cell.TheVariants as known
use Rattle.path_expr.specs.Holds.{IsWay}
use Rattle.checked_tree.specs.Plan.{IsPathOf, ArePathsOf, HasNoted, IsCellOf}

abbrev pub key_eq : Key → Key → Bool
key_eq = keys.eq-value.it

pub key_same : (x y : Key) → key_eq x y ≡ true → x ≡ y
key_same (key.Edge a) (key.Edge b) e = ap (λ n. key.Edge n) (eqb-true a b e)
key_same (key.Seq a b) (key.Seq c d) e =
    let parts = and_parts _ _ e in
    let first = eqb-true a c parts.0 in
    let second = eqb-true b d parts.1 in
    λ i. key.Seq (first i) (second i)
key_same (key.Join a b) (key.Join c d) e =
    let parts = and_parts _ _ e in
    let first = eqb-true a c parts.0 in
    let second = eqb-true b d parts.1 in
    λ i. key.Join (first i) (second i)
key_same (key.Star a) (key.Star b) e = ap (λ n. key.Star n) (eqb-true a b e)
key_same x y e = cc

slice_get-more : (xs more : List Key) (n : ℕ) (k : Key) → slice_get xs n ≡ Some k → slice_get (xs ++ more) n ≡ Some k
slice_get-more [] more n k e = absurd (none n e)
  where
    none : (n : ℕ) → slice_get [] n ≡ Some k → ⊥
    none n e = cc
slice_get-more (x ∷ xs) more zero k e = e
slice_get-more (x ∷ xs) more (suc n) k e = slice_get-more xs more n k e

pub path-more : (xs more : List Key) (p : PathExpr) (n : ℕ) → IsPathOf xs p n → IsPathOf (xs ++ more) p n
path-more xs more Zero n h = h
path-more xs more One n h = h
path-more xs more (Edge k) n h = slice_get-more xs more n (key.Edge k) h
path-more xs more (Seq a b) n h = (h.0, h.1, slice_get-more xs more n (key.Seq h.0 h.1) h.2, path-more xs more a h.0 h.3, path-more xs more b h.1 h.4)
path-more xs more (Join a b) n h = (h.0, h.1, slice_get-more xs more n (key.Join h.0 h.1) h.2, path-more xs more a h.0 h.3, path-more xs more b h.1 h.4)
path-more xs more (Star a) n h = (h.0, slice_get-more xs more n (key.Star h.0) h.1, path-more xs more a h.0 h.2)

paths-more : (xs more : List Key) (ps : List PathExpr) (ns : List ℕ) → ArePathsOf xs ps ns → ArePathsOf (xs ++ more) ps ns
paths-more xs more [] [] h = tt
paths-more xs more (p ∷ ps) (n ∷ ns) h = (path-more xs more p n h.0, paths-more xs more ps ns h.1)
paths-more xs more [] (n ∷ ns) h = h
paths-more xs more (p ∷ ps) [] h = h

paths-last : (xs : List Key) (ps : List PathExpr) (ns : List ℕ) (p : PathExpr) (n : ℕ) → ArePathsOf xs ps ns → IsPathOf xs p n → ArePathsOf xs (ps ++ p ∷ []) (ns ++ n ∷ [])
paths-last xs [] [] p n h k = (k, tt)
paths-last xs (q ∷ ps) (m ∷ ns) p n h k = (h.0, paths-last xs ps ns p n h.1 k)
paths-last xs [] (m ∷ ns) p n h k = absurd h
paths-last xs (q ∷ ps) [] p n h k = absurd h

-- ---- one key is inserted

cond_more : (b : Bool) (old : List Key) (k : Key) → (more : List Key) × (cond b old (old ++ k ∷ []) ≡ old ++ more)
cond_more true old k = ([], sym (append-nil old))
cond_more false old k = (k ∷ [], refl)

pub noted-of : (old new : List Key) (before after : List ℕ) (k : Key) (n : ℕ) → new ≡ cond (list_any (key_eq k) old) old (old ++ k ∷ []) →
    (x : Key) × (slice_get new n ≡ Some x) × (key_eq k x ≡ true) → after ≡ before ++ n ∷ [] → HasNoted old new before after k n
noted-of old new before after k n inserted stored pushed =
    let extended = cond_more (list_any (key_eq k) old) old k in
    record {
      more = extended.0;
      keys = inserted ∙ extended.1;
      is = stored.1 ∙ ap (λ x. Some x) (sym (key_same k stored.0 stored.2));
      order = pushed;
    }

take-all : (xs ys : List Key) → take (length xs) (xs ++ ys) ≡ xs
take-all [] ys = refl
take-all (x ∷ xs) ys = ap (λ zs. x ∷ zs) (take-all xs ys)

pub taken-back : (old new cut : List Key) (k : Key) (count : ℕ) → count ≡ length old → new ≡ cond (list_any (key_eq k) old) old (old ++ k ∷ []) → cut ≡ take count new → cut ≡ old
taken-back old new cut k count counted inserted taken =
    let extended = cond_more (list_any (key_eq k) old) old k in
    taken ∙ (λ i. take (counted i) ((inserted ∙ extended.1) i)) ∙ take-all old extended.0

-- ---- what a call of it does

module _ (old new : List Key) (before after : List ℕ) (k : Key) where
  pub path-kept : {E : Type 0} (r : Result ℕ E) → IfOk r (λ n. HasNoted old new before after k n) → OnErr r (new ≡ old) → (p : PathExpr) (m : ℕ) → IsPathOf old p m → IsPathOf new p m
  path-kept (Ok n) noted same p m h = subst (λ xs. IsPathOf xs p m) (sym noted.keys) (path-more old noted.more p m h)
  path-kept (Err e) noted same p m h = subst (λ xs. IsPathOf xs p m) (sym same) h

  pub paths-made : {E : Type 0} (r : Result ℕ E) → IfOk r (λ n. HasNoted old new before after k n) → (p : PathExpr) → IfOk r (λ n. IsPathOf new p n) → (done : List PathExpr) →
      ArePathsOf old done before → OnOk r (ArePathsOf new (done ++ p ∷ []) after)
  paths-made (Err e) noted p is done h = tt
  paths-made (Ok n) noted p is done h =
      subst (ArePathsOf new (done ++ p ∷ [])) (sym noted.order)
      (paths-last new done before p n (subst (λ xs. ArePathsOf xs done before) (sym noted.keys) (paths-more old noted.more done before h)) is)

pub edge-path : {E : Type 0} (old new : List Key) (before after : List ℕ) (number : ℕ) (r : Result ℕ E) → IfOk r (λ n. HasNoted old new before after (key.Edge number) n) → IfOk r (λ n. IsPathOf new (Edge number) n)
edge-path old new before after number (Ok n) noted = noted.is
edge-path old new before after number (Err e) noted = tt

module _ (old new : List Key) (before after : List ℕ) (i j : ℕ) where
  pub seq-path : {E : Type 0} (r : Result ℕ E) → IfOk r (λ n. HasNoted old new before after (key.Seq i j) n) → (p q : PathExpr) → IsPathOf old p i → IsPathOf old q j → IfOk r (λ n. IsPathOf new (Seq p q) n)
  seq-path (Err e) noted p q h l = tt
  seq-path (Ok n) noted p q h l =
      (i, j, noted.is, subst (λ xs. IsPathOf xs p i) (sym noted.keys) (path-more old noted.more p i h), subst (λ xs. IsPathOf xs q j) (sym noted.keys) (path-more old noted.more q j l))

  pub join-path : {E : Type 0} (r : Result ℕ E) → IfOk r (λ n. HasNoted old new before after (key.Join i j) n) → (p q : PathExpr) → IsPathOf old p i → IsPathOf old q j → IfOk r (λ n. IsPathOf new (Join p q) n)
  join-path (Err e) noted p q h l = tt
  join-path (Ok n) noted p q h l =
      (i, j, noted.is, subst (λ xs. IsPathOf xs p i) (sym noted.keys) (path-more old noted.more p i h), subst (λ xs. IsPathOf xs q j) (sym noted.keys) (path-more old noted.more q j l))

pub star-path : {E : Type 0} (old new : List Key) (before after : List ℕ) (i : ℕ) (r : Result ℕ E) → IfOk r (λ n. HasNoted old new before after (key.Star i) n) → (p : PathExpr) → IsPathOf old p i →
    IfOk r (λ n. IsPathOf new (Star p) n)
star-path old new before after i (Err e) noted p h = tt
star-path old new before after i (Ok n) noted p h = (i, noted.is, subst (λ xs. IsPathOf xs p i) (sym noted.keys) (path-more old noted.more p i h))

-- ---- the whole plan

pub cell-of : {A : Type 0} (fits : A → PathExpr → ℕ → Type 0) (spans : A → ℕ → ℕ → ℕ → Type 0) (a : A) (xs : List Key) (path : PathExpr) (cell : Cell ℕ) (from to : ℕ) →
    ((p : PathExpr) (n : ℕ) → fits a p n → IsPathOf xs p n) → IsWay fits spans a path cell from to → IsCellOf xs path cell
cell-of fits spans a xs path known.Zero from to tells h = h
cell-of fits spans a xs path known.One from to tells h = h.0
cell-of fits spans a xs path (known.Item n) from to tells h = tells path n h.fitting

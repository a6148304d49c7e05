-- A write to a sparse table changes one cell.
use Rattle.std.proofs.Common.{◌≡◌, ℕ, zero, suc, ◌<◌, ◌≤◌, Bool, true, false, cond, ◌&&◌, eqb, leb, List, [], ◌∷◌, ◌++◌, length, set, Option, Some, None, refl, sym, ◌∙◌, ap, subst, inl, inr, ◌⊎◌, arith, eq-eqb}
use Rattle.std.specs.List.{slice_get}
use Rattle.std.specs.Prelude.{IsSome, IfSome, Result, Ok, Err, OnOk}
use Rattle.std.specs.Ordering.{nat_cmp, is_eq, is_gt, MatchOrdering}
use Rattle.std.specs.declared.cmp.Ordering.TheVariants.{Less, Equal}
use Rattle.std.specs.declared.ops.Bound.TheVariants.{Included, Excluded}
use Rattle.std.specs.Cmp.{nat_cmp_is, ranks}
use Rattle.std.specs.BTreeMap.{get, BTreeMap, Updates}
use Rattle.std.specs.BTreeMap.Range.{IsRangeOf, IsInRange, IsEntryInRange}
use Rattle.std.proofs.lemmas.Bool.{cases_eq, cases_lt, le-leb, lt-leb, ne_eqb, and_left, cond-true, cond-false}
use Rattle.std.proofs.lemmas.Bool.Decides.{nat_tests}
use Rattle.std.proofs.lemmas.Map.Keys.{le_from_not_gt}
use Rattle.path_expr.specs.Table.{row_entry, entry, cell, IsNext}
use Rattle.path_expr.specs.declared.table.Table.{Table}
use Rattle.path_expr.specs.declared.rows.Rows.{Rows}

pub slice_get-set_same : {X : Type 0} (xs : List X) (r : ℕ) (x : X) → r < length xs → slice_get (set xs r x) r ≡ Some x
slice_get-set_same [] r x h = absurd (omega arith)
slice_get-set_same (y ∷ xs) zero x h = refl
slice_get-set_same (y ∷ xs) (suc r) x h = slice_get-set_same xs r x (omega arith)

pub slice_get-set_other : {X : Type 0} (xs : List X) (r i : ℕ) (x : X) → (i ≡ r → ⊥) → slice_get (set xs r x) i ≡ slice_get xs i
slice_get-set_other [] r i x ne = refl
slice_get-set_other (y ∷ xs) zero zero x ne = absurd (ne refl)
slice_get-set_other (y ∷ xs) zero (suc i) x ne = refl
slice_get-set_other (y ∷ xs) (suc r) zero x ne = refl
slice_get-set_other (y ∷ xs) (suc r) (suc i) x ne = slice_get-set_other xs r i x (λ e. ne (ap suc e))

-- a lookup by the order of numbers is one by equality
is_at-nat : (c j : ℕ) → is_eq (nat_cmp c j) ≡ eqb j c
is_at-nat c j = grind (arith, nat_tests)

pub row_entry-set : {T : Type 0} (rows : List (BTreeMap ℕ T)) (r c : ℕ) (old new : BTreeMap ℕ T) (v : Option T) →
    slice_get rows r ≡ Some old → r < length rows → Updates nat_cmp old new c v → (i j : ℕ) →
    row_entry (slice_get (set rows r new) i) j ≡ cond (eqb i r && eqb j c) v (row_entry (slice_get rows i) j)
row_entry-set rows r c old new v is lt u i j = cases (cases_eq i r)
  where
    same : (b : Bool) → eqb i r ≡ true → row_entry (slice_get (set rows r new) r) j ≡ cond (eqb i r && eqb j c) v (row_entry (slice_get rows r) j)
    same b e =
        ap (λ o. row_entry o j) (slice_get-set_same rows r new lt)
        ∙ (u.0 j ∙ (ap (λ t. cond t v (get nat_cmp old j)) (is_at-nat c j)
        ∙ (ap (λ t. cond (t && eqb j c) v (get nat_cmp old j)) (sym e)
        ∙ ap (λ o. cond (eqb i r && eqb j c) v (row_entry o j)) (sym is))))

    cases : (i ≡ r) ⊎ (i ≡ r → ⊥) → row_entry (slice_get (set rows r new) i) j ≡ cond (eqb i r && eqb j c) v (row_entry (slice_get rows i) j)
    cases (inl e) = subst (λ x. row_entry (slice_get (set rows r new) x) j ≡ cond (eqb i r && eqb j c) v (row_entry (slice_get rows x) j)) (sym e)
        (same true (eq-eqb i r e))
    cases (inr ne) =
        ap (λ o. row_entry o j) (slice_get-set_other rows r i new ne)
        ∙ sym (cond-false (eqb i r && eqb j c) v (row_entry (slice_get rows i) j) (and_left (eqb i r) (eqb j c) (ne_eqb i r ne)))

-- one more empty row
pub row_entry-push : {T : Type 0} (rows : List (BTreeMap ℕ T)) (row : BTreeMap ℕ T) → ((j : ℕ) → get nat_cmp row j ≡ None) →
    ((i j : ℕ) → row_entry (slice_get rows i) j ≡ None) → (i j : ℕ) → row_entry (slice_get (rows ++ row ∷ []) i) j ≡ None
row_entry-push [] row empty h zero j = empty j
row_entry-push [] row empty h (suc i) j = refl
row_entry-push (r ∷ rows) row empty h zero j = h 0 j
row_entry-push (r ∷ rows) row empty h (suc i) j = row_entry-push rows row empty (λ k l. h (suc k) l) i j

-- what a place of a list below its end holds
pub slice_get_some : {X : Type 0} (xs : List X) (k : ℕ) → k < length xs → (x : X) × (slice_get xs k ≡ Some x)
slice_get_some [] k h = absurd (omega arith)
slice_get_some (x ∷ xs) zero h = (x, refl)
slice_get_some (x ∷ xs) (suc k) h = slice_get_some xs k (omega arith)

-- what a list holds when one more is pushed
pub slice_get-push : {X : Type 0} (xs : List X) (y : X) (k : ℕ) (x : X) → slice_get (xs ++ y ∷ []) k ≡ Some x →
    (slice_get xs k ≡ Some x) ⊎ ((k ≡ length xs) × (y ≡ x))
slice_get-push [] y zero x e = inr (refl, cc)
slice_get-push [] y (suc k) x e = inl e
slice_get-push (z ∷ xs) y zero x e = inl e
slice_get-push (z ∷ xs) y (suc k) x e = shift (slice_get-push xs y k x e)
  where
    shift : (slice_get xs k ≡ Some x) ⊎ ((k ≡ length xs) × (y ≡ x)) → (slice_get xs k ≡ Some x) ⊎ ((suc k ≡ suc (length xs)) × (y ≡ x))
    shift (inl f) = inl f
    shift (inr p) = inr (ap suc p.0, p.1)

-- the first key of a range of an ordered map is the next one that holds something
module _ {T : Type 0} (map : BTreeMap ℕ T) (from end : ℕ) (found : List (ℕ × T)) (h : IsRangeOf nat_cmp (Included from) (Excluded end) map found) where
  in_range : (k : ℕ) → from ≤ k → k < end → IsInRange nat_cmp (Included from) (Excluded end) k
  in_range k le lt = (not_gt (cases_lt from k), sym (nat_cmp_is k end Less lt))
    where
      not_gt : (from < k) ⊎ (k ≤ from) → is_gt (nat_cmp from k) ≡ false
      not_gt (inl less) = ap is_gt (sym (nat_cmp_is from k Less less))
      not_gt (inr more) = ap is_gt (sym (nat_cmp_is from k Equal (let e : from ≡ k = omega arith in e)))

  pub next-none : found ≡ [] → IsNext (get nat_cmp map) from end None
  next-none e = λ k le lt. h.5 e k (in_range k le lt)

  pub next-some : (next : ℕ) (v : T) (rest : List (ℕ × T)) → found ≡ (next, v) ∷ rest → IsNext (get nat_cmp map) from end (Some next)
  next-some next v rest e = (
    le_from_not_gt from next here.0.0,
    lt,
    (let some : IsSome (Some v) = refl in subst (λ o. IsSome o) (sym here.1) some),
    λ k le less. none k le less (get nat_cmp map k) refl,
  )
    where
      first : slice_get found 0 ≡ Some (next, v)
      first = ap (λ es. slice_get es 0) e

      here : IsEntryInRange nat_cmp (Included from) (Excluded end) map (next, v)
      here = subst (λ o. IfSome o (IsEntryInRange nat_cmp (Included from) (Excluded end) map)) first h.1

      lt : next < end
      lt = subst (λ r. MatchOrdering r (next < end) (next ≡ end) (end < next)) here.0.1 (ranks next end)

      none : (k : ℕ) → from ≤ k → k < next → (o : Option T) → get nat_cmp map k ≡ o → get nat_cmp map k ≡ None
      none k le less None f = f
      none k le less (Some w) f =
          let above : IfSome (slice_get found 0) (λ (x : ℕ × T). is_gt (nat_cmp x.0 k) ≡ false) = h.2 k (in_range k le (omega (arith, lt))) (let some : IsSome (Some w) = refl in subst (λ o. IsSome o) (sym f) some) in
          let gt : is_gt (nat_cmp next k) ≡ false = subst (λ o. IfSome o (λ (x : ℕ × T). is_gt (nat_cmp x.0 k) ≡ false)) first above in
          absurd (let m = le_from_not_gt next k gt in omega arith)

-- a row that is not there holds nothing
pub next-absent : {T : Type 0} (rows : List (BTreeMap ℕ T)) (row from end : ℕ) → slice_get rows row ≡ None →
    IsNext (λ j. row_entry (slice_get rows row) j) from end None
next-absent rows row from end e = λ k le lt. ap (λ o. row_entry o k) e

-- a cell in its row
pub cell-into : {T : Type 0} (table : Table T) (i j : ℕ) → i ≤ j → cell table i j ≡ entry table.into j i
unfolding cell
cell-into table i j le = cond-true (leb i j) (entry table.into j i) (entry table.out i j) (le-leb i j le)

pub cell-out : {T : Type 0} (table : Table T) (i j : ℕ) → j < i → cell table i j ≡ entry table.out i j
unfolding cell
cell-out table i j lt = cond-false (leb i j) (entry table.into j i) (entry table.out i j) (lt-leb i j lt)

-- a write to a row is a write to one cell
pub cell-write_into : {T : Type 0} (old new : Table T) (r c : ℕ) (v : Option T) → r ≤ c → new.out ≡ old.out →
    ((a b : ℕ) → entry new.into a b ≡ cond (eqb a c && eqb b r) v (entry old.into a b)) → (i j : ℕ) →
    cell new i j ≡ cond (eqb i r && eqb j c) v (cell old i j)
cell-write_into old new r c v le same w i j = at (cases_lt j i)
  where
    swap : (a b : Bool) → (a && b) ≡ (b && a)
    swap true true = refl
    swap true false = refl
    swap false true = refl
    swap false false = refl

    at : (j < i) ⊎ (i ≤ j) → cell new i j ≡ cond (eqb i r && eqb j c) v (cell old i j)
    at (inr up) = cell-into new i j up ∙ (w j i ∙ (ap (λ b. cond b v (entry old.into j i)) (swap (eqb j c) (eqb i r))
        ∙ ap (cond (eqb i r && eqb j c) v) (sym (cell-into old i j up))))
    at (inl down) = cell-out new i j down ∙ (ap (λ x. entry x i j) same ∙ (sym (cell-out old i j down)
        ∙ sym (cond-false (eqb i r && eqb j c) v (cell old i j) (apart (cases_eq i r)))))
      where
        apart : (i ≡ r) ⊎ (i ≡ r → ⊥) → (eqb i r && eqb j c) ≡ false
        apart (inl e) = ap (λ b. eqb i r && b) (ne_eqb j c (omega arith)) ∙ swap (eqb i r) false
        apart (inr ne) = and_left (eqb i r) (eqb j c) (ne_eqb i r ne)

pub cell-write_out : {T : Type 0} (old new : Table T) (r c : ℕ) (v : Option T) → c < r → new.into ≡ old.into →
    ((a b : ℕ) → entry new.out a b ≡ cond (eqb a r && eqb b c) v (entry old.out a b)) → (i j : ℕ) →
    cell new i j ≡ cond (eqb i r && eqb j c) v (cell old i j)
cell-write_out old new r c v lt same w i j = at (cases_lt j i)
  where
    and-false : (b : Bool) → (b && false) ≡ false
    and-false true = refl
    and-false false = refl

    at : (j < i) ⊎ (i ≤ j) → cell new i j ≡ cond (eqb i r && eqb j c) v (cell old i j)
    at (inl down) = cell-out new i j down ∙ (w i j ∙ ap (cond (eqb i r && eqb j c) v) (sym (cell-out old i j down)))
    at (inr up) = cell-into new i j up ∙ (ap (λ x. entry x j i) same ∙ (sym (cell-into old i j up)
        ∙ sym (cond-false (eqb i r && eqb j c) v (cell old i j) (apart (cases_eq i r)))))
      where
        apart : (i ≡ r) ⊎ (i ≡ r → ⊥) → (eqb i r && eqb j c) ≡ false
        apart (inl e) = ap (λ b. eqb i r && b) (ne_eqb j c (omega arith)) ∙ and-false (eqb i r)
        apart (inr ne) = and_left (eqb i r) (eqb j c) (ne_eqb i r ne)

-- the next place of a column up to its own, and of a row
pub IsNext-as : {T : Type 0} (f g : ℕ → Option T) (from end : ℕ) (o : Option ℕ) → ((k : ℕ) → k < end → f k ≡ g k) → IsNext f from end o → IsNext g from end o
IsNext-as f g from end None same h = λ k le lt. sym (same k lt) ∙ h k le lt
IsNext-as f g from end (Some next) same h =
    (h.0, h.1, subst (λ o. IsSome o) (same next h.1) h.2, λ k le lt. sym (same k (let b = h.1 in omega arith)) ∙ h.3 k le lt)

pub cell-none : {T : Type 0} (into out : Rows T) → ((i j : ℕ) → entry into i j ≡ None) → ((i j : ℕ) → entry out i j ≡ None) → (i j : ℕ) →
    cell (record { into = into; out = out }) i j ≡ None
cell-none {T} into out h k i j = at (cases_lt j i)
  where
    table : Table T
    table = record { into = into; out = out }

    at : (j < i) ⊎ (i ≤ j) → cell table i j ≡ None
    at (inr up) = cell-into table i j up ∙ h j i
    at (inl down) = cell-out table i j down ∙ k i j

pub OnOk-map : {X E : Type 0} {P Q : Type 0} (r : Result X E) → (P → Q) → OnOk r P → OnOk r Q
OnOk-map (Ok x) f h = f h
OnOk-map (Err e) f h = tt

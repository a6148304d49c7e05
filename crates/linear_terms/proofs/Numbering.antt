-- New numbers that keep the order of the auxiliaries keep print order.
use Rattle.std.proofs.Common.{◌≡◌, ℕ, zero, suc, ℤ, ◌<◌, ◌||◌, Bool, true, false, List, [], ◌∷◌, length, map, get_or, refl, sym, ap, subst, ◌∙◌, arith}
use Rattle.std.specs.Prelude.{IsTrue, not, ◌&&◌, ◌==◌}
use Rattle.std.specs.Cmp.{nat_cmp_is}
use Rattle.std.specs.Cmp.Lexicographic.{slice_cmp}
use Rattle.std.specs.List.{AllByRecursion, list_any}
use Rattle.std.specs.Ordering.{nat_cmp, ordering_then, is_gt, MatchOrdering}
use Rattle.std.specs.declared.cmp.Ordering.{Ordering}
use Rattle.std.specs.declared.cmp.Ordering.TheVariants.{Less, Equal, Greater}
use Rattle.std.proofs.lemmas.Bool.Decides.{Decides-eqb}
use Rattle.std.proofs.lemmas.Cmp.{ranked}
use Rattle.std.proofs.lemmas.List.{length-map}
use Rattle.linear_terms.specs.declared.col.Col.{Col}
use Rattle.linear_terms.specs.declared.col.Col.TheVariants.{At, Aux}
use Rattle.linear_terms.specs.Auxiliaries.{has_auxiliary, renumbered_column, KeepsOrder}
use Rattle.linear_terms.specs.Col.{col_cmp}
use Rattle.linear_terms.specs.Mono.{mono_cmp, starts_from, is_in_order}
use Rattle.linear_terms.specs.Polynomial.{Terms, IsCanonical}
use Rattle.linear_terms.proofs.Canonical.{Before, IsCanonical-nil, IsCanonical-cons, IsCanonical-tail, first_before, first_some}
use Rattle.linear_terms.proofs.Columns.{EachColumn}

-- the auxiliaries with the property keep their order
pub record Keeps (number : ℕ → ℕ) (occ : ℕ → Type 0) : Type 0 where
  pub order : (m n : ℕ) → occ m → occ n → m < n → number m < number n

-- the column is no auxiliary, or one with the property
abbrev pub Occurring : (ℕ → Type 0) → Col → Type 0
Occurring occ (At n) = Unit {0}
Occurring occ (Aux n) = occ n

abbrev pub renumbered_terms : (ℕ → ℕ) → Terms → Terms
renumbered_terms number ts = map (λ t. (map (renumbered_column number) t.0, t.1)) ts

module _ (number : ℕ → ℕ) (occ : ℕ → Type 0) (keeps : Keeps number occ) where
  nat_cmp-kept : (a b : ℕ) → occ a → occ b → nat_cmp (number a) (number b) ≡ nat_cmp a b
  nat_cmp-kept a b h k = go (nat_cmp a b) (ranked a b (nat_cmp a b) refl)
    where
      go : (r : Ordering) → MatchOrdering r (a < b) (a ≡ b) (b < a) → nat_cmp (number a) (number b) ≡ r
      go Less lt = sym (nat_cmp_is (number a) (number b) Less (keeps.order a b h k lt))
      go Equal e = sym (nat_cmp_is (number a) (number b) Equal (ap number e))
      go Greater gt = sym (nat_cmp_is (number a) (number b) Greater (keeps.order b a k h gt))

  col_cmp-kept : (c d : Col) → Occurring occ c → Occurring occ d → col_cmp (renumbered_column number c) (renumbered_column number d) ≡ col_cmp c d
  col_cmp-kept (At a) (At b) h k = refl
  col_cmp-kept (At a) (Aux b) h k = refl
  col_cmp-kept (Aux a) (At b) h k = refl
  col_cmp-kept (Aux a) (Aux b) h k = nat_cmp-kept a b h k

  starts_from-kept : (c : Col) (m : List Col) → Occurring occ c → AllByRecursion (Occurring occ) m → starts_from (renumbered_column number c) (map (renumbered_column number) m) ≡ starts_from c m
  starts_from-kept c [] h k = refl
  starts_from-kept c (d ∷ m) h k = ap (λ o. not (is_gt o)) (col_cmp-kept c d h k.0)

  pub is_in_order-kept : (m : List Col) → AllByRecursion (Occurring occ) m → is_in_order (map (renumbered_column number) m) ≡ is_in_order m
  is_in_order-kept [] h = refl
  is_in_order-kept (c ∷ m) h = λ i. starts_from-kept c m h.0 h.1 i && is_in_order-kept m h.1 i

  slice_cmp-kept : (m n : List Col) → AllByRecursion (Occurring occ) m → AllByRecursion (Occurring occ) n → slice_cmp col_cmp (map (renumbered_column number) m) (map (renumbered_column number) n) ≡ slice_cmp col_cmp m n
  slice_cmp-kept [] [] h k = refl
  slice_cmp-kept [] (d ∷ n) h k = refl
  slice_cmp-kept (c ∷ m) [] h k = refl
  slice_cmp-kept (c ∷ m) (d ∷ n) h k = λ i. ordering_then (col_cmp-kept c d h.0 k.0 i) (slice_cmp-kept m n h.1 k.1 i)

  mono_cmp-kept : (m n : List Col) → AllByRecursion (Occurring occ) m → AllByRecursion (Occurring occ) n → mono_cmp (map (renumbered_column number) m) (map (renumbered_column number) n) ≡ mono_cmp m n
  mono_cmp-kept m n h k = λ i. ordering_then (nat_cmp (length-map n (renumbered_column number) i) (length-map m (renumbered_column number) i)) (slice_cmp-kept m n h k i)

  Before-kept : (m : List Col) (ts : Terms) → AllByRecursion (Occurring occ) m → EachColumn (Occurring occ) ts → Before m ts → Before (map (renumbered_column number) m) (renumbered_terms number ts)
  Before-kept m [] h k b = tt
  Before-kept m (t ∷ ts) h k b = (mono_cmp-kept m t.0 h k.0 ∙ b.0, Before-kept m ts h k.1 b.1)

  pub IsCanonical-renumbered : (ts : Terms) → EachColumn (Occurring occ) ts → IsCanonical ts → IsCanonical (renumbered_terms number ts)
  IsCanonical-renumbered [] h k = IsCanonical-nil
  IsCanonical-renumbered (t ∷ ts) h k =
      IsCanonical-cons (map (renumbered_column number) t.0, t.1) (renumbered_terms number ts) (Before-kept t.0 ts h.0 h.1 (first_before t ts k)) (first_some t ts k) (IsCanonical-renumbered ts h.1 (IsCanonical-tail t ts k))

-- ---- what occurs

or_left : (a b : Bool) → IsTrue a → IsTrue (a || b)
or_left true b h = refl
or_left false b h = cc

or_right : (a b : Bool) → IsTrue b → IsTrue (a || b)
or_right true b h = refl
or_right false b h = h

pub columns_occur : (occ : ℕ → Type 0) (m : List Col) → ((n : ℕ) → IsTrue (has_auxiliary n m) → occ n) → AllByRecursion (Occurring occ) m
columns_occur occ [] tells = tt
columns_occur occ (At a ∷ m) tells = (tt, columns_occur occ m (λ n h. tells n (or_right false (has_auxiliary n m) h)))
columns_occur occ (Aux a ∷ m) tells =
    (tells a (or_left (a == a) (has_auxiliary a m) ((Decides-eqb a a).1 refl)), columns_occur occ m (λ n h. tells n (or_right (a == n) (has_auxiliary n m) h)))

pub terms_occur : (occ : ℕ → Type 0) (ts : Terms) → ((n : ℕ) → IsTrue (list_any (λ t. has_auxiliary n t.0) ts) → occ n) → EachColumn (Occurring occ) ts
terms_occur occ [] tells = tt
terms_occur occ (t ∷ ts) tells =
    (columns_occur occ t.0 (λ n h. tells n (or_left (has_auxiliary n t.0) (list_any (λ u. has_auxiliary n u.0) ts) h)), terms_occur occ ts (λ n h. tells n (or_right (has_auxiliary n t.0) (list_any (λ u. has_auxiliary n u.0) ts) h)))

-- ---- for the code

pub mono_numbered : (number : ℕ → ℕ) (m : List Col) → KeepsOrder number (λ n. has_auxiliary n m) → IsTrue (is_in_order m) → IsTrue (is_in_order (map (renumbered_column number) m))
mono_numbered number m order ordered =
    let keeps : Keeps number (λ n. IsTrue (has_auxiliary n m)) = record { order = order } in
    is_in_order-kept number (λ n. IsTrue (has_auxiliary n m)) keeps m (columns_occur (λ n. IsTrue (has_auxiliary n m)) m (λ n h. h)) ∙ ordered

pub terms_numbered : (number : ℕ → ℕ) (ts : Terms) → KeepsOrder number (λ n. list_any (λ t. has_auxiliary n t.0) ts) → IsCanonical ts → IsCanonical (renumbered_terms number ts)
terms_numbered number ts order canonical =
    let occ : ℕ → Type 0 = λ n. IsTrue (list_any (λ t. has_auxiliary n t.0) ts) in
    let keeps : Keeps number occ = record { order = order } in
    IsCanonical-renumbered number occ keeps ts (terms_occur occ ts (λ n h. h)) canonical

-- an auxiliary of an item is one of the list
pub has_item : (ts : Terms) (i n : ℕ) (d t : List Col × ℤ) → i < length ts → t ≡ get_or ts i d → IsTrue (has_auxiliary n t.0) → IsTrue (list_any (λ t. has_auxiliary n t.0) ts)
has_item [] i n d t lt e h = absurd (omega arith)
has_item (u ∷ ts) zero n d t lt e h = or_left (has_auxiliary n u.0) (list_any (λ t. has_auxiliary n t.0) ts) (subst (λ x. IsTrue (has_auxiliary n x.0)) e h)
has_item (u ∷ ts) (suc i) n d t lt e h = or_right (has_auxiliary n u.0) (list_any (λ t. has_auxiliary n t.0) ts) (has_item ts i n d t (omega arith) e h)

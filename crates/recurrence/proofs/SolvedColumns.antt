-- Columns of which it is known what a turn makes of them: this has known columns alone.
use Rattle.std.proofs.Common.{◌≡◌, ℕ, zero, suc, ◌+◌, ◌<◌, ◌≤◌, ◌⊎◌, inl, inr, List, [], ◌∷◌, Bool, true, false, Ok, Err, map, length, fold, refl, sym, ap, subst, ◌∙◌, arith, ℤ, pos, ◌+ℤ◌, ◌*ℤ◌}
use Rattle.std.specs.Prelude.{Option, None, Some, IsTrue, ◌&&◌, slice_get, slice_set, unwrap_or, if◌then◌else◌}
use Rattle.std.specs.List.{AllByRecursion, list_all, range_with_len}
use Rattle.std.specs.Option.{is_some}
use Rattle.std.specs.Ordering.{int_eq}
use Rattle.std.proofs.lemmas.Int.{ints}
use Rattle.std.proofs.lemmas.List.{length-set}
use Rattle.std.proofs.lemmas.List.FromFn.{length-map-range_with_len}
use Rattle.whole_numbers.proofs.Ring.{ring}
use Rattle.std.proofs.lemmas.Bool.Decides.{Decides-int_eq}
use Rattle.whole_numbers.specs.Dot.{dot}
use Rattle.items.proofs.Each.{each-more}
use Rattle.linear_terms.specs.declared.col.Col.{Col}
use Rattle.linear_terms.specs.declared.col.Col.TheVariants.{At, Aux}
use Rattle.linear_terms.specs.Expressions.{Made, ◌⊞◌, column}
use Rattle.linear_terms.specs.Polynomial.{Polynomial, constant_of, column_of}
use Rattle.linear_terms.specs.Replacement.{put_in}
use Rattle.linear_terms.proofs.Values.{int_eq-zero}
use Rattle.transition_formula.specs.Transition.{Transition, every_column}
use Rattle.transition_formula.proofs.ColumnTests.{both, columns_from_test}
use Rattle.polyhedra.specs.Changes.{is_modified, moving}
use Rattle.recurrence.specs.declared.terms.StratumTerm.{StratumTerm}
use Rattle.recurrence.specs.Products.{knowledge_of, is_known, unmodified_columns, sole, is_open, with_next, with_change, with_solved, with_term, with_terms, columns_after_turn}
use Rattle.recurrence.specs.Words.{HasKnown, IsClosed}
use Rattle.recurrence.proofs.Within.{within-Ok, within-column, within-sum}

-- ---- one more column

set-get : {X : Type 0} (xs : List X) (i j : ℕ) (x y : X) → slice_get (slice_set xs i x) j ≡ Some y → ((i ≡ j) × (x ≡ y)) ⊎ (slice_get xs j ≡ Some y)
set-get [] i j x y e = inr e
set-get (z ∷ xs) zero zero x y e = inl (refl, ap (λ o. unwrap_or o x) e)
set-get (z ∷ xs) zero (suc j) x y e = inr e
set-get (z ∷ xs) (suc i) zero x y e = inr e
set-get (z ∷ xs) (suc i) (suc j) x y e = go (set-get xs i j x y e)
  where
    go : ((i ≡ j) × (x ≡ y)) ⊎ (slice_get xs j ≡ Some y) → ((suc i ≡ suc j) × (x ≡ y)) ⊎ (slice_get xs j ≡ Some y)
    go (inl same) = inl (ap suc same.0, same.1)
    go (inr other) = inr other

-- a known element is there itself
known-there : (known : List (Option Polynomial)) (v : ℕ) (p : Polynomial) → knowledge_of known (At v) ≡ Some p → slice_get known v ≡ Some (Some p)
known-there [] v p e = cc
known-there (o ∷ known) zero p e = ap (λ q. Some q) e
known-there (o ∷ known) (suc v) p e = known-there known v p e

there-known : (known : List (Option Polynomial)) (v : ℕ) (p : Polynomial) → slice_get known v ≡ Some (Some p) → knowledge_of known (At v) ≡ Some p
there-known known v p e = ap (λ o. unwrap_or o None) e

-- what is known behind one more column
pub set-known : (known : List (Option Polynomial)) (v : ℕ) (p : Polynomial) (w : ℕ) (q : Polynomial) → knowledge_of (slice_set known v (Some p)) (At w) ≡ Some q → ((v ≡ w) × (p ≡ q)) ⊎ (knowledge_of known (At w) ≡ Some q)
set-known known v p w q e = go (set-get known v w (Some p) (Some q) (known-there (slice_set known v (Some p)) w q e))
  where
    go : ((v ≡ w) × (Some p ≡ Some q)) ⊎ (slice_get known w ≡ Some (Some q)) → ((v ≡ w) × (p ≡ q)) ⊎ (knowledge_of known (At w) ≡ Some q)
    go (inl same) = inl (same.0, ap (λ o. unwrap_or o p) same.1)
    go (inr other) = inr (there-known known w q other)

-- a known column stays known
set-stays : (known : List (Option Polynomial)) (v : ℕ) (p : Polynomial) (c : Col) → IsTrue (is_known known c) → IsTrue (is_known (slice_set known v (Some p)) c)
set-stays [] v p c h = h
set-stays (o ∷ known) zero p (At zero) h = refl
set-stays (o ∷ known) zero p (At (suc w)) h = h
set-stays (o ∷ known) (suc v) p (At zero) h = h
set-stays (o ∷ known) (suc v) p (At (suc w)) h = set-stays known v p (At w) h
set-stays (o ∷ known) v p (Aux n) h = h

set-itself : (known : List (Option Polynomial)) (v : ℕ) (p : Polynomial) → IsTrue (is_open (slice_get known v)) → IsTrue (is_known (slice_set known v (Some p)) (At v))
set-itself [] v p h = cc
set-itself (o ∷ known) zero p h = refl
set-itself (o ∷ known) (suc v) p h = set-itself known v p h

-- a property that each further column keeps
module _ (P : List (Option Polynomial) → Type 0) where
  -- by one change
  pub change-keeps : (known : List (Option Polynomial)) (v : ℕ) (made : Made) → P known
      → ((change next : Polynomial) → made ≡ Ok change → IsTrue (is_open (slice_get known v)) → IsTrue (every_column (is_known known) change) → column (At v) ⊞ Ok change ≡ Ok next → P (slice_set known v (Some next)))
      → P (with_change known v made)
  change-keeps known v (Err e) h step = h
  change-keeps known v (Ok change) h step = go (is_open (slice_get known v) && every_column (is_known known) change) refl
    where
      made : (m : Made) → column (At v) ⊞ Ok change ≡ m → IsTrue (is_open (slice_get known v)) → IsTrue (every_column (is_known known) change) → P (with_next known v m)
      made (Ok next) e opened all = step change next refl opened all e
      made (Err e) f opened all = h

      go : (b : Bool) → (is_open (slice_get known v) && every_column (is_known known) change) ≡ b → P (if b then with_next known v (column (At v) ⊞ Ok change) else known)
      go true e = let parts = both (is_open (slice_get known v)) (every_column (is_known known) change) e in made (column (At v) ⊞ Ok change) refl parts.0 parts.1
      go false e = h

-- ---- closed

pub closed-next : (known : List (Option Polynomial)) (v : ℕ) (change next : Polynomial) → IsClosed known → IsTrue (is_open (slice_get known v)) → IsTrue (every_column (is_known known) change) → column (At v) ⊞ Ok change ≡ Ok next → IsClosed (slice_set known v (Some next))
closed-next known v change next closed opened all e = λ c p f. go c p f
  where
    more : (p : Polynomial) → HasKnown known p → HasKnown (slice_set known v (Some next)) p
    more p h = each-more (λ t. AllByRecursion (λ c. IsTrue (is_known known c)) t.0) (λ t. AllByRecursion (λ c. IsTrue (is_known (slice_set known v (Some next)) c)) t.0)
        (λ t k. each-more (λ c. IsTrue (is_known known c)) (λ c. IsTrue (is_known (slice_set known v (Some next)) c)) (λ c l. set-stays known v next c l) t.0 k) p.terms h

    own : HasKnown (slice_set known v (Some next)) next
    own = (within-sum (λ c. IsTrue (is_known (slice_set known v (Some next)) c)) (column (At v)) (Ok change)
        (within-column (λ c. IsTrue (is_known (slice_set known v (Some next)) c)) (At v) (set-itself known v next opened))
        (within-Ok (λ c. IsTrue (is_known (slice_set known v (Some next)) c)) change (more change (columns_from_test (is_known known) change all)))).as_made next e

    go : (c : Col) (p : Polynomial) → knowledge_of (slice_set known v (Some next)) c ≡ Some p → HasKnown (slice_set known v (Some next)) p
    go (Aux n) p f = cc
    go (At w) p f = found (set-known known v next w p f)
      where
        found : ((v ≡ w) × (next ≡ p)) ⊎ (knowledge_of known (At w) ≡ Some p) → HasKnown (slice_set known v (Some next)) p
        found (inl same) = subst (HasKnown (slice_set known v (Some next))) same.1 own
        found (inr other) = more p (closed (At w) p other)

-- ---- the first columns

at-range : (f : ℕ → Option Polynomial) (a n v : ℕ) (p : Polynomial) → knowledge_of (map f (range_with_len a n)) (At v) ≡ Some p → f (a + v) ≡ Some p
at-range f a zero v p e = cc
at-range f a (suc n) zero p e = ap f (none a) ∙ e
  where
    none : (a : ℕ) → a + 0 ≡ a
    none a = omega arith
at-range f a (suc n) (suc v) p e = ap f (later a v) ∙ at-range f (a + 1) n v p e
  where
    later : (a v : ℕ) → a + suc v ≡ a + 1 + v
    later a v = omega arith

-- an unmodified column stays
pub unchanged-known : (body : Transition) (ms : List (List Col)) (v : ℕ) (p : Polynomial) → knowledge_of (unmodified_columns body ms) (At v) ≡ Some p → (is_modified true body.cases v ≡ false) × (column_of (At v) ≡ p)
unchanged-known body [] v p e = absurd (cc e)
unchanged-known body (m ∷ ms) v p e =
    go (is_modified true body.cases v) refl
    (ap (λ w. if is_modified true body.cases w then None else Some (column_of (At w))) (sym (alone v))
    ∙ at-range (λ w. if is_modified true body.cases w then None else Some (column_of (At w))) 0 body.to v p e)
  where
    alone : (v : ℕ) → 0 + v ≡ v
    alone v = omega arith

    go : (b : Bool) → is_modified true body.cases v ≡ b → (if b then None else Some (column_of (At v))) ≡ Some p → (is_modified true body.cases v ≡ false) × (column_of (At v) ≡ p)
    go true f g = absurd (cc g)
    go false f g = (f, ap (λ o. unwrap_or o p) g)

known-some : (known : List (Option Polynomial)) (c : Col) (p : Polynomial) → knowledge_of known c ≡ Some p → IsTrue (is_known known c)
known-some known c p e = ap is_some e

pub unchanged-closed : (body : Transition) (ms : List (List Col)) → IsClosed (unmodified_columns body ms)
unchanged-closed body ms = go
  where
    go : (c : Col) (p : Polynomial) → knowledge_of (unmodified_columns body ms) c ≡ Some p → HasKnown (unmodified_columns body ms) p
    go (Aux n) p e = cc
    go (At v) p e = subst (HasKnown (unmodified_columns body ms)) (unchanged-known body ms v p e).1 ((known-some (unmodified_columns body ms) (At v) p e, tt), tt)

pub term-closed : (variables : List ℕ) (known : List (Option Polynomial)) (t : StratumTerm) → IsClosed known → IsClosed (with_term variables known t)
term-closed variables known t closed = go (sole variables t.relation.a)
  where
    go : (o : Option ℕ) → IsClosed (with_solved known o t.recurrence.first)
    go None = closed
    go (Some v) = change-keeps IsClosed known v t.recurrence.first closed (λ change next e opened all f. closed-next known v change next closed opened all f)

-- each term keeps what a property asks
pub terms-keep : (P : List (Option Polynomial) → Type 0) (Q : StratumTerm → Type 0) (variables : List ℕ) → ((known : List (Option Polynomial)) (t : StratumTerm) → Q t → P known → P (with_term variables known t))
    → (known : List (Option Polynomial)) (terms : List StratumTerm) → AllByRecursion Q terms → P known → P (fold (with_term variables) known terms)
terms-keep P Q variables step known [] all h = h
terms-keep P Q variables step known (t ∷ terms) all h = terms-keep P Q variables step (with_term variables known t) terms all.1 (step known t all.0 h)

any-terms : (terms : List StratumTerm) → AllByRecursion (λ t. Unit {0}) terms
any-terms [] = tt
any-terms (t ∷ terms) = (tt, any-terms terms)

pub fold-closed : (variables : List ℕ) (known : List (Option Polynomial)) (terms : List StratumTerm) → IsClosed known → IsClosed (fold (with_term variables) known terms)
fold-closed variables known terms closed = terms-keep IsClosed (λ t. Unit {0}) variables (λ all t any h. term-closed variables all t h) known terms (any-terms terms) closed

pub terms-closed : (body : Transition) (known : List (Option Polynomial)) (found : Option (List StratumTerm)) → IsClosed known → IsClosed (with_terms body known found)
terms-closed body known found closed = fold-closed (moving true body) known (unwrap_or found []) closed

-- ---- how many there are

term-long : (variables : List ℕ) (known : List (Option Polynomial)) (t : StratumTerm) → length (with_term variables known t) ≡ length known
term-long variables known t = go (sole variables t.relation.a)
  where
    go : (o : Option ℕ) → length (with_solved known o t.recurrence.first) ≡ length known
    go None = refl
    go (Some v) = change-keeps (λ all. length all ≡ length known) known v t.recurrence.first refl (λ change next e opened all f. length-set known v (Some next))

pub terms-long : (body : Transition) (known : List (Option Polynomial)) (found : Option (List StratumTerm)) (n : ℕ) → length known ≤ n → length (with_terms body known found) ≤ n
terms-long body known found n h =
    terms-keep (λ all. length all ≤ n) (λ t. Unit {0}) (moving true body) (λ all t any k. let same = term-long (moving true body) all t in omega arith) known (unwrap_or found []) (any-terms (unwrap_or found [])) h

pub unchanged-long : (body : Transition) (ms : List (List Col)) → length (unmodified_columns body ms) ≤ body.to
unchanged-long body [] = omega arith
unchanged-long body (m ∷ ms) = let same = length-map-range_with_len (λ v. if is_modified true body.cases v then None else Some (column_of (At v))) 0 body.to in omega arith

-- a known column is one of these
pub known-low : (known : List (Option Polynomial)) (v : ℕ) → IsTrue (is_known known (At v)) → v < length known
known-low [] v h = absurd (cc h)
known-low (o ∷ known) zero h = omega arith
known-low (o ∷ known) (suc v) h = let low = known-low known v h in omega arith

-- ---- what is put in for columns

-- for a known column what is known of it
pub turned-known : (known : List (Option Polynomial)) (c : Col) (p : Polynomial) → knowledge_of known c ≡ Some p → put_in (columns_after_turn known) [] c ≡ p
turned-known known (Aux n) p e = cc
turned-known [] (At v) p e = cc
turned-known (o ∷ known) (At zero) p e = ap (λ q. unwrap_or q (constant_of (pos 0))) e
turned-known (o ∷ known) (At (suc v)) p e = turned-known known (At v) p e

-- each is known, or 0
pub turned-each : (known : List (Option Polynomial)) (P : Polynomial → Type 0) → P (constant_of (pos 0)) → ((v : ℕ) (p : Polynomial) → knowledge_of known (At v) ≡ Some p → P p) → AllByRecursion P (columns_after_turn known)
turned-each [] P none tells = tt
turned-each (None ∷ known) P none tells = (none, turned-each known P none (λ v p e. tells (suc v) p e))
turned-each (Some q ∷ known) P none tells = (tells 0 q refl, turned-each known P none (λ v p e. tells (suc v) p e))

-- ---- the one variable of a term

zeros-dot : (ns : List ℤ) (xs : List ℤ) → IsTrue (list_all (λ m. int_eq m (pos 0)) ns) → dot ns xs ≡ pos 0
zeros-dot [] xs h = refl
zeros-dot (n ∷ ns) [] h = refl
zeros-dot (n ∷ ns) (x ∷ xs) h = let parts = both (int_eq n (pos 0)) (list_all (λ m. int_eq m (pos 0)) ns) h in none n x (dot ns xs) (int_eq-zero n parts.0) (zeros-dot ns xs parts.1)
  where
    none : (n x d : ℤ) → n ≡ pos 0 → d ≡ pos 0 → n *ℤ x +ℤ d ≡ pos 0
    none n x d e f = rw (e, f) (simp ring (omega (arith, ints)))

int_eq-one : (c : ℤ) → int_eq c (pos 1) ≡ true → c ≡ pos 1
int_eq-one c e = (Decides-int_eq c (pos 1)).0 e

pub sole-dot : (vs : List ℕ) (ns : List ℤ) (v : ℕ) (f : ℕ → ℤ) → sole vs ns ≡ Some v → dot ns (map f vs) ≡ f v
sole-dot [] ns v f e = absurd (cc e)
sole-dot (u ∷ us) [] v f e = absurd (cc e)
sole-dot (u ∷ us) (n ∷ ns) v f e = go (int_eq n (pos 0)) refl e (sole-dot us ns v f)
  where
    found : (b : Bool) → (int_eq n (pos 1) && list_all (λ m. int_eq m (pos 0)) ns) ≡ b → (if b then Some u else None) ≡ Some v → n *ℤ f u +ℤ dot ns (map f us) ≡ f v
    found true g k = let parts = both (int_eq n (pos 1)) (list_all (λ m. int_eq m (pos 0)) ns) g in
        one n (f u) (dot ns (map f us)) (int_eq-one n parts.0) (zeros-dot ns (map f us) parts.1) ∙ ap f (ap (λ o. unwrap_or o u) k)
      where
        one : (n x d : ℤ) → n ≡ pos 1 → d ≡ pos 0 → n *ℤ x +ℤ d ≡ x
        one n x d e f = rw (e, f) (simp ring (omega (arith, ints)))
    found false g k = absurd (cc k)

    go : (b : Bool) → int_eq n (pos 0) ≡ b → (if b then sole us ns else if int_eq n (pos 1) && list_all (λ m. int_eq m (pos 0)) ns then Some u else None) ≡ Some v → (sole us ns ≡ Some v → dot ns (map f us) ≡ f v) → n *ℤ f u +ℤ dot ns (map f us) ≡ f v
    go true g k rest = none n (f u) (dot ns (map f us)) (int_eq-zero n g) ∙ rest k
      where
        none : (n x d : ℤ) → n ≡ pos 0 → n *ℤ x +ℤ d ≡ d
        none n x d e = rw e (simp ring (omega (arith, ints)))
    go false g k rest = found (int_eq n (pos 1) && list_all (λ m. int_eq m (pos 0)) ns) refl k

-- A table of changes put in for the columns of a direction.
use Rattle.std.proofs.Common.{◌≡◌, ℕ, zero, suc, ◌+◌, ◌<◌, List, [], ◌∷◌, length, Ok, Err, Bool, map, get_or, true, refl, sym, ap, subst, ◌∙◌, arith, pos}
use Rattle.std.specs.Prelude.{All, Option, None, Some, slice_get, unwrap_or}
use Rattle.std.specs.List.{AllByRecursion, range_with_len}
use Rattle.std.proofs.lemmas.List.{length-map}
use Rattle.std.proofs.lemmas.List.Elements.{recursion_from_All}
use Rattle.std.proofs.lemmas.List.FromFn.{length-map-range_with_len}
use Rattle.items.specs.Gives.{◌>>=◌, FailsBy}
use Rattle.items.proofs.Each.{each-more}
use Rattle.linear_terms.specs.declared.col.Col.{Col}
use Rattle.linear_terms.specs.declared.col.Col.TheVariants.{At, Aux}
use Rattle.linear_terms.specs.declared.error.TermError.{TermError}
use Rattle.linear_terms.specs.declared.error.TermError.TheVariants as error
use Rattle.linear_terms.specs.declared.row.Case.{Case}
use Rattle.linear_terms.specs.Expressions.{Made, or_zero, when_made, when_all_made, put_into}
use Rattle.linear_terms.specs.Operations.{product_of_polys, product_on, product_in, multiple_of, substituted_monomial, sum_of_polys, add_substituted, substituted_polynomial}
use Rattle.linear_terms.specs.Polynomial.{Terms, Polynomial, constant_of}
use Rattle.linear_terms.specs.Replacement.{IsBelow, put_in}
use Rattle.linear_terms.specs.TermError.{plus, cause}
use Rattle.transition_formula.proofs.Ranges.{counted_more}
use Rattle.polyhedra.specs.declared.changes.Moves.{Moves}
use Rattle.polyhedra.specs.Bounds.{IsCovered, for_entries}
use Rattle.polyhedra.specs.Changes.{change}
use Rattle.polyhedra.specs.Tables.{fault_of, fault_at, or_else, first_in, first_fault, table_of, with_made, AreTables}

-- ---- substitutions that agree on the columns of a polynomial

same_then : (f g : Polynomial → Made) → ((p : Polynomial) → f p ≡ g p) → (r : Made) → r >>= f ≡ r >>= g
same_then f g same (Ok p) = same p
same_then f g same (Err e) = refl

module _ (f g : Col → Polynomial) where
  abbrev AreSame : List Col → Type 0
  AreSame m = AllByRecursion (λ c. f c ≡ g c) m

  product_on-same : (made : Polynomial) (m : List Col) → AreSame m → product_on f made m ≡ product_on g made m
  product_on-same made [] h = refl
  product_on-same made (c ∷ m) h =
      ap (λ p. product_of_polys made p >>= λ next. product_on f next m) h.0
      ∙ same_then (λ next. product_on f next m) (λ next. product_on g next m) (λ next. product_on-same next m h.1) (product_of_polys made (g c))

  product_in-same : (m : List Col) → AreSame m → product_in f m ≡ product_in g m
  product_in-same [] h = refl
  product_in-same (c ∷ m) h = product_on-same (f c) m h.1 ∙ ap (λ p. product_on g p m) h.0

  add_substituted-same : (ts : Terms) (sum : Polynomial) → AllByRecursion (λ t. AreSame t.0) ts → add_substituted f ts sum ≡ add_substituted g ts sum
  add_substituted-same [] sum h = refl
  add_substituted-same (t ∷ ts) sum h =
      ap (λ product. (product >>= λ p. multiple_of p t.1) >>= λ term. sum_of_polys sum term >>= λ made. add_substituted f ts made) (product_in-same t.0 h.0)
      ∙ same_then (λ term. sum_of_polys sum term >>= λ made. add_substituted f ts made) (λ term. sum_of_polys sum term >>= λ made. add_substituted g ts made)
      (λ term. same_then (λ made. add_substituted f ts made) (λ made. add_substituted g ts made) (λ made. add_substituted-same ts made h.1) (sum_of_polys sum term)) (substituted_monomial g t.0 t.1)

  substituted-same : (d : Polynomial) → AllByRecursion (λ t. AreSame t.0) d.terms → substituted_polynomial f d ≡ substituted_polynomial g d
  substituted-same d h = ap (λ r. r >>= λ sum. plus sum.rest d.rest >>= λ n. Ok record { terms = sum.terms; rest = n }) (add_substituted-same d.terms (constant_of (pos 0)) h)

-- ---- a list of numbers' values

got : {X : Type 0} (f : ℕ → X) (a n v : ℕ) → v < n → slice_get (map f (range_with_len a n)) v ≡ Some (f (a + v))
got f a zero v low = absurd (omega arith)
got f a (suc n) zero low = ap (λ k. Some (f k)) (none a)
  where
    none : (a : ℕ) → a ≡ a + 0
    none a = omega arith
got f a (suc n) (suc v) low = got f (a + 1) n v (omega arith) ∙ ap (λ k. Some (f k)) (shifted a v)
  where
    shifted : (a v : ℕ) → a + 1 + v ≡ a + suc v
    shifted a v = omega arith

pub first_got : {X : Type 0} (f : ℕ → X) (n v : ℕ) → v < n → slice_get (map f (range_with_len 0 n)) v ≡ Some (f v)
first_got f n v low = got f 0 n v low ∙ ap (λ k. Some (f k)) (none v)
  where
    none : (v : ℕ) → 0 + v ≡ v
    none v = omega arith

-- ---- faults

-- what follows where there is no fault
abbrev unless_fault : Option TermError → Made → Made
unless_fault None next = next
unless_fault (Some e) next = Err e

both_faults : (a b : Option TermError) (next : Made) → unless_fault a (unless_fault b next) ≡ unless_fault (or_else a b) next
both_faults None b next = refl
both_faults (Some e) b next = refl

made-or-fault : (m : Made) (next : Made) → m >>= (λ p. next) ≡ unless_fault (fault_of m) next
made-or-fault (Ok p) next = refl
made-or-fault (Err e) next = refl

module _ (faults : List (Option TermError)) (values : Col → Made) where
  abbrev AreTold : List Col → Type 0
  AreTold m = AllByRecursion (λ c. fault_at faults c ≡ fault_of (values c)) m

  when_made-told : (m : List Col) (next : Made) → AreTold m → when_made values m next ≡ unless_fault (first_in faults m) next
  when_made-told [] next h = refl
  when_made-told (c ∷ m) next h =
      made-or-fault (values c) (when_made values m next) ∙ ap (λ o. unless_fault o (when_made values m next)) (sym h.0)
      ∙ ap (unless_fault (fault_at faults c)) (when_made-told m next h.1) ∙ both_faults (fault_at faults c) (first_in faults m) next

  when_all_made-told : (ts : Terms) (next : Made) → AllByRecursion (λ t. AreTold t.0) ts → when_all_made values ts next ≡ unless_fault (first_fault faults ts) next
  when_all_made-told [] next h = refl
  when_all_made-told (t ∷ ts) next h =
      when_made-told t.0 (when_all_made values ts next) h.0 ∙ ap (unless_fault (first_in faults t.0)) (when_all_made-told ts next h.1)
      ∙ both_faults (first_in faults t.0) (first_fault faults ts) next

-- ---- the table

module _ (one : Bool) (case : Case) (n : ℕ) (moves : Moves) (table : moves ≡ table_of one n case) (d : Polynomial) (covered : IsCovered n d) where
  abbrev values : Col → Made
  values c = for_entries (change one case) c

  column-same : (c : Col) → IsBelow n 0 c → or_zero (values c) ≡ put_in moves.polys [] c
  column-same (At v) low = sym (ap (λ ps. unwrap_or (slice_get ps v) (constant_of (pos 0))) (ap (λ (m : Moves). m.polys) table) ∙ ap (λ o. unwrap_or o (constant_of (pos 0))) (first_got (λ k. or_zero (change one case k)) n v low))
  column-same (Aux k) low = absurd (omega arith)

  column-told : (c : Col) → IsBelow n 0 c → fault_at moves.faults c ≡ fault_of (values c)
  column-told (At v) low = ap (λ fs. unwrap_or (slice_get fs v) None) (ap (λ (m : Moves). m.faults) table) ∙ ap (λ o. unwrap_or o None) (first_got (λ k. fault_of (change one case k)) n v low)
  column-told (Aux k) low = absurd (omega arith)

  columns : AllByRecursion (λ t. AllByRecursion (IsBelow n 0) t.0) d.terms
  columns = each-more (λ t. All (IsBelow n 0) t.0) (λ t. AllByRecursion (IsBelow n 0) t.0) (λ t h. recursion_from_All (IsBelow n 0) t.0 h) d.terms (recursion_from_All (λ t. All (IsBelow n 0) t.0) d.terms covered)

  put_into-told : put_into values d ≡ unless_fault (first_fault moves.faults d.terms) (substituted_polynomial (put_in moves.polys []) d)
  put_into-told =
      when_all_made-told moves.faults values d.terms (substituted_polynomial (λ c. or_zero (values c)) d)
      (each-more (λ t. AllByRecursion (IsBelow n 0) t.0) (λ t. AllByRecursion (λ c. fault_at moves.faults c ≡ fault_of (values c)) t.0) (λ t h. each-more (IsBelow n 0) (λ c. fault_at moves.faults c ≡ fault_of (values c)) column-told t.0 h) d.terms columns)
      ∙ ap (unless_fault (first_fault moves.faults d.terms)) (substituted-same (λ c. or_zero (values c)) (put_in moves.polys []) d
      (each-more (λ t. AllByRecursion (IsBelow n 0) t.0) (λ t. AllByRecursion (λ c. or_zero (values c) ≡ put_in moves.polys [] c) t.0) (λ t h. each-more (IsBelow n 0) (λ c. or_zero (values c) ≡ put_in moves.polys [] c) column-same t.0 h) d.terms columns))

  pub put_into-fault : (e : TermError) → first_fault moves.faults d.terms ≡ Some e → put_into values d ≡ Err e
  put_into-fault e f = put_into-told ∙ ap (λ o. unless_fault o (substituted_polynomial (put_in moves.polys []) d)) f

  pub put_into-made : first_fault moves.faults d.terms ≡ None → put_into values d ≡ substituted_polynomial (put_in moves.polys []) d
  put_into-made f = put_into-told ∙ ap (λ o. unless_fault o (substituted_polynomial (put_in moves.polys []) d)) f

-- an error that says why there is no answer
pub fails_by-same : (e : TermError) (stated : Made) → stated ≡ Err e → FailsBy (cause e) stated
fails_by-same (error.Wide left right times) stated same = same
fails_by-same error.Degree stated same = same
fails_by-same error.Memory stated same = tt

-- ---- the loop that makes it

pub table_of-none : (one : Bool) (case : Case) (moves : Moves) → moves.polys ≡ [] → moves.faults ≡ [] → moves ≡ table_of one 0 case
table_of-none one case moves e f = λ i. record { polys = e i; faults = f i }

pub table_of-more : (one : Bool) (case : Case) (n : ℕ) (moves next : Moves) → moves ≡ table_of one n case → next ≡ with_made moves (change one case n) → next ≡ table_of one (n + 1) case
table_of-more one case n moves next table e = λ i. record {
  polys = counted_more (λ v. or_zero (change one case v)) 0 n n moves.polys next.polys (or_zero (change one case n)) (omega arith) (ap (λ (m : Moves). m.polys) table) refl (ap (λ (m : Moves). m.polys) e) i;
  faults = counted_more (λ v. fault_of (change one case v)) 0 n n moves.faults next.faults (fault_of (change one case n)) (omega arith) (ap (λ (m : Moves). m.faults) table) refl (ap (λ (m : Moves). m.faults) e) i;
}

-- ---- tables of cases

mapped-got : {A B : Type 0} (f : A → B) (xs : List A) (i : ℕ) (x : A) (y : B) → i < length xs → get_or (map f xs) i y ≡ f (get_or xs i x)
mapped-got f [] i x y low = absurd (omega arith)
mapped-got f (z ∷ xs) zero x y low = refl
mapped-got f (z ∷ xs) (suc i) x y low = mapped-got f xs i x y (omega arith)

module _ (cases : List Case) (tables : List Moves) (d : Polynomial) (are : AreTables cases tables d) where
  pub tables-count : length tables ≡ length cases
  tables-count = ap length are.same ∙ length-map cases (table_of true are.count)

  module _ (i : ℕ) (case : Case) (moves : Moves) (low : i < length cases) (case_is : case ≡ get_or cases i case) (moves_is : moves ≡ get_or tables i moves) where
    pub table-at : moves ≡ table_of true are.count case
    table-at = moves_is ∙ ap (λ ts. get_or ts i moves) are.same ∙ mapped-got (table_of true are.count) cases i case moves low ∙ ap (table_of true are.count) (sym case_is)

    pub table-covers : IsCovered (length moves.polys) d
    table-covers = subst (λ n. IsCovered n d) (sym (ap (λ (m : Moves). length m.polys) table-at ∙ length-map-range_with_len (λ v. or_zero (change true case v)) 0 are.count)) are.covered

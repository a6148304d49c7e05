-- What is put in for known columns, and what it makes of products, has no columns but these.
use Rattle.std.proofs.Common.{◌≡◌, ℕ, suc, List, [], ◌∷◌, Ok, Err, All, length, refl, sym, subst, pos}
use Rattle.std.specs.Prelude.{Option, IsTrue}
use Rattle.std.specs.List.{AllByRecursion, list_all}
use Rattle.std.proofs.lemmas.List.Elements.{All-from_recursion, recursion_from_All}
use Rattle.items.proofs.Each.{each-more, each_from_test}
use Rattle.linear_terms.specs.declared.col.Col.{Col}
use Rattle.linear_terms.specs.declared.col.Col.TheVariants.{At, Aux}
use Rattle.linear_terms.specs.Expressions.{Made}
use Rattle.linear_terms.specs.Polynomial.{Polynomial, constant_of, mono_of}
use Rattle.linear_terms.specs.Replacement.{IsBelow}
use Rattle.linear_terms.proofs.Columns.{EachColumn}
use Rattle.polyhedra.specs.Bounds.{IsCovered}
use Rattle.polyhedra.proofs.Lists.{filter-passes}
use Rattle.recurrence.specs.Products.{is_known, columns_after_turn, growth, grown, known_products}
use Rattle.recurrence.specs.Words.{IsClosed, AreCovered, IsCoveredIfMade}
use Rattle.recurrence.proofs.SolvedColumns.{known-low, turned-each}
use Rattle.recurrence.proofs.Within.{IsWithin, within-Ok, growth-within, next-within}

covered : (n : ℕ) (p : Polynomial) → EachColumn (IsBelow n 0) p.terms → IsCovered n p
covered n p h = All-from_recursion (λ t. All (IsBelow n 0) t.0) p.terms (each-more (λ t. AllByRecursion (IsBelow n 0) t.0) (λ t. All (IsBelow n 0) t.0) (λ t k. All-from_recursion (IsBelow n 0) t.0 k) p.terms h)

each-covered : (n : ℕ) (p : Polynomial) → IsCovered n p → EachColumn (IsBelow n 0) p.terms
each-covered n p h = each-more (λ t. All (IsBelow n 0) t.0) (λ t. AllByRecursion (IsBelow n 0) t.0) (λ t k. recursion_from_All (IsBelow n 0) t.0 k) p.terms (recursion_from_All (λ t. All (IsBelow n 0) t.0) p.terms h)

known-below : (known : List (Option Polynomial)) (c : Col) → IsTrue (is_known known c) → IsBelow (length known) 0 c
known-below known (At v) h = known-low known v h
known-below known (Aux n) h = cc

long : (known : List (Option Polynomial)) → length (columns_after_turn known) ≡ length known
long [] = refl
long (o ∷ known) = λ i. suc (long known i)

pub turned-covered : (known : List (Option Polynomial)) → IsClosed known → AreCovered (columns_after_turn known)
turned-covered known closed =
    subst (λ n. All (IsCovered n) (columns_after_turn known)) (sym (long known))
    (All-from_recursion (IsCovered (length known)) (columns_after_turn known) (turned-each known (IsCovered (length known)) (covered (length known) (constant_of (pos 0)) tt) (λ v p e. covered (length known) p
    (each-more (λ t. AllByRecursion (λ c. IsTrue (is_known known c)) t.0) (λ t. AllByRecursion (IsBelow (length known) 0) t.0) (λ t k. each-more (λ c. IsTrue (is_known known c)) (IsBelow (length known) 0) (known-below known) t.0 k) p.terms (closed (At v) p e)))))

pub products-covered : (known : List (Option Polynomial)) (ms : List (List Col)) → All (λ m. All (IsBelow (length (columns_after_turn known)) 0) m) (known_products known ms)
products-covered known ms =
    subst (λ n. All (λ m. All (IsBelow n 0) m) (known_products known ms)) (sym (long known))
    (All-from_recursion (λ m. All (IsBelow (length known) 0) m) (known_products known ms)
    (each-more (λ m. IsTrue (list_all (is_known known) m)) (λ m. All (IsBelow (length known) 0) m)
    (λ m k. All-from_recursion (IsBelow (length known) 0) m (each_from_test (is_known known) (IsBelow (length known) 0) (known-below known) m k)) (known_products known ms) (filter-passes (list_all (is_known known)) ms)))

within-all : (next : List Polynomial) → AreCovered next → AllByRecursion (λ (p : Polynomial). EachColumn (IsBelow (length next) 0) p.terms) next
within-all next h = each-more (IsCovered (length next)) (λ (p : Polynomial). EachColumn (IsBelow (length next) 0) p.terms) (each-covered (length next)) next (recursion_from_All (IsCovered (length next)) next h)

if_within : (n : ℕ) (m : Made) → IsWithin (IsBelow n 0) m → IsCoveredIfMade n m
if_within n (Ok p) h = covered n p (h.as_made p refl)
if_within n (Err e) h = tt

within_if : (n : ℕ) (m : Made) → IsCoveredIfMade n m → IsWithin (IsBelow n 0) m
within_if n (Ok p) h = within-Ok (IsBelow n 0) p (each-covered n p h)
within_if n (Err e) h = record { as_made = λ p f. absurd (cc f) }

pub mono-covered : (n : ℕ) (m : List Col) → All (IsBelow n 0) m → IsCovered n (mono_of m)
mono-covered n m h = covered n (mono_of m) (recursion_from_All (IsBelow n 0) m h, tt)

pub growth-covered : (next : List Polynomial) (p : Polynomial) → AreCovered next → IsCovered (length next) p → IsCoveredIfMade (length next) (growth next p)
growth-covered next p h k = if_within (length next) (growth next p) (growth-within (IsBelow (length next) 0) next (within-all next h) p (each-covered (length next) p k))

pub grown-covered : (next : List Polynomial) (m : Made) → AreCovered next → IsCoveredIfMade (length next) m → IsCoveredIfMade (length next) (grown next m)
grown-covered next m h k = if_within (length next) (grown next m) (next-within (IsBelow (length next) 0) next (within-all next h) m (within_if (length next) m k))

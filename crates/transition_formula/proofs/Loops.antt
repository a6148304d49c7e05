-- Loops over lists: the definition over what is left, behind what is done.
use Rattle.std.proofs.Common.{◌≡◌, ℕ, zero, suc, ◌+◌, ◌<◌, ◌≤◌, length, map, get_or, drop, List, [], ◌∷◌, ◌++◌, Bool, true, false, Option, Some, None, Result, Ok, Err, refl, sym, ap, subst, ◌∙◌, append_assoc, append-nil, arith}
use Rattle.std.specs.Prelude.{IsTrue, ◌||◌}
use Rattle.std.specs.List.{flat_map, filter_map, cons_option, list_all, list_any}
use Rattle.std.specs.Option.{option_map}
use Rattle.std.proofs.lemmas.List.{drop_more, drop_all}
use Rattle.linear_terms.specs.declared.error.TermError.{TermError}
use Rattle.linear_terms.specs.declared.row.Kind.{Kind}
use Rattle.linear_terms.specs.declared.row.Row.{Row}
use Rattle.linear_terms.specs.Polynomial.{Polynomial}
use Rattle.transition_formula.specs.Loss.{answer_of}
use Rattle.transition_formula.specs.Composition.{row_of}
use Rattle.transition_formula.proofs.ColumnTests.{both}

abbrev pub row_with : Polynomial → Kind → Row
row_with p kind = record { poly = p; kind = kind }

-- what is left at an index begins with the item there
pub at_index : {X : Type 0} (xs : List X) (i : ℕ) (x : X) → i < length xs → x ≡ get_or xs i x → drop i xs ≡ x ∷ drop (i + 1) xs
at_index xs i x h e = drop_more xs i x h ∙ ap (λ u. u ∷ drop (i + 1) xs) (sym e)

pub one_mapped : {X Y : Type 0} (f : X → Y) (xs : List X) (i : ℕ) (x : X) (made next : List Y) (y : Y) → i < length xs → x ≡ get_or xs i x → y ≡ f x → next ≡ made ++ y ∷ []
    → next ++ map f (drop (i + 1) xs) ≡ made ++ map f (drop i xs)
one_mapped f xs i x made next y h e same pushed =
    ap (λ l. l ++ map f (drop (i + 1) xs)) pushed
    ∙ append_assoc made (y ∷ []) (map f (drop (i + 1) xs))
    ∙ (λ j. made ++ (same j ∷ map f (drop (i + 1) xs)))
    ∙ ap (λ l. made ++ map f l) (sym (at_index xs i x h e))

pub one_gathered : {X Y : Type 0} (f : X → List Y) (xs : List X) (i : ℕ) (x : X) (made next : List Y) → i < length xs → x ≡ get_or xs i x → next ≡ made ++ f x
    → next ++ flat_map f (drop (i + 1) xs) ≡ made ++ flat_map f (drop i xs)
one_gathered f xs i x made next h e more =
    ap (λ l. l ++ flat_map f (drop (i + 1) xs)) more
    ∙ append_assoc made (f x) (flat_map f (drop (i + 1) xs))
    ∙ ap (λ l. made ++ flat_map f l) (sym (at_index xs i x h e))

pub test_at : {X : Type 0} (test : X → Bool) (xs : List X) (i : ℕ) (d x : X) → IsTrue (list_all test xs) → i < length xs → x ≡ get_or xs i d → IsTrue (test x)
test_at test [] i d x h lt e = absurd (omega arith)
test_at test (y ∷ ys) zero d x h lt e = let parts = both (test y) (list_all test ys) h in subst (λ u. IsTrue (test u)) (sym e) parts.0
test_at test (y ∷ ys) (suc i) d x h lt e = let parts = both (test y) (list_all test ys) h in test_at test ys i d x parts.1 (omega arith) e

-- nothing is left
pub all_gathered : {X Y : Type 0} (f : X → List Y) (xs : List X) (i : ℕ) (made whole : List Y) → length xs ≤ i → made ++ flat_map f (drop i xs) ≡ whole → made ≡ whole
all_gathered f xs i made whole h e = sym (append-nil made) ∙ ap (λ l. made ++ flat_map f l) (sym (drop_all i xs h)) ∙ e

pub one_filtered : {X Y : Type 0} (h : X → Option Y) (xs : List X) (i : ℕ) (x : X) (made next : List Y) (o : Option Y) → i < length xs → x ≡ get_or xs i x → o ≡ h x → next ≡ made ++ cons_option o []
    → next ++ filter_map h (drop (i + 1) xs) ≡ made ++ filter_map h (drop i xs)
one_filtered {Y = Y} h xs i x made next o lt e same pushed =
    ap (λ l. l ++ filter_map h (drop (i + 1) xs)) pushed
    ∙ append_assoc made (cons_option o []) (filter_map h (drop (i + 1) xs))
    ∙ ap (λ l. made ++ l) (front o (filter_map h (drop (i + 1) xs)))
    ∙ (λ j. made ++ cons_option (same j) (filter_map h (drop (i + 1) xs)))
    ∙ ap (λ l. made ++ filter_map h l) (sym (at_index xs i x lt e))
  where
    front : (p : Option Y) (ys : List Y) → cons_option p [] ++ ys ≡ cons_option p ys
    front None ys = refl
    front (Some y) ys = refl

-- a row is there where its polynomial is
pub row_of_answered : (kind : Kind) (r : Result Polynomial TermError) (o : Option Polynomial) → o ≡ answer_of r → row_of kind r ≡ option_map (λ p. row_with p kind) o
row_of_answered kind (Ok p) o e = ap (option_map (λ q. row_with q kind)) (sym e)
row_of_answered kind (Err f) o e = ap (option_map (λ q. row_with q kind)) (sym e)

-- ---- some element passes

pub or_left : (a b : Bool) → IsTrue a → IsTrue (a || b)
or_left true b h = refl
or_left false b h = cc

pub or_right : (a b : Bool) → IsTrue b → IsTrue (a || b)
or_right true b h = refl
or_right false b h = h

pub any_item : {X : Type 0} (test : X → Bool) (xs : List X) (i : ℕ) (d x : X) → i < length xs → x ≡ get_or xs i d → IsTrue (test x) → IsTrue (list_any test xs)
any_item test [] i d x lt e h = absurd (omega arith)
any_item test (y ∷ ys) zero d x lt e h = or_left (test y) (list_any test ys) (subst (λ u. IsTrue (test u)) e h)
any_item test (y ∷ ys) (suc i) d x lt e h = or_right (test y) (list_any test ys) (any_item test ys i d x (omega arith) e h)

-- one passes a test, and all another
pub met_by : {X : Type 0} {P : Type 0} (some all : X → Bool) (xs : List X) → IsTrue (list_any some xs) → IsTrue (list_all all xs) → ((x : X) → IsTrue (some x) → IsTrue (all x) → P) → P
met_by some all [] h k tells = cc
met_by {P = P} some all (x ∷ xs) h k tells =
    let parts = both (all x) (list_all all xs) k in
    go (some x) refl h parts.0 (λ rest. met_by some all xs rest parts.1 tells)
  where
    go : (b : Bool) → some x ≡ b → IsTrue (b || list_any some xs) → IsTrue (all x) → (IsTrue (list_any some xs) → P) → P
    go true e any each later = tells x e each
    go false e any each later = later any

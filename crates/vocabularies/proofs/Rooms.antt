-- Keeping terms one after another while there is room gives the first different ones.
use Rattle.std.proofs.Common.{◌≡◌, ℕ, ◌+◌, ◌<◌, ◌≤◌, Bool, true, false, cond, drop, get_or, map, List, [], ◌∷◌, ◌++◌, length, fold, refl, sym, ap, ◌∙◌, arith, append-nil, append_assoc, length-append}
use Rattle.std.proofs.lemmas.Bool.{ltb-true, ltb-false, lt-ltb, le-ltb}
use Rattle.std.proofs.lemmas.List.{take_all, take-append-le, at_drop_more, drop_all}
use Rattle.std.specs.Prelude.{nat_lt, take}
use Rattle.std.specs.List.{list_any}
use Rattle.linear_terms.specs.Equality.{poly_eq}
use Rattle.linear_terms.specs.Polynomial.{Polynomial}
use Rattle.polyhedra.specs.Directions.{with_new}
use Rattle.syntax_tree.specs.declared.core_expr.Core.{Core}
use Rattle.syntax_tree.specs.declared.stmt.Stmt.{Stmt}
use Rattle.syntax_tree.specs.Term.{term_of}
use Rattle.syntax_tree.specs.Code.{code_of, statement_of}
use Rattle.vocabularies.specs.Harvest.{most_terms, compared_terms, compared_each, compared_by, compared_in, harvest_of}
use Rattle.vocabularies.specs.Room.{with_term, with_terms}

pub with_terms-none : (terms : List Polynomial) → with_terms terms [] ≡ terms
unfolding with_terms
with_terms-none terms = refl

pub with_terms-both : (terms more last : List Polynomial) → with_terms terms (more ++ last) ≡ with_terms (with_terms terms more) last
unfolding with_terms
with_terms-both terms [] last = refl
with_terms-both terms (p ∷ more) last = with_terms-both (with_term terms p) more last

abbrev all_new : List Polynomial → List Polynomial → List Polynomial
all_new made xs = fold (with_new poly_eq) made xs

-- what is made so far stays in front
grown : (made xs : List Polynomial) → (rest : List Polynomial) × (all_new made xs ≡ made ++ rest)
grown made [] = ([], sym (append-nil made))
grown made (x ∷ xs) = one (list_any (poly_eq x) made) (grown made xs) (grown (made ++ x ∷ []) xs)
  where
    one : (b : Bool) → (rest : List Polynomial) × (all_new made xs ≡ made ++ rest) → (rest : List Polynomial) × (all_new (made ++ x ∷ []) xs ≡ (made ++ x ∷ []) ++ rest)
        → (rest : List Polynomial) × (all_new (cond b made (made ++ x ∷ [])) xs ≡ made ++ rest)
    one true same longer = same
    one false same longer = (x ∷ longer.0, longer.1 ∙ append_assoc made (x ∷ []) longer.0)

-- with no room left, the first are those that are there
full : (made xs : List Polynomial) → length made ≡ most_terms → take most_terms (all_new made xs) ≡ made
full made xs h =
    let more = grown made xs in
    ap (take most_terms) more.1 ∙ take-append-le most_terms made more.0 (omega (arith, h)) ∙ take_all most_terms made (omega (arith, h))

with_new-length : (made : List Polynomial) (x : Polynomial) → length made < most_terms → length (with_new poly_eq made x) ≤ most_terms
with_new-length made x h = go (list_any (poly_eq x) made)
  where
    go : (b : Bool) → length (cond b made (made ++ x ∷ [])) ≤ most_terms
    go true = omega (arith, h)
    go false = omega (arith, h, length-append made (x ∷ []))

-- as long as there is room, each new one is kept
room : (made xs : List Polynomial) → length made ≤ most_terms → take most_terms (all_new made xs) ≡ fold with_term made xs
room made [] h = take_all most_terms made h
room made (x ∷ xs) h = go (nat_lt (length made) most_terms) refl (λ k. room (with_new poly_eq made x) xs (with_new-length made x k)) (room made xs h)
  where
    go : (b : Bool) → nat_lt (length made) most_terms ≡ b → (length made < most_terms → take most_terms (all_new (with_new poly_eq made x) xs) ≡ fold with_term (with_new poly_eq made x) xs)
        → take most_terms (all_new made xs) ≡ fold with_term made xs
        → take most_terms (all_new made (x ∷ xs)) ≡ fold with_term (cond b (with_new poly_eq made x) made) xs
    go true e kept same = kept (ltb-true (length made) most_terms e)
    go false e kept same =
        let none = ltb-false (length made) most_terms e in
        full made (x ∷ xs) (omega (arith, none, h)) ∙ sym (full made xs (omega (arith, none, h))) ∙ same

pub harvest-made : (body : List Stmt) → harvest_of body ≡ with_terms [] (compared_in (code_of body))
unfolding harvest_of with_terms
harvest-made body = room [] (compared_in (code_of body)) (omega arith)

-- where the terms of a list are those of its first element and then those of the others: what one
-- element more adds, and what is added at the end
module _ {X : Type 0} (own : X → List Polynomial) (all : List X → List Polynomial) (parts : (x : X) (rest : List X) → all (x ∷ rest) ≡ own x ++ all rest)
    (none : all [] ≡ []) where
  listed-next : (xs : List X) (i : ℕ) (x : X) (terms next whole : List Polynomial) → i < length xs → x ≡ get_or xs i x
      → with_terms terms (all (drop i xs)) ≡ whole → next ≡ with_terms terms (own x) → with_terms next (all (drop (i + 1) xs)) ≡ whole
  listed-next xs i x terms next whole lt is so_far added =
      ap (λ ts. with_terms ts (all (drop (i + 1) xs))) added
      ∙ sym (with_terms-both terms (own x) (all (drop (i + 1) xs)))
      ∙ ap (with_terms terms) (sym (parts x (drop (i + 1) xs)))
      ∙ ap (λ y. with_terms terms (all (y ∷ drop (i + 1) xs))) is
      ∙ sym (at_drop_more (λ rest. with_terms terms (all rest)) xs i x lt) ∙ so_far

  listed-end : (xs : List X) (i : ℕ) (terms whole : List Polynomial) → length xs ≤ i → with_terms terms (all (drop i xs)) ≡ whole → terms ≡ whole
  listed-end xs i terms whole le so_far =
      sym (with_terms-none terms) ∙ ap (with_terms terms) (sym none) ∙ ap (λ rest. with_terms terms (all rest)) (sym (drop_all i xs le)) ∙ so_far

pub code-next : (stmts : List Stmt) (i : ℕ) (stmt : Stmt) (terms next whole : List Polynomial) → i < length stmts → stmt ≡ get_or stmts i stmt
    → with_terms terms (compared_in (code_of (drop i stmts))) ≡ whole → next ≡ with_terms terms (compared_by (statement_of stmt))
    → with_terms next (compared_in (code_of (drop (i + 1) stmts))) ≡ whole
code-next = listed-next (λ s. compared_by (statement_of s)) (λ stmts. compared_in (code_of stmts)) (λ s rest. refl) refl

pub code-end : (stmts : List Stmt) (i : ℕ) (terms whole : List Polynomial) → length stmts ≤ i → with_terms terms (compared_in (code_of (drop i stmts))) ≡ whole → terms ≡ whole
code-end = listed-end (λ s. compared_by (statement_of s)) (λ stmts. compared_in (code_of stmts)) (λ s rest. refl) refl

pub each-next : (es : List Core) (i : ℕ) (e : Core) (terms next whole : List Polynomial) → i < length es → e ≡ get_or es i e
    → with_terms terms (compared_each (map term_of (drop i es))) ≡ whole → next ≡ with_terms terms (compared_terms (term_of e))
    → with_terms next (compared_each (map term_of (drop (i + 1) es))) ≡ whole
each-next = listed-next (λ e. compared_terms (term_of e)) (λ es. compared_each (map term_of es)) (λ e rest. refl) refl

pub each-end : (es : List Core) (i : ℕ) (terms whole : List Polynomial) → length es ≤ i → with_terms terms (compared_each (map term_of (drop i es))) ≡ whole → terms ≡ whole
each-end = listed-end (λ e. compared_terms (term_of e)) (λ es. compared_each (map term_of es)) (λ e rest. refl) refl

-- one term: it is new, it is there, or there is no room
pub term-new : (terms : List Polynomial) (p : Polynomial) → length terms < most_terms → list_any (poly_eq p) terms ≡ false → terms ++ p ∷ [] ≡ with_terms terms (p ∷ [])
unfolding with_terms
term-new terms p h new = λ i. cond (sym (lt-ltb (length terms) most_terms h) i) (cond (sym new i) terms (terms ++ p ∷ [])) terms

pub term-known : (terms : List Polynomial) (p : Polynomial) → length terms < most_terms → list_any (poly_eq p) terms ≡ true → terms ≡ with_terms terms (p ∷ [])
unfolding with_terms
term-known terms p h known = λ i. cond (sym (lt-ltb (length terms) most_terms h) i) (cond (sym known i) terms (terms ++ p ∷ [])) terms

pub term-full : (terms more : List Polynomial) → most_terms ≤ length terms → terms ≡ with_terms terms more
unfolding with_terms
term-full terms [] h = refl
term-full terms (p ∷ more) h = term-full terms more h ∙ (λ i. fold with_term (cond (sym (le-ltb (length terms) most_terms h) i) (with_new poly_eq terms p) terms) more)

pub ruleset rooms = (with_terms-none, with_terms-both)

pub ruleset harvests = (harvest-made)

-- What the code knows of a polynomial that is no want of memory: it is the stated one.
use Rattle.std.proofs.Common.{◌≡◌, ◌≢◌, ℕ, zero, suc, ◌<◌, length, get_or, arith, List, [], ◌∷◌, ◌++◌, Option, Some, None, Result, Ok, Err, refl, sym, ap, ◌∙◌, append_assoc, append-nil, ◌+◌, ◌≤◌, drop}
use Rattle.std.specs.List.{cons_option}
use Rattle.std.proofs.lemmas.List.{drop_all}
use Rattle.transition_formula.proofs.Loops.{at_index}
use Rattle.linear_terms.specs.declared.row.Kind.{Kind}
use Rattle.linear_terms.specs.declared.row.Row.{Row}
use Rattle.transition_formula.specs.declared.loss.Loss.{Loss}
use Rattle.transition_formula.specs.Loss.{losses_of}
use Rattle.transition_formula.specs.Composition.{row_of}
use Rattle.leaf_cases.specs.Claims.{Answer, Claim, rows_of, claim_losses}
use Rattle.items.specs.Gives.{Gives}
use Rattle.linear_terms.specs.declared.error.TermError.{TermError}
use Rattle.linear_terms.specs.declared.error.TermError.TheVariants.{Wide, Degree, Memory}
use Rattle.linear_terms.specs.Polynomial.{Polynomial}
use Rattle.linear_terms.specs.TermError.{cause}

pub stated_is : (made stated : Result Polynomial TermError) → Gives cause (λ p. p) made stated → made ≢ Err Memory → stated ≡ made
stated_is (Ok p) stated gives told = gives
stated_is (Err (Wide left right times)) stated gives told = gives
stated_is (Err Degree) stated gives told = gives
stated_is (Err Memory) stated gives told = absurd (told refl)

-- ---- rows that are added one by one

rows_of-append : (xs ys : List Claim) → rows_of (xs ++ ys) ≡ rows_of xs ++ rows_of ys
rows_of-append [] ys = refl
rows_of-append (x ∷ xs) ys = go (row_of x.kind x.poly) (rows_of-append xs ys)
  where
    go : (o : Option Row) → rows_of (xs ++ ys) ≡ rows_of xs ++ rows_of ys → cons_option o (rows_of (xs ++ ys)) ≡ cons_option o (rows_of xs) ++ rows_of ys
    go None e = e
    go (Some row) e = ap (λ l. row ∷ l) e

lost_of-append : (xs ys : List Claim) → claim_losses (xs ++ ys) ≡ claim_losses xs ++ claim_losses ys
lost_of-append [] ys = refl
lost_of-append (x ∷ xs) ys = ap (λ l. losses_of x.poly ++ l) (lost_of-append xs ys) ∙ sym (append_assoc (losses_of x.poly) (claim_losses xs) (claim_losses ys))

abbrev claim : Kind → Answer → Claim
claim kind poly = record { kind = kind; poly = poly }

-- one more claim behind those that are made, by the polynomial that the code has
pub claim_made : (old before after : List Row) (claims : List Claim) (kind : Kind) (made stated : Answer) → before ≡ old ++ rows_of claims → Gives cause (λ p. p) made stated → made ≢ Err Memory
    → after ≡ before ++ rows_of (claim kind made ∷ []) → after ≡ old ++ rows_of (claims ++ claim kind stated ∷ [])
claim_made old before after claims kind made stated e gives told pushed =
    pushed
    ∙ (λ i. e i ++ rows_of (claim kind (sym (stated_is made stated gives told) i) ∷ []))
    ∙ append_assoc old (rows_of claims) (rows_of (claim kind stated ∷ []))
    ∙ ap (λ l. old ++ l) (sym (rows_of-append claims (claim kind stated ∷ [])))

pub claim_noted : (old before after : List Loss) (claims : List Claim) (kind : Kind) (made stated : Answer) → before ≡ old ++ claim_losses claims → Gives cause (λ p. p) made stated → made ≢ Err Memory
    → after ≡ before ++ losses_of made → after ≡ old ++ claim_losses (claims ++ claim kind stated ∷ [])
claim_noted old before after claims kind made stated e gives told pushed =
    pushed
    ∙ (λ i. e i ++ losses_of (sym (stated_is made stated gives told) i))
    ∙ append_assoc old (claim_losses claims) (losses_of stated)
    ∙ ap (λ l. old ++ (claim_losses claims ++ l)) (sym (append-nil (losses_of stated)))
    ∙ ap (λ l. old ++ l) (sym (lost_of-append claims (claim kind stated ∷ [])))

-- which default is given does not matter inside a list
pub default_free : {X : Type 0} (xs : List X) (i : ℕ) (d e : X) → i < length xs → get_or xs i d ≡ get_or xs i e
default_free [] i d e h = absurd (omega arith)
default_free (x ∷ xs) zero d e h = refl
default_free (x ∷ xs) (suc i) d e h = default_free xs i d e (omega arith)

-- one more copy behind those that are made
pub one_copied : {X : Type 0} (xs : List X) (i : ℕ) (x y : X) (made next : List X) → i < length xs → x ≡ get_or xs i x → y ≡ x → next ≡ made ++ y ∷ [] → next ++ drop (i + 1) xs ≡ made ++ drop i xs
one_copied xs i x y made next h e same pushed =
    ap (λ l. l ++ drop (i + 1) xs) pushed ∙ append_assoc made (y ∷ []) (drop (i + 1) xs) ∙ (λ j. made ++ (same j ∷ drop (i + 1) xs)) ∙ ap (λ l. made ++ l) (sym (at_index xs i x h e))

pub all_copied : {X : Type 0} (xs : List X) (i : ℕ) (made : List X) → length xs ≤ i → made ++ drop i xs ≡ xs → made ≡ xs
all_copied xs i made h e = sym (append-nil made) ∙ ap (λ l. made ++ l) (sym (drop_all i xs h)) ∙ e

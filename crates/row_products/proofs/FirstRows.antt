-- Rows that are gathered one by one, while there is room, are the first of all new ones.
use Rattle.std.proofs.Common.{◌≡◌, ℕ, zero, suc, ◌+◌, Bool, true, false, cond, List, [], ◌∷◌, ◌++◌, length, take, refl, sym, ap, ◌∙◌, arith, length-append, append_assoc}
use Rattle.std.specs.Prelude.{Option, None, Some, ◌||◌, nat_le}
use Rattle.std.specs.List.{filter_map, list_any}
use Rattle.std.proofs.Math.Seq.{take-nil}
use Rattle.std.proofs.lemmas.Bool.Decides.{nat_tests}
use Rattle.std.proofs.lemmas.List.{append-nil}
use Rattle.std.proofs.lemmas.List.Folds.{list_any-append}
use Rattle.std.proofs.lemmas.List.Sums.{fold-append}
use Rattle.linear_terms.specs.declared.row.Row.{Row}
use Rattle.row_products.specs.Limits.{most_products}
use Rattle.row_products.specs.Offers.{is_left_out, with_offer, with_offers}
use Rattle.row_products.specs.Products.{high_monos, new_rows, offers_of, products, same_row}

-- the new ones of the rows that are offered
abbrev news : List (Option Row) → List Row → List Row
news offers before = new_rows before (filter_map (λ row. row) offers)

pub with_offer-full : (most : ℕ) (rows made : List Row) (offer : Option Row)
    → nat_le most (length made) ≡ true → with_offer most rows made offer ≡ made
with_offer-full most rows made None full = refl
with_offer-full most rows made (Some row) full =
    ap (λ b. cond (b || list_any (same_row row) rows || list_any (same_row row) made) made (made ++ row ∷ [])) full

pub with_offers-append : (most : ℕ) (rows made : List Row) (some more : List (Option Row))
    → with_offers most rows made (some ++ more) ≡ with_offers most rows (with_offers most rows made some) more
with_offers-append most rows made some more = fold-append (with_offer most rows) made some more

-- whether there is room
le-full : (most l : ℕ) → zero + l ≡ most → nat_le most l ≡ true
le-full most l e = grind (arith, nat_tests)

le-room : (k most l : ℕ) → suc k + l ≡ most → nat_le most l ≡ false
le-room k most l e = grind (arith, nat_tests)

room-less : (k most : ℕ) (made : List Row) (row : Row) → suc k + length made ≡ most → k + length (made ++ row ∷ []) ≡ most
room-less k most made row e = omega (arith, length-append made (row ∷ []))

pub with_offers-new : (n most : ℕ) (rows made : List Row) (offers : List (Option Row)) → n + length made ≡ most
    → with_offers most rows made offers ≡ made ++ take n (news offers (rows ++ made))
with_offers-new n most rows made [] e = sym (ap (λ ys. made ++ ys) (take-nil n) ∙ append-nil made)
with_offers-new n most rows made (None ∷ offers) e = with_offers-new n most rows made offers e
with_offers-new zero most rows made (Some row ∷ offers) e =
    ap (λ ys. with_offers most rows ys offers) (with_offer-full most rows made (Some row) (le-full most (length made) e))
    ∙ with_offers-new zero most rows made offers e
with_offers-new (suc k) most rows made (Some row ∷ offers) e =
    go (list_any (same_row row) (rows ++ made)) refl (with_offers-new (suc k) most rows made offers e) (with_offers-new k most rows (made ++ row ∷ []) offers (room-less k most made row e))
  where
    left_out : is_left_out most rows made row ≡ list_any (same_row row) (rows ++ made)
    left_out =
        ap (λ b. b || list_any (same_row row) rows || list_any (same_row row) made) (le-room k most (length made) e)
        ∙ sym (list_any-append (same_row row) rows made)

    next : Bool → List Row
    next b = with_offers most rows (cond b made (made ++ row ∷ [])) offers

    go : (b : Bool) → list_any (same_row row) (rows ++ made) ≡ b
        → with_offers most rows made offers ≡ made ++ take (suc k) (news offers (rows ++ made))
        → with_offers most rows (made ++ row ∷ []) offers ≡ (made ++ row ∷ []) ++ take k (news offers (rows ++ (made ++ row ∷ [])))
        → with_offers most rows (cond (is_left_out most rows made row) made (made ++ row ∷ [])) offers
        ≡ made ++ take (suc k) (cond (list_any (same_row row) (rows ++ made)) (news offers (rows ++ made)) (row ∷ news offers ((rows ++ made) ++ row ∷ [])))
    go true f there other =
        ap (λ b. with_offers most rows (cond b made (made ++ row ∷ [])) offers) (left_out ∙ f)
        ∙ there
        ∙ sym (ap (λ b. made ++ take (suc k) (cond b (news offers (rows ++ made)) (row ∷ news offers ((rows ++ made) ++ row ∷ [])))) f)
    go false f there other =
        ap (λ b. with_offers most rows (cond b made (made ++ row ∷ [])) offers) (left_out ∙ f)
        ∙ other
        ∙ append_assoc made (row ∷ []) (take k (news offers (rows ++ (made ++ row ∷ []))))
        ∙ ap (λ before. made ++ row ∷ take k (news offers before)) (sym (append_assoc rows made (row ∷ [])))
        ∙ sym (ap (λ b. made ++ take (suc k) (cond b (news offers (rows ++ made)) (row ∷ news offers ((rows ++ made) ++ row ∷ [])))) f)

-- all that is offered, gathered from nothing
pub with_offers-first : (most : ℕ) (rows : List Row) (offers : List (Option Row)) → with_offers most rows [] offers ≡ take most (news offers rows)
with_offers-first most rows offers =
    with_offers-new most most rows [] offers (omega arith) ∙ ap (λ before. take most (news offers before)) (append-nil rows)

pub products-gathered : (rows : List Row) → with_offers most_products rows [] (offers_of (high_monos rows) rows) ≡ products rows
products-gathered rows = with_offers-first most_products rows (offers_of (high_monos rows) rows)

pub ruleset gathered = (with_offer-full, with_offers-append, products-gathered)

use Rattle.std.proofs.Common.{◌≡◌, [], length, fold, refl, sym, ap, subst, ◌∙◌}
use Rattle.std.specs.Prelude.{◌&&◌, unwrap_or}
use Rattle.posing.proofs.Following.{stops}
use Rattle.posing.proofs.Steps.{value_first, error_first, at_end}
use Rattle.recurrence.specs.Products.{unmodified_columns, with_term, with_terms}
use Rattle.recurrence.specs.Strata.{over, stratum_if, is_short, has_grown, strata}
use Rattle.recurrence.specs.Words.{IsClosed, unmodified_columns_by}
use Rattle.recurrence.proofs.RisingNumbers.{unchanged-same}
use Rattle.recurrence.proofs.SolvedColumns.{terms-closed, unchanged-closed}
use Rattle.recurrence.proofs.stratifying.strata_of.Goals as goal

pub one_stratum-requires : goal.one_stratum-requires
one_stratum-requires g c = c.requires.movement

pub next_stratum-requires : goal.next_stratum-requires
next_stratum-requires g c =
    let body = c.args.body.formula.now in
    let ms = c.args.products.now in
    let moving = c.as_slice-moving.ensures ∙ c.requires.movement.moving in
    let none : c.in_ok-unsolved.unsolved ≡ unmodified_columns body ms =
    c.in_ok-unsolved.ensures ∙ (λ i. unmodified_columns_by ((c.as_slice-modified.ensures ∙ c.requires.movement.modified) i) (c.to.ensures i) ms) ∙ unchanged-same body ms in
    let some : c.in_ok-known.known ≡ with_terms body (unmodified_columns body ms) c.in_ok-first.first =
    c.in_ok-known.ensures ∙ (λ i. fold (with_term (moving i)) (none i) (unwrap_or c.in_ok-first.first [])) in
    let solved : c.as_slice-solved.result.now ≡ with_terms body (unmodified_columns body ms) c.in_ok-first.first = c.as_slice-solved.ensures ∙ some in
    record {
      ends = c.requires.ends;
      movement = c.requires.movement;
      closed = subst IsClosed (sym solved) (terms-closed body (unmodified_columns body ms) c.in_ok-first.first (unchanged-closed body ms));
    }

pub next_stratum-requires-2 : goal.next_stratum-requires-2
next_stratum-requires-2 g c =
    let body = c.args.body.formula.now in
    let ms = c.args.products.now in
    let moving = c.as_slice-moving.ensures ∙ c.requires.movement.moving in
    let none : c.in_ok-unsolved.unsolved ≡ unmodified_columns body ms =
    c.in_ok-unsolved.ensures ∙ (λ i. unmodified_columns_by ((c.as_slice-modified.ensures ∙ c.requires.movement.modified) i) (c.to.ensures i) ms) ∙ unchanged-same body ms in
    let some : c.in_ok-known.known ≡ with_terms body (unmodified_columns body ms) c.in_ok-first.first =
    c.in_ok-known.ensures ∙ (λ i. fold (with_term (moving i)) (none i) (unwrap_or c.in_ok-first.first [])) in
    let solved : c.as_slice-solved.result.now ≡ with_terms body (unmodified_columns body ms) c.in_ok-first.first = c.as_slice-solved.ensures ∙ some in
    let all : c.as_slice-all_solved.result.now ≡ with_terms body (with_terms body (unmodified_columns body ms) c.in_ok-first.first) c.in_ok-second.second =
    c.as_slice-all_solved.ensures ∙ c.in_ok-more.ensures ∙ (λ i. fold (with_term (moving i)) (some i) (unwrap_or c.in_ok-second.second [])) in
    record {
      ends = c.requires.ends;
      movement = c.requires.movement;
      closed = subst IsClosed (sym all)
          (terms-closed body (with_terms body (unmodified_columns body ms) c.in_ok-first.first) c.in_ok-second.second (terms-closed body (unmodified_columns body ms) c.in_ok-first.first (unchanged-closed body ms)));
    }

pub returns-in_err-unsolved : goal.returns-in_err-unsolved
returns-in_err-unsolved g c = stops _ _ _ _ _ _ refl c.from_residual.ensures.1

pub returns-in_err-first : goal.returns-in_err-first
unfolding strata
returns-in_err-first g c = error_first _ c.in_err-first.ensures refl c.from_residual-in_err-first.ensures.1

pub returns-in_err-known : goal.returns-in_err-known
unfolding strata
returns-in_err-known g c = value_first _ c.in_ok-first.ensures refl (stops _ _ _ _ _ _ refl c.from_residual-in_err-known.ensures.1)

pub returns-in_err-second : goal.returns-in_err-second
unfolding strata
returns-in_err-second g c =
    let body = c.args.body.formula.now in
    let ms = c.args.products.now in
    let moving = c.as_slice-moving.ensures ∙ c.requires.movement.moving in
    let none : c.in_ok-unsolved.unsolved ≡ unmodified_columns body ms =
    c.in_ok-unsolved.ensures ∙ (λ i. unmodified_columns_by ((c.as_slice-modified.ensures ∙ c.requires.movement.modified) i) (c.to.ensures i) ms) ∙ unchanged-same body ms in
    let some : c.in_ok-known.known ≡ with_terms body (unmodified_columns body ms) c.in_ok-first.first =
    c.in_ok-known.ensures ∙ (λ i. fold (with_term (moving i)) (none i) (unwrap_or c.in_ok-first.first [])) in
    let solved : c.as_slice-solved.result.now ≡ with_terms body (unmodified_columns body ms) c.in_ok-first.first = c.as_slice-solved.ensures ∙ some in
    let most = c.len-most.ensures ∙ ap length c.requires.movement.modified in
    let asked = c.is_short-asked.ensures ∙ (λ i. is_short (most i) c.in_ok-first.first) in
    value_first _ c.in_ok-first.ensures refl (error_first _ c.in_err-second.ensures (λ i. stratum_if (asked i) body (over body ms (solved i) c.in_ok-first.first)) c.from_residual-in_err-second.ensures.1)

pub returns-in_err-more : goal.returns-in_err-more
unfolding strata
returns-in_err-more g c =
    let body = c.args.body.formula.now in
    let ms = c.args.products.now in
    let moving = c.as_slice-moving.ensures ∙ c.requires.movement.moving in
    let none : c.in_ok-unsolved.unsolved ≡ unmodified_columns body ms =
    c.in_ok-unsolved.ensures ∙ (λ i. unmodified_columns_by ((c.as_slice-modified.ensures ∙ c.requires.movement.modified) i) (c.to.ensures i) ms) ∙ unchanged-same body ms in
    let some : c.in_ok-known.known ≡ with_terms body (unmodified_columns body ms) c.in_ok-first.first =
    c.in_ok-known.ensures ∙ (λ i. fold (with_term (moving i)) (none i) (unwrap_or c.in_ok-first.first [])) in
    let solved : c.as_slice-solved.result.now ≡ with_terms body (unmodified_columns body ms) c.in_ok-first.first = c.as_slice-solved.ensures ∙ some in
    let most = c.len-most.ensures ∙ ap length c.requires.movement.modified in
    let asked = c.is_short-asked.ensures ∙ (λ i. is_short (most i) c.in_ok-first.first) in
    value_first _ c.in_ok-first.ensures refl (value_first _ c.in_ok-second.ensures (λ i. stratum_if (asked i) body (over body ms (solved i) c.in_ok-first.first)) (stops _ _ _ _ _ _ refl c.from_residual-in_err-more.ensures.1))

pub returns-in_err-third : goal.returns-in_err-third
unfolding strata
returns-in_err-third g c =
    let body = c.args.body.formula.now in
    let ms = c.args.products.now in
    let moving = c.as_slice-moving.ensures ∙ c.requires.movement.moving in
    let none : c.in_ok-unsolved.unsolved ≡ unmodified_columns body ms =
    c.in_ok-unsolved.ensures ∙ (λ i. unmodified_columns_by ((c.as_slice-modified.ensures ∙ c.requires.movement.modified) i) (c.to.ensures i) ms) ∙ unchanged-same body ms in
    let some : c.in_ok-known.known ≡ with_terms body (unmodified_columns body ms) c.in_ok-first.first =
    c.in_ok-known.ensures ∙ (λ i. fold (with_term (moving i)) (none i) (unwrap_or c.in_ok-first.first [])) in
    let solved : c.as_slice-solved.result.now ≡ with_terms body (unmodified_columns body ms) c.in_ok-first.first = c.as_slice-solved.ensures ∙ some in
    let all : c.as_slice-all_solved.result.now ≡ with_terms body (with_terms body (unmodified_columns body ms) c.in_ok-first.first) c.in_ok-second.second =
    c.as_slice-all_solved.ensures ∙ c.in_ok-more.ensures ∙ (λ i. fold (with_term (moving i)) (some i) (unwrap_or c.in_ok-second.second [])) in
    let most = c.len-most.ensures ∙ ap length c.requires.movement.modified in
    let asked = c.is_short-asked.ensures ∙ (λ i. is_short (most i) c.in_ok-first.first) in
    let again = c.asks_third-again.ensures ∙ (λ i. has_grown c.in_ok-first.first c.in_ok-second.second && is_short (most i) c.in_ok-second.second) in
    value_first _ c.in_ok-first.ensures refl
    (value_first _ c.in_ok-second.ensures (λ i. stratum_if (asked i) body (over body ms (solved i) c.in_ok-first.first))
    (error_first _ c.in_err-third.ensures (λ i. stratum_if (again i) body (over body ms (all i) c.in_ok-second.second)) c.from_residual-in_err-third.ensures.1))

pub returns : goal.returns
unfolding strata
returns g c =
    let body = c.args.body.formula.now in
    let ms = c.args.products.now in
    let moving = c.as_slice-moving.ensures ∙ c.requires.movement.moving in
    let none : c.in_ok-unsolved.unsolved ≡ unmodified_columns body ms =
    c.in_ok-unsolved.ensures ∙ (λ i. unmodified_columns_by ((c.as_slice-modified.ensures ∙ c.requires.movement.modified) i) (c.to.ensures i) ms) ∙ unchanged-same body ms in
    let some : c.in_ok-known.known ≡ with_terms body (unmodified_columns body ms) c.in_ok-first.first =
    c.in_ok-known.ensures ∙ (λ i. fold (with_term (moving i)) (none i) (unwrap_or c.in_ok-first.first [])) in
    let solved : c.as_slice-solved.result.now ≡ with_terms body (unmodified_columns body ms) c.in_ok-first.first = c.as_slice-solved.ensures ∙ some in
    let all : c.as_slice-all_solved.result.now ≡ with_terms body (with_terms body (unmodified_columns body ms) c.in_ok-first.first) c.in_ok-second.second =
    c.as_slice-all_solved.ensures ∙ c.in_ok-more.ensures ∙ (λ i. fold (with_term (moving i)) (some i) (unwrap_or c.in_ok-second.second [])) in
    let most = c.len-most.ensures ∙ ap length c.requires.movement.modified in
    let asked = c.is_short-asked.ensures ∙ (λ i. is_short (most i) c.in_ok-first.first) in
    let again = c.asks_third-again.ensures ∙ (λ i. has_grown c.in_ok-first.first c.in_ok-second.second && is_short (most i) c.in_ok-second.second) in
    value_first _ c.in_ok-first.ensures refl
    (value_first _ c.in_ok-second.ensures (λ i. stratum_if (asked i) body (over body ms (solved i) c.in_ok-first.first))
    (value_first _ c.in_ok-third.ensures (λ i. stratum_if (again i) body (over body ms (all i) c.in_ok-second.second))
    (at_end (λ i. record { first = c.terms_in.ensures i; second = c.terms_in-2.ensures i; third = c.terms_in-3.ensures i }))))

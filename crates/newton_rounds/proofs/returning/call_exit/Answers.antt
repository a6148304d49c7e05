use Rattle.std.proofs.Common.{◌≡◌, ◌+◌, ◌∙◌, [], ◌∷◌, ◌++◌, length, sym, ap, subst, arith}
use Rattle.linear_terms.specs.declared.row.Case.{Case}
use Rattle.transition_formula.specs.Transition.{IsTransition}
use Rattle.newton_rounds.specs.Pairs.{call_exit, columns_from, exit_columns, posts_after_return}
use Rattle.newton_rounds.proofs.PostFormulas.{exit-fits, exits-length}
use Rattle.newton_rounds.proofs.returning.call_exit.Goals as goal

pub posts_after_return-requires-clause-values : goal.posts_after_return-requires-clause-values
posts_after_return-requires-clause-values c =
    let long = ap length (c.as_slice.ensures ∙ c.in_ok-values.ensures) ∙ exits-length c.args.exit in
    let enough = c.requires.globals in
    omega (arith, long, enough)

pub from_cases-requires : goal.from_cases-requires
from_cases-requires c =
    let columns = c.args.columns in
    let globals = c.args.globals in
    let into = c.args.into in
    let entry = c.args.entry in
    let exit = c.args.exit in
    let posts : c.append-2.new.self ≡ posts_after_return columns globals into (exit_columns exit) ++ (columns_from columns entry ++ exit_columns exit) =
    c.in_ok-append-2.ensures.ok
    ∙ (λ i. (c.in_ok-post.ensures ∙ ap (posts_after_return columns globals into) (c.as_slice.ensures ∙ c.in_ok-values.ensures)) i
    ++ (c.in_ok-append.ensures.ok ∙ (λ j. c.in_ok-carried.ensures j ++ c.in_ok-values.ensures j)) i) in
    let case : Case = record { aux = exit; rows = c.new.result; post = c.append-2.new.self } in
    let pushed : c.push.new.self ≡ (call_exit columns globals into entry exit).cases =
    c.in_ok-push.ensures.ok ∙ ap (λ l. l ++ case ∷ []) c.new-cases.ensures ∙ (λ i. record { aux = exit; rows = c.new.ensures i; post = posts i } ∷ []) in
    subst (IsTransition (columns + entry) (columns + entry + exit)) (sym pushed) (exit-fits columns globals into entry exit c.requires.globals c.requires.columns)

use Rattle.std.proofs.Common.{◌≡◌, ◌∷◌, [], ◌++◌, ◌∙◌, List, ℕ, sym, ap, subst}
use Rattle.std.specs.Prelude.{IfOk}
use Rattle.linear_terms.specs.declared.row.Case.{Case}
use Rattle.transition_formula.specs.Transition.{IsTransition}
use Rattle.newton_rounds.specs.Between.{GoesBetween}
use Rattle.newton_rounds.specs.Closure.{exits_told}
use Rattle.newton_rounds.specs.Pairs.{PairEnds}
use Rattle.newton_rounds.proofs.CandidateSummaries.{pairs-go, pairs_with}
use Rattle.newton_rounds.proofs.candidates.candidate_formula.Goals as goal

pub from_cases-pairs-requires : goal.from_cases-pairs-requires
from_cases-pairs-requires c =
    let m = c.args.member.now in
    let rows = c.args.rows.now in
    let cases : c.push.new.self ≡ record { aux = 0; rows = rows; post = [] } ∷ [] =
    c.in_ok-push.ensures.ok ∙ (λ i. c.new-cases.ensures i ++ record { aux = 0; rows = c.in_ok-row_copies.ensures i; post = c.new.ensures i } ∷ []) in
    let wide = c.columns.ensures.columns ∙ ap (λ (p : PairEnds). p.pair.columns) c.member.view_is in
    subst (λ (t : ℕ × List Case). IsTransition t.0 0 t.1) (λ i. (sym wide i, sym cases i)) (pairs-go m rows c.requires.rows).fits

pub exits_told-requires-clause-over : goal.exits_told-requires-clause-over
exits_told-requires-clause-over c =
    let m = c.args.member.now in
    let rows = c.args.rows.now in
    let cases : c.push.new.self ≡ record { aux = 0; rows = rows; post = [] } ∷ [] =
    c.in_ok-push.ensures.ok ∙ (λ i. c.new-cases.ensures i ++ record { aux = 0; rows = c.in_ok-row_copies.ensures i; post = c.new.ensures i } ∷ []) in
    let same : c.from_cases-pairs.result ≡ pairs_with m rows =
    c.from_cases-pairs.ensures ∙ (λ i. record { from = (c.columns.ensures.columns ∙ ap (λ (p : PairEnds). p.pair.columns) c.member.view_is) i; to = 0; cases = cases i }) in
    subst (GoesBetween 2000 m.pair.columns 0) (sym same) (pairs-go m rows c.requires.rows)

pub returns : goal.returns
returns c =
    let m = c.args.member.now in
    let rows = c.args.rows.now in
    let cases : c.push.new.self ≡ record { aux = 0; rows = rows; post = [] } ∷ [] =
    c.in_ok-push.ensures.ok ∙ (λ i. c.new-cases.ensures i ++ record { aux = 0; rows = c.in_ok-row_copies.ensures i; post = c.new.ensures i } ∷ []) in
    let same : c.from_cases-pairs.result ≡ pairs_with m rows =
    c.from_cases-pairs.ensures ∙ (λ i. record { from = (c.columns.ensures.columns ∙ ap (λ (p : PairEnds). p.pair.columns) c.member.view_is) i; to = 0; cases = cases i }) in
    subst (λ t. IfOk c.exits_told.result (λ f. f ≡ t)) (ap (exits_told m) same) c.exits_told.ensures.made

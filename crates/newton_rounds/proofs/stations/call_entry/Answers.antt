use Rattle.std.proofs.Common.{◌≡◌, ℕ, ◌+◌, ◌<◌, ◌^◌, ◌++◌, ◌∙◌, List, length, map, sym, ap, subst, arith}
use Rattle.std.specs.Prelude.{All}
use Rattle.std.proofs.lemmas.List.{length-map}
use Rattle.std.proofs.lemmas.List.Elements.{All-from_recursion, recursion_from_All}
use Rattle.std.proofs.lemmas.Simd.{map-map}
use Rattle.linear_terms.specs.declared.row.Case.{Case}
use Rattle.syntax_tree.specs.Term.{term_of}
use Rattle.transition_formula.specs.Transition.{Transition, IsTransition}
use Rattle.leaf_cases.specs.Edges.{arguments_of, entering}
use Rattle.leaf_cases.specs.Guard.{columns_of, with_posts}
use Rattle.newton_rounds.specs.Pairs.{PairEnds, columns_from, entered_case}
use Rattle.newton_rounds.proofs.PostFormulas.{fronted-few, fronted-fits}
use Rattle.newton_rounds.proofs.stations.call_entry.Goals as goal

pub from_cases-requires : goal.from_cases-requires
from_cases-requires c =
    let columns = c.columns-columns.result in
    let entered = c.in_ok-entered.entered in
    let front = c.as_slice.ensures ∙ c.in_ok-front.ensures in
    let cases = c.cases.result.now in
    let made : c.in_ok-cases.cases ≡ map (λ (case : Case). with_posts (columns_from 0 columns ++ case.post) case) cases =
    c.in_ok-cases.ensures ∙ (λ i. map (λ (case : Case). with_posts (front i ++ case.post) case) cases) in
    subst (IsTransition columns (columns + c.to.result)) (sym made)
    (subst (λ n. IsTransition columns (columns + n) (map (λ (case : Case). with_posts (columns_from 0 columns ++ case.post) case) cases)) (sym c.to.ensures)
    (fronted-fits columns columns entered.to cases (omega arith)
    (subst (λ n. IsTransition n entered.to cases) (ap (λ (f : Transition). f.from) c.in_ok-entered.ensures.exact) c.cases.ensures.fit)))

pub returns-clause-made : goal.returns-clause-made
returns-clause-made c =
    let wide = c.columns-columns.ensures.columns ∙ ap (λ (m : PairEnds). m.ends.full.columns) c.caller.view_is in
    let globals = ap (λ (m : PairEnds). m.ends.globals) c.caller.view_is in
    let args = c.args.call.now.args in
    let all = (arguments_of (map term_of args)).cases in
    let m = c.args.caller.now.ends in
    let front = c.as_slice.ensures ∙ c.in_ok-front.ensures ∙ ap (columns_from 0) wide in
    let entered : c.in_ok-entered.entered ≡ entering m.full.columns m.globals (length (map term_of args)) all =
    c.in_ok-entered.ensures.exact
    ∙ (λ i. entering (wide i) (globals i) ((ap length c.as_slice-args.ensures ∙ sym (length-map args term_of)) i) (arguments_of (map term_of (c.as_slice-args.ensures i))).cases) in
    let cases : c.in_ok-cases.cases ≡ map (entered_case m.full.columns m.globals) all =
    c.in_ok-cases.ensures
    ∙ (λ i. map (λ (case : Case). with_posts (front i ++ case.post) case) ((c.cases.ensures.cases ∙ ap (λ (f : Transition). f.cases) entered) i))
    ∙ map-map (λ (case : Case). with_posts (columns_from 0 m.full.columns ++ case.post) case) (λ (case : Case). with_posts (columns_of m.globals ++ case.post) case) all in
    c.from_cases.ensures
    ∙ (λ i. record { from = wide i; to = wide i + (c.to.ensures ∙ ap (λ (f : Transition). f.to) entered) i; cases = cases i })

pub returns-clause-few : goal.returns-clause-few
returns-clause-few c =
    let few = λ (n : ℕ). n < 2 ^ 31 in
    let cases = c.cases.result.now in
    let entered = subst (λ (all : List Case). All (λ (case : Case). few case.aux) all) (sym c.cases.ensures.cases) c.in_ok-entered.ensures.few in
    let all = All-from_recursion (λ (case : Case). few case.aux) (map (λ (case : Case). with_posts (c.as_slice.result.now ++ case.post) case) cases)
    (fronted-few (λ (case : Case). c.as_slice.result.now ++ case.post) few cases (recursion_from_All (λ (case : Case). few case.aux) cases entered)) in
    subst (λ (f : Transition). All (λ (case : Case). few case.aux) f.cases) (sym c.from_cases.ensures)
    (subst (λ (made : List Case). All (λ (case : Case). few case.aux) made) (sym c.in_ok-cases.ensures) all)

pub returns-clause-fits : goal.returns-clause-fits
returns-clause-fits c =
    let columns = c.columns-columns.result in
    let entered = c.in_ok-entered.entered in
    let front = c.as_slice.ensures ∙ c.in_ok-front.ensures in
    let cases = c.cases.result.now in
    let made : c.in_ok-cases.cases ≡ map (λ (case : Case). with_posts (columns_from 0 columns ++ case.post) case) cases =
    c.in_ok-cases.ensures ∙ (λ i. map (λ (case : Case). with_posts (front i ++ case.post) case) cases) in
    subst (λ (f : Transition). IsTransition f.from f.to f.cases) (sym c.from_cases.ensures)
    (subst (IsTransition columns (columns + c.to.result)) (sym made)
    (subst (λ n. IsTransition columns (columns + n) (map (λ (case : Case). with_posts (columns_from 0 columns ++ case.post) case) cases)) (sym c.to.ensures)
    (fronted-fits columns columns entered.to cases (omega arith)
    (subst (λ n. IsTransition n entered.to cases) (ap (λ (f : Transition). f.from) c.in_ok-entered.ensures.exact) c.cases.ensures.fit))))

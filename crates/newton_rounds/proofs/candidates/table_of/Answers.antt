use Rattle.std.proofs.Common.{◌++◌, ◌∷◌, [], ◌+◌, ◌∙◌, append-nil, drop, sym, arith}
use Rattle.std.proofs.lemmas.List.{drop_all}
use Rattle.newton_rounds.specs.Between.{IsMember}
use Rattle.newton_rounds.specs.Candidates.{candidate_formula, table_of}
use Rattle.newton_rounds.proofs.GroupGraphs.{behind-more, each-read}
use Rattle.newton_rounds.proofs.CandidateSummaries.{candidate-at, candidates-length, next-candidate}
use Rattle.newton_rounds.proofs.candidates.table_of.Goals as goal

pub bounds-candidates-place : goal.bounds-candidates-place
bounds-candidates-place c = let long = candidates-length c.args.members.now c.args.candidates.now c.requires.candidates in let lt = c.loop-place-test.true in omega (arith, long, lt)

pub candidate_formula-requires-clause-member : goal.candidate_formula-requires-clause-member
candidate_formula-requires-clause-member c =
    each-read IsMember c.args.members.now c.loop-place.place c.index-members-place.result c.loop-place-test.true c.index-members-place.is c.requires.members

pub candidate_formula-requires-clause-rows : goal.candidate_formula-requires-clause-rows
candidate_formula-requires-clause-rows c =
    candidate-at c.args.members.now c.args.candidates.now c.loop-place.place c.index-members-place.result c.index-candidates-place.result c.loop-place-test.true c.index-members-place.is c.index-candidates-place.is c.requires.candidates

pub loop-place-preserved : goal.loop-place-preserved
loop-place-preserved c =
    let members = c.args.members.now in
    let candidates = c.args.candidates.now in
    let place = c.loop-place.place in
    let next = next-candidate members candidates place c.index-members-place.result c.index-candidates-place.result c.loop-place-test.true (candidates-length members candidates c.requires.candidates) c.index-members-place.is c.index-candidates-place.is in
    behind-more c.loop-place.table c.push.new.self (candidate_formula c.index-members-place.result c.index-candidates-place.result ∷ []) (table_of (drop (place + 1) members) (drop (place + 1) candidates)) _
    (c.in_ok-push.ensures.ok ∙ (λ i. c.loop-place.table ++ c.in_ok-candidate_formula.ensures i ∷ []))
    ((λ i. c.loop-place.table ++ sym next i) ∙ c.loop-place.invariant)

pub returns : goal.returns
returns c =
    let members = c.args.members.now in
    let candidates = c.args.candidates.now in
    let none = drop_all c.loop-place.place members c.loop-place-test.false in
    sym (append-nil c.loop-place.table) ∙ (λ i. c.loop-place.table ++ table_of (sym none i) (drop c.loop-place.place candidates)) ∙ c.loop-place.invariant

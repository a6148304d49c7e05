use Rattle.std.proofs.Common.{◌≡◌, ◌++◌, ◌∙◌, sym, subst, ap, arith}
use Rattle.std.specs.Prelude.{IfOk, OnOk}
use Rattle.transition_formula.specs.Composition.{sequence_of, losses_in_sequence}
use Rattle.transition_formula.specs.Transition.{AreFew, Transition}
use Rattle.newton_rounds.specs.Between.{chain_to}
use Rattle.newton_rounds.proofs.ChainFormulas.{base-read, bases-length, chain-read, end-few, meets}
use Rattle.newton_rounds.proofs.chains.chain_end.Goals as goal

pub bounds-bases-n : goal.bounds-bases-n
bounds-bases-n c = let long = bases-length c.args.parts.members.now c.args.parts.bases.now c.requires.chained.each_base in let lt = c.requires.there in omega (arith, long, lt)

pub seq-requires-clause-between : goal.seq-requires-clause-between
seq-requires-clause-between c =
    let chained = c.requires.chained in
    let first = chain-read c.args.parts.members.now c.args.parts.cells.now c.args.parts.place c.args.n c.width_at-from.result c.width_at-to.result c.index-cells-n.result c.in_ok-first.first
    (let each = chained.each_cell.each in let lt = c.requires.there in omega (arith, each, lt)) c.width_at-from.ensures c.width_at-to.ensures c.index-cells-n.is c.in_ok-first.ensures in
    let second = base-read c.args.parts.members.now c.args.parts.bases.now c.args.n c.index-bases-n.result c.requires.there chained.each_base c.index-bases-n.is in
    ap (λ (f : Transition). f.to) first ∙ meets c.args.parts.members.now c.args.parts.bases.now c.args.parts.place c.args.parts.cells.now chained c.args.n c.requires.there ∙ sym (ap (λ (f : Transition). f.from) second)

pub seq-requires-clause-few : goal.seq-requires-clause-few
seq-requires-clause-few c =
    let chained = c.requires.chained in
    let first = chain-read c.args.parts.members.now c.args.parts.cells.now c.args.parts.place c.args.n c.width_at-from.result c.width_at-to.result c.index-cells-n.result c.in_ok-first.first
    (let each = chained.each_cell.each in let lt = c.requires.there in omega (arith, each, lt)) c.width_at-from.ensures c.width_at-to.ensures c.index-cells-n.is c.in_ok-first.ensures in
    let second = base-read c.args.parts.members.now c.args.parts.bases.now c.args.n c.index-bases-n.result c.requires.there chained.each_base c.index-bases-n.is in
    subst (λ a. AreFew a c.index-bases-n.result) (sym first) (subst (AreFew (chain_to c.args.parts.members.now c.args.parts.cells.now c.args.parts.place c.args.n)) (sym second) (end-few c.args.parts.members.now c.args.parts.bases.now c.args.parts.place c.args.parts.cells.now chained c.args.n c.requires.there))

pub returns-clause-made : goal.returns-clause-made
returns-clause-made c =
    let chained = c.requires.chained in
    let first = chain-read c.args.parts.members.now c.args.parts.cells.now c.args.parts.place c.args.n c.width_at-from.result c.width_at-to.result c.index-cells-n.result c.in_ok-first.first
    (let each = chained.each_cell.each in let lt = c.requires.there in omega (arith, each, lt)) c.width_at-from.ensures c.width_at-to.ensures c.index-cells-n.is c.in_ok-first.ensures in
    let second = base-read c.args.parts.members.now c.args.parts.bases.now c.args.n c.index-bases-n.result c.requires.there chained.each_base c.index-bases-n.is in
    subst (λ t. IfOk c.seq.result (λ f. f ≡ t)) (λ i. sequence_of (first i) (second i)) c.seq.ensures.exact

pub returns-clause-noted : goal.returns-clause-noted
returns-clause-noted c =
    let chained = c.requires.chained in
    let first = chain-read c.args.parts.members.now c.args.parts.cells.now c.args.parts.place c.args.n c.width_at-from.result c.width_at-to.result c.index-cells-n.result c.in_ok-first.first
    (let each = chained.each_cell.each in let lt = c.requires.there in omega (arith, each, lt)) c.width_at-from.ensures c.width_at-to.ensures c.index-cells-n.is c.in_ok-first.ensures in
    let second = base-read c.args.parts.members.now c.args.parts.bases.now c.args.n c.index-bases-n.result c.requires.there chained.each_base c.index-bases-n.is in
    subst (λ t. OnOk c.seq.result (c.seq.new.losses ≡ c.args.lost.now ++ t)) (λ i. losses_in_sequence (first i) (second i)) c.seq.ensures.noted

use Rattle.std.proofs.Common.{◌≡◌, ℕ, zero, suc, ◌<◌, List, [], ◌∷◌, length, get_or, refl, subst, arith}
use Rattle.std.proofs.lemmas.List.{drop_more, drop_all}
use Rattle.posing.proofs.Following.{leads_none}
use Rattle.posing.proofs.Steps.{each_next}
use Rattle.checked_tree.specs.Graph.{Graph}
use Rattle.checked_tree.specs.ByNumber.{with_number}
use Rattle.checked_tree.specs.Growing.{graph_in, entries_in, AreGrowing}
use Rattle.checked_tree.proofs.Growths.{next-growth, growing-next}
use Rattle.checked_tree.proofs.LogGains.{step_fails}
use Rattle.checked_tree.proofs.evaluating.with_numbers.Goals as goal

-- the default counts for nothing where there is an element
get-default : (xs : List ℕ) (i d e : ℕ) → i < length xs → get_or xs i d ≡ get_or xs i e
get-default [] i d e h = absurd (omega arith)
get-default (x ∷ xs) zero d e h = refl
get-default (x ∷ xs) (suc i) d e h = get-default xs i d e (omega arith)

pub loop-number-init : goal.loop-number-init
loop-number-init g c = (leads_none _ _ _ _, λ source start growing. growing)

pub with_number-requires : goal.with_number-requires
with_number-requires g c =
    let graph : Graph = graph_in c.args.graph in
    next-growth graph c.requires.source c.args.keys.now c.requires.start c.loop-number.log c.loop-number.made _ _
    (subst (AreGrowing graph c.requires.source c.args.keys.now c.requires.start c.loop-number.log c.loop-number.made) (drop_more c.args.order.now c.loop-number.number-index _ c.loop-number-test.true)
    (c.loop-number.invariant.1 c.requires.source c.requires.start c.requires.growing))

pub returns-in_err-made-clause-follows : goal.returns-in_err-made-clause-follows
returns-in_err-made-clause-follows g c =
    let graph : Graph = graph_in c.args.graph in
    step_fails c.from_residual.result entries_in (with_number graph c.args.keys.now) _ _ c.loop-number.invariant.0 c.loop-number-test.true
    (get-default c.args.order.now c.loop-number.number-index _ _ c.loop-number-test.true) c.in_err-made.ensures.follows c.from_residual.ensures.1

pub loop-number-preserved : goal.loop-number-preserved
loop-number-preserved g c =
    let graph : Graph = graph_in c.args.graph in (
      each_next (with_number graph c.args.keys.now) _ _ c.loop-number.invariant.0 c.loop-number-test.true
          (get-default c.args.order.now c.loop-number.number-index _ _ c.loop-number-test.true) c.in_ok-made.ensures.follows,
      λ source start growing. growing-next graph source c.args.keys.now start c.loop-number.log _ c.loop-number.made _ _ _
          (subst (AreGrowing graph source c.args.keys.now start c.loop-number.log c.loop-number.made) (drop_more c.args.order.now c.loop-number.number-index _ c.loop-number-test.true)
          (c.loop-number.invariant.1 source start growing))
          c.in_ok-made.ensures.grown,
    )

pub returns-clause-grown : goal.returns-clause-grown
returns-clause-grown g c = λ source start growing.
    let graph : Graph = graph_in c.args.graph in
    subst (AreGrowing graph source c.args.keys.now start c.loop-number.log c.loop-number.made) (drop_all c.loop-number.number-index c.args.order.now (omega arith)) (c.loop-number.invariant.1 source start growing)

use Rattle.std.proofs.Common.{◌≡◌, ◌+◌, List, [], ◌∷◌, ◌++◌, None, ap, arith, subst, sym, ◌∙◌, append-nil, append_assoc, add_assoc}
use Rattle.syntax_tree.specs.declared.tree.Item.{Item}
use Rattle.typing.specs.Faults.{declaration_faults, least_of}
use Rattle.typing.specs.Scopes.{Scope}
use Rattle.typing.specs.Texts.{bodies, count_globals, declarations, top}
use Rattle.typing.proofs.Items.{bodies-next, count_globals-next, declaration_faults-next, declarations-next}
use Rattle.typing.proofs.Steps.{least_of-append, next_left, none_left}
use Rattle.typing.proofs.declarations.Declarations.read.Goals as goal

pub loop-item-preserved : goal.loop-item-preserved
loop-item-preserved c =
    let left = next_left c.args.items.now c.loop-item.item-index c.item-item.result c.item-item.is c.loop-item-test.true in
    record {
      one = rw c.in_ok-item.ensures.scopes;
      one_of_bodies = rw c.in_ok-item.ensures.bodies;
      scopes = rw (c.in_ok-item.ensures.scopes, c.in_ok-item.ensures.globals, c.in_ok-item.ensures.procs, append_assoc, ← declarations-next)
          (subst (λ (is : List Item). top c.loop-item.made.scopes ++ declarations c.loop-item.made.globals c.loop-item.made.procs is ≡ declarations 0 0 c.args.items.now) left c.loop-item.invariant.scopes);
      bodies = rw (c.in_ok-item.ensures.bodies, c.in_ok-item.ensures.procs, append_assoc, ← bodies-next)
          (subst (λ (is : List Item). top c.loop-item.made.bodies ++ bodies c.loop-item.made.procs is ≡ bodies 0 c.args.items.now) left c.loop-item.invariant.bodies);
      globals = rw (c.in_ok-item.ensures.globals, add_assoc, ← count_globals-next)
          (subst (λ (is : List Item). c.loop-item.made.globals + count_globals is ≡ count_globals c.args.items.now) left c.loop-item.invariant.globals);
      least = rw (c.in_ok-item.ensures.least, c.in_ok-item.ensures.scopes, c.in_ok-item.ensures.globals, c.in_ok-item.ensures.procs, ← least_of-append, ← declaration_faults-next)
          (subst (λ (is : List Item). least_of c.loop-item.made.least (declaration_faults (top c.loop-item.made.scopes) c.loop-item.made.globals c.loop-item.made.procs is) ≡ least_of None (declaration_faults [] 0 0 c.args.items.now)) left c.loop-item.invariant.least);
    }

pub loop-item-init : goal.loop-item-init
loop-item-init c = record {
  one = rw c.in_ok-made.ensures.scopes;
  one_of_bodies = rw c.in_ok-made.ensures.bodies;
  scopes = rw (c.in_ok-made.ensures.scopes, c.in_ok-made.ensures.globals, c.in_ok-made.ensures.procs);
  bodies = rw (c.in_ok-made.ensures.bodies, c.in_ok-made.ensures.procs);
  globals = omega (arith, c.in_ok-made.ensures.globals);
  least = rw (c.in_ok-made.ensures.least, c.in_ok-made.ensures.scopes, c.in_ok-made.ensures.globals, c.in_ok-made.ensures.procs);
}

pub returns : goal.returns
returns c =
    let none = none_left c.args.items.now c.loop-item.item-index c.loop-item-test.false in
    let made = c.loop-item.made in
    record {
      scopes = c.loop-item.invariant.one ∙ ap (λ (one : Scope). one ∷ []) (sym (append-nil (top made.scopes))
          ∙ subst (λ (is : List Item). top made.scopes ++ declarations made.globals made.procs is ≡ declarations 0 0 c.args.items.now) none c.loop-item.invariant.scopes);
      bodies = c.loop-item.invariant.one_of_bodies ∙ ap (λ (one : Scope). one ∷ []) (sym (append-nil (top made.bodies))
          ∙ subst (λ (is : List Item). top made.bodies ++ bodies made.procs is ≡ bodies 0 c.args.items.now) none c.loop-item.invariant.bodies);
      globals = let all = subst (λ (is : List Item). made.globals + count_globals is ≡ count_globals c.args.items.now) none c.loop-item.invariant.globals in omega (arith, all);
      least = subst (λ (is : List Item). least_of made.least (declaration_faults (top made.scopes) made.globals made.procs is) ≡ least_of None (declaration_faults [] 0 0 c.args.items.now)) none c.loop-item.invariant.least;
    }

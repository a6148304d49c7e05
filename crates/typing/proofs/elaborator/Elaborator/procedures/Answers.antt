use Rattle.std.proofs.Common.{◌≡◌, List, ◌++◌, subst, ap, ◌∙◌, length, append_assoc}
use Rattle.syntax_tree.specs.declared.tree.Item.{Item}
use Rattle.typing.specs.Elaborated.{checks_in, procs_of}
use Rattle.typing.specs.Faults.{least_of, procs_faults}
use Rattle.typing.specs.Texts.{top}
use Rattle.typing.proofs.Items.{checks_in-next, procs_faults-step, procs_of-step}
use Rattle.typing.proofs.Steps.{next_left}
use Rattle.typing.proofs.elaborator.Elaborator.procedures.Goals as goal

pub loop-item-preserved : goal.loop-item-preserved
loop-item-preserved c =
    let left = next_left c.args.items.now c.loop-item.item-index c.item-item.result c.item-item.is c.loop-item-test.true in
    let scope = ap top c.loop-item.invariant.scopes in
    record {
      scopes = c.in_ok-item.ensures.scopes ∙ c.loop-item.invariant.scopes;
      procs = rw c.in_ok-item.ensures.procs (procs_of-step _ _ _ _ _ _ _ _ _ scope c.in_ok-item.ensures.checks
          (subst (λ (is : List Item). c.loop-item.procs ++ procs_of (top c.args.self.now.env.scopes) c.args.globals (length c.loop-item.checks) is ≡ procs_of (top c.args.self.now.env.scopes) c.args.globals (length c.args.checks.now) c.args.items.now) left c.loop-item.invariant.procs));
      checks = rw (c.in_ok-item.ensures.checks, append_assoc, ← checks_in-next)
          (subst (λ (is : List Item). c.loop-item.checks ++ checks_in is ≡ c.args.checks.now ++ checks_in c.args.items.now) left c.loop-item.invariant.checks);
      least = rw c.in_ok-item.ensures.least (procs_faults-step _ _ _ _ _ _ _ _ _ scope c.in_ok-item.ensures.checks
          (subst (λ (is : List Item). least_of c.loop-item.self.least (procs_faults (top c.args.self.now.env.scopes) c.args.globals (length c.loop-item.checks) is) ≡ least_of c.args.self.now.least (procs_faults (top c.args.self.now.env.scopes) c.args.globals (length c.args.checks.now) c.args.items.now)) left c.loop-item.invariant.least));
    }

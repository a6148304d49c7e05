use Rattle.std.proofs.Common.{◌≡◌, ◌∙◌, List, ap, get_or}
use Rattle.std.proofs.lemmas.Option.{get_or_from_slice_get}
use Rattle.syntax_tree.specs.declared.program.Proc.{Proc}
use Rattle.newton_rounds.proofs.ends.pair_ends.Goals as goal

pub returns : goal.returns
returns c = λ p is.
    let same : get_or c.as_slice.result.now c.args.proc c.index-as_slice-proc.result ≡ p =
    ap (λ (procs : List Proc). get_or procs c.args.proc c.index-as_slice-proc.result) c.as_slice.ensures
    ∙ get_or_from_slice_get c.args.program.now.procs c.args.proc p c.index-as_slice-proc.result is in
    λ i. record {
      ends = record {
        globals = c.len.ensures i;
        returns = (same i).returns;
        full = c.in_ok-full.ensures p is i;
        entry = c.in_ok-entry.ensures p is i;
        exit = c.in_ok-exit.ensures p is i;
      };
      pair = c.in_ok-pair.ensures p is i;
    }

use Rattle.std.proofs.Common.{◌≡◌, List, replicate, subst}
use Rattle.std.specs.Prelude.{IfOk}
use Rattle.polyhedra.specs.Vocabulary.{Vocabulary}
use Rattle.proc_summary.proofs.edges.full_vocabularies.Goals as goal

pub returns : goal.returns
returns c = λ p is.
    subst (λ (nodes : List Vocabulary). IfOk c.copies_of.result (λ made. made ≡ nodes))
    (λ i. replicate c.args.count (c.in_ok-full.ensures p is i)) c.copies_of.ensures

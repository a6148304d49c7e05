use Rattle.std.proofs.Common.{◌∙◌, ◌++◌, ◌&&◌, eqb, ◌∷◌, [], ap, cond, take}
use Rattle.path_expr.specs.Elimination.{links_between}
use Rattle.path_expr.proofs.TableLemmas.{slice_get_some}
use Rattle.path_expr.proofs.FirstLemmas.{joins-here, links_between-more}
use Rattle.path_expr.proofs.numbers.link_numbers.Goals as goal

pub loop-number-preserved : goal.loop-number-preserved
loop-number-preserved c =
    let n = c.loop-number.number in let links = c.args.links.now in let source = c.args.source in
    let link = slice_get_some c.args.links.now c.loop-number.number c.loop-number-test.true in record {
      rows = c.put_number.ensures.rows ∙ c.loop-number.invariant.rows;
      so_far = λ i j.
          c.in_ok-put_number.ensures.numbers i j
          ∙ (ap (λ xs. xs ++ cond (eqb c.place-from.result i && eqb c.place-to.result j) (c.loop-number.number ∷ []) []) (c.loop-number.invariant.so_far i j)
          ∙ (ap (λ b. links_between c.args.source 0 (take c.loop-number.number c.args.links.now) i j ++ cond b (c.loop-number.number ∷ []) [])
          (joins-here c.args.source c.args.links.now c.loop-number.number c.place-from.result c.place-to.result link.0 i j link.1 c.place-from.ensures c.place-to.ensures)
          ∙ links_between-more c.args.source c.args.links.now c.loop-number.number link.0 i j link.1));
    }

use Rattle.std.proofs.Common.{◌≡◌, ◌<◌, ◌+◌, length, sym, subst, arith, ◌∙◌}
use Rattle.std.proofs.lemmas.List.{get_or_default}
use Rattle.flow_graph.specs.declared.components.NumberMark.TheVariants.{New}
use Rattle.flow_graph.specs.declared.components.Search.{Search}
use Rattle.flow_graph.specs.Search.{state_of, mark_of, AreDone}
use Rattle.flow_graph.proofs.Searching.{done_already, done_by_visit, none_on_path}
use Rattle.flow_graph.proofs.components.search_all.Goals.{in-New+in_ok-visit-in-New, in-OnPath, in-Done}
use Rattle.flow_graph.proofs.components.search_all.Goals as goal

pub loop-p-preserved : goal.loop-p-preserved
loop-p-preserved c =
    let calls = c.args.calls.now in
    let p = c.loop-p.p in
    let s = state_of c.loop-p.search in
    let done = c.loop-p.invariant in
    let there : p < length s.marks = omega (arith, c.loop-p-test.true, c.requires.all, done.all) in
    let mark : mark_of s p ≡ c.index.result.now = get_or_default s.marks p New c.index.result.now there ∙ sym c.index.ensures in
    elim c.match-index.branch [
      | in-New+in_ok-visit-in-New w ↦
          subst (λ (x : Search). AreDone calls (state_of x) (p + 1)) (sym w.search-is)
          (done_by_visit calls s (state_of w.visit.new.self) p done w.in_ok-visit-in-New.ensures)
      | in-OnPath w ↦ absurd (none_on_path calls s p p w.in-OnPath.field-0 done (mark ∙ w.in-OnPath.is))
      | in-Done w ↦
          subst (λ (x : Search). AreDone calls (state_of x) (p + 1)) (sym w.search-is)
          (done_already calls s p w.in-Done.field-0 done (mark ∙ w.in-Done.is))
    ]

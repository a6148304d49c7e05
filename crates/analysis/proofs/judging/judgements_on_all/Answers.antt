use Rattle.std.proofs.Common.{◌≡◌, [], ◌∷◌, ◌+◌, ◌<◌, get_or, length, sym, ap, subst, refl, arith, length-append}
use Rattle.std.specs.List.{range_with_len}
use Rattle.std.proofs.lemmas.List.FromFn.{get_or-range_with_len, length-range_with_len}
use Rattle.posing.specs.Follows.{Leads}
use Rattle.posing.specs.Posing.{each}
use Rattle.posing.proofs.Following.{leads_none, loop_ends, stops}
use Rattle.posing.proofs.Steps.{each_fails, each_next}
use Rattle.analysis.specs.Claims.{AreJudged, AreRefuted}
use Rattle.analysis.specs.Judging.{judgements_on_all, with_judged}
use Rattle.analysis.proofs.AssertionParts.{judged-next, refuted-next}
use Rattle.analysis.proofs.judging.judgements_on_all.Goals as goal

pub returns-in_err-standing-clause-follows : goal.returns-in_err-standing-clause-follows
returns-in_err-standing-clause-follows g c = stops _ _ _ _ _ _ refl c.from_residual.ensures.1

pub with_judged-requires-clause-text : goal.with_judged-requires-clause-text
with_judged-requires-clause-text g c = record { formed = c.requires.formed; standing = c.in_ok-standing.ensures; entries = c.requires.entries; flows = c.requires.flows }

pub loop-n-init : goal.loop-n-init
loop-n-init g c =
    let program = c.args.program.now in
    let numbers = range_with_len 1 (length program.checks) in
    let step = with_judged program c.args.places.now c.args.entries.now c.args.flows.now in
    let none = sym c.new-made.ensures in
    record {
      leads = subst (λ made. Leads g.O.Oracle.asking c.args.oracle.now c.args.oracle.now c.args.log.now c.args.log.now (each step [] numbers) (each step made numbers)) none (leads_none _ _ _ _);
      long = ap length c.new-made.ensures;
      sound = λ enter hold. subst (AreJudged program) none (λ n j e. absurd (cc e));
      refuted = subst AreRefuted none (λ n j e. absurd (cc e));
    }

pub returns-in_err-made-clause-follows : goal.returns-in_err-made-clause-follows
unfolding judgements_on_all
returns-in_err-made-clause-follows g c =
    let program = c.args.program.now in
    let count = length program.checks in
    let n = c.loop-n.n in
    let lt : n < count = omega arith in
    let long = length-range_with_len 1 count in
    let is : n + 1 ≡ get_or (range_with_len 1 count) n (n + 1) = let at = get_or-range_with_len 1 count n (n + 1) lt in omega (arith, at) in
    each_fails (with_judged program c.args.places.now c.args.entries.now c.args.flows.now) (range_with_len 1 count) n c.loop-n.invariant.leads (omega (arith, lt, long)) is c.in_err-made.ensures.follows c.from_residual-in_err-made.ensures.1

pub loop-n-preserved : goal.loop-n-preserved
loop-n-preserved g c =
    let program = c.args.program.now in
    let count = length program.checks in
    let n = c.loop-n.n in
    let lt : n < count = omega arith in
    let long = length-range_with_len 1 count in
    let is : n + 1 ≡ get_or (range_with_len 1 count) n (n + 1) = let at = get_or-range_with_len 1 count n (n + 1) lt in omega (arith, at) in
    let added = c.in_ok-made.ensures.added in
    let so_far = c.loop-n.invariant in
    let made = c.loop-n.made in
    let before = so_far.long in
    let more = ap length added.is in
    let both = length-append made (added.judged ∷ []) in
    record {
      leads = each_next (with_judged program c.args.places.now c.args.entries.now c.args.flows.now) (range_with_len 1 count) n so_far.leads (omega (arith, lt, long)) is c.in_ok-made.ensures.follows;
      long = omega (arith, before, more, both);
      sound = λ enter hold. subst (AreJudged program) (sym added.is) (judged-next program made added.judged n before (so_far.sound enter hold) (added.sound enter hold));
      refuted = subst AreRefuted (sym added.is) (refuted-next made added.judged so_far.refuted added.refuted);
    }

pub returns-clause-follows : goal.returns-clause-follows
unfolding judgements_on_all
returns-clause-follows g c =
    let program = c.args.program.now in
    let long = length-range_with_len 1 (length program.checks) in
    loop_ends _ _ _ _ _ _ (with_judged program c.args.places.now c.args.entries.now c.args.flows.now) _ (range_with_len 1 (length program.checks)) c.loop-n.n c.loop-n.invariant.leads (omega (arith, long))

use Rattle.std.proofs.Common.{◌≡◌, List, ◌∷◌, rules, ap, refl, sym, subst, ◌∙◌}
use Rattle.std.specs.Prelude.{Bool, true, false, if◌then◌else◌}
use Rattle.std.specs.Vec.Iter.{into_iter_items}
use Rattle.linear_terms.specs.declared.row.Row.{Row}
use Rattle.posing.specs.Follows.{Leads}
use Rattle.posing.specs.Posing.{Posing, Done}
use Rattle.posing.proofs.Following.{leads_none}
use Rattle.posing.proofs.Steps.{all_left, at_end, error_first, first_left, in_other_words}
use Rattle.point_rounds.specs.Rounds.{all_refuted, row_refuted}
use Rattle.point_rounds.proofs.falling.all_refuted.Goals as goal

-- what is left after the answer for one row
abbrev after : List Row → List Row → Bool → Posing Bool
after given rows refuted = if refuted then all_refuted given rows else Done false

pub loop-row-init : goal.loop-row-init
loop-row-init g c =
    let given = c.args.given.now in
    let begins : into_iter_items c.into_iter-row-iterator.result ≡ c.args.rows = search rules in
    record {
      leads = subst (λ (rows : List Row). Leads g.O.Oracle.asking c.args.oracle.now c.args.oracle.now c.args.log.now c.args.log.now (all_refuted given c.args.rows) (all_refuted given rows)) (sym begins) (leads_none _ _ _ _);
      same = refl;
    }

pub loop-row-preserved : goal.loop-row-preserved
loop-row-preserved g c =
    let given = c.args.given.now in
    let rest = into_iter_items c.next.new.self in
    let row = c.in-Some.row in
    let begins : into_iter_items c.loop-row.row-iterator ≡ row ∷ rest = search rules in
    let refuted : c.in_ok-refuted.refuted ≡ true = search rules in
    record {
      leads =
          subst (λ r. Leads g.O.Oracle.asking c.args.oracle.now c.row_refuted.new.oracle c.args.log.now c.row_refuted.new.log (all_refuted given c.args.rows) r) (ap (after given rest) refuted)
          (first_left (after given rest) c.loop-row.invariant.leads (ap (all_refuted given) begins) c.in_ok-refuted.ensures.follows (ap (λ rows. row_refuted rows row) c.loop-row.invariant.same));
      same = c.in_ok-refuted.ensures.same ∙ c.loop-row.invariant.same;
    }

pub returns-in_err-refuted-clause-follows : goal.returns-in_err-refuted-clause-follows
returns-in_err-refuted-clause-follows g c =
    let given = c.args.given.now in
    let rest = into_iter_items c.next.new.self in
    let row = c.in-Some.row in
    let begins : into_iter_items c.loop-row.row-iterator ≡ row ∷ rest = search rules in
    all_left c.loop-row.invariant.leads
    (in_other_words (sym (ap (all_refuted given) begins)) (error_first (after given rest) c.in_err-refuted.ensures.follows (ap (λ rows. row_refuted rows row) c.loop-row.invariant.same) c.from_residual.ensures.1))

pub returns-then-not-refuted-clause-follows : goal.returns-then-not-refuted-clause-follows
returns-then-not-refuted-clause-follows g c =
    let given = c.args.given.now in
    let rest = into_iter_items c.next.new.self in
    let row = c.in-Some.row in
    let begins : into_iter_items c.loop-row.row-iterator ≡ row ∷ rest = search rules in
    let refuted : c.in_ok-refuted.refuted ≡ false = search rules in
    all_left (first_left (after given rest) c.loop-row.invariant.leads (ap (all_refuted given) begins) c.in_ok-refuted.ensures.follows (ap (λ rows. row_refuted rows row) c.loop-row.invariant.same))
    (in_other_words (sym (ap (after given rest) refuted)) (at_end refl))

use Rattle.std.proofs.Common.{rules, ◌≡◌, ◌∙◌, Some, length, refl, sym, subst}
use Rattle.std.specs.Prelude.{slice_get, IfErr}
use Rattle.std.proofs.lemmas.Option.{slice_get_read}
use Rattle.farkas_check.specs.declared.question.Goal.{Goal}
use Rattle.simplex.specs.Goals.{IsRefusalAmong}
use Rattle.simplex.specs.Shortness.{AreShortRows}
use Rattle.simplex.proofs.Cases.{refusal_among}
use Rattle.simplex.proofs.goals.case_supremum.Goals as goal

some_same : {A : Type 0} → {x y : A} → Some x ≡ Some y → x ≡ y
some_same e = cc

pub returns-clause-supremum : goal.returns-clause-supremum
returns-clause-supremum c =
    let is : slice_get c.args.goals.now c.args.place ≡ Some c.index-goals-place.result = slice_get_read c.args.goals.now (length c.args.goals.now) c.args.place c.index-goals-place.result refl c.requires (search rules) in
    record { goal = c.index-goals-place.result; is = is; supremum = c.in_ok-came.ensures.supremum }

-- the case that was searched is the one at the place
pub returns-clause-short : goal.returns-clause-short
returns-clause-short c = λ goal yes e.
    let is : slice_get c.args.goals.now c.args.place ≡ Some c.index-goals-place.result = slice_get_read c.args.goals.now (length c.args.goals.now) c.args.place c.index-goals-place.result refl c.requires (search rules) in
    subst (λ (g : Goal). AreShortRows g.rows) (some_same (sym is ∙ e)) (c.in_ok-came.ensures.short yes)

pub returns-in_err-came-clause-refusal : goal.returns-in_err-came-clause-refusal
returns-in_err-came-clause-refusal c =
    let is : slice_get c.args.goals.now c.args.place ≡ Some c.index-goals-place.result = slice_get_read c.args.goals.now (length c.args.goals.now) c.args.place c.index-goals-place.result refl c.requires (search rules) in
    let known : IfErr c.next_supremum.result (IsRefusalAmong c.args.goals.now) = refusal_among c.args.goals.now c.args.place c.index-goals-place.result c.next_supremum.result is c.next_supremum.ensures.refusal in search rules

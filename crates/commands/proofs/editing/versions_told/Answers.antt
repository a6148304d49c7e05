use Rattle.std.proofs.Common.{◌≡◌, ◌∙◌, sym, subst}
use Rattle.std.specs.Prelude.{get_or}
use Rattle.std.proofs.lemmas.List.{drop_all}
use Rattle.commands.proofs.Versions.{told-all, told-next}
use Rattle.commands.proofs.editing.versions_told.Goals as goal

pub loop-number-preserved : goal.loop-number-preserved
loop-number-preserved c =
    let texts = c.args.texts.now in
    let place = c.loop-number.number in
    let text = c.as_bytes-text.result.now in
    let same = c.as_bytes-text.ensures.value ∙ c.as_str.ensures in
    record {
      held = c.in_ok-made.ensures.held;
      told = told-next texts place text c.loop-number.session.last c.submission_of.new.session.last c.loop-number.lines.bytes.items c.put_line.new.lines.bytes.items c.loop-number.last c.in_ok-made.made
          c.loop-number.invariant.told c.loop-number-test.true (subst (λ t. t ≡ get_or texts place t) (sym same) c.index-texts-number.is) c.in_ok-made.ensures.made c.in_ok-put_line.ensures;
    }

pub returns : goal.returns
returns c =
    told-all c.args.texts.now c.loop-number.number c.loop-number.session.last c.loop-number.lines.bytes.items c.loop-number.last c.loop-number.invariant.told
    (drop_all c.loop-number.number c.args.texts.now c.loop-number-test.false)

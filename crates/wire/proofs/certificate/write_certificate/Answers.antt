use Rattle.std.proofs.Common.{arith, ◌≡◌, sym, subst, ◌∙◌, ap}
use Rattle.std.specs.Prelude.{Ok, Some}
use Rattle.serde_json.specs.Data.{Data}
use Rattle.serde_json.specs.Read.{read}
use Rattle.serde_json.specs.Written.{compact_text}
use Rattle.wire.specs.Files.{certificate_in}
use Rattle.wire.proofs.JsonTexts.{certificate_of-text}
use Rattle.wire.proofs.PlainData.{IsPlain, IsPlain-certificate_data}
use Rattle.wire.proofs.certificate.write_certificate.Goals as goal

pub returns-clause-written : goal.returns-clause-written
returns-clause-written c =
    let plain = subst (IsPlain 10) (sym c.in_ok-value.ensures.written) (IsPlain-certificate_data c.args.file.now) in
    c.from_string-text.ensures.bytes ∙ c.in_ok-to_string.ensures.text plain.whole ∙ ap compact_text c.in_ok-value.ensures.written

pub returns-clause-back : goal.returns-clause-back
returns-clause-back c =
    let plain = subst (IsPlain 10) (sym c.in_ok-value.ensures.written) (IsPlain-certificate_data c.args.file.now) in
    let text = c.from_string-text.result in
    let reads = ap read c.from_string-text.ensures.bytes ∙ c.in_ok-to_string.ensures.reads_back (omega (arith, plain.deep)) ∙ ap Some c.in_ok-value.ensures.written in
    let back = subst (λ (d : Data). certificate_in d ≡ Ok c.args.file.now) c.in_ok-value.ensures.written c.in_ok-value.ensures.back in
    certificate_of-text text c.args.file.now c.from_string-text.ensures.utf8 reads back

-- Certificate files: one whose text is accepted passes or does not, and the output of `certify`
-- passes.
use Rattle.std.proofs.Common.{◌≡◌, ◌≢◌, ℕ, ◌≤◌, ◌⊎◌, Bool, true, false, List, [], ◌++◌, length, Option, Ok, inl, inr, refl, sym, ap, subst, ◌∙◌, arith, length-append}
use Rattle.std.proofs.lemmas.Bool.{ltb-true}
use Rattle.std.proofs.lemmas.Slice.Eq.{bytes_eq-Decides}
use Rattle.std.proofs.lemmas.List.{append-nil}
use Rattle.std.specs.Prelude.{codes, if◌then◌else◌, nat_eq, nat_lt}
use Rattle.std.specs.List.{common_prefix_len}
use Rattle.std.specs.Str.{bytes_eq}
use Rattle.farkas_check.specs.declared.answer.Answer.{Answer}
use Rattle.syntax_tree.specs.declared.program.Program.{Program}
use Rattle.posing.specs.Posing.{Posed, Finished, Stuck, run}
use Rattle.report.specs.declared.blocks.Report.{Report}
use Rattle.report.specs.Text.{text_of}
use Rattle.analysis.proofs.OnePlan.{plan-one}
use Rattle.finder.specs.Found.{IsFound}
use Rattle.wire.specs.declared.certificate.Certificate.{Certificate}
use Rattle.wire.specs.Files.{certificate_of}
use Rattle.wire.specs.Newlines.{NewlineIsReadOver}
use Rattle.summary_cache.specs.Accepted.{Accepts, IsRefusedBy}
use Rattle.summary_cache.specs.Rules.{with_rule}
use Rattle.summary_cache.specs.Stated.{IsAnalysedBy, IsPlanned, analysis_of}
use Rattle.summary_cache.proofs.Complete.{accepted-once, not-refused}
use Rattle.commands.specs.declared.reply.Reply.{Reply}
use Rattle.commands.specs.declared.status.Status.{Status}
use Rattle.commands.specs.declared.status.Status.TheVariants.{Certified, CheckFailed, CheckPassed, TooLong}
use Rattle.commands.specs.Certify.{IsCertified, TellsFile, file_text, output_too_long}
use Rattle.commands.specs.Check.{IsCheckOf, IsReplyToCheck, IsShown, IsToCheck, IsToCheckCertified, answers_in, answers_of, compared_reply, failed_reply, passed_reply, posed_reply, rule_of}
use Rattle.commands.specs.Renew.{IsRenewed, IsRenewedBy, IsReplyToRenew, IsToRenew, IsToRenewCertified}
use Rattle.commands.specs.Replies.{IsReply, IsReplyToRead, IsReplyToWork}
use Rattle.commands.specs.Within.{OrRefused, OrWrong}
use Rattle.commands.specs.Input.{IsInput}
use Rattle.commands.specs.Limits.{most_file}
use Rattle.commands.proofs.Checks.{ends}
use Rattle.commands.proofs.Complete.{certified-text, whole-input}

-- ---- a file whose text is accepted

compared-or-not : (same : Bool) (other : Reply) → other.status ≡ CheckFailed → (Reply.status (if same then passed_reply else other) ≡ CheckPassed) ⊎ (Reply.status (if same then passed_reply else other) ≡ CheckFailed)
compared-or-not true other is = inl refl
compared-or-not false other is = inr is

left-or-not : (none : Bool) (compared other : Reply) → (compared.status ≡ CheckPassed) ⊎ (compared.status ≡ CheckFailed) → other.status ≡ CheckFailed
    → (Reply.status (if none then compared else other) ≡ CheckPassed) ⊎ (Reply.status (if none then compared else other) ≡ CheckFailed)
left-or-not true compared other are is = are
left-or-not false compared other are is = inr is

posed-status : (answers : List Answer) (told : List ℕ) (posed : Posed Report) → ((posed_reply answers told posed).status ≡ CheckPassed) ⊎ ((posed_reply answers told posed).status ≡ CheckFailed)
posed-status answers told (Stuck question left) = inr refl
posed-status answers told (Finished report notes left) =
    left-or-not _ (compared_reply (text_of report) told) _ (compared-or-not (bytes_eq (text_of report) told) _ refl) refl

checked-status : (file : Certificate) (program : Program) (reply : Reply) → Accepts file.text program → IsCheckOf file reply → (reply.status ≡ CheckPassed) ⊎ (reply.status ≡ CheckFailed)
checked-status file program reply a (inl (posed, is, e)) =
    subst (λ (r : Reply). (r.status ≡ CheckPassed) ⊎ (r.status ≡ CheckFailed)) (sym e) (posed-status (answers_of file) file.report posed)
checked-status file program reply a (inr (refusal, is, e)) = absurd (not-refused file.text program refusal a is)

checked-file : (bytes : List ℕ) (file : Certificate) (program : Program) (reply : Reply) → length bytes ≤ most_file → certificate_of bytes ≡ Ok file → Accepts file.text program
    → IsReplyToCheck bytes reply → (reply.status ≡ CheckPassed) ⊎ (reply.status ≡ CheckFailed)
checked-file bytes file program reply short shaped a (inl (long, is)) = absurd (omega arith)
checked-file bytes file program reply short shaped a (inr (fits, outcome)) =
    checked-status file program reply a (subst (λ outcome. OrWrong outcome IsCheckOf reply) shaped outcome)

pub complete-check : (words : List (List ℕ)) (before after : Option (List ℕ)) (reply : Reply) → IsToCheck words before → IsReply words before after reply
    → (reply.status ≡ CheckPassed) ⊎ (reply.status ≡ CheckFailed)
complete-check words before after reply to answer =
    let read : IsReplyToRead most_file IsReplyToCheck before after reply = subst (λ work. IsReplyToWork work before after reply) to.asked answer in
    let f = to.file in
    let all = whole-input most_file f.bytes read.input f.short (subst (λ before. IsInput most_file before read.input) f.whole read.is_input) in
    checked-file f.bytes f.file f.program reply f.short f.shaped f.accepted (subst (λ input. IsReplyToCheck input reply) all read.is_reply)

-- ---- a file that is made anew

abbrev IsRenewedStatus : Status → Type 0
IsRenewedStatus status = (status ≡ Certified) ⊎ (status ≡ TooLong) ⊎ (status ≡ CheckFailed)

failed-alone : (status : Status) → (status ≡ CheckPassed) ⊎ (status ≡ CheckFailed) → status ≢ CheckPassed → status ≡ CheckFailed
failed-alone status (inl is) ne = absurd (ne is)
failed-alone status (inr is) ne = is

certified-status : (status : Status) → (status ≡ Certified) ⊎ (status ≡ TooLong) → IsRenewedStatus status
certified-status status (inl is) = inl is
certified-status status (inr is) = inr (inl is)

renewed-by : (text : List ℕ) (program : Program) (checked reply : Reply) → Accepts text program → (checked.status ≡ CheckPassed) ⊎ (checked.status ≡ CheckFailed)
    → IsRenewedBy text checked reply → IsRenewedStatus reply.status
renewed-by text program checked reply a are (inl (is, certify)) = certified-status reply.status (certified-text text program reply a certify)
renewed-by text program checked reply a are (inr (ne, e)) = inr (inr (ap (λ (r : Reply). r.status) e ∙ failed-alone checked.status are ne))

renewed-file : (bytes : List ℕ) (file : Certificate) (program : Program) (reply : Reply) → length bytes ≤ most_file → certificate_of bytes ≡ Ok file → Accepts file.text program
    → IsReplyToRenew bytes reply → IsRenewedStatus reply.status
renewed-file bytes file program reply short shaped a (inl (long, is)) = absurd (omega arith)
renewed-file bytes file program reply short shaped a (inr (fits, outcome)) =
    let r : IsRenewed file reply = subst (λ outcome. OrWrong outcome IsRenewed reply) shaped outcome in
    renewed-by file.text program r.checked reply a (checked-status file program r.checked a r.is_checked) r.is_renewed

pub complete-renew : (words : List (List ℕ)) (before after : Option (List ℕ)) (reply : Reply) → IsToRenew words before → IsReply words before after reply → IsRenewedStatus reply.status
complete-renew words before after reply to answer =
    let read : IsReplyToRead most_file IsReplyToRenew before after reply = subst (λ work. IsReplyToWork work before after reply) to.asked answer in
    let f = to.file in
    let all = whole-input most_file f.bytes read.input f.short (subst (λ before. IsInput most_file before read.input) f.whole read.is_input) in
    renewed-file f.bytes f.file f.program reply f.short f.shaped f.accepted (subst (λ input. IsReplyToRenew input reply) all read.is_reply)

-- ---- the output of `certify`

-- under its own answers the analysis of a text comes to the report alone
shown-report : (text : List ℕ) (answers : List Answer) (report : Report) (posed : Posed Report) → IsAnalysedBy IsFound 2 text answers report → IsShown 2 text answers posed
    → posed ≡ Finished report [] []
shown-report text answers report posed a shown =
    let p = shown.is_posed in
    let program = accepted-once text shown.program a.program p.planned.accepted a.planned.accepted in
    let plan = plan-one (with_rule 2 a.program) p.plan a.plan (subst (λ (q : Program). IsPlanned 2 text q p.plan) program p.planned).is_plan a.planned.is_plan in
    sym p.comes ∙ ap (λ q. run (analysis_of 2 text q p.plan) answers) program ∙ ap (λ plan. run (analysis_of 2 text a.program plan) answers) plan
    ∙ ap (run (analysis_of 2 text a.program a.plan)) (sym (append-nil answers)) ∙ ends IsFound 2 text answers [] report a

same-report : (told made : List ℕ) → told ≡ made → compared_reply made told ≡ passed_reply
same-report told made e =
    let same = (bytes_eq-Decides made made).1 refl in
    subst (λ told. compared_reply made told ≡ passed_reply) (sym e) (ap (λ same. if same then passed_reply else failed_reply (codes "report differs at byte ") (common_prefix_len nat_eq made made) []) same)

file-passes : (text : List ℕ) (file : Certificate) (reply : Reply) → IsCertified text file → IsCheckOf file reply → reply ≡ passed_reply
file-passes text file reply c (inl (posed, is, e)) =
    let f = c.is_file in
    let answers : answers_of file ≡ c.answers = ap (λ version. answers_in version file.answers file.order) f.version ∙ f.shared.answers_are in
    let second = subst (λ version. IsShown (rule_of version) file.text (answers_of file) posed) f.version is in
    let own = subst (λ answers. IsShown 2 text answers posed) answers (subst (λ text. IsShown 2 text (answers_of file) posed) f.text_is second) in
    let comes = shown-report text c.answers c.report posed c.analysed own in
    e ∙ ap (posed_reply (answers_of file) file.report) comes ∙ same-report file.report (text_of c.report) f.report_is
file-passes text file reply c (inr (refusal, is, e)) =
    absurd (not-refused text c.analysed.program refusal c.analysed.planned.accepted (subst (λ text. IsRefusedBy text refusal) c.is_file.text_is is))

printed-passes : NewlineIsReadOver → (text : List ℕ) (file : Certificate) (reply : Reply) → IsCertified text file → nat_lt (length (file_text file)) most_file ≡ true
    → IsReplyToCheck (file_text file ++ codes "\n") reply → reply ≡ passed_reply
printed-passes over text file reply c fits (inl (long, is)) =
    let below = ltb-true (length (file_text file)) most_file fits in
    let more = length-append (file_text file) (codes "\n") in
    absurd (omega (arith, below, more, long))
printed-passes over text file reply c fits (inr (within, outcome)) =
    file-passes text file reply c (subst (λ outcome. OrWrong outcome IsCheckOf reply) (over (file_text file) file c.back) outcome)

-- the file behind a reply that has the status of one
told-file : (within : Bool) (file : List ℕ) (printed : Reply) → printed ≡ (if within then record { status = Certified; text = file ++ codes "\n" } else output_too_long) → printed.status ≡ Certified
    → (within ≡ true) × (printed.text ≡ file ++ codes "\n")
told-file true file printed e is = (refl, ap (λ (r : Reply). r.text) e)
told-file false file printed e is = let other = sym is ∙ ap (λ (r : Reply). r.status) e in cc

output-passes : NewlineIsReadOver → (text : List ℕ) (printed reply : Reply) → OrRefused text (TellsFile text) printed → printed.status ≡ Certified → IsReplyToCheck printed.text reply → reply ≡ passed_reply
output-passes over text printed reply (inl (file, c, e)) is answer =
    let told = told-file (nat_lt (length (file_text file)) most_file) (file_text file) printed e is in
    printed-passes over text file reply c told.0 (subst (λ bytes. IsReplyToCheck bytes reply) told.1 answer)
output-passes over text printed reply (inr (refusal, refused, e)) is answer = let other = sym is ∙ ap (λ (r : Reply). r.status) e in cc

output-short : (text : List ℕ) (printed : Reply) → OrRefused text (TellsFile text) printed → printed.status ≡ Certified → length printed.text ≤ most_file
output-short text printed (inl (file, c, e)) is =
    let told = told-file (nat_lt (length (file_text file)) most_file) (file_text file) printed e is in
    let below = ltb-true (length (file_text file)) most_file told.0 in
    let more = ap length told.1 ∙ length-append (file_text file) (codes "\n") in
    omega (arith, below, more)
output-short text printed (inr (refusal, refused, e)) is = let other = sym is ∙ ap (λ (r : Reply). r.status) e in cc

pub certified-passes : NewlineIsReadOver → (words : List (List ℕ)) (before after : Option (List ℕ)) (reply : Reply) → IsToCheckCertified words before → IsReply words before after reply → reply.status ≡ CheckPassed
certified-passes over words before after reply to answer =
    let read : IsReplyToRead most_file IsReplyToCheck before after reply = subst (λ work. IsReplyToWork work before after reply) to.asked answer in
    let f = to.file in
    let short = output-short f.text f.printed f.is_printed f.certified in
    let all = whole-input most_file f.printed.text read.input short (subst (λ before. IsInput most_file before read.input) f.whole read.is_input) in
    ap (λ (r : Reply). r.status) (output-passes over f.text f.printed reply f.is_printed f.certified (subst (λ input. IsReplyToCheck input reply) all read.is_reply))

-- ---- the output of `certify` made anew

-- a file that is certified, where its check passed, is certified again
file-renewed : (text : List ℕ) (file : Certificate) (reply : Reply) → IsCertified text file → IsRenewed file reply → (reply.status ≡ Certified) ⊎ (reply.status ≡ TooLong)
file-renewed text file reply c renewed = go renewed.is_renewed
  where
    own : Accepts file.text c.analysed.program
    own = subst (λ text. Accepts text c.analysed.program) (sym c.is_file.text_is) c.analysed.planned.accepted

    go : IsRenewedBy file.text renewed.checked reply → (reply.status ≡ Certified) ⊎ (reply.status ≡ TooLong)
    go (inl (is, certify)) = certified-text file.text c.analysed.program reply own certify
    go (inr (ne, e)) = absurd (ne (ap (λ (r : Reply). r.status) (file-passes text file renewed.checked c renewed.is_checked)))

output-renewed : NewlineIsReadOver → (text : List ℕ) (printed reply : Reply) → OrRefused text (TellsFile text) printed → printed.status ≡ Certified → length printed.text ≤ most_file → IsReplyToRenew printed.text reply
    → (reply.status ≡ Certified) ⊎ (reply.status ≡ TooLong)
output-renewed over text printed reply (inl (file, c, e)) is short (inl (long, told)) = absurd (omega (arith, short, long))
output-renewed over text printed reply (inl (file, c, e)) is short (inr (within, outcome)) =
    let told = told-file (nat_lt (length (file_text file)) most_file) (file_text file) printed e is in
    let read = ap certificate_of told.1 ∙ over (file_text file) file c.back in
    file-renewed text file reply c (subst (λ outcome. OrWrong outcome IsRenewed reply) read outcome)
output-renewed over text printed reply (inr (refusal, refused, e)) is short answer = let other = sym is ∙ ap (λ (r : Reply). r.status) e in cc

pub certified-renewed : NewlineIsReadOver → (words : List (List ℕ)) (before after : Option (List ℕ)) (reply : Reply) → IsToRenewCertified words before → IsReply words before after reply
    → (reply.status ≡ Certified) ⊎ (reply.status ≡ TooLong)
certified-renewed over words before after reply to answer =
    let read : IsReplyToRead most_file IsReplyToRenew before after reply = subst (λ work. IsReplyToWork work before after reply) to.asked answer in
    let f = to.file in
    let short = output-short f.text f.printed f.is_printed f.certified in
    let all = whole-input most_file f.printed.text read.input short (subst (λ before. IsInput most_file before read.input) f.whole read.is_input) in
    output-renewed over f.text f.printed reply f.is_printed f.certified short (subst (λ input. IsReplyToRenew input reply) all read.is_reply)

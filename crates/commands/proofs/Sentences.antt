-- What the ends of a run say of executions.
--     sound, sound-prove, sound-facets    a text all of whose assertions are proved
--     sound-check    a certificate file that passes
--     failing        an execution that ends at a failed assertion
use Rattle.std.proofs.Common.{◌≡◌, ◌≢◌, ℕ, zero, suc, ◌<◌, ◌≤◌, inl, inr, true, false, cond, List, [], ◌∷◌, length, Option, Some, Ok, refl, sym, ap, subst, ◌∙◌, arith}
use Rattle.std.specs.Prelude.{Bool, ◌-◌, ◌==◌, if◌then◌else◌, slice_get}
use Rattle.std.specs.List.{filter}
use Rattle.std.proofs.lemmas.Bool.{eqb-true}
use Rattle.std.proofs.lemmas.List.Sums.{count_by-le-length, length-filter}
use Rattle.std.proofs.lemmas.List.{length-map}
use Rattle.std.proofs.lemmas.Slice.Eq.{bytes_eq-Decides}
use Rattle.std.specs.Str.{bytes_eq}
use Rattle.farkas_check.specs.declared.answer.Answer.{Answer}
use Rattle.posing.specs.Posing.{Finished, Stuck}
use Rattle.syntax_tree.specs.declared.program.Program.{Program}
use Rattle.replay.specs.declared.trace.TraceStop.{TraceStop}
use Rattle.replay.specs.declared.trace.TraceStop.TheVariants as stop
use Rattle.replay.specs.TraceText.{is_failed}
use Rattle.report.specs.declared.blocks.Judged.{Judged}
use Rattle.report.specs.declared.blocks.Report.{Report}
use Rattle.report.specs.declared.verdict.Verdict.{Verdict}
use Rattle.report.specs.declared.verdict.Verdict.TheVariants as verdict
use Rattle.report.specs.Claims.{ClaimsAreMet, ReportCovers}
use Rattle.report.specs.Points.{text_with_points}
use Rattle.report.specs.Text.{is_proof, is_proved, proved_count, text_of}
use Rattle.point_reports.specs.declared.whole.PointReport.{PointReport}
use Rattle.point_reports.specs.Claims.{AreAllMet}
use Rattle.summary_cache.specs.Accepted.{Accepts}
use Rattle.summary_cache.specs.Limits.{most_bytes}
use Rattle.summary_cache.proofs.Complete.{accepted-once, not-refused}
use Rattle.wire.specs.declared.certificate.Certificate.{Certificate}
use Rattle.wire.specs.declared.input.Input.{Input}
use Rattle.wire.specs.Files.{certificate_of}
use Rattle.wire.specs.Inputs.{input_of}
use Rattle.commands.specs.declared.reply.Reply.{Reply}
use Rattle.commands.specs.declared.status.Status.TheVariants.{AllProved, SomeUnproved, NoneFailed, SomeFailed, CheckPassed}
use Rattle.commands.specs.declared.words.Work.{Work}
use Rattle.commands.specs.declared.words.Work.TheVariants.{Analyse, Facets, Prove}
use Rattle.commands.specs.Analyse.{IsReplyUnder, IsToAnalyse, IsToFacets, IsToProve, IsToReport}
use Rattle.commands.specs.Check.{IsCheckOf, IsReplyToCheck, IsToCheck, compared_reply, finished_reply}
use Rattle.commands.specs.Prove.{IsProved, IsReplyToProve, IsTrueProof}
use Rattle.commands.specs.Replay.{IsReplyToReplay, IsToReplay, IsTraceOf}
use Rattle.commands.specs.Replies.{IsReply, IsReplyToRead, IsReplyToWork}
use Rattle.commands.specs.Stated.{IsAnalysedUnder}
use Rattle.commands.specs.Within.{OrWrong}
use Rattle.commands.specs.Input.{IsInput}
use Rattle.commands.specs.Limits.{most_file, most_input}
use Rattle.commands.specs.Sentences.{AnAssertionFails, IsTrueFile, IsTrueText, NoAssertionFails}
use Rattle.commands.proofs.Complete.{text-answered, whole-input}

-- ---- counts of verdicts

proof-is : (v : Verdict) → is_proof v ≡ true → v ≡ verdict.Proved
proof-is verdict.Proved e = refl
proof-is (verdict.Unproved case point) e = absurd (cc e)
proof-is (verdict.UnprovedLimit case limit) e = absurd (cc e)

filter-most : (js : List Judged) → length (filter is_proved js) ≤ length js
filter-most js = let same = length-filter is_proved js in let most = count_by-le-length is_proved js in omega (arith, same, most)

passed-first : (first : Judged) (js : List Judged) → (length js ≤ length (filter is_proved js) → (n : ℕ) (j : Judged) → slice_get js n ≡ Some j → j.verdict ≡ verdict.Proved) → length (filter is_proved js) ≤ length js
    → (b : Bool) → is_proved first ≡ b → suc (length js) ≤ length (cond b (first ∷ filter is_proved js) (filter is_proved js)) → (n : ℕ) (j : Judged) → slice_get (first ∷ js) n ≡ Some j → j.verdict ≡ verdict.Proved
passed-first first js rest few true is most zero j e = let same : first ≡ j = cc e in subst (λ (k : Judged). k.verdict ≡ verdict.Proved) same (proof-is first.verdict is)
passed-first first js rest few true is most (suc n) j e = rest (omega (arith, most)) n j e
passed-first first js rest few false is most n j e = absurd (omega (arith, most, few))

-- where none is left out, each passes
all-passed : (js : List Judged) → length js ≤ length (filter is_proved js) → (n : ℕ) (j : Judged) → slice_get js n ≡ Some j → j.verdict ≡ verdict.Proved
all-passed [] most n j e = absurd (cc e)
all-passed (first ∷ js) most n j e = passed-first first js (all-passed js) (filter-most js) (is_proved first) refl most n j e

all-proved : (js : List Judged) → length js - proved_count js ≡ 0 → (n : ℕ) (j : Judged) → slice_get js n ≡ Some j → j.verdict ≡ verdict.Proved
all-proved js none n j e =
    let same = length-filter is_proved js in
    all-passed js (omega (arith, none, same)) n j e

-- an element stands at each place
there : (js : List Judged) (n : ℕ) → n < length js → (j : Judged) × (slice_get js n ≡ Some j)
there [] n lt = absurd (omega (arith, lt))
there (j ∷ js) zero lt = (j, refl)
there (j ∷ js) (suc n) lt = there js n (omega (arith, lt))

pub none-fails : (program : Program) (report : Report) → ReportCovers program report → ClaimsAreMet program report → length report.judged - proved_count report.judged ≡ 0 → NoAssertionFails program
none-fails program report covers met none n lt =
    let long : length report.judged ≡ length program.checks = sym (length-map report.judged (λ (j : Judged). j.at)) ∙ ap length covers.verdicts in
    let at = there report.judged n (omega (arith, lt, long)) in
    met.proved n at.0 at.1 (all-proved report.judged none n at.0 at.1)

-- ---- a text

all-or-some : (all : Bool) → (if all then AllProved else SomeUnproved) ≡ AllProved → all ≡ true
all-or-some true e = refl
all-or-some false e = absurd (cc e)

pub zero-of : (n : ℕ) → (if n == 0 then AllProved else SomeUnproved) ≡ AllProved → n ≡ 0
zero-of n e = eqb-true n 0 (all-or-some (n == 0) e)

sound-text : (rule : ℕ) (all : List ℕ) (program : Program) (reply : Reply) → Accepts all program → IsReplyUnder rule all reply → reply.status ≡ AllProved → NoAssertionFails program
sound-text rule all program reply a (inl (long, is)) e = absurd (cc (sym (ap (λ (r : Reply). r.status) is) ∙ e))
sound-text rule all program reply a (inr (fits, inl (report, answers, is, told))) e =
    let none = zero-of (length report.judged - proved_count report.judged) (sym (ap (λ (r : Reply). r.status) told) ∙ e) in
    let same : is.program ≡ program = accepted-once all is.program program is.planned.accepted a in
    subst NoAssertionFails same (none-fails is.program report is.covers is.met none)
sound-text rule all program reply a (inr (fits, inr (refusal, is, told))) e = absurd (cc (sym (ap (λ (r : Reply). r.status) told) ∙ e))

-- the text of a report of an accepted text is true of its program
pub true-report : (rule : ℕ) (all : List ℕ) (program : Program) (answers : List Answer) (report : Report) → Accepts all program → IsAnalysedUnder rule all answers report
    → IsTrueText program (text_of report)
true-report rule all program answers report a is =
    let same : is.program ≡ program = accepted-once all is.program program is.planned.accepted a in
    record {
      report = report;
      told = refl;
      covers = subst (λ (p : Program). ReportCovers p report) same is.covers;
      met = subst (λ (p : Program). ClaimsAreMet p report) same is.met;
      points = is.points;
    }

-- a text within the limit that is accepted has a report, which is true of its program
told-text : (rule : ℕ) (all : List ℕ) (program : Program) (reply : Reply) → length all ≤ most_bytes → Accepts all program → IsReplyUnder rule all reply → IsTrueText program reply.text
told-text rule all program reply short a (inl (long, is)) = absurd (omega (arith, short, long))
told-text rule all program reply short a (inr (fits, inl (report, answers, is, told))) =
    subst (IsTrueText program) (sym (ap (λ (r : Reply). r.text) told)) (true-report rule all program answers report a is)
told-text rule all program reply short a (inr (fits, inr (refusal, is, told))) = absurd (not-refused all program refusal a is)

-- a text whose report has what holds at points
sound-proof : (all : List ℕ) (program : Program) (reply : Reply) → Accepts all program → IsReplyToProve all reply → reply.status ≡ AllProved → NoAssertionFails program
sound-proof all program reply a (inl (long, is)) e = absurd (cc (sym (ap (λ (r : Reply). r.status) is) ∙ e))
sound-proof all program reply a (inr (fits, inl (made, (answers, is), told))) e =
    let none = zero-of (length made.report.judged - proved_count made.report.judged) (sym (ap (λ (r : Reply). r.status) told) ∙ e) in
    let same : is.program ≡ program = accepted-once all is.program program is.planned.accepted a in
    subst NoAssertionFails same (none-fails is.program made.report is.covers is.met.claims none)
sound-proof all program reply a (inr (fits, inr (refusal, is, told))) e = absurd (cc (sym (ap (λ (r : Reply). r.status) told) ∙ e))

-- it is true of its program
true-proof : (all : List ℕ) (program : Program) (made : PointReport) → Accepts all program → IsProved all made → IsTrueProof program (text_with_points made.report made.points)
true-proof all program made a (answers, is) =
    let same : is.program ≡ program = accepted-once all is.program program is.planned.accepted a in
    record {
      made = made;
      told = refl;
      covers = subst (λ (p : Program). ReportCovers p made.report) same is.covers;
      met = subst (λ (p : Program). AreAllMet p made) same is.met;
      points = is.points;
    }

told-proof : (all : List ℕ) (program : Program) (reply : Reply) → length all ≤ most_bytes → Accepts all program → IsReplyToProve all reply → IsTrueProof program reply.text
told-proof all program reply short a (inl (long, is)) = absurd (omega (arith, short, long))
told-proof all program reply short a (inr (fits, inl (made, is, told))) =
    subst (IsTrueProof program) (sym (ap (λ (r : Reply). r.text) told)) (true-proof all program made a is)
told-proof all program reply short a (inr (fits, inr (refusal, is, told))) = absurd (not-refused all program refusal a is)

-- work whose reply is a report under a rule
module _ (work : Work) (rule : ℕ) (words : List (List ℕ)) (before after : Option (List ℕ)) (reply : Reply) (a : IsToReport work words before) where
  sound-report : IsReplyToRead most_bytes (IsReplyUnder rule) before after reply → reply.status ≡ AllProved → NoAssertionFails a.program
  sound-report read e = sound-text rule a.input a.program reply a.accepted (text-answered work (IsReplyUnder rule) words before after reply a read) e

  report-text : IsReplyToRead most_bytes (IsReplyUnder rule) before after reply → IsTrueText a.program reply.text
  report-text read = told-text rule a.input a.program reply a.short a.accepted (text-answered work (IsReplyUnder rule) words before after reply a read)

-- each word under its rule
module _ (words : List (List ℕ)) (before after : Option (List ℕ)) (reply : Reply) where
  pub sound : (asked : IsToAnalyse words before) → IsReply words before after reply → reply.status ≡ AllProved → NoAssertionFails asked.program
  sound a answer = sound-report Analyse 2 words before after reply a (subst (λ work. IsReplyToWork work before after reply) a.asked answer)

  pub sound-prove : (asked : IsToProve words before) → IsReply words before after reply → reply.status ≡ AllProved → NoAssertionFails asked.program
  sound-prove a answer e = sound-proof a.input a.program reply a.accepted (text-answered Prove IsReplyToProve words before after reply a (subst (λ work. IsReplyToWork work before after reply) a.asked answer)) e

  pub sound-facets : (asked : IsToFacets words before) → IsReply words before after reply → reply.status ≡ AllProved → NoAssertionFails asked.program
  sound-facets a answer = sound-report Facets 3 words before after reply a (subst (λ work. IsReplyToWork work before after reply) a.asked answer)

  pub true-text : (asked : IsToAnalyse words before) → IsReply words before after reply → IsTrueText asked.program reply.text
  true-text a answer = report-text Analyse 2 words before after reply a (subst (λ work. IsReplyToWork work before after reply) a.asked answer)

  pub proved-text : (asked : IsToProve words before) → IsReply words before after reply → IsTrueProof asked.program reply.text
  proved-text a answer = told-proof a.input a.program reply a.short a.accepted (text-answered Prove IsReplyToProve words before after reply a (subst (λ work. IsReplyToWork work before after reply) a.asked answer))

  pub facets-text : (asked : IsToFacets words before) → IsReply words before after reply → IsTrueText asked.program reply.text
  facets-text a answer = report-text Facets 3 words before after reply a (subst (λ work. IsReplyToWork work before after reply) a.asked answer)

-- ---- a certificate file

passed-same : (same : Bool) (one other : Reply) → one.status ≢ CheckPassed → Reply.status (if same then other else one) ≡ CheckPassed → same ≡ true
passed-same true one other ne e = refl
passed-same false one other ne e = absurd (ne e)

passed-one : (one : Bool) (first other : Reply) → other.status ≢ CheckPassed → Reply.status (if one then first else other) ≡ CheckPassed → first.status ≡ CheckPassed
passed-one true first other ne e = e
passed-one false first other ne e = absurd (ne e)

passed-text : (made told : List ℕ) (left : ℕ) → Reply.status (finished_reply made told left) ≡ CheckPassed → made ≡ told
passed-text made told left e =
    (bytes_eq-Decides made told).0 (passed-same (bytes_eq made told) _ _ (λ f. cc f) (passed-one (left == 0) (compared_reply made told) _ (λ f. cc f) e))

sound-checked : (file : Certificate) (program : Program) (reply : Reply) → Accepts file.text program → IsCheckOf file reply → reply.status ≡ CheckPassed → IsTrueFile file program
sound-checked file program reply a (inl (Finished report notes left, is, told)) e =
    let same : is.program ≡ program = accepted-once file.text is.program program is.is_posed.planned.accepted a in
    let text = passed-text (text_of report) file.report (length left) (sym (ap (λ (r : Reply). r.status) told) ∙ e) in
    record {
      report = report;
      told = sym text;
      covers = subst (λ (p : Program). ReportCovers p report) same is.met.0;
      met = subst (λ (p : Program). ClaimsAreMet p report) same is.met.1;
      points = is.met.2;
    }
sound-checked file program reply a (inl (Stuck question left, is, told)) e = absurd (cc (sym (ap (λ (r : Reply). r.status) told) ∙ e))
sound-checked file program reply a (inr (refusal, is, told)) e = absurd (cc (sym (ap (λ (r : Reply). r.status) told) ∙ e))

sound-file : (bytes : List ℕ) (file : Certificate) (program : Program) (reply : Reply) → certificate_of bytes ≡ Ok file → Accepts file.text program → IsReplyToCheck bytes reply
    → reply.status ≡ CheckPassed → IsTrueFile file program
sound-file bytes file program reply shaped a (inl (long, is)) e = absurd (cc (sym (ap (λ (r : Reply). r.status) is) ∙ e))
sound-file bytes file program reply shaped a (inr (fits, outcome)) e =
    sound-checked file program reply a (subst (λ outcome. OrWrong outcome IsCheckOf reply) shaped outcome) e

pub sound-check : (words : List (List ℕ)) (before after : Option (List ℕ)) (reply : Reply) (asked : IsToCheck words before) → IsReply words before after reply → reply.status ≡ CheckPassed
    → IsTrueFile asked.file.file asked.file.program
sound-check words before after reply to answer e =
    let read : IsReplyToRead most_file IsReplyToCheck before after reply = subst (λ work. IsReplyToWork work before after reply) to.asked answer in
    let f = to.file in
    let all = whole-input most_file f.bytes read.input f.short (subst (λ before. IsInput most_file before read.input) f.whole read.is_input) in
    sound-file f.bytes f.file f.program reply f.shaped f.accepted (subst (λ input. IsReplyToCheck input reply) all read.is_reply) e

-- ---- one execution on given values

failed-stop : (s : TraceStop) → (if is_failed s then SomeFailed else NoneFailed) ≡ SomeFailed → (number : ℕ) × (s ≡ stop.Failed number)
failed-stop (stop.Failed number) e = (number, refl)
failed-stop (stop.Done value) e = absurd (cc e)
failed-stop stop.Guard e = absurd (cc e)
failed-stop stop.Zero e = absurd (cc e)
failed-stop stop.Dry e = absurd (cc e)
failed-stop (stop.Wide left right op) e = absurd (cc e)
failed-stop stop.Spent e = absurd (cc e)

failing-text : (input : Input) (program : Program) (reply : Reply) → Accepts input.text program → IsTraceOf input reply → reply.status ≡ SomeFailed → AnAssertionFails program
failing-text input program reply a (inl (other, trace, is, told)) e =
    let at = failed-stop trace.stop (sym (ap (λ (r : Reply). r.status) told) ∙ e) in
    let same : other ≡ program = accepted-once input.text other program is.accepted a in
    subst AnAssertionFails same (at.0, is.fails at.0 at.1)
failing-text input program reply a (inr (refusal, is, told)) e = absurd (cc (sym (ap (λ (r : Reply). r.status) told) ∙ e))

failing-values : (bytes : List ℕ) (input : Input) (program : Program) (reply : Reply) → input_of bytes ≡ Ok input → Accepts input.text program → IsReplyToReplay bytes reply
    → reply.status ≡ SomeFailed → AnAssertionFails program
failing-values bytes input program reply shaped a (inl (long, is)) e = absurd (cc (sym (ap (λ (r : Reply). r.status) is) ∙ e))
failing-values bytes input program reply shaped a (inr (fits, outcome)) e =
    failing-text input program reply a (subst (λ outcome. OrWrong outcome IsTraceOf reply) shaped outcome) e

pub failing : (words : List (List ℕ)) (before after : Option (List ℕ)) (reply : Reply) (asked : IsToReplay words before) → IsReply words before after reply → reply.status ≡ SomeFailed
    → AnAssertionFails asked.program
failing words before after reply a answer e =
    let read : IsReplyToRead most_input IsReplyToReplay before after reply = subst (λ work. IsReplyToWork work before after reply) a.asked answer in
    let all = whole-input most_input a.bytes read.input a.short (subst (λ before. IsInput most_input before read.input) a.whole read.is_input) in
    failing-values a.bytes a.input a.program reply a.shaped a.accepted (subst (λ bytes. IsReplyToReplay bytes reply) all read.is_reply) e

-- What a session says of a text whose groups have come, and whose analysis then came to its end or to
-- a question that was declined.
--     quiet-ended, quiet-stopped     what a call with a log of its own says of the end of an analysis
--     submitted, unanswered          what a session says of the text
--     first-submitted, first-unanswered    and where it has accepted none before
use Rattle.std.proofs.Common.{◌≡◌, ℕ, Bool, List, [], ◌∷◌, ◌++◌, length, Option, None, Some, refl, sym, ap, subst, ◌∙◌, IsErrAnd}
use Rattle.std.specs.Prelude.{Result, Ok, Err}
use Rattle.std.proofs.lemmas.List.{append-nil, append_assoc}
use Rattle.farkas_check.specs.declared.answer.Answer.{Answer}
use Rattle.farkas_check.specs.declared.question.Question.{Question}
use Rattle.farkas_check.specs.Asking.{Asking}
use Rattle.whole_numbers.specs.Counters.{Rose}
use Rattle.syntax_tree.specs.declared.program.Program.{Program}
use Rattle.syntax_tree.specs.WellFormed.{IsWellFormed}
use Rattle.posing.specs.declared.error.WorkError.{WorkError}
use Rattle.posing.specs.declared.error.WorkError.TheVariants.{Refused, Memory}
use Rattle.posing.specs.declared.log.Log.{Log}
use Rattle.posing.specs.Follows.{Follows, IsGood, Leads, with_all}
use Rattle.posing.specs.Posing.{Path, Posing, Done, Asked, ◌>>=◌}
use Rattle.posing.proofs.Paths.{path_bind, path_into, path_map}
use Rattle.report.specs.declared.blocks.Report.{Report}
use Rattle.report.specs.Claims.{ClaimsAreMet, PointsMeetRows, ReportCovers}
use Rattle.analysis.specs.declared.found.Found.{Found}
use Rattle.analysis.specs.declared.places.TextPlace.{TextPlace}
use Rattle.analysis.specs.declared.planning.Planned.{Planned}
use Rattle.analysis.specs.Analysis.{report_by_plan, report_by_findings}
use Rattle.analysis.specs.Found.{findings_by_plan}
use Rattle.analysis.specs.Plan.{IsPlan}
use Rattle.analysis.proofs.OnePlan.{plan-one}
use Rattle.analysis.proofs.Quiet.{IsQuiet, ended-quiet, quiet-path}
use Rattle.named_limits.proofs.LeadingQuestions.{any-leads}
use Rattle.named_limits.proofs.Shares.{analysis-names}
use Rattle.kept_groups.specs.declared.kept.KeptGroups.{KeptGroups}
use Rattle.kept_groups.specs.declared.kept.KeptPart.{KeptPart}
use Rattle.kept_groups.specs.declared.over.FoundParts.{FoundParts}
use Rattle.kept_groups.specs.Coming.{AreCome, answers_asked}
use Rattle.kept_groups.specs.Kept.{AreKept, AreKeptIf, Anything, answers_in, findings_by_kept}
use Rattle.kept_groups.specs.Outcomes.{CameOver, FindsOver, IsDeclinedOver, IsFoundOver}
use Rattle.kept_groups.proofs.PartAnswers.{all_come-weaker, declined-leads, declined-next, none-kept, parts-kept, parts-lead}
use Rattle.summary_cache.specs.declared.last.Last.{Last}
use Rattle.summary_cache.specs.declared.working.Counts.{Counts}
use Rattle.summary_cache.specs.Counted.{counts_of}
use Rattle.summary_cache.specs.First.{IsFirstCause, IsUnanswered, IsWorked}
use Rattle.summary_cache.specs.Kept.{AreAllowed, Kept, last_analysis, groups_of}
use Rattle.summary_cache.specs.Rules.{ClaimsKnowNoRule, with_rule}
use Rattle.summary_cache.specs.Stated.{IsAnalysedBy, IsPlanned, analysis_of, places_of}
use Rattle.summary_cache.proofs.Complete.{accepted-once}
use Rattle.summary_cache.specs.declared.error.SubmitError.{SubmitError}
use Rattle.summary_cache.specs.declared.error.SubmitError.TheVariants as ended
use Rattle.summary_cache.specs.declared.error.SubmitError.TheVariants.{Text}
use Rattle.summary_cache.specs.Submitted.{IsCause, IsOutside, IsSubmittedOver, IsUnansweredOver, IsWorkCause, Works}

-- ---- the end of the analysis, by a log of its own

-- the answers that the oracle had next lead to what is left of it
pub record LeadsTo {S : Type 0} (O : Asking S) (old new : S) (answers : List Answer) (p q : Posing Report) : Type 0 where
  pub path : Path (IsGood O.allows) p [] answers q
  pub taken : O.left old ≡ with_all answers (O.left new)
  pub counted : O.refusals new ≡ O.refusals old

-- .. to a question that is declined
pub record StopsAt {S : Type 0} (O : Asking S) (old new : S) (p : Posing Report) : Type 0 where
  pub answers : List Answer
  pub question : Question
  pub next : Answer → Posing Report
  pub path : Path (IsGood O.allows) p [] answers (Asked question next)
  pub taken : O.left old ≡ with_all answers (O.left new)
  pub declined : O.declines new question
  pub rose : Rose (O.refusals old) (O.refusals new)

module _ {S : Type 0} (O : Asking S) (old new : S) (before after : Log) (p : Posing Report) (empty : before ≡ record { notes = []; answers = [] })
    (quiet : IsQuiet p) where
  leads-quietly : (at : S) (q : Posing Report) → Leads O old at before after p q → LeadsTo O old at after.answers p q
  leads-quietly at q leads =
      let all : after.answers ≡ leads.answers = leads.logged ∙ ap (λ (log : Log). log.answers ++ leads.answers) empty in
      let none = quiet-path (IsGood O.allows) p q leads.notes leads.answers leads.path quiet in
      record {
        path = subst (λ answers. Path (IsGood O.allows) p [] answers q) (sym all) (subst (λ notes. Path (IsGood O.allows) p notes leads.answers q) none leads.path);
        taken = leads.taken ∙ ap (λ answers. with_all answers (O.left at)) (sym all);
        counted = leads.counted;
      }

  pub quiet-ended : (report : Report) → Follows O old new before after (Ok report) p → LeadsTo O old new after.answers p (Done report)
  quiet-ended report follows = leads-quietly new (Done report) follows.comes

  pub quiet-halted : Follows O old new before after (Err Memory) p → O.refusals new ≡ O.refusals old
  quiet-halted follows = follows.comes.leads.counted

  pub quiet-stopped : Follows O old new before after (Err Refused) p → StopsAt O old new p
  quiet-stopped follows =
      let at = follows.comes in
      let leads = leads-quietly at.at (Asked at.question at.next) at.leads in
      record {
        answers = after.answers;
        question = at.question;
        next = at.next;
        path = leads.path;
        taken = leads.taken ∙ ap (with_all after.answers) (sym at.left);
        declined = at.declined;
        rose = subst (λ count. Rose count (O.refusals new)) leads.counted at.rose;
      }

-- ---- answers of two calls, one behind the other

with_all-twice : (first second : List Answer) (left : Option (List Answer)) → with_all first (with_all second left) ≡ with_all (first ++ second) left
with_all-twice first second None = refl
with_all-twice first second (Some left) = ap Some (sym (append_assoc first second left))

-- ---- the analysis of a text, over what is kept of another

-- the rows of the question of a text: its program under the rule, its plan, and what is kept
pub record IsAsked (rule : ℕ) (text : List ℕ) (program ruled : Program) (plan : List Planned) (places : List TextPlace) : Type 0 where
  pub planned : IsPlanned rule text program plan
  pub under : ruled ≡ with_rule rule program
  pub places_are : places ≡ places_of text program
  pub formed : IsWellFormed ruled

module _ (rule : ℕ) (text : List ℕ) (program ruled : Program) (plan : List Planned) (places : List TextPlace) (is : IsAsked rule text program ruled plan places)
    (kept : Option KeptGroups) where
  ruled-plan : IsPlan ruled plan
  ruled-plan = subst (λ (p : Program). IsPlan p plan) (sym is.under) is.planned.is_plan

  stated-is : report_by_plan ruled places plan ≡ analysis_of rule text program plan
  stated-is = ap (λ (p : Program). report_by_plan p places plan) is.under ∙ ap (λ at. report_by_plan (with_rule rule program) at plan) is.places_are

  -- the answers of all groups, and others, lead from the analysis to what the others lead to from its end
  module _ (allows : Question → Answer → Type 0) (are : AreKeptIf allows kept) (parts : List KeptPart) (marks : List Bool) (found : Found)
      (come : AreCome allows kept ruled (findings_by_kept (length ruled.procs) [] []) plan parts marks)
      (found_is : found ≡ findings_by_kept (length ruled.procs) plan parts) where
    pub analysis-leads : (rest : List Answer) (q : Posing Report) → Path (IsGood allows) (report_by_findings ruled places found) [] rest q
        → Path (IsGood allows) (analysis_of rule text program plan) [] (answers_in parts ++ rest) q
    unfolding report_by_plan
    analysis-leads rest q path =
        let first = subst (λ found. Path (IsGood allows) (findings_by_plan ruled plan) [] (answers_in parts) (Done found)) (sym found_is)
        (parts-lead allows kept ruled plan parts marks is.formed ruled-plan are come) in
        subst (λ p. Path (IsGood allows) p [] (answers_in parts ++ rest) q) stated-is
        (path_bind (IsGood allows) (findings_by_plan ruled plan) found (λ found. report_by_findings ruled places found) q [] [] (answers_in parts) rest first path)

    pub program-kept : AreKept allows (record { program = ruled; plan = plan; parts = parts })
    program-kept = parts-kept allows kept ruled plan parts marks is.formed ruled-plan are come

    -- what is known of the report under these answers
    pub report-analysed : (free : ClaimsKnowNoRule) (report : Report) (rest : List Answer) → Path (IsGood allows) (report_by_findings ruled places found) [] rest (Done report)
        → ClaimsAreMet ruled report → ReportCovers ruled report → PointsMeetRows report → IsAnalysedBy allows rule text (answers_in parts ++ rest) report
    report-analysed free report rest path met covers points =
        let leads = analysis-leads rest (Done report) path in
        let ruled_covers = subst (λ (p : Program). ReportCovers p report) is.under covers in
        record {
          program = program;
          plan = plan;
          planned = is.planned;
          leads = leads;
          met = free program rule report (subst (λ (p : Program). ClaimsAreMet p report) is.under met);
          covers = record {
            blocks = ruled_covers.blocks;
            verdicts = ruled_covers.verdicts;
            fit = λ proc p block is at.
                let known = ruled_covers.fit proc p block is at in
                record { enters = known.enters; leaves = known.leaves; fits = known.fits; cases = known.cases; auxiliaries = known.auxiliaries };
          };
          points = points;
          named = λ is_plain. analysis-names (with_rule rule program) (places_of text program) plan (answers_in parts ++ rest) report is_plain is.planned.is_plan
              (any-leads (IsGood allows) (analysis_of rule text program plan) (Done report) [] (answers_in parts ++ rest) leads) ruled_covers;
        }

-- ---- what the session says

module _ {S : Type 0} (O : Asking S) (rule : ℕ) (before : Option Last) (old now new : S) (text : List ℕ) (program ruled : Program) (plan : List Planned)
    (places : List TextPlace) (is : IsAsked rule text program ruled plan places) (are : AreAllowed Anything before) where
  nothing-more : (question : Question) (answer : Answer) → O.allows question answer → Anything question answer
  nothing-more question answer h = tt

  any-path : (p q : Posing Report) (answers : List Answer) → Path (IsGood O.allows) p [] answers q → Path (IsGood Anything) p [] answers q
  any-path p q answers path =
      path_map (IsGood O.allows) (IsGood Anything) p q [] answers (λ question answer good. record { passes = good.passes; is_true = good.is_true; allowed = tt }) path

  module _ (from to : ℕ) (made : FoundParts) (over : IsFoundOver O (groups_of before) ruled plan old now from to made) where
    any-come : AreCome Anything (groups_of before) ruled (findings_by_kept (length ruled.procs) [] []) plan made.parts over.marks
    any-come = all_come-weaker O.allows Anything nothing-more (groups_of before) ruled (findings_by_kept (length ruled.procs) [] []) plan made.parts over.marks over.come

    pub submitted : (free : ClaimsKnowNoRule) (report : Report) (rest : List Answer) (last : Last) (counts : Counts)
        → LeadsTo O now new rest (report_by_findings ruled places made.found) (Done report)
        → ClaimsAreMet ruled report → ReportCovers ruled report → PointsMeetRows report
        → last ≡ record { groups = record { program = ruled; plan = plan; parts = made.parts }; report = report; rest = rest }
        → counts ≡ counts_of made.work (length plan) report → IsSubmittedOver O rule before old new text last counts
    submitted free report rest last counts ended met covers points last_is counted =
        let kept = groups_of before in
        subst (λ last. IsSubmittedOver O rule before old new text last counts) (sym last_is)
        (record {
          program = program;
          planned = is.planned;
          is = is.under;
          marks = over.marks;
          come = subst (λ (p : Program). AreCome O.allows kept ruled (findings_by_kept (length p.procs) [] []) plan made.parts over.marks) is.under over.come;
          analysed = report-analysed rule text program ruled plan places is kept Anything are made.parts over.marks made.found any-come over.found
              free report rest (any-path (report_by_findings ruled places made.found) (Done report) rest ended.path) met covers points;
          kept = program-kept rule text program ruled plan places is kept Anything are made.parts over.marks made.found any-come over.found;
          allowed = λ allowed. (
            report-analysed rule text program ruled plan places is kept O.allows allowed made.parts over.marks made.found over.come over.found
                free report rest ended.path met covers points,
            program-kept rule text program ruled plan places is kept O.allows allowed made.parts over.marks made.found over.come over.found,
          );
          taken = over.taken ∙ ap (with_all (answers_asked over.marks made.parts)) ended.taken ∙ with_all-twice (answers_asked over.marks made.parts) rest (O.left new);
          refused_none = ended.counted ∙ over.counted;
          counted = counted ∙ ap (λ n. counts_of n (length plan) report) over.work;
        })

    pub ended-unanswered : StopsAt O now new (report_by_findings ruled places made.found) → IsUnansweredOver O rule before old new text
    ended-unanswered stop =
        let kept = groups_of before in
        record {
          program = program;
          plan = plan;
          planned = is.planned;
          answers = answers_in made.parts ++ stop.answers;
          asked = answers_asked over.marks made.parts ++ stop.answers;
          question = stop.question;
          next = stop.next;
          leads = analysis-leads rule text program ruled plan places is kept Anything are made.parts over.marks made.found any-come over.found
              stop.answers (Asked stop.question stop.next) (any-path (report_by_findings ruled places made.found) (Asked stop.question stop.next) stop.answers stop.path);
          allowed = λ allowed. analysis-leads rule text program ruled plan places is kept O.allows allowed made.parts over.marks made.found over.come over.found
              stop.answers (Asked stop.question stop.next) stop.path;
          outside = subst (λ (p : Program). IsOutside O.allows kept p plan (answers_in made.parts ++ stop.answers) (answers_asked over.marks made.parts ++ stop.answers)) is.under
              (record {
                done = plan;
                left = [];
                is = sym (append-nil plan);
                parts = made.parts;
                marks = over.marks;
                come = over.come;
                known_new = tt;
                since = stop.answers;
                answers_are = refl;
                asked_are = refl;
              });
          taken = over.taken ∙ ap (with_all (answers_asked over.marks made.parts)) stop.taken
              ∙ with_all-twice (answers_asked over.marks made.parts) stop.answers (O.left new);
          declined = stop.declined;
          rose = subst (λ count. Rose count (O.refusals new)) over.counted stop.rose;
        }

  group-leads : (over : IsDeclinedOver O (groups_of before) ruled plan old new) (allows : Question → Answer → Type 0)
      → ((question : Question) (answer : Answer) → O.allows question answer → allows question answer) → AreKeptIf allows (groups_of before)
      → Path (IsGood allows) (analysis_of rule text program plan) [] (answers_in over.parts ++ over.answers)
      (Asked over.question (λ answer. declined-next O (groups_of before) ruled plan old new over answer >>= λ found. report_by_findings ruled places found))
  unfolding report_by_plan ◌>>=◌
  group-leads over allows weaker kept_are =
      let kept = groups_of before in
      let next = declined-next O kept ruled plan old new over in
      let answers = answers_in over.parts ++ over.answers in
      subst (λ p. Path (IsGood allows) p [] answers (Asked over.question (λ answer. next answer >>= λ found. report_by_findings ruled places found)))
      (stated-is rule text program ruled plan places is kept)
      (path_into (IsGood allows) (findings_by_plan ruled plan) (Asked over.question next) [] answers (λ found. report_by_findings ruled places found)
      (declined-leads O kept ruled plan old new over is.formed (ruled-plan rule text program ruled plan places is kept) allows weaker kept_are))

  pub group-unanswered : IsDeclinedOver O (groups_of before) ruled plan old new → IsUnansweredOver O rule before old new text
  group-unanswered over =
      let kept = groups_of before in
      let answers = answers_in over.parts ++ over.answers in
      record {
        program = program;
        plan = plan;
        planned = is.planned;
        answers = answers;
        asked = answers_asked over.marks over.parts ++ over.answers;
        question = over.question;
        next = λ answer. declined-next O kept ruled plan old new over answer >>= λ found. report_by_findings ruled places found;
        leads = group-leads over Anything nothing-more are;
        allowed = λ allowed. group-leads over O.allows (λ question answer h. h) allowed;
        outside = subst (λ (p : Program). IsOutside O.allows kept p plan answers (answers_asked over.marks over.parts ++ over.answers)) is.under
            (record {
              done = over.done;
              left = over.planned ∷ over.left;
              is = over.is;
              parts = over.parts;
              marks = over.marks;
              come = over.come;
              known_new = over.known_new;
              since = over.answers;
              answers_are = refl;
              asked_are = refl;
            });
        taken = over.taken;
        declined = over.declined;
        rose = over.rose;
      }

-- ---- by what the calls of a session did

module _ {S : Type 0} (O : Asking S) (rule : ℕ) (before : Option Last) (old now new : S) (text : List ℕ) (program ruled : Program) (plan : List Planned)
    (places : List TextPlace) (is : IsAsked rule text program ruled plan places) (are : AreAllowed Anything before) where
  pub fails : (error : WorkError) (result : Result (Last × Counts) WorkError) → IsErrAnd result (λ e. e ≡ error) → IsWorkCause O rule before old new text error
      → Works O rule before old new text result
  fails error (Ok made) says cause = absurd says
  fails error (Err other) says cause = subst (IsWorkCause O rule before old new text) (sym says) cause

  -- groups of the plan, as a call was given them
  pub in-groups : (kept : Option KeptGroups) (given : List Planned) (from to : ℕ) (result : Result FoundParts WorkError) → kept ≡ groups_of before → given ≡ plan
      → FindsOver O kept ruled given old now from to result → CameOver O (groups_of before) ruled plan old now from to result
  in-groups kept given from to result same all finds =
      subst (λ kept. CameOver O kept ruled plan old now from to result) same (subst (λ given. CameOver O kept ruled given old now from to result) all finds.came)

  pub groups-fail : (from to : ℕ) (error : WorkError) → CameOver O (groups_of before) ruled plan old new from to (Err error) → IsWorkCause O rule before old new text error
  groups-fail from to Memory came = came
  groups-fail from to Refused came = group-unanswered O rule before old now new text program ruled plan places is are came

  pub end-fails : (from to : ℕ) (made : FoundParts) → IsFoundOver O (groups_of before) ruled plan old now from to made → (log after : Log) → log ≡ record { notes = []; answers = [] }
      → (error : WorkError) → Follows O now new log after (Err error) (report_by_findings ruled places made.found) → IsWorkCause O rule before old new text error
  end-fails from to made over log after empty Memory follows =
      quiet-halted O now new log after (report_by_findings ruled places made.found) empty (ended-quiet ruled places made.found) follows ∙ over.counted
  end-fails from to made over log after empty Refused follows =
      ended-unanswered O rule before old now new text program ruled plan places is are from to made over
      (quiet-stopped O now new log after (report_by_findings ruled places made.found) empty (ended-quiet ruled places made.found) follows)

-- ---- where the session has accepted none before

module _ {S : Type 0} (O : Asking S) (rule : ℕ) (old new : S) (text : List ℕ) where
  -- the plans of a text are as long
  plan-long : (program other : Program) (plan others : List Planned) → IsPlanned rule text program plan → IsPlanned rule text other others → length plan ≡ length others
  plan-long program other plan others one two =
      let same = accepted-once text program other one.accepted two.accepted in
      ap length (plan-one (with_rule rule program) plan others one.is_plan (subst (λ (p : Program). IsPlan (with_rule rule p) others) (sym same) two.is_plan))

  pub first-submitted : (last : Last) (counts : Counts) → IsSubmittedOver O rule None old new text last counts → IsWorked O rule old new text (last_analysis last) counts
  first-submitted last counts h =
      let none = none-kept O.allows last.groups.program (findings_by_kept (length h.program.procs) [] []) last.groups.plan last.groups.parts h.marks h.come in
      let analysed = (h.allowed tt).0 in
      let long = plan-long h.program analysed.program last.groups.plan analysed.plan h.planned analysed.planned in
      record {
        analysed = analysed;
        taken = h.taken ∙ ap (λ answers. with_all (answers ++ last.rest) (O.left new)) none.0;
        refused_none = h.refused_none;
        counted = h.counted ∙ ap (λ n. counts_of n (length last.groups.plan) last.report) none.1 ∙ ap (λ n. counts_of n n last.report) long;
      }

  pub first-unanswered : IsUnansweredOver O rule None old new text → IsUnanswered O rule old new text
  first-unanswered h =
      let out = h.outside in
      let none = none-kept O.allows (with_rule rule h.program) (findings_by_kept (length h.program.procs) [] []) out.done out.parts out.marks out.come in
      let same : h.asked ≡ h.answers = out.asked_are ∙ ap (λ answers. answers ++ out.since) none.0 ∙ sym out.answers_are in
      record {
        program = h.program;
        plan = h.plan;
        planned = h.planned;
        declined = record {
          answers = h.answers;
          question = h.question;
          next = h.next;
          stated = h.allowed tt;
          taken = h.taken ∙ ap (λ answers. with_all answers (O.left new)) same;
          declined = h.declined;
          rose = h.rose;
        };
      }

  pub first-cause : (error : SubmitError) → IsCause O rule None old new text error → IsFirstCause O rule old new text error
  first-cause (Text refusal) cause = cause
  first-cause ended.Refused cause = first-unanswered cause
  first-cause ended.Memory cause = cause

-- ---- a session, as its fields are

module _ {S : Type 0} (O : Asking S) (old new : S) (text : List ℕ) (session : Kept) (rule : ℕ) (before : Option Last) (seen : session ≡ record { rule = rule; last = before }) where
  pub next-allowed : (last : Last) (counts : Counts) → IsSubmittedOver O rule before old new text last counts → AreAllowed Anything (Some last)
  next-allowed last counts h = h.kept

  pub session-first : (last : Last) (counts : Counts) → IsSubmittedOver O rule before old new text last counts → session.last ≡ None
      → IsWorked O session.rule old new text (last_analysis last) counts
  session-first last counts h =
      subst (λ (s : Kept). s.last ≡ None → IsWorked O s.rule old new text (last_analysis last) counts) (sym seen)
      (λ none. first-submitted O rule old new text last counts (subst (λ before. IsSubmittedOver O rule before old new text last counts) none h))

  pub session-first_cause : (error : SubmitError) → IsCause O rule before old new text error → session.last ≡ None → IsFirstCause O session.rule old new text error
  session-first_cause error cause =
      subst (λ (s : Kept). s.last ≡ None → IsFirstCause O s.rule old new text error) (sym seen)
      (λ none. first-cause O rule old new text error (subst (λ before. IsCause O rule before old new text error) none cause))

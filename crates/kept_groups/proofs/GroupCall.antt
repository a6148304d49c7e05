-- What a call did that sums up a group by asking, with a log of its own.
--     part-made         it came to a part, whose answers are those that the oracle had next
--     part-declined     it failed
use Rattle.std.proofs.Common.{◌≡◌, List, [], ◌++◌, Option, Ok, Err, Result, IsErrAnd, refl, sym, ap, ◌∙◌, subst}
use Rattle.farkas_check.specs.Asking.{Asking}
use Rattle.syntax_tree.specs.declared.program.Program.{Program}
use Rattle.transition_formula.specs.Transition.{Transition}
use Rattle.whole_numbers.specs.Counters.{Rose}
use Rattle.posing.specs.declared.error.WorkError.{WorkError}
use Rattle.posing.specs.declared.error.WorkError.TheVariants.{Refused, Memory}
use Rattle.posing.specs.declared.log.Log.{Log}
use Rattle.posing.specs.declared.note.Note.{Note}
use Rattle.posing.specs.Follows.{FailsAt, Follows, IsGood, with_all}
use Rattle.posing.specs.Posing.{Done, Path, Posing}
use Rattle.analysis.specs.declared.parts.GroupSummaries.{GroupSummaries}
use Rattle.analysis.specs.declared.planning.Planned.{Planned}
use Rattle.analysis.specs.Apart.{apart}
use Rattle.analysis.specs.Parts.{summaries_by}
use Rattle.kept_groups.specs.declared.kept.KeptPart.{KeptPart}
use Rattle.kept_groups.specs.OneGroup.{Ends, EndsIn, IsDeclined, IsMade}
use Rattle.kept_groups.proofs.CallEnds.{error-ends}
use Rattle.kept_groups.proofs.Together.{path-question, path-value}

module _ {S : Type 0} (O : Asking S) (program : Program) (known : List (Option Transition)) (planned : Planned) (old new : S) where
  abbrev stated : Posing GroupSummaries
  stated = summaries_by planned.kind program planned.procs known

  pub part-made : (before after : Log) (summaries : GroupSummaries) (notes : List Note) → before ≡ record { notes = []; answers = [] } → Follows O old new before after (Ok (summaries, notes)) (apart stated)
      → IsMade O program known planned old new record { summaries = summaries; notes = notes; answers = after.answers }
  part-made before after summaries notes empty follows =
      let leads = follows.comes in
      let own : after.answers ≡ leads.answers = leads.logged ∙ ap (λ (l : Log). l.answers ++ leads.answers) empty in
      let at = path-value (IsGood O.allows) [] stated leads.notes leads.answers (summaries, notes) leads.path in
      let path = subst (λ ns. Path (IsGood O.allows) stated ns leads.answers (Done summaries)) (sym at.are) at.path in
      record {
        of = record { path = subst (λ taken. Path (IsGood O.allows) stated notes taken (Done summaries)) (sym own) path };
        taken = leads.taken ∙ ap (λ taken. with_all taken (O.left new)) (sym own);
        counted = leads.counted;
      }

  fails : (before after : Log) (error : WorkError) → FailsAt O old new before after error (apart stated)
      → EndsIn O (IsMade O program known planned old new) (IsDeclined O program known planned old new) old new (Err error)
  fails before after Refused refused =
      let leads = refused.leads in
      let at = path-question (IsGood O.allows) [] stated leads.notes leads.answers refused.question refused.next leads.path in
      record {
        notes = at.own;
        answers = leads.answers;
        question = refused.question;
        next = at.next;
        leads = at.path;
        taken = leads.taken ∙ ap (with_all leads.answers) (sym refused.left);
        declined = refused.declined;
        rose = subst (λ count. Rose count (O.refusals new)) leads.counted refused.rose;
      }
  fails before after Memory halted = halted.leads.counted

  pub part-declined : (before after : Log) (error : WorkError) (result : Result KeptPart WorkError) → Follows O old new before after (Err error) (apart stated) → IsErrAnd result (λ e. e ≡ error)
      → Ends O (IsMade O program known planned old new) (IsDeclined O program known planned old new) old new result
  part-declined before after error result follows is =
      error-ends refl (λ declined. declined)
      (let ends : Ends O (IsMade O program known planned old new) (IsDeclined O program known planned old new) old new (Err error) = record { is = fails before after error follows.comes } in ends) is

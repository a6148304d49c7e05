-- The groups of a plan that have come, and one more.
--     come-more, kept-more       one more behind those that have come
--     none-over, more-over       nothing has come; a group more
--     stuck-over                 the next group comes to a question that the oracle declines
use Rattle.std.proofs.Common.{◌≡◌, ℕ, suc, ◌+◌, Bool, true, false, List, [], ◌∷◌, ◌++◌, Option, None, Some, refl, sym, ap, ◌∙◌, subst, append_assoc, arith}
use Rattle.farkas_check.specs.declared.answer.Answer.{Answer}
use Rattle.farkas_check.specs.declared.question.Question.{Question}
use Rattle.farkas_check.specs.Asking.{Asking}
use Rattle.syntax_tree.specs.declared.program.Program.{Program}
use Rattle.whole_numbers.specs.Counters.{Rose}
use Rattle.posing.specs.Follows.{IsGood, with_all}
use Rattle.posing.specs.Posing.{Asked, Path}
use Rattle.analysis.specs.declared.found.Found.{Found}
use Rattle.analysis.specs.declared.planning.Planned.{Planned}
use Rattle.analysis.specs.Parts.{summaries_by}
use Rattle.kept_groups.specs.declared.kept.KeptGroups.{KeptGroups}
use Rattle.kept_groups.specs.declared.kept.KeptPart.{KeptPart}
use Rattle.kept_groups.specs.declared.over.ComingPart.{ComingPart}
use Rattle.kept_groups.specs.declared.over.FoundParts.{FoundParts}
use Rattle.kept_groups.specs.Coming.{AreCome, IsCome, IsNew, answers_asked, count_made}
use Rattle.kept_groups.specs.Kept.{findings_by_kept, findings_with, with_kept}
use Rattle.kept_groups.specs.OneGroup.{IsComing, IsStuck, nothing_yet, with_coming}
use Rattle.kept_groups.specs.Outcomes.{IsDeclinedOver, IsFoundOver}
use Rattle.std.specs.Prelude.{length}

-- ---- one more behind

module _ (allows : Question → Answer → Type 0) (kept : Option KeptGroups) (program : Program) where
  pub come-more : (found : Found) (done : List Planned) (parts : List KeptPart) (marks : List Bool) (planned : Planned) (part : KeptPart) (taken : Bool)
      → AreCome allows kept program found done parts marks → IsCome allows kept program (findings_with found done parts).known planned part taken
      → AreCome allows kept program found (done ++ planned ∷ []) (parts ++ part ∷ []) (marks ++ taken ∷ [])
  come-more found [] [] [] planned part taken come one = (one, tt)
  come-more found (g ∷ done) (p ∷ parts) (m ∷ marks) planned part taken come one = (come.0, come-more (with_kept found g p) done parts marks planned part taken come.1 one)
  come-more found [] [] (m ∷ marks) planned part taken come one = absurd come
  come-more found [] (p ∷ parts) marks planned part taken come one = absurd come
  come-more found (g ∷ done) [] marks planned part taken come one = absurd come
  come-more found (g ∷ done) (p ∷ parts) [] planned part taken come one = absurd come

  pub kept-more : (found : Found) (done : List Planned) (parts : List KeptPart) (marks : List Bool) (planned : Planned) (part : KeptPart)
      → AreCome allows kept program found done parts marks → findings_with found (done ++ planned ∷ []) (parts ++ part ∷ []) ≡ with_kept (findings_with found done parts) planned part
  kept-more found [] [] marks planned part come = refl
  kept-more found (g ∷ done) (p ∷ parts) (m ∷ marks) planned part come = kept-more (with_kept found g p) done parts marks planned part come.1
  kept-more found [] (p ∷ parts) marks planned part come = absurd come
  kept-more found (g ∷ done) [] marks planned part come = absurd come
  kept-more found (g ∷ done) (p ∷ parts) [] planned part come = absurd come

  asked-more : (found : Found) (done : List Planned) (parts : List KeptPart) (marks : List Bool) (part : KeptPart) (taken : Bool)
      → AreCome allows kept program found done parts marks → answers_asked (marks ++ taken ∷ []) (parts ++ part ∷ []) ≡ answers_asked marks parts ++ answers_asked (taken ∷ []) (part ∷ [])
  asked-more found [] [] [] part taken come = refl
  asked-more found (g ∷ done) (p ∷ parts) (true ∷ marks) part taken come = asked-more (with_kept found g p) done parts marks part taken come.1
  asked-more found (g ∷ done) (p ∷ parts) (false ∷ marks) part taken come =
      ap (λ rest. p.answers ++ rest) (asked-more (with_kept found g p) done parts marks part taken come.1)
      ∙ sym (append_assoc p.answers (answers_asked marks parts) (answers_asked (taken ∷ []) (part ∷ [])))
  asked-more found [] [] (m ∷ marks) part taken come = absurd come
  asked-more found [] (p ∷ parts) marks part taken come = absurd come
  asked-more found (g ∷ done) [] marks part taken come = absurd come
  asked-more found (g ∷ done) (p ∷ parts) [] part taken come = absurd come

none-plus : (n : ℕ) → n ≡ 0 + n
none-plus n = omega arith

one-plus : (n a b : ℕ) → n ≡ a + b → suc n ≡ suc a + b
one-plus n a b same = omega (arith, same)

made-more : (marks : List Bool) (taken : Bool) → count_made (marks ++ taken ∷ []) ≡ count_made marks + count_made (taken ∷ [])
made-more [] taken = none-plus (count_made (taken ∷ []))
made-more (true ∷ marks) taken = made-more marks taken
made-more (false ∷ marks) taken = one-plus (count_made (marks ++ taken ∷ [])) (count_made marks) (count_made (taken ∷ [])) (made-more marks taken)

-- ---- answers that an oracle had next

pub asked-none : (told : Option (List Answer)) → told ≡ with_all [] told
asked-none None = refl
asked-none (Some answers) = refl

pub asked-both : (first more : List Answer) (old now new : Option (List Answer)) → old ≡ with_all first now → now ≡ with_all more new → old ≡ with_all (first ++ more) new
asked-both first more old now None e f = e ∙ ap (with_all first) f
asked-both first more old now (Some rest) e f = e ∙ ap (with_all first) f ∙ ap (λ all. Some all) (sym (append_assoc first more rest))

-- ---- what is found so far

module _ {S : Type 0} (O : Asking S) (kept : Option KeptGroups) (program : Program) (old : S) (from : ℕ) where
  pub none-over : IsFoundOver O kept program [] old old from from (nothing_yet (length program.procs))
  none-over =
      record {
        marks = [];
        come = tt;
        found = refl;
        taken = asked-none (O.left old);
        counted = refl;
        work = refl;
        steps = omega arith;
      }

  module _ (done : List Planned) (planned : Planned) (now new : S) (mid to : ℕ) (made : FoundParts) (over : IsFoundOver O kept program done old now from mid made) where
    pub more-over : (coming : ComingPart) → IsComing O kept program made.found.known planned now new mid to coming
        → IsFoundOver O kept program (done ++ planned ∷ []) old new from to (with_coming made planned coming)
    more-over coming one =
        let nothing = findings_by_kept (length program.procs) [] [] in
        let same = over.found in
        let work = over.work in
        let steps = over.steps in
        let step = one.steps in
        let more = made-more over.marks coming.taken in
        record {
          marks = over.marks ++ coming.taken ∷ [];
          come = come-more O.allows kept program nothing done made.parts over.marks planned coming.part coming.taken over.come
              (subst (λ (found : Found). IsCome O.allows kept program found.known planned coming.part coming.taken) same one.come);
          found = ap (λ found. with_kept found planned coming.part) same ∙ sym (kept-more O.allows kept program nothing done made.parts over.marks planned coming.part over.come);
          taken = asked-both (answers_asked over.marks made.parts) (answers_asked (coming.taken ∷ []) (coming.part ∷ [])) (O.left old) (O.left now) (O.left new) over.taken one.taken
              ∙ ap (λ answers. with_all answers (O.left new)) (sym (asked-more O.allows kept program nothing done made.parts over.marks coming.part coming.taken over.come));
          counted = one.counted ∙ over.counted;
          work = ap (λ n. n + count_made (coming.taken ∷ [])) work ∙ sym more;
          steps = omega (arith, steps, step, more);
        }

    pub stuck-over : (plan left : List Planned) → plan ≡ done ++ planned ∷ left → IsStuck O kept program made.found.known planned now new → IsDeclinedOver O kept program plan old new
    stuck-over plan left split stuck =
        let end = stuck.declined in
        let same = over.found in
        record {
          done = done;
          planned = planned;
          left = left;
          is = split;
          parts = made.parts;
          marks = over.marks;
          come = over.come;
          known_new = subst (λ (found : Found). IsNew kept program found.known planned) same stuck.known_new;
          notes = end.notes;
          answers = end.answers;
          question = end.question;
          next = end.next;
          leads = subst (λ (found : Found). Path (IsGood O.allows) (summaries_by planned.kind program planned.procs found.known) end.notes end.answers (Asked end.question end.next)) same end.leads;
          taken = asked-both (answers_asked over.marks made.parts) end.answers (O.left old) (O.left now) (O.left new) over.taken end.taken;
          declined = end.declined;
          rose = subst (λ count. Rose count (O.refusals new)) over.counted end.rose;
        }

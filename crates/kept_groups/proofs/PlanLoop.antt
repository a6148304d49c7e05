-- The loop over the groups of a plan.
--     goes-begin, goes-ready, goes-next     nothing has come; the next group is ready; a group more
--     goes-stuck, goes-over, goes-whole     it ends at a question; it is at its end
use Rattle.std.proofs.Common.{◌≡◌, ℕ, ◌+◌, ◌<◌, ◌≤◌, Bool, true, false, List, [], ◌∷◌, ◌++◌, Option, Result, Ok, Err, IsErrAnd, length, drop, take, get_or, refl, sym, ap, ◌∙◌, subst, arith}
use Rattle.std.proofs.lemmas.List.{drop_all, drop_more, take-append-drop, take_all, take_more}
use Rattle.farkas_check.specs.Asking.{Asking}
use Rattle.syntax_tree.specs.declared.program.Program.{Program}
use Rattle.syntax_tree.specs.WellFormed.{IsWellFormed}
use Rattle.posing.specs.declared.error.WorkError.{WorkError}
use Rattle.posing.specs.Follows.{IsGood}
use Rattle.analysis.specs.declared.parts.Part.{Part}
use Rattle.analysis.specs.declared.planning.Planned.{Planned}
use Rattle.analysis.specs.Claims.{FitsFound, FoundIsMet, IsLeft, IsReadyGroup}
use Rattle.analysis.specs.Parts.{part_with}
use Rattle.analysis.specs.Plan.{IsPlan}
use Rattle.analysis.proofs.GroupFindings.{found-fits, found-has, found-met, left-all, left-next, left-ready, nothing-fits, nothing-left, nothing-met}
use Rattle.analysis_laws.specs.Laws.{IsFinePart, IsWhole}
use Rattle.alike_groups.proofs.Parts.{plans_are_planned}
use Rattle.kept_groups.specs.declared.kept.KeptGroups.{KeptGroups}
use Rattle.kept_groups.specs.declared.over.ComingPart.{ComingPart}
use Rattle.kept_groups.specs.declared.over.FoundParts.{FoundParts}
use Rattle.kept_groups.specs.Coming.{count_made}
use Rattle.kept_groups.specs.Kept.{AreKeptIf, Anything, IsPartOf, with_kept}
use Rattle.kept_groups.specs.OneGroup.{Ends, IsOneMore, IsStuck, nothing_yet, with_coming}
use Rattle.kept_groups.specs.Outcomes.{FindsOver, IsFoundOver}
use Rattle.kept_groups.proofs.CallEnds.{ends-came, error-ends}
use Rattle.kept_groups.proofs.KeptParts.{come-part, come-weaker, part-fine}
use Rattle.kept_groups.proofs.AlikeSearch.{placed}
use Rattle.kept_groups.proofs.SoFar.{more-over, none-over, stuck-over}

made-few : (taken : Bool) → count_made (taken ∷ []) ≤ 1
made-few true = omega arith
made-few false = omega arith

module _ {S : Type 0} (O : Asking S) (kept : Option KeptGroups) (program : Program) (plan : List Planned) (old : S) (from : ℕ) where
  -- what is so after so many groups
  pub record Goes (i : ℕ) (now : S) (to : ℕ) (made : FoundParts) : Type 0 where
    pub over : IsFoundOver O kept program (take i plan) old now from to made
    pub few : made.work ≤ i
    pub fits : FitsFound program made.found
    pub met : FoundIsMet program made.found
    pub left : IsLeft program made.found (drop i plan)

  pub goes-begin : (made : FoundParts) → made ≡ nothing_yet (length program.procs) → IsPlan program plan → Goes 0 old from made
  goes-begin made same is =
      subst (Goes 0 old from) (sym same)
      (record { over = none-over O kept program old from; few = omega arith; fits = nothing-fits program; met = nothing-met program; left = nothing-left program plan is })

  module _ (i : ℕ) (now : S) (mid : ℕ) (made : FoundParts) (goes : Goes i now mid made) where
    module _ (planned : Planned) (lt : i < length plan) (is : planned ≡ get_or plan i planned) (formed : IsWellFormed program) where
      rest-split : drop i plan ≡ planned ∷ drop (i + 1) plan
      rest-split = drop_more plan i planned lt ∙ ap (λ p. p ∷ drop (i + 1) plan) (sym is)

      left : IsLeft program made.found (planned ∷ drop (i + 1) plan)
      left = subst (IsLeft program made.found) rest-split goes.left

      pub goes-ready : IsReadyGroup program planned made.found.known
      goes-ready = left-ready program made.found planned (drop (i + 1) plan) formed left

      module _ (is_plan : IsPlan program plan) (are : AreKeptIf Anything kept) (new : S) (to : ℕ) where
        fine : (coming : ComingPart) → IsPartOf (IsGood Anything) program made.found.known planned coming.part → IsFinePart program planned made.found.known (part_with planned.procs coming.part.summaries coming.part.notes)
        fine coming part = part-fine Anything program made.found.known planned coming.part formed goes.fits.known goes-ready part

        next : (coming : ComingPart) → IsFoundOver O kept program (take i plan ++ planned ∷ []) old new from to (with_coming made planned coming)
            → IsPartOf (IsGood Anything) program made.found.known planned coming.part → Goes (i + 1) new to (with_coming made planned coming)
        next coming over part =
            let own : Part = part_with planned.procs coming.part.summaries coming.part.notes in
            let own_fine = fine coming part in
            let few = goes.few in
            let one = made-few coming.taken in
            record {
              over = subst (λ done. IsFoundOver O kept program done old new from to (with_coming made planned coming)) (sym (take_more plan i planned lt ∙ ap (λ p. take i plan ++ p ∷ []) (sym is))) over;
              few = omega (arith, few, one);
              fits = found-fits program planned.procs made.found own goes.fits own_fine.fits;
              met = found-met program planned.procs made.found own goes.met (own_fine.met goes.met.summaries);
              left = left-next program made.found (with_kept made.found planned coming.part) planned (drop (i + 1) plan) left
                  (λ come has. found-has program planned.procs made.found own come goes.fits own_fine.fits goes-ready.there has);
            }

        pub goes-next : (made_next : FoundParts) → IsOneMore O kept program made planned now new mid to made_next → Goes (i + 1) new to made_next
        goes-next made_next one =
            let coming = one.coming in
            let known = made.found.known in
            let here = plans_are_planned program plan is_plan i planned (placed plan plan i planned refl lt is) in
            let come = come-weaker O.allows Anything (λ question answer allowed. tt) kept program known planned coming.part coming.taken one.comes.come in
            subst (Goes (i + 1) new to) (sym one.is)
            (next coming (more-over O kept program old from (take i plan) planned now new mid to made goes.over coming one.comes) (come-part Anything program known planned coming.part kept coming.taken are here come))

      pub goes-stuck : (new : S) (to : ℕ) (error : WorkError) (result : Result FoundParts WorkError) → Ends O (IsOneMore O kept program made planned now new mid to) (IsStuck O kept program made.found.known planned now new) now new (Err error)
          → IsErrAnd result (λ e. e ≡ error) → FindsOver O kept program plan old new from to result
      goes-stuck new to error result ends failed =
          let split : plan ≡ take i plan ++ planned ∷ drop (i + 1) plan = sym (take-append-drop i plan) ∙ ap (λ rest. take i plan ++ rest) rest-split in
          ends-came (error-ends goes.over.counted (stuck-over O kept program old from (take i plan) planned now new mid to made goes.over plan (drop (i + 1) plan) split) ends failed)

    pub goes-over : length plan ≤ i → FindsOver O kept program plan old now from mid (Ok made)
    goes-over end = record { came = subst (λ done. IsFoundOver O kept program done old now from mid made) (take_all i plan end) goes.over }

    pub goes-whole : length plan ≤ i → IsWhole program made.found
    goes-whole end = record { fits = goes.fits; all = left-all program made.found (subst (IsLeft program made.found) (drop_all i plan end) goes.left); met = goes.met }

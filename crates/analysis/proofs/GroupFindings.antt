-- What is found, group after group.
--     found-fits, found-has, found-met            with what is found of a group
--     nothing-fits, nothing-met                  where nothing is found yet
--     nothing-left, left-ready, left-next, left-all     what is left of a plan
use Rattle.std.proofs.Common.{◌≡◌, ℕ, zero, suc, ◌<◌, ◌⊎◌, inl, inr, List, [], ◌∷◌, ◌++◌, length, refl, sym, ap, subst, ◌∙◌, arith}
use Rattle.std.specs.Prelude.{All, Option, None, Some, replicate, slice_get}
use Rattle.std.specs.List.{Contains}
use Rattle.std.proofs.lemmas.List.{length-set}
use Rattle.std.proofs.lemmas.List.Elements.{All-contains, Contains-append_cases}
use Rattle.std.proofs.lemmas.Option.{slice_get-get_or}
use Rattle.syntax_tree.specs.declared.program.Program.{Program}
use Rattle.syntax_tree.specs.WellFormed.{IsWellFormed}
use Rattle.posing.specs.declared.note.Note.{Note}
use Rattle.flow_graph.specs.declared.grouping.Group.{Group}
use Rattle.flow_graph.specs.Groups.{AreGroupsAfter}
use Rattle.leaf_cases.specs.Summaries.{SummaryIsMet}
use Rattle.proc_summary.specs.Claims.{FlowHolds}
use Rattle.analysis.specs.declared.found.Found.{Found}
use Rattle.analysis.specs.declared.parts.Part.{Part}
use Rattle.analysis.specs.declared.planning.Planned.{Planned}
use Rattle.analysis.specs.Claims.{FitsAt, FitsFound, FitsGroup, FoundIsMet, GroupIsMet, HasAll, HasFound, IsFoundAt, IsKnownAt, IsLeft, IsReadyGroup}
use Rattle.analysis.specs.Found.{with_notes_at, nothing_found, with_part}
use Rattle.analysis.specs.Plan.{ArePlannedOf, IsPlan}
use Rattle.analysis.proofs.NextGroups.{group-ready}
use Rattle.analysis.proofs.Puts.{put-come, put-keeps, put-long, put-stays}

-- ---- with a group

noted-long : (procs : List ℕ) (notes : List Note) (all : List (List Note)) → length (with_notes_at procs notes all) ≡ length all
noted-long [] notes all = refl
noted-long (first ∷ procs) notes all = length-set all first notes

module _ (program : Program) (procs : List ℕ) (found : Found) (part : Part) where
  pub found-fits : FitsFound program found → FitsGroup program procs part.formulas part.flows → FitsFound program (with_part found procs part)
  found-fits fits own =
      record {
        known = record {
          each = put-long procs part.formulas found.known ∙ fits.known.each;
          fit = λ proc p f there is.
              put-keeps (IsKnownAt program) procs part.formulas found.known (λ place q g a b o at. own.known.fit place q o g a at b) (λ q g at o is_o. fits.known.fit q o g is_o at) proc f is p there;
        };
        flows = put-long procs part.flows found.flows ∙ fits.flows;
        notes = noted-long procs part.notes found.notes ∙ fits.notes;
        fit = put-keeps (FitsAt program) procs part.flows found.flows own.fit.fit fits.fit;
      }

  pub found-met : FoundIsMet program found → GroupIsMet program procs part.formulas part.flows → FoundIsMet program (with_part found procs part)
  found-met met own =
      record {
        summaries = put-keeps (SummaryIsMet program) procs part.formulas found.known own.summaries met.summaries;
        flows = put-keeps (FlowHolds program) procs part.flows found.flows own.hold met.flows;
      }

  pub found-has : (come : List ℕ) → FitsFound program found → FitsGroup program procs part.formulas part.flows → All (λ proc. proc < length program.procs) procs → HasFound come found → HasFound (come ++ procs) (with_part found procs part)
  found-has come fits own there has proc c = go (Contains-append_cases come procs proc c)
    where
      go : Contains come proc ⊎ Contains procs proc → IsFoundAt (with_part found procs part) proc
      go (inl came) =
          let at = has proc came in
          let f = put-stays procs part.formulas found.known proc at.formula at.known in
          let w = put-stays procs part.flows found.flows proc at.flow at.flow_is in
          record { formula = f.0; known = f.1; flow = w.0; flow_is = w.1 }
      go (inr new) =
          let is : slice_get procs new.0 ≡ Some proc = slice_get-get_or procs new.0 proc new.1 ∙ ap (λ n. Some n) new.2 in
          let within : proc < length program.procs = All-contains (λ p. p < length program.procs) procs proc there new in
          let lt : new.0 < length procs = new.1 in
          let formulas = own.known.each in
          let flows = own.fit.each in
          let long = fits.known.each in
          let other = fits.flows in
          let f = put-come procs part.formulas found.known new.0 proc is (omega (arith, lt, formulas)) (omega (arith, within, long)) in
          let w = put-come procs part.flows found.flows new.0 proc is (omega (arith, lt, flows)) (omega (arith, within, other)) in
          record { formula = f.0; known = f.1; flow = w.0; flow_is = w.1 }

-- ---- nothing

length-blank : {X : Type 0} (n : ℕ) (x : X) → length (replicate n x) ≡ n
length-blank zero x = refl
length-blank (suc n) x = ap suc (length-blank n x)

abbrev nothing : {X : Type 0} → Option X
nothing = None

blank-none : {X : Type 0} (n k : ℕ) (x : X) → slice_get (replicate n (nothing {X = X})) k ≡ Some (Some x) → ⊥
blank-none zero k x e = absurd (cc e)
blank-none (suc n) zero x e = absurd (cc e)
blank-none (suc n) (suc k) x e = blank-none n k x e

module _ (program : Program) where
  pub nothing-fits : FitsFound program (nothing_found (length program.procs))
  nothing-fits =
      let n = length program.procs in
      record {
        known = record { each = length-blank n None; fit = λ proc p f there is. absurd (blank-none n proc f is) };
        flows = length-blank n None;
        notes = length-blank n [];
        fit = λ proc flow is. absurd (blank-none n proc flow is);
      }

  pub nothing-met : FoundIsMet program (nothing_found (length program.procs))
  nothing-met =
      let n = length program.procs in
      record { summaries = λ proc f is. absurd (blank-none n proc f is); flows = λ proc flow is. absurd (blank-none n proc flow is) }

  pub nothing-left : (plan : List Planned) → IsPlan program plan → IsLeft program (nothing_found (length program.procs)) plan
  nothing-left plan is = record { come = []; groups = is.groups; after = is.are; planned = is.planned; has = λ proc c. let lt = c.1 in absurd (omega (arith, lt)) }

  -- ---- what is left of a plan

  pub left-ready : (found : Found) (planned : Planned) (rest : List Planned) → IsWellFormed program → IsLeft program found (planned ∷ rest) → IsReadyGroup program planned found.known
  left-ready found planned rest formed left = go left.groups left.after left.planned
    where
      go : (groups : List Group) → AreGroupsAfter program left.come groups → ArePlannedOf program groups (planned ∷ rest) → IsReadyGroup program planned found.known
      go [] after of = absurd of
      go (group ∷ groups) after of = group-ready program left.come group after.0 found left.has formed planned of.0

  pub left-next : (found next : Found) (planned : Planned) (rest : List Planned) → IsLeft program found (planned ∷ rest) → ((come : List ℕ) → HasFound come found → HasFound (come ++ planned.procs) next) → IsLeft program next rest
  left-next found next planned rest left has = go left.groups left.after left.planned
    where
      go : (groups : List Group) → AreGroupsAfter program left.come groups → ArePlannedOf program groups (planned ∷ rest) → IsLeft program next rest
      go [] after of = absurd of
      go (group ∷ groups) after of =
          record {
            come = left.come ++ planned.procs;
            groups = groups;
            after = subst (λ procs. AreGroupsAfter program (left.come ++ procs) groups) (sym of.0.procs) after.1;
            planned = of.1;
            has = has left.come left.has;
          }

  pub left-all : (found : Found) → IsLeft program found [] → HasAll program found
  left-all found left = go left.groups left.after left.planned
    where
      go : (groups : List Group) → AreGroupsAfter program left.come groups → ArePlannedOf program groups [] → HasAll program found
      go [] after of = λ proc lt. left.has proc (after proc lt)
      go (group ∷ groups) after of = absurd of

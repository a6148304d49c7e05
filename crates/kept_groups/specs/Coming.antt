-- How the parts of a plan come: each is taken over from an alike group that was kept, where there is
-- one, and else made under the answers of an oracle.
use Rattle.std.specs.Prelude.{◌≡◌, ℕ, suc, Bool, true, false, List, [], ◌∷◌, ◌++◌, Option, None, Some, slice_get}
use Rattle.farkas_check.specs.declared.answer.Answer.{Answer}
use Rattle.farkas_check.specs.declared.question.Question.{Question}
use Rattle.syntax_tree.specs.declared.program.Program.{Program}
use Rattle.transition_formula.specs.Transition.{Transition}
use Rattle.posing.specs.Follows.{IsGood}
use Rattle.newton_rounds.specs.Alike.{AreAlikeGroups}
use Rattle.analysis.specs.declared.found.Found.{Found}
use Rattle.analysis.specs.declared.planning.Planned.{Planned}
use Rattle.kept_groups.specs.declared.kept.KeptGroups.{KeptGroups}
use Rattle.kept_groups.specs.declared.kept.KeptPart.{KeptPart}
use Rattle.kept_groups.specs.Kept.{IsPartOf, kept_summaries, with_kept}

-- ---- one group

-- nothing tells the group apart from the one kept at this place
pub record IsAlikeAt (program : Program) (known : List (Option Transition)) (planned : Planned)
    (kept : KeptGroups) (place : ℕ) : Type 0 where
  pub other : Planned
  pub is : slice_get kept.plan place ≡ Some other
  pub alike : AreAlikeGroups program kept.program planned.procs other.procs known (kept_summaries kept)

-- this is kept of an alike group
pub record IsTakenOver (program : Program) (known : List (Option Transition)) (planned : Planned)
    (part : KeptPart) (kept : KeptGroups) : Type 0 where
  pub place : ℕ
  pub alike : IsAlikeAt program known planned kept place
  pub is : slice_get kept.parts place ≡ Some part

-- this is the part of an alike group that was kept; where nothing was kept, no part is
abbrev pub IsTakenFrom : Option KeptGroups → Program → List (Option Transition) → Planned → KeptPart
    → Type 0
IsTakenFrom None program known planned part = ⊥
IsTakenFrom (Some kept) program known planned part = IsTakenOver program known planned part kept

-- no group that was kept is alike
abbrev pub IsNew : Option KeptGroups → Program → List (Option Transition) → Planned → Type 0
IsNew None program known planned = Unit {0}
IsNew (Some kept) program known planned = (place : ℕ) → ¬ IsAlikeAt program known planned kept place

-- a part that is taken over, or else one of a new group, under answers that an oracle may give
abbrev pub IsCome : (Question → Answer → Type 0) → Option KeptGroups → Program
    → List (Option Transition) → Planned → KeptPart → (taken : Bool) → Type 0
IsCome allows kept program known planned part true = IsTakenFrom kept program known planned part
IsCome allows kept program known planned part false = IsNew kept program known planned
    × IsPartOf (IsGood allows) program known planned part

-- ---- several groups

-- the parts of groups, each by what is found before it; the marks tell which are taken over
abbrev pub AreCome : (Question → Answer → Type 0) → Option KeptGroups → Program → Found
    → List Planned → List KeptPart → List Bool → Type 0
AreCome allows kept program found [] [] [] = Unit {0}
AreCome allows kept program found (planned ∷ plan) (part ∷ parts) (taken ∷ marks) =
    IsCome allows kept program found.known planned part taken
    × AreCome allows kept program (with_kept found planned part) plan parts marks
AreCome allows kept program found _ _ _ = ⊥

-- the answers of those that are not taken over
abbrev pub answers_asked : List Bool → List KeptPart → List Answer
answers_asked (true ∷ marks) (part ∷ parts) = answers_asked marks parts
answers_asked (false ∷ marks) (part ∷ parts) = part.answers ++ answers_asked marks parts
answers_asked _ _ = []

-- how many are not taken over
abbrev pub count_made : List Bool → ℕ
count_made [] = 0
count_made (true ∷ marks) = count_made marks
count_made (false ∷ marks) = suc (count_made marks)

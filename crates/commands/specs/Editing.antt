-- Texts that go through a session one after the other, as far as they have gone.
use Rattle.std.specs.Prelude.{◌≡◌, ℕ, ◌≤◌, All, List, ◌++◌, drop, length, Option, None}
use Rattle.std.specs.List.{last_or}
use Rattle.finder.specs.Found.{IsFound}
use Rattle.summary_cache.specs.declared.last.Last.{Last}
use Rattle.summary_cache.specs.Kept.{AreAllowed, Kept}
use Rattle.summary_cache.specs.Limits.{most_bytes}
use Rattle.commands.specs.declared.editing.Submission.{Submission}
use Rattle.commands.specs.Edit.{AreSubmissions, version_lines}

-- each text is within the limit
pub record AreShort (texts : List (List ℕ)) : Type 0 where
  pub each : All (λ text. length text ≤ most_bytes) texts

-- a session of rule 2, and what it keeps was found under answers of the finder
pub record HoldsFound (session : Kept) : Type 0 where
  pub rule : session.rule ≡ 2
  pub allowed : AreAllowed IsFound session.last

-- this came of the texts, the last of them came to this, and their lines are these
pub record AreTold (texts : List (List ℕ)) (lines : List ℕ) (last : Option Submission)
    (after : Option Last) : Type 0 where
  pub made : List Submission
  pub are : AreSubmissions None texts made after
  pub lines_are : lines ≡ version_lines 0 texts made
  pub last_is : last ≡ last_or None made

-- Whatever comes of the texts from this place on, it is told behind what is told of those before.
pub record AreToldSoFar (texts : List (List ℕ)) (place : ℕ) (held : Option Last) (lines : List ℕ)
    (last : Option Submission) : Type 0 where
  pub all : (more : List Submission) (after : Option Last)
      → AreSubmissions held (drop place texts) more after
      → AreTold texts (lines ++ version_lines place (drop place texts) more) (last_or last more)
      after

-- What is left of a basis where several lines are made 0.
use Rattle.std.proofs.Common.{◌≡◌, List, [], ◌∷◌, ℤ, pos}
use Rattle.std.specs.List.{AllByRecursion}
use Rattle.whole_numbers.specs.Dot.{dot}
use Rattle.cones.specs.Cones.{Cleared, Kept, Given, clearing}
use Rattle.cones.specs.Spans.{Values, IsSpanned, IsIndependent}
use Rattle.cones.specs.Split.{remainder, clearing_by_all}
use Rattle.cones.proofs.Spanning.{each_spanned, lifted_spanned, vanishes_on}
use Rattle.cones.proofs.Clears.{IsClearing, clearing-is}

-- what of the span is 0 on each of the lines
pub record IsAllCleared (lines basis made : List (List ℤ)) : Type 0 where
  pub inside : AllByRecursion (λ v. IsSpanned basis (λ l. dot l v)) made
  pub zero_there : AllByRecursion (λ line. AllByRecursion (λ v. dot line v ≡ pos 0) made) lines
  pub all : (f : Values) → IsSpanned basis f → AllByRecursion (λ line. f line ≡ pos 0) lines → IsSpanned made f
  pub independent : IsIndependent made

-- one line made 0, as far as it isn't
record IsOneCleared (line : List ℤ) (basis made : List (List ℤ)) : Type 0 where
  inside : AllByRecursion (λ v. IsSpanned basis (λ l. dot l v)) made
  pub zero_there : AllByRecursion (λ v. dot line v ≡ pos 0) made
  pub all : (f : Values) → IsSpanned basis f → f line ≡ pos 0 → IsSpanned made f
  pub independent : IsIndependent made

one_cleared : (line : List ℤ) (basis : List (List ℤ)) → IsIndependent basis → (c : Cleared) → IsClearing line basis c → IsOneCleared line basis (remainder basis c)
one_cleared line basis i Kept h = record { inside = each_spanned basis; zero_there = h; all = λ f s e. s; independent = i }
one_cleared line basis i (Given pivot rest) g = record { inside = g.inside; zero_there = g.zero_there; all = g.all; independent = g.independent i }

each_lifts : (vs us made : List (List ℤ)) → AllByRecursion (λ v. IsSpanned us (λ l. dot l v)) vs → AllByRecursion (λ v. IsSpanned vs (λ l. dot l v)) made
    → AllByRecursion (λ v. IsSpanned us (λ l. dot l v)) made
each_lifts vs us [] e h = tt
each_lifts vs us (v ∷ made) e h = (lifted_spanned vs us (λ l. dot l v) e h.0, each_lifts vs us made e h.1)

each_vanishing : (line : List ℤ) (vs made : List (List ℤ)) → AllByRecursion (λ v. dot line v ≡ pos 0) vs → AllByRecursion (λ v. IsSpanned vs (λ l. dot l v)) made
    → AllByRecursion (λ v. dot line v ≡ pos 0) made
each_vanishing line vs [] e h = tt
each_vanishing line vs (v ∷ made) e h = (vanishes_on vs (λ l. dot l v) line e h.0, each_vanishing line vs made e h.1)

pub all_cleared : (lines basis : List (List ℤ)) → IsIndependent basis → IsAllCleared lines basis (clearing_by_all lines basis)
all_cleared [] basis i = record { inside = each_spanned basis; zero_there = tt; all = λ f s e. s; independent = i }
all_cleared (line ∷ lines) basis i =
    both (remainder basis (clearing line basis)) (one_cleared line basis i (clearing line basis) (clearing-is line basis)) (λ middle j. all_cleared lines middle j)
  where
    both : (middle : List (List ℤ)) → IsOneCleared line basis middle → ((middle : List (List ℤ)) → IsIndependent middle → IsAllCleared lines middle (clearing_by_all lines middle))
        → IsAllCleared (line ∷ lines) basis (clearing_by_all lines middle)
    both middle o again = record {
      inside = each_lifts middle basis (clearing_by_all lines middle) o.inside more.inside;
      zero_there = (each_vanishing line middle (clearing_by_all lines middle) o.zero_there more.inside, more.zero_there);
      all = λ f s e. more.all f (o.all f s e.0) e.1;
      independent = more.independent;
    }
      where
        more : IsAllCleared lines middle (clearing_by_all lines middle)
        more = again middle o.independent

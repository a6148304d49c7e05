-- A list of states that a body links one to the next goes first through turns of one half, and then
-- through turns of the other.
use Rattle.std.proofs.Common.{◌≡◌, ◌⊎◌, inl, inr, ℕ, ℤ, List, [], ◌∷◌, length, refl, sym, ap, subst, ◌∙◌}
use Rattle.std.specs.List.{list_all}
use Rattle.std.proofs.lemmas.List.{length-map}
use Rattle.linear_terms.specs.declared.row.Case.{Case}
use Rattle.linear_terms.specs.Polynomial.{Polynomial}
use Rattle.linear_terms.specs.Value.{value_of}
use Rattle.transition_formula.specs.Composition.{sequence_of}
use Rattle.transition_formula.specs.Meaning.{numbers, Holds, HoldsSome, HoldsOfChains, IsChain, last_of}
use Rattle.transition_formula.specs.Transition.{Transition, IsTransition, fits}
use Rattle.transition_formula.proofs.ColumnTests.{both}
use Rattle.transition_formula.proofs.Fitting.{fitting}
use Rattle.transition_formula.proofs.Meanings.{sequence-holds}
use Rattle.phases.proofs.BodiesWhere.{IsTrueAt, truth-decided}

-- the turns that begin where an inequality is false are some of the first's, the others some of the
-- second's, and no turn of the second ends where it is false
pub record AreHalves (body : Transition) (p : Polynomial) (first second : Transition) : Type 0 where
  pub begins : (before after : List ℤ) → Holds body before after → (IsTrueAt p before → ⊥) → Holds first before after
  pub goes_on : (before after : List ℤ) → Holds body before after → IsTrueAt p before → Holds second before after
  pub stays : (before after : List ℤ) → Holds second before after → IsTrueAt p after

-- a chain of the first, and one of the second from where it ends
record Parts (first second : Transition) (start end : List ℤ) : Type 0 where
  earlier : List (List ℤ)
  later : List (List ℤ)
  early : IsChain first start earlier
  late : IsChain second (last_of start earlier) later
  ends : last_of (last_of start earlier) later ≡ end

module _ (body : Transition) (p : Polynomial) (first second : Transition) (halves : AreHalves body p first second) where
  -- from where the inequality is true, all turns are the second's
  chain-late : (start : List ℤ) (more : List (List ℤ)) → IsTrueAt p start → IsChain body start more → IsChain second start more
  chain-late start [] h chain = tt
  chain-late start (next ∷ more) h chain =
      let turn = halves.goes_on start next chain.0 h in
      (turn, chain-late next more (halves.stays start next turn) chain.1)

  chain-parts : (start : List ℤ) (more : List (List ℤ)) → IsChain body start more → Parts first second start (last_of start more)
  chain-parts start [] chain = record { earlier = []; later = []; early = tt; late = tt; ends = refl }
  chain-parts start (next ∷ more) chain = go (truth-decided p start) (chain-parts next more chain.1)
    where
      go : IsTrueAt p start ⊎ (IsTrueAt p start → ⊥) → Parts first second next (last_of next more) → Parts first second start (last_of next more)
      go (inl there) rest = record { earlier = []; later = next ∷ more; early = tt; late = chain-late start (next ∷ more) there chain; ends = refl }
      go (inr absent) rest =
          record { earlier = next ∷ rest.earlier; later = rest.later; early = (halves.begins start next chain.0 absent, rest.early); late = rest.late; ends = rest.ends }

  -- ---- what holds of both holds of all

  some-length : (from to : ℕ) (cases : List Case) → IsTransition from to cases → (before after : List ℤ) → HoldsSome cases before after → length after ≡ to
  some-length from to [] e before after h = absurd h
  some-length from to (case ∷ cases) e before after (inl h) =
      let parts = both (fits from to case) (list_all (fits from to) cases) e in
      sym (ap length h.1.posts) ∙ length-map case.post (value_of (numbers before h.0)) ∙ (fitting from to case parts.0).length_is
  some-length from to (case ∷ cases) e before after (inr h) = some-length from to cases (both (fits from to case) (list_all (fits from to) cases) e).1 before after h

  pub halves-sequence : (a b : Transition) → first.from ≡ body.from → a.to ≡ second.from → a.to ≡ b.from → IsTransition a.from a.to a.cases → IsTransition b.from b.to b.cases
      → HoldsOfChains first a → HoldsOfChains second b → HoldsOfChains body (sequence_of a b)
  halves-sequence a b start meets meet a_fits b_fits of_first of_second state more long chain =
      let parts = chain-parts state more chain in
      let middle = last_of state parts.earlier in
      let one : Holds a state middle = of_first state parts.earlier (long ∙ sym start) parts.early in
      let other : Holds b middle (last_of middle parts.later) = of_second middle parts.later (some-length a.from a.to a.cases a_fits state middle one.some ∙ meets) parts.late in
      subst (Holds (sequence_of a b) state) parts.ends (sequence-holds a b meet a_fits b_fits state middle (last_of middle parts.later) one other)

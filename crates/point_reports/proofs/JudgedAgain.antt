-- What judgements once more are true of.
use Rattle.std.proofs.Common.{◌≡◌, ℕ, zero, suc, ◌+◌, ◌<◌, ◌≤◌, Bool, true, false, List, [], ◌∷◌, ◌++◌, length, map, drop, get_or, refl, sym, ap, subst, ◌∙◌, arith, append-nil, append_assoc}
use Rattle.std.specs.Prelude.{Some, slice_get}
use Rattle.std.proofs.lemmas.List.{drop_all, drop_more}
use Rattle.syntax_tree.specs.declared.program.Program.{Program}
use Rattle.execution.specs.Execution.{Fails}
use Rattle.posing.specs.declared.note.Note.{Note}
use Rattle.report.specs.declared.blocks.Judged.{Judged}
use Rattle.report.specs.declared.verdict.Verdict.{Verdict}
use Rattle.report.specs.declared.verdict.Verdict.TheVariants.{Proved}
use Rattle.report.specs.Claims.{IsRefuted}
use Rattle.context.specs.SecondQuestions.{proved_if}
use Rattle.point_rounds.specs.declared.round.PointRound.{PointRound}
use Rattle.analysis.specs.Claims.{AreJudged, AreRefuted, IsJudged}
use Rattle.point_reports.specs.Again.{judgement_after, judgements_from}
use Rattle.point_reports.specs.Parts.{AddsAgain, AreAgain, IsAgain, IsKnownAtPoints}

-- what is left at a place, with the judgement there first
rest-first : (xs : List Judged) (i : ℕ) (x : Judged) → i < length xs → x ≡ get_or xs i x → drop i xs ≡ x ∷ drop (i + 1) xs
rest-first xs i x lt is = drop_more xs i x lt ∙ ap (λ y. y ∷ drop (i + 1) xs) (sym is)

pub numbered-first : (number : ℕ) (xs : List Judged) (i : ℕ) (x : Judged) → i < length xs → x ≡ get_or xs i x
    → judgements_from number (drop i xs) ≡ (number, x) ∷ judgements_from (number + 1) (drop (i + 1) xs)
numbered-first number xs i x lt is = ap (judgements_from number) (rest-first xs i x lt is)

module _ (program : Program) (round : PointRound) where
  pub ats-same : (n : ℕ) (before after : List Judged) → AreAgain program round n before after → map (λ (j : Judged). j.at) after ≡ map (λ (j : Judged). j.at) before
  ats-same n [] [] h = refl
  ats-same n [] (after ∷ more) h = absurd h
  ats-same n (before ∷ rest) [] h = absurd h
  ats-same n (before ∷ rest) (after ∷ more) h = λ i. h.0.at i ∷ ats-same (n + 1) rest more h.1 i

  -- which judgement one is of
  record IsAgainOf (number k : ℕ) (all : List Judged) (after : Judged) : Type 0 where
    before : Judged
    is : slice_get all k ≡ Some before
    again : IsAgain program round number before after

  again-at : (n m k : ℕ) (before after : List Judged) (j : Judged) → AreAgain program round n before after → slice_get after k ≡ Some j → m ≡ n + k → IsAgainOf m k before j
  again-at n m k [] [] j h at e = absurd (cc at)
  again-at n m k [] (after ∷ more) j h at e = absurd h
  again-at n m k (before ∷ rest) [] j h at e = absurd h
  again-at n m zero (before ∷ rest) (after ∷ more) j h at e =
      let same : after ≡ j = cc in
      let number : n ≡ m = omega (arith, e) in
      record { before = before; is = refl; again = subst (λ i. IsAgain program round i before j) number (subst (IsAgain program round n before) same h.0) }
  again-at n m (suc k) (before ∷ rest) (after ∷ more) j h at e =
      let found = again-at (n + 1) m k rest more j h.1 at (omega (arith, e)) in
      record { before = found.before; is = found.is; again = found.again }

  pub again-judged : (before after : List Judged) → AreAgain program round 1 before after → IsKnownAtPoints program round → AreJudged program before → AreJudged program after
  again-judged before after h known judged n j at =
      let found = again-at 1 (n + 1) n before after j h at (omega arith) in
      found.again.sound known (judged n found.before found.is)

  pub again-refuted : (before after : List Judged) → AreAgain program round 1 before after → AreRefuted before → AreRefuted after
  again-refuted before after h refuted n j at =
      let found = again-at 1 (n + 1) n before after j h at (omega arith) in
      found.again.refuted (refuted n found.before found.is)

  -- ---- judgements that are made one by one

  -- what judgements made so far are once more, where those that are left get theirs
  pub record AreAgainSoFar (all : List Judged) (number i : ℕ) (made : List Judged) : Type 0 where
    pub more : (rest : List Judged) → AreAgain program round number (drop i all) rest → AreAgain program round 1 all (made ++ rest)

  pub again-none : (all made : List Judged) → made ≡ [] → AreAgainSoFar all 1 0 made
  again-none all made none = record { more = λ rest h. subst (λ (front : List Judged). AreAgain program round 1 all (front ++ rest)) (sym none) h }

  pub again-next : (all made next : List Judged) (number after i : ℕ) (one : Judged) → i < length all → one ≡ get_or all i one → AreAgainSoFar all number i made
      → AddsAgain program round number one made next → after ≡ number + 1 → AreAgainSoFar all after (i + 1) next
  again-next all made next number after i one lt is so_far adds e = record {
    more = λ rest h.
        subst (λ (front : List Judged). AreAgain program round 1 all (front ++ rest)) (sym adds.is)
        (subst (AreAgain program round 1 all) (sym (append_assoc made (adds.judged ∷ []) rest))
        (so_far.more (adds.judged ∷ rest)
        (subst (λ (left : List Judged). AreAgain program round number left (adds.judged ∷ rest)) (sym (rest-first all i one lt is))
        (adds.again, subst (λ n. AreAgain program round n (drop (i + 1) all) rest) e h))));
  }

  pub again-all : (all made : List Judged) (number i : ℕ) → length all ≤ i → AreAgainSoFar all number i made → AreAgain program round 1 all made
  again-all all made number i le so_far =
      subst (AreAgain program round 1 all) (append-nil made) (so_far.more [] (subst (λ (left : List Judged). AreAgain program round number left []) (sym (drop_all i all le)) tt))

  -- ---- one judgement

  pub again-same : (number : ℕ) (one same : Judged) → same ≡ one → IsAgain program round number one same
  again-same number one same e = record {
    at = ap (λ (j : Judged). j.at) e;
    refuted = λ h. subst (λ (j : Judged). IsRefuted j.verdict) (sym e) h;
    sound = λ known h. subst (IsJudged program number) (sym e) h;
  }

  after-refuted : (b : Bool) (v : Verdict) → IsRefuted v → IsRefuted (proved_if b v)
  after-refuted true v h = tt
  after-refuted false v h = h

  after-sound : (number : ℕ) (b : Bool) (v : Verdict) → (b ≡ true → ¬ Fails program number) → (v ≡ Proved → ¬ Fails program number) → proved_if b v ≡ Proved → ¬ Fails program number
  after-sound number true v sound own proved = sound refl
  after-sound number false v sound own proved = own proved

  pub again-after : (number : ℕ) (one after : Judged) (b : Bool) (notes : List Note) → after ≡ judgement_after one (b, notes)
      → (IsKnownAtPoints program round → b ≡ true → ¬ Fails program number) → IsAgain program round number one after
  again-after number one after b notes e sound = record {
    at = ap (λ (j : Judged). j.at) e;
    refuted = λ h. subst (λ (j : Judged). IsRefuted j.verdict) (sym e) (after-refuted b one.verdict h);
    sound = λ known own. subst (IsJudged program number) (sym e) (after-sound number b one.verdict (sound known) own);
  }

-- The frame of a case with its objective as one line more.
use Rattle.std.proofs.Common.{◌≡◌, ℕ, zero, suc, ◌+◌, ◌≤◌, List, [], ◌∷◌, length, Result, Ok, Err, refl, sym, ap, subst, ◌∙◌, arith}
use Rattle.std.specs.Prelude.{IfOk, IfErr}
use Rattle.linear_terms.specs.declared.col.Col.{Col}
use Rattle.linear_terms.specs.declared.row.Kind.{Kind}
use Rattle.linear_terms.specs.declared.row.Kind.TheVariants.{AtMost}
use Rattle.linear_terms.specs.declared.row.Row.{Row}
use Rattle.linear_terms.specs.Polynomial.{Polynomial}
use Rattle.simplex.specs.Exchange.{numbers_of}
use Rattle.simplex.specs.Refusal.{IsRefusalIn}
use Rattle.simplex.specs.Rows.{kinds_of, kind_at, framed_tableau}
use Rattle.simplex.specs.Search.{IsSolving}
use Rattle.simplex.specs.Suprema.{with_goal, frame_over, SupremumAt, IsSupremumOver}
use Rattle.simplex.specs.declared.stop.SearchStop.{SearchStop}
use Rattle.simplex.specs.declared.supremum.Supremum.{Supremum}
use Rattle.simplex.specs.declared.tableau.Tableau.{Tableau}
use Rattle.simplex.proofs.RowTableaux.{solving, kinds-length, lines_from-length, long}

pub more_rows : (rows : List Row) (p : Polynomial) → length (with_goal rows p) ≡ length rows + 1
more_rows rows p = long rows (record { poly = p; kind = AtMost } ∷ [])

goal_kind : (rows : List Row) (p : Polynomial) (l : ℕ) → length rows ≤ l → kind_at (kinds_of (with_goal rows p)) l ≡ AtMost
goal_kind [] p zero h = refl
goal_kind [] p (suc l) h = refl
goal_kind (row ∷ rows) p zero h = absurd (omega (arith, h))
goal_kind (row ∷ rows) p (suc l) h = goal_kind rows p l (omega (arith, h))

pub solving_goal : (cs : List (List Col)) (rows : List Row) (p : Polynomial) → IsSolving (frame_over cs rows p) (length cs) (kinds_of (with_goal rows p)) 0 (framed_tableau cs (with_goal rows p))
solving_goal cs rows p = with_all (solving cs (with_goal rows p))
  where
    with_all : IsSolving (record { units = length cs + 1; rows = length (with_goal rows p); frame = numbers_of (framed_tableau cs (with_goal rows p)) }) (length cs) (kinds_of (with_goal rows p)) 0 (framed_tableau cs (with_goal rows p)) → IsSolving (frame_over cs rows p) (length cs) (kinds_of (with_goal rows p)) 0 (framed_tableau cs (with_goal rows p))
    with_all s = record {
      sized = record {
        tableau = s.sized.tableau;
        units = refl;
        many = s.sized.many;
        apart = s.sized.apart;
        primitive = s.sized.primitive;
        inside = subst (λ (n : ℕ). length rows ≤ n) (sym (lines_from-length cs (length (with_goal rows p)) 0 (with_goal rows p) ∙ more_rows rows p)) (omega arith);
        goals = λ l h k. goal_kind rows p l h;
      };
      own = s.own;
      done = λ l h. absurd (omega (arith, h));
    }

pub solving_goal_at : (cs : List (List Col)) (rows all : List Row) (p : Polynomial) (constants count : ℕ) (kinds : List Kind) (t : Tableau) → all ≡ with_goal rows p → constants ≡ length cs → count ≡ length rows → t ≡ framed_tableau cs all → kinds ≡ kinds_of all → IsSolving (record { units = constants + 1; rows = count; frame = numbers_of t }) constants kinds 0 t
solving_goal_at cs rows all p constants count kinds t a e d f g =
    subst (λ (n : ℕ). IsSolving (record { units = n + 1; rows = count; frame = numbers_of t }) n kinds 0 t) (sym e)
    (subst (λ (n : ℕ). IsSolving (record { units = length cs + 1; rows = n; frame = numbers_of t }) (length cs) kinds 0 t) (sym d)
    (subst (λ (u : Tableau). IsSolving (record { units = length cs + 1; rows = length rows; frame = numbers_of u }) (length cs) kinds 0 u) (sym (f ∙ ap (framed_tableau cs) a))
    (subst (λ (ks : List Kind). IsSolving (frame_over cs rows p) (length cs) ks 0 (framed_tableau cs (with_goal rows p))) (sym (g ∙ ap kinds_of a)) (solving_goal cs rows p))))

-- what a search says of its frame, said of the columns, the rows and the objective
pub case_at : (rows : List Row) (p : Polynomial) (cs : List (List Col)) (all : List Row) (budget constants count : ℕ) (kinds : List Kind) (t : Tableau) (r : Result Supremum SearchStop) → all ≡ with_goal rows p → constants ≡ length cs → count ≡ length rows → t ≡ framed_tableau cs all → kinds ≡ kinds_of all
    → IfOk r (λ c. SupremumAt (record { units = constants + 1; rows = count; frame = numbers_of t }) constants kinds budget c) → IfOk r (λ c. IsSupremumOver cs rows p budget c)
case_at rows p cs all budget constants count kinds t (Err s) a e d f g h = tt
case_at rows p cs all budget constants count kinds t (Ok c) a e d f g h =
    subst (λ (ks : List Kind). SupremumAt (frame_over cs rows p) (length cs) ks budget c) (g ∙ ap kinds_of a)
    (subst (λ (u : Tableau). SupremumAt (record { units = length cs + 1; rows = length rows; frame = numbers_of u }) (length cs) kinds budget c) (f ∙ ap (framed_tableau cs) a)
    (subst (λ (n : ℕ). SupremumAt (record { units = length cs + 1; rows = n; frame = numbers_of t }) (length cs) kinds budget c) d
    (subst (λ (n : ℕ). SupremumAt (record { units = n + 1; rows = count; frame = numbers_of t }) n kinds budget c) e h)))

pub refusal_case : (rows : List Row) (p : Polynomial) (cs : List (List Col)) (all : List Row) (constants count : ℕ) (kinds : List Kind) (t : Tableau) (r : Result Supremum SearchStop) → all ≡ with_goal rows p → constants ≡ length cs → count ≡ length rows → t ≡ framed_tableau cs all → kinds ≡ kinds_of all
    → IfErr r (IsRefusalIn (record { units = constants + 1; rows = count; frame = numbers_of t }) (length kinds)) → IfErr r (IsRefusalIn (frame_over cs rows p) (length rows + 1))
refusal_case rows p cs all constants count kinds t (Ok c) a e d f g h = tt
refusal_case rows p cs all constants count kinds t (Err s) a e d f g h =
    subst (λ (n : ℕ). IsRefusalIn (frame_over cs rows p) n s) (kinds-length (with_goal rows p) ∙ more_rows rows p)
    (subst (λ (ks : List Kind). IsRefusalIn (frame_over cs rows p) (length ks) s) (g ∙ ap kinds_of a)
    (subst (λ (u : Tableau). IsRefusalIn (record { units = length cs + 1; rows = length rows; frame = numbers_of u }) (length kinds) s) (f ∙ ap (framed_tableau cs) a)
    (subst (λ (n : ℕ). IsRefusalIn (record { units = length cs + 1; rows = n; frame = numbers_of t }) (length kinds) s) d
    (subst (λ (n : ℕ). IsRefusalIn (record { units = n + 1; rows = count; frame = numbers_of t }) (length kinds) s) e h))))

-- A round, and rounds until one drops no row.
use Rattle.std.proofs.Common.{◌≡◌, ℕ, zero, suc, ◌+◌, ◌≤◌, Bool, true, false, List, [], ◌∷◌, Result, Ok, Err, IsErrAnd, refl, sym, subst, ◌∙◌, arith}
use Rattle.std.specs.Prelude.{IsTrue, ◌↔◌, not, if◌then◌else◌}
use Rattle.std.specs.List.{AllByRecursion}
use Rattle.std.proofs.lemmas.Bool.{false≢true}
use Rattle.farkas_check.specs.Asking.{Asking}
use Rattle.posing.specs.declared.error.WorkError.{WorkError}
use Rattle.posing.specs.declared.log.Log.{Log}
use Rattle.posing.specs.Follows.{Follows, Leads}
use Rattle.posing.specs.Posing.{Posing, Done, until}
use Rattle.posing.proofs.Following.{leads_none}
use Rattle.posing.proofs.Steps.{all_left, at_end, error_first, first_left}
use Rattle.posing.proofs.UnderAnswers.{passing-has}
use Rattle.syntax_tree.specs.declared.program.Program.{Program}
use Rattle.point_rows.proofs.RowMeanings.{contraries_decide}
use Rattle.point_rounds.specs.declared.round.FallenRow.{FallenRow}
use Rattle.point_rounds.specs.declared.round.PointRound.{PointRound}
use Rattle.point_rounds.specs.declared.round.StepFrom.{StepFrom}
use Rattle.point_rounds.specs.declared.source.RoundSource.{RoundSource}
use Rattle.point_rounds.specs.declared.table.PointTable.{PointTable}
use Rattle.point_rounds.specs.Closed.{AreStepsFrom, CoverTable}
use Rattle.point_rounds.specs.Parts.{IsRoundOf}
use Rattle.point_rounds.specs.Rounds.{before_rounds, fallen_rows, most_rounds, row_count, some_fell, table_left}
use Rattle.point_rounds.specs.Table.{IsTable}
use Rattle.point_rounds.proofs.FallenRows.{IsThere, StepTold, fallen-first, fallen-told}
use Rattle.point_rounds.proofs.TablesLeft.{table-falls, table-left, table-same}

-- ---- one round

-- each row that fell is one of the table
pub fallen-there : {S : Type 0} {O : Asking S} {old new : S} {before after : Log} {fell : List FallenRow} (program : Program) (table : PointTable) (steps : List StepFrom)
    → Follows O old new before after (Ok fell) (fallen_rows program table steps) → AllByRecursion (IsThere program table) fell
fallen-there {fell = fell} program table steps follows =
    (passing-has (λ (rows : List FallenRow). AllByRecursion (IsThere program table) rows × AllByRecursion (λ from. StepTold program table contraries_decide from rows) steps) follows
    (fallen-told program table contraries_decide steps)).0

-- whether there is none
pub some-tell : (fell : List FallenRow) (none : Bool) → (IsTrue none ↔ (fell ≡ [])) → not none ≡ some_fell fell
some-tell [] true tells = refl
some-tell [] false tells = absurd (false≢true (tells.1 refl))
some-tell (row ∷ fell) true tells = let none = tells.0 refl in absurd (cc)
some-tell (row ∷ fell) false tells = refl

pub round-is : (source : RoundSource) (table : PointTable) → IsTable source.program.now table → (fell : List FallenRow) → AllByRecursion (IsThere source.program.now table) fell
    → (steps : List StepFrom) → AreStepsFrom source.program.now steps → CoverTable source.program.now source.known.now source.states.now steps table
    → (left : PointTable) (some : Bool) → left ≡ table_left source.program.now fell table → some ≡ some_fell fell → IsRoundOf source table (record { table = left; steps = steps }, some)
round-is source table shape [] there steps are cover left some is tells =
    let program = source.program.now in
    let same : left ≡ table = is ∙ table-same program table shape in
    record {
      shape = subst (IsTable program) (sym same) shape;
      steps = are;
      fewer = subst (λ b. row_count left + (if b then 1 else 0) ≤ row_count table) (sym tells) (subst (λ t. row_count t + 0 ≤ row_count table) (sym same) (omega arith));
      covers = λ e. subst (λ t. CoverTable program source.known.now source.states.now steps t) (sym same) cover;
    }
round-is source table shape (row ∷ fell) there steps are cover left some is tells =
    let program = source.program.now in
    let falls = table-falls (row ∷ fell) program table row.place row.number there.0 (fallen-first row fell) in
    record {
      shape = subst (IsTable program) (sym is) (table-left (row ∷ fell) program table shape);
      steps = are;
      fewer = subst (λ b. row_count left + (if b then 1 else 0) ≤ row_count table) (sym tells) (subst (λ t. row_count t + 1 ≤ row_count table) (sym is) (omega (arith, falls)));
      covers = λ e. absurd (false≢true (sym e ∙ tells));
    }

-- ---- rounds

-- what the rounds so far led to: enough are left for the rows that are
pub record AreRounds {S : Type 0} (O : Asking S) (old now : S) (before between : Log) (whole : Posing PointRound) (step : PointRound → Posing (PointRound × Bool)) (left : PointRound) (fell : Bool) : Type 0 where
  pub rounds : ℕ
  pub enough : row_count left.table + (if fell then 1 else 0) ≤ rounds
  pub leads : Leads O old now before between whole (if fell then until step rounds left else Done left)

pub rounds-begin : {S : Type 0} (O : Asking S) (state : S) (log : Log) (step : PointRound → Posing (PointRound × Bool)) (table : PointTable)
    → AreRounds O state state log log (until step (most_rounds table) (before_rounds table)) step (before_rounds table) true
rounds-begin O state log step table = record { rounds = most_rounds table; enough = omega arith; leads = leads_none _ _ _ _ }

pub rounds-next : {S : Type 0} {O : Asking S} {old now new : S} {before between after : Log} {whole : Posing PointRound} {step : PointRound → Posing (PointRound × Bool)} {left : PointRound} {fell : Bool}
    (next : PointRound × Bool) → fell ≡ true → AreRounds O old now before between whole step left fell → Follows O now new between after (Ok next) (step left)
    → row_count next.0.table + (if next.1 then 1 else 0) ≤ row_count left.table → AreRounds O old new before after whole step next.0 next.1
rounds-next {O = O} {old = old} {now = now} {new = new} {before = before} {between = between} {after = after} {whole = whole} {step = step} {left = left} next true_is are one fewer =
    go are.rounds (subst (λ d. row_count left.table + (if d then 1 else 0) ≤ are.rounds) true_is are.enough)
    (subst (λ d. Leads O old now before between whole (if d then until step are.rounds left else Done left)) true_is are.leads)
  where
    go : (n : ℕ) → row_count left.table + 1 ≤ n → Leads O old now before between whole (until step n left) → AreRounds O old new before after whole step next.0 next.1
    go zero enough leads = absurd (omega (arith, enough))
    go (suc n) enough leads = record {
      rounds = n;
      enough = omega (arith, enough, fewer);
      leads = first_left (λ (r : PointRound × Bool). if r.1 then until step n r.0 else Done r.0) leads refl one refl;
    }

pub rounds-fail : {S : Type 0} {O : Asking S} {old now new : S} {before between after : Log} {whole : Posing PointRound} {step : PointRound → Posing (PointRound × Bool)} {left : PointRound} {fell : Bool}
    {result : Result PointRound WorkError} {error : WorkError} → fell ≡ true → AreRounds O old now before between whole step left fell → Follows O now new between after (Err error) (step left) → IsErrAnd result (λ e. e ≡ error)
    → Follows O old new before after result whole
rounds-fail {O = O} {old = old} {now = now} {new = new} {before = before} {between = between} {after = after} {whole = whole} {step = step} {left = left} {result = result} true_is are one failed =
    go are.rounds (subst (λ d. row_count left.table + (if d then 1 else 0) ≤ are.rounds) true_is are.enough)
    (subst (λ d. Leads O old now before between whole (if d then until step are.rounds left else Done left)) true_is are.leads)
  where
    go : (n : ℕ) → row_count left.table + 1 ≤ n → Leads O old now before between whole (until step n left) → Follows O old new before after result whole
    go zero enough leads = absurd (omega (arith, enough))
    go (suc n) enough leads = all_left leads (error_first (λ (r : PointRound × Bool). if r.1 then until step n r.0 else Done r.0) one refl failed)

pub rounds-end : {S : Type 0} {O : Asking S} {old now : S} {before between : Log} {whole : Posing PointRound} {step : PointRound → Posing (PointRound × Bool)} {left : PointRound} {fell : Bool}
    → fell ≡ false → AreRounds O old now before between whole step left fell → Follows O old now before between (Ok left) whole
rounds-end {O = O} {old = old} {now = now} {before = before} {between = between} {whole = whole} {step = step} {left = left} false_is are =
    all_left (subst (λ d. Leads O old now before between whole (if d then until step are.rounds left else Done left)) false_is are.leads) (at_end refl)

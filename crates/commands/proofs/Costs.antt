-- What costs say of executions.
--     have-posts       a report's cases have a post for each global
--     told             what is told of a report is told of its text
--     true-bounds      what is told says of executions
--     sound-cost, complete-cost      the same, and that it is told, of a run
use Rattle.std.proofs.Common.{◌≡◌, ℕ, ℤ, zero, suc, ◌+◌, ◌<◌, ◌≤◌, ◌⊎◌, inl, inr, Bool, true, false, List, [], ◌∷◌, ◌++◌, length, refl, sym, ap, subst, ◌∙◌, arith, append-nil}
use Rattle.std.specs.Prelude.{◌&&◌, ◌==◌, Option, Some, Result, Ok, Err, IfOk, slice_get, if◌then◌else◌}
use Rattle.std.specs.List.{list_all}
use Rattle.std.proofs.lemmas.Bool.{eqb-true}
use Rattle.std.proofs.lemmas.List.{length-map}
use Rattle.std.proofs.lemmas.Option.{slice_get_within}
use Rattle.linear_terms.specs.declared.row.Case.{Case}
use Rattle.transition_formula.specs.Meaning.{HoldsCase, HoldsSome}
use Rattle.transition_formula.specs.Transition.{every_column_of, fits, is_below}
use Rattle.farkas_check.specs.declared.answer.Answer.{Answer}
use Rattle.syntax_tree.specs.declared.program.Proc.{Proc}
use Rattle.syntax_tree.specs.declared.program.Program.{Program}
use Rattle.execution.specs.Execution.{Returns}
use Rattle.leaf_cases.specs.Conditions.{exits_of}
use Rattle.leaf_cases.specs.Summaries.{exit_values}
use Rattle.proc_summary.proofs.CratesBelow.{some_at}
use Rattle.cost_bounds.specs.declared.cost.Cost.{Cost}
use Rattle.cost_bounds.specs.declared.cost.Cost.TheVariants as cost
use Rattle.cost_bounds.specs.Says.{Says}
use Rattle.report.specs.declared.blocks.ProcBlock.{ProcBlock}
use Rattle.report.specs.declared.blocks.Report.{Report}
use Rattle.report.specs.Claims.{ClaimsAreMet, ReportCovers}
use Rattle.finder.specs.Found.{IsFound}
use Rattle.summary_cache.specs.Accepted.{Accepts}
use Rattle.summary_cache.specs.Limits.{most_bytes}
use Rattle.summary_cache.proofs.Complete.{accepted-once, not-refused}
use Rattle.commands.specs.declared.reply.Reply.{Reply}
use Rattle.commands.specs.declared.status.Status.TheVariants.{CostsTold, NoGlobal}
use Rattle.commands.specs.Bounded.{AreTrueBounds, IsBounded, IsShown}
use Rattle.commands.specs.Cost.{AreCosts, HasGlobal, HasNoGlobal, IsCosted, IsGlobal, IsReplyToCost, IsToCost, IsUnknown, TellsCosts, costs_reply, costs_text, no_global_reply}
use Rattle.commands.specs.Input.{IsInput}
use Rattle.commands.specs.Posts.{HavePosts, IsNumberIn, TellsCostsOf}
use Rattle.commands.specs.Replies.{IsReply, IsReplyToRead, IsReplyToWork}
use Rattle.commands.specs.Within.{OrRefused}
use Rattle.commands.specs.Stated.{IsAnalysed}
use Rattle.commands.proofs.Complete.{whole-input}

-- ---- posts

both : (a b : Bool) → (a && b) ≡ true → (a ≡ true) × (b ≡ true)
both true b e = (refl, e)
both false b e = cc

test-there : {X : Type 0} (test : X → Bool) (xs : List X) (n : ℕ) (x : X) → list_all test xs ≡ true → slice_get xs n ≡ Some x → test x ≡ true
test-there test [] n x all at = absurd (cc at)
test-there test (y ∷ xs) zero x all at =
    let same : y ≡ x = cc at in ap test (sym same) ∙ (both (test y) (list_all test xs) all).0
test-there test (y ∷ xs) (suc n) x all at = test-there test xs n x (both (test y) (list_all test xs) all).1 at

globals-left : (program : Program) (p : Proc) → length program.globals ≤ exits_of program p
globals-left program p = by p.returns
  where
    by : (b : Bool) → length program.globals ≤ (if b then length program.globals + 1 else length program.globals)
    by true = omega arith
    by false = omega arith

blocks-long : (program : Program) (report : Report) → ReportCovers program report → length report.procs ≡ length program.procs
blocks-long program report covers =
    sym (length-map report.procs (λ (b : ProcBlock). b.name)) ∙ ap length covers.blocks ∙ length-map program.procs (λ (p : Proc). p.name)

pub have-posts : (program : Program) (report : Report) (name : List ℕ) (number : ℕ) → ReportCovers program report → IsGlobal program name number → HavePosts number report.procs
have-posts program report name number covers global = record { each = λ proc block at. record { each = λ place case there. posts proc block at place case there } }
  where
    posts : (proc : ℕ) (block : ProcBlock) → slice_get report.procs proc ≡ Some block → (place : ℕ) (case : Case) → slice_get block.formula.cases place ≡ Some case → number < length case.post
    posts proc block at place case there =
        let long = blocks-long program report covers in
        let within = slice_get_within report.procs proc block at in
        let p = some_at program.procs proc (omega (arith, long, within)) in
        let known = covers.fit proc p.0 block p.1 at in
        let fit = test-there (fits block.formula.from block.formula.to) block.formula.cases place case known.fits there in
        let to = eqb-true (length case.post) block.formula.to (both (length case.post == block.formula.to) (every_column_of (is_below block.formula.from case.aux) case) fit).0 in
        let leaves = known.leaves in
        let few = globals-left program p.0 in
        let counts = slice_get_within program.globals number global.0 global.1 in
        omega (arith, to, leaves, few, counts)

-- what is told of the report of a text is told of the text
pub told : (text name : List ℕ) (number : ℕ) (report : Report) (answers : List Answer) (reply : Reply) → IsAnalysed text answers report → IsNumberIn text name number → TellsCostsOf number report.procs reply
    → TellsCosts name text reply
told text name number report answers reply analysed global tells =
    let same : global.program ≡ analysed.program = accepted-once text global.program analysed.program global.accepted analysed.planned.accepted in
    inl (number, report, tells.costs, record { answers = answers; analysed = analysed; global = subst (λ program. IsGlobal program name number) same global.global; are = tells.are }, tells.is)

pub posts-of : (text name : List ℕ) (number : ℕ) (report : Report) (answers : List Answer) → IsAnalysed text answers report → IsNumberIn text name number → HavePosts number report.procs
posts-of text name number report answers analysed global =
    let same : global.program ≡ analysed.program = accepted-once text global.program analysed.program global.accepted analysed.planned.accepted in
    have-posts analysed.program report name number analysed.covers (subst (λ program. IsGlobal program name number) same global.global)

-- ---- the text, as far as both lists go

none_of : (blocks : List ProcBlock) (costs : List (List Cost)) → length blocks ≡ 0 → costs_text blocks costs ≡ []
none_of [] costs h = refl
none_of (b ∷ blocks) costs h = absurd (omega (arith, h))

none_at : (blocks : List ProcBlock) (costs : List (List Cost)) → length costs ≡ 0 → costs_text blocks costs ≡ []
none_at [] costs h = refl
none_at (b ∷ blocks) [] h = refl
none_at (b ∷ blocks) (made ∷ costs) h = absurd (omega (arith, h))

pub blocks-end : {text all : List ℕ} (blocks : List ProcBlock) (costs : List (List Cost)) → text ++ costs_text blocks costs ≡ all → length blocks ≡ 0 → text ≡ all
blocks-end {text} blocks costs h end = sym (ap (λ more. text ++ more) (none_of blocks costs end) ∙ append-nil text) ∙ h

pub costs-end : {text all : List ℕ} (blocks : List ProcBlock) (costs : List (List Cost)) → text ++ costs_text blocks costs ≡ all → length costs ≡ 0 → text ≡ all
costs-end {text} blocks costs h end = sym (ap (λ more. text ++ more) (none_at blocks costs end) ∙ append-nil text) ∙ h

-- ---- replies

pub costs-told : {E : Type 0} (result : Result Reply E) (number : ℕ) (blocks : List ProcBlock) (costs slice : List (List Cost)) → AreCosts number blocks costs → slice ≡ costs
    → IfOk result (λ reply. reply ≡ costs_reply blocks slice) → IfOk result (TellsCostsOf number blocks)
costs-told (Ok reply) number blocks costs slice are same e = record { costs = costs; are = are; is = e ∙ ap (costs_reply blocks) same }
costs-told (Err error) number blocks costs slice are same e = e

pub text-told : {E : Type 0} (result : Result Reply E) (text name : List ℕ) (number : ℕ) (report : Report) (answers : List Answer) → IsAnalysed text answers report → IsNumberIn text name number
    → IfOk result (TellsCostsOf number report.procs) → IfOk result (OrRefused text (TellsCosts name text))
text-told (Ok reply) text name number report answers analysed global tells = inl (told text name number report answers reply analysed global tells)
text-told (Err error) text name number report answers analysed global tells = tells

pub none-told : {E : Type 0} (result : Result Reply E) (text name : List ℕ) → IsUnknown text name → IfOk result (λ reply. reply ≡ no_global_reply name) → IfOk result (OrRefused text (TellsCosts name text))
none-told (Ok reply) text name unknown e = inl (inr (unknown, e))
none-told (Err error) text name unknown e = e

-- ---- executions

record HasCase (cases : List Case) (before after : List ℤ) : Type 0 where
  place : ℕ
  case : Case
  is : slice_get cases place ≡ Some case
  holds : HoldsCase case before after

some-case : (cases : List Case) (before after : List ℤ) → HoldsSome cases before after → HasCase cases before after
some-case [] before after h = absurd h
some-case (case ∷ cases) before after (inl h) = record { place = zero; case = case; is = refl; holds = h }
some-case (case ∷ cases) before after (inr h) =
    let more = some-case cases before after h in record { place = suc more.place; case = more.case; is = more.is; holds = more.holds }

bounded : (program : Program) (report : Report) (number : ℕ) (costs : List (List Cost)) → ClaimsAreMet program report → ReportCovers program report → AreCosts number report.procs costs
    → (proc : ℕ) (p : Proc) → slice_get program.procs proc ≡ Some p → (globals args after : List ℤ) (value : ℤ) → Returns program proc globals args after value
    → IsBounded number report.procs costs proc (globals ++ args) (exit_values p after value)
bounded program report number costs met covers are proc p is globals args after value returns =
    let long = blocks-long program report covers in
    let within = slice_get_within program.procs proc p is in
    let block = some_at report.procs proc (omega (arith, long, within)) in
    let costs_long = are.long in
    let told = some_at costs proc (omega (arith, long, within, costs_long)) in
    let of_block = are.each proc block.0 told.0 block.1 told.1 in
    let holds = met.summaries proc block.0 block.1 p is globals args after value returns in
    let case = some-case block.0.formula.cases (globals ++ args) (exit_values p after value) holds.some in
    let inside = slice_get_within block.0.formula.cases case.place case.case case.is in
    let told_long = of_block.long in
    let made = some_at told.0 case.place (omega (arith, inside, told_long)) in
    let cost_of = of_block.each case.place case.case made.0 case.is made.1 in
    record {
      block = block.0;
      told = told.0;
      place = case.place;
      case = case.case;
      made = made.0;
      is_block = block.1;
      is_told = told.1;
      is_case = case.is;
      is_made = made.1;
      holds = case.holds;
      met = cost_of.met (globals ++ args) (exit_values p after value) case.holds;
    }

shown-by : (case : Case) (number : ℕ) (made : Cost) → Says IsFound case number made → IsShown made
shown-by case number (cost.Exact p) says = tt
shown-by case number (cost.Bound scale p kept by) says = says.passes
shown-by case number (cost.Unbounded point) says = tt
shown-by case number (cost.Limit l) says = tt

shown : (number : ℕ) (blocks : List ProcBlock) (costs : List (List Cost)) → AreCosts number blocks costs → (proc place : ℕ) (of_block : List Cost) (made : Cost) → slice_get costs proc ≡ Some of_block
    → slice_get of_block place ≡ Some made → IsShown made
shown number blocks costs are proc place of_block made at there =
    let within = slice_get_within costs proc of_block at in
    let long = are.long in
    let block = some_at blocks proc (omega (arith, within, long)) in
    let each = are.each proc block.0 of_block block.1 at in
    let inside = slice_get_within of_block place made there in
    let told_long = each.long in
    let case = some_at block.0.formula.cases place (omega (arith, inside, told_long)) in
    shown-by case.0 number made (each.each place case.0 made case.1 there).says

true-bounds : (program : Program) (text name : List ℕ) (number : ℕ) (report : Report) (costs : List (List Cost)) → Accepts text program → IsCosted text name number report costs
    → AreTrueBounds program name (costs_text report.procs costs)
true-bounds program text name number report costs a is =
    let same : is.analysed.program ≡ program = accepted-once text is.analysed.program program is.analysed.planned.accepted a in
    subst (λ program. AreTrueBounds program name (costs_text report.procs costs)) same (record {
      number = number;
      global = is.global;
      blocks = report.procs;
      costs = costs;
      printed = refl;
      names = is.analysed.covers.blocks;
      bounded = bounded is.analysed.program report number costs is.analysed.met is.analysed.covers is.are;
      shown = shown number report.procs costs is.are;
    })

-- ---- a run

sound-told : (all name : List ℕ) (program : Program) (reply : Reply) → Accepts all program → IsReplyToCost name all reply → reply.status ≡ CostsTold → AreTrueBounds program name reply.text
sound-told all name program reply a (inl (long, is)) e = absurd (cc (sym (ap (λ (r : Reply). r.status) is) ∙ e))
sound-told all name program reply a (inr (fits, inl (inl (number, report, costs, is, told)))) e =
    subst (AreTrueBounds program name) (sym (ap (λ (r : Reply). r.text) told)) (true-bounds program all name number report costs a is)
sound-told all name program reply a (inr (fits, inl (inr (unknown, told)))) e = absurd (cc (sym (ap (λ (r : Reply). r.status) told) ∙ e))
sound-told all name program reply a (inr (fits, inr (refusal, is, told))) e = absurd (cc (sym (ap (λ (r : Reply). r.status) told) ∙ e))

pub sound-cost : (words : List (List ℕ)) (before after : Option (List ℕ)) (reply : Reply) (asked : IsToCost words before) → IsReply words before after reply → reply.status ≡ CostsTold
    → AreTrueBounds asked.program asked.name reply.text
sound-cost words before after reply a answer e =
    let read : IsReplyToRead most_bytes (IsReplyToCost a.name) before after reply = subst (λ work. IsReplyToWork work before after reply) a.asked answer in
    let all = whole-input most_bytes a.input read.input a.short (subst (λ before. IsInput most_bytes before read.input) a.whole read.is_input) in
    sound-told a.input a.name a.program reply a.accepted (subst (λ input. IsReplyToCost a.name input reply) all read.is_reply) e

costed : (all name : List ℕ) (program : Program) (reply : Reply) → length all ≤ most_bytes → Accepts all program → IsReplyToCost name all reply
    → ((reply.status ≡ CostsTold) × HasGlobal program name) ⊎ ((reply.status ≡ NoGlobal) × HasNoGlobal program name)
costed all name program reply short a (inl (long, is)) = absurd (omega arith)
costed all name program reply short a (inr (fits, inl (inl (number, report, costs, is, told)))) =
    let same : is.analysed.program ≡ program = accepted-once all is.analysed.program program is.analysed.planned.accepted a in
    inl (ap (λ (r : Reply). r.status) told, subst (λ program. HasGlobal program name) same (number, is.global))
costed all name program reply short a (inr (fits, inl (inr (unknown, told)))) =
    let same : unknown.program ≡ program = accepted-once all unknown.program program unknown.accepted a in
    inr (ap (λ (r : Reply). r.status) told, subst (λ program. HasNoGlobal program name) same unknown.none)
costed all name program reply short a (inr (fits, inr (refusal, is, told))) = absurd (not-refused all program refusal a is)

pub complete-cost : (words : List (List ℕ)) (before after : Option (List ℕ)) (reply : Reply) (asked : IsToCost words before) → IsReply words before after reply
    → ((reply.status ≡ CostsTold) × HasGlobal asked.program asked.name) ⊎ ((reply.status ≡ NoGlobal) × HasNoGlobal asked.program asked.name)
complete-cost words before after reply a answer =
    let read : IsReplyToRead most_bytes (IsReplyToCost a.name) before after reply = subst (λ work. IsReplyToWork work before after reply) a.asked answer in
    let all = whole-input most_bytes a.input read.input a.short (subst (λ before. IsInput most_bytes before read.input) a.whole read.is_input) in
    costed a.input a.name a.program reply a.short a.accepted (subst (λ input. IsReplyToCost a.name input reply) all read.is_reply)

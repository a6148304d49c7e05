-- Neither the shape of a program nor an execution knows the rule by which iterations are summed up.
use Rattle.std.proofs.Common.{◌≡◌, ℕ, ◌+◌, ◌&&◌, Bool, List, [], ◌∷◌, Option, Some, Ok, length, refl, sym, ap, ◌∙◌}
use Rattle.std.specs.Prelude.{None, nat_le}
use Rattle.std.proofs.lemmas.Bool.{and_parts, leb-true}
use Rattle.syntax_tree.specs.declared.program.Proc.{Proc}
use Rattle.syntax_tree.specs.declared.program.Program.{Program}
use Rattle.syntax_tree.specs.Code.{Statement, Set, Any, Call, Guard, Check, If, Loop, Break, Continue, Return, Code, End, Then, code_of}
use Rattle.syntax_tree.specs.WellFormed.{IsProcFit, IsWellFormed, code_fits, statement_fits, width_of}
use Rattle.execution.specs.Execution.{Begins, Fails, Returns, Runs}
use Rattle.execution.specs.Machine.{Config, Do, Frame, Head, Item, Tail, Test, Top}
use Rattle.execution.specs.Step.{IsEntered, StepsBy, StepsFrom}
use Rattle.report.specs.declared.blocks.Report.{Report}
use Rattle.report.specs.Claims.{ClaimsAreMet}
use Rattle.typing.specs.declared.error.TypeError.{TypeError}
use Rattle.typing.specs.Elaborated.{elaborated_program}
use Rattle.typing.specs.Faults.{elaboration_of, faults_of, least_of, unless_fault}
use Rattle.summary_cache.specs.Accepted.{Accepts}
use Rattle.summary_cache.specs.Laws.{AcceptedHasRuleTwo}
use Rattle.summary_cache.specs.Rules.{ClaimsKnowNoRule, IsRule, RulesAreFree, with_rule}

each-alike : (a b c d : Bool) → a ≡ c → b ≡ d → (a && b) ≡ (c && d)
each-alike a b c d one other = ap (λ x. x && b) one ∙ ap (λ x. c && x) other

both-alike : (x a b c d : Bool) → a ≡ c → b ≡ d → (x && a && b) ≡ (x && c && d)
both-alike x a b c d one other = each-alike (x && a) b (x && c) d (ap (λ y. x && y) one) other

all-alike : (x a b c d e f : Bool) → a ≡ d → b ≡ e → c ≡ f → (x && a && b && c) ≡ (x && d && e && f)
all-alike x a b c d e f one other third = each-alike (x && a && b) c (x && d && e) f (both-alike x a b d e one other) third

module _ (program : Program) (rule : ℕ) where
  -- ---- shapes

  mutual
    statement-fits : (width : ℕ) (place : _) (s : Statement) → statement_fits (with_rule rule program) width place s ≡ statement_fits program width place s
    statement-fits width place (Set col value) = refl
    statement-fits width place (Any col) = refl
    statement-fits width place (Call proc args into) = refl
    statement-fits width place (Guard cond) = refl
    statement-fits width place (Check number cond) = refl
    statement-fits width place (If cond on_true on_false) = both-alike _ _ _ _ _ (code-fits width _ on_true) (code-fits width _ on_false)
    statement-fits width place (Loop pre cond body step first) = all-alike _ _ _ _ _ _ _ (code-fits width _ pre) (code-fits width _ body) (code-fits width _ step)
    statement-fits width place Break = refl
    statement-fits width place Continue = refl
    statement-fits width place Return = refl

    code-fits : (width : ℕ) (place : _) (c : Code) → code_fits (with_rule rule program) width place c ≡ code_fits program width place c
    code-fits width place End = refl
    code-fits width place (Then s rest) = each-alike _ _ _ _ (statement-fits width _ s) (code-fits width _ rest)

  proc-fits : (p : Proc) → IsProcFit program p → IsProcFit (with_rule rule program) p
  proc-fits p fit = record {
    params = fit.params;
    slots = fit.slots;
    first = fit.first;
    named = fit.named;
    body = code-fits (width_of program p) _ (code_of p.body) ∙ fit.body;
    nodes = fit.nodes;
  }

  well_formed : IsWellFormed program → IsRule rule → IsWellFormed (with_rule rule program)
  well_formed formed is = record {
    procedures = formed.procedures;
    globals = formed.globals;
    assertions = formed.assertions;
    main = formed.main;
    each = λ k d below. proc-fits _ (formed.each k d below);
    first_rule = leb-true 1 rule (and_parts (nat_le 1 rule) (nat_le rule 4) is).0;
    last_rule = leb-true rule 4 (and_parts (nat_le 1 rule) (nat_le rule 4) is).1;
    once = formed.once;
  }

  -- ---- executions

  enters : (proc : ℕ) (args : _) (into : Option ℕ) (frame : Frame) → IsEntered program proc args into frame → IsEntered (with_rule rule program) proc args into frame
  enters proc args into frame entered = record {
    callee = entered.callee;
    is = entered.is;
    params = entered.params;
    others = entered.others;
    width = entered.width;
    frame_is = entered.frame_is;
  }

  steps-by : (top : Top) (items : List Item) (next : Config) → StepsBy program top items next → StepsBy (with_rule rule program) top items next
  steps-by top [] next step = step
  steps-by top (Do (Set col value) ∷ rest) next step = step
  steps-by top (Do (Any col) ∷ rest) next step = step
  steps-by top (Do (Call proc args into) ∷ rest) next step =
      record { values = step.values; are = step.are; frame = step.frame; entered = enters proc step.values into step.frame step.entered; next_is = step.next_is }
  steps-by top (Do (Guard cond) ∷ rest) next step = step
  steps-by top (Do (Check number cond) ∷ rest) next step = step
  steps-by top (Do (If cond on_true on_false) ∷ rest) next step = step
  steps-by top (Do (Loop pre cond body step first) ∷ rest) next does = does
  steps-by top (Do Break ∷ rest) next step = step
  steps-by top (Do Continue ∷ rest) next step = step
  steps-by top (Do Return ∷ rest) next step = step
  steps-by top (Head loop ∷ rest) next step = step
  steps-by top (Test loop ∷ rest) next step = step
  steps-by top (Tail loop ∷ rest) next step = step

  steps-from : (globals : _) (frames : List Frame) (next : Config) → StepsFrom program globals frames next → StepsFrom (with_rule rule program) globals frames next
  steps-from globals [] next step = step
  steps-from globals (frame ∷ below) next step = steps-by (record { globals = globals; frame = frame; below = below }) frame.items next step

  pub runs : (first : Config) (steps : List Config) (last : Config) → Runs program first steps last → Runs (with_rule rule program) first steps last
  runs first [] last same = same
  runs first (next ∷ rest) last ran = (steps-from first.globals first.frames next ran.0, runs next rest last ran.1)

  pub begins : (proc : ℕ) (globals args : _) (first : Config) → Begins program proc globals args first → Begins (with_rule rule program) proc globals args first
  begins proc globals args first b =
      record { width = b.width; frame = b.frame; entered = enters proc args _ b.frame b.entered; first_is = b.first_is }

  pub returns : (proc : ℕ) (globals args after : _) (value : _) → Returns program proc globals args after value → Returns (with_rule rule program) proc globals args after value
  returns proc globals args after value r = record {
    first = r.first;
    begins = begins proc globals args r.first r.begins;
    steps = r.steps;
    frame = r.frame;
    runs = runs r.first r.steps _ r.runs;
    done = r.done;
    value_is = r.value_is;
  }

  fails : (number : ℕ) → Fails program number → Fails (with_rule rule program) number
  fails number f = record {
    first = f.first;
    begins = begins program.main _ [] f.first f.begins;
    steps = f.steps;
    top = f.top;
    runs = runs f.first f.steps _ f.runs;
    cond = f.cond;
    rest = f.rest;
    next = f.next;
    fails = f.fails;
  }

  claims : (report : Report) → ClaimsAreMet (with_rule rule program) report → ClaimsAreMet program report
  claims report met = record {
    summaries = λ proc block at p is globals args after value returned.
        met.summaries proc block at p is globals args after value (returns proc globals args after value returned);
    proved = λ n judged at proved failed. met.proved n judged at proved (fails (n + 1) failed);
  }

pub rules_are_free : RulesAreFree
rules_are_free program rule formed is = well_formed program rule formed is

pub claims_know_no_rule : ClaimsKnowNoRule
claims_know_no_rule program rule report = claims program rule report

-- ---- the rule of a program of a text

ruled : (fault : Option TypeError) (made program : Program) → made.rule ≡ 2 → unless_fault fault made ≡ Ok program → program.rule ≡ 2
ruled None made program is e = let same : made ≡ program = cc in ap (λ (p : Program). p.rule) (sym same) ∙ is
ruled (Some fault) made program is e = cc

accepted-rule : (text : List ℕ) (program : Program) → Accepts text program → program.rule ≡ 2
unfolding elaboration_of
accepted-rule text program a = ruled (least_of None (faults_of a.tree.items (length text))) (elaborated_program a.tree.items) program refl a.elaborates

same-rule : (program : Program) → program.rule ≡ 2 → with_rule 2 program ≡ program
same-rule program is =
    λ i. record { globals = program.globals; procs = program.procs; main = program.main; checks = program.checks; rule = sym is i }

pub accepted_has_rule_two : AcceptedHasRuleTwo
accepted_has_rule_two text program a = same-rule program (accepted-rule text program a)

-- Elaboration looks at the plain form of a tree alone: trees that read alike have the same program
-- and the same faults.
use Rattle.std.proofs.Common.{◌≡◌, ℕ, ℤ, ◌+◌, Bool, Option, None, Some, List, [], ◌∷◌, ◌++◌, length, map, refl, ap, subst}
use Rattle.std.specs.Prelude.{◌==◌, not, is_none, unwrap_or, if◌then◌else◌}
use Rattle.syntax_tree.specs.Limits.{most_globals, most_procedures}
use Rattle.syntax_tree.specs.declared.line.Line.{Line}
use Rattle.syntax_tree.specs.declared.program.Proc.{Proc}
use Rattle.syntax_tree.specs.declared.tree.Item.{Item}
use Rattle.syntax_tree.specs.declared.tree.Item.TheVariants.{Global, Proto, Body}
use Rattle.syntax_tree.specs.declared.tree.Param.{Param}
use Rattle.syntax_tree.specs.SourceLine.{SourceLines, source_lines_of}
use Rattle.c_parser.specs.SourceItem.{parameter_of, source_item_of}
use Rattle.typing.specs.declared.error.Limited.TheVariants as limited
use Rattle.typing.specs.declared.error.TypeError.{TypeError}
use Rattle.typing.specs.declared.error.TypeError.TheVariants.{Arity, Many, NoMain}
use Rattle.typing.specs.CallFaults.{when}
use Rattle.typing.specs.Elaborated.{checks_in, elaborated_program, globals_of, main_from, procs_of}
use Rattle.typing.specs.Faults.{agrees, declaration_faults, elaboration_of, faults_of, least_of, main_faults, node_faults, parameter_faults, params_faults, procs_faults, prototype_faults, unless_fault}
use Rattle.typing.specs.LineFaults.{all_faults_in, twice_faults}
use Rattle.typing.specs.Lines.{all_checks_of, all_columns_of, all_statements_of}
use Rattle.typing.specs.Scopes.{Scope, meaning_in}
use Rattle.typing.specs.Specials.{is_main}
use Rattle.typing.specs.Texts.{beginning, bodies, count_globals, declarations, param_column, procedure, with_params}

parameters-same : (ps qs : List Param) → map parameter_of ps ≡ map parameter_of qs → ps ≡ qs
parameters-same [] [] e = refl
parameters-same [] (q ∷ qs) e = cc
parameters-same (p ∷ ps) [] e = cc
parameters-same (p ∷ ps) (q ∷ qs) e =
    let first : parameter_of p ≡ parameter_of q = cc in
    let rest : map parameter_of ps ≡ map parameter_of qs = cc in
    let name = ap (λ r. r.name) first in
    let at = ap (λ r. r.at) first in
    let same : p ≡ q = λ i. record { name = name i; at = at i } in
    λ i. same i ∷ parameters-same ps qs rest i

-- lists of declarations that read alike are alike one by one
alike : (P : List Item → List Item → Type 0) → P [] []
    → ((name : List ℕ) (at : ℕ) (init : ℤ) (xs ys : List Item) → P xs ys → P (Global name at init ∷ xs) (Global name at init ∷ ys))
    → ((name : List ℕ) (at : ℕ) (returns : Bool) (params : Option ℕ) (xs ys : List Item) → P xs ys → P (Proto name at returns params ∷ xs) (Proto name at returns params ∷ ys))
    → ((name : List ℕ) (at : ℕ) (returns : Bool) (params : List Param) (lines others : List Line) (end : ℕ) (xs ys : List Item) → source_lines_of lines ≡ source_lines_of others
    → P xs ys → P (Body name at returns params lines end ∷ xs) (Body name at returns params others end ∷ ys))
    → (one other : List Item) → map source_item_of one ≡ map source_item_of other → P one other
alike P none globals protos bodies [] [] e = none
alike P none globals protos bodies [] (y ∷ ys) e = cc
alike P none globals protos bodies (x ∷ xs) [] e = cc
alike P none globals protos bodies (Global name at init ∷ xs) (Global name2 at2 init2 ∷ ys) e =
    let rest : map source_item_of xs ≡ map source_item_of ys = cc in
    let n : name ≡ name2 = cc in let a : at ≡ at2 = cc in let z : init ≡ init2 = cc in
    subst (λ m. P (Global name at init ∷ xs) (Global m at2 init2 ∷ ys)) n (subst (λ m. P (Global name at init ∷ xs) (Global name m init2 ∷ ys)) a
    (subst (λ m. P (Global name at init ∷ xs) (Global name at m ∷ ys)) z (globals name at init xs ys (alike P none globals protos bodies xs ys rest))))
alike P none globals protos bodies (Proto name at returns params ∷ xs) (Proto name2 at2 returns2 params2 ∷ ys) e =
    let rest : map source_item_of xs ≡ map source_item_of ys = cc in
    let n : name ≡ name2 = cc in let a : at ≡ at2 = cc in let r : returns ≡ returns2 = cc in let p : params ≡ params2 = cc in
    subst (λ m. P (Proto name at returns params ∷ xs) (Proto m at2 returns2 params2 ∷ ys)) n (subst (λ m. P (Proto name at returns params ∷ xs) (Proto name m returns2 params2 ∷ ys)) a
    (subst (λ m. P (Proto name at returns params ∷ xs) (Proto name at m params2 ∷ ys)) r (subst (λ m. P (Proto name at returns params ∷ xs) (Proto name at returns m ∷ ys)) p
    (protos name at returns params xs ys (alike P none globals protos bodies xs ys rest)))))
alike P none globals protos bodies (Body name at returns params lines end ∷ xs) (Body name2 at2 returns2 params2 others end2 ∷ ys) e =
    let rest : map source_item_of xs ≡ map source_item_of ys = cc in
    let n : name ≡ name2 = cc in let a : at ≡ at2 = cc in let r : returns ≡ returns2 = cc in
    let ps : map parameter_of params ≡ map parameter_of params2 = cc in let p = parameters-same params params2 ps in
    let s : source_lines_of lines ≡ source_lines_of others = cc in let d : end ≡ end2 = cc in
    let start = Body name at returns params lines end ∷ xs in
    subst (λ m. P start (Body m at2 returns2 params2 others end2 ∷ ys)) n (subst (λ m. P start (Body name m returns2 params2 others end2 ∷ ys)) a
    (subst (λ m. P start (Body name at m params2 others end2 ∷ ys)) r (subst (λ m. P start (Body name at returns m others end2 ∷ ys)) p
    (subst (λ m. P start (Body name at returns params others m ∷ ys)) d
    (bodies name at returns params lines others end xs ys s (alike P none globals protos bodies xs ys rest))))))
alike P none globals protos bodies (Global name at init ∷ xs) (Proto name2 at2 returns2 params2 ∷ ys) e = cc
alike P none globals protos bodies (Global name at init ∷ xs) (Body name2 at2 returns2 params2 others end2 ∷ ys) e = cc
alike P none globals protos bodies (Proto name at returns params ∷ xs) (Global name2 at2 init2 ∷ ys) e = cc
alike P none globals protos bodies (Proto name at returns params ∷ xs) (Body name2 at2 returns2 params2 others end2 ∷ ys) e = cc
alike P none globals protos bodies (Body name at returns params lines end ∷ xs) (Global name2 at2 init2 ∷ ys) e = cc
alike P none globals protos bodies (Body name at returns params lines end ∷ xs) (Proto name2 at2 returns2 params2 ∷ ys) e = cc

-- a procedure and its faults, by the plain form of its lines
abbrev proc_by : Scope → ℕ → ℕ → List ℕ → Bool → List Param → SourceLines → Proc
proc_by text globals number name returns params lines = record {
  name = name;
  returns = returns;
  params = length params;
  columns = map param_column params ++ all_columns_of lines;
  body = all_statements_of (with_params (beginning text globals number returns (length (map param_column params ++ all_columns_of lines))) params) lines;
}

abbrev faults_by : Scope → ℕ → ℕ → Bool → List Param → ℕ → SourceLines → List TypeError
faults_by text globals number returns params end lines =
    params_faults (beginning text globals number returns (length (map param_column params ++ all_columns_of lines))) params
    ++ all_faults_in (with_params (beginning text globals number returns (length (map param_column params ++ all_columns_of lines))) params) lines
    ++ node_faults (with_params (beginning text globals number returns (length (map param_column params ++ all_columns_of lines))) params) lines end

-- all that elaboration asks of declarations
record AreOne (one other : List Item) : Type 0 where
  globals : globals_of one ≡ globals_of other
  checks : checks_in one ≡ checks_in other
  count : count_globals one ≡ count_globals other
  main : (p : ℕ) → main_from p one ≡ main_from p other
  scope : (g p : ℕ) → declarations g p one ≡ declarations g p other
  named : (p : ℕ) → bodies p one ≡ bodies p other
  procs : (text : Scope) (g n : ℕ) → procs_of text g n one ≡ procs_of text g n other
  twice : (above : Scope) (g p : ℕ) → declaration_faults above g p one ≡ declaration_faults above g p other
  agree : (procs : Scope) → prototype_faults procs one ≡ prototype_faults procs other
  faults : (text : Scope) (g n : ℕ) → procs_faults text g n one ≡ procs_faults text g n other

are-one : (one other : List Item) → map source_item_of one ≡ map source_item_of other → AreOne one other
are-one = alike AreOne
    (record {
      globals = refl;
      checks = refl;
      count = refl;
      main = λ p. refl;
      scope = λ g p. refl;
      named = λ p. refl;
      procs = λ text g n. refl;
      twice = λ above g p. refl;
      agree = λ procs. refl;
      faults = λ text g n. refl;
    })
    (λ name at init xs ys h. record {
      globals = λ i. record { name = name; init = init } ∷ h.globals i;
      checks = h.checks;
      count = λ i. 1 + h.count i;
      main = h.main;
      scope = λ g p i. declarations g p (Global name at init ∷ []) ++ h.scope (g + 1) p i;
      named = h.named;
      procs = h.procs;
      twice = λ above g p i. twice_faults (above ∷ []) at name ++ when (g == most_globals) (Many limited.Globals at) ++ h.twice (above ++ declarations g p (Global name at init ∷ [])) (g + 1) p i;
      agree = h.agree;
      faults = h.faults;
    })
    (λ name at returns params xs ys h. record {
      globals = h.globals;
      checks = h.checks;
      count = h.count;
      main = h.main;
      scope = h.scope;
      named = h.named;
      procs = h.procs;
      twice = h.twice;
      agree = λ procs i. when (not (agrees returns params (meaning_in procs name))) (Arity at) ++ h.agree procs i;
      faults = h.faults;
    })
    (λ name at returns params lines others end xs ys s h. record {
      globals = h.globals;
      checks = λ i. all_checks_of (s i) ++ h.checks i;
      count = h.count;
      main = λ p i. if is_main name then Some p else h.main (p + 1) i;
      scope = λ g p i. (name, procedure p returns params) ∷ h.scope g (p + 1) i;
      named = λ p i. (name, procedure p returns params) ∷ h.named (p + 1) i;
      procs = λ text g n i. proc_by text g n name returns params (s i) ∷ h.procs text g (n + length (all_checks_of (s i))) i;
      twice = λ above g p i. twice_faults (above ∷ []) at name ++ when (p == most_procedures) (Many limited.Procedures at) ++ main_faults at name params ++ parameter_faults 0 params
          ++ h.twice (above ++ (name, procedure p returns params) ∷ []) g (p + 1) i;
      agree = h.agree;
      faults = λ text g n i. faults_by text g n returns params end (s i) ++ h.faults text g (n + length (all_checks_of (s i))) i;
    })

pub elaborates-alike : (one other : List Item) (length_of_text : ℕ) → map source_item_of one ≡ map source_item_of other
    → elaboration_of one length_of_text ≡ elaboration_of other length_of_text
unfolding elaboration_of
elaborates-alike one other length_of_text e =
    let h = are-one one other e in
    let made : elaborated_program one ≡ elaborated_program other = λ i. record {
      globals = h.globals i;
      procs = h.procs (h.scope 0 0 i) (h.count i) 0 i;
      main = unwrap_or (h.main 0 i) 0;
      checks = h.checks i;
      rule = 2;
    } in
    let faults : faults_of one length_of_text ≡ faults_of other length_of_text = λ i.
    h.twice [] 0 0 i ++ h.agree (h.named 0 i) i ++ h.faults (h.scope 0 0 i) (h.count i) 0 i ++ when (is_none (h.main 0 i)) (NoMain length_of_text) in
    λ i. unless_fault (least_of None (faults i)) (made i)

-- All faults of a text, and the one that is told.
use Rattle.std.specs.Prelude.{ℕ, ◌+◌, Bool, true, false, not, ◌&&◌, ◌||◌, ◌==◌, nat_lt, Option, None, Some, is_none, Result, Ok, Err, List, [], ◌∷◌, ◌++◌, length, if◌then◌else◌}
use Rattle.syntax_tree.specs.Limits.{most_procedures, most_parameters, most_globals, most_nodes}
use Rattle.syntax_tree.specs.declared.line.Line.{Line}
use Rattle.syntax_tree.specs.declared.program.Program.{Program}
use Rattle.syntax_tree.specs.declared.tree.Item.{Item}
use Rattle.syntax_tree.specs.declared.tree.Item.TheVariants.{Global, Proto, Body}
use Rattle.syntax_tree.specs.declared.tree.Param.{Param}
use Rattle.syntax_tree.specs.Code.{code_of}
use Rattle.syntax_tree.specs.Nodes.{graph_nodes}
use Rattle.syntax_tree.specs.SourceLine.{SourceLines, source_lines_of}
use Rattle.typing.specs.declared.env.Env.{Env}
use Rattle.typing.specs.declared.error.Limited.{Limited}
use Rattle.typing.specs.declared.error.Limited.TheVariants as limited
use Rattle.typing.specs.declared.error.TypeError.{TypeError}
use Rattle.typing.specs.declared.error.TypeError.TheVariants.{Unknown, Twice, Arity, VoidValue, CallPlace, Many, NoMain, Memory}
use Rattle.typing.specs.declared.meaning.Meaning.{Meaning}
use Rattle.typing.specs.declared.meaning.Meaning.TheVariants.{Variable, Procedure}
use Rattle.typing.specs.CallFaults.{when}
use Rattle.typing.specs.Elaborated.{elaborated_program, main_from}
use Rattle.typing.specs.Env.{with_variable}
use Rattle.typing.specs.LineFaults.{all_faults_in, declare_faults, twice_faults}
use Rattle.typing.specs.Lines.{all_checks_of, all_statements_of}
use Rattle.typing.specs.Scopes.{Scope, meaning_in}
use Rattle.typing.specs.Specials.{is_main}
use Rattle.typing.specs.Texts.{beginning, body_columns, body_env, bodies, count_globals, declarations, procedure}

-- ---- the declarations of a text

-- `main` has no parameters (C11 5.1.2.2.1, in part)
abbrev pub main_faults : ℕ → List ℕ → List Param → List TypeError
main_faults at name params = when (is_main name && not (length params == 0)) (Arity at)

-- parameters past the most that there may be: the first of these is told
abbrev pub parameter_faults : ℕ → List Param → List TypeError
parameter_faults above [] = []
parameter_faults above (param ∷ rest) =
    when (above == most_parameters) (Many limited.Parameters param.at) ++ parameter_faults
    (above + 1) rest

-- Behind these declarations, so many globals and so many procedures.
abbrev pub declaration_faults : Scope → ℕ → ℕ → List Item → List TypeError
declaration_faults above globals procs [] = []
declaration_faults above globals procs (Global name at init ∷ rest) =
    twice_faults (above ∷ []) at name
    ++ when (globals == most_globals) (Many limited.Globals at)
    ++ declaration_faults (above ++ (name, Variable globals) ∷ []) (globals + 1) procs rest
declaration_faults above globals procs (Proto name at returns params ∷ rest) =
    declaration_faults above globals procs rest
declaration_faults above globals procs (Body name at returns params lines end ∷ rest) =
    twice_faults (above ∷ []) at name
    ++ when (procs == most_procedures) (Many limited.Procedures at)
    ++ main_faults at name params
    ++ parameter_faults 0 params
    ++ declaration_faults (above ++ (name, procedure procs returns params) ∷ []) globals (procs + 1)
    rest

-- empty brackets agree with any number of parameters (C11 6.7.6.3)
abbrev pub agrees_in_number : Option ℕ → ℕ → Bool
agrees_in_number None params = true
agrees_in_number (Some count) params = count == params

-- a prototype and a procedure both return a value, or neither does
abbrev pub agrees_in_value : Bool → Bool → Bool
agrees_in_value true returns = returns
agrees_in_value false returns = not returns

-- a prototype agrees with the first procedure of its name, if there is one
abbrev pub agrees : Bool → Option ℕ → Option Meaning → Bool
agrees returns params (Some (Procedure signature)) =
    agrees_in_value returns signature.returns && agrees_in_number params signature.params
agrees returns params (Some (Variable col)) = true
agrees returns params None = true

-- the prototypes that don't agree with the procedure of their name, in the order of the text
abbrev pub prototype_faults : Scope → List Item → List TypeError
prototype_faults procs [] = []
prototype_faults procs (Global name at init ∷ rest) = prototype_faults procs rest
prototype_faults procs (Proto name at returns params ∷ rest) =
    when (not (agrees returns params (meaning_in procs name))) (Arity at) ++ prototype_faults procs
    rest
prototype_faults procs (Body name at returns params lines end ∷ rest) = prototype_faults procs rest

-- ---- procedures

-- the faults of the declarations of parameters, in their order
abbrev pub params_faults : Env → List Param → List TypeError
params_faults env [] = []
params_faults env (param ∷ rest) = declare_faults env param.at param.name ++ params_faults
    (with_variable param.name env) rest

-- a body whose flow graph has too many nodes, told at its closing brace
abbrev pub node_faults : Env → SourceLines → ℕ → List TypeError
node_faults env lines end =
    when (nat_lt most_nodes (graph_nodes (code_of (all_statements_of env lines))))
    (Many limited.Nodes end)

-- the faults of a procedure: of its parameters, of its lines, and too many nodes
abbrev pub body_faults : Scope → ℕ → ℕ → Bool → List Param → List Line → ℕ → List TypeError
body_faults text globals number returns params lines end =
    params_faults (beginning text globals number returns (length (body_columns params lines)))
    params
    ++ all_faults_in (body_env text globals number returns params lines) (source_lines_of lines)
    ++ node_faults (body_env text globals number returns params lines) (source_lines_of lines) end

-- the faults of all procedures, in the order of the text, behind so many assertions
abbrev pub procs_faults : Scope → ℕ → ℕ → List Item → List TypeError
procs_faults text globals number [] = []
procs_faults text globals number (Global name at init ∷ rest) =
    procs_faults text globals number rest
procs_faults text globals number (Proto name at returns params ∷ rest) =
    procs_faults text globals number rest
procs_faults text globals number (Body name at returns params lines end ∷ rest) =
    body_faults text globals number returns params lines end
    ++ procs_faults text globals (number + length (all_checks_of (source_lines_of lines))) rest

-- ---- all of them

-- all faults of a text; want of a `main` is told at its end
abbrev pub faults_of : List Item → ℕ → List TypeError
faults_of items length_of_text =
    declaration_faults [] 0 0 items
    ++ prototype_faults (bodies 0 items) items
    ++ procs_faults (declarations 0 0 items) (count_globals items) 0 items
    ++ when (is_none (main_from 0 items)) (NoMain length_of_text)

-- the place of a fault in the text; 0 for want of memory
abbrev pub fault_place : TypeError → ℕ
fault_place (Unknown at) = at
fault_place (Twice at) = at
fault_place (Arity at) = at
fault_place (VoidValue at) = at
fault_place (CallPlace at) = at
fault_place (Many what at) = at
fault_place (NoMain at) = at
fault_place Memory = 0

-- the rank of a limit that is passed among the faults at one place, from 5 to 11
abbrev pub limited_rank : Limited → ℕ
limited_rank limited.Procedures = 5
limited_rank limited.Parameters = 6
limited_rank limited.Globals = 7
limited_rank limited.Slots = 8
limited_rank limited.Nodes = 9
limited_rank limited.Assertions = 10
limited_rank limited.Cases = 11

-- the rank of a fault among those at one place, from 0, in the order of the variants
abbrev pub fault_rank : TypeError → ℕ
fault_rank (Unknown at) = 0
fault_rank (Twice at) = 1
fault_rank (Arity at) = 2
fault_rank (VoidValue at) = 3
fault_rank (CallPlace at) = 4
fault_rank (Many what at) = limited_rank what
fault_rank (NoMain at) = 12
fault_rank Memory = 13

-- the one comes before the other in the text, or at the same place by the order of the variants
unfoldable pub comes_before : TypeError → TypeError → Bool
comes_before fault other =
    nat_lt (fault_place fault) (fault_place other)
    || (fault_place fault == fault_place other && nat_lt (fault_rank fault) (fault_rank other))

-- the one of two faults that comes before the other; the only one where none stands already
abbrev pub lesser : Option TypeError → TypeError → TypeError
lesser None fault = fault
lesser (Some least) fault = if comes_before fault least then fault else least

-- the least of some faults and of one that stands already
abbrev pub least_of : Option TypeError → List TypeError → Option TypeError
least_of least [] = least
least_of least (fault ∷ rest) = least_of (Some (lesser least fault)) rest

-- the fault if there is one, and else the program
abbrev pub unless_fault : Option TypeError → Program → Result Program TypeError
unless_fault None program = Ok program
unless_fault (Some fault) program = Err fault

-- What elaboration comes to: the least fault if there is one, and else the program.
unfoldable pub elaboration_of : List Item → ℕ → Result Program TypeError
elaboration_of items length_of_text = unless_fault (least_of None (faults_of items length_of_text))
    (elaborated_program items)

-- what an error tells: want of memory tells nothing
abbrev pub cause : TypeError → Option TypeError
cause (Unknown at) = Some (Unknown at)
cause (Twice at) = Some (Twice at)
cause (Arity at) = Some (Arity at)
cause (VoidValue at) = Some (VoidValue at)
cause (CallPlace at) = Some (CallPlace at)
cause (Many what at) = Some (Many what at)
cause (NoMain at) = Some (NoMain at)
cause Memory = None

use Rattle.std.proofs.Common.{◌≡◌, drop}
use Rattle.typing.specs.Faults.{least_of, params_faults}
use Rattle.typing.specs.Texts.{with_params}
use Rattle.typing.proofs.elaborator.Elaborator.params.Given as goal

abbrev pub invariant-loop-param : goal.invariant-loop-param
invariant-loop-param l = record {
  env : with_params l.self.env (drop l.param-index l.params) ≡ with_params l.fn.self.env l.params;
  least : least_of l.self.least (params_faults l.self.env (drop l.param-index l.params)) ≡ least_of l.fn.self.least (params_faults l.fn.self.env l.params);
}

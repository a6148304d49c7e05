use Rattle.elimination.proofs.SmallStrata.{kernel_probes}
use Rattle.elimination.proofs.strata.basis_over.Goals as goal

pub inner_points-requires : goal.inner_points-requires
inner_points-requires c = record {
  probes = kernel_probes c.args.columns.now c.args.columns.now c.args.asked.now.cases c.cases.result.now c.args.asked.now.lower c.args.kernel.now c.as_slice-probes.result.now c.requires.stratum c.requires.small
      c.requires.columns c.requires.columns c.cases.ensures.cases c.as_slice-probes.ensures c.requires.kernel;
}

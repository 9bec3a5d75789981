use Rattle.std.proofs.Common.{◌≡◌, List, length, sym, ap, subst, ◌∙◌}
use Rattle.std.specs.List.{All}
use Rattle.std.proofs.lemmas.List.{length-map}
use Rattle.guarded_tell.specs.declared.kernel.Kernel.{Kernel}
use Rattle.guarded_tell.specs.Kernels.{IsKernel}
use Rattle.bit_domain.specs.Mixes.{Mix, mix_of}
use Rattle.constraint_model.specs.declared.model.FznModel.{FznModel}
use Rattle.decompose.specs.declared.program.Program.{Program}
use Rattle.decompose.specs.Program.{IsProgramOf}
use Rattle.domain_text.proofs.left.propagated.Goals as goal

-- the kernels of a program can run on its start's mix
can_run : (model : FznModel) (program : Program) (start : Mix) (kernels : List Kernel) → IsProgramOf model program → start ≡ mix_of program.start → kernels ≡ program.kernels
    → All (IsKernel (length start)) kernels
can_run model program start kernels is begins same =
    let lengths : length start ≡ length program.start = ap length begins ∙ length-map program.start _ in
    subst (λ ks. All (IsKernel (length start)) ks) (sym same) (subst (λ n. All (IsKernel n) program.kernels) (sym lengths) is.can_run)

pub propagate_mix-requires-clause-kernels : goal.propagate_mix-requires-clause-kernels
propagate_mix-requires-clause-kernels g c κs within =
    can_run c.args.model.now c.in_ok-program.program c.in_ok-start.start c.as_slice-kernels.result.now c.in_ok-program.ensures c.in_ok-start.ensures c.as_slice-kernels.ensures

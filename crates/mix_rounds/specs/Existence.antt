-- That the computed mix is the greatest closed one.
use Rattle.std.specs.Prelude.{List, length, MatchOption}
use Rattle.std.specs.List.{All}
use Rattle.guarded_tell.specs.declared.kernel.Kernel.{Kernel}
use Rattle.guarded_tell.specs.Kernels.{IsKernel}
use Rattle.bit_domain.specs.Mixes.{Mix, IsMixInRange}
use Rattle.domain_drops.specs.Closed.{IsGreatestMix, FailsMix}
use Rattle.mix_rounds.specs.Greatest.{greatest_mix_of}

-- the computed mix is the greatest closed one, and where there is none the start fails
abbrev pub GreatestMixIsComputed : Type 0
GreatestMixIsComputed = (start : Mix) (kernels : List Kernel) →
    IsMixInRange start → All (IsKernel (length start)) kernels →
    MatchOption (greatest_mix_of start kernels) (FailsMix start kernels) (λ g. IsGreatestMix g start kernels)

use Rattle.global_tells.proofs.AllDifferentLaws.{all_different_monotone}
use Rattle.global_tells.proofs.PlaceLaws.{inner_low, inner_high}
use Rattle.global_tells.proofs.laws.law_all_different_monotone.Goals as goal

pub returns : goal.returns
returns c = λ xs outer inner variables range proper inside closed.
    all_different_monotone c.law_clamp_order.ensures xs inner outer proper inside (λ i h. (inner_low xs outer inner variables range proper inside i h, inner_high xs outer inner variables range proper inside i h)) closed

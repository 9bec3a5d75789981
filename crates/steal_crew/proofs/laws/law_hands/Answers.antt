use Rattle.std.proofs.Common.{refl}
use Rattle.steal_crew.proofs.NumberLaws.{same_refl}
use Rattle.steal_crew.proofs.HandLemmas.{same_hand_trans, one_deal}
use Rattle.steal_crew.proofs.laws.law_hands.Goals as goal

pub returns : goal.returns
returns c = record {
  reflexive = λ hand. record { standing = refl; drawn = same_refl _ };
  transitive = same_hand_trans;
  one_deal = one_deal;
}

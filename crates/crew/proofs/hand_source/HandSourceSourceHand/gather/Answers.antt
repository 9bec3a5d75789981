use Rattle.std.proofs.lemmas.List.Sums.{list_all-from_AllPass}
use Rattle.steal_crew.specs.Hands.{is_done}
use Rattle.crew.proofs.HandLaws.{hands_after, on_true_weaker}
use Rattle.crew.proofs.hand_source.HandSourceSourceHand.gather.Goals as goal

pub settle-requires : goal.settle-requires
settle-requires c = (c.args.self.count, hands_after c.law_hands.ensures c.args.self.count c.args.rights.items c.requires.all)

pub returns : goal.returns
returns c =
    let n = c.args.self.count in
    let deal = hands_after c.law_hands.ensures n c.args.rights.items c.requires.all in
    let once = c.settle.ensures.once n deal in
    record {
      once = once.once;
      below = once.no_other;
      each_once = on_true_weaker c.settle.result _ _ (λ each passed. each) (c.settle.ensures.all n deal);
      full = λ passed each. c.settle.ensures.complete n deal (list_all-from_AllPass is_done c.args.rights.items passed) each;
    }

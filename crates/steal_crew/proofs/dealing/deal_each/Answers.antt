use Rattle.std.proofs.Common.{map, ◌∙◌, ap, subst, sym, arith}
use Rattle.std.specs.List.{All}
use Rattle.steal_crew.specs.Hands.{dealt_of}
use Rattle.steal_crew.specs.Dealing.{IsFresh}
use Rattle.steal_crew.proofs.DealLaws.{deal_next, all_more}
use Rattle.steal_crew.proofs.dealing.deal_each.Goals as goal

pub loop-rest-preserved : goal.loop-rest-preserved
loop-rest-preserved c =
    let i = c.loop-rest.invariant in
    let p = c.push_reserved.ensures in
    let h = c.in_ok-hand in
    record {
      dealt = ap (map dealt_of) p.items ∙ deal_next c.args.n c.args.workers c.loop-rest.rest c.loop-rest.hands.items h.hand i.dealt h.ensures.dealt;
      fresh = subst (All (IsFresh c.args.n)) (sym p.items) (all_more (IsFresh c.args.n) c.loop-rest.hands.items h.hand i.fresh h.ensures.fresh);
      long = let a = p.len in let b = i.long in omega arith;
      room = p.capacity ∙ i.room;
    }

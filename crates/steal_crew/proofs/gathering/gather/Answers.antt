use Rattle.std.proofs.Common.{◌≡◌, length, ◌∙◌, ap, sym, subst, arith}
use Rattle.tickets.specs.Counting.{IsEachOnce}
use Rattle.steal_crew.specs.Hands.{all_drawn}
use Rattle.steal_crew.proofs.SettleLaws.{drawn_kept}
use Rattle.steal_crew.proofs.gathering.gather.Goals as goal

pub join_lists-requires-clause-room : goal.join_lists-requires-clause-room
join_lists-requires-clause-room c = λ k d lt.
    let n = c.requires.0 in
    let deal = c.settle.ensures.deal n c.requires.1 in
    let count = deal.count k d lt in
    let same : length (all_drawn c.settle.new.hands.items) ≡ length (all_drawn c.args.hands.items) = ap length (drawn_kept c.args.hands.items c.settle.new.hands.items c.settle.ensures.drawn) in
    let all = c.law_counting.ensures.all n (all_drawn c.args.hands.items) (c.if-not-settle.ensures.all n c.requires.1) in omega arith

pub returns-clause-all : goal.returns-clause-all
returns-clause-all c = λ n deal.
    subst (IsEachOnce n) (sym (c.join_lists.ensures ∙ drawn_kept c.args.hands.items c.settle.new.hands.items c.settle.ensures.drawn)) (c.if-not-settle.ensures.all n deal)

pub returns-clause-lists : goal.returns-clause-lists
returns-clause-lists c = c.join_lists.ensures ∙ drawn_kept c.args.hands.items c.settle.new.hands.items c.settle.ensures.drawn

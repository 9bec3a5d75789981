use Rattle.std.proofs.Common.{ℕ, ap, ◌∙◌, arith}
use Rattle.steal_crew.specs.Numbers.{numbers_below}
use Rattle.steal_crew.specs.Dealing.{others_from}
use Rattle.steal_crew.proofs.DealLaws.{fresh_long, fresh_none, fresh_dealing, dealt_deal, after_long}
use Rattle.steal_crew.proofs.dealing.deal.Goals as goal

pub lend_all-requires-clause-few : goal.lend_all-requires-clause-few
lend_all-requires-clause-few c = let l = fresh_long c.args.n c.args.workers c.requires.some c.in_ok-hands.hands.items c.in_ok-hands.ensures in let f = c.requires.few in omega arith

pub lend_all-requires-clause-none : goal.lend_all-requires-clause-none
lend_all-requires-clause-none c = fresh_none c.args.n c.args.workers c.requires.some c.in_ok-hands.hands.items c.in_ok-hands.ensures

pub lend_all-requires-clause-dealing : goal.lend_all-requires-clause-dealing
lend_all-requires-clause-dealing c = fresh_dealing c.args.n c.args.workers c.requires.some c.in_ok-hands.hands.items c.in_ok-hands.ensures

pub returns-clause-hands : goal.returns-clause-hands
returns-clause-hands c =
    let e = c.in_ok-lend_all.ensures in
    dealt_deal c.args.n c.args.workers c.requires.some c.in_ok-hands.hands.items c.in_ok-hands.ensures c.lend_all.new.hands.items e.undrawn e.dealing e.count e.dealt

pub returns-clause-length : goal.returns-clause-length
returns-clause-length c =
    let e = c.in_ok-lend_all.ensures in
    after_long c.args.n c.args.workers c.requires.some c.in_ok-hands.hands.items c.in_ok-hands.ensures c.lend_all.new.hands.items e.undrawn e.dealing e.count e.dealt
    ∙ fresh_long c.args.n c.args.workers c.requires.some c.in_ok-hands.hands.items c.in_ok-hands.ensures

pub returns-clause-rights : goal.returns-clause-rights
returns-clause-rights c = λ i lt.
    let l = fresh_long c.args.n c.args.workers c.requires.some c.in_ok-hands.hands.items c.in_ok-hands.ensures in
    c.in_ok-lend_all.ensures.rights i (omega arith) ∙ ap (λ (m : ℕ). others_from i (numbers_below m)) l

use Rattle.std.proofs.Common.{◌≡◌, sym, ap, ◌∙◌}
use Rattle.std.specs.List.{list_all}
use Rattle.steal_crew.specs.Hands.{all_drawn, is_done}
use Rattle.steal_crew.proofs.SettleLaws.{settled_deal, settled_once, settled_all, settled_complete, settled_done, settled_looked, on_true}
use Rattle.steal_crew.proofs.settling.settle.Goals as goal

pub returns-clause-deal : goal.returns-clause-deal
returns-clause-deal c = λ n deal.
    let g = c.give_all_back.ensures in let k = c.check_all.ensures in
    settled_deal n c.args.hands.now.items c.give_all_back.new.hands.items c.check_all.new.hands.items g.kept g.whole g.given k.standings k.taken k.drawn deal

pub returns-clause-once : goal.returns-clause-once
returns-clause-once c = λ n deal.
    let g = c.give_all_back.ensures in let k = c.check_all.ensures in
    settled_once n c.args.hands.now.items c.give_all_back.new.hands.items c.check_all.new.hands.items g.kept g.whole g.given k.standings k.taken k.drawn deal

pub returns-clause-all : goal.returns-clause-all
returns-clause-all c = λ n deal.
    let g = c.give_all_back.ensures in let k = c.check_all.ensures in
    let is : c.are_done.result ≡ list_all is_done c.check_all.new.hands.items = c.are_done.ensures ∙ ap (list_all is_done) c.deref.ensures.value in
    on_true c.are_done.result (λ e. settled_all n c.args.hands.now.items c.give_all_back.new.hands.items c.check_all.new.hands.items g.kept g.whole g.given k.standings k.taken k.drawn deal k.empty (sym is ∙ e))

pub returns-clause-done : goal.returns-clause-done
returns-clause-done c =
    let g = c.give_all_back.ensures in let k = c.check_all.ensures in
    let is : c.are_done.result ≡ list_all is_done c.check_all.new.hands.items = c.are_done.ensures ∙ ap (list_all is_done) c.deref.ensures.value in
    on_true c.are_done.result (λ e. settled_done c.requires.0 c.args.hands.now.items c.give_all_back.new.hands.items c.check_all.new.hands.items g.kept g.whole g.given k.standings k.taken k.drawn c.requires.1 k.done (sym is ∙ e))

pub returns-clause-complete : goal.returns-clause-complete
returns-clause-complete c = λ n deal done each.
    let g = c.give_all_back.ensures in let k = c.check_all.ensures in
    let is : c.are_done.result ≡ list_all is_done c.check_all.new.hands.items = c.are_done.ensures ∙ ap (list_all is_done) c.deref.ensures.value in
    is ∙ settled_complete n c.args.hands.now.items c.give_all_back.new.hands.items c.check_all.new.hands.items g.kept g.whole g.given k.standings k.taken k.drawn deal k.some done (c.law_counting.ensures.all n (all_drawn c.args.hands.now.items) each)

pub returns-clause-looked : goal.returns-clause-looked
returns-clause-looked c =
    settled_looked c.args.hands.now.items c.give_all_back.new.hands.items c.check_all.new.hands.items c.give_all_back.ensures.kept c.check_all.ensures.done c.check_all.ensures.some

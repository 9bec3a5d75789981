use Rattle.std.proofs.Common.{◌<◌, ◌++◌, length, ◌∙◌, ap, arith}
use Rattle.std.specs.Prelude.{flat_map}
use Rattle.steal_crew.specs.Rights.{taken_by}
use Rattle.steal_crew.specs.Hands.{standing_of, own_view, taken_of, drawn_of}
use Rattle.steal_crew.specs.declared.deque.View.{View}
use Rattle.steal_crew.proofs.GiveLaws.{map_in_place}
use Rattle.steal_crew.proofs.LendLaws.{same_length}
use Rattle.steal_crew.proofs.SettleLaws.{looked_done, looked_empty, looked_some}
use Rattle.steal_crew.proofs.settling.check_all.Goals as goal

pub loop-place-preserved : goal.loop-place-preserved
loop-place-preserved c =
    let hands = c.loop-place.hands.items in
    let place = c.loop-place.place in
    let old = c.index_mut.result.now in
    let new = c.check.new.self in
    let e = c.check.ensures in
    let value = c.index_mut.ensures.value in
    let i = c.loop-place.invariant in
    let long = same_length standing_of hands c.args.hands.now.items i.standings in
    let place_in : place < length hands = omega arith in
    record {
      standings = map_in_place standing_of hands place new old (e.standing ∙ ap standing_of value) ∙ i.standings;
      views = map_in_place own_view hands place new old (e.own ∙ ap own_view value) ∙ i.views;
      taken = map_in_place taken_of hands place new old (ap (λ (v : View). v.taken ++ flat_map taken_by new.others.items) e.own ∙ ap (λ o. (own_view old).taken ++ flat_map taken_by o.items) e.others ∙ ap taken_of value) ∙ i.taken;
      drawn = map_in_place drawn_of hands place new old (e.drawn ∙ ap drawn_of value) ∙ i.drawn;
      done = λ j d is. i.done j d (looked_done hands place old new place_in value e.done j d is);
      empty = looked_empty hands place old new place_in value e.empty e.own i.empty;
      some = looked_some hands place old new place_in value c.args.hands.now.items e.some e.own i.some;
    }

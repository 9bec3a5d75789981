use Rattle.std.proofs.Common.{refl, arith}
use Rattle.steal_crew.proofs.ReturnLaws.{returned_in, returned_deque, returned_whole, returned_kept, returned_others, returned_fewer, no_more_whole, no_more_kept, no_more_others, no_more_given}
use Rattle.steal_crew.proofs.settling.give_back_one.Goals as goal

pub index_mut-requires-in-Some : goal.index_mut-requires-in-Some
index_mut-requires-in-Some c =
    let e = c.release.ensures in
    let l = returned_in c.args.hands.now.items c.args.place c.in-Some.victim.of c.index_mut.result.now c.release.new.self c.in-Some.victim
    (record { place_in = c.requires.place; value = c.index_mut.ensures.value; standing = e.standing; own = e.own; drawn = e.drawn; done = e.done }) c.requires.whole refl c.in-Some.ensures.others in omega arith

pub take_in-requires : goal.take_in-requires
take_in-requires c =
    let e = c.release.ensures in
    returned_deque c.args.hands.now.items c.args.place c.in-Some.victim.of c.index_mut.result.now c.release.new.self c.in-Some.victim
    (record { place_in = c.requires.place; value = c.index_mut.ensures.value; standing = e.standing; own = e.own; drawn = e.drawn; done = e.done }) c.requires.whole refl c.in-Some.ensures.others
    c.index_mut-in-Some.result.now c.index_mut-in-Some.result.now c.index_mut-in-Some.ensures.value

pub returns-in-None-clause-whole : goal.returns-in-None-clause-whole
returns-in-None-clause-whole c =
    let e = c.release.ensures in
    no_more_whole c.args.hands.now.items c.args.place c.index_mut.result.now c.release.new.self
    (record { place_in = c.requires.place; value = c.index_mut.ensures.value; standing = e.standing; own = e.own; drawn = e.drawn; done = e.done }) c.in-None.ensures.none c.in-None.ensures.others c.requires.whole

pub returns-in-None-clause-kept : goal.returns-in-None-clause-kept
returns-in-None-clause-kept c =
    let e = c.release.ensures in
    no_more_kept c.args.hands.now.items c.args.place c.index_mut.result.now c.release.new.self
    (record { place_in = c.requires.place; value = c.index_mut.ensures.value; standing = e.standing; own = e.own; drawn = e.drawn; done = e.done }) c.in-None.ensures.none c.in-None.ensures.others

pub returns-in-None-clause-given : goal.returns-in-None-clause-given
returns-in-None-clause-given c =
    let e = c.release.ensures in
    no_more_given c.args.hands.now.items c.args.place c.index_mut.result.now c.release.new.self
    (record { place_in = c.requires.place; value = c.index_mut.ensures.value; standing = e.standing; own = e.own; drawn = e.drawn; done = e.done }) c.in-None.ensures.none c.in-None.ensures.others

pub returns-in-None-clause-others : goal.returns-in-None-clause-others
returns-in-None-clause-others c = λ i ne.
    let e = c.release.ensures in
    no_more_others c.args.hands.now.items c.args.place c.index_mut.result.now c.release.new.self
    (record { place_in = c.requires.place; value = c.index_mut.ensures.value; standing = e.standing; own = e.own; drawn = e.drawn; done = e.done }) c.in-None.ensures.none c.in-None.ensures.others i

pub returns-in-Some-clause-whole : goal.returns-in-Some-clause-whole
returns-in-Some-clause-whole c =
    let e = c.release.ensures in let t = c.take_in.ensures in
    returned_whole c.args.hands.now.items c.args.place c.in-Some.victim.of c.index_mut.result.now c.release.new.self c.in-Some.victim
    (record { place_in = c.requires.place; value = c.index_mut.ensures.value; standing = e.standing; own = e.own; drawn = e.drawn; done = e.done }) c.requires.whole refl c.in-Some.ensures.others
    c.index_mut-in-Some.result.now c.take_in.new.self (record { value = c.index_mut-in-Some.ensures.value; standing = t.standing; taken = t.taken; others = t.others; drawn = t.drawn; done = t.done })

pub returns-in-Some-clause-kept : goal.returns-in-Some-clause-kept
returns-in-Some-clause-kept c =
    let e = c.release.ensures in let t = c.take_in.ensures in
    returned_kept c.args.hands.now.items c.args.place c.in-Some.victim.of c.index_mut.result.now c.release.new.self c.in-Some.victim
    (record { place_in = c.requires.place; value = c.index_mut.ensures.value; standing = e.standing; own = e.own; drawn = e.drawn; done = e.done }) c.requires.whole refl c.in-Some.ensures.others
    c.index_mut-in-Some.result.now c.take_in.new.self (record { value = c.index_mut-in-Some.ensures.value; standing = t.standing; taken = t.taken; others = t.others; drawn = t.drawn; done = t.done })

pub returns-in-Some-clause-fewer : goal.returns-in-Some-clause-fewer
returns-in-Some-clause-fewer c =
    let e = c.release.ensures in let t = c.take_in.ensures in
    returned_fewer c.args.hands.now.items c.args.place c.in-Some.victim.of c.index_mut.result.now c.release.new.self c.in-Some.victim
    (record { place_in = c.requires.place; value = c.index_mut.ensures.value; standing = e.standing; own = e.own; drawn = e.drawn; done = e.done }) c.requires.whole refl c.in-Some.ensures.others
    c.index_mut-in-Some.result.now c.take_in.new.self (record { value = c.index_mut-in-Some.ensures.value; standing = t.standing; taken = t.taken; others = t.others; drawn = t.drawn; done = t.done })

pub returns-in-Some-clause-others : goal.returns-in-Some-clause-others
returns-in-Some-clause-others c =
    let e = c.release.ensures in let t = c.take_in.ensures in
    returned_others c.args.hands.now.items c.args.place c.in-Some.victim.of c.index_mut.result.now c.release.new.self c.in-Some.victim
    (record { place_in = c.requires.place; value = c.index_mut.ensures.value; standing = e.standing; own = e.own; drawn = e.drawn; done = e.done }) c.requires.whole refl c.in-Some.ensures.others
    c.index_mut-in-Some.result.now c.take_in.new.self (record { value = c.index_mut-in-Some.ensures.value; standing = t.standing; taken = t.taken; others = t.others; drawn = t.drawn; done = t.done })

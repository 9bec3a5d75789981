use Rattle.std.proofs.Common.{◌+◌, ◌<◌, List, [], ◌∷◌, length, arith}
use Rattle.steal_crew.specs.Hands.{standing_of}
use Rattle.steal_crew.specs.declared.hand.Hand.{Hand}
use Rattle.steal_crew.proofs.EachLaws.{lend_parts, lend_part, lending, lent_all}
use Rattle.steal_crew.proofs.dealing.lend_each.Goals as goal

first : (hands : List Hand) → 0 < length hands → Hand
first [] lt = absurd (omega arith)
first (h ∷ hands) lt = h

pub lend-requires-clause-parts : goal.lend-requires-clause-parts
lend-requires-clause-parts c =
    let all = length c.args.hands.now.items in
    let after = c.place_after.ensures in
    let few : c.loop-passed.passed + 1 < all = omega arith in
    lend_parts c.args.hands.now.items c.loop-passed.hands.items c.args.robber c.loop-passed.passed c.place_after.result c.loop-passed.invariant c.requires.robber few
    (λ h. after.ahead (omega arith)) (λ h. let e = after.around (omega arith) in omega arith) c.requires.few

pub lend-requires-clause-part : goal.lend-requires-clause-part
lend-requires-clause-part c =
    let all = length c.args.hands.now.items in
    let after = c.place_after.ensures in
    let few : c.loop-passed.passed + 1 < all = omega arith in
    lend_part c.args.hands.now.items c.loop-passed.hands.items c.args.robber c.loop-passed.passed c.place_after.result c.loop-passed.invariant c.requires.robber few
    (λ h. after.ahead (omega arith)) (λ h. let e = after.around (omega arith) in omega arith)

pub loop-passed-preserved : goal.loop-passed-preserved
loop-passed-preserved c =
    let all = length c.args.hands.now.items in
    let after = c.place_after.ensures in
    let few : c.loop-passed.passed + 1 < all = omega arith in
    lending c.args.hands.now.items c.loop-passed.hands.items c.args.robber c.loop-passed.passed c.place_after.result c.loop-passed.invariant c.requires.robber few
    (λ h. after.ahead (omega arith)) (λ h. let e = after.around (omega arith) in omega arith) c.requires.few c.lend.new.hands.items (first c.args.hands.now.items (omega arith)) c.in_ok-lend.ensures.undrawn (c.in_ok-lend.ensures.standings (standing_of (first c.args.hands.now.items (omega arith))))

pub returns-clause-rights : goal.returns-clause-rights
returns-clause-rights c =
    let all = length c.args.hands.now.items in
    lent_all c.args.hands.now.items c.args.robber c.loop-passed.passed c.loop-passed.hands.items c.loop-passed.invariant c.requires.robber (omega arith)

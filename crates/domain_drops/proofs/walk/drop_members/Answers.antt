-- The least number that is left is dropped where it passes, and the others are left.
use Rattle.std.proofs.Common.{ℤ, pos, ◌+ℤ◌, subst, sym, w64, to_z, of_z}
use Rattle.domain_drops.specs.Hearing.{MayHearDrops, HearsDrops, drop_when}
use Rattle.domain_drops.proofs.HearingLaws.{leads_may, leads_next, leads_end}
use Rattle.domain_drops.proofs.WalkLaws.{bounds_below, coded_base, coded_member, member_fits, dropped_of, dropped_step, dropped_none}
use Rattle.domain_drops.proofs.walk.drop_members.Goals as goal

pub overflow_add-base : goal.overflow_add-base
overflow_add-base g c = member_fits c.args.base c.part_least-member.result.0 c.requires.range.0 c.part_least-member.ensures.least.small

pub drop_one-requires-clause-hearer : goal.drop_one-requires-clause-hearer
drop_one-requires-clause-hearer g c =
    let i = c.part_least-member.result.0 in
    let others = c.part_least-member.result.1 in
    let test = g.T.NumberTest.test c.args.test.now in
    let base = to_z w64 (of_z w64 c.args.base) in
    let value = coded_member c.args.base i c.requires.range.0 c.part_least-member.ensures.least.small in
    let P : ℤ → Type 0 = λ z. MayHearDrops g.H.HearDrop.can_hear g.H.HearDrop.hears c.loop-rest.h (drop_when (test z) (c.args.var, z)) in
    subst P (sym value) (leads_may g.H.HearDrop.can_hear g.H.HearDrop.hears (dropped_of c.args.var test base c.args.set) (dropped_of c.args.var test base c.loop-rest.rest)
    (drop_when (test (base +ℤ pos i)) (c.args.var, base +ℤ pos i)) (dropped_of c.args.var test base others) c.args.h.now c.loop-rest.h
    (dropped_step c.args.var test base c.loop-rest.rest others i c.part_least-member.ensures.members) c.loop-rest.invariant.leads)

pub loop-rest-preserved : goal.loop-rest-preserved
loop-rest-preserved g c =
    let i = c.part_least-member.result.0 in
    let others = c.part_least-member.result.1 in
    let test = g.T.NumberTest.test c.args.test.now in
    let base = to_z w64 (of_z w64 c.args.base) in
    let value = coded_member c.args.base i c.requires.range.0 c.part_least-member.ensures.least.small in
    let P : ℤ → Type 0 = λ z. HearsDrops g.H.HearDrop.hears c.loop-rest.h (drop_when (test z) (c.args.var, z)) c.drop_one.new.h in
    record {
      bounds = bounds_below base others c.loop-rest.rest c.part_least-member.ensures.others c.loop-rest.invariant.bounds;
      leads = leads_next g.H.HearDrop.can_hear g.H.HearDrop.hears (dropped_of c.args.var test base c.args.set) (dropped_of c.args.var test base c.loop-rest.rest)
          (drop_when (test (base +ℤ pos i)) (c.args.var, base +ℤ pos i)) (dropped_of c.args.var test base others) c.args.h.now c.loop-rest.h c.drop_one.new.h
          (dropped_step c.args.var test base c.loop-rest.rest others i c.part_least-member.ensures.members) c.loop-rest.invariant.leads (subst P value c.drop_one.ensures);
    }

pub returns : goal.returns
returns g c =
    let test = g.T.NumberTest.test c.args.test.now in
    let base = to_z w64 (of_z w64 c.args.base) in
    let P : ℤ → Type 0 = λ z. HearsDrops g.H.HearDrop.hears c.args.h.now (dropped_of c.args.var test z c.args.set) c.loop-rest.h in
    subst P (coded_base c.args.base c.requires.range.0)
    (leads_end g.H.HearDrop.can_hear g.H.HearDrop.hears (dropped_of c.args.var test base c.args.set) (dropped_of c.args.var test base c.loop-rest.rest) c.args.h.now c.loop-rest.h
    (dropped_none c.args.var test base c.loop-rest.rest c.loop-rest-test.false) c.loop-rest.invariant.leads)

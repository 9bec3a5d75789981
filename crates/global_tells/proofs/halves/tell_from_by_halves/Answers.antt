-- Each step makes the hearer hear the tells of one more place.
use Rattle.std.proofs.Common.{◌≡◌, ◌++◌, List, [], ℕ, get_or, subst}
use Rattle.std.specs.Bool.{OnTrue}
use Rattle.std.proofs.lemmas.Bool.{OnTrue_from, OnTrue_at}
use Rattle.interval.specs.Boxes.{low_of, high_of}
use Rattle.global_tells.specs.AllDifferent.{range_tells}
use Rattle.global_tells.proofs.HearingLaws.{leads_may, leads_next}
use Rattle.global_tells.proofs.halves.tell_from_by_halves.Goals as goal

pub tell_unless-requires-clause-hearer : goal.tell_unless-requires-clause-hearer
tell_unless-requires-clause-hearer g c = leads_may _ _ _ _ _ _ c.loop-j.j 0 c.loop-j-test.true c.loop-j.invariant

pub loop-j-preserved : goal.loop-j-preserved
loop-j-preserved g c = leads_next _ _ _ _ _ _ _ c.loop-j.j 0 c.loop-j-test.true c.loop-j.invariant c.tell_unless.ensures

pub tell_unless-requires-clause-untold : goal.tell_unless-requires-clause-untold
tell_unless-requires-clause-untold g c = OnTrue_from c.is_untold_by_halves-untold.result (range_tells c.args.xs.now c.args.b.now (low_of c.args.b.now c.args.first) (high_of c.args.b.now (get_or c.args.xs.now c.loop-j.j 0)) ≡ []) (λ t.
    let P : List ℕ → Type 0 = λ xs. range_tells xs c.args.b.now (low_of c.args.b.now c.args.first) (high_of c.args.b.now (get_or c.args.xs.now c.loop-j.j 0)) ≡ [] in
    subst P c.requires.whole
    (OnTrue_at t c.is_untold_by_halves-untold.ensures c.args.front.now.xs.now c.args.back.now.xs.now
    c.places_from-front_from.ensures (c.requires.front_upto.each c.loop-j.j c.loop-j-test.true)
    c.places_from-back_from.ensures (c.requires.back_upto.each c.loop-j.j c.loop-j-test.true)))

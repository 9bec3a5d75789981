use Rattle.std.proofs.Common.{◌≡◌, ◌∙◌, arith, to_z, of_z, w64}
use Rattle.std.specs.Prelude.{◌≤ℤ◌}
use Rattle.std.proofs.lemmas.Int.{ints}
use Rattle.interval.specs.Boxes.{high_of}
use Rattle.free_search.proofs.KeyLaws.{is_cut}
use Rattle.free_search.proofs.least.cut_to.Goals as goal

pub returns : goal.returns
returns c =
    let low : to_z w64 (of_z w64 c.low.result) ≡ c.low.result = omega (arith, ints) in
    let high : to_z w64 (of_z w64 c.args.bound) ≡ c.args.bound = omega (arith, ints) in
    let falls : c.args.bound ≤ℤ high_of c.args.space.now c.args.pair = omega (arith, ints) in
    is_cut c.law_tightens_one.ensures c.args.space.now c.in_ok-sub.sub c.put.new.self c.args.pair c.args.bound (to_z w64 (of_z w64 c.low.result)) (to_z w64 (of_z w64 c.args.bound))
    c.in_ok-sub.ensures c.put.ensures (low ∙ c.low.ensures.value) high c.requires.pair falls

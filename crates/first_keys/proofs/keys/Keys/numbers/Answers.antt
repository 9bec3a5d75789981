use Rattle.std.proofs.Common.{◌≡◌, ℤ, List, length, suc, ap, ◌∙◌, arith, to_z, of_z, w64}
use Rattle.std.proofs.lemmas.Int.{ints}
use Rattle.interval.specs.Boxes.{low_of, high_of}
use Rattle.solution_lists.specs.Order.{value_at}
use Rattle.first_keys.proofs.BoxLaws.{solution_length, from_low, to_high}
use Rattle.first_keys.proofs.keys.Keys.numbers.Goals as goal

pub number_at-requires : goal.number_at-requires
number_at-requires g c =
    let same = solution_length c.args.run.now.model.now c.args.self.now.rest c.args.self.now.solution c.requires.keys.least.solves in
    let items = ap length c.as_slice.ensures in
    let lt = c.requires.var in
    omega (arith, same, items, lt)

pub returns : goal.returns
returns g c =
    let self = c.args.self.now in
    let model = c.args.run.now.model.now in
    let pair : c.args.pair ≡ suc c.args.var = c.requires.pair in
    let low : to_z w64 (of_z w64 c.low.result) ≡ low_of self.rest (suc c.args.var) =
    let z : to_z w64 (of_z w64 c.low.result) ≡ c.low.result = omega (arith, ints) in z ∙ c.low.ensures.value ∙ ap (low_of self.rest) pair in
    let high : to_z w64 (of_z w64 c.high.result) ≡ high_of self.rest (suc c.args.var) =
    let z : to_z w64 (of_z w64 c.high.result) ≡ c.high.result = omega (arith, ints) in z ∙ c.high.ensures.value ∙ ap (high_of self.rest) pair in
    let value : to_z w64 (of_z w64 c.number_at.result) ≡ value_at self.solution c.args.var =
    let z : to_z w64 (of_z w64 c.number_at.result) ≡ c.number_at.result = omega (arith, ints) in
    z ∙ c.number_at.ensures ∙ ap (λ (a : List ℤ). value_at a c.args.var) c.as_slice.ensures in
    let from = from_low model self.rest self.solution c.requires.keys.least.solves c.args.var c.requires.var in
    let to = to_high model self.rest self.solution c.requires.keys.least.solves c.args.var c.requires.var in
    record {
      low = low;
      high = high;
      value = value;
      from = omega (arith, ints, low, value, from);
      to = omega (arith, ints, high, value, to);
      low_bound = omega (arith, ints, c.low.ensures.in_range);
      high_bound = omega (arith, ints, c.high.ensures.in_range);
    }

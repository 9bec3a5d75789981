use Rattle.std.proofs.Common.{◌≡◌, ℤ, suc, refl, ap, ◌∙◌, arith}
use Rattle.std.proofs.lemmas.Int.{ints}
use Rattle.interval.specs.Limits.{bound_limit, largest_number}
use Rattle.interval.specs.Boxes.{low_of, high_of, put_of}
use Rattle.first_keys.specs.Halves.{best_of}
use Rattle.first_keys.proofs.BoxLaws.{put_is}
use Rattle.first_keys.proofs.StepLaws.{settled}
use Rattle.first_keys.proofs.keys.Keys.settle.Goals as goal

pub returns-clause-keys : goal.returns-clause-keys
unfolding bound_limit largest_number
returns-clause-keys g c =
    let self = c.args.self.now in
    let key = c.args.key in
    let z = c.args.numbers.value in
    let low = low_of self.rest (suc key.var) in
    let high = high_of self.rest (suc key.var) in
    let next_is : c.put.new.self ≡ put_of self.rest (suc key.var) z z =
    put_is self.rest self.rest c.put.new.self key.var c.args.pair z z _ _ refl c.put.ensures c.requires.pair (omega (arith, ints)) (omega (arith, ints)) in
    let is_best : z ≡ best_of key.is_upper_first low high =
    c.requires.best ∙ ap (λ (x : ℤ). best_of key.is_upper_first x c.args.numbers.high) c.requires.numbers.low
    ∙ ap (λ (y : ℤ). best_of key.is_upper_first low y) c.requires.numbers.high in
    record {
      is_static = c.requires.keys.is_static;
      list = c.requires.keys.list;
      inside = c.requires.keys.inside;
      least = settled c.law_inside_order.ensures c.law_tightens_one.ensures c.args.run.now.model.now self.list self.sub self.rest c.put.new.self
          self.solution self.place key z c.requires.keys.list c.requires.key c.requires.var c.requires.keys.least next_is c.requires.numbers.value is_best;
    }

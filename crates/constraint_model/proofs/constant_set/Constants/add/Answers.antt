use Rattle.std.proofs.Common.{◌≤◌, length, ap, sym, ◌∙◌, w64, arith}
use Rattle.std.proofs.lemmas.Int.{to_z-of_z}
use Rattle.constraint_model.proofs.FoundLaws.{finds_stale, finds_more, lacks_it, kept_once, put_last}
use Rattle.constraint_model.proofs.CountedLaws.{number_more, view_numbers}
use Rattle.constraint_model.proofs.constant_set.Constants.add.Goals as goal

pub returns-then-place_of-count-clause-added : goal.returns-then-place_of-count-clause-added
returns-then-place_of-count-clause-added c =
    kept_once c.args.self.now.numbers _ c.args.number c.place_of.result c.len-count.result (to_z-of_z w64 c.args.number c.ranges.number) c.place_of.ensures.place c.len-count.ensures c.if-place_of-count.true

pub invariant_of-self-in_err-push : goal.invariant_of-self-in_err-push
invariant_of-self-in_err-push c =
    let items = c.self.inside.numbers.items in
    let past : c.len-count.result ≤ c.place_of.result = omega (arith, c.if-place_of-count.false) in
    rw c.in_err-push.ensures.items (record {
      found = finds_stale c.self.inside.places c.put.new.self items _ _ c.self.invariant.found
          (lacks_it items c.args.self.now.numbers _ c.place_of.result c.len-count.result (view_numbers c.self.view_is) c.place_of.ensures.place c.len-count.ensures past)
          c.in_ok-put.ensures.put;
      counted = c.self.invariant.counted;
    })

pub invariant_of-self-2 : goal.invariant_of-self-2
invariant_of-self-2 c =
    let items = c.self.inside.numbers.items in
    let past : c.len-count.result ≤ c.place_of.result = omega (arith, c.if-place_of-count.false) in
    rw c.in_ok-push.ensures.items (record {
      found = finds_more c.self.inside.places c.put.new.self items _ c.len-count.result
          (c.len-count.ensures ∙ ap length (sym (view_numbers c.self.view_is))) c.self.invariant.found
          (lacks_it items c.args.self.now.numbers _ c.place_of.result c.len-count.result (view_numbers c.self.view_is) c.place_of.ensures.place c.len-count.ensures past)
          c.in_ok-put.ensures.put;
      counted = number_more items _ c.self.inside.arrays c.self.inside.counted c.self.invariant.counted;
    })

pub returns-clause-added : goal.returns-clause-added
returns-clause-added c =
    let past : c.len-count.result ≤ c.place_of.result = omega (arith, c.if-place_of-count.false) in
    c.in_ok-push.ensures.items
    ∙ put_last c.self.inside.numbers.items c.args.self.now.numbers _ c.args.number c.place_of.result c.len-count.result (to_z-of_z w64 c.args.number c.ranges.number) (view_numbers c.self.view_is) c.place_of.ensures.place c.len-count.ensures past

-- Each step writes the places up to the high of one more.
use Rattle.std.proofs.Common.{◌≡◌, ◌<◌, length, get_or, arith}
use Rattle.std.proofs.Math.ListN.{length-set}
use Rattle.interval.specs.Boxes.{high_of}
use Rattle.global_tells.specs.declared.places.Places.{Places}
use Rattle.global_tells.specs.Places.{places_to, no_places}
use Rattle.global_tells.proofs.Lists.{set_below}
use Rattle.global_tells.proofs.halves.places_up_to.Goals as goal

pub loop-j-preserved : goal.loop-j-preserved
loop-j-preserved c =
    let b = c.args.b.now in
    let xs = c.args.xs.now in
    let lasts = c.args.lasts.now in
    let short = c.requires.short in
    let test = c.loop-j-test.true in
    let size = c.loop-j.invariant.0 in
    let inside : c.loop-j.j < length c.loop-j.upto = omega arith in (
      omega (arith, length-set {A = Places}),
      set_below no_places (λ k p. p ≡ places_to b (high_of b (get_or lasts k 0)) xs) c.loop-j.upto c.loop-j.j c.places_to.result inside c.loop-j.invariant.1 c.places_to.ensures,
    )

pub returns : goal.returns
returns c =
    let short = c.requires.short in
    let test = c.loop-j-test.false in
    let size = c.loop-j.invariant.0 in
    record { a_place_each = omega arith; each = λ j h. c.loop-j.invariant.1 j (omega arith) }

use Rattle.std.proofs.Common.{true≢false, refl, sym, ◌∙◌, le_refl, arith}
use Rattle.lattice_store.specs.Seats.{seen_of}
use Rattle.lattice_store.proofs.BoxLaws.{box-low, box-high}
use Rattle.lattice_store.proofs.Pairs.{closed_floor}
use Rattle.lattice_store.proofs.seat.Seat.law_floor.Goals as goal

pub returns-clause-floor : goal.returns-clause-floor
returns-clause-floor c =
    let s = c.args.self.now in
    let p = c.args.self.now.stands.pairs in
    closed_floor c.args.self.now.seen.items c.args.self.now (seen_of c.args.self.now) record { length_is = refl; each = λ k one lt. (c.args.self.now.stands.own k one lt, le_refl _) } refl
    (λ u h. (box-low c.args.self.now.seen.items u (omega arith), box-high c.args.self.now.seen.items u (omega arith)))

pub returns-clause-first : goal.returns-clause-first
returns-clause-first c = λ f p. true≢false (sym p ∙ c.args.self.now.stands.first_is_not_past f)

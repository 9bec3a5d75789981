use Rattle.std.proofs.Common.{◌≡◌, ◌<◌, ◌≤ℤ◌, ◌<ℤ◌, ℤ, length, pos, get_or, ap, subst, ◌∙◌, arith}
use Rattle.std.specs.Bool.{OnTrue, OnFalse}
use Rattle.std.proofs.lemmas.Bool.{OnFalse_from}
use Rattle.std.proofs.lemmas.Int.{ints}
use Rattle.interval.specs.Boxes.{low_of, high_of}
use Rattle.bit_domain.specs.Mixes.{Mix, dom_of, hull, Has, IsDomInRange}
use Rattle.mix_store.specs.Seats.{seen_of}
use Rattle.mix_rounds.proofs.MixLaws.{hull_put, put_is, low_at, high_at}
use Rattle.mix_rounds.proofs.asking.look.Goals as goal
use Rattle.mix_rounds.proofs.asking.look.Goals.{After-has_number}

within : (c : After-has_number) → c.args.v < length (seen_of c.ask-dom.new.seat)
within c = omega (arith, c.requires.variable, c.ask-dom.ensures.stepped.inside.same_length)

here : (c : After-has_number) → get_or (hull c.put.new.self) c.args.v (pos 0, pos 0) ≡ get_or (hull (seen_of c.ask-dom.new.seat)) c.args.v (pos 0, pos 0)
here c =
    ap (λ (m : Mix). get_or (hull m) c.args.v (pos 0, pos 0)) c.put.ensures
    ∙ hull_put c.args.cache.now.mix (seen_of c.ask-dom.new.seat) c.args.v c.ask-dom.result (omega (arith, c.requires.variable, c.requires.length.mix)) (within c) c.ask-dom.ensures.value

low : (c : After-has_number) → c.low-low.result ≡ low_of (hull (seen_of c.ask-dom.new.seat)) c.args.v
low c = c.low-low.ensures.value ∙ ap (λ (p : ℤ × ℤ). p.0) (here c)

high : (c : After-has_number) → c.high-high.result ≡ high_of (hull (seen_of c.ask-dom.new.seat)) c.args.v
high c = c.high-high.ensures.value ∙ ap (λ (p : ℤ × ℤ). p.1) (here c)

pub returns-clause-bounds : goal.returns-clause-bounds
returns-clause-bounds c = c.put-2.ensures ∙ put_is c.args.cache.now.bounds c.args.v _ _ _ _ (omega (arith, ints, low c)) (omega (arith, ints, high c))

pub returns-clause-proper : goal.returns-clause-proper
returns-clause-proper c = subst (λ (p : ℤ × ℤ). OnTrue c.has_number.result (p.0 ≤ℤ p.1)) (here c) c.has_number.ensures.proper

pub returns-clause-crossed : goal.returns-clause-crossed
returns-clause-crossed c = OnFalse_from c.has_number.result ((z : ℤ) → Has (dom_of (seen_of c.ask-dom.new.seat) c.args.v) z → ⊥) (λ f z has.
    let crossed : high_of (hull (seen_of c.ask-dom.new.seat)) c.args.v <ℤ low_of (hull (seen_of c.ask-dom.new.seat)) c.args.v =
    subst (λ (p : ℤ × ℤ). p.1 <ℤ p.0) (here c) (subst (λ r. OnFalse r (high_of (hull c.put.new.self) c.args.v <ℤ low_of (hull c.put.new.self) c.args.v)) f c.has_number.ensures.crossed) in
    let w = c.law_hull.ensures.within (dom_of (seen_of c.ask-dom.new.seat) c.args.v) z (subst IsDomInRange c.ask-dom.ensures.value c.ask-dom.ensures.in_range) has in
    omega (arith, ints, crossed, w.0, w.1, low_at (seen_of c.ask-dom.new.seat) c.args.v (within c), high_at (seen_of c.ask-dom.new.seat) c.args.v (within c)))

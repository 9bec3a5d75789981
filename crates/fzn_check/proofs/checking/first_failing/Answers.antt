use Rattle.std.proofs.Common.{◌<◌, ◌≡◌, ◌≤◌, ◌+◌, ◌^◌, ◌∙◌, ◌-◌, ℕ, List, Option, IfSome, subst, sym, ap, length, arith}
use Rattle.std.specs.List.{range_with_len, AllZip}
use Rattle.rayon.specs.Lists.{first_true}
use Rattle.rayon.proofs.ToStd.{nat_range-All}
use Rattle.fzn_check.specs.Wrong.{CanTest, HoldsAt, IsAnswer, IsFirstFailing}
use Rattle.fzn_check.proofs.FirstLaws.{first_from, from_start, short_place}
use Rattle.fzn_check.proofs.checking.first_failing.Goals as goal

pub position_first-requires-clause-items : goal.position_first-requires-clause-items
position_first-requires-clause-items g c κs within =
    let ends = c.into_par_iter.ensures in
    let model = c.args.model.now in
    let count = length model.constraints in
    let short : count < 2 ^ 64 = omega (arith, c.len.ensures) in
    rw (c.with_min_len.ensures.base, ends.0, ends.1, c.len.ensures)
    (nat_range-All (CanTest model c.args.solution.now) 0 count (λ i low high. record { formed = c.requires.model; numbers = c.requires.numbers; declared = high; has_number = omega arith }))

pub returns-clause-first : goal.returns-clause-first
returns-clause-first g c =
    let ends = c.into_par_iter.ensures in
    let model = c.args.model.now in
    let count = length model.constraints in
    let holds = HoldsAt model c.args.solution.now in
    let short : count < 2 ^ 64 = omega (arith, c.len.ensures) in
    let chain = rw (c.with_min_len.ensures.base, ends.0, ends.1, c.len.ensures) at c.position_first.ensures in
    let whole : count - 0 ≡ count = omega arith in
    let places : chain.0 ≡ range_with_len 0 count = chain.2 ∙ ap (range_with_len 0) whole in
    let answers = subst (λ (xs : List ℕ). AllZip (IsAnswer holds) xs chain.1) places chain.3 in
    let found = first_from holds (IsAnswer holds) (λ i p. p) (λ i p. p) 0 count chain.1 short answers in
    subst (IsFirstFailing holds count) (sym chain.4) (from_start holds count (first_true chain.1) found)

pub returns-clause-has_number : goal.returns-clause-has_number
returns-clause-has_number g c =
    let ends = c.into_par_iter.ensures in
    let model = c.args.model.now in
    let count = length model.constraints in
    let holds = HoldsAt model c.args.solution.now in
    let short : count < 2 ^ 64 = omega (arith, c.len.ensures) in
    let chain = rw (c.with_min_len.ensures.base, ends.0, ends.1, c.len.ensures) at c.position_first.ensures in
    let whole : count - 0 ≡ count = omega arith in
    let places : chain.0 ≡ range_with_len 0 count = chain.2 ∙ ap (range_with_len 0) whole in
    let answers = subst (λ (xs : List ℕ). AllZip (IsAnswer holds) xs chain.1) places chain.3 in
    let found = first_from holds (IsAnswer holds) (λ i p. p) (λ i p. p) 0 count chain.1 short answers in
    subst (λ (o : Option ℕ). IfSome o (λ place. place + 1 < 2 ^ 64)) (sym chain.4) (short_place holds count (first_true chain.1) short found)

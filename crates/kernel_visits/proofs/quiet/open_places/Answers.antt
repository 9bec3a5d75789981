-- Behind the last place there is none, and two are found wherever they are looked for.
use Rattle.std.proofs.Common.{◌≤◌, length, sym, ◌∙◌}
use Rattle.kernel_visits.specs.Open.{IsOpenAt}
use Rattle.kernel_visits.proofs.FoundLaws.{none_behind, found_two}
use Rattle.kernel_visits.proofs.quiet.open_places.Goals as goal

pub open_between-found-requires-clause-before : goal.open_between-found-requires-clause-before
open_between-found-requires-clause-before c = none_behind (IsOpenAt c.args.b.now c.args.coeffs.now c.args.vars.now) (λ n. ⊥) (length c.args.coeffs.now) (λ n o. o.0) (λ n e. absurd e)

pub returns-then-is_two : goal.returns-then-is_two
returns-then-is_two c = found_two (IsOpenAt c.args.b.now c.args.coeffs.now c.args.vars.now) (λ n. ⊥) (λ n. c.start-start.result ≤ n) (λ n. 0 ≤ n) c.open_between-found.result (sym c.is_two.ensures ∙ c.if-is_two.true) c.open_between-found.ensures

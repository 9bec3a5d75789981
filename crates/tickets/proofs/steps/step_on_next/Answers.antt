use Rattle.std.proofs.Common.{ℕ, max, subst, arith}
use mathlib.Core.Option as maybe
use Rattle.atomic_table.specs.Table.{Allows, step}
use Rattle.tickets.specs.Rule.{Keeps, drew}
use Rattle.tickets.proofs.Moves.{draws}
use Rattle.tickets.proofs.steps.step_on_next.Goals as goal

pub fetch_max-requires : goal.fetch_max-requires
fetch_max-requires c =
    let me = c.args.place.now.me in
    let slots = c.args.table.now.shared.table_id.slots in
    let is_next = c.requires.next in
    let below = c.requires.below in (
      c.requires.table,
      (let w = c.requires.words in omega arith),
      subst (λ (i : ℕ). Allows Keeps slots c.args.place.now.id me i (λ n. max n 1) (drew (step slots i 1 0 maybe.none) me)) (omega arith)
          (draws slots c.args.place.now.id me c.requires.ready (omega arith)),
    )

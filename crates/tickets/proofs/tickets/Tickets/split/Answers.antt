use Rattle.std.proofs.Common.{suc, ◌≡◌, ◌≤◌, ◌∙◌, ap, subst, sym, arith}
use Rattle.tickets.specs.Rule.{one_less, TallyOf}
use Rattle.tickets.specs.declared.table.View.{View}
use Rattle.tickets.proofs.tickets.Tickets.split.Goals as goal

pub invariant_of-seat : goal.invariant_of-seat
invariant_of-seat c =
    let old = c.args.seat.now in
    let view : c.part-place.new.place.me.0 ≡ one_less old.place.me.0 = ap (λ m. m.0) c.part-place.ensures.left in
    let more = c.requires.parts in
    record {
      ready = record { live = subst (λ (v : View). 1 ≤ v.parts) (sym view) (omega arith); empty = ap (λ m. m.1) c.part-place.ensures.left };
      next_is = old.next_is ∙ ap (λ (v : View). v.next) (sym view);
      words = ap (λ t. t.words) c.part-place.ensures.table ∙ old.words ∙ ap (λ (v : View). suc v.count) (sym view);
      tally = subst TallyOf (sym view) (record { parts_bound = let t = old.tally.parts_bound in omega arith; next_bound = old.tally.next_bound; once = old.tally.once; passed = old.tally.passed; all = λ e. absurd (let t = old.tally.parts_bound in omega arith) });
    }

use Rattle.std.proofs.Common.{◌≡◌, ◌+◌, ◌-◌, List, Some, None, sym, ap, ◌∙◌, arith, subst}
use Rattle.fzn_parser.proofs.Lists.{Going, going_fails, going_stops, going_ends, going_goes, going_out, list_closed, list_open}
use Rattle.fzn_parser.proofs.entries.read_list.Goals as goal

pub returns-then-take-clause-read : goal.returns-then-take-clause-read
returns-then-take-clause-read g c =
    list_closed c.args.close g.E.Entry.at c.args.cursor.now c.take.new.self c.take.result c.new-list.result c.take.ensures.taken c.if-take.true c.take.ensures.passed c.new-list.ensures

pub returns-in_err-entry-clause-refused : goal.returns-in_err-entry-clause-refused
returns-in_err-entry-clause-refused g c refused =
    let failed : g.E.Entry.at c.loop-turn.cursor ≡ None = grind arith in
    list_open c.args.close g.E.Entry.at c.args.cursor.now c.take.new.self c.take.result c.len-most.result _ c.take.ensures.taken c.if-take.false c.take.ensures.passed c.len-most.ensures (going_fails c.loop-turn.invariant failed)

pub returns-in_err-continues-clause-refused : goal.returns-in_err-continues-clause-refused
returns-in_err-continues-clause-refused g c refused =
    let entry = c.in_ok-entry.ensures.read in
    list_open c.args.close g.E.Entry.at c.args.cursor.now c.take.new.self c.take.result c.len-most.result _ c.take.ensures.taken c.if-take.false c.take.ensures.passed c.len-most.ensures (going_stops c.in_ok-entry.entry _ c.loop-turn.invariant entry c.in_err-continues.ensures.refused)

pub returns-then-not-branch-clause-read : goal.returns-then-not-branch-clause-read
returns-then-not-branch-clause-read g c =
    let entry = c.in_ok-entry.ensures.read in
    let closed = c.in_ok-continues.ensures.read ∙ ap (λ b. Some (b, c.continues.new.self)) c.if-not-branch.true in
    let pushed = c.in_ok-push.ensures.pushed in
    list_open c.args.close g.E.Entry.at c.args.cursor.now c.take.new.self c.take.result c.len-most.result _ c.take.ensures.taken c.if-take.false c.take.ensures.passed c.len-most.ensures (going_ends c.in_ok-entry.entry _ _ c.loop-turn.invariant (omega arith) entry closed)
    ∙ ap (λ xs. Some (xs, c.continues.new.self)) (sym pushed)

pub loop-turn-preserved : goal.loop-turn-preserved
loop-turn-preserved g c =
    let entry = c.in_ok-entry.ensures.read in
    let comma = c.in_ok-continues.ensures.read ∙ ap (λ b. Some (b, c.continues.new.self)) c.if-not-branch.false in
    let pushed = c.in_ok-push.ensures.pushed in
    let left = c.len-most.result - (c.loop-turn._turn + 1) in
    let on = going_goes left c.in_ok-entry.entry _ _ c.loop-turn.invariant (omega arith) entry comma in
    let Goes = λ (xs : List g.row.E.Denot). Going g.row.E.Denot c.args.close g.E.Entry.at c.len-most.result c.take.new.self xs left c.continues.new.self in
    subst Goes (sym pushed) on

pub returns-clause-refused : goal.returns-clause-refused
returns-clause-refused g c refused =
    list_open c.args.close g.E.Entry.at c.args.cursor.now c.take.new.self c.take.result c.len-most.result _ c.take.ensures.taken c.if-take.false c.take.ensures.passed c.len-most.ensures (going_out c.loop-turn.invariant (omega arith))

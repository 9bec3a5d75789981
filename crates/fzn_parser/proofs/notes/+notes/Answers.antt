use Rattle.std.proofs.Common.{◌≡◌, ◌+◌, ◌-◌, List, [], ◌∷◌, ◌++◌, map, false, Some, None, sym, ap, ◌∙◌, arith, subst, rules}
use Rattle.fzn_parser.specs.declared.cursor.Symbol.{Symbol}
use Rattle.fzn_parser.specs.Notes.{ArgTree, ann_tree, arg_tree, arg_at, args_at}
use Rattle.fzn_parser.proofs.Lists.{Going, going_fails, going_stops, going_ends, going_goes, going_out, list_closed, list_open}
use Rattle.fzn_parser.proofs.Trees.{args_is, map_push, read_note}
use Rattle.fzn_parser.specs.declared.cursor.Class.{Class}
use Rattle.fzn_parser.specs.Terminals.{begins, kept_at}
use Rattle.fzn_parser.proofs.notes.+notes.Goals as goal

pub read_args-returns-then-depth-eq0-clause-refused : goal.read_args-returns-then-depth-eq0-clause-refused
unfolding args_at
read_args-returns-then-depth-eq0-clause-refused t c refused =
    let none : c.args.depth ≡ 0 = omega arith in
    ap (λ d. args_at d c.args.close c.args.cursor.now) none

pub read_args-returns-then-take-clause-read : goal.read_args-returns-then-take-clause-read
read_args-returns-then-take-clause-read t c =
    args_is c.args.depth (omega arith) c.args.close c.args.cursor.now
    ∙ list_closed c.args.close (arg_at (c.args.depth - 1)) c.args.cursor.now c.take.new.self c.take.result (map arg_tree c.new-list.result.items) c.take.ensures.taken c.if-take.true c.take.ensures.passed (ap (map arg_tree) c.new-list.ensures.items)

pub read_args-returns-in_err-entry-clause-refused : goal.read_args-returns-in_err-entry-clause-refused
read_args-returns-in_err-entry-clause-refused t c refused =
    let failed : arg_at (c.args.depth - 1) c.loop-turn.cursor ≡ None = grind arith in
    args_is c.args.depth (omega arith) c.args.close c.args.cursor.now
    ∙ list_open c.args.close (arg_at (c.args.depth - 1)) c.args.cursor.now c.take.new.self c.take.result c.len-most.result _ c.take.ensures.taken c.if-take.false c.take.ensures.passed c.len-most.ensures (going_fails c.loop-turn.invariant failed)

pub read_args-returns-in_err-continues-clause-refused : goal.read_args-returns-in_err-continues-clause-refused
read_args-returns-in_err-continues-clause-refused t c refused =
    let entry = c.in_ok-entry.ensures.read in
    args_is c.args.depth (omega arith) c.args.close c.args.cursor.now
    ∙ list_open c.args.close (arg_at (c.args.depth - 1)) c.args.cursor.now c.take.new.self c.take.result c.len-most.result _ c.take.ensures.taken c.if-take.false c.take.ensures.passed c.len-most.ensures (going_stops (arg_tree c.in_ok-entry.entry) _ c.loop-turn.invariant entry c.in_err-continues.ensures.refused)

pub read_args-returns-then-not-branch-clause-read : goal.read_args-returns-then-not-branch-clause-read
read_args-returns-then-not-branch-clause-read t c =
    let entry = c.in_ok-entry.ensures.read in
    let closed = c.in_ok-continues.ensures.read ∙ ap (λ b. Some (b, c.continues.new.self)) c.if-not-branch.true in
    let pushed : c.push.new.self.items ≡ c.loop-turn.list.items ++ c.in_ok-entry.entry ∷ [] = search rules in
    args_is c.args.depth (omega arith) c.args.close c.args.cursor.now
    ∙ list_open c.args.close (arg_at (c.args.depth - 1)) c.args.cursor.now c.take.new.self c.take.result c.len-most.result _ c.take.ensures.taken c.if-take.false c.take.ensures.passed c.len-most.ensures
    (going_ends (arg_tree c.in_ok-entry.entry) _ _ c.loop-turn.invariant (omega arith) entry closed)
    ∙ ap (λ xs. Some (xs, c.continues.new.self)) (sym (map_push arg_tree c.loop-turn.list.items c.in_ok-entry.entry) ∙ sym (ap (map arg_tree) pushed))

pub read_args-loop-turn-preserved : goal.read_args-loop-turn-preserved
read_args-loop-turn-preserved t c =
    let entry = c.in_ok-entry.ensures.read in
    let comma = c.in_ok-continues.ensures.read ∙ ap (λ b. Some (b, c.continues.new.self)) c.if-not-branch.false in
    let pushed : c.push.new.self.items ≡ c.loop-turn.list.items ++ c.in_ok-entry.entry ∷ [] = search rules in
    let left = c.len-most.result - (c.loop-turn._turn + 1) in
    let on = going_goes left (arg_tree c.in_ok-entry.entry) _ _ c.loop-turn.invariant (omega arith) entry comma in
    let Goes = λ (xs : List ArgTree). Going ArgTree c.args.close (arg_at (c.args.depth - 1)) c.len-most.result c.take.new.self xs left c.continues.new.self in
    subst Goes (sym (map_push arg_tree c.loop-turn.list.items c.in_ok-entry.entry) ∙ sym (ap (map arg_tree) pushed)) on

pub read_args-returns-clause-refused : goal.read_args-returns-clause-refused
read_args-returns-clause-refused t c refused =
    args_is c.args.depth (omega arith) c.args.close c.args.cursor.now
    ∙ list_open c.args.close (arg_at (c.args.depth - 1)) c.args.cursor.now c.take.new.self c.take.result c.len-most.result _ c.take.ensures.taken c.if-take.false c.take.ensures.passed c.len-most.ensures (going_out c.loop-turn.invariant (omega arith))

pub read_arg-returns-in-Some-take_kept-clause-read : goal.read_arg-returns-in-Some-take_kept-clause-read
read_arg-returns-in-Some-take_kept-clause-read t c =
    let bracket : begins Symbol.BracketOpen c.args.cursor.now ≡ false = grind arith in
    let text : kept_at Class.Text c.args.cursor.now ≡ None = grind arith in
    let name : kept_at Class.Name c.args.cursor.now ≡ Some (c.in-Some-take_kept.name, c.take_kept-2.new.self) = grind arith in
    read_note c.args.depth _ _ _ c.in-Some-take_kept.name (ann_tree c.in_ok-note.note) bracket text name c.in_ok-note.ensures.read
    ∙ ap (λ a. Some (a, c.read_called.new.cursor)) (sym c.arg_of_note.ensures)

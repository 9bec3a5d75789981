use Rattle.std.proofs.Common.{◌≡◌, ◌+◌, ◌-◌, List, [], ◌∷◌, ◌++◌, map, None, sym, ap, ◌∙◌, arith, subst, rules}
use Rattle.fzn_parser.specs.Notes.{AnnTree, ann_tree, called_at, notes_more}
use Rattle.fzn_parser.proofs.NoteLists.{GoingNotes, notes_close, notes_out, notes_nameless, notes_failed, notes_on}
use Rattle.fzn_parser.proofs.Trees.{map_push}
use Rattle.fzn_parser.proofs.notes.read_notes.Goals as goal

pub returns-then-not-take-clause-read : goal.returns-then-not-take-clause-read
returns-then-not-take-clause-read c =
    let whole = notes_close c.take.result c.take.new.self c.loop-turn.invariant c.take.ensures.taken c.if-not-take.true c.take.ensures.passed in
    ap (λ n. notes_more c.args.depth n c.args.cursor.now) (sym c.len-most.ensures) ∙ whole

pub returns-in_err-name-clause-refused : goal.returns-in_err-name-clause-refused
returns-in_err-name-clause-refused c refused =
    let whole = notes_nameless (c.len-most.result - (c.loop-turn._turn + 1)) c.take.result c.take.new.self c.loop-turn.invariant (omega arith) c.take.ensures.taken c.if-not-take.false c.take.ensures.passed c.in_err-name.ensures.refused in
    ap (λ n. notes_more c.args.depth n c.args.cursor.now) (sym c.len-most.ensures) ∙ whole

pub returns-in_err-note-clause-refused : goal.returns-in_err-note-clause-refused
returns-in_err-note-clause-refused c refused =
    let failed : called_at c.args.depth c.in_ok-name.name c.kept.new.self ≡ None = grind arith in
    let whole = notes_failed (c.len-most.result - (c.loop-turn._turn + 1)) c.take.result c.take.new.self _ c.in_ok-name.name c.loop-turn.invariant (omega arith) c.take.ensures.taken c.if-not-take.false c.take.ensures.passed c.in_ok-name.ensures.read failed in
    ap (λ n. notes_more c.args.depth n c.args.cursor.now) (sym c.len-most.ensures) ∙ whole

pub loop-turn-preserved : goal.loop-turn-preserved
loop-turn-preserved c =
    let left = c.len-most.result - (c.loop-turn._turn + 1) in
    let on = notes_on left c.take.result c.take.new.self _ _ c.in_ok-name.name (ann_tree c.in_ok-note.note) c.loop-turn.invariant (omega arith) c.take.ensures.taken c.if-not-take.false c.take.ensures.passed c.in_ok-name.ensures.read c.in_ok-note.ensures.read in
    let pushed : c.push.new.self.items ≡ c.loop-turn.list.items ++ c.in_ok-note.note ∷ [] = search rules in
    let Goes = λ (xs : List AnnTree). GoingNotes c.args.depth c.len-most.result c.args.cursor.now xs left c.read_called.new.cursor in
    subst Goes (sym (map_push ann_tree c.loop-turn.list.items c.in_ok-note.note) ∙ sym (ap (map ann_tree) pushed)) on

pub returns-clause-read : goal.returns-clause-read
returns-clause-read c =
    ap (λ n. notes_more c.args.depth n c.args.cursor.now) (sym c.len-most.ensures) ∙ notes_out c.loop-turn.invariant (omega arith)

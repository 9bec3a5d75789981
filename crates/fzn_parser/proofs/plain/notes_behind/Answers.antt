use Rattle.std.proofs.Common.{◌≡◌, ◌∙◌, Some, map, sym, ap}
use Rattle.fzn_parser.specs.Notes.{ann_tree, notes_at}
use Rattle.fzn_parser.specs.Parsing.{max_depth}
use Rattle.fzn_parser.proofs.PlainItems.{some_notes}
use Rattle.fzn_parser.proofs.plain.notes_behind.Goals as goal

pub returns-then-is_done : goal.returns-then-is_done
returns-then-is_done c =
    let ls = c.gather.new.lexemes.items in
    let whole : c.new-cursor.result ≡ ls = c.new-cursor.ensures ∙ c.as_slice.ensures.value in
    let read : notes_at max_depth ls ≡ Some (map ann_tree c.in_ok-notes.notes.items, c.read_notes.new.cursor) = ap (notes_at max_depth) (sym whole) ∙ c.in_ok-notes.ensures.read in
    some_notes c.args.text.now c.args.from ls c.read_notes.new.cursor c.expect.new.self c.in-Ok.stretch (map ann_tree c.in_ok-notes.notes.items) c.in-Ok.ensures.stretch read c.in_ok-expect.ensures.passed.0 c.in_ok-expect.ensures.passed.1 (sym c.is_done.ensures ∙ c.if-is_done.true)

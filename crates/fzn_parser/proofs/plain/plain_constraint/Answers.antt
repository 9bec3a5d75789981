use Rattle.std.proofs.Common.{List, map, sym, ap, subst}
use Rattle.fzn_parser.specs.Notes.{AnnTree, ann_tree}
use Rattle.fzn_parser.specs.Parsing.{ItemTree}
use Rattle.fzn_parser.specs.Plain.{AreNotes}
use Rattle.fzn_parser.specs.Stream.{IsItemTo}
use Rattle.fzn_parser.proofs.Gathered.{TurnLaws}
use Rattle.fzn_parser.proofs.PlainItems.{AreThree, no_notes, constraint_item_is}
use Rattle.fzn_parser.proofs.plain.plain_constraint.Goals as goal

pub returns-in-Ok : goal.returns-in-Ok
returns-in-Ok c =
    let text = c.args.text.now in
    let laws : TurnLaws text = record {
      nothing = c.law_tokens_in_turn.ensures.nothing text;
      joined = c.law_tokens_in_turn.ensures.joined text;
      one_rest = c.law_tokens_in_turn.ensures.one_rest text;
    } in
    let three : AreThree text c.args.from c.in_ok-word.word c.in_ok-name.name c.in_ok-bracket.bracket = record {
      keyword = record { next = c.in_ok-word.ensures.next; seen = c.in_ok-word.ensures.seen };
      named = record { next = c.in_ok-name.ensures.next; seen = c.in_ok-name.ensures.seen };
      mark = record { next = c.in_ok-bracket.ensures.next; seen = c.in_ok-bracket.ensures.seen };
    } in
    let at = c.in_ok-args.at in
    let end = c.in-Ok.end in
    let none : AreNotes text at end.to (map ann_tree c.new.result.items) = subst (λ (notes : List AnnTree). AreNotes text at end.to notes) (sym (ap (map ann_tree) c.new.ensures.items))
    (no_notes text laws at end c.in_ok-args.ensures.lexed.inside c.in-Ok.ensures.next c.in-Ok.ensures.seen) in
    subst (λ (item : ItemTree). IsItemTo text c.args.from end.to item) (sym c.constraint-item.ensures)
    (constraint_item_is text laws c.args.from at end.to c.in_ok-word.word c.in_ok-name.name c.in_ok-bracket.bracket c.in_ok-args.args _ c.requires three c.in_ok-args.ensures none)

pub returns : goal.returns
returns c =
    let text = c.args.text.now in
    let laws : TurnLaws text = record {
      nothing = c.law_tokens_in_turn.ensures.nothing text;
      joined = c.law_tokens_in_turn.ensures.joined text;
      one_rest = c.law_tokens_in_turn.ensures.one_rest text;
    } in
    let three : AreThree text c.args.from c.in_ok-word.word c.in_ok-name.name c.in_ok-bracket.bracket = record {
      keyword = record { next = c.in_ok-word.ensures.next; seen = c.in_ok-word.ensures.seen };
      named = record { next = c.in_ok-name.ensures.next; seen = c.in_ok-name.ensures.seen };
      mark = record { next = c.in_ok-bracket.ensures.next; seen = c.in_ok-bracket.ensures.seen };
    } in
    subst (λ (item : ItemTree). IsItemTo text c.args.from c.in_ok-anns.to item) (sym c.constraint.ensures)
    (constraint_item_is text laws c.args.from c.in_ok-args.at c.in_ok-anns.to c.in_ok-word.word c.in_ok-name.name c.in_ok-bracket.bracket c.in_ok-args.args _ c.requires three c.in_ok-args.ensures c.in_ok-anns.ensures)

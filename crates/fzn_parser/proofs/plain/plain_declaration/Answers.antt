use Rattle.std.proofs.Common.{List, map, sym, ap, subst}
use Rattle.fzn_parser.specs.Notes.{AnnTree, ann_tree}
use Rattle.fzn_parser.specs.Parsing.{ItemTree}
use Rattle.fzn_parser.specs.Plain.{AreNotes}
use Rattle.fzn_parser.specs.Stream.{IsItemTo}
use Rattle.fzn_parser.proofs.Gathered.{TurnLaws}
use Rattle.fzn_parser.proofs.PlainItems.{AreSix, no_notes, var_item}
use Rattle.fzn_parser.proofs.plain.plain_declaration.Goals as goal

pub returns-in-Ok : goal.returns-in-Ok
returns-in-Ok c =
    let text = c.args.text.now in
    let laws : TurnLaws text = record {
      nothing = c.law_tokens_in_turn.ensures.nothing text;
      joined = c.law_tokens_in_turn.ensures.joined text;
      one_rest = c.law_tokens_in_turn.ensures.one_rest text;
    } in
    let six : AreSix text c.args.from c.in_ok-var.var c.in_ok-low.low c.in_ok-dots.dots c.in_ok-high.high c.in_ok-colon.colon c.in_ok-name.name = record {
      word = record { next = c.in_ok-var.ensures.next; seen = c.in_ok-var.ensures.seen };
      least = record { next = c.in_ok-low.ensures.next; seen = c.in_ok-low.ensures.seen };
      range = record { next = c.in_ok-dots.ensures.next; seen = c.in_ok-dots.ensures.seen };
      most = record { next = c.in_ok-high.ensures.next; seen = c.in_ok-high.ensures.seen };
      mark = record { next = c.in_ok-colon.ensures.next; seen = c.in_ok-colon.ensures.seen };
      named = record { next = c.in_ok-name.ensures.next; seen = c.in_ok-name.ensures.seen };
    } in
    let end = c.in-Ok.end in
    let none : AreNotes text c.in_ok-name.name.to end.to (map ann_tree c.new.result.items) = subst (λ (notes : List AnnTree). AreNotes text c.in_ok-name.name.to end.to notes) (sym (ap (map ann_tree) c.new.ensures.items))
    (no_notes text laws c.in_ok-name.name.to end c.in_ok-name.ensures.next.1.inside c.in-Ok.ensures.next c.in-Ok.ensures.seen) in
    subst (λ (item : ItemTree). IsItemTo text c.args.from end.to item) (sym c.declaration-item.ensures)
    (var_item text laws c.args.from end.to c.in_ok-var.var c.in_ok-low.low c.in_ok-dots.dots c.in_ok-high.high c.in_ok-colon.colon c.in_ok-name.name _ c.requires six none)

pub returns : goal.returns
returns c =
    let text = c.args.text.now in
    let laws : TurnLaws text = record {
      nothing = c.law_tokens_in_turn.ensures.nothing text;
      joined = c.law_tokens_in_turn.ensures.joined text;
      one_rest = c.law_tokens_in_turn.ensures.one_rest text;
    } in
    let six : AreSix text c.args.from c.in_ok-var.var c.in_ok-low.low c.in_ok-dots.dots c.in_ok-high.high c.in_ok-colon.colon c.in_ok-name.name = record {
      word = record { next = c.in_ok-var.ensures.next; seen = c.in_ok-var.ensures.seen };
      least = record { next = c.in_ok-low.ensures.next; seen = c.in_ok-low.ensures.seen };
      range = record { next = c.in_ok-dots.ensures.next; seen = c.in_ok-dots.ensures.seen };
      most = record { next = c.in_ok-high.ensures.next; seen = c.in_ok-high.ensures.seen };
      mark = record { next = c.in_ok-colon.ensures.next; seen = c.in_ok-colon.ensures.seen };
      named = record { next = c.in_ok-name.ensures.next; seen = c.in_ok-name.ensures.seen };
    } in
    subst (λ (item : ItemTree). IsItemTo text c.args.from c.in_ok-anns.to item) (sym c.declaration.ensures)
    (var_item text laws c.args.from c.in_ok-anns.to c.in_ok-var.var c.in_ok-low.low c.in_ok-dots.dots c.in_ok-high.high c.in_ok-colon.colon c.in_ok-name.name _ c.requires six c.in_ok-anns.ensures)

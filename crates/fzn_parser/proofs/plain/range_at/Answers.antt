use Rattle.std.proofs.Common.{sym, subst}
use Rattle.fzn_parser.specs.declared.tree.SetLit.{SetLit}
use Rattle.fzn_parser.specs.Grammar.{print_set}
use Rattle.fzn_parser.specs.Plain.{AreLexemes}
use Rattle.fzn_parser.proofs.Gathered.{TurnLaws}
use Rattle.fzn_parser.proofs.PlainItems.{integer_seen, range_lexemes}
use Rattle.fzn_parser.proofs.plain.range_at.Goals as goal

pub returns : goal.returns
returns c =
    let text = c.args.text.now in
    let laws : TurnLaws text = record {
      nothing = c.law_tokens_in_turn.ensures.nothing text;
      joined = c.law_tokens_in_turn.ensures.joined text;
      one_rest = c.law_tokens_in_turn.ensures.one_rest text;
    } in
    let dots = c.in_ok-dots.dots in
    let high = c.in_ok-high.high in
    subst (λ (set : SetLit). AreLexemes text c.args.from high.to (print_set set)) (sym c.in_ok-set.ensures)
    (range_lexemes text laws c.args.from c.args.low dots high c.requires.next (integer_seen text c.args.low c.in-Int.is) c.in_ok-dots.ensures.next c.in_ok-dots.ensures.seen c.in_ok-high.ensures.next c.in_ok-high.ensures.seen)

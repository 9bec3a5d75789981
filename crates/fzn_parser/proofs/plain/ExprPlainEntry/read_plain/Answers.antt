use Rattle.fzn_parser.proofs.Gathered.{TurnLaws}
use Rattle.fzn_parser.proofs.PlainItems.{behind_bracket}
use Rattle.fzn_parser.proofs.plain.ExprPlainEntry.read_plain.Goals as goal

pub returns-then-is_mark : goal.returns-then-is_mark
returns-then-is_mark c =
    let text = c.args.text.now in
    let laws : TurnLaws text = record {
      nothing = c.law_tokens_in_turn.ensures.nothing text;
      joined = c.law_tokens_in_turn.ensures.joined text;
      one_rest = c.law_tokens_in_turn.ensures.one_rest text;
    } in
    behind_bracket text laws c.args.from c.in_ok-entries.to c.in_ok-token.token _ c.in_ok-token.ensures (c.is_mark.ensures c.if-is_mark.true) c.in_ok-entries.ensures

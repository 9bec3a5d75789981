use Rattle.std.proofs.Common.{List, ◌++◌, ◌∷◌, [], sym, ap, ◌∙◌, subst}
use Rattle.fzn_parser.specs.declared.cursor.Lexeme.{Lexeme}
use Rattle.fzn_parser.specs.Grammar.{separated}
use Rattle.fzn_parser.specs.Plain.{AreLexemes}
use Rattle.fzn_parser.proofs.Gathered.{TurnLaws}
use Rattle.fzn_parser.proofs.PlainItems.{with_commas, entry_more, entry_last}
use Rattle.fzn_parser.proofs.plain.plain_list.Goals as goal

pub loop-at-preserved : goal.loop-at-preserved
loop-at-preserved g c =
    let text = c.args.text.now in
    let laws : TurnLaws text = record {
      nothing = c.law_tokens_in_turn.ensures.nothing text;
      joined = c.law_tokens_in_turn.ensures.joined text;
      one_rest = c.law_tokens_in_turn.ensures.one_rest text;
    } in
    subst (λ (xs : List g.row.E.Denot). AreLexemes text c.args.from c.in-Ok.comma.to (with_commas g.E.PlainEntry.print xs)) (sym c.in_ok-push.ensures.pushed)
    (entry_more g.E.PlainEntry.print text laws c.args.from c.loop-at.at c.in_ok-entry.to c.loop-at.list c.in_ok-entry.entry c.in-Ok.comma c.loop-at.invariant c.in_ok-entry.ensures c.in-Ok.ensures.next c.in-Ok.ensures.seen)

pub returns-in-Err : goal.returns-in-Err
returns-in-Err g c =
    let text = c.args.text.now in
    let laws : TurnLaws text = record {
      nothing = c.law_tokens_in_turn.ensures.nothing text;
      joined = c.law_tokens_in_turn.ensures.joined text;
      one_rest = c.law_tokens_in_turn.ensures.one_rest text;
    } in
    let end = c.in_ok-end-in-Err.end in
    subst (λ (xs : List g.row.E.Denot). AreLexemes text c.args.from end.to (separated g.E.PlainEntry.print xs ++ Lexeme.Fixed g.E.PlainEntry.close ∷ [])) (sym c.in_ok-push.ensures.pushed)
    (entry_last g.E.PlainEntry.print text laws c.args.from c.loop-at.at c.in_ok-entry.to c.loop-at.list c.in_ok-entry.entry g.E.PlainEntry.close end c.loop-at.invariant c.in_ok-entry.ensures c.in_ok-end-in-Err.ensures.next (c.in_ok-end-in-Err.ensures.seen ∙ ap Lexeme.Fixed c.close-in-Err.ensures.is) c.close-in-Err.ensures.goes_on)

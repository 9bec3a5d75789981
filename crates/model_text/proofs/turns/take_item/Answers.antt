use Rattle.std.proofs.Common.{◌++◌, ◌∷◌, subst}
use Rattle.fzn_parser.specs.Parsing.{item_tree}
use Rattle.fzn_model.specs.Resolving.{IsCause}
use Rattle.model_text.proofs.TurnLaws.{TurnLaws, fault_taken, taken_more}
use Rattle.model_text.proofs.turns.take_item.Goals as goal

pub take-requires : goal.take-requires
take-requires c = let w = c.requires.1.0 in record { items = w.items; taken = w.taken }

pub fault_behind-requires : goal.fault_behind-requires
fault_behind-requires c =
    let laws : TurnLaws = record { nothing = c.law_tokens_in_turn.ensures.nothing; joined = c.law_tokens_in_turn.ensures.joined; whole = c.law_tokens_in_turn.ensures.whole; fault = c.law_tokens_in_turn.ensures.fault } in
    let w = c.requires.1.0 in
    fault_taken laws c.args.text.now c.requires.0 c.args.to c.in-Err-Fault.kind c.in-Err-Fault.at (item_tree c.args.item.now) c.args.resolver.now w c.requires.1.1
    (λ more. subst (IsCause c.args.text.now (w.items ++ item_tree c.args.item.now ∷ more)) c.in-Err-Fault.field-0-is (c.in-Err-Fault.ensures.cause w.items more w.taken))

pub returns-clause-taken : goal.returns-clause-taken
returns-clause-taken c =
    let laws : TurnLaws = record { nothing = c.law_tokens_in_turn.ensures.nothing; joined = c.law_tokens_in_turn.ensures.joined; whole = c.law_tokens_in_turn.ensures.whole; fault = c.law_tokens_in_turn.ensures.fault } in
    let w = c.requires.1.0 in
    taken_more laws c.args.text.now c.requires.0 c.args.to (item_tree c.args.item.now) c.args.resolver.now c.take.new.self w c.requires.1.1 (c.in-Ok.ensures.taken w.items w.taken)

use Rattle.std.proofs.Common.{[], ◌∷◌, length, arith}
use Rattle.std.proofs.lemmas.List.Elements.{All-nil, All-cons}
use Rattle.moved_fixpoint.specs.Heard.{joined}
use Rattle.moved_fixpoint.proofs.Hearing.{IsPlaced, effect}
use Rattle.moved_fixpoint.proofs.RunLemmas.{one_heard, two_heard}
use Rattle.moved_fixpoint.proofs.joiner.join_two.Goals as goal

pub join-requires-clause-variable : goal.join-requires-clause-variable
join-requires-clause-variable c =
    let b = c.args.b.now.current in
    let t = c.args.told.0 in
    let before = joined b c.args.progress in
    let after = joined c.join-first.new.b.current c.join-first.result in
    let placed = All-cons (IsPlaced (length b)) t [] (c.requires.first, c.requires.first_bound) (All-nil (IsPlaced (length b))) in
    let same = (effect c.law_inside_order.ensures c.law_tightens_one.ensures before (t ∷ []) after placed (one_heard before after t c.join-first.ensures.heard)).inside.same_length in
    let second = c.requires.second in
    omega arith

pub returns-clause-heard : goal.returns-clause-heard
returns-clause-heard c =
    two_heard (joined c.args.b.now.current c.args.progress) (joined c.join-first.new.b.current c.join-first.result) (joined c.join.new.b.current c.join.result) c.args.told.0 c.args.told.1
    c.join-first.ensures.heard c.join.ensures.heard

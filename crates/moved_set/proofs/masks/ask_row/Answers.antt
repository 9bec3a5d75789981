use Rattle.std.proofs.Common.{◌≡◌, ◌*◌, ◌≤◌, ◌||◌, ◌&&◌, ℕ, false, List, [], length, get_or, take, sym, subst, arith}
use Rattle.std.specs.Prelude.{All}
use Rattle.std.proofs.lemmas.List.{take_all}
use Rattle.moved_set.specs.Words.{names}
use Rattle.moved_set.specs.Asking.{some_uses, IsAsked}
use Rattle.moved_set.proofs.AskingLaws.{asked_in_own, asked_in_list}
use Rattle.moved_set.proofs.masks.ask_row.Goals as goal

pub loop-list-init : goal.loop-list-init
loop-list-init c =
    asked_in_own c.args.asked.now c.unite_in.new.self c.args.row.now c.args.users.now (λ j. get_or c.args.wanted.now.current j false) c.unite_in.ensures

pub unite_in-requires-in-loop-list-clause-row : goal.unite_in-requires-in-loop-list-clause-row
unite_in-requires-in-loop-list-clause-row c =
    let at : ℕ = get_or c.args.lists.now c.loop-list.list-index 0 in
    let there = c.requires.lists c.loop-list.list-index 0 c.loop-list-test.true in
    let same : length c.loop-list.asked ≡ length c.args.asked.now = c.loop-list.invariant.same_length in
    subst (λ (n : ℕ). All (λ m. m.place * 32 ≤ n) c.group.result.now) (sym same)
    (subst (All (λ m. m.place * 32 ≤ length c.args.asked.now)) (sym c.group.ensures) (c.requires.users at [] there))

pub loop-list-preserved : goal.loop-list-preserved
loop-list-preserved c =
    asked_in_list c.args.asked.now c.loop-list.asked c.unite_in-in-loop-list.new.self c.args.row.now c.args.users.now c.args.lists.now (λ j. get_or c.args.wanted.now.current j false) c.loop-list.list-index
    c.group.result.now c.loop-list-test.true c.group.ensures c.loop-list.invariant c.unite_in-in-loop-list.ensures

pub returns : goal.returns
returns c =
    let all : take c.loop-list.list-index c.args.lists.now ≡ c.args.lists.now = take_all c.loop-list.list-index c.args.lists.now (omega (arith, c.loop-list-test.false)) in
    subst (λ (ls : List ℕ). IsAsked c.args.asked.now (λ j. (names c.args.row.now j || some_uses c.args.users.now j ls) && get_or c.args.wanted.now.current j false) c.loop-list.asked) all c.loop-list.invariant

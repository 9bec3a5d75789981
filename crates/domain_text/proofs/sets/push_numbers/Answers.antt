use Rattle.std.proofs.Common.{◌≡◌, ◌++◌, ℕ, ℤ, List, OnOk, subst, w64, to_z, of_z}
use Rattle.domain_text.proofs.SetLaws.{coded_base, numbers_first, numbers_none, numbers_text}
use Rattle.domain_text.proofs.sets.push_numbers.Goals as goal

pub returns-then-set-eq0 : goal.returns-then-set-eq0
returns-then-set-eq0 c = numbers_none c.args.base c.args.set c.args.text.now.items c.if-set-eq0.true

pub returns : goal.returns
returns c =
    let there = numbers_first (to_z w64 (of_z w64 c.args.base)) c.args.set c.part_least-member.result.1 c.part_least-member.result.0 c.args.text.now.items c.push_member.new.text.items
    c.part_least-member.ensures.members c.in_ok-push_member.ensures in
    subst (λ (z : ℤ). OnOk c.push_others.result (c.push_others.new.text.items ≡ c.args.text.now.items ++ numbers_text z c.args.set)) (coded_base c.args.base c.requires.0)
    (subst (λ (all : List ℕ). OnOk c.push_others.result (c.push_others.new.text.items ≡ all)) there c.push_others.ensures)

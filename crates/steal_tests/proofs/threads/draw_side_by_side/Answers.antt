use Rattle.std.proofs.Common.{rules, ◌≡◌, ◌<◌, ◌++◌, ℕ, List, length, get_or, take, drop, sym, subst, arith}
use Rattle.std.proofs.lemmas.Grind.{common_steps}
use Rattle.steal_crew.specs.declared.hand.Hand.{Hand}
use Rattle.steal_crew.specs.Hands.{AreHandsOfOneDeal, IsSameHand}
use Rattle.steal_tests.proofs.threads.draw_side_by_side.Goals as goal

-- a list that was written as a whole
written : (old new : List Hand) (n : ℕ) → n ≡ length old → length new ≡ length old → take n (new ++ drop (length new) old) ≡ new
written old new n long same = grind (arith, common_steps)

pub returns-clause-deal : goal.returns-clause-deal
returns-clause-deal g c =
    let n = c.requires.0 in
    let old = c.args.hands.now.items in
    let new = c.draw_each.new.hands in
    let size : length new ≡ length old = search rules in (
      n,
      subst (AreHandsOfOneDeal n) (sym (written old new c.args.hands.now.len (search rules) size))
          (c.law_hands.ensures.one_deal n old new size
          (subst (λ (hs : List Hand). (i : ℕ) (d : Hand) → i < length hs → IsSameHand (get_or hs i d) (get_or new i d)) c.deref_mut.ensures.value c.draw_each.ensures) c.requires.1),
    )

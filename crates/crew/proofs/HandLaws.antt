-- Hands that are dealt and gathered.
use Rattle.std.proofs.Common.{◌≡◌, ℕ, ◌-◌, ◌<◌, ◌≤◌, Bool, true, false, List, [], ◌∷◌, Option, Some, None, length, length-append, get_or, sym, ap, arith}
use Rattle.std.specs.Bool.{OnTrue}
use Rattle.std.specs.Prelude.{IfSome, IfNone, is_none}
use Rattle.std.proofs.lemmas.List.Elements.{length_all_zip, AllZip-get_or}
use Rattle.tickets.specs.Seats.{with_drawn}
use Rattle.steal_crew.specs.declared.hand.Hand.{Hand}
use Rattle.steal_crew.specs.Hands.{IsSameHand, AreHandsOfOneDeal, HandLaws}
use Rattle.crew.specs.Rights.{KeepsSame, AreDrawn}

-- hands of one deal are so after some draws
pub hands_after : (laws : HandLaws) (n : ℕ) (hands : List Hand) → AreDrawn (AreHandsOfOneDeal n) IsSameHand hands → AreHandsOfOneDeal n hands
hands_after laws n hands drawn =
    laws.one_deal n drawn.before hands (sym (length_all_zip (KeepsSame IsSameHand) drawn.before hands drawn.later))
    (λ i d within. AllZip-get_or (KeepsSame IsSameHand) drawn.before hands i d d drawn.later within (get_or drawn.before i d) (laws.reflexive (get_or drawn.before i d)))
    drawn.dealt

-- a number more was drawn, of those that are left
pub fewer_left : (found : Option ℕ) (count : ℕ) (before after : List ℕ) → after ≡ with_drawn found before → length after ≤ count → IfSome found (λ k. count - length after < count - length before)
fewer_left None count before after drawn few = tt
fewer_left (Some k) count before after drawn few = let a = ap length drawn in let b = length-append before (k ∷ []) in omega arith

pub done_of : (found : Option ℕ) (done : Bool) → done ≡ is_none found → IfNone found (done ≡ true)
done_of None done is = is
done_of (Some k) done is = tt

pub on_true_weaker : (b : Bool) (P Q : Type 0) → (P → Q) → OnTrue b P → OnTrue b Q
on_true_weaker true P Q f p = f p
on_true_weaker false P Q f p = tt

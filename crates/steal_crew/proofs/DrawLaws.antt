-- What a draw changes.
use Rattle.std.proofs.Common.{ℕ, ◌≡◌, ◌+◌, ◌≤◌, List, [], ◌∷◌, ◌++◌, map, sym, ap, ◌∙◌, arith}
use Rattle.std.specs.Prelude.{flat_map, sum_by, Option}
use Rattle.std.proofs.lemmas.List.Sums.{sum_by-append}
use Rattle.std.proofs.lemmas.List.Folds.{flat_map-map}
use Rattle.std.proofs.lemmas.Grind.{flat_map-append}
use Rattle.tickets.specs.Seats.{with_drawn}
use Rattle.steal_crew.specs.Numbers.{AreSameNumbers, IsPart, numbers_below}
use Rattle.steal_crew.specs.Rights.{Right, right_of, taken_by, dealt_to}
use Rattle.steal_crew.specs.declared.victim.Victim.{Victim}
use Rattle.steal_crew.proofs.NumberLaws.{weight-with_drawn}

pub dealt_of_rights : (os us : List Victim) → map right_of us ≡ map right_of os → flat_map dealt_to us ≡ flat_map dealt_to os
dealt_of_rights os us e = sym (flat_map-map (λ (r : Right). r.dealt) right_of us) ∙ ap (flat_map (λ (r : Right). r.dealt)) e ∙ flat_map-map (λ (r : Right). r.dealt) right_of os

pub victims_within : (w : ℕ → ℕ) (os : List Victim) → sum_by w (flat_map taken_by os) ≤ sum_by w (flat_map dealt_to os)
victims_within w [] = omega arith
victims_within w (v ∷ os) = let a = v.within.weight w in let r = victims_within w os in let b = sum_by-append w (taken_by v) (flat_map taken_by os) in let c = sum_by-append w (dealt_to v) (flat_map dealt_to os) in omega arith

-- no number left a deque oftener than it was dealt to it
pub all_within : (taken dealt : List ℕ) (os : List Victim) → IsPart taken dealt → IsPart (taken ++ flat_map taken_by os) (dealt ++ flat_map dealt_to os)
all_within taken dealt os p = record { weight = λ w. let a = p.weight w in let b = victims_within w os in let c = sum_by-append w taken (flat_map taken_by os) in let d = sum_by-append w dealt (flat_map dealt_to os) in omega arith }

module _ (found : Option ℕ) (count : ℕ) (drawn dealt taken after : List ℕ) (same : AreSameNumbers after (with_drawn found taken)) where
  -- what a hand has drawn with the number found is among the numbers of the deal
  pub fits : IsPart (drawn ++ dealt) (numbers_below count ++ taken) → IsPart after dealt → IsPart (with_drawn found drawn) (numbers_below count)
  fits below within = record {
    weight = λ w.
        let a = same.weight w in let b = below.weight w in let c = within.weight w in let d = weight-with_drawn w found taken in let e = weight-with_drawn w found drawn in
        let f = sum_by-append w drawn dealt in let g = sum_by-append w (numbers_below count) taken in omega arith;
  }

  pub stays_below : IsPart (drawn ++ dealt) (numbers_below count ++ taken) → IsPart (with_drawn found drawn ++ dealt) (numbers_below count ++ after)
  stays_below below = record {
    weight = λ w.
        let a = same.weight w in let b = below.weight w in let d = weight-with_drawn w found taken in let e = weight-with_drawn w found drawn in
        let f = sum_by-append w drawn dealt in let g = sum_by-append w (numbers_below count) taken in
        let h = sum_by-append w (with_drawn found drawn) dealt in let i = sum_by-append w (numbers_below count) after in omega arith;
  }

  pub drawn_alike : AreSameNumbers (with_drawn found drawn ++ taken) (drawn ++ after)
  drawn_alike = record {
    weight = λ w.
        let a = same.weight w in let d = weight-with_drawn w found taken in let e = weight-with_drawn w found drawn in
        let h = sum_by-append w (with_drawn found drawn) taken in let i = sum_by-append w drawn after in omega arith;
  }

-- without some of its rights, what a hand gave and what may be left in the deques stays among the numbers of the deal
pub fewer_below : (drawn below dealt taken : List ℕ) (os us vs : List Victim) → os ≡ us ++ vs → IsPart (drawn ++ (dealt ++ flat_map dealt_to os)) (below ++ (taken ++ flat_map taken_by os))
    → IsPart (drawn ++ (dealt ++ flat_map dealt_to us)) (below ++ (taken ++ flat_map taken_by us))
fewer_below drawn below dealt taken os us vs e p = record {
  weight = λ w.
      let a = p.weight w in
      let b = sum_by-append w drawn (dealt ++ flat_map dealt_to os) in let c = sum_by-append w dealt (flat_map dealt_to os) in
      let d = sum_by-append w below (taken ++ flat_map taken_by os) in let f = sum_by-append w taken (flat_map taken_by os) in
      let g = sum_by-append w drawn (dealt ++ flat_map dealt_to us) in let h = sum_by-append w dealt (flat_map dealt_to us) in
      let i = sum_by-append w below (taken ++ flat_map taken_by us) in let j = sum_by-append w taken (flat_map taken_by us) in
      let k : sum_by w (flat_map dealt_to os) ≡ sum_by w (flat_map dealt_to us) + sum_by w (flat_map dealt_to vs) = ap (λ (l : List Victim). sum_by w (flat_map dealt_to l)) e ∙ ap (sum_by w) (flat_map-append dealt_to us vs) ∙ sum_by-append w (flat_map dealt_to us) (flat_map dealt_to vs) in
      let m : sum_by w (flat_map taken_by os) ≡ sum_by w (flat_map taken_by us) + sum_by w (flat_map taken_by vs) = ap (λ (l : List Victim). sum_by w (flat_map taken_by l)) e ∙ ap (sum_by w) (flat_map-append taken_by us vs) ∙ sum_by-append w (flat_map taken_by us) (flat_map taken_by vs) in
      let n = victims_within w vs in omega arith;
}

use Rattle.std.proofs.Common.{ℕ, ◌≡◌, List, [], ◌∷◌, ◌++◌, length, map, ◌∙◌, ap, subst, arith}
use Rattle.std.proofs.Math.Seq.{map-set_same}
use Rattle.std.proofs.lemmas.List.{length-map}
use Rattle.std.specs.Prelude.{Option, flat_map, Some, slice_set}
use Rattle.tickets.specs.Seats.{with_drawn}
use Rattle.steal_crew.specs.Numbers.{AreSameNumbers}
use Rattle.steal_crew.specs.Rights.{right_of, taken_by}
use Rattle.steal_crew.specs.declared.victim.Victim.{Victim}
use Rattle.steal_crew.proofs.TakeLaws.{robbed, robbed_none}
use Rattle.steal_crew.proofs.drawing.rob_any.Goals as goal

as_long : (os us : List Victim) → map right_of os ≡ map right_of us → length os ≡ length us
as_long os us e = let a = length-map os right_of in let b = length-map us right_of in let c : length (map right_of os) ≡ length (map right_of us) = ap length e in omega arith

pub returns-in-Some-clause-rights : goal.returns-in-Some-clause-rights
returns-in-Some-clause-rights c = map-set_same right_of c.loop-place.others.items c.loop-place.place c.rob.new.victim c.index_mut.result.now (c.rob.ensures.right ∙ ap right_of c.index_mut.ensures.value) ∙ c.loop-place.invariant.rights

pub returns-in-Some-clause-taken : goal.returns-in-Some-clause-taken
returns-in-Some-clause-taken c =
    let k = c.in-Some.number in
    let v = c.index_mut.result.now in
    let os = c.loop-place.others.items in
    let l = as_long os c.args.others.now.items c.loop-place.invariant.rights in
    subst (λ (xs : List ℕ). AreSameNumbers (flat_map taken_by (slice_set os c.loop-place.place c.rob.new.victim)) (xs ++ k ∷ [])) c.loop-place.invariant.taken
    (robbed os c.loop-place.place c.rob.new.victim v (Some k) (omega arith)
    (c.rob.ensures.taken ∙ ap (λ (r : Option ℕ). with_drawn r (taken_by v)) c.in-Some.is ∙ ap (λ (u : Victim). with_drawn (Some k) (taken_by u)) c.index_mut.ensures.value))

pub loop-place-preserved : goal.loop-place-preserved
loop-place-preserved c =
    let v = c.index_mut.result.now in
    let os = c.loop-place.others.items in record {
      rights = map-set_same right_of os c.loop-place.place c.rob.new.victim v (c.rob.ensures.right ∙ ap right_of c.index_mut.ensures.value) ∙ c.loop-place.invariant.rights;
      taken = robbed_none os c.loop-place.place c.rob.new.victim v (c.rob.ensures.taken ∙ ap (λ (r : Option ℕ). with_drawn r (taken_by v)) c.in_default.is ∙ ap taken_by c.index_mut.ensures.value) ∙ c.loop-place.invariant.taken;
    }

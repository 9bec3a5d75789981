-- What the runs of a portfolio tell stands as they grow, and so in their order.
use Rattle.std.proofs.Common.{◌≡◌, ℕ, suc, ◌-◌, ◌<◌, List, [], ◌∷◌, ◌++◌, length, take, drop, sym, subst, ap, ◌∙◌, inl, inr, arith}
use Rattle.std.specs.Prelude.{slice_index_or, Result, Ok, Err, IfOk}
use Rattle.memory.specs.declared.NoMemory.{NoMemory}
use Rattle.std.proofs.lemmas.List.Elements.{Contains-append_cases}
use Rattle.crew.specs.Ends.{AreInOrder}
use Rattle.answer.specs.Portfolios.{AreTellingRuns, AreTellingEnds}
use Rattle.answer.proofs.RunLists.{nothing_there, the_one}

module _ {E : Type 0} (Tells : ℕ → E → Type 0) where
  pub no_runs_tell : AreTellingRuns Tells []
  no_runs_tell = record { each = λ number told h. absurd (nothing_there (number, told) h) }

  pub runs_tell_joined : (runs others : List (ℕ × E)) → AreTellingRuns Tells runs → AreTellingRuns Tells others → AreTellingRuns Tells (runs ++ others)
  runs_tell_joined runs others h k = record {
    each = λ number told there. elim (Contains-append_cases runs others (number, told) there) [ inl l ↦ h.each number told l | inr r ↦ k.each number told r ];
  }

  pub run_more_tells : (runs : List (ℕ × E)) (number : ℕ) (told : E) → AreTellingRuns Tells runs → Tells number told → AreTellingRuns Tells (runs ++ (number, told) ∷ [])
  run_more_tells runs number told h own = runs_tell_joined runs ((number, told) ∷ []) h (record {
    each = λ other end there.
        let same : (number, told) ≡ (other, end) = the_one (number, told) (other, end) there in
        subst (λ (run : ℕ × E). Tells run.0 run.1) same own;
  })

  pub ends_tell : (parts : ℕ) (runs : List (ℕ × E)) (ends : List E) → AreInOrder (suc parts) runs ends → AreTellingRuns Tells runs → AreTellingEnds Tells parts ends
  ends_tell parts runs ends order h = record { count = order.length_is; each = λ number told s. h.each number told ((order.places number told).1 s) }

-- the end of the search of the whole, and those of the parts
pub ends_split : {E : Type 0} (ends : List E) (free : E) (rest : List E) → 0 < length ends → free ≡ slice_index_or ends 0 free → rest ≡ take 0 ends ++ drop 1 ends → ends ≡ free ∷ rest
ends_split [] free rest some first others = absurd (omega arith)
ends_split (end ∷ ends) free rest some first others = ap (λ x. x ∷ ends) (sym first) ∙ ap (λ xs. free ∷ xs) (sym others)

-- a part's place is below its number
pub behind_is : (n : ℕ) → (n ≡ 0 → ⊥) → suc (n - 1) ≡ n
behind_is n some = omega (arith, some)

-- the run of a part, if it wasn't refused memory
pub told_run : {E : Type 0} (Tells : ℕ → E → Type 0) (runs : List (ℕ × E)) (number place : ℕ) (result : Result E NoMemory) → suc place ≡ number → AreTellingRuns Tells runs → IfOk result (Tells (suc place)) →
    IfOk result (λ told. AreTellingRuns Tells (runs ++ (number, told) ∷ []))
told_run Tells runs number place (Ok told) e h own = run_more_tells Tells runs number told h (subst (λ (n : ℕ). Tells n told) e own)
told_run Tells runs number place (Err stop) e h own = tt

-- so it is of the ends in a list from which the first was taken
pub ends_taken : {E : Type 0} (Tells : ℕ → E → Type 0) (parts : ℕ) (ends items : List E) (free : E) (rest : List E) → items ≡ ends → free ≡ slice_index_or items 0 free → rest ≡ take 0 items ++ drop 1 items →
    AreTellingEnds Tells parts ends → AreTellingEnds Tells parts (free ∷ rest)
ends_taken Tells parts ends items free rest same first others h =
    let count = h.count in
    subst (AreTellingEnds Tells parts)
    (ends_split ends free rest (omega arith) (first ∙ ap (λ (xs : List _). slice_index_or xs 0 free) same) (others ∙ ap (λ (xs : List _). take 0 xs ++ drop 1 xs) same)) h

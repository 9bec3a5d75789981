-- Workers with their rights, before and after their work.
use Rattle.std.proofs.Common.{◌≡◌, ℕ, suc, ◌<◌, List, [], ◌∷◌, map, length, get_or, sym, subst, arith}
use Rattle.std.proofs.lemmas.List.{get_or-map, length-map}
use Rattle.std.specs.List.{All, AllZip}
use Rattle.crew.specs.Rights.{KeepsSame, AreDrawn}
use Rattle.crew.specs.Crews.{HasAsked}
use Rattle.crew.specs.AtWork.{MayStart}
use Rattle.crew.specs.declared.worker.Worker.{Worker}

-- what holds of all images
all_unmapped : {X Y : Type 0} (P : Y → Type 0) (f : X → Y) (xs : List X) → All P (map f xs) → All (λ x. P (f x)) xs
all_unmapped P f xs h = λ k d within.
    let size = length-map xs f in
    subst P (get_or-map f xs k d (f d) within) (h k (f d) (omega arith))

zip_from_places : {X : Type 0} (R : X → X → Type 0) (xs ys : List X) → length ys ≡ length xs → ((i : ℕ) (d : X) → i < length xs → R (get_or xs i d) (get_or ys i d)) → AllZip R xs ys
zip_from_places R [] [] e h = tt
zip_from_places R [] (y ∷ ys) e h = absurd (omega arith)
zip_from_places R (x ∷ xs) [] e h = absurd (omega arith)
zip_from_places R (x ∷ xs) (y ∷ ys) e h = (h 0 x (omega arith), zip_from_places R xs ys (omega arith) (λ i d within. h (suc i) d (omega arith)))

zip_mapped : {X Y : Type 0} (R : Y → Y → Type 0) (f : X → Y) (xs ys : List X) → AllZip (λ x y. R (f x) (f y)) xs ys → AllZip R (map f xs) (map f ys)
zip_mapped R f [] [] h = tt
zip_mapped R f [] (y ∷ ys) h = absurd h
zip_mapped R f (x ∷ xs) [] h = absurd h
zip_mapped R f (x ∷ xs) (y ∷ ys) h = (h.0, zip_mapped R f xs ys h.1)

module _ {N S W E : Type 0} where
  pub all_may_start : (is_right : N → Type 0) (drawn : N → List ℕ) (rights : List N) (workers : List (Worker N S W E)) → map (λ worker. worker.right) workers ≡ rights
      → All is_right rights → All (λ right. drawn right ≡ []) rights → All (MayStart is_right drawn) workers
  all_may_start is_right drawn rights workers e right none = λ k d within. record {
    right = all_unmapped is_right (λ (worker : Worker N S W E). worker.right) workers (subst (All is_right) (sym e) right) k d within;
    none = all_unmapped (λ r. drawn r ≡ []) (λ (worker : Worker N S W E). worker.right) workers (subst (All (λ r. drawn r ≡ [])) (sym e) none) k d within;
  }

  -- each has asked for a number
  pub turns_asked : (turns : List ℕ) (before after : List (Worker N S W E)) → map (λ worker. worker.turn) before ≡ turns → length after ≡ length before
      → ((i : ℕ) (d : Worker N S W E) → i < length before → HasAsked (get_or before i d).turn (get_or after i d).turn)
      → AllZip HasAsked turns (map (λ worker. worker.turn) after)
  turns_asked turns before after e size each = subst (λ xs. AllZip HasAsked xs (map (λ (worker : Worker N S W E). worker.turn) after)) e
      (zip_mapped HasAsked (λ (worker : Worker N S W E). worker.turn) before after
      (zip_from_places (λ (x y : Worker N S W E). HasAsked x.turn y.turn) before after size each))

  -- their rights are those that were dealt, some draws later
  pub rights_drawn : (are_dealt : List N → Type 0) (same : N → N → Type 0) (rights : List N) (before after : List (Worker N S W E)) → map (λ worker. worker.right) before ≡ rights
      → are_dealt rights → length after ≡ length before
      → ((i : ℕ) (d : Worker N S W E) → i < length before → KeepsSame same (get_or before i d).right (get_or after i d).right)
      → AreDrawn are_dealt same (map (λ worker. worker.right) after)
  rights_drawn are_dealt same rights before after e dealt size each = record {
    before = rights;
    dealt = dealt;
    later = subst (λ xs. AllZip (KeepsSame same) xs (map (λ (worker : Worker N S W E). worker.right) after)) e
        (zip_mapped (KeepsSame same) (λ (worker : Worker N S W E). worker.right) before after
        (zip_from_places (λ (x y : Worker N S W E). KeepsSame same x.right y.right) before after size each));
  }

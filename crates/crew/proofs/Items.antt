-- Items of a list that a loop takes one by one, and of one that is written as a whole.
use Rattle.std.proofs.Common.{◌≡◌, ℕ, ◌+◌, ◌<◌, List, [], ◌∷◌, ◌++◌, get_or, map, take, drop, length, length-append, subst, sym, ap, ◌∙◌, arith, append_assoc}
use Rattle.std.proofs.lemmas.Grind.{common_steps}
use Rattle.std.proofs.lemmas.List.{map-append}
use Rattle.std.proofs.lemmas.List.Elements.{All-nil, All-cons, All-head, All-tail}
use Rattle.std.specs.List.{All}

-- what holds of all holds of the one behind those that were taken
pub all_next : {X : Type 0} (P : X → Type 0) (taken : List X) (x : X) (rest all : List X) → taken ++ x ∷ rest ≡ all → All P all → P x
all_next P taken x rest all e h = part P taken x rest (subst (All P) (sym e) h)
  where
    part : {X : Type 0} (P : X → Type 0) (taken : List X) (x : X) (rest : List X) → All P (taken ++ x ∷ rest) → P x
    part P [] x rest h = All-head P x rest h
    part P (y ∷ taken) x rest h = part P taken x rest (All-tail P y (taken ++ x ∷ rest) h)

-- one was taken
pub taken_more : {X : Type 0} (taken : List X) (x : X) (rest before all : List X) → before ≡ x ∷ rest → taken ++ before ≡ all → (taken ++ x ∷ []) ++ rest ≡ all
taken_more taken x rest before all e h = append_assoc taken (x ∷ []) rest ∙ ap (λ xs. taken ++ xs) (sym e) ∙ h

pub length_taken : {X : Type 0} (taken : List X) (x : X) (rest before all : List X) → before ≡ x ∷ rest → taken ++ before ≡ all → length taken + (length rest + 1) ≡ length all
length_taken taken x rest before all e h =
    let a = ap length h in let b = length-append taken before in let c = ap length e in omega arith

-- a slice of all items was written, and each item of it holds
pub all_written : {X : Type 0} (P : X → Type 0) (old new : List X) (n : ℕ) → n ≡ length old → length new ≡ length old
    → ((i : ℕ) (d : X) → i < length old → P (get_or new i d)) → All P (take n (new ++ drop (length new) old))
all_written P old new n long same h =
    let whole : take n (new ++ drop (length new) old) ≡ new = grind (arith, common_steps) in
    subst (All P) (sym whole) (λ k d l. h k d (omega (arith, l, same)))

-- the slice is the list then
pub written : {X : Type 0} (old new : List X) (n : ℕ) → n ≡ length old → length new ≡ length old → take n (new ++ drop (length new) old) ≡ new
written old new n long same = grind (arith, common_steps)

-- what holds of all holds of the last
pub all_last : {X : Type 0} (P : X → Type 0) (xs : List X) (x : X) → All P (xs ++ x ∷ []) → P x
all_last P [] x h = All-head P x [] h
all_last P (y ∷ xs) x h = all_last P xs x (All-tail P y (xs ++ x ∷ []) h)

-- and what holds of all holds of those before it
pub all_front : {X : Type 0} (P : X → Type 0) (xs : List X) (x : X) → All P (xs ++ x ∷ []) → All P xs
all_front P [] x h = All-nil P
all_front P (y ∷ xs) x h = All-cons P y xs (All-head P y (xs ++ x ∷ []) h) (all_front P xs x (All-tail P y (xs ++ x ∷ []) h))

-- what a function tells of all, where there is one more
pub mapped_more : {X Y : Type 0} (f : X → Y) (xs more : List X) (x : X) (ys : List Y) (y : Y) → more ≡ xs ++ x ∷ [] → map f xs ≡ ys → f x ≡ y → map f more ≡ ys ++ y ∷ []
mapped_more f xs more x ys y e m is = ap (map f) e ∙ map-append f xs (x ∷ []) ∙ ap (λ zs. zs ++ f x ∷ []) m ∙ ap (λ z. ys ++ z ∷ []) is

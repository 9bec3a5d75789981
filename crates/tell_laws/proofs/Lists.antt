-- What holds of each element of a list that is put together, and sums over lists.
use Rattle.std.proofs.Common.{◌≡◌, ℕ, zero, suc, ◌+◌, ◌<◌, List, [], ◌∷◌, ◌++◌, length, get_or, length-append, Bool, true, false, refl, subst, arith}
use Rattle.std.proofs.lemmas.List.{get_or_append_left, get_or-append-add}
use Rattle.std.proofs.lemmas.List.Elements.{All-nil, All-append}
use Rattle.std.specs.List.{All, flat_map}
use Rattle.tells.specs.declared.tell.Tell.{Tell}
use Rattle.tells.specs.Words.{when}

module _ {X : Type 0} (P : X → Type 0) where
  pub All-left : (xs ys : List X) → All P (xs ++ ys) → All P xs
  All-left xs ys all k d h = subst P (get_or_append_left xs ys d k h) (all k d (omega (arith, length-append xs ys)))

  pub All-right : (xs ys : List X) → All P (xs ++ ys) → All P ys
  All-right xs ys all k d h = subst P (get_or-append-add xs ys k d) (all (length xs + k) d (omega (arith, length-append xs ys)))

  pub All-one : (x : X) → P x → All P (x ∷ [])
  All-one x p zero d h = p
  All-one x p (suc k) d h = absurd (omega arith)

  pub one-All : (x : X) → All P (x ∷ []) → P x
  one-All x all = all 0 x (omega arith)

  pub All-flat_map : {Y : Type 0} (f : Y → List X) (ys : List Y) (e : Y) → ((i : ℕ) → i < length ys → All P (f (get_or ys i e))) → All P (flat_map f ys)
  All-flat_map f [] e h = All-nil P
  All-flat_map f (y ∷ ys) e h = All-append P (f y) (flat_map f ys) (h 0 (omega arith)) (All-flat_map f ys e (λ i l. h (suc i) (omega arith)))

  pub flat_map-All : {Y : Type 0} (f : Y → List X) (ys : List Y) (e : Y) → All P (flat_map f ys) → (i : ℕ) → i < length ys → All P (f (get_or ys i e))
  flat_map-All f [] e all i l = absurd (omega arith)
  flat_map-All f (y ∷ ys) e all zero l = All-left (f y) (flat_map f ys) all
  flat_map-All f (y ∷ ys) e all (suc i) l = flat_map-All f ys e (All-right (f y) (flat_map f ys) all) i (omega arith)

pub flat_map_same : {X Y : Type 0} (f g : Y → List X) (ys : List Y) (e : Y) → ((i : ℕ) → i < length ys → f (get_or ys i e) ≡ g (get_or ys i e)) → flat_map f ys ≡ flat_map g ys
flat_map_same f g [] e h = refl
flat_map_same f g (y ∷ ys) e h =
    let first = h 0 (omega arith) in
    let rest = flat_map_same f g ys e (λ i l. h (suc i) (omega arith)) in
    (λ i. first i ++ rest i)

module _ (P : Tell → Type 0) where
  pub All-when : (b : Bool) (ts : List Tell) → (b ≡ true → All P ts) → All P (when b ts)
  All-when true ts h = h refl
  All-when false ts h = All-nil P

  pub when-All : (b : Bool) (ts : List Tell) → b ≡ true → All P (when b ts) → All P ts
  when-All b ts e all = let Q : Bool → Type 0 = λ t. All P (when t ts) in subst Q e all

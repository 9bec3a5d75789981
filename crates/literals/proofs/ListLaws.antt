-- What holds of each literal of a list, after one was written or taken out.
use Rattle.std.proofs.Common.{◌≡◌, ℕ, ◌<◌, ◌++◌, ◌∷◌, [], List, length, set, get_or, sym, subst, inl, inr, get_or-set_other, get_or-set_same}
use Rattle.std.specs.List.{All}
use Rattle.std.proofs.lemmas.Bool.{cases_eq}
use Rattle.std.proofs.Math.Seq.{take-append_seam, drop-append_seam}
use Rattle.std.proofs.lemmas.List.{length-set}
use Rattle.std.proofs.lemmas.List.Elements.{All-take, All-drop, All-head}
use Rattle.interval.specs.Boxes.{Bounds}
use Rattle.tells.specs.declared.tell.Tell.{Tell}
use Rattle.tells.specs.Words.{Keeps}
use Rattle.literals.specs.Literals.{Meets, IsMore, IsAsTight}
use Rattle.literals.proofs.LiteralLaws.{keeps_tighter}

module _ {X : Type 0} (P : X → Type 0) where
  -- of a list with one element written over: of the others, and of the one that stood there if it follows of the new one
  pub before_set : (xs : List X) (i : ℕ) (y : X) → i < length xs → All P (set xs i y) → ((d : X) → P y → P (get_or xs i d)) → All P xs
  before_set xs i y h a back = λ k d kl. elim (cases_eq k i) [
    | inl e ↦ subst (λ (j : ℕ). P (get_or xs j d)) (sym e)
        (back d (subst P (get_or-set_same xs i y d h) (a i d (rw length-set h))))
    | inr ne ↦ subst P (get_or-set_other xs i k y d ne) (a k d (rw length-set kl))
  ]

-- a literal is written over a wider one
pub more_set : (xs : List Tell) (i : ℕ) (t : Tell) → i < length xs → ((d : Tell) → IsAsTight t (get_or xs i d)) → IsMore xs t (set xs i t)
more_set xs i t h tight b m =
    let here : Keeps b t = subst (Keeps b) (get_or-set_same xs i t t h) (m i t (rw length-set h)) in
    (before_set (Keeps b) xs i t h m (λ d k. keeps_tighter b t (get_or xs i d) (tight d) k), here)

-- a literal that is as tight is there
pub more_there : (xs : List Tell) (i : ℕ) (t : Tell) → i < length xs → ((d : Tell) → IsAsTight (get_or xs i d) t) → IsMore xs t xs
more_there xs i t h tight b m = (m, keeps_tighter b (get_or xs i t) t (tight t) (m i t h))

-- a literal is put behind the others
pub more_push : (xs : List Tell) (t : Tell) → IsMore xs t (xs ++ t ∷ [])
more_push xs t b m = (
  subst (Meets b) (take-append_seam xs (t ∷ [])) (All-take (Keeps b) (length xs) (xs ++ t ∷ []) m),
  All-head (Keeps b) t [] (subst (Meets b) (drop-append_seam xs (t ∷ [])) (All-drop (Keeps b) (length xs) (xs ++ t ∷ []) m)),
)

-- Hearing a list that is put together of two.
use Rattle.std.proofs.Common.{List, [], ◌∷◌, ◌++◌, sym, subst}
use Rattle.tells.specs.declared.tell.Tell.{Tell}
use Rattle.tells.specs.Hearing.{MayHearAll, HearsAll}

module _ {H : Type 0} (may : H → Tell → Type 0) (hears : H → Tell → H → Type 0) where
  pub may_first : (before : H) (xs ys : List Tell) → MayHearAll may hears before (xs ++ ys) → MayHearAll may hears before xs
  may_first before [] ys m = tt
  may_first before (t ∷ xs) ys m = (m.0, λ mid h. may_first mid xs ys (m.1 mid h))

  pub may_rest : (before mid : H) (xs ys : List Tell) → MayHearAll may hears before (xs ++ ys) → HearsAll hears before xs mid → MayHearAll may hears mid ys
  may_rest before mid [] ys m h = let P : H → Type 0 = λ z. MayHearAll may hears z ys in subst P h m
  may_rest before mid (t ∷ xs) ys m h = may_rest h.0 mid xs ys (m.1 h.0 h.1) h.2

  pub hears_both : (before mid after : H) (xs ys : List Tell) → HearsAll hears before xs mid → HearsAll hears mid ys after → HearsAll hears before (xs ++ ys) after
  hears_both before mid after [] ys h k = let P : H → Type 0 = λ z. HearsAll hears z ys after in subst P (sym h) k
  hears_both before mid after (t ∷ xs) ys h k = (h.0, h.1, hears_both h.0 mid after xs ys h.2 k)

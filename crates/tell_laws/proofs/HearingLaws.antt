-- Hearing a list that is put together of two.
use Rattle.std.proofs.Common.{◌≡◌, Bool, true, List, [], ◌∷◌, ◌++◌, ℕ, ◌<◌, ◌≤◌, ◌+◌, length, drop, get_or, refl, sym, subst}
use Rattle.std.proofs.lemmas.List.{at_drop_more, at_drop_all}
use Rattle.std.specs.List.{flat_map}
use Rattle.tells.specs.declared.tell.Tell.{Tell}
use Rattle.tells.specs.Words.{when}
use Rattle.tells.specs.Hearing.{MayHearAll, HearsAll}

module _ {H : Type 0} (may : H → Tell → Type 0) (hears : H → Tell → H → Type 0) where
  pub may_first : (before : H) (xs ys : List Tell) → MayHearAll may hears before (xs ++ ys) → MayHearAll may hears before xs
  may_first before [] ys m = tt
  may_first before (t ∷ xs) ys m = (m.0, λ mid h. may_first mid xs ys (m.1 mid h))

  pub may_rest : (before mid : H) (xs ys : List Tell) → MayHearAll may hears before (xs ++ ys) → HearsAll hears before xs mid → MayHearAll may hears mid ys
  may_rest before mid [] ys m h = let P : H → Type 0 = λ z. MayHearAll may hears z ys in subst P h m
  may_rest before mid (t ∷ xs) ys m h = may_rest h.0 mid xs ys (m.1 h.0 h.1) h.2

  pub hears_both : (before mid after : H) (xs ys : List Tell) → HearsAll hears before xs mid → HearsAll hears mid ys after → HearsAll hears before (xs ++ ys) after
  hears_both before mid after [] ys h k = let P : H → Type 0 = λ z. HearsAll hears z ys after in subst P (sym h) k
  hears_both before mid after (t ∷ xs) ys h k = (h.0, h.1, hears_both h.0 mid after xs ys h.2 k)

  -- one tell that is heard where a test holds
  pub may_one : (before : H) (t : Bool) (tell told : Tell) → t ≡ true → told ≡ tell → MayHearAll may hears before (when t (tell ∷ [])) → may before told
  may_one before t tell told e f m =
      let P : Bool → Type 0 = λ s. MayHearAll may hears before (when s (tell ∷ [])) in
      let one = subst P e m in
      subst (may before) (sym f) one.0

  pub hears_one : (before after : H) (t : Bool) (tell told : Tell) → t ≡ true → told ≡ tell → hears before told after → HearsAll hears before (when t (tell ∷ [])) after
  hears_one before after t tell told e f h =
      let P : Bool → Type 0 = λ s. HearsAll hears before (when s (tell ∷ [])) after in
      let heard : hears before tell after = subst (λ u. hears before u after) f h in
      subst P (sym e) (after, heard, refl)

  -- what is heard from a place of a list on brings the hearer to where the whole list would
  pub record LeadsOn {X : Type 0} (f : X → List Tell) (xs : List X) (first : H) (i : ℕ) (now : H) : Type 0 where
    pub may_go_on : MayHearAll may hears now (flat_map f (drop i xs))
    pub whole : (after : H) → HearsAll hears now (flat_map f (drop i xs)) after → HearsAll hears first (flat_map f xs) after

  pub leads_start : {X : Type 0} (f : X → List Tell) (xs : List X) (first : H) → MayHearAll may hears first (flat_map f xs) → LeadsOn f xs first 0 first
  leads_start f xs first m = record { may_go_on = m; whole = λ after h. h }

  pub leads_may : {X : Type 0} (f : X → List Tell) (xs : List X) (first now : H) (i : ℕ) (d : X) → i < length xs → LeadsOn f xs first i now → MayHearAll may hears now (f (get_or xs i d))
  leads_may f xs first now i d h l =
      let P : List Tell → Type 0 = λ ts. MayHearAll may hears now ts in
      may_first now (f (get_or xs i d)) (flat_map f (drop (i + 1) xs)) (subst P (at_drop_more (flat_map f) xs i d h) l.may_go_on)

  pub leads_next : {X : Type 0} (f : X → List Tell) (xs : List X) (first now next : H) (i : ℕ) (d : X) → i < length xs → LeadsOn f xs first i now → HearsAll hears now (f (get_or xs i d)) next → LeadsOn f xs first (i + 1) next
  leads_next f xs first now next i d h l heard =
      let step = at_drop_more (flat_map f) xs i d h in
      let P : List Tell → Type 0 = λ ts. MayHearAll may hears now ts in
      record {
        may_go_on = may_rest now next (f (get_or xs i d)) (flat_map f (drop (i + 1) xs)) (subst P step l.may_go_on) heard;
        whole = λ after rest.
            let Q : List Tell → Type 0 = λ ts. HearsAll hears now ts after in
            l.whole after (subst Q (sym step) (hears_both now next after (f (get_or xs i d)) (flat_map f (drop (i + 1) xs)) heard rest));
      }

  pub leads_end : {X : Type 0} (f : X → List Tell) (xs : List X) (first now : H) (i : ℕ) → length xs ≤ i → LeadsOn f xs first i now → HearsAll hears first (flat_map f xs) now
  leads_end f xs first now i h l =
      let Q : List Tell → Type 0 = λ ts. HearsAll hears now ts now in
      l.whole now (subst Q (sym (at_drop_all (flat_map f) xs i h)) refl)

-- a fact of three numbers goes along equations
pub along : {A B C : Type 0} (P : A → B → C → Type 0) {a a' : A} {b b' : B} {c c' : C} → a ≡ a' → b ≡ b' → c ≡ c' → P a b c → P a' b' c'
along P {a} {a'} {b} {b'} {c} {c'} p q r h = subst (λ x. P x b' c') p (subst (λ y. P a y c') q (subst (P a b) r h))

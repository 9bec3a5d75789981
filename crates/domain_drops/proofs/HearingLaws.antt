-- Hearing a list of drops that is put together of two.
use Rattle.std.proofs.Common.{◌≡◌, Bool, true, false, List, [], ◌∷◌, ◌++◌, ℕ, ℤ, ◌<◌, ◌≤◌, ◌+◌, cond, length, drop, get_or, map, refl, sym, subst}
use Rattle.std.proofs.lemmas.List.{at_drop_more, at_drop_all}
use Rattle.std.specs.List.{flat_map}
use Rattle.domain_drops.specs.Hearing.{Drop, MayHearDrops, HearsDrops, drop_when}

module _ {H : Type 0} (may : H → Drop → Type 0) (hears : H → Drop → H → Type 0) where
  pub may_first : (before : H) (xs ys : List Drop) → MayHearDrops may hears before (xs ++ ys) → MayHearDrops may hears before xs
  may_first before [] ys m = tt
  may_first before (d ∷ xs) ys m = (m.0, λ mid h. may_first mid xs ys (m.1 mid h))

  pub may_rest : (before mid : H) (xs ys : List Drop) → MayHearDrops may hears before (xs ++ ys) → HearsDrops hears before xs mid → MayHearDrops may hears mid ys
  may_rest before mid [] ys m h = let P : H → Type 0 = λ z. MayHearDrops may hears z ys in subst P h m
  may_rest before mid (d ∷ xs) ys m h = may_rest h.0 mid xs ys (m.1 h.0 h.1) h.2

  pub hears_both : (before mid after : H) (xs ys : List Drop) → HearsDrops hears before xs mid → HearsDrops hears mid ys after → HearsDrops hears before (xs ++ ys) after
  hears_both before mid after [] ys h k = let P : H → Type 0 = λ z. HearsDrops hears z ys after in subst P (sym h) k
  hears_both before mid after (d ∷ xs) ys h k = (h.0, h.1, hears_both h.0 mid after xs ys h.2 k)

  -- what is heard from here on brings the hearer to where the whole list would
  pub record Leads (whole rest : List Drop) (first now : H) : Type 0 where
    pub may_go_on : MayHearDrops may hears now rest
    pub all : (after : H) → HearsDrops hears now rest after → HearsDrops hears first whole after

  pub leads_start : (whole : List Drop) (first : H) → MayHearDrops may hears first whole → Leads whole whole first first
  leads_start whole first m = record { may_go_on = m; all = λ after h. h }

  pub leads_may : (whole rest piece others : List Drop) (first now : H) → rest ≡ piece ++ others → Leads whole rest first now → MayHearDrops may hears now piece
  leads_may whole rest piece others first now e l =
      let P : List Drop → Type 0 = λ ds. MayHearDrops may hears now ds in
      may_first now piece others (subst P e l.may_go_on)

  pub leads_next : (whole rest piece others : List Drop) (first now next : H) → rest ≡ piece ++ others → Leads whole rest first now → HearsDrops hears now piece next → Leads whole others first next
  leads_next whole rest piece others first now next e l heard =
      let P : List Drop → Type 0 = λ ds. MayHearDrops may hears now ds in
      record {
        may_go_on = may_rest now next piece others (subst P e l.may_go_on) heard;
        all = λ after rest_heard.
            let Q : List Drop → Type 0 = λ ds. HearsDrops hears now ds after in
            l.all after (subst Q (sym e) (hears_both now next after piece others heard rest_heard));
      }

  pub leads_end : (whole rest : List Drop) (first now : H) → rest ≡ [] → Leads whole rest first now → HearsDrops hears first whole now
  leads_end whole rest first now e l =
      let Q : List Drop → Type 0 = λ ds. HearsDrops hears now ds now in
      l.all now (subst Q (sym e) refl)

-- the drops of a list from one place on
pub drops_more : {X : Type 0} (f : X → List Drop) (xs : List X) (i : ℕ) (d : X) → i < length xs → flat_map f (drop i xs) ≡ f (get_or xs i d) ++ flat_map f (drop (i + 1) xs)
drops_more f xs i d h = at_drop_more (flat_map f) xs i d h

pub drops_end : {X : Type 0} (f : X → List Drop) (xs : List X) (i : ℕ) → length xs ≤ i → flat_map f (drop i xs) ≡ []
drops_end f xs i h = at_drop_all (flat_map f) xs i h

-- a number is dropped where it passes, before the others
pub drop_split : (g : ℤ → Drop) (t : Bool) (z : ℤ) (zs : List ℤ) → map g (cond t (z ∷ zs) zs) ≡ drop_when t (g z) ++ map g zs
drop_split g true z zs = refl
drop_split g false z zs = refl

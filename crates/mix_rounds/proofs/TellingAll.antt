-- Hearers that tell a store, and drop from it.
use Rattle.std.proofs.Common.{◌≡◌, ℕ, Bool, List, [], ◌∷◌, length, sym, ap, subst, ◌∙◌}
use Rattle.std.specs.Prelude.{Option, IfSome}
use Rattle.std.specs.List.{All}
use Rattle.std.proofs.lemmas.List.Elements.{All-nil, All-cons, All-head, All-tail}
use Rattle.guarded_tell.specs.Words.{Tell}
use Rattle.guarded_tell.specs.Hearing.{HearsAll, MayHearAll}
use Rattle.bit_domain.specs.Mixes.{Mix, dom_of, IsInsideMix}
use Rattle.domain_drops.specs.Hearing.{Drop, HearsDrops, MayHearDrops}
use Rattle.mix_store.specs.declared.seat.MixSeat.{MixSeat}
use Rattle.mix_store.specs.declared.store.MixStore.{MixStore}
use Rattle.mix_store.specs.Seats.{seen_of, floor_of, IsSeatOf}
use Rattle.mix_rounds.specs.Steps.{Stepped, MayTell, MayDrop, HasTold, HasDropped, KeepsNumbers, IsGone}
use Rattle.mix_rounds.proofs.MixLaws.{has_inside, dom_any}
use Rattle.mix_rounds.proofs.Stepping.{stepped_none, stepped_more, seat_of_same}

-- a tell takes no number of a mix inside one of which it takes none, and a drop likewise
pub keeps_inside : (b c : Mix) (t : Tell) → IsInsideMix c b → KeepsNumbers b t → KeepsNumbers c t
keeps_inside b c t i k z has = k z (has_inside (dom_of c t.var) (dom_of b t.var) z (dom_any b c i t.var) has)

pub keeps_all_inside : (b c : Mix) (ts : List Tell) → IsInsideMix c b → All (KeepsNumbers b) ts → All (KeepsNumbers c) ts
keeps_all_inside b c ts i all j t h = keeps_inside b c _ i (all j t h)

pub gone_inside : (b c : Mix) (d : Drop) → IsInsideMix c b → IsGone b d → IsGone c d
gone_inside b c d i g has = g (has_inside (dom_of c d.0) (dom_of b d.0) d.1 (dom_any b c i d.0) has)

-- any hearer with a store, a seat and a mark in it, which tells the store what it hears
module _ {H : Type 0} (store : H → MixStore) (seat : H → MixSeat) (mark : H → Bool) (heard : H → Tell → H → Type 0)
    (told : (h : H) (t : Tell) (g : H) → heard h t g → HasTold (seat h) (mark h) t (seat g) (mark g))
    (same_store : (h : H) (t : Tell) (g : H) → heard h t g → store g ≡ store h) where
  abbrev May : H → Tell → Type 0
  May h = MayTell (length (seen_of (seat h))) (floor_of (seat h))

  pub may_hear_all : (may : H → Tell → Type 0) → ((h : H) (t : Tell) → IsSeatOf (store h) (seat h) → May h t → may h t) →
      (h : H) (ts : List Tell) → IsSeatOf (store h) (seat h) → All (May h) ts → MayHearAll may heard h ts
  may_hear_all may allowed h [] s a = tt
  may_hear_all may allowed h (t ∷ ts) s a = (
    allowed h t s (All-head (May h) t ts a),
    λ g j.
        let e : Stepped (seat h) (mark h) (seat g) (mark g) = (told h t g j).stepped in
        may_hear_all may allowed g ts (seat_of_same (store h) (store g) (seat h) (seat g) s e.same (same_store h t g j))
        (subst (λ (f : Option Mix). All (MayTell (length (seen_of (seat g))) f) ts) (sym e.same.floor)
        (subst (λ (n : ℕ). All (MayTell n (floor_of (seat h))) ts) (sym e.inside.same_length) (All-tail (May h) t ts a))),
  )

  pub steps : (h : H) (ts : List Tell) (g : H) → HearsAll heard h ts g → Stepped (seat h) (mark h) (seat g) (mark g)
  steps h [] g e = subst (λ (x : H). Stepped (seat h) (mark h) (seat x) (mark x)) e (stepped_none (seat h) (mark h))
  steps h (t ∷ ts) g (mid, j, rest) =
      stepped_more (seat h) (seat mid) (seat g) (mark h) (mark mid) (mark g) (told h t mid j).stepped (steps mid ts g rest)

  -- no tell takes a number of what the seat has seen then
  pub kept : (h : H) (ts : List Tell) (g : H) → HearsAll heard h ts g → All (KeepsNumbers (seen_of (seat g))) ts
  kept h [] g e = All-nil (KeepsNumbers (seen_of (seat g)))
  kept h (t ∷ ts) g (mid, j, rest) =
      let first = told h t mid j in
      let s : Stepped (seat mid) (mark mid) (seat g) (mark g) = steps mid ts g rest in
      All-cons (KeepsNumbers (seen_of (seat g))) t ts
      (keeps_inside (seen_of (seat mid)) (seen_of (seat g)) t s.inside first.kept)
      (kept mid ts g rest)

-- what each tell leaves, all tells leave
pub same_name : {H N : Type 0} (name : H → N) (heard : H → Tell → H → Type 0) → ((h : H) (t : Tell) (g : H) → heard h t g → name g ≡ name h) →
    (h : H) (ts : List Tell) (g : H) → HearsAll heard h ts g → name g ≡ name h
same_name name heard keeps h [] g e = ap name (sym e)
same_name name heard keeps h (t ∷ ts) g (mid, j, rest) = same_name name heard keeps mid ts g rest ∙ keeps h t mid j

-- a drop may still be made by a seat that has stepped
may_drop_later : (b a : MixSeat) (m n : Bool) (d : Drop) → Stepped b m a n → MayDrop (seen_of b) (floor_of b) d → MayDrop (seen_of a) (floor_of a) d
may_drop_later b a m n d s may = record {
  variable = s.same.bits d.0 may.variable;
  number = may.number;
  held = subst (λ (f : Option Mix). IfSome f (λ g. IsGone g d)) (sym s.same.floor) may.held;
}

pub all_may_drop_later : (b a : MixSeat) (m n : Bool) (ds : List Drop) → Stepped b m a n → All (MayDrop (seen_of b) (floor_of b)) ds → All (MayDrop (seen_of a) (floor_of a)) ds
all_may_drop_later b a m n ds s all i d h = may_drop_later b a m n _ s (all i d h)

-- the same of a hearer that drops from the store what it hears
module _ {H : Type 0} (store : H → MixStore) (seat : H → MixSeat) (mark : H → Bool) (heard : H → Drop → H → Type 0)
    (dropped : (h : H) (d : Drop) (g : H) → heard h d g → HasDropped (seat h) (mark h) d (seat g) (mark g))
    (same_store : (h : H) (d : Drop) (g : H) → heard h d g → store g ≡ store h) where
  abbrev MayD : H → Drop → Type 0
  MayD h = MayDrop (seen_of (seat h)) (floor_of (seat h))

  pub may_drop_all : (may : H → Drop → Type 0) → ((h : H) (d : Drop) → IsSeatOf (store h) (seat h) → MayD h d → may h d) →
      (h : H) (ds : List Drop) → IsSeatOf (store h) (seat h) → All (MayD h) ds → MayHearDrops may heard h ds
  may_drop_all may allowed h [] s a = tt
  may_drop_all may allowed h (d ∷ ds) s a = (
    allowed h d s (All-head (MayD h) d ds a),
    λ g j.
        let e : Stepped (seat h) (mark h) (seat g) (mark g) = (dropped h d g j).stepped in
        may_drop_all may allowed g ds (seat_of_same (store h) (store g) (seat h) (seat g) s e.same (same_store h d g j))
        (all_may_drop_later (seat h) (seat g) (mark h) (mark g) ds e (All-tail (MayD h) d ds a)),
  )

  pub drop_steps : (h : H) (ds : List Drop) (g : H) → HearsDrops heard h ds g → Stepped (seat h) (mark h) (seat g) (mark g)
  drop_steps h [] g e = subst (λ (x : H). Stepped (seat h) (mark h) (seat x) (mark x)) e (stepped_none (seat h) (mark h))
  drop_steps h (d ∷ ds) g (mid, j, rest) =
      stepped_more (seat h) (seat mid) (seat g) (mark h) (mark mid) (mark g) (dropped h d mid j).stepped (drop_steps mid ds g rest)

  -- all numbers that the drops name are gone from what the seat has seen then
  pub all_gone : (h : H) (ds : List Drop) (g : H) → HearsDrops heard h ds g → All (IsGone (seen_of (seat g))) ds
  all_gone h [] g e = All-nil (IsGone (seen_of (seat g)))
  all_gone h (d ∷ ds) g (mid, j, rest) =
      let first = dropped h d mid j in
      let s : Stepped (seat mid) (mark mid) (seat g) (mark g) = drop_steps mid ds g rest in
      All-cons (IsGone (seen_of (seat g))) d ds
      (gone_inside (seen_of (seat mid)) (seen_of (seat g)) d s.inside first.gone)
      (all_gone mid ds g rest)

pub same_drop_name : {H N : Type 0} (name : H → N) (heard : H → Drop → H → Type 0) → ((h : H) (d : Drop) (g : H) → heard h d g → name g ≡ name h) →
    (h : H) (ds : List Drop) (g : H) → HearsDrops heard h ds g → name g ≡ name h
same_drop_name name heard keeps h [] g e = ap name (sym e)
same_drop_name name heard keeps h (d ∷ ds) g (mid, j, rest) = same_drop_name name heard keeps mid ds g rest ∙ keeps h d mid j

-- Hearers that tell a store.
use Rattle.std.proofs.Common.{◌≡◌, ◌<◌, ℕ, Bool, List, [], ◌∷◌, length, sym, ap, subst, ◌∙◌, arith}
use Rattle.std.specs.Prelude.{Option}
use Rattle.std.specs.List.{All}
use Rattle.std.proofs.lemmas.List.Elements.{All-nil, All-cons, All-head, All-tail}
use Rattle.interval.specs.Boxes.{Bounds}
use Rattle.guarded_tell.specs.Words.{Tell}
use Rattle.guarded_tell.specs.Words.{Keeps}
use Rattle.guarded_tell.specs.Hearing.{HearsAll, MayHearAll}
use Rattle.lattice_store.specs.declared.seat.Seat.{Seat}
use Rattle.lattice_store.specs.declared.store.Store.{Store}
use Rattle.lattice_store.specs.Seats.{seen_of, floor_of, IsPast, IsSeatOf, IsSameSeat}
use Rattle.rounds.specs.Steps.{Stepped, MayTell, HasTold}
use Rattle.rounds.proofs.Stepping.{stepped_none, stepped_more, keeps_inside}

pub seat_of_same : (s t : Store) (b a : Seat) → IsSeatOf s b → IsSameSeat b a → t ≡ s → IsSeatOf t a
seat_of_same s t b a h same e = same.store ∙ h ∙ ap (λ (z : Store). z.table.shared.table_id) (sym e)

-- any hearer with a store, a seat and a mark in it, which tells the store what it hears
module _ {H : Type 0} (store : H → Store) (seat : H → Seat) (mark : H → Bool) (heard : H → Tell → H → Type 0)
    (told : (h : H) (t : Tell) (g : H) → heard h t g → HasTold (seat h) (mark h) t (seat g) (mark g))
    (same_store : (h : H) (t : Tell) (g : H) → heard h t g → store g ≡ store h) where
  abbrev May : H → Tell → Type 0
  May h = MayTell (length (seen_of (seat h))) (floor_of (seat h))

  pub may_hear_all : (may : H → Tell → Type 0) → ((h : H) (t : Tell) → IsSeatOf (store h) (seat h) → May h t → may h t) →
      (h : H) (ts : List Tell) → IsSeatOf (store h) (seat h) → All (May h) ts → MayHearAll may heard h ts
  may_hear_all may allowed h [] s a = tt
  may_hear_all may allowed h (t ∷ ts) s a = (
    allowed h t s (All-head (May h) t ts a),
    λ g j.
        let e : Stepped (seat h) (mark h) (seat g) (mark g) = (told h t g j).stepped in
        may_hear_all may allowed g ts (seat_of_same (store h) (store g) (seat h) (seat g) s e.same (same_store h t g j))
        (subst (λ (f : Option Bounds). All (MayTell (length (seen_of (seat g))) f) ts) (sym e.same.floor)
        (subst (λ (n : ℕ). All (MayTell n (floor_of (seat h))) ts) (sym e.inside.same_length) (All-tail (May h) t ts a))),
  )

  pub steps : (h : H) (ts : List Tell) (g : H) → HearsAll heard h ts g → Stepped (seat h) (mark h) (seat g) (mark g)
  steps h [] g e = subst (λ (x : H). Stepped (seat h) (mark h) (seat x) (mark x)) e (stepped_none (seat h) (mark h))
  steps h (t ∷ ts) g (mid, j, rest) =
      stepped_more (seat h) (seat mid) (seat g) (mark h) (mark mid) (mark g) (told h t mid j).stepped (steps mid ts g rest)

  -- a seat that isn't past has seen each told bound
  pub kept : (n : ℕ) (h : H) (ts : List Tell) (g : H) → HearsAll heard h ts g → length (seen_of (seat h)) ≡ n → All (λ t. t.var < n) ts →
      (¬ IsPast (seat g)) → All (Keeps (seen_of (seat g))) ts
  kept n h [] g e l a np = All-nil (Keeps (seen_of (seat g)))
  kept n h (t ∷ ts) g (mid, j, rest) l a np =
      let first = told h t mid j in
      let s : Stepped (seat mid) (mark mid) (seat g) (mark g) = steps mid ts g rest in
      All-cons (Keeps (seen_of (seat g))) t ts
      (keeps_inside (seen_of (seat mid)) (seen_of (seat g)) t s.inside (omega (arith, first.stepped.inside.same_length, l, All-head (λ t. t.var < n) t ts a)) (first.kept (λ q. np (s.same.past q))))
      (kept n mid ts g rest (first.stepped.inside.same_length ∙ l) (All-tail (λ t. t.var < n) t ts a) np)

-- what each tell leaves, all tells leave
pub same_name : {H N : Type 0} (name : H → N) (heard : H → Tell → H → Type 0) → ((h : H) (t : Tell) (g : H) → heard h t g → name g ≡ name h) →
    (h : H) (ts : List Tell) (g : H) → HearsAll heard h ts g → name g ≡ name h
same_name name heard keeps h [] g e = ap name (sym e)
same_name name heard keeps h (t ∷ ts) g (mid, j, rest) = same_name name heard keeps mid ts g rest ∙ keeps h t mid j

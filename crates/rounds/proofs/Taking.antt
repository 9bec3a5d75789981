-- Lanes that are given seats, have run, and are taken back.
use Rattle.std.proofs.Common.{◌≡◌, ◌≢◌, ℕ, ◌+◌, Bool, true, false, List, length, refl, sym, ap, subst, ◌∙◌, arith, ◌⊎◌, inl, inr}
use Rattle.std.specs.Prelude.{◌||◌, IfSome, IfOk, Result, Ok, Err}
use Rattle.memory.specs.declared.NoMemory.{NoMemory}
use Rattle.std.specs.Bool.{OnTrue, OnFalse}
use Rattle.std.proofs.lemmas.Bool.{true≢false}
use borrow.Author.Count.{below_more}
use Rattle.interval.specs.Boxes.{Bounds, IsInside}
use Rattle.guarded_tell.specs.Kernels.{IsKernel, IsClosedUnder}
use Rattle.std.specs.List.{All}
use Rattle.lattice_store.specs.declared.seat.Seat.{Seat}
use Rattle.lattice_store.specs.Seats.{seen_of, floor_of, tighter_of, IsFirst, IsPast, IsSeatOf, IsSameSeat, IsCopyOf}
use Rattle.rounds.specs.declared.dealt.Dealt.{Dealt}
use Rattle.rounds.specs.Shares.{AllNamed, WasHeard, share_at}
use Rattle.rounds.specs.Lanes.{MayBegin, IsGiven, HasRun, AreTaken}
use Rattle.rounds.specs.Ends.{IsRound}
use Rattle.rounds.proofs.BoxLaws.{inside_itself, inside_through, inside_both, tighter_left, tighter_right, tighter_same}
use Rattle.rounds.proofs.Quietness.{TellPlace, heard_later}
use Rattle.rounds.proofs.Rounding.{all_of_shares, floor_named}
use Rattle.rounds.proofs.Stepping.{same_itself, same_through}

either : (m k : Bool) → m || k ≡ true → (m ≡ true) ⊎ (k ≡ true)
either true k e = inl refl
either false k e = inr e

neither : (m k : Bool) → m || k ≡ false → (m ≡ false) × (k ≡ false)
neither true k e = absurd (true≢false e)
neither false k e = (refl, e)

module _ (d : Dealt) (first : Seat) where
  pub taken_none : MayBegin d first → AreTaken d first 0 first false
  taken_none b = record {
    begins = b;
    same = same_itself first;
    inside = inside_itself (seen_of first);
    still = λ f. refl;
    moves = λ f. absurd (true≢false (sym f));
    heard = λ i h. absurd (omega arith);
  }

  pub seat_taken : (done : ℕ) (now : Seat) (m : Bool) → AreTaken d first done now m → IsSeatOf d.store.now now
  seat_taken done now m t = t.same.store ∙ t.begins.of_store

  -- the first seat as a seat is split off
  pub split_later : (old new : Seat) → IsSameSeat old new → seen_of new ≡ seen_of old → AreTaken d first 0 old false → AreTaken d first 0 new false
  split_later old new same seen t = record {
    begins = t.begins;
    same = same_through first old new t.same same;
    inside = subst (λ (b : Bounds). IsInside b (seen_of first)) (sym seen) t.inside;
    still = λ f. seen ∙ t.still f;
    moves = λ f. absurd (true≢false (sym f));
    heard = λ i h. absurd (omega arith);
  }

  pub given_now : (old copy : Seat) → IsCopyOf old copy → AreTaken d first 0 old false → IsGiven d first copy
  given_now old copy c t = record {
    begins = t.begins;
    seat = record {
      of_store = c.store ∙ seat_taken 0 old false t;
      epoch = c.epoch ∙ t.same.epoch;
      floor = c.floor ∙ t.same.floor;
      not_first = λ f. true≢false (sym f ∙ c.first);
      seen = c.seen ∙ t.still refl;
    };
  }

  -- what a seat needs to run a share
  pub kernels_given : (s : Seat) → IsGiven d first s → All (IsKernel (length (seen_of s))) d.kernels.now
  kernels_given s g = subst (λ (b : Bounds). All (IsKernel (length b)) d.kernels.now) (sym g.seat.seen) g.begins.kernels_are

  pub floor_given : (s : Seat) (share : List ℕ) → IsGiven d first s → IfSome (floor_of s) (λ f. AllNamed (λ k. IsClosedUnder k f) share d.kernels.now)
  floor_given s share g = subst (λ f. IfSome f (λ h. AllNamed (λ k. IsClosedUnder k h) share d.kernels.now)) (sym g.seat.floor) (floor_named (floor_of first) share d.kernels.now g.begins.held)

  -- a seat that has run a share
  pub run_now : (i : ℕ) (s t : Seat) (m : Bool) (share : List ℕ) → IsGiven d first s → share_at d.cut.now i ≡ share → IsSameSeat s t → IsInside (seen_of t) (seen_of s) →
      OnFalse m (seen_of t ≡ seen_of s) → OnTrue m (seen_of t ≢ seen_of s) →
      ((¬ IsPast t) → AllNamed (WasHeard (seen_of s) (seen_of t)) share d.kernels.now) → HasRun d first i t m
  run_now i s t m share g e same inside still moves heard = record {
    of_store = same.store ∙ g.seat.of_store;
    epoch = same.epoch ∙ g.seat.epoch;
    not_first = λ f. g.seat.not_first (sym same.first ∙ f);
    inside = subst (λ (b : Bounds). IsInside (seen_of t) b) g.seat.seen inside;
    still = λ f. subst (λ x. OnFalse x (seen_of t ≡ seen_of s)) f still ∙ g.seat.seen;
    moves = λ f q. subst (λ x. OnTrue x (seen_of t ≢ seen_of s)) f moves (q ∙ sym g.seat.seen);
    heard = λ np. subst (λ (b : Bounds). AllNamed (WasHeard b (seen_of t)) (share_at d.cut.now i) d.kernels.now) g.seat.seen
        (subst (λ (xs : List ℕ). AllNamed (WasHeard (seen_of s) (seen_of t)) xs d.kernels.now) (sym e) (heard np));
  }

  -- one more lane is taken back
  module _ (place : TellPlace) (old new other : Seat) (done : ℕ) (m k : Bool) (t : AreTaken d first done old m) (r : HasRun d first done other k)
      (seen : seen_of new ≡ tighter_of (seen_of old) (seen_of other)) (never : IsFirst old → ¬ IsPast other) (same : IsSameSeat old new) where
    in_old : IsInside (seen_of new) (seen_of old)
    in_old = subst (λ (b : Bounds). IsInside b (seen_of old)) (sym seen) (tighter_left (seen_of old) (seen_of other))

    in_other : IsInside (seen_of new) (seen_of other)
    in_other = subst (λ (b : Bounds). IsInside b (seen_of other)) (sym seen) (tighter_right (seen_of old) (seen_of other) (r.inside.same_length ∙ sym t.inside.same_length))

    more_still : (m ≡ false) × (k ≡ false) → seen_of new ≡ seen_of first
    more_still (f, g) = seen ∙ ap (λ (b : Bounds). tighter_of b (seen_of other)) (t.still f) ∙ ap (tighter_of (seen_of first)) (r.still g) ∙ tighter_same (seen_of first)

    more_moves : (m ≡ true) ⊎ (k ≡ true) → seen_of new ≢ seen_of first
    more_moves (inl f) q = t.moves f (inside_both (seen_of old) (seen_of first) t.inside (subst (λ (b : Bounds). IsInside b (seen_of old)) q in_old))
    more_moves (inr f) q = r.moves f (inside_both (seen_of other) (seen_of first) r.inside (subst (λ (b : Bounds). IsInside b (seen_of other)) q in_other))

    pub taken_more : AreTaken d first (done + 1) new (m || k)
    taken_more = record {
      begins = t.begins;
      same = same_through first old new t.same same;
      inside = inside_through (seen_of new) (seen_of old) (seen_of first) in_old t.inside;
      still = λ f. more_still (neither m k f);
      moves = λ f. more_moves (either m k f);
      heard = below_more (λ i. AllNamed (WasHeard (seen_of first) (seen_of new)) (share_at d.cut.now i) d.kernels.now) done
          (λ i h j c has lt q. heard_later place c (seen_of first) (seen_of old) (seen_of new) (subst (IsKernel (length (seen_of first))) q (t.begins.kernels_are j c lt)) t.inside in_old (t.heard i h j c has lt q))
          (λ j c has lt q. heard_later place c (seen_of first) (seen_of other) (seen_of new) (subst (IsKernel (length (seen_of first))) q (t.begins.kernels_are j c lt)) r.inside in_other
          (r.heard (never (t.same.first ∙ t.begins.is_first)) j c has lt q));
    }

  -- all lanes are taken back
  pub round_taken : (count : ℕ) (now : Seat) (m : Bool) → length d.cut.now ≡ count → AreTaken d first count now m → IsRound d.kernels.now (seen_of first) (seen_of now) m
  round_taken count now m e t = record {
    inside = t.inside;
    still = t.still;
    moves = t.moves;
    heard = all_of_shares (WasHeard (seen_of first) (seen_of now)) d.kernels.now d.cut.now t.begins.cut_is (λ i h. t.heard i (omega arith));
  }

  pub round_result : (now : Seat) (count : ℕ) (result : Result Bool NoMemory) → length d.cut.now ≡ count → IfOk result (AreTaken d first count now) →
      IfOk result (IsRound d.kernels.now (seen_of first) (seen_of now))
  round_result now count (Ok m) e t = round_taken count now m e t
  round_result now count (Err x) e t = t

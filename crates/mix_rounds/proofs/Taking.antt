-- Lanes that are given seats, have run, and are taken back.
use Rattle.std.proofs.Common.{◌≡◌, ◌≢◌, ℕ, ◌+◌, Bool, true, false, List, length, refl, sym, ap, subst, ◌∙◌, arith, ◌⊎◌, inl, inr}
use Rattle.std.specs.Prelude.{◌||◌, IfSome}
use Rattle.std.specs.Bool.{OnTrue, OnFalse}
use Rattle.std.specs.List.{All}
use Rattle.std.proofs.lemmas.Bool.{true≢false}
use borrow.Author.Count.{below_more}
use Rattle.guarded_tell.specs.Kernels.{IsKernel}
use Rattle.shared_lanes.specs.Cuts.{AllNamed, share_at}
use Rattle.bit_domain.specs.Mixes.{Mix, IsInsideMix}
use Rattle.mix_store.specs.Domains.{tighter_of}
use Rattle.mix_store.specs.declared.seat.MixSeat.{MixSeat}
use Rattle.mix_store.specs.Seats.{seen_of, floor_of, IsSeatOf, IsSameSeat, IsCopyOf}
use Rattle.mix_rounds.specs.declared.dealt.Dealt.{Dealt}
use Rattle.mix_rounds.specs.Heard.{WasHeard}
use Rattle.mix_rounds.specs.Lanes.{IsLawfulFloor, MayBegin, IsGiven, HasRun, AreTaken}
use Rattle.mix_rounds.specs.Ends.{IsRound}
use Rattle.mix_rounds.proofs.MixLaws.{inside_itself, inside_through, inside_both, tighter_same}
use Rattle.mix_rounds.proofs.Hearing.{heard_later}
use Rattle.mix_rounds.proofs.Naming.{all_of_shares}
use Rattle.mix_rounds.proofs.Stepping.{same_itself, same_through}

either : (m k : Bool) → m || k ≡ true → (m ≡ true) ⊎ (k ≡ true)
either true k e = inl refl
either false k e = inr e

neither : (m k : Bool) → m || k ≡ false → (m ≡ false) × (k ≡ false)
neither true k e = absurd (true≢false e)
neither false k e = (refl, e)

module _ (d : Dealt) (first : MixSeat) where
  pub taken_none : MayBegin d first → AreTaken d first 0 first false
  taken_none b = record {
    begins = b;
    same = same_itself first;
    inside = inside_itself (seen_of first);
    still = λ f. refl;
    moves = λ f. absurd (true≢false (sym f));
    heard = λ i h. absurd (omega arith);
  }

  pub seat_taken : (done : ℕ) (now : MixSeat) (m : Bool) → AreTaken d first done now m → IsSeatOf d.store.now now
  seat_taken done now m t = t.same.store d.store.now t.begins.of_store

  -- the first seat as a seat is split off
  pub split_later : (old new : MixSeat) → IsSameSeat old new → seen_of new ≡ seen_of old → AreTaken d first 0 old false → AreTaken d first 0 new false
  split_later old new same seen t = record {
    begins = t.begins;
    same = same_through first old new t.same same;
    inside = subst (λ (b : Mix). IsInsideMix b (seen_of first)) (sym seen) t.inside;
    still = λ f. seen ∙ t.still f;
    moves = λ f. absurd (true≢false (sym f));
    heard = λ i h. absurd (omega arith);
  }

  pub given_now : (old copy : MixSeat) → IsCopyOf old copy → AreTaken d first 0 old false → IsGiven d first copy
  given_now old copy c t = record {
    begins = t.begins;
    of_store = c.store d.store.now (seat_taken 0 old false t);
    floor = c.floor ∙ t.same.floor;
    seen = c.seen ∙ t.still refl;
  }

  -- what a seat needs to run a share
  pub kernels_given : (s : MixSeat) → IsGiven d first s → All (IsKernel (length (seen_of s))) d.kernels.now
  kernels_given s g = subst (λ (b : Mix). All (IsKernel (length b)) d.kernels.now) (sym g.seen) g.begins.kernels_are

  pub floor_given : (s : MixSeat) → IsGiven d first s → IfSome (floor_of s) (IsLawfulFloor d.kernels.now)
  floor_given s g = subst (λ f. IfSome f (IsLawfulFloor d.kernels.now)) (sym g.floor) g.begins.held

  -- a seat that has run a share
  pub run_now : (i : ℕ) (s t : MixSeat) (m : Bool) (share : List ℕ) → IsGiven d first s → share_at d.cut.now i ≡ share → IsSameSeat s t → IsInsideMix (seen_of t) (seen_of s) →
      OnFalse m (seen_of t ≡ seen_of s) → OnTrue m (seen_of t ≢ seen_of s) →
      AllNamed (WasHeard (seen_of s) (seen_of t)) share d.kernels.now → HasRun d first i t m
  run_now i s t m share g e same inside still moves heard = record {
    of_store = same.store d.store.now g.of_store;
    inside = subst (λ (b : Mix). IsInsideMix (seen_of t) b) g.seen inside;
    still = λ f. subst (λ x. OnFalse x (seen_of t ≡ seen_of s)) f still ∙ g.seen;
    moves = λ f q. subst (λ x. OnTrue x (seen_of t ≢ seen_of s)) f moves (q ∙ sym g.seen);
    heard = subst (λ (b : Mix). AllNamed (WasHeard b (seen_of t)) (share_at d.cut.now i) d.kernels.now) g.seen
        (subst (λ (xs : List ℕ). AllNamed (WasHeard (seen_of s) (seen_of t)) xs d.kernels.now) (sym e) heard);
  }

  -- one more lane is taken back
  module _ (old new other : MixSeat) (done : ℕ) (m k : Bool) (t : AreTaken d first done old m) (r : HasRun d first done other k)
      (seen : seen_of new ≡ tighter_of (seen_of old) (seen_of other)) (in_old : IsInsideMix (seen_of new) (seen_of old)) (in_other : IsInsideMix (seen_of new) (seen_of other)) (same : IsSameSeat old new) where
    more_still : (m ≡ false) × (k ≡ false) → seen_of new ≡ seen_of first
    more_still (f, g) = seen ∙ ap (λ (b : Mix). tighter_of b (seen_of other)) (t.still f) ∙ ap (tighter_of (seen_of first)) (r.still g) ∙ tighter_same (seen_of first)

    more_moves : (m ≡ true) ⊎ (k ≡ true) → seen_of new ≢ seen_of first
    more_moves (inl f) q = t.moves f (inside_both (seen_of old) (seen_of first) t.inside (subst (λ (b : Mix). IsInsideMix b (seen_of old)) q in_old))
    more_moves (inr f) q = r.moves f (inside_both (seen_of other) (seen_of first) r.inside (subst (λ (b : Mix). IsInsideMix b (seen_of other)) q in_other))

    pub taken_more : AreTaken d first (done + 1) new (m || k)
    taken_more = record {
      begins = t.begins;
      same = same_through first old new t.same same;
      inside = inside_through (seen_of new) (seen_of old) (seen_of first) in_old t.inside;
      still = λ f. more_still (neither m k f);
      moves = λ f. more_moves (either m k f);
      heard = below_more (λ i. AllNamed (WasHeard (seen_of first) (seen_of new)) (share_at d.cut.now i) d.kernels.now) done
          (λ i h j c has lt q. heard_later c (seen_of first) (seen_of old) (seen_of new) in_old (t.heard i h j c has lt q))
          (λ j c has lt q. heard_later c (seen_of first) (seen_of other) (seen_of new) in_other (r.heard j c has lt q));
    }

  -- all lanes are taken back
  pub round_taken : (count : ℕ) (now : MixSeat) (m : Bool) → length d.cut.now ≡ count → AreTaken d first count now m → IsRound d.kernels.now (seen_of first) (seen_of now) m
  round_taken count now m e t = record {
    inside = t.inside;
    still = t.still;
    moves = t.moves;
    heard = all_of_shares (WasHeard (seen_of first) (seen_of now)) d.kernels.now d.cut.now t.begins.cut_is (λ i h. t.heard i (omega arith));
  }

  -- the next round may begin
  pub begins_later : (count : ℕ) (now : MixSeat) (m : Bool) → AreTaken d first count now m → MayBegin d now
  begins_later count now m t = record {
    of_store = seat_taken count now m t;
    kernels_are = subst (λ (n : ℕ). All (IsKernel n) d.kernels.now) (sym t.inside.same_length) t.begins.kernels_are;
    cut_is = t.begins.cut_is;
    held = subst (λ f. IfSome f (IsLawfulFloor d.kernels.now)) (sym t.same.floor) t.begins.held;
  }

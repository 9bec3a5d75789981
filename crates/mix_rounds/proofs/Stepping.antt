-- Seats that step.
use Rattle.std.proofs.Common.{◌≡◌, ◌≢◌, Bool, true, false, refl, sym, subst, ◌∙◌, inl, inr}
use Rattle.std.specs.Bool.{OnTrue, OnFalse}
use Rattle.std.proofs.lemmas.Bool.{true≢false, OnTrue_from, OnFalse_from}
use Rattle.bit_domain.specs.Mixes.{Mix, IsInsideMix}
use Rattle.mix_store.specs.declared.seat.MixSeat.{MixSeat}
use Rattle.mix_store.specs.declared.store.MixStore.{MixStore}
use Rattle.mix_store.specs.Seats.{seen_of, IsSeatOf, IsSameSeat}
use Rattle.mix_rounds.specs.Steps.{Stepped}
use Rattle.mix_rounds.proofs.MixLaws.{inside_itself, inside_through, inside_both}

pub same_itself : (s : MixSeat) → IsSameSeat s s
same_itself s = record { store = λ m h. h; floor = refl; same_length = refl; bits = λ v h. h; pairs = λ v h. h }

pub same_through : (a b c : MixSeat) → IsSameSeat a b → IsSameSeat b c → IsSameSeat a c
same_through a b c s t = record {
  store = λ m h. t.store m (s.store m h);
  floor = t.floor ∙ s.floor;
  same_length = t.same_length ∙ s.same_length;
  bits = λ v h. t.bits v (s.bits v h);
  pairs = λ v h. t.pairs v (s.pairs v h);
}

pub stepped_none : (s : MixSeat) (m : Bool) → Stepped s m s m
stepped_none s m = record { same = same_itself s; inside = inside_itself (seen_of s); still = λ f. (f, refl); moves = λ f. inl f }

pub still : (b a : MixSeat) (m : Bool) → IsSameSeat b a → IsInsideMix (seen_of a) (seen_of b) → seen_of a ≡ seen_of b → Stepped b m a m
still b a m s i e = record { same = s; inside = i; still = λ f. (f, e); moves = λ f. inl f }

pub moved : (b a : MixSeat) (m : Bool) → IsSameSeat b a → IsInsideMix (seen_of a) (seen_of b) → seen_of a ≢ seen_of b → Stepped b m a true
moved b a m s i ne = record { same = s; inside = i; still = λ f. absurd (true≢false f); moves = λ f. inr ne }

-- between mixes that are the same at both ends, nothing moved
middle : (a b c : Mix) → IsInsideMix b a → IsInsideMix c b → c ≡ a → b ≡ a
middle a b c i j e = inside_both b a i (subst (λ (x : Mix). IsInsideMix x b) e j)

pub stepped_more : (a b c : MixSeat) (m n o : Bool) → Stepped a m b n → Stepped b n c o → Stepped a m c o
stepped_more a b c m n o s t = record {
  same = same_through a b c s.same t.same;
  inside = inside_through (seen_of c) (seen_of b) (seen_of a) t.inside s.inside;
  still = λ f. let p = t.still f in let q = s.still p.0 in (q.0, p.1 ∙ q.1);
  moves = λ f. elim (t.moves f) [
    | inl p ↦ elim (s.moves p) [ inl q ↦ inl q | inr q ↦ inr (λ e. q (middle (seen_of a) (seen_of b) (seen_of c) s.inside t.inside e)) ]
    | inr p ↦ inr (λ e. p (e ∙ sym (middle (seen_of a) (seen_of b) (seen_of c) s.inside t.inside e)))
  ];
}

-- where the mark began unset, it says by itself whether what was seen moved
pub unmoved : (b a : MixSeat) (m : Bool) → Stepped b false a m → OnFalse m (seen_of a ≡ seen_of b)
unmoved b a m s = OnFalse_from m (seen_of a ≡ seen_of b) (λ f. (s.still f).1)

pub newly_moved : (b a : MixSeat) (m : Bool) → Stepped b false a m → OnTrue m (seen_of a ≢ seen_of b)
newly_moved b a m s = OnTrue_from m (seen_of a ≢ seen_of b) (λ f. elim (s.moves f) [ inl e ↦ absurd (true≢false (sym e)) | inr ne ↦ ne ])

-- a store whose seat it is, where the store is the same one
pub seat_of_same : (s t : MixStore) (b a : MixSeat) → IsSeatOf s b → IsSameSeat b a → t ≡ s → IsSeatOf t a
seat_of_same s t b a h same e = subst (λ (x : MixStore). IsSeatOf x a) (sym e) (same.store s h)

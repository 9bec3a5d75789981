-- Kernels that are heard.
use Rattle.std.proofs.Common.{◌≡◌, ℕ, ℤ, ◌<◌, ◌≤ℤ◌, List, [], ◌∷◌, length, get_or, refl, sym, ap, subst, ◌∙◌, arith}
use Rattle.std.specs.Prelude.{Option, None, Some, IfSome}
use Rattle.std.specs.List.{All, Contains}
use Rattle.std.proofs.lemmas.Int.{ints}
use Rattle.std.proofs.lemmas.List.{get_or_default}
use Rattle.std.proofs.lemmas.List.Elements.{All-head}
use Rattle.interval.specs.Limits.{IsBound}
use Rattle.interval.specs.Boxes.{Bounds, low_of, high_of, IsInRange, IsProper}
use Rattle.guarded_tell.specs.declared.kernel.Kernel.{Kernel}
use Rattle.guarded_tell.specs.Words.{Tell, Side, Low, High, Keeps, KeepsSide, IsProperIn, IsInsideIn, AgreeIn, AreVariables}
use Rattle.guarded_tell.specs.Kernels.{vars_of, tells, IsKernel, IsClosedUnder}
use Rattle.bit_domain.specs.declared.dom.Dom.{Dom}
use Rattle.bit_domain.specs.Mixes.{Mix, dom_of, hull, hull_of, Has, IsBits, IsDomInRange, IsMixInRange, IsInsideDom, IsInsideMix}
use Rattle.domain_drops.specs.Hearing.{Drop}
use Rattle.domain_drops.specs.Drops.{drops, IsInsideMixIn, AgreeMixIn}
use Rattle.domain_drops.specs.Closed.{IsClosedMixUnder}
use Rattle.mix_rounds.specs.Steps.{IsSnapshot, FitsSide, KeepsNumbers, IsGone, MayTell, MayDrop}
use Rattle.mix_rounds.specs.Heard.{HaveNumbers, IsHeardBetween, WasHeard}
use Rattle.mix_rounds.specs.Lanes.{IsLawfulFloorFor}
use Rattle.mix_rounds.proofs.MixLaws.{inside_through, inside_both, has_inside, dom_any, low_at, high_at, length_hull}
use Rattle.mix_rounds.proofs.TellingAll.{keeps_inside, gone_inside}

-- the laws, as their functions state them
abbrev pub Monotone : Type 0
Monotone = (k : Kernel) (outer inner : Bounds) → IsKernel (length outer) k → IsInRange outer →
    length inner ≡ length outer → IsProperIn (vars_of k) outer → IsClosedUnder k inner →
    IsInsideIn (vars_of k) inner outer → All (Keeps inner) (tells k outer)

abbrev pub TellPlace : Type 0
TellPlace = (k : Kernel) (b : Bounds) → IsKernel (length b) k →
    All (λ t. Contains (vars_of k) t.var × (t.var < length b) × IsBound t.bound) (tells k b)

abbrev pub Local : Type 0
Local = (k : Kernel) (b c : Bounds) → AgreeIn (vars_of k) b c → tells k b ≡ tells k c

abbrev pub HullInside : Type 0
HullInside = (vars : List ℕ) (inner outer : Mix) → AreVariables (length outer) vars → IsMixInRange outer →
    IsProperIn vars (hull inner) → IsInsideMixIn vars inner outer → IsInsideIn vars (hull inner) (hull outer)

abbrev pub DropLaw : Type 0
DropLaw = (k : Kernel) (outer inner : Mix) → IsKernel (length outer) k → IsMixInRange outer →
    IsClosedMixUnder k inner → IsInsideMixIn (vars_of k) inner outer →
    All (λ d. ¬ Has (dom_of inner d.0) d.1) (drops k outer)

abbrev pub DropPlace : Type 0
DropPlace = (k : Kernel) (m : Mix) → IsKernel (length m) k → IsMixInRange m →
    All (λ d. Contains (vars_of k) d.0 × (d.0 < length m) × IsBits (dom_of m d.0) × Has (dom_of m d.0) d.1 × IsBound d.1) (drops k m)

abbrev pub DropLocal : Type 0
DropLocal = (k : Kernel) (m n : Mix) → AgreeMixIn (vars_of k) m n → drops k m ≡ drops k n

abbrev pub Within : Type 0
Within = (d : Dom) (z : ℤ) → IsDomInRange d → Has d z → ((hull_of d).0 ≤ℤ z) × (z ≤ℤ (hull_of d).1)

abbrev pub Ends : Type 0
Ends = (d : Dom) → IsDomInRange d → (hull_of d).0 ≤ℤ (hull_of d).1 → Has d (hull_of d).0 × Has d (hull_of d).1

-- a tell that leaves the hull as it is takes no number, and the other way round where there is one
keeps_numbers_side : (s : Side) (b : Bounds) (v : ℕ) (z y : ℤ) (p : ℤ × ℤ) → low_of b v ≡ p.0 → high_of b v ≡ p.1 → (p.0 ≤ℤ y) × (y ≤ℤ p.1) → KeepsSide b s v z → FitsSide s z y
keeps_numbers_side Low b v z y p l h w k = omega (arith, ints, l, w.0, k)
keeps_numbers_side High b v z y p l h w k = omega (arith, ints, h, w.1, k)

pub keeps_numbers : Within → (m : Mix) (t : Tell) → IsMixInRange m → t.var < length m → Keeps (hull m) t → KeepsNumbers m t
keeps_numbers within m t r h k z has =
    keeps_numbers_side t.side (hull m) t.var t.bound z (hull_of (dom_of m t.var)) (low_at m t.var h) (high_at m t.var h) (within (dom_of m t.var) z (r.doms t.var h) has) k

keeps_side : (s : Side) (b : Bounds) (v : ℕ) (z : ℤ) (p : ℤ × ℤ) → low_of b v ≡ p.0 → high_of b v ≡ p.1 → FitsSide s z p.0 → FitsSide s z p.1 → KeepsSide b s v z
keeps_side Low b v z p l h f g = omega (arith, ints, l, f)
keeps_side High b v z p l h f g = omega (arith, ints, h, g)

pub keeps_hull : Ends → (m : Mix) (t : Tell) → IsMixInRange m → t.var < length m → IsProper (hull m) → KeepsNumbers m t → Keeps (hull m) t
keeps_hull ends m t r h p k =
    let e = ends (dom_of m t.var) (r.doms t.var h) (omega (arith, ints, p t.var (omega (arith, length_hull m)), low_at m t.var h, high_at m t.var h)) in
    keeps_side t.side (hull m) t.var t.bound (hull_of (dom_of m t.var)) (low_at m t.var h) (high_at m t.var h) (k _ e.0) (k _ e.1)

-- a kernel of so many variables is one of the hull's
pub hull_kernel : (k : Kernel) (m : Mix) → IsKernel (length m) k → IsKernel (length (hull m)) k
hull_kernel k m r = subst (λ (n : ℕ). IsKernel n k) (sym (length_hull m)) r

inside_in : (k : Kernel) (seen m f : Mix) → IsKernel (length seen) k → AgreeMixIn (vars_of k) m seen → IsInsideMix f seen → IsInsideMixIn (vars_of k) f m
inside_in k seen m f r a i = record { doms = λ j h. subst (IsInsideDom (dom_of f (get_or (vars_of k) j 0))) (sym (a.doms j h)) (i.doms (get_or (vars_of k) j 0) (r.variables.each j h)) }

-- a floor that the kernel doesn't cut is left alone by its tells and drops on a snapshot around it
module _ (monotone : Monotone) (place : TellPlace) (inside : HullInside) (within : Within) (drop : DropLaw) (drop_place : DropPlace) (k : Kernel)
    (seen m : Mix) (b : Bounds) (r : IsKernel (length seen) k) (same_mix : length m ≡ length seen) (same_box : length b ≡ length seen)
    (m_range : IsMixInRange m) (b_range : IsInRange b) (snap : IsSnapshot (vars_of k) seen m b) where
  kernel_m : IsKernel (length m) k
  kernel_m = subst (λ (n : ℕ). IsKernel n k) (sym same_mix) r

  kernel_b : IsKernel (length b) k
  kernel_b = subst (λ (n : ℕ). IsKernel n k) (sym same_box) r

  bounds_in : (f : Mix) → IsClosedMixUnder k f → IsInsideMix f seen → IsInsideIn (vars_of k) (hull f) b
  bounds_in f c i =
      let j = inside (vars_of k) f m kernel_m.variables m_range c.bounds.proper (inside_in k seen m f r snap.agree i) in
      record {
        lows = λ n h. omega (arith, ints, j.lows n h, snap.bounds.lows n h);
        highs = λ n h. omega (arith, ints, j.highs n h, snap.bounds.highs n h);
      }

  kept_floor : (f : Mix) → IsLawfulFloorFor k f → IsInsideMix f seen → All (Keeps (hull f)) (tells k b)
  kept_floor f c i = monotone k b (hull f) kernel_b b_range (length_hull f ∙ i.same_length ∙ sym same_box) snap.proper c.closed.bounds (bounds_in f c.closed i)

  held_tell : (floor : Option Mix) → IfSome floor (IsLawfulFloorFor k) → IfSome floor (λ f. IsInsideMix f seen) → (j : ℕ) (t : Tell) → j < length (tells k b) →
      IfSome floor (λ f. Keeps (hull f) (get_or (tells k b) j t) × KeepsNumbers f (get_or (tells k b) j t))
  held_tell None c i j t h = tt
  held_tell (Some f) c i j t h =
      let keeps = kept_floor f c i j t h in
      let at = (place k b kernel_b j t h).1 in
      (keeps, keeps_numbers within f (get_or (tells k b) j t) c.in_range (omega (arith, at, i.same_length, same_box)) keeps)

  pub may_tell_all : (floor : Option Mix) → IfSome floor (IsLawfulFloorFor k) → IfSome floor (λ f. IsInsideMix f seen) → All (MayTell (length seen) floor) (tells k b)
  may_tell_all floor c i j t h =
      let at = place k b kernel_b j t h in
      record { variable = omega (arith, at.1, same_box); bound = at.2; held = held_tell floor c i j t h }

  held_drop : (floor : Option Mix) → IfSome floor (IsLawfulFloorFor k) → IfSome floor (λ f. IsInsideMix f seen) → (j : ℕ) (d : Drop) → j < length (drops k m) →
      IfSome floor (λ f. IsGone f (get_or (drops k m) j d))
  held_drop None c i j d h = tt
  held_drop (Some f) c i j d h = drop k m f kernel_m m_range c.closed (inside_in k seen m f r snap.agree i) j d h

  -- a variable of the kernel is kept in the copy as the seat keeps it
  bits_at : (v : ℕ) → Contains (vars_of k) v → IsBits (dom_of m v) → IsBits (dom_of seen v)
  bits_at v (i, h, e) bits =
      let at : get_or (vars_of k) i 0 ≡ v = get_or_default (vars_of k) i 0 v h ∙ e in
      subst (λ (w : ℕ). IsBits (dom_of seen w)) at (subst IsBits (snap.agree.doms i h) (subst (λ (w : ℕ). IsBits (dom_of m w)) (sym at) bits))

  pub may_drop_all : (floor : Option Mix) → IfSome floor (IsLawfulFloorFor k) → IfSome floor (λ f. IsInsideMix f seen) → All (MayDrop seen floor) (drops k m)
  may_drop_all floor c i j d h =
      let at = drop_place k m kernel_m m_range j d h in
      record { variable = (omega (arith, at.1, same_mix), bits_at (get_or (drops k m) j d).0 at.0 at.2); number = at.4; held = held_drop floor c i j d h }

-- the hull of the copy is proper in the variables
pub snapshot_proper : (vars : List ℕ) (seen m : Mix) (b : Bounds) → IsSnapshot vars seen m b → IsProperIn vars (hull m)
snapshot_proper vars seen m b s i h = omega (arith, ints, s.proper i h, s.bounds.lows i h, s.bounds.highs i h)

-- the kernel was heard just now
pub heard_now : Local → DropLocal → (k : Kernel) (before seen later m : Mix) (b : Bounds) → IsKernel (length seen) k → length m ≡ length seen → IsSnapshot (vars_of k) seen m b → IsInsideMix seen before → IsInsideMix later seen →
    All (KeepsNumbers later) (tells k b) → All (IsGone later) (drops k m) → IsHeardBetween k before later
heard_now local drop_local k before seen later m b r e s i j kept gone = record {
  between = seen;
  inside = i;
  holds = j;
  kept = subst (λ ts. All (KeepsNumbers later) ts) (local k b (hull seen) agree) kept;
  gone = subst (λ ds. All (IsGone later) ds) (drop_local k m seen s.agree) gone;
}
  where
    hull_dom : (n : ℕ) → n < length (vars_of k) → hull_of (dom_of m (get_or (vars_of k) n 0)) ≡ hull_of (dom_of seen (get_or (vars_of k) n 0))
    hull_dom n h = ap hull_of (s.agree.doms n h)

    agree : AgreeIn (vars_of k) b (hull seen)
    agree = record {
      lows = λ n h. let at = r.variables.each n h in s.bounds.lows n h ∙ low_at m (get_or (vars_of k) n 0) (omega (arith, at, e)) ∙ ap (λ p. p.0) (hull_dom n h) ∙ sym (low_at seen (get_or (vars_of k) n 0) at);
      highs = λ n h. let at = r.variables.each n h in s.bounds.highs n h ∙ high_at m (get_or (vars_of k) n 0) (omega (arith, at, e)) ∙ ap (λ p. p.1) (hull_dom n h) ∙ sym (high_at seen (get_or (vars_of k) n 0) at);
    }

-- where a number is left in an inner mix, it is left in the outer one
numbers_out : (vars : List ℕ) (c d : Mix) → IsInsideMix d c → HaveNumbers vars d → HaveNumbers vars c
numbers_out vars c d j p i h = ((p i h).0, has_inside (dom_of d (get_or vars i 0)) (dom_of c (get_or vars i 0)) (p i h).0 (dom_any c d j (get_or vars i 0)) (p i h).1)

-- a kernel that was heard on the way to a mix, was heard on the way to each inside it
pub heard_later : (k : Kernel) (b c d : Mix) → IsInsideMix d c → WasHeard b c k → WasHeard b d k
heard_later k b c d j h p =
    let w = h (numbers_out (vars_of k) c d j p) in record {
      between = w.between;
      inside = w.inside;
      holds = inside_through d c w.between j w.holds;
      kept = λ n t lt. keeps_inside c d (get_or (tells k (hull w.between)) n t) j (w.kept n t lt);
      gone = λ n t lt. gone_inside c d (get_or (drops k w.between) n t) j (w.gone n t lt);
    }

-- and on the way from each around it
pub heard_from : (k : Kernel) (a b c : Mix) → IsInsideMix b a → WasHeard b c k → WasHeard a c k
heard_from k a b c i h p = let w = h p in record { between = w.between; inside = inside_through w.between b a w.inside i; holds = w.holds; kept = w.kept; gone = w.gone }

-- a list of drops of which each is gone and none is
none_left : (m : Mix) (ds : List Drop) → All (IsGone m) ds → All (λ d. Has (dom_of m d.0) d.1) ds → ds ≡ []
none_left m [] g h = refl
none_left m (d ∷ ds) g h = absurd (All-head (IsGone m) d ds g (All-head (λ (e : Drop). Has (dom_of m e.0) e.1) d ds h))

proper_in : (k : Kernel) (m : Mix) → IsKernel (length m) k → IsProper (hull m) → IsProperIn (vars_of k) (hull m)
proper_in k m r p i h = p (get_or (vars_of k) i 0) (omega (arith, r.variables.each i h, length_hull m))

-- a kernel that was heard on a way on which nothing moved is one under which the mix is closed
pub closed_of : Ends → DropPlace → TellPlace → (k : Kernel) (b c : Mix) → IsKernel (length c) k → IsMixInRange c → IsProper (hull c) → c ≡ b → WasHeard b c k → IsClosedMixUnder k c
closed_of ends drop_place place k b c r range p e h = record {
  bounds = record {
    proper = proper_in k c r p;
    kept = λ i t lt. keeps_hull ends c (get_or (tells k (hull c)) i t) range (omega (arith, (place k (hull c) (hull_kernel k c r) i t lt).1, length_hull c)) p (kept i t lt);
  };
  whole = none_left c (drops k c) gone (λ i d lt. (drop_place k c r range i d lt).3);
}
  where
    numbers : HaveNumbers (vars_of k) c
    numbers i l =
        let v = r.variables.each i l in
        let proper = proper_in k c r p i l in
        let at = ends (dom_of c (get_or (vars_of k) i 0)) (range.doms (get_or (vars_of k) i 0) v) (omega (arith, ints, proper, low_at c (get_or (vars_of k) i 0) v, high_at c (get_or (vars_of k) i 0) v)) in
        ((hull_of (dom_of c (get_or (vars_of k) i 0))).0, at.0)

    w : IsHeardBetween k b c
    w = h numbers

    same : w.between ≡ c
    same = inside_both w.between c (subst (λ (x : Mix). IsInsideMix w.between x) (sym e) w.inside) w.holds

    kept : All (KeepsNumbers c) (tells k (hull c))
    kept = subst (λ (x : Mix). All (KeepsNumbers c) (tells k (hull x))) same w.kept

    gone : All (IsGone c) (drops k c)
    gone = subst (λ (x : Mix). All (IsGone c) (drops k x)) same w.gone

-- All tells of one kernel, heard by the box that they were made for.
use Rattle.std.proofs.Common.{◌≡◌, ◌≢◌, ℕ, ℤ, pos, ◌<◌, ◌≤ℤ◌, ◌⊎◌, inl, inr, ⊎_elim, Bool, true, false, cond, refl, List, [], ◌∷◌, length, take, get_or, set, sym, subst, ◌∙◌, ap, arith}
use Rattle.std.proofs.lemmas.List.{get_or_default, get_or-set_other, length-set}
use Rattle.std.proofs.lemmas.List.Elements.{All-filter, All-head, All-tail, All-take}
use Rattle.std.proofs.lemmas.Bool.{true≢false}
use Rattle.std.specs.Prelude.{Result, Ok, Err, OnOk}
use Rattle.std.specs.Result.{is_err, is_ok}
use Rattle.std.specs.Int.RustNames.{int_le}
use Rattle.std.specs.Bool.{OnTrue}
use Rattle.std.specs.List.{All, Contains, filter}
use Rattle.std.proofs.lemmas.Int.{ints}
use Rattle.interval.specs.Limits.{IsBound}
use Rattle.interval.specs.Boxes.{Bounds, low_of, high_of, IsInRange, IsInside, IsProper, IsCrossed, InsideOrder}
use Rattle.guarded_tell.specs.Words.{Tell}
use Rattle.guarded_tell.specs.Words.{Side}
use Rattle.guarded_tell.specs.Words.{Low, High}
use Rattle.guarded_tell.specs.declared.kernel.Kernel.{Kernel}
use Rattle.guarded_tell.specs.Words.{Keeps, KeepsSide, IsProperIn, IsInsideIn, AgreeIn}
use Rattle.guarded_tell.specs.Hearing.{HearsAll}
use Rattle.guarded_tell.specs.Kernels.{vars_of, tells, IsKernel, IsClosedUnder}
use Rattle.tell_laws.specs.Narrowing.{narrows}
use Rattle.kernel_visits.specs.Narrowing.{narrowing_tells}
use Rattle.kernel_visits.specs.Sides.{IsOneSided, is_sided}
use Rattle.moved_set.specs.Sets.{IsIn, Naming, IsNaming, set_at, side_set_at}
use Rattle.fixpoint_laws.specs.Changes.{TightensOne}
use Rattle.fixpoint_laws.specs.Rounds.{HasRun}
use Rattle.moved_fixpoint.specs.declared.rests.Rests.{Rests}
use Rattle.moved_fixpoint.specs.declared.joiner.Progress.{Progress}
use Rattle.moved_fixpoint.specs.declared.joiner.Progress.TheVariants.{Crossed, Refused}
use Rattle.moved_fixpoint.specs.Moved.{Set, count_of}
use Rattle.moved_fixpoint.specs.Rested.{Heeds, HasRested}
use Rattle.moved_fixpoint.specs.Asked.{has_one, heard_at, AreAsked, IsAskedBy}
use Rattle.moved_fixpoint.specs.Heard.{GoesOn, Becomes, Hears, Joined, joined}
use Rattle.moved_fixpoint.specs.Sweeps.{with_tells, unless_crossed, after_kernel}
use Rattle.kernel_visits.specs.declared.resting.Rest.{Rest}
use Rattle.kernel_visits.specs.Rests.{IsEntailed, IsQuietFor}
use Rattle.seen_tells.specs.Seen.{SideLeavesNone, IsFailedBy, IsEntailedBy}
use Rattle.moved_fixpoint.specs.Gathered.{AreCut, AreGathered}
use Rattle.moved_fixpoint.specs.Runs.{SameAt, SparesSide, IsUnmoved, HasVisited, KernelRuns}
use Rattle.moved_fixpoint.proofs.RestLaws.{in_or_not, proper_of, entailed_here, quiet_here}
use Rattle.moved_fixpoint.proofs.AskedLaws.{asked_more, asked_none}
use Rattle.moved_fixpoint.proofs.Telling.{keeps_inside}
use Rattle.moved_fixpoint.proofs.Hearing.{Effect, IsPlaced, effect, effect_of_all, same_side_back}
use Rattle.moved_fixpoint.proofs.WithTells.{unless_proper, unless_none, crossed_inside, with_narrowing, with_first_inside, all_heard, all_heard_then, becomes}

-- the laws of the kernels, as their functions state them
abbrev pub Monotone : Type 0
Monotone = (k : Kernel) (outer inner : Bounds) → IsKernel (length outer) k → IsInRange outer →
    length inner ≡ length outer → IsProperIn (vars_of k) outer → IsClosedUnder k inner →
    IsInsideIn (vars_of k) inner outer → All (Keeps inner) (tells k outer)

abbrev pub TellPlace : Type 0
TellPlace = (k : Kernel) (b : Bounds) → IsKernel (length b) k →
    All (λ t. Contains (vars_of k) t.var × (t.var < length b) × IsBound t.bound) (tells k b)

abbrev pub Tighter : Type 0
Tighter = (b : Bounds) (t : Tell) → narrows b t ≡ false → Keeps b t

abbrev pub Tight : Type 0
Tight = (b : Bounds) (t : Tell) → narrows b t ≡ true → Keeps b t → ⊥

abbrev pub Sided : Type 0
Sided = (k : Kernel) (b : Bounds) → IsKernel (length b) k → IsProperIn (vars_of k) b → is_sided k ≡ true → pos 1 ≤ℤ low_of b 0 → IsOneSided k b

abbrev pub Local : Type 0
Local = (k : Kernel) (b c : Bounds) → AgreeIn (vars_of k) b c → tells k b ≡ tells k c

pub agree_in : (k : Kernel) (after before : Bounds) → All (SameAt after before) (vars_of k) → AgreeIn (vars_of k) after before
agree_in k after before same = record {
  lows = λ i h. let e = same i 0 h in e.low;
  highs = λ i h. let e = same i 0 h in e.high;
}

pub proper_unless : (k : Kernel) (after before : Bounds) → AgreeIn (vars_of k) after before → IsProperIn (vars_of k) before →
    IsProperIn (vars_of k) after
proper_unless k after before agree proper i h =
    let low = agree.lows i h in let high = agree.highs i h in let p = proper i h in omega (arith, ints)

keeps_side_same : (s : Side) (a b : Bounds) (v : ℕ) (x : ℤ) → SameAt a b v → KeepsSide b s v x → KeepsSide a s v x
keeps_side_same Low a b v x same k = let l = same.low in omega (arith, ints)
keeps_side_same High a b v x same k = let h = same.high in omega (arith, ints)

-- a kernel none of whose variables moved is as quiet as before
pub stays_closed : TellPlace → Local → (k : Kernel) (after before : Bounds) → IsKernel (length before) k →
    All (SameAt after before) (vars_of k) → IsClosedUnder k before → IsClosedUnder k after
stays_closed place local k after before kernel same closed =
    let agree = agree_in k after before same in
    record {
      proper = proper_unless k after before agree closed.proper;
      kept = subst (λ (ts : List Tell). All (Keeps after) ts) (sym (local k after before agree))
          (λ i d h. kept_on (get_or (tells k before) i d) (let q = place k before kernel i d h in q.0) (closed.kept i d h));
    } where
      kept_on : (t : Tell) → Contains (vars_of k) t.var → Keeps before t → Keeps after t
      kept_on t (j, l, e) keeps =
          keeps_side_same t.side after before t.var t.bound (subst (λ (x : ℕ). SameAt after before x) e (same j t.var l)) keeps

-- a box that keeps all tells is narrowed by none
one_none : (t : Tell) (rest : List Tell) (s : Bool) → (s ≡ true → ⊥) → length rest ≡ 0 → length (cond s (t ∷ rest) rest) ≡ 0
one_none t rest true never e = absurd (never refl)
one_none t rest false never e = e

none_narrow : Tight → (b : Bounds) (ts : List Tell) → All (Keeps b) ts → length (filter (narrows b) ts) ≡ 0
none_narrow tight b [] keeps = refl
none_narrow tight b (t ∷ ts) keeps =
    one_none t (filter (narrows b) ts) (narrows b t) (λ e. tight b t e (All-head (Keeps b) t ts keeps)) (none_narrow tight b ts (All-tail (Keeps b) t ts keeps))

-- so that there are none
pub none_of_quiet : Tight → (b : Bounds) (ts : List Tell) → All (Keeps b) ts → filter (narrows b) ts ≡ []
none_of_quiet tight b ts keeps = none_left (filter (narrows b) ts) (none_narrow tight b ts keeps)
  where
    none_left : (us : List Tell) → length us ≡ 0 → us ≡ []
    none_left [] e = refl
    none_left (u ∷ us) e = absurd (omega arith)

one_or_not : (b : Bool) → (b ≡ true) ⊎ (b ≡ false)
one_or_not true = inl refl
one_or_not false = inr refl

one_least : (z : ℤ) → int_le (pos 1) z ≡ true → pos 1 ≤ℤ z
one_least z e = omega (arith, ints)

-- a bound that leaves a variable no number isn't kept by a box inside that is proper there
none_kept : (s : Side) (a b : Bounds) (v : ℕ) (z : ℤ) → SideLeavesNone b s v z → KeepsSide a s v z → low_of b v ≤ℤ low_of a v → high_of a v ≤ℤ high_of b v → low_of a v ≤ℤ high_of a v → ⊥
none_kept Low a b v z none keeps low high proper = absurd (omega (arith, ints))
none_kept High a b v z none keeps low high proper = absurd (omega (arith, ints))

module _ (place : TellPlace) (k : Kernel) (b : Bounds) (kernel : IsKernel (length b) k) where
  pub all_placed : All (IsPlaced (length b)) (tells k b)
  all_placed i d h = let p = place k b kernel i d h in (p.1, p.2)

  pub narrowing_placed : All (IsPlaced (length b)) (narrowing_tells k b)
  narrowing_placed = All-filter (narrows b) (IsPlaced (length b)) (tells k b) all_placed

  pub proper_in : IsProper b → IsProperIn (vars_of k) b
  proper_in proper i h = proper _ (kernel.variables.each i h)

  -- the box hears what was gathered: all tells of the kernel that narrow it, or the first of them, among which one leaves its
  -- variable no number
  module _ (told : List Tell) (are : AreGathered b (narrowing_tells k b) told) where
    cut_all : AreCut b (narrowing_tells k b) told → (P : Tell → Type 0) → All P (narrowing_tells k b) → All P told
    cut_all cut P all = subst (λ (ts : List Tell). All P ts) (sym cut.first) (All-take P cut.count (narrowing_tells k b) all)

    told_all : (P : Tell → Type 0) → All P (narrowing_tells k b) → All P told
    told_all P all = ⊎_elim (λ is. subst (λ (ts : List Tell). All P ts) (sym is) all) (λ cut. cut_all cut P all) are

    cut_last : (cut : AreCut b (narrowing_tells k b) told) (P : Tell → Type 0) → All P told → P cut.last
    cut_last cut P all = subst P cut.among.2 (all cut.among.0 cut.last cut.among.1)

    pub gathered_placed : All (IsPlaced (length b)) told
    gathered_placed = told_all (IsPlaced (length b)) narrowing_placed

    module _ (local : Local) (monotone : Monotone) (range : IsInRange b) (proper : IsProper b) (kernels : List Kernel) (i : ℕ) (here : k ≡ get_or kernels i k) (i_in : i < length kernels)
        (naming : Naming) (named : IsNaming kernels naming) (all : All (IsKernel (length b)) kernels) (sided : Sided) (old : Set) (count : count_of old ≡ length kernels) (rests : Rests) (p : Progress) (tight : Tight) where
      inside_own : (c : Bounds) → IsInside c b → IsInsideIn (vars_of k) c b
      inside_own c i = record { lows = λ j h. i.lows _ (kernel.variables.each j h); highs = λ j h. i.highs _ (kernel.variables.each j h) }

      has_run : (after : Bounds) (p' : Progress) → Effect b p told told after p' → HasRun k b after
      has_run after p' e = record {
        inside = e.inside;
        keeps_closed = λ c proper_c closed i. e.holds c i (told_all (Keeps c) (All-filter (narrows b) (Keeps c) (tells k b) (monotone k b c kernel range i.same_length (proper_in proper) closed (inside_own c i))));
      }

      -- one that leaves its variable no number ends the round
      never : AreCut b (narrowing_tells k b) told → (after : Bounds) (p' : Progress) → Effect b p told told after p' → GoesOn p' → ⊥
      never cut after p' e g =
          let placed = cut_last cut (IsPlaced (length b)) gathered_placed in
          let same = e.inside.same_length in
          none_kept cut.last.side after b cut.last.var cut.last.bound cut.none (cut_last cut (Keeps after) (e.heard g))
          (e.inside.lows cut.last.var placed.0) (e.inside.highs cut.last.var placed.0) (e.proper g proper cut.last.var (omega arith))

      heard_all : Tighter → (after : Bounds) (p' : Progress) → Effect b p told told after p' → GoesOn p' → All (Keeps after) (tells k b)
      heard_all tighter after p' e g = ⊎_elim
          (λ is. (effect_of_all tighter b (tells k b) told all_placed p after p' (subst (λ (ts : List Tell). Effect b p ts told after p') is e)).heard g)
          (λ cut. absurd (never cut after p' e g))
          are

      none_told : (after : Bounds) (p' : Progress) → Effect b p told told after p' → GoesOn p' → All (Keeps b) (tells k b) → length told ≡ 0
      none_told after p' e g keeps = ⊎_elim (λ is. ap length is ∙ none_narrow tight b (tells k b) keeps) (λ cut. absurd (never cut after p' e g)) are

      -- the round is over
      over_runs : (after : Bounds) (p' p'' : Progress) → Effect b p told told after p' → (GoesOn p'' → ⊥) → (p'' ≡ Crossed → p' ≡ Crossed) →
          (GoesOn p → Becomes (after_kernel k b) p'' after) → (rests' : Rests) → HasVisited kernels i k b old rests p after (set old i false) rests' p''
      over_runs after p' p'' e over same step rests' = record {
        run = has_run after p' e;
        same_count = length-set old i false;
        going = λ g. absurd (over g);
        kept = λ g. absurd (over g);
        unmoved = λ g. absurd (over g);
        rested = λ g. absurd (over g);
        heard = λ g. absurd (over g);
        closed = λ g. absurd (over g);
        still = λ s. absurd (over (subst (λ (x : Progress). GoesOn x) (sym s) tt));
        moves = λ s. absurd (over (subst (λ (x : Progress). GoesOn x) (sym s) tt));
        proper = λ g. absurd (over g);
        crossed = λ s. e.crossed (same s);
        stepped = step;
      }

      module _ (order : InsideOrder) (tighter : Tighter) (after : Bounds) (new : Set) (rests' : Rests) (p' : Progress) (e : Effect b p told told after p')
          (asked : AreAsked naming rests' after (has_one after) told (set old i false) new) (rested : HasRested k i after rests rests')
          (step : GoesOn p → Becomes (after_kernel k b) p' after) where
        -- of a kernel that isn't asked then, nothing moved that it would heed
        unheard : (j : ℕ) (w : ℕ) (side : Side) → j < length kernels → (IsIn new j → ⊥) → IsIn (heard_at naming (has_one after) side j) w → Heeds rests' after j w → SparesSide told side w
        unheard j w side h none names heeds y t m same side_is =
            let len = length-set old i false in
            none (asked.told j (omega arith) y t m
            (subst (λ (n : ℕ). IsIn (heard_at naming (has_one after) (get_or told y t).side j) n) same (subst (λ (x : Side). IsIn (heard_at naming (has_one after) x j) w) side_is names))
            (subst (λ (n : ℕ). Heeds rests' after j n) same heeds))

        both_same : GoesOn p' → (w : ℕ) → SparesSide told Low w → SparesSide told High w → SameAt after b w
        both_same g w low high = record { low = e.unread g Low w low; high = e.unread g High w high }

        all_same : GoesOn p' → (j : ℕ) (d : Kernel) → j < length kernels → (IsIn new j → ⊥) → ((w : ℕ) (side : Side) → IsIn (set_at naming j) w → IsIn (heard_at naming (has_one after) side j) w) →
            All (λ v. Heeds rests' after j v → SameAt after b v) (vars_of (get_or kernels j d))
        all_same g j d h none heard x w l heeds =
            let v : ℕ = get_or (vars_of (get_or kernels j d)) x w in
            let names : IsIn (set_at naming j) v = (named.each j d v h).1 (x, l, get_or_default (vars_of (get_or kernels j d)) x v w l) in
            both_same g v (unheard j v Low h none (heard v Low names) heeds) (unheard j v High h none (heard v High names) heeds)

        kernel_at : (j : ℕ) (d : Kernel) → j < length kernels → IsKernel (length after) (get_or kernels j d)
        kernel_at j d h = subst (λ (n : ℕ). IsKernel n (get_or kernels j d)) (sym e.inside.same_length) (all j d h)

        by_sides : GoesOn p' → (j : ℕ) (d : Kernel) → j < length kernels → (IsIn new j → ⊥) → has_one after ≡ true → IsUnmoved (get_or kernels j d) j rests' b after
        by_sides g j d h none one = elim (named.sided j d h) [
          | inl either ↦ inl (all_same g j d h none (λ w side names. subst (λ (t : Bool). IsIn (cond t (side_set_at naming side j) (set_at naming j)) w) (sym one) (either side w names)))
          | inr is ↦ inr (
            sided (get_or kernels j d) after (kernel_at j d h) (proper_of (get_or kernels j d) (length after) after (kernel_at j d h) refl (e.proper g proper)) is (one_least (low_of after 0) one),
            λ x side l reads heeds.
                let v : ℕ = get_or (vars_of (get_or kernels j d)) x 0 in
                e.unread g side v (unheard j v side h none
                (subst (λ (t : Bool). IsIn (cond t (side_set_at naming side j) (set_at naming j)) v) (sym one) (named.reads j d x side h l reads)) heeds),
          )
        ]

        spared : GoesOn p' → (j : ℕ) (d : Kernel) → j < length kernels → (IsIn new j → ⊥) → IsUnmoved (get_or kernels j d) j rests' b after
        spared g j d h none = elim (one_or_not (has_one after)) [
          | inl one ↦ by_sides g j d h none one
          | inr no_one ↦ inl (all_same g j d h none (λ w side names. subst (λ (t : Bool). IsIn (cond t (side_set_at naming side j) (set_at naming j)) w) (sym no_one) names))
        ]

        own_spared : GoesOn p' → (IsIn new i → ⊥) → IsUnmoved k i rests' b after
        own_spared g none = subst (λ (x : Kernel). IsUnmoved x i rests' b after) (sym here) (spared g i k i_in none)

        kept_set : (j : ℕ) → j ≢ i → IsIn old j → IsIn new j
        kept_set j ne is_in = asked.kept j (get_or-set_other old i j false false ne ∙ is_in)

        closed_still : after ≡ b → All (Keeps after) (tells k b) → IsClosedUnder k after
        closed_still same heard = subst (λ (x : Bounds). IsClosedUnder k x) (sym same)
            (record { proper = proper_in proper; kept = subst (λ (x : Bounds). All (Keeps x) (tells k b)) same heard })

        silent : GoesOn p' → after ≡ b → All (Keeps after) (tells k b) → new ≡ set old i false
        silent g same heard = asked.none (none_told after p' e g (subst (λ (x : Bounds). All (Keeps x) (tells k b)) same heard))

        proper_then : GoesOn p' → IsProperIn (vars_of k) after
        proper_then g = proper_of k (length b) after kernel e.inside.same_length (e.proper g proper)

        closed_same : GoesOn p' → All (SameAt after b) (vars_of k) → IsClosedUnder k after
        closed_same g moved =
            let same = agree_in k after b moved in
            record {
              proper = proper_unless k after b same (proper_in proper);
              kept = subst (λ (ts : List Tell). All (Keeps after) ts) (sym (local k after b same)) (heard_all tighter after p' e g);
            }

        closed_alert : GoesOn p' → (IsIn new i → ⊥) → IsIn rests'.open.current i → IsIn rests'.alert.current i → IsClosedUnder k after
        closed_alert g none is_open alert = elim (own_spared g none) [
          | inl same ↦ closed_same g (λ x w l. same x w l (is_open, inl alert))
          | inr one ↦ one.0 b after (order.itself after) e.inside (proper_then g)
              (λ x side l reads. same_side_back side after b (get_or (vars_of k) x 0) (one.1 x side l reads (is_open, inl alert))) (heard_all tighter after p' e g)
        ]

        closed_own : GoesOn p' → (IsIn new i → ⊥) → IsIn rests.open.current i → IsClosedUnder k after
        closed_own g none was_open = elim (in_or_not rests'.open.current i) [
          | inr shut ↦ elim (rested.entailed shut) [
            | inl was_shut ↦ absurd (was_shut was_open)
            | inr entailed ↦ entailed_here order k after (proper_then g) entailed
          ]
          | inl is_open ↦ elim (in_or_not rests'.alert.current i) [
            | inl alert ↦ closed_alert g none is_open alert
            | inr dozing ↦ quiet_here order k after (proper_then g) (rested.dormant dozing)
          ]
        ]

        kernel_runs : HasVisited kernels i k b old rests p after new rests' p'
        kernel_runs = record {
          run = has_run after p' e;
          same_count = asked.same_count ∙ length-set old i false;
          going = e.going;
          kept = λ g j ne is_in. kept_set j ne is_in;
          unmoved = spared;
          rested = λ g. rested;
          heard = heard_all tighter after p' e;
          closed = closed_own;
          still = λ s. let q = e.still s in let g = subst (λ (x : Progress). GoesOn x) (sym s) tt in let h = heard_all tighter after p' e g in (q.0, q.1, closed_still q.1 h, silent g q.1 h);
          moves = e.moves;
          proper = e.proper;
          crossed = e.crossed;
          stepped = step;
        }

      module _ (order : InsideOrder) (tightens : TightensOne) (tighter : Tighter) (after : Bounds) (p' : Progress) (heard : HearsAll Hears (joined b p) told (joined after p')) where
        own_heard : Effect b p told told after p'
        own_heard = effect order tightens (joined b p) told (joined after p') gathered_placed heard

        -- to join what was gathered is to join all tells
        joined_all : GoesOn p' → after ≡ with_tells b (tells k b)
        joined_all g = ⊎_elim
            (λ is. all_heard order tightens (joined b p) told (joined after p') g heard ∙ ap (with_tells b) is ∙ with_narrowing order tightens tighter b b (tells k b) all_placed (order.itself b))
            (λ cut. absurd (never cut after p' own_heard g))
            are

        first_inside : IsInside (with_tells b (narrowing_tells k b)) (with_tells b told)
        first_inside = ⊎_elim
            (λ is. subst (λ (ts : List Tell). IsInside (with_tells b (narrowing_tells k b)) (with_tells b ts)) (sym is) (order.itself (with_tells b (narrowing_tells k b))))
            (λ cut. subst (λ (ts : List Tell). IsInside (with_tells b (narrowing_tells k b)) (with_tells b ts)) (sym cut.first) (with_first_inside order tightens cut.count b (narrowing_tells k b) narrowing_placed))
            are

        -- where that crosses the box, so do all tells
        crossed_all : GoesOn p → p' ≡ Crossed → IsCrossed (with_tells b (tells k b))
        crossed_all g s = elim (own_heard.crossed s) [
          | inl e ↦ absurd (subst GoesOn e g)
          | inr x ↦
              subst IsCrossed (with_narrowing order tightens tighter b b (tells k b) all_placed (order.itself b))
              (crossed_inside (with_tells b told) (with_tells b (narrowing_tells k b)) first_inside
              (crossed_inside after (with_tells b told) (all_heard_then order tightens (joined b p) told (joined after p') g (λ e. absurd (cc)) gathered_placed heard) x))
        ]

        own_step : GoesOn p → Becomes (after_kernel k b) p' after
        own_step g =
            becomes p' (after_kernel k b) after
            (λ h. ap unless_crossed (sym (joined_all h)) ∙ unless_proper after (own_heard.proper h proper))
            (λ s. unless_none (with_tells b (tells k b)) (crossed_all g s))

        pub gathered_over : (GoesOn p' → ⊥) → (new : Set) → new ≡ set old i false → (rests' : Rests) → HasVisited kernels i k b old rests p after new rests' p'
        gathered_over over new e rests' =
            subst (λ (s : Set). HasVisited kernels i k b old rests p after s rests' p') (sym e) (over_runs after p' p' own_heard over (λ s. s) own_step rests')

        pub gathered_refused : (new : Set) → new ≡ set old i false → (rests' : Rests) → HasVisited kernels i k b old rests p after new rests' Refused
        gathered_refused new e rests' =
            subst (λ (s : Set). HasVisited kernels i k b old rests p after s rests' Refused) (sym e) (over_runs after p' Refused own_heard (λ g. g) (λ s. absurd (cc)) (λ g. tt) rests')

        -- the kernel can be asked how long it rests on the box as it is then
        module _ (then : Bounds) (then_is : then ≡ after) where
          pub kernel_after : IsKernel (length then) k
          kernel_after = let same = ap length then_is ∙ own_heard.inside.same_length in subst (λ (n : ℕ). IsKernel n k) (sym same) kernel

          pub length_after : length then ≡ length b
          length_after = ap length then_is ∙ own_heard.inside.same_length

          pub proper_after : GoesOn p' → IsProperIn (vars_of k) then
          proper_after g = proper_of k (length b) then kernel length_after (subst IsProper (sym then_is) (own_heard.proper g proper))

          -- after its one tell the kernel rests for good, where that is its last
          pub entailed_after : (t : Tell) → told ≡ t ∷ [] → GoesOn p' → IsEntailedBy t k b → IsEntailed k then
          entailed_after t is g by c i proper_c =
              let j = subst (λ (x : Bounds). IsInside c x) then_is i in
              let placed = All-head (IsPlaced (length b)) t [] (subst (λ (ts : List Tell). All (IsPlaced (length b)) ts) is gathered_placed) in
              let kept = All-head (Keeps after) t [] (subst (λ (ts : List Tell). All (Keeps after) ts) is (own_heard.heard g)) in
              by c (order.through c after b j own_heard.inside) proper_c
              (keeps_inside after c t (subst (λ (n : ℕ). t.var < n) (sym own_heard.inside.same_length) placed.0) j kept)

          pub last_after : (t : Tell) → told ≡ t ∷ [] → (last : Bool) → GoesOn p' → OnTrue last (IsEntailedBy t k b) → OnTrue last (IsEntailed k then)
          last_after t is true g by = entailed_after t is g by
          last_after t is false g by = tt

        pub gathered_runs : (rested_on : Bounds) → rested_on ≡ after → (rests_before : Rests) → rests_before ≡ rests → (rests' : Rests) → HasRested k i rested_on rests_before rests' →
            (asked_on : Bounds) → asked_on ≡ after → (told' : List Tell) → told' ≡ told → (mid new : Set) → mid ≡ set old i false → AreAsked naming rests' asked_on (has_one asked_on) told' mid new →
            HasVisited kernels i k b old rests p after new rests' p'
        gathered_runs rested_on on_is rests_before before_is rests' rested asked_on asked_is told' told_is mid new mid_is asked =
            kernel_runs order tighter after new rests' p' own_heard
            (subst (λ (s : Set). AreAsked naming rests' after (has_one after) told s new) mid_is
            (subst (λ (ts : List Tell). AreAsked naming rests' after (has_one after) ts mid new) told_is
            (subst (λ (x : Bounds). AreAsked naming rests' x (has_one x) told' mid new) asked_is asked)))
            (subst (λ (r : Rests). HasRested k i after r rests') before_is
            (subst (λ (x : Bounds). HasRested k i x rests_before rests') on_is rested))
            own_step

-- ---- a kernel that tells nothing

pub no_tells : (ts : List Tell) → length ts ≡ 0 → ts ≡ []
no_tells [] e = refl
no_tells (t ∷ ts) e = absurd (omega arith)

-- nothing is gathered only where no tell narrows
pub none_gathered : (b : Bounds) (all told : List Tell) → length told ≡ 0 → AreGathered b all told → all ≡ []
none_gathered b all told e (inl is) = sym is ∙ no_tells told e
none_gathered b all told e (inr cut) = let inside = cut.among.1 in absurd (omega arith)

pub none_heard : (j : Joined) (ts : List Tell) → length ts ≡ 0 → HearsAll Hears j ts j
none_heard j [] e = refl
none_heard j (t ∷ ts) e = absurd (omega arith)

pub none_asked : (naming : Naming) (rests : Rests) (b : Bounds) (by_side : Bool) (ts : List Tell) (set : Set) → length ts ≡ 0 → AreAsked naming rests b by_side ts set set
none_asked naming rests b by_side ts set e = record {
  same_count = refl;
  kept = λ j h. h;
  told = λ j h i d inside. absurd (omega arith);
  none = λ n. refl;
}

-- the kernel by any default
pub any_default : (kernels : List Kernel) (i : ℕ) (k : Kernel) (before : Bounds) (asked : Set) (rests : Rests) (p : Progress) (after : Bounds) (asked_after : Set) (rests_after : Rests) (p_after : Progress) →
    i < length kernels → k ≡ get_or kernels i k → HasVisited kernels i k before asked rests p after asked_after rests_after p_after →
    KernelRuns kernels i before asked rests p after asked_after rests_after p_after
any_default kernels i k before asked rests p after asked_after rests_after p_after h is v d =
    subst (λ (x : Kernel). HasVisited kernels i x before asked rests p after asked_after rests_after p_after) (is ∙ get_or_default kernels i k d h) v

pub here_is : (kernels : List Kernel) (n i : ℕ) (k : Kernel) → All (IsKernel n) kernels → i < length kernels → k ≡ get_or kernels i k → IsKernel n k
here_is kernels n i k all h is = subst (IsKernel n) (sym is) (all i k h)

-- ---- a kernel that tells one thing or two, or whose first tell leaves a variable no number

-- what is gathered of the kernel is gathered of it by any default
pub gathered_any : (kernels : List Kernel) (i : ℕ) (k : Kernel) (b now : Bounds) (ts : List Tell) → i < length kernels → k ≡ get_or kernels i k → now ≡ b → AreGathered now (narrowing_tells k now) ts →
    (d : Kernel) → AreGathered b (narrowing_tells (get_or kernels i d) b) ts
gathered_any kernels i k b now ts h is same told d =
    subst (λ (x : Kernel). AreGathered b (narrowing_tells x b) ts) (is ∙ get_or_default kernels i k d h) (subst (λ (x : Bounds). AreGathered x (narrowing_tells k x) ts) same told)

pub quiet_any : (kernels : List Kernel) (i : ℕ) (k : Kernel) (b now : Bounds) (r : Rest) → i < length kernels → k ≡ get_or kernels i k → now ≡ b → IsQuietFor k now r → (d : Kernel) → IsQuietFor (get_or kernels i d) b r
quiet_any kernels i k b now r h is same quiet d =
    subst (λ (x : Kernel). IsQuietFor x b r) (is ∙ get_or_default kernels i k d h) (subst (λ (x : Bounds). IsQuietFor k x r) same quiet)

-- nor is whether its one tell is its last
pub last_any : (kernels : List Kernel) (i : ℕ) (k : Kernel) (b now : Bounds) (t : Tell) (last : Bool) → i < length kernels → k ≡ get_or kernels i k → now ≡ b → OnTrue last (IsEntailedBy t k now) → (d : Kernel) → OnTrue last (IsEntailedBy t (get_or kernels i d) b)
last_any kernels i k b now t last h is same by d =
    subst (λ (x : Kernel). OnTrue last (IsEntailedBy t x b)) (is ∙ get_or_default kernels i k d h) (subst (λ (x : Bounds). OnTrue last (IsEntailedBy t k x)) same by)

pub last_here : (kernels : List Kernel) (i : ℕ) (k : Kernel) (b : Bounds) (t : Tell) (last : Bool) → k ≡ get_or kernels i k → ((d : Kernel) → OnTrue last (IsEntailedBy t (get_or kernels i d) b)) →
    OnTrue last (IsEntailedBy t k b)
last_here kernels i k b t last is by = subst (λ (x : Kernel). OnTrue last (IsEntailedBy t x b)) (sym is) (by k)

pub gathered_here : (kernels : List Kernel) (i : ℕ) (k : Kernel) (b : Bounds) (ts : List Tell) → k ≡ get_or kernels i k → ((d : Kernel) → AreGathered b (narrowing_tells (get_or kernels i d) b) ts) →
    AreGathered b (narrowing_tells k b) ts
gathered_here kernels i k b ts is told = subst (λ (x : Kernel). AreGathered b (narrowing_tells x b) ts) (sym is) (told k)

pub first_gathered : (k : Kernel) (b : Bounds) (t : Tell) → IsFailedBy k b t → AreGathered b (narrowing_tells k b) (t ∷ [])
first_gathered k b t failed = inr (record {
  count = 1;
  first = sym (λ i. take 1 (failed.first i));
  last = t;
  among = (0, omega arith, refl);
  none = failed.none;
})

pub one_heard : (j after : Joined) (t : Tell) → Hears j t after → HearsAll Hears j (t ∷ []) after
one_heard j after t h = (after, h, refl)

pub one_asked : (naming : Naming) (rests : Rests) (b : Bounds) (by_side : Bool) (t : Tell) (old new : Set) → by_side ≡ has_one b →
    IsAskedBy (λ j. heard_at naming by_side t.side j) rests b t.var old new → AreAsked naming rests b (has_one b) (t ∷ []) old new
one_asked naming rests b by_side t old new is h =
    subst (λ (s : Bool). AreAsked naming rests b s (t ∷ []) old new) is
    (asked_more naming rests b by_side (t ∷ []) 0 t old old new (omega arith) (asked_none naming rests b by_side old) h)

pub two_heard : (j mid after : Joined) (t u : Tell) → Hears j t mid → Hears mid u after → HearsAll Hears j (t ∷ u ∷ []) after
two_heard j mid after t u h g = (mid, h, (after, g, refl))

pub two_asked : (naming : Naming) (rests : Rests) (b : Bounds) (by_side : Bool) (t u : Tell) (old mid new : Set) → by_side ≡ has_one b →
    IsAskedBy (λ j. heard_at naming by_side t.side j) rests b t.var old mid → IsAskedBy (λ j. heard_at naming by_side u.side j) rests b u.var mid new →
    AreAsked naming rests b (has_one b) (t ∷ u ∷ []) old new
two_asked naming rests b by_side t u old mid new is h g =
    let ts : List Tell = t ∷ u ∷ [] in
    subst (λ (s : Bool). AreAsked naming rests b s ts old new) is
    (asked_more naming rests b by_side ts 1 t old mid new (omega arith) (asked_more naming rests b by_side ts 0 t old old mid (omega arith) (asked_none naming rests b by_side old) h) g)

-- ---- what is so after a call

-- what was gathered, as the slice of it and the box are read
pub told_by : (k : Kernel) (now b : Bounds) (items told : List Tell) → b ≡ now → told ≡ items → AreGathered b (narrowing_tells k b) items → AreGathered now (narrowing_tells k now) told
told_by k now b items told e f g =
    let P : Bounds → Type 0 = λ c. AreGathered c (narrowing_tells k c) items in
    subst (λ (ts : List Tell). AreGathered now (narrowing_tells k now) ts) (sym f) (subst P e g)

pub ok_then : {V E : Type 0} (r : Result V E) (P : Type 0) → is_err r ≡ false → OnOk r P → P
ok_then (Ok v) P e p = p
ok_then (Err f) P e p = absurd (true≢false e)

pub then_ok : {V E : Type 0} (r : Result V E) (P : Type 0) → is_ok r ≡ true → OnOk r P → P
then_ok (Ok v) P e p = p
then_ok (Err f) P e p = absurd (true≢false (sym e))

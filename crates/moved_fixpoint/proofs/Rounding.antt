-- Where a round stands after some of its kernels: those from `lo` up to `hi` have been run or passed over.
use Rattle.std.proofs.Common.{◌≡◌, ◌≢◌, ℕ, ◌+◌, ◌-◌, ◌<◌, ◌≤◌, List, [], ◌∷◌, false, length, get_or, ◌⊎◌, inl, inr, sym, refl, ◌∙◌, subst, arith}
use Rattle.std.specs.List.{All}
use Rattle.std.proofs.lemmas.Bool.{cases_lt, cases_eq}
use Rattle.std.proofs.lemmas.Int.{ints}
use Rattle.interval.specs.Boxes.{Bounds, IsInside, IsProper, IsCrossed, InsideOrder}
use Rattle.guarded_tell.specs.declared.kernel.Kernel.{Kernel}
use Rattle.guarded_tell.specs.Words.{Tell, IsProperIn}
use Rattle.guarded_tell.specs.Kernels.{vars_of, tells, IsKernel, IsClosedUnder}
use Rattle.fixpoint_laws.specs.Rounds.{HaveRun}
use Rattle.fixpoint_laws.specs.OneRound.{IsHeardBetween}
use Rattle.moved_set.specs.Sets.{IsIn}
use Rattle.kernel_visits.specs.Rests.{IsEntailed, IsQuietUntilFixed}
use Rattle.moved_fixpoint.specs.declared.rests.Rests.{Rests}
use Rattle.moved_fixpoint.specs.declared.joiner.Progress.{Progress}
use Rattle.moved_fixpoint.specs.declared.joiner.Progress.TheVariants.{Still, Moved, Crossed}
use Rattle.moved_fixpoint.specs.Moved.{Set, count_of}
use Rattle.moved_fixpoint.specs.Resting.{AreEntailedUnlessOpen}
use Rattle.moved_fixpoint.specs.Asked.{AreAskedOrQuiet, AreAtRest}
use Rattle.moved_fixpoint.specs.Heard.{GoesOn}
use Rattle.moved_fixpoint.specs.Runs.{KernelRuns}
use Rattle.moved_fixpoint.specs.Round.{IsRound}
use Rattle.moved_fixpoint.proofs.AskedLaws.{in_range, not_in, unset}
use Rattle.moved_fixpoint.proofs.RestLaws.{in_or_not, same_fixed, proper_of, entailed_quiet, entailed_inside, quiet_inside, entailed_here, quiet_here}
use Rattle.moved_fixpoint.proofs.Telling.{keeps_inside}
use Rattle.moved_fixpoint.proofs.Hearing.{same_side_back}
use Rattle.moved_fixpoint.proofs.SidedLaws.{Placed, sided_closed, sided_rests}
use Rattle.moved_fixpoint.proofs.RunLemmas.{Local, TellPlace, stays_closed}

pub record Stands (kernels : List Kernel) (a : Bounds) (lo hi : ℕ) (b : Bounds) (s : Set) (rests : Rests) (p : Progress) : Type 0 where
  pub run : HaveRun kernels a b
  pub same_count : count_of s ≡ length kernels
  pub proper : GoesOn p → IsProper b
  pub at_rest : GoesOn p → AreAtRest s rests b kernels
  pub heard : GoesOn p → (j : ℕ) (k : Kernel) → j < length kernels → lo ≤ j → j < hi → IsHeardBetween (get_or kernels j k) a b
  pub still : p ≡ Still → b ≡ a
  pub settled : p ≡ Still → (j : ℕ) (k : Kernel) → j < length kernels → lo ≤ j → j < hi → IsClosedUnder (get_or kernels j k) b
  pub empty : p ≡ Still → (j : ℕ) → lo ≤ j → j < hi → get_or s j false ≡ false
  pub moves : p ≡ Moved → b ≢ a
  pub crossed : p ≡ Crossed → IsCrossed b

-- a place below one end, in between, or from the other end on
pub sides : (lo hi j : ℕ) → ((lo ≤ j) × (j < hi)) ⊎ ((j < lo) ⊎ (hi ≤ j))
sides lo hi j = elim (cases_lt j lo) [
  | inl l ↦ inr (inl l)
  | inr g ↦ elim (cases_lt j hi) [ inl l ↦ inl (omega arith, l) | inr h ↦ inr (inr (omega arith)) ]
]

-- before the first kernel, from either end
pub stands_first : InsideOrder → (kernels : List Kernel) (a : Bounds) (at : ℕ) (s : Set) (rests : Rests) → IsProper a → count_of s ≡ length kernels →
    AreAtRest s rests a kernels → Stands kernels a at at a s rests Still
stands_first order kernels a at s rests proper count at_rest = record {
  run = record { inside = order.itself a; keeps_closed = λ c closed i. i };
  same_count = count;
  proper = λ g. proper;
  at_rest = λ g. at_rest;
  heard = λ g j k h l u. absurd (omega arith);
  still = λ e. refl;
  settled = λ e j k h l u. absurd (omega arith);
  empty = λ e j l u. absurd (omega arith);
  moves = λ e. absurd (cc);
  crossed = λ e. absurd (cc);
}

-- after the last
pub stands_last : (kernels : List Kernel) (a : Bounds) (lo hi : ℕ) (b : Bounds) (s : Set) (rests : Rests) (p : Progress) → Stands kernels a lo hi b s rests p →
    lo ≤ 0 → length kernels ≤ hi → IsRound kernels a b s rests p
stands_last kernels a lo hi b s rests p x l h = record {
  run = x.run;
  same_count = x.same_count;
  proper = x.proper;
  at_rest = x.at_rest;
  heard = λ g j k i. x.heard g j k i (omega arith) (omega arith);
  still = λ e. (
    x.still e,
    λ j k i. x.settled e j k i (omega arith) (omega arith),
    λ j is_in. let there = in_range s j is_in in let len = x.same_count in not_in s j (x.empty e j (omega arith) (omega arith)) is_in,
  );
  moves = x.moves;
  crossed = x.crossed;
}

not_still : (p : Progress) → (GoesOn p → ⊥) → p ≡ Still → ⊥
not_still p over e = over (subst (λ (x : Progress). GoesOn x) (sym e) tt)

-- a round that is over before its end
pub stands_over : (kernels : List Kernel) (a : Bounds) (lo hi : ℕ) (b : Bounds) (s : Set) (rests : Rests) (p : Progress) → Stands kernels a lo hi b s rests p →
    (GoesOn p → ⊥) → IsRound kernels a b s rests p
stands_over kernels a lo hi b s rests p x over = record {
  run = x.run;
  same_count = x.same_count;
  proper = x.proper;
  at_rest = λ g. absurd (over g);
  heard = λ g. absurd (over g);
  still = λ e. absurd (not_still p over e);
  moves = x.moves;
  crossed = x.crossed;
}

module _ (order : InsideOrder) (place : TellPlace) (local : Local) (kernels : List Kernel) (a : Bounds) (all : All (IsKernel (length a)) kernels)
    (lo hi : ℕ) (b : Bounds) (s : Set) (rests : Rests) (p : Progress) (x : Stands kernels a lo hi b s rests p) where
  -- kernels that aren't asked are passed over: they are quiet
  pub stands_passed : (lo' hi' : ℕ) → ((j : ℕ) → lo' ≤ j → j < hi' → (j < lo) ⊎ (hi ≤ j) → get_or s j false ≡ false) →
      Stands kernels a lo' hi' b s rests p
  stands_passed lo' hi' missed = record {
    run = x.run;
    same_count = x.same_count;
    proper = x.proper;
    at_rest = x.at_rest;
    heard = λ g j k i above below. elim (sides lo hi j) [
      | inl y ↦ x.heard g j k i y.0 y.1
      | inr out ↦ heard_quiet (get_or kernels j k) (let r = x.at_rest g in r.quiet j k i (not_in s j (missed j above below out)))
    ];
    still = x.still;
    settled = λ e j k i above below. elim (sides lo hi j) [
      | inl y ↦ x.settled e j k i y.0 y.1
      | inr out ↦ let r = x.at_rest (subst (λ (q : Progress). GoesOn q) (sym e) tt) in r.quiet j k i (not_in s j (missed j above below out))
    ];
    empty = λ e j above below. elim (sides lo hi j) [ inl y ↦ x.empty e j y.0 y.1 | inr out ↦ missed j above below out ];
    moves = x.moves;
    crossed = x.crossed;
  } where
    heard_quiet : (k : Kernel) → IsClosedUnder k b → IsHeardBetween k a b
    heard_quiet k closed = record { between = b; inside = x.run.inside; holds = order.itself b; heard = closed.kept }

  -- one more kernel is run
  module _ (i : ℕ) (i_in : i < length kernels) (c : Bounds) (s' : Set) (rests' : Rests) (p' : Progress) (run : KernelRuns kernels i b s rests p c s' rests' p') where
    is_kernel : (j : ℕ) (d : Kernel) → j < length kernels → IsKernel (length b) (get_or kernels j d)
    is_kernel j d h = let e = x.run.inside.same_length in subst (λ (y : ℕ). IsKernel y (get_or kernels j d)) (sym e) (all j d h)

    placed : Placed
    placed k y kernel u t o = let q = place k y kernel u t o in q.1

    heard_on : (j : ℕ) (d : Kernel) → j < length kernels → IsHeardBetween (get_or kernels j d) a b → IsHeardBetween (get_or kernels j d) a c
    heard_on j d h w =
        let r = run d in
        record {
          between = w.between;
          inside = w.inside;
          holds = order.through c b w.between r.run.inside w.holds;
          heard = λ y t o. keeps_inside b c _ (in_box j d h w y t o) r.run.inside (w.heard y t o);
        } where
          in_box : (j : ℕ) (d : Kernel) → j < length kernels → (w : IsHeardBetween (get_or kernels j d) a b) → (y : ℕ) (t : Tell) →
              y < length (tells (get_or kernels j d) w.between) → (get_or (tells (get_or kernels j d) w.between) y t).var < length b
          in_box j d h w y t o =
              let same = w.inside.same_length in
              let same_b = x.run.inside.same_length in
              let q = place (get_or kernels j d) w.between (subst (λ (z : ℕ). IsKernel z (get_or kernels j d)) (sym same) (all j d h)) y t o in
              let q1 = q.1 in omega arith

    heard_here : (d : Kernel) → GoesOn p' → IsHeardBetween (get_or kernels i d) a c
    heard_here d g = let r = run d in record { between = b; inside = x.run.inside; holds = r.run.inside; heard = r.heard g }

    proper_on : GoesOn p' → (j : ℕ) (d : Kernel) → j < length kernels → IsProperIn (vars_of (get_or kernels j d)) c
    proper_on g j d h = let r = run d in proper_of (get_or kernels j d) (length b) c (is_kernel j d h) r.run.inside.same_length (r.proper g (x.proper (r.going g)))

    entailed_on : GoesOn p' → AreEntailedUnlessOpen rests'.open.current c kernels
    entailed_on g j d h shut =
        let r = run d in
        let old = x.at_rest (r.going g) in
        let rested = r.rested g in
        elim (cases_eq j i) [
          | inl e ↦ subst (λ (y : ℕ). IsEntailed (get_or kernels y d) c) (sym e)
              (elim (rested.entailed (λ is_in. shut (subst (λ (y : ℕ). IsIn rests'.open.current y) (sym e) is_in))) [
                | inl was_shut ↦ entailed_inside order (get_or kernels i d) c b r.run.inside (old.entailed i d i_in was_shut)
                | inr entailed ↦ entailed
              ])
          | inr ne ↦ entailed_inside order (get_or kernels j d) c b r.run.inside (old.entailed j d h (λ is_in. shut (rested.open_others j ne ∙ is_in)))
        ]

    -- another kernel than that which was run
    dormant_other : GoesOn p' → (j : ℕ) (d : Kernel) → j < length kernels → j ≢ i → (IsIn s' j → ⊥) → (IsIn rests'.alert.current j → ⊥) → IsQuietUntilFixed (get_or kernels j d) c
    dormant_other g j d h ne none dozing =
        let r = run d in
        let old = x.at_rest (r.going g) in
        let rested = r.rested g in
        elim (in_or_not rests'.open.current j) [
          | inl is_open ↦ (let before = old.dormant j d h (λ is_in. none (r.kept g j ne is_in)) (λ is_in. dozing (rested.alert_others j ne ∙ is_in)) in
              elim (r.unmoved g j d h none) [
                | inl same ↦ quiet_inside order (get_or kernels j d) c b r.run.inside
                    (λ y w l fixed. same_fixed c b (get_or (vars_of (get_or kernels j d)) y w) (same y w l (is_open, inr fixed)) fixed) before
                | inr one ↦ sided_rests placed order (get_or kernels j d) b c (is_kernel j d h) r.run.inside one.0 (λ y side l reads fixed. one.1 y side l reads (is_open, inr fixed)) before
              ])
          | inr shut ↦ entailed_quiet (get_or kernels j d) c (entailed_on g j d h shut)
        ]

    dormant_on : GoesOn p' → (j : ℕ) (d : Kernel) → j < length kernels → (IsIn s' j → ⊥) → (IsIn rests'.alert.current j → ⊥) → IsQuietUntilFixed (get_or kernels j d) c
    dormant_on g j d h none dozing = elim (cases_eq j i) [
      | inl e ↦ subst (λ (y : ℕ). IsQuietUntilFixed (get_or kernels y d) c) (sym e)
          (let r = run d in let rested = r.rested g in rested.dormant (λ is_in. dozing (subst (λ (y : ℕ). IsIn rests'.alert.current y) (sym e) is_in)))
      | inr ne ↦ dormant_other g j d h ne none dozing
    ]

    quiet_here_on : GoesOn p' → (d : Kernel) → (IsIn s' i → ⊥) → IsClosedUnder (get_or kernels i d) c
    quiet_here_on g d none =
        let r = run d in
        let old = x.at_rest (r.going g) in
        elim (in_or_not rests.open.current i) [
          | inl was_open ↦ r.closed g none was_open
          | inr was_shut ↦ entailed_here order (get_or kernels i d) c (proper_on g i d i_in)
              (entailed_inside order (get_or kernels i d) c b r.run.inside (old.entailed i d i_in was_shut))
        ]

    quiet_other : GoesOn p' → (j : ℕ) (d : Kernel) → j < length kernels → j ≢ i → (IsIn s' j → ⊥) → IsClosedUnder (get_or kernels j d) c
    quiet_other g j d h ne none =
        let r = run d in
        let old = x.at_rest (r.going g) in
        elim (in_or_not rests'.open.current j) [
          | inr shut ↦ entailed_here order (get_or kernels j d) c (proper_on g j d h) (entailed_on g j d h shut)
          | inl is_open ↦ elim (in_or_not rests'.alert.current j) [
            | inl alert ↦ (let before = old.quiet j d h (λ is_in. none (r.kept g j ne is_in)) in
                elim (r.unmoved g j d h none) [
                  | inl same ↦ stays_closed place local (get_or kernels j d) c b (is_kernel j d h) (λ y w l. same y w l (is_open, inl alert)) before
                  | inr one ↦ sided_closed placed (get_or kernels j d) b c (is_kernel j d h) one.0 (order.itself c) r.run.inside (proper_on g j d h)
                      (λ y side l reads. same_side_back side c b (get_or (vars_of (get_or kernels j d)) y 0) (one.1 y side l reads (is_open, inl alert))) before
                ])
            | inr dozing ↦ quiet_here order (get_or kernels j d) c (proper_on g j d h) (dormant_other g j d h ne none dozing)
          ]
        ]

    quiet_on : GoesOn p' → AreAskedOrQuiet s' c kernels
    quiet_on g j d h none = elim (cases_eq j i) [
      | inl e ↦ subst (λ (y : ℕ). IsClosedUnder (get_or kernels y d) c) (sym e) (quiet_here_on g d (λ is_in. none (subst (λ (y : ℕ). IsIn s' y) (sym e) is_in)))
      | inr ne ↦ quiet_other g j d h ne none
    ]

    middle_of : (d : Kernel) → c ≡ a → b ≡ a
    middle_of d e = let r = run d in order.equal b a x.run.inside (subst (λ (y : Bounds). IsInside y b) e r.run.inside)

    crossed_on : (d : Kernel) → IsCrossed b → IsCrossed c
    crossed_on d (v, h, less) =
        let r = run d in let length_is = r.run.inside.same_length in let low = r.run.inside.lows v h in let high = r.run.inside.highs v h in (v, omega arith, omega (arith, ints))

    pub stands_run : (d : Kernel) (lo' hi' : ℕ) → ((j : ℕ) → lo' ≤ j → j < hi' → ((lo ≤ j) × (j < hi)) ⊎ (j ≡ i)) → Stands kernels a lo' hi' c s' rests' p'
    stands_run d lo' hi' cover = record {
      run = record {
        inside = let r = run d in order.through c b a r.run.inside x.run.inside;
        keeps_closed = λ y closed j. let r = run d in r.run.keeps_closed y closed.proper (closed.quiet i d i_in) (x.run.keeps_closed y closed j);
      };
      same_count = let r = run d in r.same_count ∙ x.same_count;
      proper = λ g. let r = run d in r.proper g (x.proper (r.going g));
      at_rest = λ g. record { quiet = quiet_on g; entailed = entailed_on g; dormant = dormant_on g };
      heard = λ g j k h above below. elim (cover j above below) [
        | inl y ↦ heard_on j k h (let r = run d in x.heard (r.going g) j k h y.0 y.1)
        | inr e ↦ subst (λ (y : ℕ). IsHeardBetween (get_or kernels y k) a c) (sym e) (heard_here k g)
      ];
      still = λ e. let r = run d in let q = r.still e in q.1 ∙ x.still q.0;
      settled = λ e j k h above below. elim (cover j above below) [
        | inl y ↦ let r = run d in let q = r.still e in subst (λ (z : Bounds). IsClosedUnder (get_or kernels j k) z) (sym q.1) (x.settled q.0 j k h y.0 y.1)
        | inr f ↦ subst (λ (y : ℕ). IsClosedUnder (get_or kernels y k) c) (sym f) (let r = run k in (r.still e).2)
      ];
      empty = λ e j above below. let r = run d in let q = r.still e in let len = x.same_count in
          subst (λ (t : Set). get_or t j false ≡ false) (sym q.3) (unset s i j (omega arith) (elim (cover j above below) [ inl y ↦ inl (x.empty q.0 j y.0 y.1) | inr f ↦ inr f ]));
      moves = λ e. let r = run d in elim (r.moves e) [
        | inl q ↦ (λ same. x.moves q (middle_of d same))
        | inr q ↦ (λ same. q (same ∙ sym (middle_of d same)))
      ];
      crossed = λ e. let r = run d in elim (r.crossed e) [ inl q ↦ crossed_on d (x.crossed q) | inr q ↦ q ];
    }

-- where there is a place, there is a kernel
pub some_kernel : (kernels : List Kernel) (i : ℕ) → i < length kernels → Kernel
some_kernel [] i h = absurd (omega arith)
some_kernel (k ∷ ks) i h = k

pub run_count : (kernels : List Kernel) (i : ℕ) (b : Bounds) (s : Set) (rests : Rests) (p : Progress) (c : Bounds) (s' : Set) (rests' : Rests) (p' : Progress) → i < length kernels →
    KernelRuns kernels i b s rests p c s' rests' p' → count_of s' ≡ count_of s
run_count kernels i b s rests p c s' rests' p' h run = let r = run (some_kernel kernels i h) in r.same_count

-- one place more at the upper end, or at the lower
pub up_cover : (i j : ℕ) → j < i + 1 → ((0 ≤ j) × (j < i)) ⊎ (j ≡ i)
up_cover i j h = elim (cases_lt j i) [ inl l ↦ inl (omega arith, l) | inr g ↦ inr (omega arith) ]

pub down_cover : (i n j : ℕ) → i - 1 ≤ j → j < n → ((i ≤ j) × (j < n)) ⊎ (j ≡ i - 1)
down_cover i n j l h = elim (cases_lt j i) [ inl x ↦ inr (omega arith) | inr g ↦ inl (omega arith, h) ]

module _ (order : InsideOrder) (place : TellPlace) (local : Local) (kernels : List Kernel) (a : Bounds) (all : All (IsKernel (length a)) kernels) where
  pub stands_up : (i : ℕ) (b : Bounds) (s : Set) (rests : Rests) (p : Progress) → Stands kernels a 0 i b s rests p → i < length kernels →
      (c : Bounds) (s' : Set) (rests' : Rests) (p' : Progress) → KernelRuns kernels i b s rests p c s' rests' p' → Stands kernels a 0 (i + 1) c s' rests' p'
  stands_up i b s rests p x h c s' rests' p' r = stands_run order place local kernels a all 0 i b s rests p x i h c s' rests' p' r (some_kernel kernels i h) 0 (i + 1) (λ j l u. up_cover i j u)

  pub stands_down : (i : ℕ) (b : Bounds) (s : Set) (rests : Rests) (p : Progress) → Stands kernels a i (length kernels) b s rests p → 0 < i → i ≤ length kernels →
      (c : Bounds) (s' : Set) (rests' : Rests) (p' : Progress) → KernelRuns kernels (i - 1) b s rests p c s' rests' p' → Stands kernels a (i - 1) (length kernels) c s' rests' p'
  stands_down i b s rests p x some h c s' rests' p' r =
      stands_run order place local kernels a all i (length kernels) b s rests p x (i - 1) (omega arith) c s' rests' p' r (some_kernel kernels (i - 1) (omega arith)) (i - 1) (length kernels) (down_cover i (length kernels))

  module _ (b : Bounds) (s : Set) (rests : Rests) (p : Progress) where
    pub passed_up : (i j : ℕ) → Stands kernels a 0 i b s rests p → ((y : ℕ) → i ≤ y → y < j → get_or s y false ≡ false) → Stands kernels a 0 j b s rests p
    passed_up i j x misses = stands_passed order place local kernels a all 0 i b s rests p x 0 j missed where
      missed : (y : ℕ) → 0 ≤ y → y < j → (y < 0) ⊎ (i ≤ y) → get_or s y false ≡ false
      missed y above below (inl z) = absurd (omega arith)
      missed y above below (inr z) = misses y z below

    pub passed_down : (i j : ℕ) → Stands kernels a i (length kernels) b s rests p → ((y : ℕ) → j ≤ y → y < i → get_or s y false ≡ false) → Stands kernels a j (length kernels) b s rests p
    passed_down i j x misses = stands_passed order place local kernels a all i (length kernels) b s rests p x j (length kernels) missed where
      missed : (y : ℕ) → j ≤ y → y < length kernels → (y < i) ⊎ (length kernels ≤ y) → get_or s y false ≡ false
      missed y above below (inl z) = misses y above z
      missed y above below (inr z) = absurd (omega arith)

-- A list of solutions in the order of the search tree has each solution in the box once, and nothing else.
use Rattle.std.proofs.Common.{◌≡◌, ℕ, zero, suc, ℤ, pos, ◌+◌, ◌-◌, ◌<◌, ◌≤ℤ◌, List, [], ◌∷◌, ◌++◌, length, get_or, drop, refl, sym, ap, subst, ◌∙◌, ◌⊎◌, inl, inr, arith}
use Rattle.std.specs.List.{Contains}
use Rattle.std.proofs.lemmas.Int.{ints}
use Rattle.std.proofs.lemmas.Bool.{cases_lt}
use Rattle.std.proofs.lemmas.List.{get_or_append_left, get_or-append_right, get_or-take, get_or-drop, length-append}
use Rattle.std.proofs.lemmas.List.Elements.{Contains-append_left, Contains-append_right}
use Rattle.interval.specs.Boxes.{Bounds, low_of, high_of, IsInRange, IsProper, IsPoint, IsInside, InsideOrder}
use Rattle.interval.specs.Quotients.{QuotientOrder}
use Rattle.guarded_tell.specs.declared.kernel.Kernel.{Kernel}
use Rattle.guarded_tell.specs.Words.{value_of, point_of}
use Rattle.fixpoint_laws.specs.Changes.{TightensOne}
use Rattle.fixpoint_laws.specs.Fixpoints.{IsClosed, IsGreatest}
use Rattle.constraint_model.specs.declared.model.FznModel.{FznModel}
use Rattle.constraint_model.specs.Searches.{IsSearchOf}
use Rattle.branching.specs.Parts.{AreParts}
use Rattle.branching.specs.Tree.{AreFixed, values_of, SolutionsIn, failed, fixed, parted, AreConstantsFixed, IsSolutionIn, AreDistinct, ListsSolutions, EachOnce}
use Rattle.branching.proofs.TreeLaws.{parts_fit}

-- ---- entries of lists

contains_cases : {X : Type 0} (xs ys : List X) (x : X) → Contains (xs ++ ys) x → Contains xs x ⊎ Contains ys x
contains_cases xs ys x (k, h, e) = elim (cases_lt k (length xs)) [
  | inl l ↦ inl (k, l, sym (get_or_append_left xs ys x k l) ∙ e)
  | inr l ↦ inr (k - length xs, let n = length-append xs ys in omega arith, sym (get_or-append_right xs ys (length xs) k x refl l) ∙ e)
]

contains_one : {X : Type 0} (x y : X) → Contains (x ∷ []) y → x ≡ y
contains_one x y (zero, h, e) = e
contains_one x y (suc k, h, e) = absurd (omega arith)

distinct_append : (xs ys : List (List ℤ)) → AreDistinct xs → AreDistinct ys → ((x : List ℤ) → Contains xs x → Contains ys x → ⊥) → AreDistinct (xs ++ ys)
distinct_append [] ys h k apart = k
distinct_append (x ∷ xs) ys h k apart = (
  λ c. elim (contains_cases xs ys x c) [ inl l ↦ h.0 l | inr r ↦ apart x (0, omega arith, refl) r ],
  distinct_append xs ys h.1 k (λ y l r. apart y (later x xs y l) r),
)
  where
    later : (z : List ℤ) (zs : List (List ℤ)) (y : List ℤ) → Contains zs y → Contains (z ∷ zs) y
    later z zs y (i, l, e) = (suc i, omega arith, e)

-- ---- points

low_point : (b : Bounds) (v : ℕ) → value_of (point_of b) v ≡ low_of b v
low_point [] v = refl
low_point (p ∷ b) zero = refl
low_point (p ∷ b) (suc v) = low_point b v

value_at : (model : FznModel) (b : Bounds) (v : ℕ) → v < length model.vars → get_or (values_of model b) v (pos 0) ≡ low_of b (suc v)
value_at model b v h =
    let one : 1 + v ≡ suc v = omega arith in
    get_or-take (length model.vars) (drop 1 (point_of b)) v (pos 0) h ∙ get_or-drop 1 (point_of b) v (pos 0) ∙ ap (value_of (point_of b)) one ∙ low_point b (suc v)

squeezed : (l h x y : ℤ) → h ≤ℤ l → l ≤ℤ x → x ≤ℤ y → y ≤ℤ h → (x ≡ l) × (y ≡ l)
squeezed l h x y e a b c = (omega (arith, ints), omega (arith, ints))

-- a proper box inside one that leaves one number at most for a pair has the same pair
same_pair : (b c : Bounds) → IsProper b → IsInside b c → (p : ℕ) → p < length c → high_of c p ≤ℤ low_of c p → (low_of b p ≡ low_of c p) × (high_of b p ≡ low_of c p)
same_pair b c proper i p h e = squeezed (low_of c p) (high_of c p) (low_of b p) (high_of b p) e (i.lows p h) (proper p (let n = i.same_length in omega arith)) (i.highs p h)

at_most : (x y : ℤ) → x ≡ y → x ≤ℤ y
at_most x y e = omega (arith, ints)

both : (x y : ℤ) → x ≤ℤ y → y ≤ℤ x → x ≡ y
both x y h k = omega (arith, ints)

-- two boxes with the same pairs
equal_pairs : InsideOrder → (b c : Bounds) → length b ≡ length c → ((p : ℕ) → p < length b → (low_of b p ≡ low_of c p) × (high_of b p ≡ high_of c p)) → b ≡ c
equal_pairs order b c n same = order.equal b c
    (record { same_length = n; lows = λ p h. at_most (low_of c p) (low_of b p) (sym (same p (omega arith)).0); highs = λ p h. at_most (high_of b p) (high_of c p) (same p (omega arith)).1 })
    (record { same_length = sym n; lows = λ p h. at_most (low_of b p) (low_of c p) (same p h).0; highs = λ p h. at_most (high_of c p) (high_of b p) (sym (same p h).1) })

module _ (order : InsideOrder) (tight : TightensOne) (quotient : QuotientOrder) (model : FznModel) (kernels : List Kernel) (rule : IsSearchOf model) where
  -- what is asked of a box
  record Fits (b : Bounds) : Type 0 where
    long : length model.vars < length b
    range : IsInRange b
    constants : AreConstantsFixed model b

  fits_part : (b c : Bounds) → Fits b → IsProper c → IsInside c b → Fits c
  fits_part b c f proper i = record {
    long = let n = i.same_length in let l = f.long in omega arith;
    range = order.in_range c b proper f.range i;
    constants = λ p h k. let m : p < length b = (let n = i.same_length in omega arith) in
        let q = same_pair c b proper i p m (f.constants p m k) in at_most (high_of c p) (low_of c p) (q.1 ∙ sym q.0);
  }

  -- a box that fixes the declared variables is a point
  all_point : (g : Bounds) → IsProper g → AreConstantsFixed model g → AreFixed model g → IsPoint g
  all_point g proper constants all zero h = both (low_of g 0) (high_of g 0) (proper 0 h) (constants zero h (inl refl))
  all_point g proper constants all (suc v) h = elim (cases_lt v (length model.vars)) [
    | inl l ↦ all v l
    | inr l ↦ both (low_of g (suc v)) (high_of g (suc v)) (proper (suc v) h) (constants (suc v) h (inr (omega arith)))
  ]

  -- two points in the box with the same numbers of the declared variables are the same
  same_point : (b p q : Bounds) → Fits b → IsPoint p → IsPoint q → IsProper p → IsProper q → IsInside p b → IsInside q b → values_of model p ≡ values_of model q → p ≡ q
  same_point b p q f pp pq rp rq ip iq e =
      equal_pairs order p q (ip.same_length ∙ sym iq.same_length) (λ v h. let l = lows v h in (l, sym (pp v h) ∙ l ∙ pq v (let n = ip.same_length in let m = iq.same_length in omega arith)))
    where
      constant : (v : ℕ) → v < length p → (v ≡ 0) ⊎ (length model.vars < v) → low_of p v ≡ low_of q v
      constant v h k =
          let m : v < length b = (let n = ip.same_length in omega arith) in
          let s = f.constants v m k in
          (same_pair p b rp ip v m s).0 ∙ sym (same_pair q b rq iq v m s).0

      lows : (v : ℕ) → v < length p → low_of p v ≡ low_of q v
      lows zero h = constant zero h (inl refl)
      lows (suc v) h = elim (cases_lt v (length model.vars)) [
        | inl l ↦ sym (value_at model p v l) ∙ ap (λ (xs : List ℤ). get_or xs v (pos 0)) e ∙ value_at model q v l
        | inr l ↦ constant (suc v) h (inr (omega arith))
      ]

  abbrev Sol : Bounds → List ℤ → Type 0
  Sol b a = IsSolutionIn model kernels b a

  wider : (b c : Bounds) (a : List ℤ) → IsInside b c → Sol b a → Sol c a
  wider b c a i s = record { point = s.point; is_point = s.is_point; closed = s.closed; inside = order.through s.point b c s.inside i; is_values = s.is_values }

  narrower : (b g : Bounds) (a : List ℤ) → IsGreatest g b kernels → Sol b a → Sol g a
  narrower b g a gr s = record { point = s.point; is_point = s.is_point; closed = s.closed; inside = gr.greatest s.point s.closed s.inside; is_values = s.is_values }

  -- ---- a box that is a point

  one_solution : (b g : Bounds) → Fits b → IsGreatest g b kernels → AreFixed model g → ListsSolutions model kernels b (values_of model g ∷ [])
  one_solution b g f gr all =
      let fg = fits_part b g f gr.closed.proper gr.inside in
      let point = all_point g gr.closed.proper fg.constants all in
      record {
        each = λ a. (
          λ c. record { point = g; is_point = point; closed = gr.closed; inside = gr.inside; is_values = sym (contains_one (values_of model g) a c) },
          λ s. (0, omega arith, ap (values_of model) (sym (is_g fg point s (gr.greatest s.point s.closed s.inside))) ∙ sym s.is_values),
        );
        once = (λ c. absurd (none c), tt);
      }
    where
      none : {x : List ℤ} → Contains [] x → ⊥
      none (k, h, e) = omega arith

      is_g : {a : List ℤ} → Fits g → IsPoint g → (s : Sol b a) → IsInside s.point g → s.point ≡ g
      is_g fg point s i = equal_pairs order s.point g i.same_length (λ p h.
          let m : p < length g = (let n = i.same_length in omega arith) in
          let q = same_pair s.point g s.closed.proper i p m (at_most (high_of g p) (low_of g p) (sym (point p m))) in (q.0, q.1 ∙ point p m))

  -- ---- a box that is parted

  two_parts : (b g left right : Bounds) (xs ys : List (List ℤ)) → Fits b → IsGreatest g b kernels → AreParts g left right →
      ListsSolutions model kernels left xs → ListsSolutions model kernels right ys → ListsSolutions model kernels b (xs ++ ys)
  two_parts b g left right xs ys f gr parts first second = record {
    each = λ a. (
      λ c. elim (contains_cases xs ys a c) [
        | inl l ↦ wider left b a (order.through left g b parts.first_part.inside gr.inside) ((first.each a).0 l)
        | inr r ↦ wider right b a (order.through right g b parts.second_part.inside gr.inside) ((second.each a).0 r)
      ],
      λ s. elim (parts.in_one s.point s.is_point (gr.greatest s.point s.closed s.inside)) [
        | inl i ↦ Contains-append_left xs ys a ((first.each a).1 (within left a s i))
        | inr i ↦ Contains-append_right xs ys a ((second.each a).1 (within right a s i))
      ],
    );
    once = distinct_append xs ys first.once second.once (λ a l r. apart a ((first.each a).0 l) ((second.each a).0 r));
  }
    where
      within : (c : Bounds) (a : List ℤ) (s : Sol b a) → IsInside s.point c → Sol c a
      within c a s i = record { point = s.point; is_point = s.is_point; closed = s.closed; inside = i; is_values = s.is_values }

      apart : (a : List ℤ) → Sol left a → Sol right a → ⊥
      apart a s t =
          let i = order.through s.point left b s.inside (order.through left g b parts.first_part.inside gr.inside) in
          let j = order.through t.point right b t.inside (order.through right g b parts.second_part.inside gr.inside) in
          let same = same_point b s.point t.point f s.is_point t.is_point s.closed.proper t.closed.proper i j (sym s.is_values ∙ t.is_values) in
          parts.in_one_alone s.point s.is_point s.inside (subst (λ (x : Bounds). IsInside x right) (sym same) t.inside)

  no_solution : (b : Bounds) → ((c : Bounds) → IsClosed c kernels → IsInside c b → ⊥) → ListsSolutions model kernels b []
  no_solution b fails = record { each = λ a. (λ c. absurd (none c), λ s. absurd (fails s.point s.closed s.inside)); once = tt }
    where
      none : {x : List ℤ} → Contains [] x → ⊥
      none (k, h, e) = omega arith

  lists : (b : Bounds) (found : List (List ℤ)) → Fits b → SolutionsIn model kernels b found → ListsSolutions model kernels b found
  lists b found f (failed _ _ _ _ fails none) = subst (ListsSolutions model kernels b) (sym none) (no_solution b fails)
  lists b found f (fixed _ _ _ g _ gr all e) = subst (ListsSolutions model kernels b) (sym e) (one_solution b g f gr all)
  lists b found f (parted _ _ _ g left right xs ys _ gr br first second e) =
      let fg = fits_part b g f gr.closed.proper gr.inside in
      let parts = parts_fit order tight quotient model rule g left right fg.long fg.range gr.closed.proper br in
      subst (ListsSolutions model kernels b) (sym e)
      (two_parts b g left right xs ys f gr parts
      (lists left xs (fits_part g left fg parts.first_part.proper parts.first_part.inside) first)
      (lists right ys (fits_part g right fg parts.second_part.proper parts.second_part.inside) second))

pub each_once : InsideOrder → TightensOne → QuotientOrder → EachOnce
each_once order tight quotient model kernels b found rule long range constants h =
    lists order tight quotient model kernels rule b found (record { long = long; range = range; constants = constants }) h

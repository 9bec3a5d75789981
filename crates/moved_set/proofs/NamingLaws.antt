-- Rows of masks and the sets of the kernels' variables.
use Rattle.std.proofs.Common.{◌≡◌, ℕ, zero, suc, ◌+◌, ◌*◌, ◌<◌, ◌≤◌, ◌==◌, Bool, true, false, ◌||◌, List, [], ◌∷◌, ◌++◌, length, get_or, refl, sym, ◌∙◌, ap, subst, ◌⊎◌, ⊎_elim, arith, inl, inr}
use Rattle.std.specs.List.{list_any}
use Rattle.std.specs.Prelude.{Vec, All, Contains}
use Rattle.std.specs.declared.alloc.Global.{Global}
use Rattle.std.proofs.lemmas.Bool.{cases_lt, true≢false}
use Rattle.std.proofs.lemmas.Bool.Decides.{Decides-eqb}
use Rattle.std.proofs.lemmas.List.{get_or_past, get_or_default}
use Rattle.std.proofs.lemmas.List.Elements.{Contains-get_or}
use Rattle.std.proofs.lemmas.List.Folds.{Any-from_list_any, list_any_at, list_any-append}
use Rattle.guarded_tell.specs.declared.kernel.Kernel.{Kernel}
use Rattle.kernel_visits.specs.declared.shape.Shape.{Shape}
use Rattle.guarded_tell.specs.Kernels.{vars_of, IsKernel}
use Rattle.guarded_tell.specs.Words.{Side, Low, High}
use Rattle.kernel_visits.specs.Sides.{is_sided}
use Rattle.moved_set.specs.declared.mask.Mask.{Mask}
use Rattle.moved_set.specs.declared.parts.Part.{Part}
use Rattle.moved_set.specs.Sets.{IsIn, Naming, IsNaming, IsAskedByEither, set_at, side_sets}
use Rattle.moved_set.specs.Words.{hits, names}
use Rattle.moved_set.specs.Building.{AreGroupsOf}
use Rattle.moved_set.specs.Parts.{kind_at, key_at, list_at, part_at, own_keys_at, AreParts}
use Rattle.moved_set.specs.Rows.{row_at, AreRowsTo}
use Rattle.moved_set.specs.Asking.{masks_at, some_uses, asks, asked_sets, row_of, side_row}
use Rattle.moved_set.proofs.GroupLaws.{or_cases, or_left, or_right}
use Rattle.moved_set.proofs.PartLaws.{below_all, in_list}
use Rattle.moved_set.proofs.KeyLaws.{kind_of_side, kind_below, kind_both, kind_asks, keys_are, own_key, part_of_kernel, place_in_part}
use Rattle.moved_set.proofs.AskingLaws.{sets_length, set_has, set_length}

one_of : (x l : ℕ) → Contains (x ∷ []) l → x ≡ l
one_of x l c = only x l c.0 c.1 c.2
  where
    only : (x l i : ℕ) → i < 1 → get_or (x ∷ []) i l ≡ l → x ≡ l
    only x l zero h e = e
    only x l (suc i) h e = absurd (omega arith)

in_one : (x l : ℕ) → x ≡ l → Contains (x ∷ []) l
in_one x l e = (0, omega arith, e)

-- the rows of the lists' users, as the code lends what they are made of
pub users_lent : (lent parts : List Part) (to lent_count count : ℕ) (rows : List (Vec ℕ Global)) → lent ≡ parts → length parts ≡ to → lent_count ≡ count
    → AreRowsTo (λ j. (part_at lent j).list ∷ []) (length lent) lent_count rows → AreRowsTo (λ j. (part_at parts j).list ∷ []) to count rows
users_lent lent parts to lent_count count rows is len count_is are =
    subst (λ (n : ℕ). AreRowsTo (λ j. (part_at parts j).list ∷ []) to n rows) count_is
    (subst (λ (n : ℕ). AreRowsTo (λ j. (part_at parts j).list ∷ []) n lent_count rows) len
    (subst (λ (ps : List Part). AreRowsTo (λ j. (part_at ps j).list ∷ []) (length ps) lent_count rows) is are))

-- the groups of rows, as the code lends these
pub groups_lent : (rows lent : List (Vec ℕ Global)) (count : ℕ) (groups : List (List Mask)) → lent ≡ rows → length rows ≡ count → AreGroupsOf (row_at lent) (length lent) groups → AreGroupsOf (row_at rows) count groups
groups_lent rows lent count groups is len are =
    subst (λ (n : ℕ). AreGroupsOf (row_at rows) n groups) len (subst (λ (rs : List (Vec ℕ Global)). AreGroupsOf (row_at rs) (length rs) groups) is are)

-- a number is in a list where the test finds it
from_any : (xs : List ℕ) (j : ℕ) → list_any (λ n. j == n) xs ≡ true → Contains xs j
from_any xs j h =
    let some = Any-from_list_any (λ n. j == n) xs h in
    let same : j ≡ some.1 = (Decides-eqb j some.1).0 some.4 in
    (some.0, some.2, get_or_default xs some.0 j some.1 some.2 ∙ some.3 ∙ sym same)

to_any : (xs : List ℕ) (j : ℕ) → Contains xs j → list_any (λ n. j == n) xs ≡ true
to_any xs j some = list_any_at (λ n. j == n) xs some.0 j some.1 ((Decides-eqb j (get_or xs some.0 j)).1 (sym some.2))

-- ---- the groups of a variable

-- a kernel that one of the three groups has is in the row
row_has : (own : List (List Mask)) (v kind j : ℕ) → kind < 3 → names (masks_at own (3 * v + kind)) j ≡ true → names (row_of own v) j ≡ true
row_has own v kind j h named =
    let a : List Mask = masks_at own (3 * v) in
    let b : List Mask = masks_at own (3 * v + 1) in
    let c : List Mask = masks_at own (3 * v + 2) in
    let all : names (row_of own v) j ≡ ((names a j || names b j) || names c j) =
    list_any-append (hits j) (a ++ b) c ∙ ap (λ (t : Bool). t || names c j) (list_any-append (hits j) a b) in
    all ∙ by kind h named
  where
    by : (kind : ℕ) → kind < 3 → names (masks_at own (3 * v + kind)) j ≡ true → ((names (masks_at own (3 * v)) j || names (masks_at own (3 * v + 1)) j) || names (masks_at own (3 * v + 2)) j) ≡ true
    by zero h n = or_left (names (masks_at own (3 * v)) j || names (masks_at own (3 * v + 1)) j) (names (masks_at own (3 * v + 2)) j)
        (or_left (names (masks_at own (3 * v)) j) (names (masks_at own (3 * v + 1)) j) (ap (λ (i : ℕ). names (masks_at own i) j) (omega arith) ∙ n))
    by (suc zero) h n = or_left (names (masks_at own (3 * v)) j || names (masks_at own (3 * v + 1)) j) (names (masks_at own (3 * v + 2)) j)
        (or_right (names (masks_at own (3 * v)) j) (names (masks_at own (3 * v + 1)) j) n)
    by (suc (suc zero)) h n = or_right (names (masks_at own (3 * v)) j || names (masks_at own (3 * v + 1)) j) (names (masks_at own (3 * v + 2)) j) n
    by (suc (suc (suc kind))) h n = absurd (omega arith)

-- and no other
has_row : (own : List (List Mask)) (v j : ℕ) → names (row_of own v) j ≡ true → (kind : ℕ) × (kind < 3) × (names (masks_at own (3 * v + kind)) j ≡ true)
has_row own v j named =
    let a : List Mask = masks_at own (3 * v) in
    let b : List Mask = masks_at own (3 * v + 1) in
    let c : List Mask = masks_at own (3 * v + 2) in
    let all : ((names a j || names b j) || names c j) ≡ true =
    ap (λ (t : Bool). t || names c j) (sym (list_any-append (hits j) a b)) ∙ sym (list_any-append (hits j) (a ++ b) c) ∙ named in
    or_cases (names a j || names b j) (names c j) all
    (λ ab. or_cases (names a j) (names b j) ab
    (λ n. (0, omega arith, ap (λ (i : ℕ). names (masks_at own i) j) (omega arith) ∙ n))
    (λ n. (1, omega arith, n)))
    (λ n. (2, omega arith, n))

-- the row of a side has those of its kind and of both
side_has : (own : List (List Mask)) (side : Side) (v kind j : ℕ) → (kind ≡ kind_of_side side) ⊎ (kind ≡ 1) → names (masks_at own (3 * v + kind)) j ≡ true → names (side_row own side v) j ≡ true
side_has own Low v kind j is named =
    list_any-append (hits j) (masks_at own (3 * v)) (masks_at own (3 * v + 1))
    ∙ elim is [
      | inl e ↦ or_left (names (masks_at own (3 * v)) j) (names (masks_at own (3 * v + 1)) j) (ap (λ (i : ℕ). names (masks_at own i) j) (omega arith) ∙ named)
      | inr e ↦ or_right (names (masks_at own (3 * v)) j) (names (masks_at own (3 * v + 1)) j) (ap (λ (i : ℕ). names (masks_at own (3 * v + i)) j) (sym e) ∙ named)
    ]
side_has own High v kind j is named =
    list_any-append (hits j) (masks_at own (3 * v + 1)) (masks_at own (3 * v + 2))
    ∙ elim is [
      | inl e ↦ or_right (names (masks_at own (3 * v + 1)) j) (names (masks_at own (3 * v + 2)) j) (ap (λ (i : ℕ). names (masks_at own (3 * v + i)) j) (sym e) ∙ named)
      | inr e ↦ or_left (names (masks_at own (3 * v + 1)) j) (names (masks_at own (3 * v + 2)) j) (ap (λ (i : ℕ). names (masks_at own (3 * v + i)) j) (sym e) ∙ named)
    ]

is_or_not : (b : Bool) → (b ≡ true) ⊎ (b ≡ false)
is_or_not true = inl refl
is_or_not false = inr refl

-- the masks are those of the kernels' variables
module _ (kernels : List Kernel) (lists : List (List ℕ)) (parts : List Part) (count : ℕ) (own_rows lists_of users_rows : List (Vec ℕ Global)) (own users : List (List Mask))
    (kernels_are : All (IsKernel count) kernels) (parts_are : AreParts kernels (length kernels) lists parts)
    (own_are : AreRowsTo (own_keys_at kernels lists parts) (length kernels) (3 * count) own_rows)
    (lists_are : AreRowsTo (list_at lists) (length lists) count lists_of)
    (users_are : AreRowsTo (λ j. (part_at parts j).list ∷ []) (length kernels) (length lists) users_rows)
    (own_masks : AreGroupsOf (row_at own_rows) (3 * count) own) (users_masks : AreGroupsOf (row_at users_rows) (length lists) users) where
  -- the kernels that have a key are those of its group
  key_named : (j : ℕ) (d : Kernel) (place : ℕ) → j < length kernels → get_or (vars_of (get_or kernels j d)) place 0 < count
      → Contains (own_keys_at kernels lists parts j) (key_at (get_or kernels j d) place)
      → names (masks_at own (3 * get_or (vars_of (get_or kernels j d)) place 0 + kind_at (get_or kernels j d) place)) j ≡ true
  key_named j d place h lt c =
      let key : ℕ = key_at (get_or kernels j d) place in
      let kind = kind_below (get_or kernels j d) place in
      let below : key < 3 * count = omega arith in
      own_masks.each key j below ∙ to_any (row_at own_rows key) j ((own_are.each key below j).1 (h, c))

  named_key : (j v kind : ℕ) → v < count → kind < 3 → names (masks_at own (3 * v + kind)) j ≡ true → (j < length kernels) × Contains (own_keys_at kernels lists parts j) (3 * v + kind)
  named_key j v kind lt h named =
      let below : 3 * v + kind < 3 * count = omega arith in
      (own_are.each (3 * v + kind) below j).0 (from_any (row_at own_rows (3 * v + kind)) j (sym (own_masks.each (3 * v + kind) j below) ∙ named))

  -- a variable of the kernel's list asks for it by whichever rows of own variables
  list_asks : (rows : ℕ → List Mask) (j v : ℕ) → j < length kernels → v < count → Contains (list_at lists (part_at parts j).list) v → asks rows lists_of users v j ≡ true
  list_asks rows j v h k listed =
      let part = parts_are.each j h in
      let l : ℕ = (part_at parts j).list in
      let there : Contains (row_at lists_of v) l = (lists_are.each v k l).1 (part.there, listed) in
      let user : names (masks_at users l) j ≡ true = users_masks.each l j part.there ∙ to_any (row_at users_rows l) j ((users_are.each l part.there j).1 (h, in_one l l refl)) in
      let at : names (masks_at users (get_or (row_at lists_of v) there.0 l)) j ≡ true = ap (λ (n : ℕ). names (masks_at users n) j) there.2 ∙ user in
      or_right (names (rows v) j) (some_uses users j (row_at lists_of v)) (list_any_at (λ n. names (masks_at users n) j) (row_at lists_of v) there.0 l there.1 at)

  -- a place of a kernel asks for it by rows that have its kind
  place_asks : (rows : ℕ → List Mask) (j : ℕ) (d : Kernel) (place : ℕ) → j < length kernels → place < length (vars_of (get_or kernels j d))
      → ((v : ℕ) → names (masks_at own (3 * v + kind_at (get_or kernels j d) place)) j ≡ true → names (rows v) j ≡ true)
      → asks rows lists_of users (get_or (vars_of (get_or kernels j d)) place 0) j ≡ true
  place_asks rows j d place h inside has =
      let k : Kernel = get_or kernels j d in
      let v : ℕ = get_or (vars_of k) place 0 in
      let below : v < count = (kernels_are j d h).variables.each place inside in
      elim (place_in_part lists (part_at parts j) k place (part_of_kernel kernels lists parts j d h parts_are) inside) [
        | inl mine ↦ or_left (names (rows v) j) (some_uses users j (row_at lists_of v))
            (has v (key_named j d place h below (subst (λ (ks : List ℕ). Contains ks (key_at k place)) (sym (keys_are kernels lists parts j d h)) mine)))
        | inr listed ↦ list_asks rows j v h below listed
      ]

  -- a variable of a kernel asks for it
  asks_for : (j : ℕ) (d : Kernel) (v : ℕ) → j < length kernels → Contains (vars_of (get_or kernels j d)) v → asks (row_of own) lists_of users v j ≡ true
  asks_for j d v h c =
      let k : Kernel = get_or kernels j d in
      let is : get_or (vars_of k) c.0 0 ≡ v = get_or_default (vars_of k) c.0 0 v c.1 ∙ c.2 in
      subst (λ (w : ℕ). asks (row_of own) lists_of users w j ≡ true) is
      (place_asks (row_of own) j d c.0 h c.1 (λ w. row_has own w (kind_at k c.0) j (kind_below k c.0)))

  -- and no other kernel
  asked_for : (j : ℕ) (d : Kernel) (v : ℕ) → j < length kernels → v < count → asks (row_of own) lists_of users v j ≡ true → Contains (vars_of (get_or kernels j d)) v
  asked_for j d v h k named =
      let kernel : Kernel = get_or kernels j d in
      or_cases (names (row_of own v) j) (some_uses users j (row_at lists_of v)) named
      (λ mine.
      let p = has_row own v j mine in
      let c = named_key j v p.0 k p.1 p.2 in
      let q = own_key lists (part_at parts j) kernel (3 * v + p.0) (part_of_kernel kernels lists parts j d h parts_are)
      (subst (λ (ks : List ℕ). Contains ks (3 * v + p.0)) (keys_are kernels lists parts j d h) c.1) in
      let kind = kind_below kernel q.0 in
      let small = p.1 in
      let key : 3 * v + p.0 ≡ 3 * get_or (vars_of kernel) q.0 0 + kind_at kernel q.0 = q.2 in
      let is : get_or (vars_of kernel) q.0 0 ≡ v = omega arith in
      (q.0, q.1, get_or_default (vars_of kernel) q.0 v 0 q.1 ∙ is))
      (λ used.
      let some = Any-from_list_any (λ n. names (masks_at users n) j) (row_at lists_of v) used in
      let l : ℕ = some.1 in
      let there : Contains (row_at lists_of v) l = (some.0, some.2, get_or_default (row_at lists_of v) some.0 l l some.2 ∙ some.3) in
      let pl = (lists_are.each v k l).0 there in
      let pu = (users_are.each l pl.0 j).0 (from_any (row_at users_rows l) j (sym (users_masks.each l j pl.0) ∙ some.4)) in
      let same = one_of (part_at parts j).list l pu.1 in
      let listed : Contains (list_at lists (part_at parts j).list) v = subst (λ (i : ℕ). Contains (list_at lists i) v) (sym same) pl.1 in
      let part = part_of_kernel kernels lists parts j d h parts_are in
      in_list (vars_of kernel) (part_at parts j).before (list_at lists (part_at parts j).list) v part.has listed)

  module _ (shapes : List Shape) where
    abbrev named : Naming
    named = record { count = count; sets = asked_sets (row_of own) lists_of users count (length kernels); lows = asked_sets (side_row own Low) lists_of users count (length kernels); highs = asked_sets (side_row own High) lists_of users count (length kernels); shapes = shapes }

    in_side : (side : Side) (j v : ℕ) → j < length kernels → v < count → asks (side_row own side) lists_of users v j ≡ true → IsIn (get_or (side_sets named side) j []) v
    in_side Low j v h k is = set_has (side_row own Low) lists_of users count (length kernels) j v h k ∙ is
    in_side High j v h k is = set_has (side_row own High) lists_of users count (length kernels) j v h k ∙ is

    in_set : (j : ℕ) (d : Kernel) (v : ℕ) → j < length kernels → IsIn (set_at named j) v → Contains (vars_of (get_or kernels j d)) v
    in_set j d v h is =
        let below : v < count → Contains (vars_of (get_or kernels j d)) v =
        λ k. asked_for j d v h k (sym (set_has (row_of own) lists_of users count (length kernels) j v h k) ∙ is) in
        let past : count ≤ v → Contains (vars_of (get_or kernels j d)) v =
        λ k.
        let none : get_or (set_at named j) v false ≡ false =
        get_or_past (set_at named j) v false (omega (arith, set_length (row_of own) lists_of users count (length kernels) j h)) in
        absurd (true≢false (sym is ∙ none)) in
        ⊎_elim below past (cases_lt v count)

    side_asks : (j : ℕ) (d : Kernel) (place : ℕ) (side : Side) → j < length kernels → place < length (vars_of (get_or kernels j d))
        → (kind_at (get_or kernels j d) place ≡ kind_of_side side) ⊎ (kind_at (get_or kernels j d) place ≡ 1)
        → IsIn (get_or (side_sets named side) j []) (get_or (vars_of (get_or kernels j d)) place 0)
    side_asks j d place side h inside is =
        in_side side j (get_or (vars_of (get_or kernels j d)) place 0) h ((kernels_are j d h).variables.each place inside)
        (place_asks (side_row own side) j d place h inside (λ v. side_has own side v (kind_at (get_or kernels j d) place) j is))

    -- a kernel that isn't sided is asked by either bound
    by_either : (j : ℕ) (d : Kernel) → j < length kernels → is_sided (get_or kernels j d) ≡ false → IsAskedByEither named j
    by_either j d h not_sided side v is =
        let k : Kernel = get_or kernels j d in
        let c = in_set j d v h is in
        let at : get_or (vars_of k) c.0 0 ≡ v = get_or_default (vars_of k) c.0 0 v c.1 ∙ c.2 in
        subst (λ (w : ℕ). IsIn (get_or (side_sets named side) j []) w) at (side_asks j d c.0 side h c.1 (inr (kind_both k c.0 not_sided)))

    pub masks_name : IsNaming kernels (record { count = count; sets = asked_sets (row_of own) lists_of users count (length kernels); lows = asked_sets (side_row own Low) lists_of users count (length kernels); highs = asked_sets (side_row own High) lists_of users count (length kernels); shapes = shapes })
    masks_name = record {
      same_length = sets_length (row_of own) lists_of users count (length kernels);
      each = λ j d v h. (
        in_set j d v h,
        λ c.
            let k : v < count = below_all count (vars_of (get_or kernels j d)) v (kernels_are j d h).variables c in
            set_has (row_of own) lists_of users count (length kernels) j v h k ∙ asks_for j d v h c,
      );
      reads = λ j d place side h inside read. side_asks j d place side h inside (kind_asks (get_or kernels j d) place side read);
      sided = λ j d h. elim (is_or_not (is_sided (get_or kernels j d))) [
        | inl is ↦ inr is
        | inr is ↦ inl (by_either j d h is)
      ];
    }

  -- a list that the row of a variable names has a row
  pub lists_there : length users ≡ length lists → (v : ℕ) → v < count → All (λ l. l < length users) (row_at lists_of v)
  lists_there same v h k d lt =
      let l : ℕ = get_or (row_at lists_of v) k d in
      let inside : l < length lists = ((lists_are.each v h l).0 (Contains-get_or (row_at lists_of v) k d lt)).0 in
      omega arith

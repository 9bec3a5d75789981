-- Rows of masks that are united into a set of kernels.
use Rattle.std.proofs.Common.{◌≡◌, ℕ, ◌+◌, ◌*◌, ◌/◌, ◌<◌, ◌≤◌, Bool, true, false, ◌||◌, ◌&&◌, List, [], ◌∷◌, ◌++◌, length, get_or, map, take, refl, sym, ◌∙◌, ap, subst, arith}
use Rattle.std.specs.List.{list_any, range_with_len}
use Rattle.std.specs.Prelude.{Vec, All}
use Rattle.std.specs.declared.alloc.Global.{Global}
use Rattle.std.proofs.lemmas.List.{take_more}
use Rattle.std.proofs.lemmas.List.Elements.{All-append}
use Rattle.std.proofs.lemmas.List.Folds.{list_any-append}
use Rattle.std.proofs.lemmas.List.FromFn.{length-map-range_with_len, get_or-map-range_with_len}
use Rattle.kernel_visits.specs.declared.shape.Shape.{Shape}
use Rattle.moved_set.specs.declared.mask.Mask.{Mask}
use Rattle.moved_set.specs.Sets.{side_sets}
use Rattle.moved_set.specs.Words.{names}
use Rattle.moved_set.specs.Building.{AreWithin}
use Rattle.moved_set.specs.Rows.{row_at}
use Rattle.moved_set.specs.Asked.{IsUnited, IsUnitedIn}
use Rattle.guarded_tell.specs.Words.{Side, Low, High}
use Rattle.moved_set.specs.Asking.{masks_at, some_uses, asks, asked_sets, row_of, side_row, IsAsked}
use Rattle.moved_set.proofs.AskedLaws.{or_false}

or_move : (o a s n : Bool) → ((o || (a || s)) || n) ≡ (o || (a || (s || (n || false))))
or_move true a s n = refl
or_move false true s n = refl
or_move false false true n = refl
or_move false false false true = refl
or_move false false false false = refl

-- the kernels of the variable's own row
pub asked_own : (old new : List Bool) (row : List Mask) (users : List (List Mask)) → IsUnited old row new → IsAsked old (λ j. names row j || some_uses users j []) new
asked_own old new row users united = record {
  same_length = united.same_length;
  each = λ j h. united.each j h ∙ ap (λ (b : Bool). get_or old j false || b) (sym (or_false (names row j)));
}

-- those of one list more
pub asked_list : (old mid new : List Bool) (own : List Mask) (users : List (List Mask)) (lists : List ℕ) (i : ℕ) (row : List Mask) → i < length lists
    → row ≡ masks_at users (get_or lists i 0) → IsAsked old (λ j. names own j || some_uses users j (take i lists)) mid → IsUnited mid row new
    → IsAsked old (λ j. names own j || some_uses users j (take (i + 1) lists)) new
asked_list old mid new own users lists i row h row_is asked united = record {
  same_length = united.same_length ∙ asked.same_length;
  each = λ j k.
      let uses : ℕ → Bool = λ l. names (masks_at users l) j in
      let l : ℕ = get_or lists i 0 in
      let more : some_uses users j (take (i + 1) lists) ≡ (some_uses users j (take i lists) || (uses l || false)) =
      ap (list_any uses) (take_more lists i 0 h) ∙ list_any-append uses (take i lists) (l ∷ []) in
      let one : names row j ≡ uses l = ap (λ (r : List Mask). names r j) row_is in
      let len = asked.same_length in
      united.each j (omega arith)
      ∙ ap (λ (b : Bool). b || names row j) (asked.each j k)
      ∙ ap (λ (b : Bool). (get_or old j false || (names own j || some_uses users j (take i lists))) || b) one
      ∙ or_move (get_or old j false) (names own j) (some_uses users j (take i lists)) (uses l)
      ∙ ap (λ (b : Bool). get_or old j false || (names own j || b)) (sym more);
}

pub sets_length : (rows : ℕ → List Mask) (lists_of : List (Vec ℕ Global)) (users : List (List Mask)) (count kernels : ℕ) → length (asked_sets rows lists_of users count kernels) ≡ kernels
sets_length rows lists_of users count kernels = length-map-range_with_len (λ j. map (λ v. asks rows lists_of users v j) (range_with_len 0 count)) 0 kernels

pub set_length : (rows : ℕ → List Mask) (lists_of : List (Vec ℕ Global)) (users : List (List Mask)) (count kernels j : ℕ) → j < kernels → length (get_or (asked_sets rows lists_of users count kernels) j []) ≡ count
set_length rows lists_of users count kernels j h =
    ap length (get_or-map-range_with_len (λ j. map (λ v. asks rows lists_of users v j) (range_with_len 0 count)) 0 kernels j j [] h (omega arith))
    ∙ length-map-range_with_len (λ v. asks rows lists_of users v j) 0 count

pub set_has : (rows : ℕ → List Mask) (lists_of : List (Vec ℕ Global)) (users : List (List Mask)) (count kernels j v : ℕ) → j < kernels → v < count
    → get_or (get_or (asked_sets rows lists_of users count kernels) j []) v false ≡ asks rows lists_of users v j
set_has rows lists_of users count kernels j v h k =
    ap (λ (s : List Bool). get_or s v false) (get_or-map-range_with_len (λ j. map (λ v. asks rows lists_of users v j) (range_with_len 0 count)) 0 kernels j j [] h (omega arith))
    ∙ get_or-map-range_with_len (λ v. asks rows lists_of users v j) 0 count v v false k (omega arith)

-- all of them
pub asked_all : (old new : List Bool) (rows : ℕ → List Mask) (lists_of : List (Vec ℕ Global)) (users : List (List Mask)) (count kernels v : ℕ) (sets : List (List Bool)) (row : List Mask) (lists : List ℕ)
    → asked_sets rows lists_of users count kernels ≡ sets → v < count → length old ≡ kernels
    → row ≡ rows v → lists ≡ row_at lists_of v → IsAsked old (λ j. names row j || some_uses users j lists) new
    → IsAsked old (λ j. get_or (get_or sets j []) v false) new
asked_all old new rows lists_of users count kernels v sets row lists is h len row_is lists_is asked = record {
  same_length = asked.same_length;
  each = λ j k.
      let one : (names row j || some_uses users j lists) ≡ asks rows lists_of users v j =
      ap (λ (r : List Mask). names r j || some_uses users j lists) row_is ∙ ap (λ (ls : List ℕ). names (rows v) j || some_uses users j ls) lists_is in
      let two : asks rows lists_of users v j ≡ get_or (get_or sets j []) v false =
      sym (set_has rows lists_of users count kernels j v (omega arith) h) ∙ ap (λ (s : List (List Bool)). get_or (get_or s j []) v false) is in
      asked.each j k ∙ ap (λ (b : Bool). get_or old j false || b) (one ∙ two);
}

-- the masks of a row lie in the set
pub row_inside : (groups : List (List Mask)) (i kernels len : ℕ) (row : List Mask) → All (AreWithin (kernels / 32 + 1)) groups → i < length groups → row ≡ masks_at groups i → len ≡ kernels
    → All (λ m. m.place * 32 ≤ len) row
row_inside groups i kernels len row within h is same =
    subst (λ (r : List Mask). All (λ m. m.place * 32 ≤ len) r) (sym is) (λ k d l. let lt = within i [] h k d l in omega arith)

-- a list that the row of a variable names is there
pub list_inside : (lists_of : List (Vec ℕ Global)) (count users v i : ℕ) (lists : List ℕ) → v < count
    → ((v : ℕ) → v < count → All (λ l. l < users) (row_at lists_of v)) → lists ≡ row_at lists_of v → i < length lists → get_or lists i 0 < users
list_inside lists_of count users v i lists h there is k =
    subst (λ (ls : List ℕ). get_or ls i 0 < users) (sym is) (there v h i 0 (subst (λ (ls : List ℕ). i < length ls) is k))

-- ---- the same of those in a wanted set

or_none_of : (n : Bool) → n ≡ (n || false)
or_none_of true = refl
or_none_of false = refl

pub asked_in_own : (old new : List Bool) (row : List Mask) (users : List (List Mask)) (is_wanted : ℕ → Bool) → IsUnitedIn old row is_wanted new → IsAsked old (λ j. (names row j || some_uses users j []) && is_wanted j) new
asked_in_own old new row users is_wanted united = record {
  same_length = united.same_length;
  each = λ j h. united.each j h ∙ ap (λ (b : Bool). get_or old j false || (b && is_wanted j)) (or_none_of (names row j));
}

or_and_more : (o a s n w : Bool) → ((o || ((a || s) && w)) || (n && w)) ≡ (o || ((a || (s || (n || false))) && w))
or_and_more true a s n w = refl
or_and_more false true s n true = refl
or_and_more false true s true false = refl
or_and_more false true s false false = refl
or_and_more false false true n true = refl
or_and_more false false true true false = refl
or_and_more false false true false false = refl
or_and_more false false false true true = refl
or_and_more false false false true false = refl
or_and_more false false false false true = refl
or_and_more false false false false false = refl

pub asked_in_list : (old mid new : List Bool) (own : List Mask) (users : List (List Mask)) (lists : List ℕ) (is_wanted : ℕ → Bool) (i : ℕ) (row : List Mask) → i < length lists
    → row ≡ masks_at users (get_or lists i 0) → IsAsked old (λ j. (names own j || some_uses users j (take i lists)) && is_wanted j) mid → IsUnitedIn mid row is_wanted new
    → IsAsked old (λ j. (names own j || some_uses users j (take (i + 1) lists)) && is_wanted j) new
asked_in_list old mid new own users lists is_wanted i row h row_is asked united = record {
  same_length = united.same_length ∙ asked.same_length;
  each = λ j k.
      let uses : ℕ → Bool = λ l. names (masks_at users l) j in
      let l : ℕ = get_or lists i 0 in
      let more : some_uses users j (take (i + 1) lists) ≡ (some_uses users j (take i lists) || (uses l || false)) =
      ap (list_any uses) (take_more lists i 0 h) ∙ list_any-append uses (take i lists) (l ∷ []) in
      let one : names row j ≡ uses l = ap (λ (r : List Mask). names r j) row_is in
      let len = asked.same_length in
      united.each j (omega arith)
      ∙ ap (λ (b : Bool). b || (names row j && is_wanted j)) (asked.each j k)
      ∙ ap (λ (b : Bool). (get_or old j false || ((names own j || some_uses users j (take i lists)) && is_wanted j)) || (b && is_wanted j)) one
      ∙ or_and_more (get_or old j false) (names own j) (some_uses users j (take i lists)) (uses l) (is_wanted j)
      ∙ ap (λ (b : Bool). get_or old j false || ((names own j || b) && is_wanted j)) (sym more);
}

pub asked_in_all : (old new : List Bool) (rows : ℕ → List Mask) (lists_of : List (Vec ℕ Global)) (users : List (List Mask)) (count kernels v : ℕ) (sets : List (List Bool)) (row : List Mask) (lists : List ℕ) (is_wanted : ℕ → Bool)
    → asked_sets rows lists_of users count kernels ≡ sets → v < count → length old ≡ kernels
    → row ≡ rows v → lists ≡ row_at lists_of v → IsAsked old (λ j. (names row j || some_uses users j lists) && is_wanted j) new
    → IsAsked old (λ j. get_or (get_or sets j []) v false && is_wanted j) new
asked_in_all old new rows lists_of users count kernels v sets row lists is_wanted is h len row_is lists_is asked = record {
  same_length = asked.same_length;
  each = λ j k.
      let one : (names row j || some_uses users j lists) ≡ asks rows lists_of users v j =
      ap (λ (r : List Mask). names r j || some_uses users j lists) row_is ∙ ap (λ (ls : List ℕ). names (rows v) j || some_uses users j ls) lists_is in
      let two : asks rows lists_of users v j ≡ get_or (get_or sets j []) v false =
      sym (set_has rows lists_of users count kernels j v (omega arith) h) ∙ ap (λ (s : List (List Bool)). get_or (get_or s j []) v false) is in
      asked.each j k ∙ ap (λ (b : Bool). get_or old j false || (b && is_wanted j)) (one ∙ two);
}

-- the masks of all groups lie in the set
pub rows_inside : (groups : List (List Mask)) (kernels len : ℕ) → All (AreWithin (kernels / 32 + 1)) groups → len ≡ kernels → All (All (λ m. m.place * 32 ≤ len)) groups
rows_inside groups kernels len within same i d h k e l = let lt = within i d h k e l in omega arith

-- and those of several groups together
pub one_inside : (groups : List (List Mask)) (i len : ℕ) → All (All (λ m. m.place * 32 ≤ len)) groups → i < length groups → All (λ m. m.place * 32 ≤ len) (masks_at groups i)
one_inside groups i len all h = all i [] h

pub two_inside : (groups : List (List Mask)) (i k len : ℕ) → All (All (λ m. m.place * 32 ≤ len)) groups → i < length groups → k < length groups → All (λ m. m.place * 32 ≤ len) (masks_at groups i ++ masks_at groups k)
two_inside groups i k len all h l = All-append (λ m. m.place * 32 ≤ len) (masks_at groups i) (masks_at groups k) (all i [] h) (all k [] l)

pub three_inside : (groups : List (List Mask)) (i k n len : ℕ) → All (All (λ m. m.place * 32 ≤ len)) groups → i < length groups → k < length groups → n < length groups
    → All (λ m. m.place * 32 ≤ len) (masks_at groups i ++ masks_at groups k ++ masks_at groups n)
three_inside groups i k n len all h l o = All-append (λ m. m.place * 32 ≤ len) (masks_at groups i ++ masks_at groups k) (masks_at groups n) (two_inside groups i k len all h l) (all n [] o)

pub side_inside : (own : List (List Mask)) (side : Side) (v len : ℕ) → All (All (λ m. m.place * 32 ≤ len)) own → 3 * v + 2 < length own → All (λ m. m.place * 32 ≤ len) (side_row own side v)
side_inside own Low v len all h = two_inside own (3 * v) (3 * v + 1) len all (omega arith) (omega arith)
side_inside own High v len all h = two_inside own (3 * v + 1) (3 * v + 2) len all (omega arith) (omega arith)

-- the lists that the row of a variable names are there
pub lists_inside : (lists_of : List (Vec ℕ Global)) (count users v : ℕ) (lists : List ℕ) → v < count
    → ((v : ℕ) → v < count → All (λ l. l < users) (row_at lists_of v)) → lists ≡ row_at lists_of v → All (λ l. l < users) lists
lists_inside lists_of count users v lists h there is = subst (All (λ l. l < users)) (sym is) (there v h)

-- the sets of a side are those of its rows
pub side_view : (own : List (List Mask)) (lists_of : List (Vec ℕ Global)) (users : List (List Mask)) (count kernels : ℕ) (shapes : List Shape) (side : Side)
    → asked_sets (side_row own side) lists_of users count kernels ≡ side_sets (record { count = count; sets = asked_sets (row_of own) lists_of users count kernels; lows = asked_sets (side_row own Low) lists_of users count kernels; highs = asked_sets (side_row own High) lists_of users count kernels; shapes = shapes }) side
side_view own lists_of users count kernels shapes Low = refl
side_view own lists_of users count kernels shapes High = refl

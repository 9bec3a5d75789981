-- The tells of an element by the hull of the places that are left, and by the place that x is fixed to.
use Rattle.std.proofs.Common.{◌≡◌, ℕ, zero, suc, ◌+◌, ◌<◌, ◌≤◌, List, [], ◌∷◌, ◌++◌, length, length-append, take, drop, get_or, Bool, true, false, cond, Option, None, Some, ℤ, pos, ◌≤ℤ◌, ◌<ℤ◌, refl, sym, ap, subst, ◌∙◌, ◌⊎◌, inl, inr, ⊎_elim, arith}
use Rattle.std.proofs.lemmas.Int.{ints}
use Rattle.std.proofs.lemmas.Bool.{and_parts, and_from}
use Rattle.std.proofs.lemmas.Bool.Decides.{Decides-int_eq}
use Rattle.std.proofs.lemmas.List.{take-append-drop, length-take, length-drop, get_or-take, get_or-drop, append-nil}
use Rattle.std.proofs.lemmas.List.Elements.{filter_more, filter-append}
use Rattle.std.specs.Int.{int_min, int_max}
use Rattle.std.specs.Int.RustNames.{int_le}
use Rattle.std.specs.Ordering.{int_eq}
use Rattle.std.specs.List.{enumerate_from, filter, flat_map}
use Rattle.element_tells.specs.declared.element.Hull.{Hull}
use Rattle.tells.specs.declared.tell.Tell.{Tell}
use Rattle.interval.specs.Boxes.{Bounds, low_of, high_of}
use Rattle.tells.specs.Words.{when}
use Rattle.extreme_tells.specs.Extremes.{least_with, greatest_with, least_over, greatest_over}
use Rattle.element_tells.specs.Element.{places_of, between_tells, is_within, can_equal, can_be, hull_tells, is_fixed_to, fixed_tells, equal_tells}
use Rattle.element_tells.specs.Hull.{IsHull, IsHullOf, told_hull}
use Rattle.element_tells.proofs.ExtremeLaws.{least_push, greatest_push, filter_empty}
use Rattle.element_tells.proofs.ListPlaces.{at_yes, flat_map_nothing, flat_map_at_place, one_mapped, no_true, when_no}

-- ---- places

length-enumerate : (n : ℕ) (xs : List ℕ) → length (enumerate_from n xs) ≡ length xs
length-enumerate n [] = refl
length-enumerate n (x ∷ xs) = ap suc (length-enumerate (n + 1) xs)

get_or-enumerate : (n : ℕ) (xs : List ℕ) (i : ℕ) (d : ℕ × ℕ) → i < length xs → get_or (enumerate_from n xs) i d ≡ (i + n, get_or xs i 0)
get_or-enumerate n [] i d h = absurd (omega arith)
get_or-enumerate n (x ∷ xs) zero d h = let e : n ≡ 0 + n = omega arith in ap (λ k. (k, x)) e
get_or-enumerate n (x ∷ xs) (suc i) d h =
    let e : i + (n + 1) ≡ suc i + n = omega arith in
    get_or-enumerate (n + 1) xs i d (omega arith) ∙ ap (λ k. (k, get_or xs i 0)) e

pub length-places : (xs : List ℕ) → length (places_of xs) ≡ length xs
length-places xs = length-enumerate 1 xs

pub get_or-places : (xs : List ℕ) (i : ℕ) (d : ℕ × ℕ) → i < length xs → get_or (places_of xs) i d ≡ (i + 1, get_or xs i 0)
get_or-places xs i d h = get_or-enumerate 1 xs i d h

-- the test
pub record Can (x c : ℕ) (b : Bounds) (p : ℕ × ℕ) : Type 0 where
  pub from : low_of b x ≤ℤ pos p.0
  pub upto : pos p.0 ≤ℤ high_of b x
  pub below : low_of b p.1 ≤ℤ high_of b c
  pub above : low_of b c ≤ℤ high_of b p.1

pub can_parts : (x c : ℕ) (b : Bounds) (p : ℕ × ℕ) → can_be x c b p ≡ true → Can x c b p
unfolding can_be
can_parts x c b p t =
    let both = and_parts (is_within x b p.0) (can_equal p.1 c b) t in
    let one = and_parts (int_le (low_of b x) (pos p.0)) (int_le (pos p.0) (high_of b x)) both.0 in
    let two = and_parts (int_le (low_of b p.1) (high_of b c)) (int_le (low_of b c) (high_of b p.1)) both.1 in
    record { from = omega (arith, ints); upto = omega (arith, ints); below = omega (arith, ints); above = omega (arith, ints) }

pub can_from : (x c : ℕ) (b : Bounds) (p : ℕ × ℕ) → Can x c b p → can_be x c b p ≡ true
unfolding can_be
can_from x c b p can =
    let one : true ≡ int_le (low_of b x) (pos p.0) = (let a = can.from in omega (arith, ints)) in
    let two : true ≡ int_le (pos p.0) (high_of b x) = (let a = can.upto in omega (arith, ints)) in
    let three : true ≡ int_le (low_of b p.1) (high_of b c) = (let a = can.below in omega (arith, ints)) in
    let four : true ≡ int_le (low_of b c) (high_of b p.1) = (let a = can.above in omega (arith, ints)) in
    and_from (is_within x b p.0) (can_equal p.1 c b)
    (and_from (int_le (low_of b x) (pos p.0)) (int_le (pos p.0) (high_of b x)) (sym one) (sym two))
    (and_from (int_le (low_of b p.1) (high_of b c)) (int_le (low_of b c) (high_of b p.1)) (sym three) (sym four))

-- ---- the hull

pub hull_first : (b : Bounds) (ps : List (ℕ × ℕ)) (j y : ℕ) (u : Hull) → ps ≡ [] → u.first ≡ pos j → u.last ≡ pos j → u.low ≡ low_of b y → u.high ≡ high_of b y → IsHull b (ps ++ (j, y) ∷ []) u
unfolding least_over greatest_over least_with greatest_with
hull_first b ps j y u e first last low high =
    let one : IsHull b ((j, y) ∷ []) u = record { some = omega arith; first = first; last = last; low = low; high = high } in
    subst (λ qs. IsHull b (qs ++ (j, y) ∷ []) u) (sym e) one

pub hull_more : (b : Bounds) (ps : List (ℕ × ℕ)) (j y : ℕ) (u w : Hull) → IsHull b ps u → w.first ≡ int_min u.first (pos j) → w.last ≡ int_max u.last (pos j) → w.low ≡ int_min u.low (low_of b y) → w.high ≡ int_max u.high (high_of b y)
    → IsHull b (ps ++ (j, y) ∷ []) w
hull_more b ps j y u w is first last low high = record {
  some = omega (arith, length-append ps ((j, y) ∷ []));
  first = first ∙ (ap (λ z. int_min z (pos j)) is.first ∙ sym (least_push (λ (q : ℕ × ℕ). pos q.0) ps (j, y) is.some));
  last = last ∙ (ap (λ z. int_max z (pos j)) is.last ∙ sym (greatest_push (λ (q : ℕ × ℕ). pos q.0) ps (j, y) is.some));
  low = low ∙ (ap (λ z. int_min z (low_of b y)) is.low ∙ sym (least_push (λ (q : ℕ × ℕ). low_of b q.1) ps (j, y) is.some));
  high = high ∙ (ap (λ z. int_max z (high_of b y)) is.high ∙ sym (greatest_push (λ (q : ℕ × ℕ). high_of b q.1) ps (j, y) is.some));
}

pub hull_next : (x c : ℕ) (b : Bounds) (entries : List ℕ) (i : ℕ) (old new : Option Hull) → i < length entries
    → ((ps : List (ℕ × ℕ)) → IsHullOf b ps old → IsHullOf b (ps ++ cond (can_be x c b (i + 1, get_or entries i 0)) ((i + 1, get_or entries i 0) ∷ []) []) new)
    → IsHullOf b (filter (can_be x c b) (take i (places_of entries))) old → IsHullOf b (filter (can_be x c b) (take (i + 1) (places_of entries))) new
hull_next x c b entries i old new h step is =
    let xs = places_of entries in
    let d : ℕ × ℕ = (0, 0) in
    let at : i < length xs = omega (arith, length-places entries) in
    let front = filter (can_be x c b) (take i xs) in
    let more = filter_more (can_be x c b) xs i d at ∙ ap (λ p. front ++ cond (can_be x c b p) (p ∷ []) []) (get_or-places entries i d h) in
    subst (λ ps. IsHullOf b ps new) (sym more) (step front is)

-- no place below x, or above it, can be x
out_of_reach : (x c : ℕ) (b : Bounds) (entries : List ℕ) (k : ℕ) (d : ℕ × ℕ) → k < length entries → (pos (k + 1) <ℤ low_of b x) ⊎ (high_of b x <ℤ pos (k + 1)) → can_be x c b (get_or (places_of entries) k d) ≡ false
out_of_reach x c b entries k d h far = no_true _ (λ t.
    let can = can_parts x c b (get_or (places_of entries) k d) t in
    let from = can.from in
    let upto = can.upto in
    let number = ap (λ (p : ℕ × ℕ). pos p.0) (get_or-places entries k d h) in
    ⊎_elim (λ below. omega (arith, ints)) (λ above. omega (arith, ints)) far)

pub hull_start : (x c : ℕ) (b : Bounds) (entries : List ℕ) (first : ℕ) → first ≤ length entries → ((k : ℕ) → k < first → pos (k + 1) <ℤ low_of b x) → filter (can_be x c b) (take first (places_of entries)) ≡ []
hull_start x c b entries first few below =
    let xs = places_of entries in
    filter_empty (can_be x c b) (take first xs) (λ k d h.
    let inside : k < first = omega (arith, length-take first xs) in
    let P : ℕ × ℕ → Type 0 = λ p. can_be x c b p ≡ false in
    subst P (sym (get_or-take first xs k d inside)) (out_of_reach x c b entries k d (omega arith) (inl (below k inside))))

pub hull_whole : (x c : ℕ) (b : Bounds) (entries : List ℕ) (count i : ℕ) (o : Option Hull) → ((k : ℕ) → count ≤ k → k < length entries → high_of b x <ℤ pos (k + 1)) → count ≤ i
    → IsHullOf b (filter (can_be x c b) (take i (places_of entries))) o → IsHullOf b (filter (can_be x c b) (places_of entries)) o
hull_whole x c b entries count i o above h is =
    let xs = places_of entries in
    let P : ℕ × ℕ → Type 0 = λ p. can_be x c b p ≡ false in
    let none = filter_empty (can_be x c b) (drop i xs) (λ k d l.
    let inside : i + k < length entries = omega (arith, length-drop i xs, length-places entries) in
    subst P (sym (get_or-drop i xs k d)) (out_of_reach x c b entries (i + k) d inside (inr (above (i + k) (omega arith) inside)))) in
    let whole : filter (can_be x c b) xs ≡ filter (can_be x c b) (take i xs) =
    ap (filter (can_be x c b)) (sym (take-append-drop i xs))
    ∙ (filter-append (can_be x c b) (take i xs) (drop i xs) ∙ (ap (λ ps. filter (can_be x c b) (take i xs) ++ ps) none ∙ append-nil _)) in
    subst (λ ps. IsHullOf b ps o) (sym whole) is

pub told_is : (x c : ℕ) (b : Bounds) (ps : List (ℕ × ℕ)) (o : Option Hull) → IsHullOf b ps o → hull_tells x c b ps ≡ told_hull x c o
unfolding hull_tells
told_is x c b ps None e = ap (hull_tells x c b) e
told_is x c b [] (Some u) is = let none = is.some in absurd (omega arith)
told_is x c b (p ∷ ps) (Some u) is =
    (λ k. between_tells x (sym is.first k) (sym is.last k) ++ between_tells c (sym is.low k) (sym is.high k))

-- ---- the place that x is fixed to

pub fixed_parts : (x : ℕ) (b : Bounds) (j : ℕ) → is_fixed_to x b j ≡ true → (low_of b x ≡ pos j) × (high_of b x ≡ pos j)
unfolding is_fixed_to
fixed_parts x b j t =
    let parts = and_parts (int_eq (low_of b x) (pos j)) (int_eq (high_of b x) (pos j)) t in
    ((Decides-int_eq (low_of b x) (pos j)).0 parts.0, (Decides-int_eq (high_of b x) (pos j)).0 parts.1)

pub fixed_from : (x : ℕ) (b : Bounds) (j : ℕ) → low_of b x ≡ pos j → high_of b x ≡ pos j → is_fixed_to x b j ≡ true
unfolding is_fixed_to
fixed_from x b j p q = and_from (int_eq (low_of b x) (pos j)) (int_eq (high_of b x) (pos j)) ((Decides-int_eq (low_of b x) (pos j)).1 p) ((Decides-int_eq (high_of b x) (pos j)).1 q)

same_place : (z : ℤ) (i k : ℕ) → z ≡ pos (i + 1) → z ≡ pos (k + 1) → k ≡ i
same_place z i k p q = omega (arith, ints)

when_yes : (t : Bool) (ts : List Tell) → t ≡ true → when t ts ≡ ts
when_yes t ts e = ap (λ s. when s ts) e

pub fixed_some : (x c : ℕ) (b : Bounds) (entries : List ℕ) (i : ℕ) → i < length entries → low_of b x ≡ pos (1 + i) → high_of b x ≡ pos (1 + i)
    → flat_map (fixed_tells x c b) (places_of entries) ≡ equal_tells (get_or entries i 0) c b
fixed_some x c b entries i h p q =
    let xs = places_of entries in
    let d : ℕ × ℕ = (0, 0) in
    let at : i < length xs = omega (arith, length-places entries) in
    let turn : 1 + i ≡ i + 1 = omega arith in
    let low : low_of b x ≡ pos (i + 1) = p ∙ ap pos turn in
    let high : high_of b x ≡ pos (i + 1) = q ∙ ap pos turn in
    let one = at_yes xs i d at ∙ ap (λ r. r ∷ []) (get_or-places entries i d h) in
    flat_map_at_place (fixed_tells x c b) xs i (λ k e n l.
    let r = get_or xs k e in
    when_no (is_fixed_to x b r.0) (equal_tells r.1 c b) (λ t.
    let inside : k < length entries = omega (arith, length-places entries) in
    let number = ap (λ (s : ℕ × ℕ). s.0) (get_or-places entries k e inside) in
    let same = (fixed_parts x b r.0 t).0 ∙ ap pos number in
    n (same_place (low_of b x) i k low same)))
    ∙ one_mapped (fixed_tells x c b) _ (i + 1, get_or entries i 0) one
    ∙ when_yes (is_fixed_to x b (i + 1)) (equal_tells (get_or entries i 0) c b) (fixed_from x b (i + 1) low high)

pub fixed_none : (x c : ℕ) (b : Bounds) (entries : List ℕ) → ((i : ℕ) → i < length entries → low_of b x ≡ pos (1 + i) → high_of b x ≡ pos (1 + i) → ⊥)
    → flat_map (fixed_tells x c b) (places_of entries) ≡ []
fixed_none x c b entries never = flat_map_nothing (fixed_tells x c b) (places_of entries) (λ k e l.
    let r = get_or (places_of entries) k e in
    when_no (is_fixed_to x b r.0) (equal_tells r.1 c b) (λ t.
    let inside : k < length entries = omega (arith, length-places entries) in
    let turn : k + 1 ≡ 1 + k = omega arith in
    let number = ap (λ (s : ℕ × ℕ). s.0) (get_or-places entries k e inside) ∙ turn in
    let parts = fixed_parts x b r.0 t in
    never k inside (parts.0 ∙ ap pos number) (parts.1 ∙ ap pos number)))

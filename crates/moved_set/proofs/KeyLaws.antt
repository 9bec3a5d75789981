-- Keys of own variables.
use Rattle.std.proofs.Common.{◌≡◌, ℕ, zero, suc, ◌+◌, ◌-◌, ◌*◌, ◌<◌, ◌≤◌, Bool, true, false, cond, List, [], ◌∷◌, ◌++◌, length, length-append, append-nil, get_or, take, drop, refl, sym, ◌∙◌, ap, subst, ⊎_elim, arith, inl, inr, ◌⊎◌}
use Rattle.std.specs.Prelude.{All, Contains}
use Rattle.std.proofs.lemmas.Bool.{cases_lt}
use Rattle.std.proofs.lemmas.List.{get_or-map, get_or_append_left, get_or-append-add, get_or_default, length-take}
use Rattle.std.proofs.lemmas.List.Elements.{Contains-get_or, Contains-append_left, Contains-append_right, Contains-append_cases}
use Rattle.guarded_tell.specs.declared.kernel.Kernel.{Kernel}
use Rattle.guarded_tell.specs.Words.{Side, Low, High, AreVariables}
use Rattle.guarded_tell.specs.Kernels.{vars_of}
use Rattle.kernel_visits.specs.Sides.{sides_of, Reads, is_sided}
use Rattle.moved_set.specs.declared.parts.Part.{Part}
use Rattle.moved_set.specs.Parts.{kind_there, kind_at, key_at, keys_from, own_keys, own_keys_at, list_at, part_at, IsPart, AreParts}
use Rattle.moved_set.proofs.PartLaws.{vars_are}

-- ---- kinds

-- the kind of a side
abbrev pub kind_of_side : Side → ℕ
kind_of_side Low = 0
kind_of_side High = 2

there : (sides : List Side) (place : ℕ) (d : Side) → place < length sides → kind_there (drop place sides) ≡ kind_of_side (get_or sides place d)
there [] place d h = absurd (omega arith)
there (Low ∷ ss) zero d h = refl
there (High ∷ ss) zero d h = refl
there (s ∷ ss) (suc place) d h = there ss place d (omega arith)

past : (sides : List Side) (place : ℕ) → length sides ≤ place → kind_there (drop place sides) ≡ 1
past [] zero h = refl
past [] (suc place) h = refl
past (s ∷ ss) zero h = absurd (omega arith)
past (s ∷ ss) (suc place) h = past ss place (omega arith)

below_three : (sides : List Side) → kind_there sides < 3
below_three [] = omega arith
below_three (Low ∷ ss) = omega arith
below_three (High ∷ ss) = omega arith

pub kind_read : (k : Kernel) (place : ℕ) (side : Side) → Reads k place side → kind_there (drop place (sides_of k)) ≡ kind_of_side side
kind_read k place side (h, e) = there (sides_of k) place side h ∙ ap kind_of_side e

pub kind_none : (k : Kernel) (place : ℕ) → length (sides_of k) ≤ place → kind_there (drop place (sides_of k)) ≡ 1
kind_none k place h = past (sides_of k) place h

below_cond : (b : Bool) (n : ℕ) → n < 3 → cond b n 1 < 3
below_cond true n h = h
below_cond false n h = omega arith

pub kind_below : (k : Kernel) (place : ℕ) → kind_at k place < 3
kind_below k place = below_cond (is_sided k) (kind_there (drop place (sides_of k))) (below_three (drop place (sides_of k)))

-- a kernel that isn't sided is asked by both bounds
pub kind_both : (k : Kernel) (place : ℕ) → is_sided k ≡ false → kind_at k place ≡ 1
kind_both k place e = ap (λ (b : Bool). cond b (kind_there (drop place (sides_of k))) 1) e

pub kind_sided : (k : Kernel) (place : ℕ) → is_sided k ≡ true → kind_at k place ≡ kind_there (drop place (sides_of k))
kind_sided k place e = ap (λ (b : Bool). cond b (kind_there (drop place (sides_of k))) 1) e

-- where a bound is read, the kind is that of both or of its side
pub kind_asks : (k : Kernel) (place : ℕ) (side : Side) → Reads k place side → (kind_at k place ≡ kind_of_side side) ⊎ (kind_at k place ≡ 1)
kind_asks k place side read = by (is_sided k) (kind_read k place side read)
  where
    by : {n m : ℕ} (b : Bool) → n ≡ m → (cond b n 1 ≡ m) ⊎ (cond b n 1 ≡ 1)
    by true e = inl e
    by false e = inr refl

-- ---- keys

-- one place more
pub keys_more : (k : Kernel) (from place v kind : ℕ) → from ≤ place → v ≡ get_or (vars_of k) place 0 → kind ≡ kind_at k place
    → keys_from k from (place + 1 - from) ≡ keys_from k from (place - from) ++ (3 * v + kind) ∷ []
unfolding keys_from
keys_more k from place v kind le is kind_is =
    let count : place + 1 - from ≡ suc (place - from) = omega arith in
    let here : from + (place - from) ≡ place = omega arith in
    ap (keys_from k from) count
    ∙ ap (λ (n : ℕ). keys_from k from (place - from) ++ key_at k n ∷ []) here
    ∙ ap (λ (w : ℕ). keys_from k from (place - from) ++ (3 * w + kind_at k place) ∷ []) (sym is)
    ∙ ap (λ (n : ℕ). keys_from k from (place - from) ++ (3 * v + n) ∷ []) (sym kind_is)

-- none yet
pub keys_start : (k : Kernel) (from : ℕ) (xs : List ℕ) → xs ≡ xs ++ keys_from k from (from - from)
unfolding keys_from
keys_start k from xs = let none : from - from ≡ 0 = omega arith in sym (append-nil xs) ∙ ap (λ (n : ℕ). xs ++ keys_from k from n) (sym none)

-- the key of each place is among them
pub key_among : (k : Kernel) (from n i : ℕ) → from ≤ i → i < from + n → Contains (keys_from k from n) (key_at k i)
unfolding keys_from
key_among k from zero i le h = absurd (omega arith)
key_among k from (suc n) i le h =
    let before : i < from + n → Contains (keys_from k from n ++ key_at k (from + n) ∷ []) (key_at k i) =
    λ lt. Contains-append_left (keys_from k from n) (key_at k (from + n) ∷ []) (key_at k i) (key_among k from n i le lt) in
    let here : from + n ≤ i → Contains (keys_from k from n ++ key_at k (from + n) ∷ []) (key_at k i) =
    λ above.
    let e : from + n ≡ i = omega arith in
    Contains-append_right (keys_from k from n) (key_at k (from + n) ∷ []) (key_at k i) (0, omega arith, ap (key_at k) e) in
    ⊎_elim before here (cases_lt i (from + n))

-- and no other
none_in : {R : Type 0} (v : ℕ) → Contains [] v → R
none_in v c = let lt = c.1 in absurd (omega arith)

one_in : (v w : ℕ) → Contains (v ∷ []) w → v ≡ w
one_in v w (zero, h, e) = e
one_in v w (suc i, h, e) = absurd (omega arith)

pub among_key : (k : Kernel) (from n x : ℕ) → Contains (keys_from k from n) x → (i : ℕ) × (i < from + n) × (x ≡ key_at k i)
unfolding keys_from
among_key k from zero x c = none_in x c
among_key k from (suc n) x c = elim (Contains-append_cases (keys_from k from n) (key_at k (from + n) ∷ []) x c) [
  | inl before ↦ let q = among_key k from n x before in let lt = q.1 in (q.0, omega arith, q.2)
  | inr here ↦ (from + n, omega arith, sym (one_in (key_at k (from + n)) x here))
]

-- a key is one of a kernel's own only where it is that of a place
pub own_key : (lists : List (List ℕ)) (part : Part) (k : Kernel) (x : ℕ) → IsPart (vars_of k) lists part → Contains (own_keys lists part k) x
    → (i : ℕ) × (i < length (vars_of k)) × (x ≡ key_at k i)
own_key lists part k x is c =
    let behind : ℕ = part.before + length (list_at lists part.list) in
    let within = is.has.within in
    elim (Contains-append_cases (keys_from k 0 part.before) (keys_from k behind (length (vars_of k) - behind)) x c) [
      | inl first ↦ let q = among_key k 0 part.before x first in let lt = q.1 in (q.0, omega arith, q.2)
      | inr last ↦ let q = among_key k behind (length (vars_of k) - behind) x last in let lt = q.1 in (q.0, omega arith, q.2)
    ]

-- the key of a place is one of the kernel's own, or its variable is one of the list
pub place_in_part : (lists : List (List ℕ)) (part : Part) (k : Kernel) (place : ℕ) → IsPart (vars_of k) lists part → place < length (vars_of k)
    → Contains (own_keys lists part k) (key_at k place) ⊎ Contains (list_at lists part.list) (get_or (vars_of k) place 0)
place_in_part lists part k place is h =
    let vars : List ℕ = vars_of k in
    let list : List ℕ = list_at lists part.list in
    let behind : ℕ = part.before + length list in
    let v : ℕ = get_or vars place 0 in
    let front : List ℕ = take part.before vars in
    let first : List ℕ = keys_from k 0 part.before in
    let last : List ℕ = keys_from k behind (length vars - behind) in
    let within = is.has.within in
    let before : place < part.before → Contains (own_keys lists part k) (key_at k place) ⊎ Contains list v =
    λ lt. inl (Contains-append_left first last (key_at k place) (key_among k 0 part.before place (omega arith) (omega arith))) in
    let inside : place < behind → part.before ≤ place → Contains (own_keys lists part k) (key_at k place) ⊎ Contains list v =
    λ lt le.
    let size : length front ≡ part.before = let taken = length-take part.before vars in omega arith in
    let one : v ≡ get_or (front ++ list ++ drop behind vars) place 0 = ap (λ (vs : List ℕ). get_or vs place 0) is.has.parted in
    let at : length front + (place - part.before) ≡ place = omega arith in
    let shift : get_or (front ++ list ++ drop behind vars) place 0 ≡ get_or (front ++ list ++ drop behind vars) (length front + (place - part.before)) 0 = ap (λ (n : ℕ). get_or (front ++ list ++ drop behind vars) n 0) (sym at) in
    inr (listed front list (drop behind vars) (place - part.before) v (omega arith) (one ∙ shift)) in
    let after : behind ≤ place → Contains (own_keys lists part k) (key_at k place) ⊎ Contains list v =
    λ le. inl (Contains-append_right first last (key_at k place) (key_among k behind (length vars - behind) place le (omega arith))) in
    ⊎_elim before (λ le. ⊎_elim (λ lt. inside lt le) after (cases_lt place behind)) (cases_lt place part.before)
  where
    listed : (front list back : List ℕ) (i v : ℕ) → i < length list → v ≡ get_or ((front ++ list) ++ back) (length front + i) 0 → Contains list v
    listed front list back i v h e =
        let inner : length front + i < length (front ++ list) = omega (arith, length-append front list) in
        let two : get_or ((front ++ list) ++ back) (length front + i) 0 ≡ get_or list i 0 = get_or_append_left (front ++ list) back 0 (length front + i) inner ∙ get_or-append-add front list i 0 in
        (i, h, get_or_default list i v 0 h ∙ sym two ∙ sym e)

-- ---- those of the kernel at a place, whatever the default

pub keys_are : (kernels : List Kernel) (lists : List (List ℕ)) (parts : List Part) (j : ℕ) (d : Kernel) → j < length kernels
    → own_keys_at kernels lists parts j ≡ own_keys lists (part_at parts j) (get_or kernels j d)
keys_are kernels lists parts j d h = get_or-map (own_keys lists (part_at parts j)) kernels j d [] h

pub part_of_kernel : (kernels : List Kernel) (lists : List (List ℕ)) (parts : List Part) (j : ℕ) (d : Kernel) → j < length kernels → AreParts kernels (length kernels) lists parts
    → IsPart (vars_of (get_or kernels j d)) lists (part_at parts j)
part_of_kernel kernels lists parts j d h are = subst (λ (vs : List ℕ). IsPart vs lists (part_at parts j)) (vars_are kernels j d h) (are.each j h)

-- the keys are below three times the count
pub own_keys_below : (count : ℕ) (kernels : List Kernel) (lists : List (List ℕ)) (parts : List Part) (j : ℕ) → j < length kernels
    → ((k : Kernel) → AreVariables count (vars_of (get_or kernels j k))) → AreParts kernels (length kernels) lists parts → All (λ key. key < 3 * count) (own_keys_at kernels lists parts j)
own_keys_below count [] lists parts j h below are = absurd (omega arith)
own_keys_below count (k ∷ ks) lists parts j h below are =
    λ i d l.
    let own : List ℕ = own_keys_at (k ∷ ks) lists parts j in
    let c : Contains own (get_or own i d) = Contains-get_or own i d l in
    let kernel : Kernel = get_or (k ∷ ks) j k in
    let q = own_key lists (part_at parts j) kernel (get_or own i d) (part_of_kernel (k ∷ ks) lists parts j k h are) (subst (λ (vs : List ℕ). Contains vs (get_or own i d)) (keys_are (k ∷ ks) lists parts j k h) c) in
    let is : get_or own i d ≡ 3 * get_or (vars_of kernel) q.0 0 + kind_at kernel q.0 = q.2 in
    let kind = kind_below kernel q.0 in
    let lt = (below k).each q.0 q.1 in
    omega arith

-- Lists that lie one after the other in one list.
use Rattle.std.proofs.Common.{◌≡◌, ℕ, zero, suc, ◌+◌, ◌-◌, ◌<◌, ◌≤◌, List, [], ◌∷◌, ◌++◌, length, get_or, take, drop, refl, sym, ◌∙◌, ap, subst, ⊎_elim, arith}
use Rattle.std.specs.List.{slice_range}
use Rattle.std.proofs.lemmas.Bool.{cases_lt}
use Rattle.std.proofs.lemmas.List.{length-append, length-drop, get_or_append_left, get_or_push, ext_get_or, drop-append-le, drop_at, take-append-le, take_all}
use Rattle.std.proofs.Math.Seq.{take-add, drop-nil}
use Rattle.std.proofs.lemmas.List.FromFn.{length-map-range_with_len, get_or-map-range_with_len}
use Rattle.moved_set.specs.Flat.{groups_of, IsFlat}
use Rattle.moved_set.specs.declared.mask.Mask.{Mask}

pub length-groups_of : (starts : List ℕ) (masks : List Mask) → length (groups_of starts masks) ≡ length starts - 1
length-groups_of starts masks = length-map-range_with_len (λ i. slice_range masks (get_or starts i 0) (get_or starts (i + 1) 0)) 0 (length starts - 1)

pub group_at : (starts : List ℕ) (masks : List Mask) (i : ℕ) → i < length starts - 1 → get_or (groups_of starts masks) i [] ≡ slice_range masks (get_or starts i 0) (get_or starts (i + 1) 0)
group_at starts masks i h =
    get_or-map-range_with_len (λ k. slice_range masks (get_or starts k 0) (get_or starts (k + 1) 0)) 0 (length starts - 1) i i [] h (omega arith)

-- a part of a list stays where more is put behind the list
part_kept : (masks more : List Mask) (a b : ℕ) → a ≤ b → b ≤ length masks → slice_range (masks ++ more) a b ≡ slice_range masks a b
part_kept masks more a b le within =
    ap (take (b - a)) (drop-append-le a masks more (omega arith))
    ∙ take-append-le (b - a) (drop a masks) more (omega (arith, length-drop a masks))

-- the part that is put behind
part_new : (masks more : List Mask) → slice_range (masks ++ more) (length masks) (length (masks ++ more)) ≡ more
part_new masks more =
    ap (take (length (masks ++ more) - length masks)) (drop_at masks more (length masks) refl)
    ∙ take_all (length (masks ++ more) - length masks) more (omega (arith, length-append masks more))

pub flat_push : (starts : List ℕ) (masks more : List Mask) → IsFlat starts masks
    → groups_of (starts ++ length (masks ++ more) ∷ []) (masks ++ more) ≡ groups_of starts masks ++ more ∷ []
flat_push starts masks more flat =
    let ends : List ℕ = starts ++ length (masks ++ more) ∷ [] in
    let all : List Mask = masks ++ more in
    let some : 0 < length starts = flat.some in
    let len : length ends ≡ length starts + 1 = length-append starts (length all ∷ []) in
    let left : length (groups_of ends all) ≡ length starts = omega (arith, length-groups_of ends all) in
    let right : length (groups_of starts masks ++ more ∷ []) ≡ length starts = omega (arith, length-append (groups_of starts masks) (more ∷ []), length-groups_of starts masks) in
    ext_get_or [] (groups_of ends all) (groups_of starts masks ++ more ∷ []) (left ∙ sym right)
    (λ i h.
    let below : i < length ends - 1 = omega arith in
    let at : get_or (groups_of ends all) i [] ≡ slice_range all (get_or ends i 0) (get_or ends (i + 1) 0) = group_at ends all i below in
    let first : get_or ends i 0 ≡ get_or starts i 0 = get_or_append_left starts (length all ∷ []) 0 i (omega arith) in
    let old : i < length starts - 1 → get_or (groups_of ends all) i [] ≡ get_or (groups_of starts masks ++ more ∷ []) i [] =
    λ lt.
    let second : get_or ends (i + 1) 0 ≡ get_or starts (i + 1) 0 = get_or_append_left starts (length all ∷ []) 0 (i + 1) (omega arith) in
    at ∙ ap (λ (a : ℕ). slice_range all a (get_or ends (i + 1) 0)) first ∙ ap (λ (b : ℕ). slice_range all (get_or starts i 0) b) second
    ∙ part_kept masks more (get_or starts i 0) (get_or starts (i + 1) 0) (flat.rising i (omega arith)) (flat.within (i + 1) (omega arith))
    ∙ sym (group_at starts masks i lt)
    ∙ sym (get_or_append_left (groups_of starts masks) (more ∷ []) [] i (omega (arith, length-groups_of starts masks))) in
    let new : length starts - 1 ≤ i → get_or (groups_of ends all) i [] ≡ get_or (groups_of starts masks ++ more ∷ []) i [] =
    λ le.
    let i_is : i ≡ length starts - 1 = omega arith in
    let begin : get_or ends i 0 ≡ length masks = first ∙ ap (λ (k : ℕ). get_or starts k 0) i_is ∙ flat.last in
    let end : get_or ends (i + 1) 0 ≡ length all = get_or_push starts (length all) 0 (i + 1) (omega arith) in
    at ∙ ap (λ (a : ℕ). slice_range all a (get_or ends (i + 1) 0)) begin ∙ ap (λ (b : ℕ). slice_range all (length masks) b) end
    ∙ part_new masks more
    ∙ sym (get_or_push (groups_of starts masks) more [] i (omega (arith, length-groups_of starts masks))) in
    ⊎_elim old new (cases_lt i (length starts - 1)))

drop-drop : (a b : ℕ) (masks : List Mask) → a ≤ b → drop (b - a) (drop a masks) ≡ drop b masks
drop-drop zero b masks le = ap (λ (n : ℕ). drop n masks) (omega arith)
drop-drop (suc a) zero masks le = absurd (omega arith)
drop-drop (suc a) (suc b) [] le = drop-nil (suc b - suc a) ∙ sym (drop-nil (suc b))
drop-drop (suc a) (suc b) (m ∷ ms) le = ap (λ (n : ℕ). drop n (drop a ms)) (omega arith) ∙ drop-drop a b ms (omega arith)

-- two parts that follow each other are one
pub parts_join : (masks : List Mask) (a b c : ℕ) → a ≤ b → b ≤ c → slice_range masks a c ≡ slice_range masks a b ++ slice_range masks b c
parts_join masks a b c le lt =
    let count : c - a ≡ (b - a) + (c - b) = omega arith in
    let here : drop (b - a) (drop a masks) ≡ drop b masks = drop-drop a b masks le in
    ap (λ (n : ℕ). take n (drop a masks)) count ∙ take-add (b - a) (c - b) (drop a masks) ∙ ap (λ (ms : List Mask). take (b - a) (drop a masks) ++ take (c - b) ms) here

-- the starts rise
pub rise_one : (starts : List ℕ) (masks : List Mask) (i : ℕ) → IsFlat starts masks → i + 1 < length starts → get_or starts i 0 ≤ get_or starts (i + 1) 0
rise_one starts masks i flat h = flat.rising i h

pub rise_two : (starts : List ℕ) (masks : List Mask) (i : ℕ) → IsFlat starts masks → i + 2 < length starts → get_or starts i 0 ≤ get_or starts (i + 2) 0
rise_two starts masks i flat h =
    let one = rise_one starts masks i flat (omega arith) in
    let two : get_or starts (i + 1) 0 ≤ get_or starts (i + 2) 0 = subst (λ (n : ℕ). get_or starts (i + 1) 0 ≤ get_or starts n 0) (omega arith) (flat.rising (i + 1) (omega arith)) in
    omega arith

pub rise_three : (starts : List ℕ) (masks : List Mask) (i : ℕ) → IsFlat starts masks → i + 3 < length starts → get_or starts i 0 ≤ get_or starts (i + 3) 0
rise_three starts masks i flat h =
    let one = rise_two starts masks i flat (omega arith) in
    let two : get_or starts (i + 2) 0 ≤ get_or starts (i + 3) 0 = subst (λ (n : ℕ). get_or starts (i + 2) 0 ≤ get_or starts n 0) (omega arith) (flat.rising (i + 2) (omega arith)) in
    omega arith

-- two groups, and three
pub group_two : (starts : List ℕ) (masks : List Mask) (i : ℕ) → IsFlat starts masks → i + 1 < length starts - 1
    → slice_range masks (get_or starts i 0) (get_or starts (i + 2) 0) ≡ get_or (groups_of starts masks) i [] ++ get_or (groups_of starts masks) (i + 1) []
group_two starts masks i flat h =
    let next : get_or (groups_of starts masks) (i + 1) [] ≡ slice_range masks (get_or starts (i + 1) 0) (get_or starts (i + 2) 0) =
    group_at starts masks (i + 1) h ∙ ap (λ (n : ℕ). slice_range masks (get_or starts (i + 1) 0) (get_or starts n 0)) (omega arith) in
    let last : get_or starts (i + 1) 0 ≤ get_or starts (i + 2) 0 = subst (λ (n : ℕ). get_or starts (i + 1) 0 ≤ get_or starts n 0) (omega arith) (flat.rising (i + 1) (omega arith)) in
    parts_join masks (get_or starts i 0) (get_or starts (i + 1) 0) (get_or starts (i + 2) 0) (flat.rising i (omega arith)) last
    ∙ ap (λ (ms : List Mask). ms ++ slice_range masks (get_or starts (i + 1) 0) (get_or starts (i + 2) 0)) (sym (group_at starts masks i (omega arith)))
    ∙ ap (λ (ms : List Mask). get_or (groups_of starts masks) i [] ++ ms) (sym next)

pub group_three : (starts : List ℕ) (masks : List Mask) (i : ℕ) → IsFlat starts masks → i + 2 < length starts - 1
    → slice_range masks (get_or starts i 0) (get_or starts (i + 3) 0) ≡ get_or (groups_of starts masks) i [] ++ get_or (groups_of starts masks) (i + 1) [] ++ get_or (groups_of starts masks) (i + 2) []
group_three starts masks i flat h =
    let next : get_or (groups_of starts masks) (i + 2) [] ≡ slice_range masks (get_or starts (i + 2) 0) (get_or starts (i + 3) 0) =
    group_at starts masks (i + 2) h ∙ ap (λ (n : ℕ). slice_range masks (get_or starts (i + 2) 0) (get_or starts n 0)) (omega arith) in
    let mid : get_or starts (i + 1) 0 ≤ get_or starts (i + 2) 0 = subst (λ (n : ℕ). get_or starts (i + 1) 0 ≤ get_or starts n 0) (omega arith) (flat.rising (i + 1) (omega arith)) in
    let first = flat.rising i (omega arith) in
    let last : get_or starts (i + 2) 0 ≤ get_or starts (i + 3) 0 = subst (λ (n : ℕ). get_or starts (i + 2) 0 ≤ get_or starts n 0) (omega arith) (flat.rising (i + 2) (omega arith)) in
    parts_join masks (get_or starts i 0) (get_or starts (i + 2) 0) (get_or starts (i + 3) 0) (omega arith) last
    ∙ ap (λ (ms : List Mask). ms ++ slice_range masks (get_or starts (i + 2) 0) (get_or starts (i + 3) 0)) (group_two starts masks i flat (omega arith))
    ∙ ap (λ (ms : List Mask). get_or (groups_of starts masks) i [] ++ get_or (groups_of starts masks) (i + 1) [] ++ ms) (sym next)

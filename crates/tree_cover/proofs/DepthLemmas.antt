-- All parts of one depth are those into which a tree is cut at each node above that depth.
use Rattle.std.proofs.Common.{◌≡◌, ◌<◌, ◌+◌, ◌-◌, ◌*◌, ◌^◌, ℕ, zero, suc, [], ◌∷◌, length, get_or, Some, refl, sym, ap, subst, ◌∙◌, arith}
use Rattle.std.proofs.Math.Nat.{pow-suc}
use Rattle.std.proofs.lemmas.List.{get_or_append_left, get_or-append_right, length-append}
use Rattle.std.proofs.lemmas.List.FromFn.{length-map-range_with_len, get_or-map-range_with_len, fill_by_all}
use Rattle.std.proofs.lemmas.Option.{slice_get-get_or}
use mathlib.Core.Logic.{dite}
use native.Mathlib.Decide.{dec_le}
use Rattle.tree_cover.specs.declared.part.Part.{Part}
use Rattle.tree_cover.specs.Covers.{Cuts, none, both, part_at, parts_of, IsPart, parts_to, PartsTo}

-- cut at each node above a depth
abbrev full : ℕ → Cuts
full zero = none
full (suc depth) = both (full depth) (full depth)

-- the least number so many turns below a node
abbrev first : ℕ → ℕ → ℕ
first number zero = number
first number (suc depth) = first (2 * number) depth

first_next : (depth number : ℕ) → first (number + 1) depth ≡ first number depth + 2 ^ depth
first_next zero number = refl
first_next (suc depth) number =
    let e : 2 * (number + 1) ≡ 2 * number + 1 + 1 = omega arith in
    let low = first_next depth (2 * number) in
    let high = first_next depth (2 * number + 1) in
    let p = pow-suc 2 depth in
    let same : first (2 * (number + 1)) depth ≡ first (2 * number + 1 + 1) depth = ap (λ (n : ℕ). first n depth) e in
    omega arith

first_of_all : (depth : ℕ) → first 0 depth ≡ 0
first_of_all zero = refl
first_of_all (suc depth) = first_of_all depth

same_part : (depth other number more : ℕ) → depth ≡ other → number ≡ more → part_at depth number ≡ part_at other more
same_part depth other number more d n = ap (λ (x : ℕ). part_at x number) d ∙ ap (λ (x : ℕ). part_at other x) n

length_full : (depth above number : ℕ) → length (parts_of above number (full depth)) ≡ 2 ^ depth
length_full zero above number = refl
length_full (suc depth) above number =
    let l = length-append (parts_of (above + 1) (2 * number) (full depth)) (parts_of (above + 1) (2 * number + 1) (full depth)) in
    let left = length_full depth (above + 1) (2 * number) in
    let right = length_full depth (above + 1) (2 * number + 1) in
    let p = pow-suc 2 depth in
    omega arith

-- each of them by its place
get_full : (depth above number place : ℕ) (d : Part) → place < 2 ^ depth →
    get_or (parts_of above number (full depth)) place d ≡ part_at (above + depth) (first number depth + place)
get_full zero above number place d low =
    let e : place ≡ 0 = omega arith in
    subst (λ (p : ℕ). get_or (part_at above number ∷ []) p d ≡ part_at (above + 0) (number + p)) (sym e)
    (same_part above (above + 0) number (number + 0) (omega arith) (omega arith))
get_full (suc depth) above number place d low =
    let xs = parts_of (above + 1) (2 * number) (full depth) in
    let ys = parts_of (above + 1) (2 * number + 1) (full depth) in
    let l = length_full depth (above + 1) (2 * number) in
    let p = pow-suc 2 depth in
    dite (dec_le (suc place) (2 ^ depth))
    (λ (left : place < 2 ^ depth). get_or_append_left xs ys d place (omega arith) ∙ (get_full depth (above + 1) (2 * number) place d left ∙
    same_part (above + 1 + depth) (above + suc depth) (first (2 * number) depth + place) (first (2 * number) depth + place) (omega arith) refl))
    (λ (no : ¬ (place < 2 ^ depth)).
    let next = first_next depth (2 * number) in
    get_or-append_right xs ys (2 ^ depth) place d l (omega arith) ∙ (get_full depth (above + 1) (2 * number + 1) (place - 2 ^ depth) d (omega arith) ∙
    same_part (above + 1 + depth) (above + suc depth) (first (2 * number + 1) depth + (place - 2 ^ depth)) (first (2 * number) depth + place) (omega arith) (omega arith)))

-- the parts of one depth, by their places
length_to : (depth : ℕ) → length (parts_to depth) ≡ 2 ^ depth
length_to depth = length-map-range_with_len (part_at depth) 0 (2 ^ depth)

get_to : (depth number : ℕ) (d : Part) → number < 2 ^ depth → get_or (parts_to depth) number d ≡ part_at depth number
get_to depth number d low = get_or-map-range_with_len (part_at depth) 0 (2 ^ depth) number number d low (omega arith)

are_full : (depth : ℕ) → parts_of 0 0 (full depth) ≡ parts_to depth
are_full depth = fill_by_all (part_at depth) (parts_of 0 0 (full depth)) (2 ^ depth) (part_at 0 0) (length_full depth 0 0)
    (λ k low. let z = first_of_all depth in
    get_full depth 0 0 k (part_at 0 0) low ∙ same_part (0 + depth) depth (first 0 depth + k) k (omega arith) (omega arith))

pub parts_to_laws : PartsTo
parts_to_laws = record {
  each = λ depth few number d inside. let l = length_to depth in let low : number < 2 ^ depth = omega arith in
      subst IsPart (sym (get_to depth number d low)) (record { depth = few; number = low });
  cover = λ depth. record { cuts = full depth; are = sym (are_full depth) };
  count = length_to;
  numbered = λ depth number low. let l = length_to depth in
      slice_get-get_or (parts_to depth) number (part_at 0 0) (omega arith) ∙ ap (λ (part : Part). Some part) (get_to depth number (part_at 0 0) low);
}

-- Parts into which a tree is cut: what begins with them begins with them alone.
use Rattle.std.proofs.Common.{append-nil, ◌≡◌, ◌<◌, ◌≤◌, ◌+◌, ◌*◌, ℕ, ℤ, ◌-◌, List, [], ◌∷◌, ◌++◌, length, drop, Option, Some, None, MatchOption, refl, sym, ap, ◌∙◌, arith, flat_map}
use Rattle.std.proofs.lemmas.Grind.{flat_map-append}
use Rattle.std.proofs.lemmas.List.{append_assoc, drop_all, length-drop}
use Rattle.tree_cover.specs.declared.part.Part.{Part}
use Rattle.tree_cover.specs.Covers.{Cuts, none, both, part_at, parts_of, AreCover, IsCoverFrom, IsNoCoverFrom, JoinsLists}

-- the first of them lies as deep at least
pub first_deep : (depth number : ℕ) (cuts : Cuts) (rest : List Part) (part : Part) (others : List Part) →
    parts_of depth number cuts ++ rest ≡ part ∷ others → depth ≤ part.depth
first_deep depth number none rest part others h =
    let same : part_at depth number ≡ part = cc in let e : depth ≡ part.depth = ap (λ (p : Part). p.depth) same in omega arith
first_deep depth number (both l r) rest part others h =
    let deeper = first_deep (depth + 1) (2 * number) l (parts_of (depth + 1) (2 * number + 1) r ++ rest) part others
    (sym (append_assoc (parts_of (depth + 1) (2 * number) l) (parts_of (depth + 1) (2 * number + 1) r) rest) ∙ h) in
    omega arith

-- there is a first
pub some_part : (depth number : ℕ) (cuts : Cuts) (rest : List Part) → parts_of depth number cuts ++ rest ≡ [] → ⊥
some_part depth number none rest h = absurd cc
some_part depth number (both l r) rest h =
    some_part (depth + 1) (2 * number) l (parts_of (depth + 1) (2 * number + 1) r ++ rest)
    (sym (append_assoc (parts_of (depth + 1) (2 * number) l) (parts_of (depth + 1) (2 * number + 1) r) rest) ∙ h)

-- one that lies no deeper is the whole
pub whole : (depth number : ℕ) (cuts : Cuts) (rest : List Part) (part : Part) (others : List Part) →
    parts_of depth number cuts ++ rest ≡ part ∷ others → part.depth ≤ depth → part ≡ part_at depth number
whole depth number none rest part others h low = cc
whole depth number (both l r) rest part others h low =
    let deeper = first_deep (depth + 1) (2 * number) l (parts_of (depth + 1) (2 * number + 1) r ++ rest) part others
    (sym (append_assoc (parts_of (depth + 1) (2 * number) l) (parts_of (depth + 1) (2 * number + 1) r) rest) ∙ h) in
    absurd (omega arith)

-- two lists that begin so go on in the same way
pub one_rest : (depth number : ℕ) (cuts other : Cuts) (rest more : List Part) →
    parts_of depth number cuts ++ rest ≡ parts_of depth number other ++ more → rest ≡ more
one_rest depth number none none rest more h = cc
one_rest depth number none (both l r) rest more h =
    let deep = first_deep (depth + 1) (2 * number) l (parts_of (depth + 1) (2 * number + 1) r ++ more) (part_at depth number) rest
    (sym (append_assoc (parts_of (depth + 1) (2 * number) l) (parts_of (depth + 1) (2 * number + 1) r) more) ∙ sym h) in
    absurd (omega arith)
one_rest depth number (both l r) none rest more h =
    let deep = first_deep (depth + 1) (2 * number) l (parts_of (depth + 1) (2 * number + 1) r ++ rest) (part_at depth number) more
    (sym (append_assoc (parts_of (depth + 1) (2 * number) l) (parts_of (depth + 1) (2 * number + 1) r) rest) ∙ h) in
    absurd (omega arith)
one_rest depth number (both l r) (both k s) rest more h =
    one_rest (depth + 1) (2 * number + 1) r s rest more
    (one_rest (depth + 1) (2 * number) l k (parts_of (depth + 1) (2 * number + 1) r ++ rest) (parts_of (depth + 1) (2 * number + 1) s ++ more)
    (sym (append_assoc (parts_of (depth + 1) (2 * number) l) (parts_of (depth + 1) (2 * number + 1) r) rest) ∙ (h ∙
    append_assoc (parts_of (depth + 1) (2 * number) k) (parts_of (depth + 1) (2 * number + 1) s) more)))

-- ---- lists

module _ (listed : ℕ → ℕ → List (List ℤ))
    (joins : (depth number : ℕ) → listed depth number ≡ listed (depth + 1) (2 * number) ++ listed (depth + 1) (2 * number + 1)) where
  joined_below : (depth number : ℕ) (cuts : Cuts) → flat_map (λ (part : Part). listed part.depth part.number) (parts_of depth number cuts) ≡ listed depth number
  joined_below depth number none = append-nil (listed depth number)
  joined_below depth number (both l r) =
      flat_map-append (λ (part : Part). listed part.depth part.number) (parts_of (depth + 1) (2 * number) l) (parts_of (depth + 1) (2 * number + 1) r) ∙
      (ap (λ (xs : List (List ℤ)). xs ++ flat_map (λ (part : Part). listed part.depth part.number) (parts_of (depth + 1) (2 * number + 1) r)) (joined_below (depth + 1) (2 * number) l) ∙
      (ap (λ (xs : List (List ℤ)). listed (depth + 1) (2 * number) ++ xs) (joined_below (depth + 1) (2 * number + 1) r) ∙
      sym (joins depth number)))

pub joins_lists : JoinsLists
joins_lists listed joins parts cover =
    ap (flat_map (λ (part : Part). listed part.depth part.number)) cover.are ∙ joined_below listed joins 0 0 cover.cuts

-- ---- where the parts go on

module _ (parts : List Part) (from depth number : ℕ) where
  pub ended : length parts ≤ from → IsNoCoverFrom parts from depth number
  ended e cuts rest h = some_part depth number cuts rest (sym h ∙ drop_all from parts e)

  pub no_leaf : (part : Part) (others : List Part) → drop from parts ≡ part ∷ others → part.depth ≤ depth → (part ≡ part_at depth number → ⊥) →
      IsNoCoverFrom parts from depth number
  no_leaf part others h low other cuts rest k = other (whole depth number cuts rest part others (sym k ∙ h) low)

  pub no_left : (part : Part) (others : List Part) → drop from parts ≡ part ∷ others → depth < part.depth →
      IsNoCoverFrom parts from (depth + 1) (2 * number) → IsNoCoverFrom parts from depth number
  no_left part others h deep missing none rest k =
      let e : part ≡ part_at depth number = (let l = sym h ∙ k in cc) in let d : part.depth ≡ depth = ap (λ (p : Part). p.depth) e in absurd (omega arith)
  no_left part others h deep missing (both l r) rest k =
      missing l (parts_of (depth + 1) (2 * number + 1) r ++ rest) (k ∙ append_assoc (parts_of (depth + 1) (2 * number) l) (parts_of (depth + 1) (2 * number + 1) r) rest)

  pub no_right : (part : Part) (others : List Part) (middle : ℕ) → drop from parts ≡ part ∷ others → depth < part.depth →
      IsCoverFrom parts from (depth + 1) (2 * number) middle → IsNoCoverFrom parts middle (depth + 1) (2 * number + 1) → IsNoCoverFrom parts from depth number
  no_right part others middle h deep left missing none rest k =
      let e : part ≡ part_at depth number = (let l = sym h ∙ k in cc) in let d : part.depth ≡ depth = ap (λ (p : Part). p.depth) e in absurd (omega arith)
  no_right part others middle h deep left missing (both l r) rest k =
      missing r rest (one_rest (depth + 1) (2 * number) left.cuts l (drop middle parts) (parts_of (depth + 1) (2 * number + 1) r ++ rest)
      (sym left.are ∙ (k ∙ append_assoc (parts_of (depth + 1) (2 * number) l) (parts_of (depth + 1) (2 * number + 1) r) rest)))

  pub both_sides : (middle to : ℕ) → IsCoverFrom parts from (depth + 1) (2 * number) middle → IsCoverFrom parts middle (depth + 1) (2 * number + 1) to →
      IsCoverFrom parts from depth number to
  both_sides middle to left right = record {
    cuts = both left.cuts right.cuts;
    are = left.are ∙ (ap (λ (l : List Part). parts_of (depth + 1) (2 * number) left.cuts ++ l) right.are ∙
        sym (append_assoc (parts_of (depth + 1) (2 * number) left.cuts) (parts_of (depth + 1) (2 * number + 1) right.cuts) (drop to parts)));
    inside = right.inside;
  }

pub map_option : {X : Type 0} (found : Option X) (A C : Type 0) (B D : X → Type 0) → (A → C) → ((x : X) → B x → D x) → MatchOption found A B → MatchOption found C D
map_option None A C B D f g h = f h
map_option (Some x) A C B D f g h = g x h

-- ---- the whole

pub covers : (parts : List Part) (end : ℕ) → IsCoverFrom parts 0 0 0 end → end ≡ length parts → AreCover parts
covers parts end from e = record {
  cuts = from.cuts;
  are = let none_left : drop end parts ≡ [] = drop_all end parts (omega arith) in
      from.are ∙ (ap (λ (l : List Part). parts_of 0 0 from.cuts ++ l) none_left ∙ append-nil (parts_of 0 0 from.cuts));
}

pub ends_there : (parts : List Part) (end : ℕ) → IsCoverFrom parts 0 0 0 end → AreCover parts → end ≡ length parts
ends_there parts end from cover =
    let rest : drop end parts ≡ [] = one_rest 0 0 from.cuts cover.cuts (drop end parts) [] (sym from.are ∙ (cover.are ∙ sym (append-nil (parts_of 0 0 cover.cuts)))) in
    let l : length (drop end parts) ≡ length parts - end = length-drop end parts in
    let z : length (drop end parts) ≡ 0 = ap (λ (xs : List Part). length xs) rest in
    let inside = from.inside in
    omega arith

pub no_cover : (parts : List Part) → IsNoCoverFrom parts 0 0 0 → AreCover parts → ⊥
no_cover parts missing cover = missing cover.cuts [] (cover.are ∙ sym (append-nil (parts_of 0 0 cover.cuts)))

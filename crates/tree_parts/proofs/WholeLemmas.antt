-- From parts that cover a search tree to the whole, along the cuts.
use Rattle.std.proofs.Common.{append-nil, ◌≡◌, ℕ, suc, ℤ, ◌+◌, ◌-◌, ◌*◌, ◌^◌, ◌<◌, List, [], ◌∷◌, ◌++◌, length, All, Option, Some, None, get_or, refl, sym, ap, subst, ◌∙◌, arith}
use Rattle.std.proofs.Math.Nat.{pow-suc}
use Rattle.std.proofs.lemmas.Grind.{flat_map-append}
use Rattle.std.proofs.lemmas.List.Elements.{All-append}
use Rattle.std.proofs.lemmas.List.{get_or_append_left, get_or-append_right, length-append}
use Rattle.interval.specs.Boxes.{Bounds}
use Rattle.guarded_tell.specs.declared.kernel.Kernel.{Kernel}
use Rattle.constraint_model.specs.declared.model.FznModel.{FznModel}
use Rattle.branching.specs.Tree.{SolutionsIn, OneList, EveryList}
use Rattle.subproblems.specs.Cuts.{CanBeCut}
use Rattle.subproblems.specs.Paths.{LeadsTo, SolutionsOf, PathLaws}
use Rattle.subproblems.specs.Deeper.{DeeperLaws}
use Rattle.tree_cover.specs.declared.part.Part.{Part}
use Rattle.tree_cover.specs.Covers.{Cuts, none, both, part_at, parts_of}
use Rattle.tree_parts.specs.Whole.{IsListed, AreListed, joined, WholeOfParts, CostsAtLeast, EachCostsAtLeast, LeastOfParts}

all_left : (Q : Part → Type 0) (xs ys : List Part) → All Q (xs ++ ys) → All Q xs
all_left Q xs ys h k d low = subst Q (get_or_append_left xs ys d k low) (h k d (let l = length-append xs ys in omega arith))

all_right : (Q : Part → Type 0) (xs ys : List Part) → All Q (xs ++ ys) → All Q ys
all_right Q xs ys h k d low =
    let same : length xs + k - length xs ≡ k = omega arith in
    subst (λ (i : ℕ). Q (get_or ys i d)) same
    (subst Q (get_or-append_right xs ys (length xs) (length xs + k) d refl (omega arith)) (h (length xs + k) d (let l = length-append xs ys in omega arith)))

module _ (paths : PathLaws) (deeper : DeeperLaws) (one_list : OneList) (every_list : EveryList) (model : FznModel) (kernels : List Kernel) (b : Bounds) (can : CanBeCut model kernels b) where
  -- each part has a list
  list_of : (path : Option Bounds) → ((sub : Bounds) → path ≡ Some sub → CanBeCut model kernels sub) → (found : List (List ℤ)) × SolutionsOf model kernels path found
  list_of None can_sub = ([], refl)
  list_of (Some sub) can_sub = let c = can_sub sub refl in every_list model kernels sub c.search c.long c.in_range c.fit

  some_list : (depth number : ℕ) → number < 2 ^ depth → (found : List (List ℤ)) × IsListed model kernels b (part_at depth number) found
  some_list depth number low =
      let every = paths.every model kernels depth b can in
      let leads = every.1.each number low in
      let path = get_or every.0 number None in
      let l = list_of path (λ sub e. deeper.can model kernels depth b number sub can (subst (LeadsTo model kernels depth b number) e leads)) in
      (l.0, record { path = path; leads = leads; listed = l.1 })

  -- two lists of one part are the same
  same_list : (depth number : ℕ) (found other : List (List ℤ)) → IsListed model kernels b (part_at depth number) found → IsListed model kernels b (part_at depth number) other → found ≡ other
  same_list depth number found other h k =
      let e : k.path ≡ h.path = paths.one model kernels depth b number k.path h.path can.search k.leads h.leads in
      same_of h.path h.listed (subst (λ (path : Option Bounds). SolutionsOf model kernels path other) e k.listed)
    where
      same_of : (path : Option Bounds) → SolutionsOf model kernels path found → SolutionsOf model kernels path other → found ≡ other
      same_of None l m = l ∙ sym m
      same_of (Some sub) l m = one_list model kernels sub found other can.search l m

  -- the list of a part is those of its two halves
  joins : (depth number : ℕ) (lefts rights : List (List ℤ)) → number < 2 ^ depth →
      IsListed model kernels b (part_at (depth + 1) (2 * number)) lefts → IsListed model kernels b (part_at (depth + 1) (2 * number + 1)) rights →
      IsListed model kernels b (part_at depth number) (lefts ++ rights)
  joins depth number lefts rights low h k =
      let s = some_list depth number low in
      let next : depth + 1 ≡ suc depth = omega arith in
      let l : LeadsTo model kernels (suc depth) b (2 * number) h.path = subst (λ (d : ℕ). LeadsTo model kernels d b (2 * number) h.path) next h.leads in
      let r : LeadsTo model kernels (suc depth) b (2 * number + 1) k.path = subst (λ (d : ℕ). LeadsTo model kernels d b (2 * number + 1) k.path) next k.leads in
      let e : s.0 ≡ lefts ++ rights = deeper.joined model kernels depth b number s.1.path h.path k.path s.0 lefts rights can low s.1.leads l r s.1.listed h.listed k.listed in
      subst (IsListed model kernels b (part_at depth number)) e s.1

  lower : (depth number : ℕ) → number < 2 ^ depth → 2 * number < 2 ^ (depth + 1)
  lower depth number low = let p = pow-suc 2 depth in let next : depth + 1 ≡ suc depth = omega arith in
      subst (λ (d : ℕ). 2 * number < 2 ^ d) (sym next) (omega arith)

  upper : (depth number : ℕ) → number < 2 ^ depth → 2 * number + 1 < 2 ^ (depth + 1)
  upper depth number low = let p = pow-suc 2 depth in let next : depth + 1 ≡ suc depth = omega arith in
      subst (λ (d : ℕ). 2 * number + 1 < 2 ^ d) (sym next) (omega arith)

  -- lists of parts, cut where the parts are
  Halves : List Part → List Part → List (List (List ℤ)) → Type 0
  Halves xs ys lists = (ls : List (List (List ℤ))) × (rs : List (List (List ℤ))) × (lists ≡ ls ++ rs) × AreListed model kernels b xs ls × AreListed model kernels b ys rs

  halves : (xs ys : List Part) (lists : List (List (List ℤ))) → AreListed model kernels b (xs ++ ys) lists → Halves xs ys lists
  unfolding Halves
  halves [] ys lists h = ([], lists, refl, tt, h)
  halves (x ∷ xs) ys [] h = absurd h
  halves (x ∷ xs) ys (found ∷ lists) h = let r = halves xs ys lists h.1 in (found ∷ r.0, r.1, ap (λ (l : List (List (List ℤ))). found ∷ l) r.2, (h.0, r.3), r.4)

  whole_below : (depth number : ℕ) (cuts : Cuts) (lists : List (List (List ℤ))) → number < 2 ^ depth → AreListed model kernels b (parts_of depth number cuts) lists →
      IsListed model kernels b (part_at depth number) (joined lists)
  unfolding Halves
  whole_below depth number none [] low h = absurd h
  whole_below depth number none (found ∷ []) low h = subst (IsListed model kernels b (part_at depth number)) (sym (append-nil found)) h.0
  whole_below depth number none (found ∷ other ∷ lists) low h = absurd h.1
  whole_below depth number (both l r) lists low h =
      let s = halves (parts_of (depth + 1) (2 * number) l) (parts_of (depth + 1) (2 * number + 1) r) lists h in
      let lefts = whole_below (depth + 1) (2 * number) l s.0 (lower depth number low) s.3 in
      let rights = whole_below (depth + 1) (2 * number + 1) r s.1 (upper depth number low) s.4 in
      let e : joined s.0 ++ joined s.1 ≡ joined lists =
      sym (ap (λ (x : List (List (List ℤ))). joined x) s.2 ∙ flat_map-append (λ (x : List (List ℤ)). x) s.0 s.1) in
      subst (IsListed model kernels b (part_at depth number)) e (joins depth number (joined s.0) (joined s.1) low lefts rights)

  root : (found : List (List ℤ)) → IsListed model kernels b (part_at 0 0) found → SolutionsIn model kernels b found
  root found h = let e : h.path ≡ Some b = h.leads in subst (λ (path : Option Bounds). SolutionsOf model kernels path found) e h.listed

  true_below : (least : ℤ) (depth number : ℕ) (cuts : Cuts) → number < 2 ^ depth → All (EachCostsAtLeast model kernels b least) (parts_of depth number cuts) →
      EachCostsAtLeast model kernels b least (part_at depth number)
  true_below least depth number none low h = h 0 (part_at depth number) (omega arith)
  true_below least depth number (both l r) low h = λ found is.
      let Q = EachCostsAtLeast model kernels b least in
      let xs = parts_of (depth + 1) (2 * number) l in
      let ys = parts_of (depth + 1) (2 * number + 1) r in
      let ls = some_list (depth + 1) (2 * number) (lower depth number low) in
      let rs = some_list (depth + 1) (2 * number + 1) (upper depth number low) in
      let e : ls.0 ++ rs.0 ≡ found = same_list depth number (ls.0 ++ rs.0) found (joins depth number ls.0 rs.0 low ls.1 rs.1) is in
      subst (All (CostsAtLeast model.goal least)) e (All-append (CostsAtLeast model.goal least) ls.0 rs.0
      (true_below least (depth + 1) (2 * number) l (lower depth number low) (all_left Q xs ys h) ls.0 ls.1)
      (true_below least (depth + 1) (2 * number + 1) r (upper depth number low) (all_right Q xs ys h) rs.0 rs.1))

pub whole_of_parts : PathLaws → DeeperLaws → OneList → EveryList → WholeOfParts
whole_of_parts paths deeper one_list every_list model kernels b parts lists can are cover h =
    root paths deeper one_list every_list model kernels b can (joined lists)
    (whole_below paths deeper one_list every_list model kernels b can 0 0 cover.cuts lists (omega arith) (subst (λ (ps : List Part). AreListed model kernels b ps lists) cover.are h))

pub least_of_parts : PathLaws → DeeperLaws → OneList → EveryList → LeastOfParts
least_of_parts paths deeper one_list every_list model kernels b parts least found can are cover h is =
    true_below paths deeper one_list every_list model kernels b can least 0 0 cover.cuts (omega arith) (subst (All (EachCostsAtLeast model kernels b least)) cover.are h)
    found (record { path = Some b; leads = refl; listed = is })

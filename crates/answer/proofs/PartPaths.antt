-- What the parts of a list lead to, and the lists of solutions of parts that cover the tree.
use Rattle.std.proofs.Common.{◌≡◌, ℕ, zero, suc, ℤ, ◌<◌, List, [], ◌∷◌, length, get_or, All, Option, None, Some, refl, ap, subst, ◌∙◌, arith}
use Rattle.std.proofs.lemmas.Option.{slice_get-get_or}
use Rattle.std.proofs.lemmas.List.Elements.{All-head, All-tail}
use Rattle.interval.specs.Boxes.{Bounds, IsInside}
use Rattle.guarded_tell.specs.declared.kernel.Kernel.{Kernel}
use Rattle.constraint_model.specs.declared.model.FznModel.{FznModel}
use Rattle.constraint_model.specs.Searches.{IsSearchOf}
use Rattle.branching.specs.Tree.{OneList, EveryList, SolutionsIn}
use Rattle.subproblems.specs.Cuts.{CanBeCut, CutLaws}
use Rattle.subproblems.specs.Paths.{LeadsTo, SolutionsOf, SolutionsOfAll, PathLaws}
use Rattle.tree_cover.specs.declared.part.Part.{Part}
use Rattle.tree_cover.specs.Covers.{IsPart}
use Rattle.tree_parts.specs.Whole.{AreListed, joined, WholeOfParts}
use Rattle.answer.specs.Places.{StandsAt, PartLeadsTo}
use Rattle.answer.specs.Parts.{AreParts}
use Rattle.answer.proofs.PathBoxes.{path_can}

pub same_part : (parts : List Part) (place : ℕ) (p q : Part) → StandsAt parts place p → StandsAt parts place q → p ≡ q
same_part parts place p q h k = cc

-- the part that is read at a place stands there, and is one
pub part_stands : (parts : List Part) (place : ℕ) (p : Part) → place < length parts → get_or parts place p ≡ p → StandsAt parts place p
part_stands parts place p below e = slice_get-get_or parts place p below ∙ ap (λ (q : Part). Some q) e

pub part_is : (parts : List Part) (place : ℕ) (p : Part) → All IsPart parts → place < length parts → get_or parts place p ≡ p → IsPart p
part_is parts place p each below e = subst IsPart e (each place p below)

-- ---- what one part leads to

pub one_at : (laws : PathLaws) (model : FznModel) (kernels : List Kernel) (parts : List Part) (b : Bounds) (place : ℕ) (found other : Option Bounds) → IsSearchOf model →
    PartLeadsTo model kernels parts b place found → PartLeadsTo model kernels parts b place other → found ≡ other
one_at laws model kernels parts b place found other rule h k =
    let same = same_part parts place k.part h.part k.stands h.stands in
    laws.one model kernels h.part.depth b h.part.number found other rule h.leads (subst (λ (p : Part). LeadsTo model kernels p.depth b p.number other) same k.leads)

pub inside_at : (laws : PathLaws) (model : FznModel) (kernels : List Kernel) (parts : List Part) (b : Bounds) (place : ℕ) (sub : Bounds) → CanBeCut model kernels b →
    PartLeadsTo model kernels parts b place (Some sub) → IsInside sub b
inside_at laws model kernels parts b place sub can h = laws.inside model kernels h.part.depth b h.part.number sub can h.leads

pub can_at : (cuts : CutLaws) (model : FznModel) (kernels : List Kernel) (parts : List Part) (b : Bounds) (place : ℕ) (sub : Bounds) → CanBeCut model kernels b →
    PartLeadsTo model kernels parts b place (Some sub) → CanBeCut model kernels sub
can_at cuts model kernels parts b place sub can h = path_can cuts model kernels h.part.depth b h.part.number sub can h.leads

-- ---- what all of them lead to

-- what each part leads to, the first part first
pub record ArePathsOf (model : FznModel) (kernels : List Kernel) (parts : List Part) (b : Bounds) (paths : List (Option Bounds)) : Type 0 where
  pub count : length paths ≡ length parts
  pub each : (place : ℕ) → place < length parts → PartLeadsTo model kernels parts b place (get_or paths place None)

module _ (model : FznModel) (kernels : List Kernel) (b : Bounds) where
  paths_more : (part : Part) (parts : List Part) (path : Option Bounds) (paths : List (Option Bounds)) → LeadsTo model kernels part.depth b part.number path → ArePathsOf model kernels parts b paths →
      ArePathsOf model kernels (part ∷ parts) b (path ∷ paths)
  paths_more part parts path paths leads rest = record { count = (let e = rest.count in omega arith); each = each }
    where
      each : (place : ℕ) → place < length (part ∷ parts) → PartLeadsTo model kernels (part ∷ parts) b place (get_or (path ∷ paths) place None)
      each zero l = record { part = part; stands = refl; leads = leads }
      each (suc place) l = let own = rest.each place (omega arith) in record { part = own.part; stands = own.stands; leads = own.leads }

  paths_later : (part : Part) (parts : List Part) (path : Option Bounds) (paths : List (Option Bounds)) → ArePathsOf model kernels (part ∷ parts) b (path ∷ paths) → ArePathsOf model kernels parts b paths
  paths_later part parts path paths h = record {
    count = (let e = h.count in omega arith);
    each = λ place below. let own = h.each (suc place) (omega arith) in record { part = own.part; stands = own.stands; leads = own.leads };
  }

  path_first : (part : Part) (parts : List Part) (path : Option Bounds) (paths : List (Option Bounds)) → ArePathsOf model kernels (part ∷ parts) b (path ∷ paths) →
      LeadsTo model kernels part.depth b part.number path
  path_first part parts path paths h =
      let own = h.each 0 (omega arith) in
      let same = same_part (part ∷ parts) 0 own.part part own.stands refl in
      subst (λ (p : Part). LeadsTo model kernels p.depth b p.number path) same own.leads

pub every_at : (laws : PathLaws) (model : FznModel) (kernels : List Kernel) (parts : List Part) (b : Bounds) → All IsPart parts → CanBeCut model kernels b →
    (paths : List (Option Bounds)) × ArePathsOf model kernels parts b paths
every_at laws model kernels [] b each can = ([], record { count = refl; each = λ place below. absurd (omega arith) })
every_at laws model kernels (part ∷ parts) b each can =
    let own = laws.every model kernels part.depth b can in
    let is = All-head IsPart part parts each in
    let rest = every_at laws model kernels parts b (All-tail IsPart part parts each) can in
    (get_or own.0 part.number None ∷ rest.0, paths_more model kernels b part parts (get_or own.0 part.number None) rest.0 (own.1.each part.number is.number) rest.1)

-- ---- their lists

-- the list of solutions in a box is those of what parts that cover the tree lead to, one behind the other
abbrev pub ListedByParts : Type 0
ListedByParts = (model : FznModel) (kernels : List Kernel) (parts : List Part) (b : Bounds) (paths : List (Option Bounds)) (found : List (List ℤ)) → CanBeCut model kernels b → AreParts parts →
    ArePathsOf model kernels parts b paths → SolutionsIn model kernels b found → SolutionsOfAll model kernels paths found

module _ (every : EveryList) (cuts : CutLaws) (model : FznModel) (kernels : List Kernel) (b : Bounds) (can : CanBeCut model kernels b) where
  list_of : (path : Option Bounds) → ((sub : Bounds) → path ≡ Some sub → CanBeCut model kernels sub) → (found : List (List ℤ)) × SolutionsOf model kernels path found
  list_of None can_sub = ([], refl)
  list_of (Some sub) can_sub = let c = can_sub sub refl in every model kernels sub c.search c.long c.in_range c.fit

  -- each part has a list
  record HasLists (parts : List Part) (paths : List (Option Bounds)) : Type 0 where
    lists : List (List (List ℤ))
    are : AreListed model kernels b parts lists
    all : SolutionsOfAll model kernels paths (joined lists)

  has_lists : (parts : List Part) (paths : List (Option Bounds)) → ArePathsOf model kernels parts b paths → HasLists parts paths
  has_lists [] [] h = record { lists = []; are = tt; all = refl }
  has_lists [] (path ∷ paths) h = let e = h.count in absurd (omega arith)
  has_lists (part ∷ parts) [] h = let e = h.count in absurd (omega arith)
  has_lists (part ∷ parts) (path ∷ paths) h =
      let leads = path_first model kernels b part parts path paths h in
      let first = list_of path (λ sub e. path_can cuts model kernels part.depth b part.number sub can (subst (LeadsTo model kernels part.depth b part.number) e leads)) in
      let rest = has_lists parts paths (paths_later model kernels b part parts path paths h) in
      record {
        lists = first.0 ∷ rest.lists;
        are = (record { path = path; leads = leads; listed = first.1 }, rest.are);
        all = (first.0, joined rest.lists, first.1, rest.all, refl);
      }

pub listed_by_parts : WholeOfParts → OneList → EveryList → CutLaws → ListedByParts
listed_by_parts whole one every cuts model kernels parts b paths found can are h s =
    let each = has_lists every cuts model kernels b can parts paths h in
    let all = whole model kernels b parts each.lists can are.each are.cover each.are in
    subst (SolutionsOfAll model kernels paths) (one model kernels b (joined each.lists) found can.search all s) each.all

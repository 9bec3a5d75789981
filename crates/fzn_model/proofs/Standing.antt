-- Items added one by one, against the whole list.
use Rattle.std.proofs.Common.{◌≡◌, ℕ, ◌<◌, ◌≤◌, ◌+◌, List, [], ◌∷◌, ◌++◌, length, take, get_or, map, Bool, true, false, ◌||◌, Some, None, refl, sym, ap, subst, ◌∙◌, arith, below_more, nat_lt, true≢false, length-take, inl, inr, Result, Ok, Err, IfOk, IfErr, MatchResult}
use Rattle.std.proofs.lemmas.List.{take_more, take_all, take-take, get_or-take, get_or_default, get_or-map, length-map}
use Rattle.std.proofs.lemmas.List.Sums.{fold-append}
use Rattle.fzn_parser.specs.declared.tree.Item.{Item}
use Rattle.fzn_parser.specs.Parsing.{ItemTree, item_tree}
use Rattle.fzn_model.specs.declared.fault_kinds.FaultKind.{FaultKind}
use Rattle.fzn_model.specs.declared.stop.Stop.{Stop}
use Rattle.fzn_model.specs.FaultKinds.{kind_number}
use Rattle.constraint_model.specs.declared.model.FznModel.{FznModel}
use Rattle.fzn_model.specs.declared.resolving.ModelError.{ModelError}
use Rattle.fzn_model.specs.Effects.{Reading, nothing, with_item, reading_of}
use Rattle.fzn_model.specs.Faults.{fault_of, Refuses, is_too_large}
use Rattle.constraint_model.specs.Limits.{most_vars, most_kernels, most_constants}
use Rattle.fzn_model.specs.Resolving.{AreLawful, IsModelOf, IsModelWith, IsCause, stopped_at}

-- the first i items have no fault and leave this reading, which passes no limit
pub record Stands (text : List ℕ) (items : List ItemTree) (i : ℕ) (r : Reading) : Type 0 where
  pub same : r ≡ reading_of text (take i items)
  pub lawful : (k : ℕ) → k < i → (d : ItemTree) → fault_of text (reading_of text (take k items)) (get_or items k d).what ≡ None
  pub fits : is_too_large r ≡ false

pub stands_none : (text : List ℕ) (items : List ItemTree) → Stands text items 0 nothing
stands_none text items = record { same = refl; lawful = λ k l. absurd (omega arith); fits = refl }

-- a reading that is not too large has few variables and few propagators
not_less : (m n : ℕ) → nat_lt m n ≡ false → n ≤ m
not_less m n e = grind (arith)

pub few_vars : (r : Reading) → is_too_large r ≡ false → length r.vars ≤ most_vars
few_vars r e = by (nat_lt most_vars (length r.vars)) refl e
  where
    by : (b : Bool) → nat_lt most_vars (length r.vars) ≡ b → b || nat_lt most_kernels r.kernels || nat_lt most_constants (length r.constants) ≡ false → length r.vars ≤ most_vars
    by true f e = absurd (true≢false e)
    by false f e = not_less most_vars (length r.vars) f

pub few_kernels : (r : Reading) → is_too_large r ≡ false → r.kernels ≤ most_kernels
few_kernels r e = by (nat_lt most_vars (length r.vars)) (nat_lt most_kernels r.kernels) refl e
  where
    by : (b c : Bool) → nat_lt most_kernels r.kernels ≡ c → b || c || nat_lt most_constants (length r.constants) ≡ false → r.kernels ≤ most_kernels
    by true c f e = absurd (true≢false e)
    by false true f e = absurd (true≢false e)
    by false false f e = not_less most_kernels r.kernels f

module _ (text : List ℕ) (items : List Item) (i : ℕ) (d : Item) (r : Reading) (h : Stands text (map item_tree items) i r) (l : i < length items) where
  abbrev pub trees : List ItemTree
  trees = map item_tree items

  inside : i < length trees
  inside = omega (arith, length-map items item_tree, l)

  abbrev pub x : ItemTree
  x = item_tree (get_or items i d)

  here : x ≡ get_or trees i x
  here = sym (get_or-map item_tree items i d x l)

  pub stands_more : (r' : Reading) → r' ≡ with_item text r x → is_too_large (with_item text r x) ≡ false → fault_of text r x.what ≡ None → Stands text trees (i + 1) r'
  stands_more r' e f g = record {
    same = e ∙ ap (λ s. with_item text s x) h.same ∙ sym (fold-append (with_item text) nothing (take i trees) (x ∷ []))
        ∙ ap (λ y. reading_of text (take i trees ++ y ∷ [])) here ∙ ap (reading_of text) (sym (take_more trees i x inside));
    lawful = below_more (λ k. (z : ItemTree) → fault_of text (reading_of text (take k trees)) (get_or trees k z).what ≡ None) i h.lawful
        (λ z. subst (λ y. fault_of text (reading_of text (take i trees)) y.what ≡ None) (here ∙ get_or_default trees i x z inside) (subst (λ s. fault_of text s x.what ≡ None) h.same g));
    fits = ap is_too_large e ∙ f;
  }

  pub first_fault : (kind : FaultKind) → fault_of text r x.what ≡ Some kind → (z : ItemTree) → fault_of text (reading_of text (take i trees)) (get_or trees i z).what ≡ Some kind
  first_fault kind g z = subst (λ y. fault_of text (reading_of text (take i trees)) y.what ≡ Some kind) (here ∙ get_or_default trees i x z inside) (subst (λ s. fault_of text s x.what ≡ Some kind) h.same g)

  pub first_byte : (z : ItemTree) → (get_or items i d).from ≡ (get_or trees i z).from
  first_byte z = ap (λ (y : ItemTree). y.from) (here ∙ get_or_default trees i x z inside)

  pub lawful_before : AreLawful text (take i trees)
  lawful_before k z m =
      let n : k < i = omega (arith, m, length-take i trees) in
      let P : ItemTree → Type 0 = λ y. fault_of text (reading_of text (take k (take i trees))) y.what ≡ None in
      subst P (sym (get_or-take i trees k z n)) (subst (λ ts. fault_of text (reading_of text ts) (get_or trees k z).what ≡ None) (sym (take-take k i trees (omega (arith, n)))) (h.lawful k n z))

pub lawful_all : (text : List ℕ) (items : List ItemTree) (i : ℕ) (r : Reading) → Stands text items i r → length items ≤ i → AreLawful text items
lawful_all text items i r h l k z m = h.lawful k (omega arith) z

pub reading_all : (text : List ℕ) (items : List ItemTree) (i : ℕ) (r : Reading) → Stands text items i r → length items ≤ i → r ≡ reading_of text items
reading_all text items i r h l = h.same ∙ ap (reading_of text) (take_all i items l)

-- the item that isn't taken is the first fault
pub cause_here : (text : List ℕ) (items : List Item) (i : ℕ) (d : Item) (r : Reading) → Stands text (map item_tree items) i r → i < length items
    → (s : Stop) → Refuses (fault_of text r (item_tree (get_or items i d)).what) s → IsCause text (map item_tree items) (stopped_at s (get_or items i d).from)
cause_here text items i d r h l (Stop.Fault kind) g = inl (record {
  place = i;
  inside = omega (arith, length-map items item_tree, l);
  lawful = lawful_before text items i d r h l;
  which = kind;
  fault = first_fault text items i d r h l kind g;
  is_kind = refl;
  first_byte = first_byte text items i d r h l;
})
cause_here text items i d r h l Stop.NoMemory g = tt

-- all items stand, and one of them was a solve item
pub model_here : (text : List ℕ) (items : List ItemTree) (i : ℕ) (r : Reading) (m : FznModel) → Stands text items i r → length items ≤ i → IsModelWith r m → IsModelOf text items m
model_here text items i r m h l w = record { lawful = lawful_all text items i r h l; is_model = subst (λ s. IsModelWith s m) (reading_all text items i r h l) w }

-- all items stand, and none was a solve item
pub unsolved_here : (text : List ℕ) (items : List ItemTree) (i : ℕ) (r : Reading) → Stands text items i r → length items ≤ i → r.solved ≡ None → IsCause text items (ModelError.Fault (kind_number FaultKind.NoSolve) (length text))
unsolved_here text items i r h l e = inr (record {
  lawful = lawful_all text items i r h l;
  unsolved = subst (λ (s : Reading). s.solved ≡ None) (reading_all text items i r h l) e;
  is_kind = refl;
  at_end = refl;
})

pub end_here : (text : List ℕ) (items : List ItemTree) (i : ℕ) (r : Reading) (o : Result FznModel ModelError) → Stands text items i r → length items ≤ i
    → IfOk o (λ m. IsModelWith r m) → IfErr o (λ e. (e ≡ ModelError.Fault (kind_number FaultKind.NoSolve) (length text)) × (r.solved ≡ None))
    → MatchResult o (λ m. IsModelOf text items m) (λ e. IsCause text items e)
end_here text items i r (Ok m) h l w v = model_here text items i r m h l w
end_here text items i r (Err e) h l w v = subst (IsCause text items) (sym v.0) (unsolved_here text items i r h l v.1)

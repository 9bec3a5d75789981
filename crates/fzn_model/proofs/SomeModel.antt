-- Items have a model or a fault.
use Rattle.std.proofs.Common.{◌≡◌, ◌⊎◌, ℕ, zero, suc, ◌<◌, ◌≤◌, List, [], length, take, get_or, Option, Some, None, refl, sym, subst, ap, arith, inl, inr, length-take, below_more}
use Rattle.std.proofs.lemmas.List.{take-take, get_or-take, get_or_default, take_all}
use Rattle.fzn_parser.specs.Items.{predicate_item}
use Rattle.fzn_parser.specs.Parsing.{ItemTree}
use Rattle.constraint_model.specs.declared.model.Phase.{Phase}
use Rattle.constraint_model.specs.declared.model.Goal.{Goal}
use Rattle.fzn_model.specs.declared.fault_kinds.FaultKind.{FaultKind}
use Rattle.fzn_model.specs.FaultKinds.{kind_number}
use Rattle.fzn_model.specs.Effects.{reading_of}
use Rattle.fzn_model.specs.Faults.{fault_of}
use Rattle.fzn_model.specs.Resolving.{AreLawful, IsRefused, IsRead, model_with}

-- any item serves where a place is inside
some_item : ItemTree
some_item = record { from = 0; what = predicate_item [] }

-- the items before place i have no fault
abbrev UpTo : List ℕ → List ItemTree → ℕ → Type 0
UpTo text items i = (k : ℕ) → k < i → (d : ItemTree) → fault_of text (reading_of text (take k items)) (get_or items k d).what ≡ None

front_lawful : (text : List ℕ) (items : List ItemTree) (i : ℕ) → UpTo text items i → AreLawful text (take i items)
front_lawful text items i h k z m =
    let n : k < i = omega (arith, m, length-take i items) in
    let P : ItemTree → Type 0 = λ y. fault_of text (reading_of text (take k (take i items))) y.what ≡ None in
    subst P (sym (get_or-take i items k z n)) (subst (λ ts. fault_of text (reading_of text ts) (get_or items k z).what ≡ None) (sym (take-take k i items (omega (arith, n)))) (h k n z))

-- no item before place i has a fault, or one of them is the first that has one
front : (text : List ℕ) (items : List ItemTree) (i : ℕ) → i ≤ length items → UpTo text items i ⊎ IsRefused text items
front text items zero l = inl (λ k m. absurd (omega arith))
front text items (suc i) l = by (front text items i (omega arith))
  where
    inside : i < length items
    inside = omega arith

    x : ItemTree
    x = get_or items i some_item

    found : UpTo text items i → (o : Option FaultKind) → fault_of text (reading_of text (take i items)) x.what ≡ o → UpTo text items (suc i) ⊎ IsRefused text items
    found h None e =
        let here : (d : ItemTree) → fault_of text (reading_of text (take i items)) (get_or items i d).what ≡ None =
        λ d. subst (λ (y : ItemTree). fault_of text (reading_of text (take i items)) y.what ≡ None) (get_or_default items i some_item d inside) e in
        inl (λ k m. below_more (λ j. (d : ItemTree) → fault_of text (reading_of text (take j items)) (get_or items j d).what ≡ None) i h here k (omega arith))
    found h (Some kind) e = inr (record {
      kind = kind_number kind;
      at = x.from;
      fault = inl (record {
        place = i;
        inside = inside;
        lawful = front_lawful text items i h;
        which = kind;
        fault = λ d. subst (λ (y : ItemTree). fault_of text (reading_of text (take i items)) y.what ≡ Some kind) (get_or_default items i some_item d inside) e;
        is_kind = refl;
        first_byte = λ d. ap (λ (y : ItemTree). y.from) (get_or_default items i some_item d inside);
      });
    })

    by : UpTo text items i ⊎ IsRefused text items → UpTo text items (suc i) ⊎ IsRefused text items
    by (inl h) = found h (fault_of text (reading_of text (take i items)) x.what) refl
    by (inr f) = inr f

-- lawful items have a model, or lack a solve item
ended : (text : List ℕ) (items : List ItemTree) → AreLawful text items → (o : Option (List Phase × Goal)) → (reading_of text items).solved ≡ o → IsRead text items
ended text items h None e = inr (record { kind = kind_number FaultKind.NoSolve; at = length text; fault = inr (record { lawful = h; unsolved = e; is_kind = refl; at_end = refl }) })
ended text items h (Some asked) e = inl (record {
  model = model_with (reading_of text items) asked;
  is_model = record { lawful = h; is_model = record { asked = asked; solved = e; is_model = refl } };
})

pub some_model : (text : List ℕ) (items : List ItemTree) → IsRead text items
some_model text items = by (front text items (length items) (omega arith))
  where
    by : UpTo text items (length items) ⊎ IsRefused text items → IsRead text items
    by (inl h) = ended text items (subst (AreLawful text) (take_all (length items) items (omega arith)) (front_lawful text items (length items) h)) (reading_of text items).solved refl
    by (inr f) = inr f

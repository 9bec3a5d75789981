-- Items have one model or one fault.
use Rattle.std.proofs.Common.{◌≡◌, ◌⊎◌, ℕ, ◌<◌, List, [], length, take, get_or, Option, Some, None, sym, ap, subst, ◌∙◌, arith, inl, inr, is_some, true≢false, unwrap_or}
use Rattle.std.proofs.lemmas.List.{take-take, get_or-take, length-take-le}
use Rattle.std.proofs.lemmas.Bool.{cases_order}
use Rattle.fzn_parser.specs.Items.{predicate_item}
use Rattle.fzn_parser.specs.Parsing.{ItemTree}
use Rattle.constraint_model.specs.declared.model.FznModel.{FznModel}
use Rattle.fzn_model.specs.declared.fault_kinds.FaultKind.{FaultKind}
use Rattle.fzn_model.specs.FaultKinds.{kind_number}
use Rattle.fzn_model.specs.Effects.{reading_of}
use Rattle.fzn_model.specs.Faults.{fault_of}
use Rattle.fzn_model.specs.Resolving.{AreLawful, IsModelOf, IsFirstFault, HasFault, model_with}

-- any item serves where a place is inside
some_item : ItemTree
some_item = record { from = 0; what = predicate_item [] }

none_is_some : {A : Type 0} (o : Option A) (x : A) → o ≡ None → o ≡ Some x → ⊥
none_is_some o x e f = true≢false (sym (ap is_some f) ∙ ap is_some e)

same_some : {A : Type 0} (x y : A) → Some x ≡ Some y → x ≡ y
same_some x y e = ap (λ o. unwrap_or o x) e

-- a fault at a place of lawful items can't be
no_fault : (text : List ℕ) (items : List ItemTree) (place : ℕ) (kind : FaultKind) → AreLawful text items → place < length items
    → ((d : ItemTree) → fault_of text (reading_of text (take place items)) (get_or items place d).what ≡ Some kind) → ⊥
no_fault text items place kind lawful inside fault = none_is_some (fault_of text (reading_of text (take place items)) (get_or items place some_item).what) kind (lawful place some_item inside) (fault some_item)

-- of two first faults none is before the other
not_before : (text : List ℕ) (items : List ItemTree) (k l at place : ℕ) (f : IsFirstFault text items k at) (g : IsFirstFault text items l place) → f.place < g.place → ⊥
not_before text items k l at place f g less =
    let front = take g.place items in
    let P : ItemTree → Type 0 = λ x. fault_of text (reading_of text (take f.place front)) x.what ≡ None in
    let Q : List ItemTree → Type 0 = λ xs. fault_of text (reading_of text xs) (get_or items f.place some_item).what ≡ None in
    let here = g.lawful f.place some_item (omega (arith, less, length-take-le g.place items (omega (arith, g.inside)))) in
    let there = subst P (get_or-take g.place items f.place some_item less) here in
    none_is_some (fault_of text (reading_of text (take f.place items)) (get_or items f.place some_item).what) f.which
    (subst Q (take-take f.place g.place items (omega (arith, less))) there) (f.fault some_item)

same_place : (text : List ℕ) (items : List ItemTree) (k l at place : ℕ) (f : IsFirstFault text items k at) (g : IsFirstFault text items l place) → f.place ≡ g.place → (k ≡ l) × (at ≡ place)
same_place text items k l at place f g e = (
  f.is_kind ∙ ap kind_number (same_some f.which g.which (sym (f.fault some_item) ∙ ap (λ p. fault_of text (reading_of text (take p items)) (get_or items p some_item).what) e ∙ g.fault some_item)) ∙ sym g.is_kind,
  f.first_byte some_item ∙ ap (λ p. (get_or items p some_item).from) e ∙ sym (g.first_byte some_item),
)

pub one_fault : (text : List ℕ) (items : List ItemTree) (k l at place : ℕ) → HasFault text items k at → HasFault text items l place → (k ≡ l) × (at ≡ place)
one_fault text items k l at place (inl f) (inl g) = by (cases_order f.place g.place)
  where
    by : (f.place ≡ g.place) ⊎ ((f.place < g.place) ⊎ (g.place < f.place)) → (k ≡ l) × (at ≡ place)
    by (inl e) = same_place text items k l at place f g e
    by (inr (inl less)) = absurd (not_before text items k l at place f g less)
    by (inr (inr more)) = absurd (not_before text items l k place at g f more)
one_fault text items k l at place (inl f) (inr g) = absurd (no_fault text items f.place f.which g.lawful f.inside f.fault)
one_fault text items k l at place (inr f) (inl g) = absurd (no_fault text items g.place g.which f.lawful g.inside g.fault)
one_fault text items k l at place (inr f) (inr g) = (f.is_kind ∙ sym g.is_kind, f.at_end ∙ sym g.at_end)

pub one_model : (text : List ℕ) (items : List ItemTree) (m n : FznModel) → IsModelOf text items m → IsModelOf text items n → m ≡ n
one_model text items m n h i =
    let e = same_some h.is_model.asked i.is_model.asked (sym h.is_model.solved ∙ i.is_model.solved) in
    h.is_model.is_model ∙ ap (model_with (reading_of text items)) e ∙ sym i.is_model.is_model

pub never_both : (text : List ℕ) (items : List ItemTree) (m : FznModel) (k at : ℕ) → IsModelOf text items m → HasFault text items k at → ⊥
never_both text items m k at h (inl f) = no_fault text items f.place f.which h.lawful f.inside f.fault
never_both text items m k at h (inr f) = none_is_some (reading_of text items).solved h.is_model.asked f.unsolved h.is_model.solved

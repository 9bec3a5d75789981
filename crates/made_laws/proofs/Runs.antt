-- Items read one behind the other: none has a fault, and what they leave.
use Rattle.std.proofs.Common.{◌≡◌, ◌<◌, ℕ, zero, suc, Bool, false, not, ◌&&◌, ◌||◌, List, [], ◌∷◌, ◌++◌, length, take, map, is_some, refl, ◌∙◌, ap, arith}
use Rattle.std.specs.Prelude.{find, fold, nat_eq, slice_index_or, None}
use Rattle.std.specs.List.{list_any}
use Rattle.std.proofs.Math.Bool.{and-false}
use Rattle.std.proofs.lemmas.Bool.{cond-false, or_parts}
use Rattle.std.proofs.lemmas.List.Folds.{list_any-append}
use Rattle.fzn_parser.specs.Items.{WhatTree}
use Rattle.fzn_parser.specs.Parsing.{ItemTree}
use Rattle.constraint_model.specs.Fits.{has_long_row}
use Rattle.fzn_model.specs.declared.effect.Effect.{Effect}
use Rattle.fzn_model.specs.declared.fault_kinds.FaultKind.{FaultKind}
use Rattle.fzn_model.specs.FaultKinds.{kind_number, kinds}
use Rattle.fzn_model.specs.Leaves.{leaves as leaves_of}
use Rattle.fzn_model.specs.Effects.{Reading, joined, with_item, effect_of}
use Rattle.fzn_model.specs.Faults.{fault_of, leaf_test, own_tests, place_tests, tells, least_kind, has_wrong_argument, is_unsupported, is_too_large}

-- against a reading no item has a fault, and then the other reading stands
pub record Reads (text : List ℕ) (before : Reading) (items : List ItemTree) (after : Reading) : Type 0 where
  pub lawful : (k : ℕ) (d : ItemTree) → k < length items → fault_of text (fold (with_item text) before (take k items)) (slice_index_or items k d).what ≡ None
  pub leaves : fold (with_item text) before items ≡ after

pub reads_nothing : (text : List ℕ) (r : Reading) → Reads text r [] r
reads_nothing text r = record { lawful = λ k d h. absurd (omega arith); leaves = refl }

pub reads_one : (text : List ℕ) (r s t : Reading) (item : ItemTree) (items : List ItemTree) → fault_of text r item.what ≡ None → with_item text r item ≡ s → Reads text s items t
    → Reads text r (item ∷ items) t
reads_one text r s t item items none leaves others = record {
  lawful = at;
  leaves = ap (λ x. fold (with_item text) x items) leaves ∙ others.leaves;
}
  where
    at : (k : ℕ) (d : ItemTree) → k < length (item ∷ items) → fault_of text (fold (with_item text) r (take k (item ∷ items))) (slice_index_or (item ∷ items) k d).what ≡ None
    at zero d h = none
    at (suc k) d h =
        ap (λ x. fault_of text (fold (with_item text) x (take k items)) (slice_index_or items k d).what) leaves ∙ others.lawful k d (omega arith)

-- one of the tests is met
abbrev pub is_met : FaultKind × Bool → Bool
is_met t = t.1

-- what no test is met by has no fault
pub record IsClean (text : List ℕ) (r : Reading) (what : WhatTree) : Type 0 where
  pub names : list_any is_met (map (leaf_test text r.scope) (leaves_of what)) ≡ false
  pub fits : has_wrong_argument text r.scope what ≡ false
  pub supported : is_unsupported what ≡ false
  pub few : (list_any has_long_row (effect_of text r.scope (length r.vars) what).constraints || is_too_large (joined r (effect_of text r.scope (length r.vars) what))) ≡ false
  pub unsolved : is_some r.solved ≡ false

none_in_both : (xs ys : List (FaultKind × Bool)) → list_any is_met xs ≡ false → list_any is_met ys ≡ false → list_any is_met (xs ++ ys) ≡ false
none_in_both xs ys e f = list_any-append is_met xs ys ∙ (ap (λ b. b || list_any is_met ys) e ∙ f)

none_told : (tests : List (FaultKind × Bool)) → list_any is_met tests ≡ false → (kind : FaultKind) → list_any (tells kind) tests ≡ false
none_told [] e kind = refl
none_told (t ∷ ts) e kind =
    let parts = or_parts t.1 (list_any is_met ts) e in
    let same : Bool = nat_eq (kind_number t.0) (kind_number kind) in
    ap (λ b. (same && b) || list_any (tells kind) ts) parts.0
    ∙ (ap (λ b. b || list_any (tells kind) ts) (and-false same) ∙ none_told ts parts.1 kind)

none_found : (test : FaultKind → Bool) → ((kind : FaultKind) → test kind ≡ false) → (some : List FaultKind) → find test some ≡ None
none_found test h [] = refl
none_found test h (kind ∷ more) = cond-false (test kind) _ _ (h kind) ∙ none_found test h more

pub clean_has_none : (text : List ℕ) (r : Reading) (what : WhatTree) → IsClean text r what → fault_of text r what ≡ None
unfolding fault_of least_kind
clean_has_none text r what c =
    let more : Effect = effect_of text r.scope (length r.vars) what in
    let parts : List (FaultKind × Bool) = map (leaf_test text r.scope) (leaves_of what) in
    let two : List (FaultKind × Bool) = (FaultKind.WrongArgument, not (is_unsupported what) && has_wrong_argument text r.scope what) ∷ (FaultKind.Unsupported, is_unsupported what) ∷ [] in
    let large : Bool = list_any has_long_row more.constraints || is_too_large (joined r more) in
    let whole : list_any is_met two ≡ false =
    ap (λ b. (not (is_unsupported what) && b) || (is_unsupported what || false)) c.fits
    ∙ (ap (λ b. b || (is_unsupported what || false)) (and-false (not (is_unsupported what))) ∙ ap (λ b. b || false) c.supported) in
    let place : list_any is_met (place_tests r more) ≡ false = ap (λ b. b || (is_some r.solved || false)) c.few ∙ ap (λ b. b || false) c.unsolved in
    none_found (λ kind. list_any (tells kind) (own_tests text r.scope what ++ place_tests r more))
    (none_told (own_tests text r.scope what ++ place_tests r more) (none_in_both (own_tests text r.scope what) (place_tests r more) (none_in_both parts two c.names whole) place)) kinds

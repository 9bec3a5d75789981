-- Items taken one by one, against the whole list.
use Rattle.std.proofs.Common.{◌≡◌, ℕ, ◌<◌, ◌+◌, List, [], ◌∷◌, ◌++◌, length, take, get_or, false, Option, Some, None, refl, sym, ap, subst, ◌∙◌, arith, below_more, inl, Result, IfOk, IfErr, MatchResult, length-append}
use Rattle.std.proofs.lemmas.List.{take-append-le, take_all, get_or_append_left}
use Rattle.std.proofs.lemmas.List.Sums.{fold-append}
use Rattle.std.proofs.Math.Seq.{take-append_seam, get_or-append_seam}
use Rattle.fzn_parser.specs.Parsing.{ItemTree}
use Rattle.constraint_model.specs.declared.model.FznModel.{FznModel}
use Rattle.fzn_model.specs.declared.fault_kinds.FaultKind.{FaultKind}
use Rattle.fzn_model.specs.declared.stop.Stop.{Stop}
use Rattle.fzn_model.specs.declared.resolving.ModelError.{ModelError}
use Rattle.fzn_model.specs.FaultKinds.{kind_number}
use Rattle.fzn_model.specs.Effects.{Reading, nothing, with_item, reading_of}
use Rattle.fzn_model.specs.Faults.{fault_of, Refuses, is_too_large}
use Rattle.fzn_model.specs.Resolving.{AreLawful, IsModelOf, IsModelWith, IsCause, stopped_at}
use Rattle.fzn_model.specs.Taking.{AreTaken}
use Rattle.fzn_model.proofs.Standing.{Stands, end_here}

pub taken_none : (text : List ℕ) → AreTaken text [] nothing
taken_none text = record { lawful = λ k d l. absurd (omega arith); same = refl; fits = refl }

module _ (text : List ℕ) (items : List ItemTree) (x : ItemTree) (r : Reading) (h : AreTaken text items r) where
  fault_here : (o : Option FaultKind) → fault_of text r x.what ≡ o → (more : List ItemTree) (d : ItemTree)
      → fault_of text (reading_of text (take (length items) (items ++ x ∷ more))) (get_or (items ++ x ∷ more) (length items) d).what ≡ o
  fault_here o e more d =
      ap (λ ts. fault_of text (reading_of text ts) (get_or (items ++ x ∷ more) (length items) d).what) (take-append_seam items (x ∷ more))
      ∙ (ap (λ (y : ItemTree). fault_of text (reading_of text items) y.what) (get_or-append_seam items x more d)
      ∙ (ap (λ s. fault_of text s x.what) (sym h.same) ∙ e))

  no_fault_before : (k : ℕ) → k < length items → (d : ItemTree)
      → fault_of text (reading_of text (take k (items ++ x ∷ []))) (get_or (items ++ x ∷ []) k d).what ≡ None
  no_fault_before k l d =
      ap (λ ts. fault_of text (reading_of text ts) (get_or (items ++ x ∷ []) k d).what) (take-append-le k items (x ∷ []) (omega (arith, l)))
      ∙ (ap (λ (y : ItemTree). fault_of text (reading_of text (take k items)) y.what) (get_or_append_left items (x ∷ []) d k l) ∙ h.lawful k d l)

  lawful_more : fault_of text r x.what ≡ None → AreLawful text (items ++ x ∷ [])
  lawful_more e k d l =
      let size : length (items ++ x ∷ []) ≡ length items + length (x ∷ []) = length-append items (x ∷ []) in
      let inside : k < length items + 1 = omega (arith, l) in
      below_more (λ k. (z : ItemTree) → fault_of text (reading_of text (take k (items ++ x ∷ []))) (get_or (items ++ x ∷ []) k z).what ≡ None) (length items)
      (λ j m. no_fault_before j m) (λ z. fault_here None e [] z) k inside d

  pub taken_more : (r' : Reading) → r' ≡ with_item text r x → is_too_large (with_item text r x) ≡ false → fault_of text r x.what ≡ None → AreTaken text (items ++ x ∷ []) r'
  taken_more r' e f g = record {
    lawful = lawful_more g;
    same = e ∙ (ap (λ s. with_item text s x) h.same ∙ sym (fold-append (with_item text) nothing items (x ∷ [])));
    fits = ap is_too_large e ∙ f;
  }

  pub cause_taken : (more : List ItemTree) (s : Stop) → Refuses (fault_of text r x.what) s → IsCause text (items ++ x ∷ more) (stopped_at s x.from)
  cause_taken more (Stop.Fault kind) g = inl (record {
    place = length items;
    inside = (let size : length (items ++ x ∷ more) ≡ length items + length (x ∷ more) = length-append items (x ∷ more) in omega arith);
    lawful = subst (λ ts. AreLawful text ts) (sym (take-append_seam items (x ∷ more))) h.lawful;
    which = kind;
    fault = λ d. fault_here (Some kind) g more d;
    is_kind = refl;
    first_byte = λ d. ap (λ (y : ItemTree). y.from) (sym (get_or-append_seam items x more d));
  })
  cause_taken more Stop.NoMemory g = tt

pub end_taken : (text : List ℕ) (items : List ItemTree) (r : Reading) (o : Result FznModel ModelError) → AreTaken text items r
    → IfOk o (λ m. IsModelWith r m) → IfErr o (λ e. (e ≡ ModelError.Fault (kind_number FaultKind.NoSolve) (length text)) × (r.solved ≡ None))
    → MatchResult o (λ m. IsModelOf text items m) (λ e. IsCause text items e)
end_taken text items r o h w v =
    let stands : Stands text items (length items) r = record {
      same = h.same ∙ ap (reading_of text) (sym (take_all (length items) items (omega arith)));
      lawful = λ k l d. h.lawful k d l;
      fits = h.fits;
    } in
    end_here text items (length items) r o stands (omega arith) w v

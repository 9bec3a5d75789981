-- What is known of the boxes of a free search as these are left, and gone back to.
use Rattle.std.proofs.Common.{◌≡◌, ℕ, List, [], ◌∷◌, ◌++◌, length, sym, subst}
use Rattle.std.specs.List.{All}
use Rattle.std.proofs.lemmas.List.Elements.{All-nil, All-cons, All-head, All-tail, All-append}
use Rattle.guarded_tell.specs.declared.kernel.Kernel.{Kernel}
use Rattle.fixpoint_laws.specs.Fixpoints.{IsClosed}
use Rattle.trailed_box.specs.Trailed.{Left}
use Rattle.narrowing.specs.Narrowers.{Fits, LetRest, QuietWhereClosed, KnownWhereRests}
use Rattle.free_search.specs.declared.searcher.Searcher.{Searcher}
use Rattle.free_search.specs.Ready.{AreLeft, IsReady, IsSettled}

-- a settled box can be narrowed
pub settled_ready : QuietWhereClosed → KnownWhereRests → (kernels : List Kernel) (s : Searcher) → IsSettled kernels s → IsReady kernels s
settled_ready quiet known kernels s settled = record {
  left = settled.left;
  proper = settled.closed.proper;
  quiet = quiet s.narrower kernels s.boxes.current settled.closed;
  knows = known s.narrower kernels s.boxes.current settled.rests;
}

module _ {A : Type 0} (P : A → Type 0) where
  pub all_last : (xs : List A) (x : A) → All P (xs ++ x ∷ []) → P x
  all_last [] x all = All-head P x [] all
  all_last (y ∷ xs) x all = all_last xs x (All-tail P y (xs ++ x ∷ []) all)

  pub all_front : (xs ys : List A) → All P (xs ++ ys) → All P xs
  all_front [] ys all = All-nil P
  all_front (x ∷ xs) ys all = All-cons P x xs (All-head P x (xs ++ ys) all) (all_front xs ys (All-tail P x (xs ++ ys) all))

  pub all_more : (xs : List A) (x : A) → All P xs → P x → All P (xs ++ x ∷ [])
  all_more xs x all one = All-append P xs (x ∷ []) all (All-cons P x [] one (All-nil P))

-- what is left stays so where the current box is narrowed
pub left_after : (kernels others : List Kernel) (before after : Searcher) → others ≡ kernels → after.boxes.stack ≡ before.boxes.stack →
    length after.boxes.current ≡ length before.boxes.current → Fits after.narrower others (length before.boxes.current) →
    ((ks : List Kernel) (stack : List Left) → LetRest before.narrower ks stack → LetRest after.narrower ks stack) →
    AreLeft kernels before → AreLeft kernels after
left_after kernels others before after same stack count fits rest left = record {
  closed = subst (λ (ls : List Left). All (λ (l : Left). IsClosed l.base kernels) ls) (sym stack) left.closed;
  fits = subst (λ (n : ℕ). Fits after.narrower kernels n) (sym count) (subst (λ (ks : List Kernel). Fits after.narrower ks (length before.boxes.current)) same fits);
  let_rest = subst (λ (ls : List Left). LetRest after.narrower kernels ls) (sym stack) (rest kernels before.boxes.stack left.let_rest);
}

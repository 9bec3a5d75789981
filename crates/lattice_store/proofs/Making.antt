-- The words of a box, pushed pair by pair.
use Rattle.std.proofs.Common.{ℕ, zero, suc, ◌≡◌, ◌≢◌, ◌+◌, ◌*◌, ◌<◌, ◌≤◌, List, [], ◌∷◌, ◌++◌, length, refl, sym, ap, ◌∙◌, arith, length-append}
use Rattle.std.specs.Prelude.{slice_index}
use mathlib.Core.Logic.{dite}
use native.Mathlib.Decide.{ℕ_discrete}
use Rattle.interval.specs.Boxes.{Bounds, low_of, high_of}
use Rattle.lattice_store.specs.Words.{word_of, low_code, high_code, codes_of}
use Rattle.lattice_store.proofs.BoxLaws.{code-low, code-high}

at_front : (ws : List ℕ) (x k : ℕ) → k < length ws → slice_index (ws ++ x ∷ []) k ≡ slice_index ws k
at_front [] x k h = absurd (omega arith)
at_front (w ∷ ws) x zero h = refl
at_front (w ∷ ws) x (suc k) h = at_front ws x k (omega arith)

at_end : (ws : List ℕ) (x k : ℕ) → k ≡ length ws → slice_index (ws ++ x ∷ []) k ≡ x
at_end [] x zero e = refl
at_end [] x (suc k) e = absurd (omega arith)
at_end (w ∷ ws) x zero e = absurd (omega arith)
at_end (w ∷ ws) x (suc k) e = at_end ws x k (omega arith)

pub Each : ℕ → Bounds → List ℕ → Type 0
Each e b ws = (k : ℕ) → 1 ≤ k → k < length ws → slice_index ws k ≡ word_of e (slice_index (codes_of b) k)

pub pushed_length : (ws : List ℕ) (v x y : ℕ) → length ws ≡ 2 * v + 1 → length ((ws ++ x ∷ []) ++ y ∷ []) ≡ 2 * (v + 1) + 1
pushed_length ws v x y e = omega (arith, length-append (ws ++ x ∷ []) (y ∷ []), length-append ws (x ∷ []))

pub pushed : (e : ℕ) (b : Bounds) (ws : List ℕ) (v x y k : ℕ) → v < length b → length ws ≡ 2 * v + 1 → ((k : ℕ) → 1 ≤ k → k < length ws → slice_index ws k ≡ word_of e (slice_index (codes_of b) k)) → x ≡ word_of e (low_code (low_of b v)) → y ≡ word_of e (high_code (high_of b v))
    → 1 ≤ k → k < length ((ws ++ x ∷ []) ++ y ∷ []) → slice_index ((ws ++ x ∷ []) ++ y ∷ []) k ≡ word_of e (slice_index (codes_of b) k)
pushed e b ws v x y k inside len each is_x is_y one lt =
    let l1 = length-append ws (x ∷ []) in
    let l2 = length-append (ws ++ x ∷ []) (y ∷ []) in
    dite (ℕ_discrete k (2 * v + 2))
    (λ (h : k ≡ 2 * v + 2). at_end (ws ++ x ∷ []) y k (omega arith) ∙ is_y ∙ ap (word_of e) (sym (ap (slice_index (codes_of b)) h ∙ code-high b v inside)))
    (λ (n2 : k ≢ 2 * v + 2). dite (ℕ_discrete k (2 * v + 1))
    (λ (h : k ≡ 2 * v + 1). at_front (ws ++ x ∷ []) y k (omega arith) ∙ at_end ws x k (omega arith) ∙ is_x ∙ ap (word_of e) (sym (ap (slice_index (codes_of b)) h ∙ code-low b v inside)))
    (λ (n1 : k ≢ 2 * v + 1). at_front (ws ++ x ∷ []) y k (omega arith) ∙ at_front ws x k (omega arith) ∙ each k one (omega arith)))

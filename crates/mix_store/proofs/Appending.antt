-- The words of a mix, appended domain by domain.
use Rattle.std.proofs.Common.{ℕ, zero, suc, ◌≡◌, ◌+◌, ◌*◌, ◌<◌, ◌≤◌, List, [], ◌∷◌, ◌++◌, length, take, refl, sym, ap, ◌∙◌, arith, length-append}
use Rattle.std.specs.Prelude.{slice_index, flat_map}
use mathlib.Core.Logic.{dite}
use native.Mathlib.Decide.{ℕ_discrete}
use Rattle.bit_domain.specs.declared.dom.Dom.{Dom}
use Rattle.bit_domain.specs.declared.dom.Dom.TheVariants.{Bits, Pair}
use Rattle.bit_domain.specs.Mixes.{Mix, dom_of}
use Rattle.mix_store.specs.Words.{distance, words_in, words_of, place_of}

front : (d : Dom) → words_in d ++ [] ≡ words_in d
front (Bits base s) = refl
front (Pair low high) = refl

next : (m : Mix) (v : ℕ) → v < length m → flat_map words_in (take (suc v) m) ≡ flat_map words_in (take v m) ++ words_in (dom_of m v)
next [] v h = absurd (omega arith)
next (d ∷ m) zero h = front d
next (Bits base s ∷ m) (suc v) h = ap (λ (l : List ℕ). s ∷ l) (next m v (omega arith))
next (Pair low high ∷ m) (suc v) h = ap (λ (l : List ℕ). distance low ∷ distance high ∷ l) (next m v (omega arith))

pub words-next : (m : Mix) (v : ℕ) → v < length m → words_of (take (v + 1) m) ≡ words_of (take v m) ++ words_in (dom_of m v)
words-next m v h = let e : v + 1 ≡ suc v = omega arith in ap (λ (n : ℕ). words_of (take n m)) e ∙ ap (λ (l : List ℕ). 0 ∷ l) (next m v h)

pub take_whole : (m : Mix) → take (length m) m ≡ m
take_whole [] = refl
take_whole (d ∷ m) = ap (λ (l : Mix). d ∷ l) (take_whole m)

longer : (a b : ℕ) → a ≤ b → suc a ≤ suc (suc b)
longer a b h = omega arith

longest : (a b : ℕ) → a ≤ b → suc (suc a) ≤ suc (suc b)
longest a b h = omega arith

twice : (n : ℕ) → 2 * suc n ≡ suc (suc (2 * n))
twice n = omega arith

flat-short : (m : Mix) → length (flat_map words_in m) ≤ 2 * length m
flat-short [] = omega arith
flat-short (Bits base s ∷ m) = let e = twice (length m) in let l = longer _ _ (flat-short m) in rw e l
flat-short (Pair low high ∷ m) = let e = twice (length m) in let l = longest _ _ (flat-short m) in rw e l

take-short : (m : Mix) (v : ℕ) → length (take v m) ≤ length m
take-short [] zero = omega arith
take-short [] (suc v) = omega arith
take-short (d ∷ m) zero = omega arith
take-short (d ∷ m) (suc v) = let h = take-short m v in omega arith

pub place-short : (m : Mix) (v : ℕ) → place_of m v ≤ 2 * length m + 1
place-short m v = let a = flat-short (take v m) in let b = take-short m v in omega arith

at_front : (ws : List ℕ) (x k : ℕ) → k < length ws → slice_index (ws ++ x ∷ []) k ≡ slice_index ws k
at_front [] x k h = absurd (omega arith)
at_front (w ∷ ws) x zero h = refl
at_front (w ∷ ws) x (suc k) h = at_front ws x k (omega arith)

at_end : (ws : List ℕ) (x k : ℕ) → k ≡ length ws → slice_index (ws ++ x ∷ []) k ≡ x
at_end [] x zero e = refl
at_end [] x (suc k) e = absurd (omega arith)
at_end (w ∷ ws) x zero e = absurd (omega arith)
at_end (w ∷ ws) x (suc k) e = at_end ws x k (omega arith)

-- one more place
pub pushed_places : (m : Mix) (ps : List ℕ) (v x u : ℕ) → length ps ≡ v → ((u : ℕ) → u < v → slice_index ps u ≡ place_of m u) → x ≡ place_of m v → u < v + 1 → slice_index (ps ++ x ∷ []) u ≡ place_of m u
pushed_places m ps v x u len was is h = dite (ℕ_discrete u v)
    (λ (e : u ≡ v). at_end ps x u (e ∙ sym len) ∙ is ∙ ap (place_of m) (sym e))
    (λ (ne : ¬ (u ≡ v)). at_front ps x u (omega arith) ∙ was u (omega arith))

pub pushed_length : (ps : List ℕ) (v x : ℕ) → length ps ≡ v → length (ps ++ x ∷ []) ≡ v + 1
pushed_length ps v x e = length-append ps (x ∷ []) ∙ ap (λ (n : ℕ). n + 1) e

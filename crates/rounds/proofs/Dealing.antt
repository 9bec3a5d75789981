-- Numbers that are dealt to shares in turn.
use Rattle.std.proofs.Common.{◌≡◌, ◌≢◌, ℕ, ◌+◌, ◌<◌, ◌≤◌, ◌%◌, List, [], ◌∷◌, ◌++◌, length, get_or, set, refl, sym, ap, subst, ◌∙◌, arith, inl, inr}
use Rattle.std.specs.Prelude.{Vec, slice_index}
use Rattle.std.specs.declared.alloc.Global.{Global}
use Rattle.std.specs.List.{Contains}
use Rattle.std.proofs.Math.ListN.{length-append, get_or-append, length-set}
use Rattle.std.proofs.lemmas.Bool.{cases_eq}
use Rattle.std.proofs.lemmas.Grind.{get_or-set_at}
use Rattle.std.proofs.lemmas.List.{get_or_push, get_or_default, get_or-map, get_or-set_other}
use Rattle.std.proofs.lemmas.List.Elements.{Contains-append_left, Contains-append_right, Contains-append_cases}
use Rattle.rounds.specs.Shares.{IsCut, share_limit, share_at}
use Rattle.rounds.specs.Even.{IsEvenShare, AreEvenShares, AreDealt}

pub none_dealt : (lanes rest : ℕ) → IsEvenShare 0 lanes rest []
none_dealt lanes rest = record { rising = λ a b h k. absurd (omega arith); exactly = λ j. (λ c. absurd (omega (arith, c.1)), λ p. absurd (omega (arith, p.0))) }

length_more : (s : List ℕ) (j : ℕ) → length (s ++ j ∷ []) ≡ length s + 1
length_more s j = length-append s (j ∷ []) ∙ omega arith

-- the number goes to this share
pub dealt_here : (j lanes rest : ℕ) (s : List ℕ) → IsEvenShare j lanes rest s → j % lanes ≡ rest → IsEvenShare (j + 1) lanes rest (s ++ j ∷ [])
dealt_here j lanes rest s e r = record {
  rising = λ a b h k. elim (cases_eq b (length s)) [
    | inl q ↦
        let last : slice_index (s ++ j ∷ []) b ≡ j = get_or_push s j 0 b (sym q) in
        let kept : slice_index (s ++ j ∷ []) a ≡ slice_index s a = get_or-append s (j ∷ []) 0 a (omega arith) in
        let below : slice_index s a < j = ((e.exactly (slice_index s a)).0 (a, omega arith, get_or_default s a (slice_index s a) 0 (omega arith))).0 in
        omega arith
    | inr ne ↦
        let short : b < length s = omega (arith, length_more s j) in
        let one : slice_index (s ++ j ∷ []) a ≡ slice_index s a = get_or-append s (j ∷ []) 0 a (omega arith) in
        let two : slice_index (s ++ j ∷ []) b ≡ slice_index s b = get_or-append s (j ∷ []) 0 b short in
        let up = e.rising a b h short in omega arith
  ];
  exactly = λ x. (
    λ c. elim (Contains-append_cases s (j ∷ []) x c) [
      | inl l ↦ let p = (e.exactly x).0 l in (omega (arith, p.0), p.1)
      | inr l ↦ let same : x ≡ j = only x l in (omega arith, ap (λ n. n % lanes) same ∙ r)
    ],
    λ p. elim (cases_eq x j) [
      | inl q ↦ Contains-append_right s (j ∷ []) x (0, omega arith, sym q)
      | inr ne ↦ Contains-append_left s (j ∷ []) x ((e.exactly x).1 (omega (arith, p.0), p.1))
    ],
  );
}
  where
    only : (x : ℕ) → Contains (j ∷ []) x → x ≡ j
    only x (k, h, q) = let z : k ≡ 0 = omega arith in sym (subst (λ n. get_or (j ∷ []) n x ≡ x) z q)

-- the number goes to another share
pub dealt_elsewhere : (j lanes rest : ℕ) (s : List ℕ) → IsEvenShare j lanes rest s → j % lanes ≢ rest → IsEvenShare (j + 1) lanes rest s
dealt_elsewhere j lanes rest s e ne = record {
  rising = e.rising;
  exactly = λ x. (
    λ c. let p = (e.exactly x).0 c in (omega (arith, p.0), p.1),
    λ p. elim (cases_eq x j) [
      | inl q ↦ absurd (ne (ap (λ n. n % lanes) (sym q) ∙ p.1))
      | inr other ↦ (e.exactly x).1 (omega (arith, p.0), p.1)
    ],
  );
}

pub dealt_more : (j lanes : ℕ) (shares : List (Vec ℕ Global)) (r : ℕ) (old new : Vec ℕ Global) → AreDealt j lanes shares → r ≡ j % lanes → r < lanes →
    old ≡ get_or shares r old → new.items ≡ old.items ++ j ∷ [] → AreDealt (j + 1) lanes (set shares r new)
dealt_more j lanes shares r old new a e h o n = record {
  length_is = length-set shares r new ∙ a.length_is;
  each = λ i d k. elim (cases_eq i r) [
    | inl q ↦
        subst (λ (v : Vec ℕ Global). IsEvenShare (j + 1) lanes i v.items) (sym (get_or-set_at shares r i new d q (omega (arith, a.length_is))))
        (subst (λ (s : List ℕ). IsEvenShare (j + 1) lanes i s) (sym n)
        (dealt_here j lanes i old.items (subst (λ (v : Vec ℕ Global). IsEvenShare j lanes i v.items) (ap (λ m. get_or shares m old) q ∙ sym o) (a.each i old k)) (sym e ∙ sym q)))
    | inr ne ↦
        subst (λ (v : Vec ℕ Global). IsEvenShare (j + 1) lanes i v.items) (sym (get_or-set_other shares r i new d ne))
        (dealt_elsewhere j lanes i (get_or shares i d).items (a.each i d k) (λ z. ne (sym z ∙ sym e)))
  ];
}

some_share : (shares : List (Vec ℕ Global)) (i : ℕ) → i < length shares → (d : Vec ℕ Global) × (share_at shares i ≡ (get_or shares i d).items)
some_share [] i h = absurd (omega arith)
some_share (v ∷ vs) i h = (v, get_or-map (λ (s : Vec ℕ Global). s.items) (v ∷ vs) i v [] h)

pub dealt_even : (count lanes : ℕ) (shares : List (Vec ℕ Global)) → AreDealt count lanes shares → AreEvenShares count lanes shares
dealt_even count lanes shares a = record {
  length_is = a.length_is;
  each = λ i h. let w = some_share shares i (omega (arith, a.length_is)) in subst (IsEvenShare count lanes i) (sym w.1) (a.each i w.0 h);
}

pub even_is_cut : (count lanes : ℕ) (shares : List (Vec ℕ Global)) → 1 ≤ lanes → lanes ≤ share_limit → AreEvenShares count lanes shares → IsCut count shares
even_is_cut count lanes shares some short e = record {
  some = omega (arith, e.length_is);
  short = subst (λ n. n ≤ share_limit) (sym e.length_is) short;
  in_range = λ i h k d l.
      let s = e.each i (omega (arith, e.length_is)) in
      let at : get_or (share_at shares i) k (get_or (share_at shares i) k d) ≡ get_or (share_at shares i) k d = get_or_default (share_at shares i) k (get_or (share_at shares i) k d) d l in
      ((s.exactly (get_or (share_at shares i) k d)).0 (k, l, at)).0;
  covers = λ j h.
      let rest : j % lanes < lanes = omega arith in
      (j % lanes, omega (arith, e.length_is), ((e.each (j % lanes) rest).exactly j).1 (h, refl));
}

-- Lists of the variables of a set.
use Rattle.std.proofs.Common.{◌≡◌, ◌≢◌, ℕ, ◌+◌, ◌/◌, ◌<◌, ◌≤◌, Bool, true, false, cond, List, [], ◌∷◌, ◌++◌, length, get_or, set, replicate, refl, sym, ◌∙◌, ap, subst, ⊎_elim, arith, inl, inr}
use Rattle.std.specs.Prelude.{All, Contains}
use Rattle.std.proofs.lemmas.Bool.{cases_eq, cases_lt, cases_Bool}
use Rattle.std.proofs.lemmas.List.{length-replicate, length-set, length_push, get_or-set_same, get_or-set_other, get_or-replicate, get_or_past, ext_get_or}
use Rattle.std.proofs.lemmas.List.Sums.{sum_by-set}
use Rattle.std.proofs.lemmas.List.Elements.{All-contains_itself, Contains-push, Contains-push_cases, Contains-append_left}
use Rattle.moved_set.specs.Sets.{IsIn}
use Rattle.moved_set.specs.Words.{has, set_of}
use Rattle.moved_set.specs.Listed.{Listed, IsListing, HasPut, IsWorthwhile, AreMany, size_of}
use Rattle.moved_set.proofs.SetLaws.{length-set_of, set_of_at, set_of_is, word_there}

-- the empty set
pub none_in : (n v : ℕ) → IsIn (replicate n false) v → ⊥
none_in n v inside =
    let low : v < n → ⊥ = λ h. let out : get_or (replicate n false) v false ≡ false = get_or-replicate n v false false h in absurd (cc) in
    let high : n ≤ v → ⊥ = λ h. let out : get_or (replicate n false) v false ≡ false = get_or_past (replicate n false) v false (omega (arith, length-replicate n false)) in absurd (cc) in
    ⊎_elim low high (cases_lt v n)

pub listing_none : (l : Listed) (s : List Bool) (n : ℕ) → l.variables ≡ [] → s ≡ replicate n false → IsListing l s
listing_none l s n is empty = record {
  inside = λ v some. let len : length l.variables ≡ 0 = ap length is in let lt = some.1 in absurd (omega arith);
  all = λ _ v inside. absurd (none_in n v (subst (λ (t : List Bool). IsIn t v) empty inside));
}

-- the words of a listed set: each variable has its word, and where none of the listed ones is left in them the set is empty
in_words : (words : List ℕ) (count v : ℕ) → IsIn (set_of words count) v → v < count
in_words words count v inside =
    ⊎_elim (λ h. h)
    (λ (h : count ≤ v). let out : get_or (set_of words count) v false ≡ false = get_or_past (set_of words count) v false (omega (arith, length-set_of words count)) in absurd (cc))
    (cases_lt v count)

pub all_there : (l : Listed) (words : List ℕ) (count : ℕ) → IsListing l (set_of words count) → length words ≡ (count + 31) / 32 → All (λ v. v / 32 < length words) l.variables
all_there l words count listing len k d h =
    let v = get_or l.variables k d in
    word_there count v (length words) (in_words words count v (listing.inside v (All-contains_itself l.variables k d h))) len

pub emptied : (l : Listed) (words items : List ℕ) (count n : ℕ) → IsListing l (set_of words count) → n ≡ count
    → ((v : ℕ) → (l.whole ≡ true → has words v ≡ true → Contains l.variables v) → has items v ≡ false) → set_of items count ≡ replicate n false
emptied l words items count n listing same none =
    set_of_is items count (replicate n false) (length-replicate n false ∙ same)
    (λ v h. none v (λ whole t. listing.all whole v (set_of_at words count v h ∙ t)) ∙ sym (get_or-replicate n v false false (omega arith)))

-- a list that was given up
pub listing_given_up : (l : Listed) (s : List Bool) → l.variables ≡ [] → l.whole ≡ false → IsListing l s
listing_given_up l s is given = record {
  inside = λ v some. let len : length l.variables ≡ 0 = ap length is in let lt = some.1 in absurd (omega arith);
  all = λ whole v inside. absurd (cc);
}

-- another set's list
pub listing_same : (l new : Listed) (s t : List Bool) → new ≡ l → t ≡ s → IsListing l s → IsListing new t
listing_same l new s t is same listing = subst (λ (x : Listed). IsListing x t) (sym is) (subst (IsListing l) (sym same) listing)

-- ---- one more variable

in_more : (s : List Bool) (v w : ℕ) → v < length s → IsIn s w → IsIn (set s v true) w
in_more s v w h inside =
    let same : w ≡ v → IsIn (set s v true) w = λ e. ap (λ (n : ℕ). get_or (set s v true) n false) e ∙ get_or-set_same s v true false h in
    let other : w ≢ v → IsIn (set s v true) w = λ ne. get_or-set_other s v w true false ne ∙ inside in
    ⊎_elim same other (cases_eq w v)

in_before : (s : List Bool) (v w : ℕ) → w ≢ v → IsIn (set s v true) w → IsIn s w
in_before s v w ne inside = sym (get_or-set_other s v w true false ne) ∙ inside

-- it was listed, or the list gives up
kept : (l : Listed) (s : List Bool) (v : ℕ) → v < length s → IsListing l s → (l.whole ≡ true → IsIn s v) → IsListing l (set s v true)
kept l s v h listing known = record {
  inside = λ w some. in_more s v w h (listing.inside w some);
  all = λ whole w inside.
      let same : w ≡ v → Contains l.variables w = λ e. listing.all whole w (subst (IsIn s) (sym e) (known whole)) in
      let other : w ≢ v → Contains l.variables w = λ ne. listing.all whole w (in_before s v w ne inside) in
      ⊎_elim same other (cases_eq w v);
}

-- it is listed now
more : (l new : Listed) (s : List Bool) (v : ℕ) → v < length s → new.variables ≡ l.variables ++ v ∷ [] → new.whole ≡ l.whole → IsListing l s → IsListing new (set s v true)
more l new s v h is whole_is listing = record {
  inside = λ w some.
      let old : Contains l.variables w → IsIn (set s v true) w = λ before. in_more s v w h (listing.inside w before) in
      let here : v ≡ w → IsIn (set s v true) w = λ e. ap (λ (n : ℕ). get_or (set s v true) n false) (sym e) ∙ get_or-set_same s v true false h in
      ⊎_elim old here (Contains-push_cases l.variables v w (subst (λ (vs : List ℕ). Contains vs w) is some));
  all = λ whole w inside.
      let same : w ≡ v → Contains (l.variables ++ v ∷ []) w = λ e. subst (Contains (l.variables ++ v ∷ [])) (sym e) (Contains-push l.variables v) in
      let other : w ≢ v → Contains (l.variables ++ v ∷ []) w = λ ne. Contains-append_left l.variables (v ∷ []) w (listing.all (sym whole_is ∙ whole) w (in_before s v w ne inside)) in
      subst (λ (vs : List ℕ). Contains vs w) (sym is) (⊎_elim same other (cases_eq w v));
}

-- the list gives up
given_up : (l new : Listed) (s : List Bool) → new.variables ≡ l.variables → new.whole ≡ false → IsListing l s → IsListing new s
given_up l new s is whole_is listing = record {
  inside = λ w some. listing.inside w (subst (λ (vs : List ℕ). Contains vs w) is some);
  all = λ whole w inside. absurd (cc);
}

pub listing_put : (l new : Listed) (s : List Bool) (v : ℕ) (is_known : Bool) → v < length s → is_known ≡ get_or s v false → HasPut v is_known l new → IsListing l s → IsListing new (set s v true)
listing_put l new s v is_known h known (inl (listed, is)) listing =
    subst (λ (x : Listed). IsListing x (set s v true)) (sym is) (kept l s v h listing (λ _. sym known ∙ listed))
listing_put l new s v is_known h known (inr (unknown, inl (is, whole))) listing = more l new s v h is whole listing
listing_put l new s v is_known h known (inr (unknown, inr (is, whole, full))) listing =
    kept new s v h (given_up l new s is whole listing) (λ all. absurd (cc))

-- ---- a list that is given up

pub worthwhile_none : (l : Listed) (s : List Bool) → l.variables ≡ [] → l.whole ≡ true → IsWorthwhile l s
worthwhile_none l s is whole = record {
  short = λ _. let len : length l.variables ≡ 0 = ap length is in omega arith;
  many = λ given. absurd (cc);
}

pub worthwhile_all : (l : Listed) (s : List Bool) (n : ℕ) → l.whole ≡ false → s ≡ replicate n true → IsWorthwhile l s
worthwhile_all l s n whole is = record {
  short = λ kept. absurd (cc);
  many = λ _. inr (is ∙ ap (λ (k : ℕ). replicate k true) (sym (length-replicate n true) ∙ sym (ap length is)));
}

-- a variable that is put into the set
size_put : (s : List Bool) (v : ℕ) → v < length s → size_of (set s v true) + cond (get_or s v false) 1 0 ≡ size_of s + 1
size_put s v h = sum_by-set (λ (b : Bool). cond b 1 0) s v true false h

abbrev bit : Bool → ℕ
bit t = cond t 1 0

bit_in : (t : Bool) → t ≡ true → bit t ≡ 1
bit_in true e = refl
bit_in false e = absurd (cc)

bit_out : (t : Bool) → t ≡ false → bit t ≡ 0
bit_out false e = refl
bit_out true e = absurd (cc)

size_known : (s : List Bool) (v : ℕ) → v < length s → get_or s v false ≡ true → size_of (set s v true) ≡ size_of s
size_known s v h known = let a = size_put s v h in let b = bit_in (get_or s v false) known in omega (arith, a, b)

size_new : (s : List Bool) (v : ℕ) → v < length s → get_or s v false ≡ false → size_of (set s v true) ≡ size_of s + 1
size_new s v h unknown = let a = size_put s v h in let b = bit_out (get_or s v false) unknown in omega (arith, a, b)

size_kept : (s : List Bool) (v : ℕ) → v < length s → size_of s ≤ size_of (set s v true)
size_kept s v h =
    let known : get_or s v false ≡ true → size_of s ≤ size_of (set s v true) = λ t. let e = size_known s v h t in omega arith in
    let unknown : get_or s v false ≡ false → size_of s ≤ size_of (set s v true) = λ f. let e = size_new s v h f in omega arith in
    ⊎_elim known unknown (cases_Bool (get_or s v false))

-- where all are in the set, it stays
all_kept : (s : List Bool) (v : ℕ) → s ≡ replicate (length s) true → set s v true ≡ replicate (length (set s v true)) true
all_kept s v is =
    let n = length-set s v true in
    let len = length-replicate (length (set s v true)) true in
    ext_get_or false (set s v true) (replicate (length (set s v true)) true) (sym len)
    (λ i lt.
    let all : get_or (replicate (length (set s v true)) true) i false ≡ true = get_or-replicate (length (set s v true)) i true false (omega arith) in
    let same : i ≡ v → get_or (set s v true) i false ≡ true = λ e. ap (λ (k : ℕ). get_or (set s v true) k false) e ∙ get_or-set_same s v true false (omega arith) in
    let other : i ≢ v → get_or (set s v true) i false ≡ true =
    λ ne. get_or-set_other s v i true false ne ∙ ap (λ (t : List Bool). get_or t i false) is ∙ get_or-replicate (length s) i true false (omega arith) in
    ⊎_elim same other (cases_eq i v) ∙ sym all)

many_kept : (s : List Bool) (v : ℕ) → v < length s → AreMany s → AreMany (set s v true)
many_kept s v h (inl more) = let k = size_kept s v h in inl (omega arith)
many_kept s v h (inr all) = inr (all_kept s v all)

pub worthwhile_put : (l new : Listed) (s : List Bool) (v : ℕ) (is_known : Bool) → v < length s → is_known ≡ get_or s v false → HasPut v is_known l new → IsWorthwhile l s → IsWorthwhile new (set s v true)
worthwhile_put l new s v is_known h known (inl (listed, is)) worth = record {
  short = λ whole. let k = size_kept s v h in let was = worth.short (ap (λ (x : Listed). x.whole) (sym is) ∙ whole) in let same : length new.variables ≡ length l.variables = ap (λ (x : Listed). length x.variables) is in omega arith;
  many = λ given. many_kept s v h (worth.many (ap (λ (x : Listed). x.whole) (sym is) ∙ given));
}
worthwhile_put l new s v is_known h known (inr (unknown, inl (is, whole_is))) worth = record {
  short = λ whole.
      let was = worth.short (sym whole_is ∙ whole) in
      let longer : length new.variables ≡ length l.variables + 1 = ap length is ∙ length_push l.variables v in
      let more = size_new s v h (sym known ∙ unknown) in omega arith;
  many = λ given. many_kept s v h (worth.many (sym whole_is ∙ given));
}
worthwhile_put l new s v is_known h known (inr (unknown, inr (is, whole, full))) worth = record {
  short = λ kept. absurd (cc);
  many = λ _.
      let more = size_new s v h (sym known ∙ unknown) in
      let kept : l.whole ≡ true → AreMany (set s v true) = λ t. let was = worth.short t in inl (omega arith) in
      let given : l.whole ≡ false → AreMany (set s v true) = λ f. many_kept s v h (worth.many f) in
      ⊎_elim kept given (cases_Bool l.whole);
}

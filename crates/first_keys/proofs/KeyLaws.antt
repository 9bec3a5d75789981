-- The keys of an assignment, one by one.
use Rattle.std.proofs.Common.{◌≡◌, ℕ, ℤ, ◌<◌, List, [], ◌∷◌, ◌++◌, length, map, flat_map, refl, sym, ap, subst, ◌∙◌, Bool, true, false, cond, arith}
use Rattle.std.specs.Prelude.{pos, neg_ℤ, ◌≤ℤ◌, slice_index_or}
use Rattle.std.specs.List.{All}
use Rattle.std.proofs.lemmas.Int.{ints}
use Rattle.std.proofs.lemmas.List.{length-map, map-append, get_or-map}
use Rattle.std.proofs.lemmas.List.Elements.{All-nil, All-append, All-map, All-head, All-tail, All-get_or}
use Rattle.constraint_model.specs.declared.model.Phase.{Phase}
use Rattle.constraint_model.specs.declared.model.FznModel.{FznModel}
use Rattle.branching.specs.Parts.{is_upper_first}
use Rattle.solution_lists.specs.Order.{value_at}
use Rattle.solution_lists.specs.Static as static
use Rattle.free_laws.specs.Keys.{key_at}
use Rattle.first_keys.specs.declared.key.Key.{Key}
use Rattle.first_keys.specs.Order.{key_in, phase_keys, keys_of, IsKeyAt}
use Rattle.first_keys.specs.Halves.{best_of}

abbrev key_by : Phase → ℕ → Key
key_by p v = record { var = v; is_upper_first = is_upper_first p.val_sel }

mapped : (a : List ℤ) (p : Phase) (vars : List ℕ) →
    map (λ v. static.key_of p.val_sel (value_at a v)) vars ≡ map (key_in a) (map (λ v. record { var = v; is_upper_first = is_upper_first p.val_sel }) vars)
mapped a p [] = refl
mapped a p (v ∷ vars) = ap (λ (zs : List ℤ). static.key_of p.val_sel (value_at a v) ∷ zs) (mapped a p vars)

listed : (a : List ℤ) (ps : List Phase) → flat_map (static.keys_in a) ps ≡ map (key_in a) (flat_map phase_keys ps)
listed a [] = refl
listed a (p ∷ ps) =
    ap (λ (zs : List ℤ). zs ++ flat_map (static.keys_in a) ps) (mapped a p p.vars)
    ∙ ap (λ (zs : List ℤ). map (key_in a) (phase_keys p) ++ zs) (listed a ps)
    ∙ sym (map-append (key_in a) (phase_keys p) (flat_map phase_keys ps))

-- there are as many keys as the list has
pub key_count : (model : FznModel) (keys : List Key) (a : List ℤ) → keys ≡ keys_of model → length (static.keys_of model a) ≡ length keys
key_count model keys a e =
    ap length (listed a model.search) ∙ length-map (keys_of model) (key_in a) ∙ ap length (sym e)

-- the key at a place is what that key is in the assignment
pub key_is : (model : FznModel) (keys : List Key) (i : ℕ) (key : Key) (a : List ℤ) → keys ≡ keys_of model → IsKeyAt keys i key →
    key_at model a i ≡ key_in a key
key_is model keys i key a e is =
    ap (λ (zs : List ℤ). value_at zs i) (listed a model.search ∙ ap (map (key_in a)) (sym e))
    ∙ get_or-map (key_in a) keys i key (pos 0) is.0 ∙ ap (key_in a) is.1

module _ (n : ℕ) where
  all_declared : (ps : List Phase) → All (λ p. All (λ v. v < n) p.vars) ps → All (λ key. key.var < n) (flat_map phase_keys ps)
  all_declared [] h = All-nil (λ (key : Key). key.var < n)
  all_declared (p ∷ ps) h =
      All-append (λ (key : Key). key.var < n) (phase_keys p) (flat_map phase_keys ps)
      (All-map (λ (key : Key). key.var < n) (key_by p) p.vars (All-head (λ (q : Phase). All (λ v. v < n) q.vars) p ps h))
      (all_declared ps (All-tail (λ (q : Phase). All (λ v. v < n) q.vars) p ps h))

-- a key's variable is declared
pub declared : (n : ℕ) (ps : List Phase) (keys : List Key) (i : ℕ) (key : Key) → keys ≡ flat_map phase_keys ps →
    All (λ p. All (λ v. v < n) p.vars) ps → IsKeyAt keys i key → key.var < n
declared n ps keys i key e all is =
    let at : (slice_index_or keys i key).var < n =
    All-get_or (λ (k : Key). k.var < n) keys i key is.0 (subst (λ (ks : List Key). All (λ k. k.var < n) ks) (sym e) (all_declared n ps all)) in
    subst (λ (k : Key). k.var < n) is.1 at

-- ---- a key and the number that it is of

pub same_number : (upper_first : Bool) (x y : ℤ) → cond upper_first (neg_ℤ x) x ≡ cond upper_first (neg_ℤ y) y → x ≡ y
same_number true x y e = omega (arith, ints)
same_number false x y e = e

pub best_first : (upper_first : Bool) (low high x y : ℤ) → x ≡ best_of upper_first low high → low ≤ℤ y → y ≤ℤ high →
    cond upper_first (neg_ℤ x) x ≤ℤ cond upper_first (neg_ℤ y) y
best_first true low high x y e l h = omega (arith, ints)
best_first false low high x y e l h = omega (arith, ints)

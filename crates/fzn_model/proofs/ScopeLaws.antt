-- The map of the declared names, as the list of its entries.
use Rattle.std.proofs.Common.{◌≡◌, ℕ, List, [], ◌∷◌, ◌++◌, map, Bool, true, false, cond, Option, Some, None, refl, ap, ◌∙◌, is_some, true≢false}
use Rattle.std.specs.Prelude.{find, option_map, bytes_eq}
use Rattle.std.specs.Global.{Vec}
use Rattle.std.specs.Map.{lookup}
use Rattle.std.proofs.lemmas.List.{map-append}
use Rattle.indexmap.specs.IndexMap.{IndexMap, insert_entry}
use Rattle.indexmap.proofs.CallerLemmas.{insert_entry-new}
use Rattle.constraint_model.specs.declared.meanings.Meaning.{Meaning}
use Rattle.fzn_model.specs.Scopes.{Scope, meaning_of}

-- the names of the map in the order of their declarations
abbrev pub declarations : List (Vec ℕ × Meaning) → Scope
declarations es = map (λ e. (e.0.items, e.1)) es

-- keys are equal where their bytes are
abbrev pub same_bytes : Vec ℕ → Vec ℕ → Bool
same_bytes x y = bytes_eq x.items y.items

chosen : {A B : Type 0} (f : A → B) (b : Bool) (x : A) (o : Option A) (p : Option B) → p ≡ option_map f o → cond b (Some (f x)) p ≡ option_map f (cond b (Some x) o)
chosen f true x o p e = refl
chosen f false x o p e = e

-- what the map finds at a name is what its list of entries says of it
pub looked_up : (name : List ℕ) (es : List (Vec ℕ × Meaning)) → lookup (λ key. bytes_eq name key.items) es ≡ meaning_of (declarations es) name
looked_up name [] = refl
looked_up name (e ∷ es) =
    chosen (λ (entry : List ℕ × Meaning). entry.1) (bytes_eq name e.0.items) (e.0.items, e.1) (find (λ entry. bytes_eq name entry.0) (declarations es)) _ (looked_up name es)

-- a name that isn't there goes last
pub declared_last : {S : Type 0} (m : IndexMap (Vec ℕ) Meaning S) (key : Vec ℕ) (v : Meaning) → meaning_of (declarations m.entries) key.items ≡ None
    → declarations (insert_entry same_bytes m.entries key v) ≡ declarations m.entries ++ (key.items, v) ∷ []
declared_last m key v none =
    ap declarations (insert_entry-new same_bytes m key v (looked_up key.items m.entries ∙ none))
    ∙ map-append (λ (e : Vec ℕ × Meaning). (e.0.items, e.1)) m.entries ((key, v) ∷ [])

pub lacks : {A : Type 0} (o : Option A) → is_some o ≡ false → o ≡ None
lacks None e = refl
lacks (Some x) e = absurd (true≢false e)

-- Hearing what narrows a box through a hearer that passes it on.
use Rattle.std.proofs.Common.{◌≡◌, ℕ, suc, ◌<◌, List, [], ◌∷◌, ◌++◌, length, false, ℤ, refl, sym, ap, subst, ◌∙◌, arith}
use Rattle.std.proofs.lemmas.Bool.{cond-false}
use Rattle.std.proofs.lemmas.Int.{ints}
use Rattle.std.specs.Int.RustNames.{int_lt}
use Rattle.std.proofs.lemmas.List.Elements.{filter-append}
use Rattle.std.specs.List.{All}
use Rattle.interval.specs.Boxes.{Bounds, low_of, high_of}
use Rattle.tells.specs.declared.tell.Side.{Side}
use Rattle.tells.specs.declared.tell.Side.TheVariants.{Low, High}
use Rattle.tells.specs.declared.tell.Tell.{Tell}
use Rattle.tells.specs.Words.{Keeps, KeepsSide}
use Rattle.tells.specs.Hearing.{MayHearAll, HearsAll}
use Rattle.tell_laws.specs.Narrowing.{narrows_side, narrows, narrowing}
use Rattle.tell_laws.proofs.HearingLaws.{may_first, may_rest, hears_both}
use Rattle.tell_laws.proofs.Lists.{All-one}

-- the first tell stands before the others
one_then : (b : Bounds) (t : Tell) (ts : List Tell) → narrowing b (t ∷ ts) ≡ narrowing b (t ∷ []) ++ narrowing b ts
one_then b t ts = filter-append (narrows b) (t ∷ []) ts

-- tells that keep a box narrow nothing
kept_side : (b : Bounds) (s : Side) (v : ℕ) (z : ℤ) → KeepsSide b s v z → narrows_side b s v z ≡ false
kept_side b Low v z k = let f : false ≡ int_lt (low_of b v) z = omega (arith, ints) in sym f
kept_side b High v z k = let f : false ≡ int_lt z (high_of b v) = omega (arith, ints) in sym f

pub none_narrows : (b : Bounds) (ts : List Tell) → All (Keeps b) ts → narrowing b ts ≡ []
none_narrows b [] all = refl
none_narrows b (t ∷ ts) all =
    let first = kept_side b t.side t.var t.bound (all 0 t (omega arith)) in
    cond-false (narrows b t) (t ∷ narrowing b ts) (narrowing b ts) first ∙ none_narrows b ts (λ k d h. all (suc k) d (omega arith))

module _ {H W N : Type 0} (may : H → Tell → Type 0) (hears : H → Tell → H → Type 0) (to : W → H) (box : W → Bounds) (name : W → N) where
  -- the hearer w passes on what narrows its box
  abbrev pub MayPass : W → Tell → Type 0
  MayPass w t = (t.var < length (box w)) × MayHearAll may hears (to w) (narrowing (box w) (t ∷ []))

  abbrev pub Passes : W → Tell → W → Type 0
  Passes w t after = HearsAll hears (to w) (narrowing (box w) (t ∷ [])) (to after) × (box after ≡ box w) × (name after ≡ name w)

  pub may_pass : (w : W) (ts : List Tell) → All (λ t. t.var < length (box w)) ts → MayHearAll may hears (to w) (narrowing (box w) ts) → MayHearAll MayPass Passes w ts
  may_pass w [] placed m = tt
  may_pass w (t ∷ ts) placed m =
      let P : List Tell → Type 0 = λ us. MayHearAll may hears (to w) us in
      let both = subst P (one_then (box w) t ts) m in (
        (placed 0 t (omega arith), may_first may hears (to w) (narrowing (box w) (t ∷ [])) (narrowing (box w) ts) both),
        λ mid heard.
            let Q : Bounds → Type 0 = λ b. All (λ t. t.var < length b) ts in
            let R : Bounds → Type 0 = λ b. MayHearAll may hears (to mid) (narrowing b ts) in
            may_pass mid ts (subst Q (sym heard.1) (λ k d h. placed (suc k) d (omega arith)))
            (subst R (sym heard.1) (may_rest may hears (to w) (to mid) (narrowing (box w) (t ∷ [])) (narrowing (box w) ts) both heard.0)),
      )

  pub passes : (w after : W) (ts : List Tell) → HearsAll Passes w ts after → HearsAll hears (to w) (narrowing (box w) ts) (to after)
  passes w after [] h = ap to h
  passes w after (t ∷ ts) h =
      let P : List Tell → Type 0 = λ us. HearsAll hears (to w) us (to after) in
      let R : Bounds → Type 0 = λ b. HearsAll hears (to h.0) (narrowing b ts) (to after) in
      subst P (sym (one_then (box w) t ts))
      (hears_both may hears (to w) (to h.0) (to after) (narrowing (box w) (t ∷ [])) (narrowing (box w) ts) h.1.0 (subst R h.1.1 (passes h.0 after ts h.2)))

  pub passes_name : (w after : W) (ts : List Tell) → HearsAll Passes w ts after → name after ≡ name w
  passes_name w after [] h = ap name (sym h)
  passes_name w after (t ∷ ts) h = passes_name h.0 after ts h.2 ∙ h.1.2

  -- tells that keep the box are passed over
  pub kept_passes : (w : W) (ts : List Tell) → All (Keeps (box w)) ts → HearsAll Passes w ts w
  kept_passes w [] all = refl
  kept_passes w (t ∷ ts) all =
      let P : List Tell → Type 0 = λ us. HearsAll hears (to w) us (to w) in
      let none = none_narrows (box w) (t ∷ []) (All-one (Keeps (box w)) t (all 0 t (omega arith))) in
      (w, (subst P (sym none) refl, refl, refl), kept_passes w ts (λ k d h. all (suc k) d (omega arith)))

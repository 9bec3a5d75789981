-- Each kind of step keeps the rule. One lemma serves them all: a step that writes one word, of which its seat then knows.
use Rattle.std.proofs.Common.{ℕ, ◌≡◌, ◌≢◌, ◌<◌, List, length, set, Bool, true, false, true≢false, ⊎_elim, refl, sym, ◌∙◌, subst, arith, length-set}
use Rattle.std.specs.Prelude.{slice_index, Option, Some, None, IfSome}
use mathlib.Core.Option.{some, some-injective, some-ne-none}
use mathlib.Core.Option as maybe
use mathlib.Core.Logic.{dite}
use native.Mathlib.Decide.{ℕ_discrete}
use lib.ListN.{get_elem?}
use Rattle.std.proofs.lemmas.List.{set-get_or, get_or-set_other}
use Rattle.std.proofs.lemmas.Grind.{get_or-set_at}
use Rattle.atomic_table.specs.Table.{Me, Allows, keeps, step}
use Rattle.atomic_table.proofs.Lists.{at_set, set_again}
use Rattle.bit_domain.specs.Mixes.{Mix}
use Rattle.mix_store.specs.declared.table.WordKind.{WordKind}
use Rattle.mix_store.specs.declared.table.View.{View}
use Rattle.mix_store.specs.Order.{Holds, join_of}
use Rattle.mix_store.specs.Words.{words_of}
use Rattle.mix_store.specs.Rule.{kind_at, IsAllowed, Fits, Sees, Agree, Lawful, Keeps, noted, asked, told, with_floor, named, IsOwn, learned}
use Rattle.mix_store.specs.Steps.{IsReady}
use Rattle.mix_store.proofs.OrderLaws.{holds_itself, holds_through, first_holds, join_holds, join_word}

pub some_with : {A : Type 0} {P Q R : A → Type 0} (o : Option A) → IfSome o P → IfSome o Q → ((a : A) → P a → Q a → R a) → IfSome o R
some_with None p q f = tt
some_with (Some a) p q f = f a p q

-- both of two allowed words leave an allowed one
pub join_allowed : (kinds : List WordKind) (floor : Option Mix) (k a b : ℕ) → IsAllowed kinds floor k a → IsAllowed kinds floor k b → IsAllowed kinds floor k (join_of (kind_at kinds k) a b)
join_allowed kinds floor k a b h g = record {
  word = join_word (kind_at kinds k) a b h.word g.word;
  held = some_with floor h.held g.held (λ f p q. join_holds (kind_at kinds k) a b (slice_index (words_of f) k) p q);
}

-- what stands of a view stands of one of the same kinds and floor
allowed_too : (u v : View) (k n : ℕ) → u.kinds ≡ v.kinds → u.floor ≡ v.floor → IsAllowed u.kinds u.floor k n → IsAllowed v.kinds v.floor k n
allowed_too u v k n kinds floor h = subst (λ (x : List WordKind). IsAllowed x v.floor k n) kinds (subst (λ (x : Option Mix). IsAllowed u.kinds x k n) floor h)

-- A step of the seat id, whose view is v, after which the word k is n, and the seat has seen it
module _ (words : List ℕ) (views : List View) (id : ℕ) (v : View) (k n : ℕ) (law : Lawful words views) (at : get_elem? views id ≡ some v) (ready : IsReady v k) (new : (u : View) → u.kinds ≡ v.kinds → u.floor ≡ v.floor → Fits u k (slice_index words k) → Fits u k n) where
  mine : Sees words v
  mine = law.each id v at ready.live

  inside : k < length words
  inside = let e = mine.length_is in let h = ready.inside in omega arith

  never_fresh : (f : Bool) → f ≡ false → f ≡ true → ⊥
  never_fresh f off on = true≢false (sym on ∙ off)

  fits_set : (u : View) → u.kinds ≡ v.kinds → u.floor ≡ v.floor → Sees words u → (j : ℕ) → j < length (set words k n) → Fits u j (slice_index (set words k n) j)
  fits_set u kinds floor sees j less = dite (ℕ_discrete j k)
      (λ (e : j ≡ k). subst (λ (i : ℕ). Fits u i (slice_index (set words k n) i)) (sym e)
      (subst (λ (x : ℕ). Fits u k x) (sym (get_or-set_at words k k n 0 refl inside)) (new u kinds floor (sees.fits k inside))))
      (λ (ne : j ≢ k). subst (λ (x : ℕ). Fits u j x) (sym (get_or-set_other words k j n 0 ne)) (sees.fits j (let l = length-set words k n in omega arith)))

  other_sees : (j : ℕ) (u : View) → j ≢ id → get_elem? views j ≡ some u → u.live ≡ true → Sees (set words k n) u
  other_sees j u ne e live =
      let same = law.agree j id u v e at live ready.live in
      let sees = law.each j u e live in record {
        length_is = length-set words k n ∙ sees.length_is;
        fits = fits_set u same.kinds same.floor sees;
        as_made = λ fresh. absurd (ne (same.alone fresh));
      }

  own_sees : Sees (set words k n) (noted v k n)
  own_sees = record {
    length_is = length-set words k n ∙ mine.length_is ∙ sym (length-set v.seen k n);
    fits = λ j less. let was = fits_set v refl refl mine j less in record {
      allowed = was.allowed;
      behind = dite (ℕ_discrete j k)
          (λ (e : j ≡ k). subst (λ (i : ℕ). Holds (kind_at v.kinds i) (slice_index (set v.seen k n) i) (slice_index (set words k n) i)) (sym e)
          (subst (λ (x : ℕ). Holds (kind_at v.kinds k) x (slice_index (set words k n) k)) (sym (get_or-set_at v.seen k k n 0 refl ready.inside))
          (subst (λ (x : ℕ). Holds (kind_at v.kinds k) n x) (sym (get_or-set_at words k k n 0 refl inside)) (holds_itself (kind_at v.kinds k) n))))
          (λ (ne : j ≢ k). subst (λ (x : ℕ). Holds (kind_at v.kinds j) x (slice_index (set words k n) j)) (sym (get_or-set_other v.seen k j n 0 ne)) was.behind);
    };
    as_made = λ fresh. absurd (never_fresh v.fresh ready.fresh fresh);
  }

  noted_law : Lawful (set words k n) (set views id (noted v k n))
  noted_law = record {
    each = λ j u e live. ⊎_elim
        (λ (t : (j ≡ id) × (noted v k n ≡ u)). subst (Sees (set words k n)) t.1 own_sees)
        (λ (t : (j ≢ id) × (get_elem? views j ≡ some u)). other_sees j u t.0 t.1 live)
        (at_set views id j (noted v k n) u e);
    agree = λ i j u w ei ej lu lw. ⊎_elim
        (λ (t : (i ≡ id) × (noted v k n ≡ u)). ⊎_elim
        (λ (s : (j ≡ id) × (noted v k n ≡ w)). subst (λ (x : View). Agree i j u x) s.1 (subst (λ (x : View). Agree i j x (noted v k n)) t.1 record { kinds = refl; floor = refl; alone = λ fresh. absurd (never_fresh v.fresh ready.fresh fresh) }))
        (λ (s : (j ≢ id) × (get_elem? views j ≡ some w)). let a = law.agree id j v w at s.1 ready.live lw in subst (λ (x : View). Agree i j x w) t.1 record { kinds = a.kinds; floor = a.floor; alone = λ fresh. absurd (never_fresh v.fresh ready.fresh fresh) })
        (at_set views id j (noted v k n) w ej))
        (λ (t : (i ≢ id) × (get_elem? views i ≡ some u)). ⊎_elim
        (λ (s : (j ≡ id) × (noted v k n ≡ w)). let a = law.agree i id u v t.1 at lu ready.live in subst (λ (x : View). Agree i j u x) s.1 record { kinds = a.kinds; floor = a.floor; alone = λ fresh. a.alone fresh ∙ sym s.0 })
        (λ (s : (j ≢ id) × (get_elem? views j ≡ some w)). law.agree i j u w t.1 s.1 lu lw)
        (at_set views id j (noted v k n) w ej))
        (at_set views id i (noted v k n) u ei);
  }

-- a word that is looked at
pub asks : (slots id k : ℕ) (me : Me ℕ View) → IsReady me.0 k → Allows Keeps slots id me k (λ n. n) (asked (step slots k 0 0 maybe.none) me)
asks slots id k me ready s law homes at fits =
    let v = me.0 in
    let n = slice_index s.words k in
    let sees = law.each id v at ready.live in
    let here : Fits v k n = sees.fits k (let l = sees.length_is in let h = ready.inside in omega arith) in
    (noted v k n, keeps, tt, noted_law s.words s.views id v k n law at ready (λ u kinds floor was. was), (refl, record { view = refl; fits = here }))

-- a word that becomes what it was and z both leave
joined_fits : (u v : View) (k word z : ℕ) → u.kinds ≡ v.kinds → u.floor ≡ v.floor → IsAllowed v.kinds v.floor k z → Fits u k word → Fits u k (join_of (kind_at v.kinds k) word z)
joined_fits u v k word z kinds floor may was =
    subst (λ (x : List WordKind). Fits u k (join_of (kind_at x k) word z)) kinds record {
      allowed = join_allowed u.kinds u.floor k word z was.allowed (allowed_too v u k z (sym kinds) (sym floor) may);
      behind = holds_through (kind_at u.kinds k) (slice_index u.seen k) word (join_of (kind_at u.kinds k) word z) was.behind (first_holds (kind_at u.kinds k) word z);
    }

pub tells : (slots id k z : ℕ) (me : Me ℕ View) (f : ℕ → ℕ) → IsReady me.0 k → IsAllowed me.0.kinds me.0.floor k z → ((n : ℕ) → join_of (kind_at me.0.kinds k) n z ≡ f n)
    → Allows Keeps slots id me k f (told (step slots k z 0 maybe.none) me)
tells slots id k z me f ready may is s law homes at fits =
    let v = me.0 in
    let word = slice_index s.words k in
    let n = join_of (kind_at v.kinds k) word z in
    let sees = law.each id v at ready.live in
    let here : Fits v k word = sees.fits k (let l = sees.length_is in let h = ready.inside in omega arith) in
    let now : Fits v k n = joined_fits v v k word z refl refl may here in
    let after = noted_law s.words s.views id v k n law at ready (λ u kinds floor was. joined_fits u v k word z kinds floor may was) in
    (noted v k n, keeps, tt, subst (λ (x : ℕ). Lawful (set s.words k x) (set s.views id (noted v k n))) (is word) after, (refl, record { view = refl; fits = now }))

-- the floor of a store that was just made is named
pub names : (slots id : ℕ) (me : Me ℕ View) (floor : Option Mix) → me.0.live ≡ true → me.0.fresh ≡ true → ((k : ℕ) → k < length me.0.seen → IsAllowed me.0.kinds floor k (slice_index me.0.seen k))
    → Allows Keeps slots id me 0 (λ n. n) (named floor (step slots 0 0 0 maybe.none) me)
names slots id me floor live fresh held s law homes at fits =
    (with_floor me.0 floor, keeps, tt, subst (λ (l : List ℕ). Lawful l (set s.views id (with_floor me.0 floor))) (sym (set-get_or s.words 0 0)) lawful, (refl, refl))
  where
    sees : Sees s.words me.0
    sees = law.each id me.0 at live

    only : (j : ℕ) (u : View) → get_elem? s.views j ≡ some u → u.live ≡ true → id ≡ j
    only j u e l = (law.agree id j me.0 u at e live l).alone fresh

    own : Sees s.words (with_floor me.0 floor)
    own = record {
      length_is = sees.length_is;
      fits = λ k less. let was = sees.fits k less in record {
        allowed = subst (λ (l : List ℕ). IsAllowed me.0.kinds floor k (slice_index l k)) (sym (sees.as_made fresh)) (held k (let e = sees.length_is in omega arith));
        behind = was.behind;
      };
      as_made = λ never. absurd (true≢false (sym never));
    }

    is_mine : (j : ℕ) (u : View) → get_elem? (set s.views id (with_floor me.0 floor)) j ≡ some u → u.live ≡ true → with_floor me.0 floor ≡ u
    is_mine j u e l = ⊎_elim
        (λ (t : (j ≡ id) × (with_floor me.0 floor ≡ u)). t.1)
        (λ (t : (j ≢ id) × (get_elem? s.views j ≡ some u)). absurd (t.0 (sym (only j u t.1 l))))
        (at_set s.views id j (with_floor me.0 floor) u e)

    lawful : Lawful s.words (set s.views id (with_floor me.0 floor))
    lawful = record {
      each = λ j u e l. subst (Sees s.words) (is_mine j u e l) own;
      agree = λ i j u w ei ej lu lw. subst (λ (x : View). Agree i j u x) (is_mine j w ej lw) (subst (λ (x : View). Agree i j x (with_floor me.0 floor)) (is_mine i u ei lu) record { kinds = refl; floor = refl; alone = λ never. absurd (true≢false (sym never)) });
    }

-- what was seen holds the floor, since what stands does
pub learns : (slots id : ℕ) (me : Me ℕ View) → me.0.live ≡ true → Allows Keeps slots id me 0 (λ n. n) (learned (step slots 0 0 0 maybe.none) me)
learns slots id me live s law homes at fits =
    (me.0, keeps, tt, subst (λ (l : List ℕ). Lawful l (set s.views id me.0)) (sym (set-get_or s.words 0 0)) (subst (λ (l : List View). Lawful s.words l) (sym (set_again s.views id me.0 at)) law), (refl, refl, own))
  where
    sees : Sees s.words me.0
    sees = law.each id me.0 at live

    own : IsOwn me.0
    own k less = let was = sees.fits k (let e = sees.length_is in omega arith) in
        some_with me.0.floor was.allowed.held was.allowed.held (λ f p q. holds_through (kind_at me.0.kinds k) (slice_index me.0.seen k) (slice_index s.words k) (slice_index (words_of f) k) was.behind p)

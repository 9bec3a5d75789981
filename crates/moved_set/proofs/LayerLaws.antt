-- Changes of words that are undone, and the sets at marks.
use Rattle.std.proofs.Common.{◌≡◌, ℕ, ◌+◌, ◌-◌, ◌<◌, ◌≤◌, Bool, List, [], ◌∷◌, ◌++◌, length, get_or, set, take, drop, map, refl, sym, ◌∙◌, ap, subst, arith}
use Rattle.std.specs.Prelude.{All, Result, Ok, Err, OnOk}
use Rattle.std.proofs.lemmas.List.{length-set, length-append, length-take-le, set-set, set-get_or, get_or_append_left, get_or_push, drop-append-le, drop_all, at_drop_more, take-append-drop, map-append}
use Rattle.std.proofs.lemmas.List.Elements.{All-head, All-tail, All-push, All-take}
use Rattle.std.proofs.lemmas.List.Quantifiers.{all_pairs_push}
use Rattle.moved_set.specs.declared.mask.Mask.{Mask}
use Rattle.moved_set.specs.Words.{set_of}
use Rattle.moved_set.specs.ConsistentLayers.{IsConsistent}
use Rattle.moved_set.specs.declared.trailed_set.TrailedSet.TheInside.{Inside}
use Rattle.moved_set.specs.Layers.{undone, layer_at, AreOn, Spares}

pub undone-append : (xs ys : List Mask) (words : List ℕ) → undone (xs ++ ys) words ≡ undone xs (undone ys words)
unfolding undone
undone-append [] ys words = refl
undone-append (x ∷ xs) ys words = ap (λ (ws : List ℕ). set ws x.place x.bits) (undone-append xs ys words)

pub length-undone : (xs : List Mask) (words : List ℕ) → length (undone xs words) ≡ length words
unfolding undone
length-undone [] words = refl
length-undone (x ∷ xs) words = length-set (undone xs words) x.place x.bits ∙ length-undone xs words

-- a change at the end of the trail is the first that is undone
undone-push : (xs : List Mask) (words : List ℕ) (place word : ℕ) → undone (xs ++ record { place = place; bits = get_or words place 0 } ∷ []) (set words place word) ≡ undone xs words
unfolding undone
undone-push xs words place word =
    let before : ℕ = get_or words place 0 in
    undone-append xs (record { place = place; bits = before } ∷ []) (set words place word)
    ∙ ap (undone xs) (set-set words place word before ∙ set-get_or words place 0)

pub on_ok : {T E : Type 0} {P Q : Type 0} (r : Result T E) → (P → Q) → OnOk r P → OnOk r Q
on_ok (Ok x) f h = f h
on_ok (Err e) f h = h

-- ---- a word is written

-- the change is put on the trail
pub spares_written : (words : List ℕ) (trail new : List Mask) (place word before : ℕ) → place < length words → before ≡ get_or words place 0
    → new ≡ trail ++ record { place = place; bits = before } ∷ [] → Spares words trail (set words place word) new
spares_written words trail new place word before there was is =
    let c : Mask = record { place = place; bits = before } in
    record {
      same_length = length-set words place word;
      longer = omega (arith, ap length is, length-append trail (c ∷ []));
      places = λ h. subst (All (λ m. m.place < length words)) (sym is) (All-push (λ m. m.place < length words) trail c h there);
      same = λ mark h.
          let split : drop mark new ≡ drop mark trail ++ c ∷ [] = ap (drop mark) is ∙ drop-append-le mark trail (c ∷ []) h in
          let bits : drop mark trail ++ c ∷ [] ≡ drop mark trail ++ record { place = place; bits = get_or words place 0 } ∷ [] =
          ap (λ (n : ℕ). drop mark trail ++ record { place = place; bits = n } ∷ []) was in
          ap (λ (cs : List Mask). undone cs (set words place word)) (split ∙ bits) ∙ undone-push (drop mark trail) words place word;
    }

-- ---- marks

on_push : (trail : List Mask) (marks : List ℕ) → AreOn trail marks → AreOn trail (marks ++ length trail ∷ [])
on_push trail marks on = record {
  within = All-push (λ n. n ≤ length trail) marks (length trail) on.within (omega arith);
  rising = all_pairs_push (λ m n. m ≤ n) marks (length trail) on.rising (λ k d h. on.within k d h);
}

last_within : (trail : List Mask) (marks : List ℕ) (m : ℕ) → AreOn trail (marks ++ m ∷ []) → m ≤ length trail
last_within trail marks m on =
    let within = on.within (length marks) m (omega (arith, length-append marks (m ∷ []))) in
    let is = get_or_push marks m m (length marks) refl in
    omega arith

earlier_within : (trail : List Mask) (marks : List ℕ) (m : ℕ) → AreOn trail (marks ++ m ∷ []) → All (λ n. n ≤ m) marks
earlier_within trail marks m on j d h =
    let rises = on.rising j (length marks) d h (omega (arith, length-append marks (m ∷ []))) in
    let first = get_or_append_left marks (m ∷ []) d j h in
    let second = get_or_push marks m d (length marks) refl in
    omega arith

at_kept : (trail : List Mask) (words : List ℕ) (from n : ℕ) → n ≤ from → from ≤ length trail
    → undone (drop n (take from trail)) (undone (drop from trail) words) ≡ undone (drop n trail) words
at_kept trail words from n le within =
    sym (undone-append (drop n (take from trail)) (drop from trail) words)
    ∙ ap (λ (cs : List Mask). undone cs words)
    (sym (drop-append-le n (take from trail) (drop from trail) (omega (arith, length-take-le from trail within)))
    ∙ ap (drop n) (take-append-drop from trail))

on_pop : (trail : List Mask) (marks : List ℕ) (m : ℕ) → AreOn trail (marks ++ m ∷ []) → AreOn (take m trail) marks
on_pop trail marks m on =
    let whole = length-append marks (m ∷ []) in
    record {
      within = λ j d h.
          let e = length-take-le m trail (last_within trail marks m on) in
          let le = earlier_within trail marks m on j d h in
          omega arith;
      rising = λ i j d lt h.
          let le : get_or (marks ++ m ∷ []) i d ≤ get_or (marks ++ m ∷ []) j d = on.rising i j d lt (omega arith) in
          let first = get_or_append_left marks (m ∷ []) d i (omega arith) in
          let second = get_or_append_left marks (m ∷ []) d j h in
          omega arith;
    }

-- the marks lie on a longer trail too
pub on_longer : (old new : List Mask) (marks : List ℕ) → length old ≤ length new → AreOn old marks → AreOn new marks
on_longer old new marks le on = record {
  within = λ j d h. let w = on.within j d h in omega arith;
  rising = on.rising;
}

map_same : (f g : ℕ → List Bool) (marks : List ℕ) → All (λ m. f m ≡ g m) marks → map f marks ≡ map g marks
map_same f g [] same = refl
map_same f g (m ∷ marks) same =
    let head : f m ≡ g m = All-head (λ n. f n ≡ g n) m marks same in
    let rest : map f marks ≡ map g marks = map_same f g marks (All-tail (λ n. f n ≡ g n) m marks same) in
    cc

-- ---- the sets at the marks

-- the invariant after words and trail were changed so
pub consistent_spared : (s t : Inside) (words lent : List ℕ) → IsConsistent s → lent ≡ s.words.items → t.words.items ≡ words → t.count ≡ s.count → t.marks.items ≡ s.marks.items
    → Spares lent s.trail.items words t.trail.items → IsConsistent t
consistent_spared s t words lent is lent_is words_is count_is marks_is spares =
    let same : length t.words.items ≡ length s.words.items = ap length words_is ∙ spares.same_length ∙ ap length lent_is in
    let on : AreOn t.trail.items s.marks.items = on_longer s.trail.items t.trail.items s.marks.items spares.longer is.marks in
    record {
      words = omega (arith, same, is.words, count_is);
      small = omega (arith, is.small, count_is);
      places = λ k d h.
          let was : All (λ m. m.place < length lent) s.trail.items = λ i e l. omega (arith, is.places i e l, ap length lent_is) in
          omega (arith, spares.places was k d h, same, ap length lent_is);
      marks = subst (AreOn t.trail.items) (sym marks_is) on;
    }

-- they stay where a word is written
pub stack_spared : (count : ℕ) (old : List ℕ) (trail : List Mask) (new : List ℕ) (trail_new : List Mask) (marks : List ℕ)
    → AreOn trail marks → Spares old trail new trail_new → map (layer_at trail_new new count) marks ≡ map (layer_at trail old count) marks
stack_spared count old trail new trail_new marks on spares =
    map_same (layer_at trail_new new count) (layer_at trail old count) marks
    (λ j d h. ap (λ (ws : List ℕ). set_of ws count) (spares.same (get_or marks j d) (on.within j d h)))

at_end : (trail : List Mask) (words : List ℕ) (from : ℕ) → from ≡ length trail → undone (drop from trail) words ≡ words
unfolding undone
at_end trail words from is = ap (λ (cs : List Mask). undone cs words) (drop_all from trail (omega arith))

pub stack_push : (count : ℕ) (trail : List Mask) (words : List ℕ) (marks new : List ℕ) (m : ℕ) → new ≡ marks ++ m ∷ [] → m ≡ length trail
    → map (layer_at trail words count) new ≡ map (layer_at trail words count) marks ++ set_of words count ∷ []
stack_push count trail words marks new m is at =
    ap (map (layer_at trail words count)) is
    ∙ map-append (layer_at trail words count) marks (m ∷ [])
    ∙ ap (λ (ws : List ℕ). map (layer_at trail words count) marks ++ set_of ws count ∷ []) (at_end trail words m at)

pub on_pushed : (trail : List Mask) (marks new : List ℕ) (m : ℕ) → new ≡ marks ++ m ∷ [] → m ≡ length trail → AreOn trail marks → AreOn trail new
on_pushed trail marks new m is at on =
    subst (AreOn trail) (sym (is ∙ ap (λ (n : ℕ). marks ++ n ∷ []) at)) (on_push trail marks on)

pub stack_pop : (count : ℕ) (old new : List Mask) (words now : List ℕ) (marks rest : List ℕ) (m : ℕ)
    → marks ≡ rest ++ m ∷ [] → new ≡ take m old → now ≡ undone (drop m old) words → AreOn old marks
    → map (layer_at old words count) marks ≡ map (layer_at new now count) rest ++ set_of now count ∷ []
stack_pop count old new words now marks rest m is new_is now_is on =
    let on_all : AreOn old (rest ++ m ∷ []) = subst (AreOn old) is on in
    let back : List ℕ = undone (drop m old) words in
    let kept : map (layer_at (take m old) back count) rest ≡ map (layer_at old words count) rest =
    map_same (layer_at (take m old) back count) (layer_at old words count) rest
    (λ j d h. ap (λ (ws : List ℕ). set_of ws count) (at_kept old words m (get_or rest j d) (earlier_within old rest m on_all j d h) (last_within old rest m on_all))) in
    ap (map (layer_at old words count)) is
    ∙ map-append (layer_at old words count) rest (m ∷ [])
    ∙ ap (λ (ls : List (List Bool)). ls ++ set_of back count ∷ []) (sym kept)
    ∙ ap (λ (ws : List ℕ). map (layer_at (take m old) ws count) rest ++ set_of ws count ∷ []) (sym now_is)
    ∙ ap (λ (cs : List Mask). map (layer_at cs now count) rest ++ set_of now count ∷ []) (sym new_is)

pub on_popped : (old new : List Mask) (marks rest : List ℕ) (m : ℕ) → marks ≡ rest ++ m ∷ [] → new ≡ take m old → AreOn old marks → AreOn new rest
on_popped old new marks rest m is new_is on = subst (λ (cs : List Mask). AreOn cs rest) (sym new_is) (on_pop old rest m (subst (AreOn old) is on))

pub popped_within : (trail : List Mask) (marks rest : List ℕ) (m : ℕ) → marks ≡ rest ++ m ∷ [] → AreOn trail marks → m ≤ length trail
popped_within trail marks rest m is on = last_within trail rest m (subst (AreOn trail) is on)

pub places_popped : (count : ℕ) (old new : List Mask) (m : ℕ) → new ≡ take m old → All (λ c. c.place < count) old → All (λ c. c.place < count) new
places_popped count old new m is all = subst (All (λ c. c.place < count)) (sym is) (All-take (λ c. c.place < count) m old all)

-- ---- going back

undone_more : (trail : List Mask) (words : List ℕ) (place : ℕ) (c : Mask) → place < length trail → c ≡ get_or trail place c
    → undone (drop place trail) words ≡ set (undone (drop (place + 1) trail) words) c.place c.bits
unfolding undone
undone_more trail words place c h is =
    let more = at_drop_more (λ (cs : List Mask). undone cs words) trail place c h in
    let step : undone (get_or trail place c ∷ drop (place + 1) trail) words ≡ set (undone (drop (place + 1) trail) words) c.place c.bits =
    ap (λ (x : Mask). set (undone (drop (place + 1) trail) words) x.place x.bits) (sym is) in
    more ∙ step

pub undone_step : (trail : List Mask) (words now : List ℕ) (place : ℕ) (c : Mask) → 0 < place → place ≤ length trail → c ≡ get_or trail (place - 1) c → now ≡ undone (drop place trail) words
    → set now c.place c.bits ≡ undone (drop (place - 1) trail) words
undone_step trail words now place c above within is now_is =
    let next : place - 1 + 1 ≡ place = omega arith in
    ap (λ (ws : List ℕ). set ws c.place c.bits) (now_is ∙ ap (λ (k : ℕ). undone (drop k trail) words) (sym next))
    ∙ sym (undone_more trail words (place - 1) c (omega arith) is)

pub undone_none : (trail : List Mask) (words : List ℕ) (place : ℕ) → place ≡ length trail → words ≡ undone (drop place trail) words
undone_none trail words place is = sym (at_end trail words place is)

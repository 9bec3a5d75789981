-- The model of every text is well-formed: each item without a fault keeps what stands before it so.
use Rattle.std.proofs.Common.{◌≡◌, ℕ, zero, suc, ◌≤◌, ◌<◌, List, [], ◌∷◌, ◌++◌, length, take, get_or, Bool, false, ◌||◌, nat_lt, is_some, Option, Some, None, refl, sym, ap, subst, ◌∙◌, arith, ℤ}
use Rattle.std.specs.Prelude.{fold, flat_map, sum_by, map, option_to_list}
use Rattle.std.specs.List.{AllByRecursion as Each, list_any}
use Rattle.std.specs.Option.{IfSome, option_or}
use Rattle.std.proofs.Math.Seq.{take-suc}
use Rattle.std.proofs.lemmas.Bool.{or_parts, ltb-false, true≢false}
use Rattle.std.proofs.lemmas.List.{append-nil, take_all}
use Rattle.std.proofs.lemmas.Grind.{flat_map-append}
use Rattle.std.proofs.lemmas.List.Sums.{fold-append, sum_by-append}
use Rattle.std.proofs.lemmas.List.Elements.{All-from_recursion}
use Rattle.fzn_parser.specs.Items.{predicate_item}
use Rattle.fzn_parser.specs.Parsing.{ItemTree}
use Rattle.constraint_model.specs.declared.model.VarDecl.{VarDecl}
use Rattle.constraint_model.specs.declared.model.Constraint.{Constraint}
use Rattle.constraint_model.specs.declared.model.Goal.{Goal}
use Rattle.constraint_model.specs.declared.model.Phase.{Phase}
use Rattle.constraint_model.specs.declared.model.FznModel.{FznModel}
use Rattle.constraint_model.specs.declared.meanings.Meaning.{Meaning}
use Rattle.fzn_model.specs.declared.effect.Effect.{Effect}
use Rattle.constraint_model.specs.Fits.{constants_in, goal_constants, add_once, kernels_of, has_long_row}
use Rattle.fzn_model.specs.Effects.{Reading, nothing, numbered, with_number, joined, effect_of, with_item, reading_of, solved_constants}
use Rattle.fzn_model.specs.Faults.{fault_of, is_too_large}
use Rattle.constraint_model.specs.Limits.{most_vars, most_kernels, most_constants}
use Rattle.constraint_model.specs.Arrays.{HaveNumbers}
use Rattle.fzn_model.specs.Resolving.{AreLawful, IsModelOf, model_with}
use Rattle.constraint_model.specs.WellFormed.{IsDeclaration, IsMeaningOf, IsConstraintOf, IsGoalOf, IsOutputOf, IsWellFormed}
use Rattle.fzn_model.proofs.MeaningLaws.{SetLaws, each_append, each_weaker, each_option, meaning_stays, constraint_stays, output_stays, AreNames}
use Rattle.fzn_model.proofs.PhaseLaws.{IsSearch, all_declared}
use Rattle.fzn_model.proofs.EffectLaws.{Adds, passes, adds}
use Rattle.fzn_model.proofs.Standing.{few_vars, few_kernels}
use Rattle.fzn_model.proofs.ArrayLaws.{constraints_numbered}

-- what holds of the reading of lawful items
record Keeps (r : Reading) : Type 0 where
  pub scope : AreNames r.vars r.scope
  pub vars : Each IsDeclaration r.vars
  pub constraints : Each (IsConstraintOf r.vars) r.constraints
  pub output : Each (IsOutputOf r.vars) r.output
  pub solved : IfSome r.solved (λ s. IsGoalOf r.vars s.1)
  pub search : IfSome r.solved (λ s. IsSearch (length r.vars) s.0)
  pub constants : r.constants ≡ fold add_once [] (flat_map constants_in r.constraints ++ solved_constants r.solved)
  pub kernels : r.kernels ≡ sum_by kernels_of r.constraints
  pub fits : is_too_large r ≡ false

keeps_none : Keeps nothing
keeps_none = record { scope = tt; vars = tt; constraints = tt; output = tt; solved = tt; search = tt; constants = refl; kernels = refl; fits = refl }

-- ---- one item more

first_goal : (P : List Phase × Goal → Type 0) (o p : Option (List Phase × Goal)) → is_some o ≡ false → IfSome p P → IfSome (option_or o p) P
first_goal P None p e h = h
first_goal P (Some s) p e h = absurd (true≢false e)

-- the constants of what was there and of what an item adds, where nothing was asked for before
constants_joined : (cs ds : List Constraint) (o p : Option (List Phase × Goal)) (k : List ℤ) → is_some o ≡ false → k ≡ fold add_once [] (flat_map constants_in cs ++ solved_constants o)
    → fold add_once (fold add_once k (flat_map constants_in ds)) (solved_constants p) ≡ fold add_once [] (flat_map constants_in (cs ++ ds) ++ solved_constants (option_or o p))
constants_joined cs ds (Some s) p k e same = absurd (true≢false e)
constants_joined cs ds None p k e same =
    let old : List ℤ = flat_map constants_in cs in
    let more : List ℤ = flat_map constants_in ds in
    let last : List ℤ = solved_constants p in
    ap (λ x. fold add_once (fold add_once x more) last) (same ∙ ap (fold add_once []) (append-nil old))
    ∙ ap (λ x. fold add_once x last) (sym (fold-append add_once [] old more))
    ∙ sym (fold-append add_once [] (old ++ more) last)
    ∙ ap (λ x. fold add_once [] (x ++ last)) (sym (flat_map-append constants_in cs ds))

-- with its number an array has the same entries
meant : (vars : List VarDecl) (n : ℕ) (m : Meaning) → IsMeaningOf vars m → IsMeaningOf vars (with_number n m)
meant vars n (Meaning.One s) h = h
meant vars n (Meaning.Row array) h = h
meant vars n (Meaning.Set ranges) h = h

declared_meant : (vars : List VarDecl) (n : ℕ) (o : Option (List ℕ × Meaning)) → IfSome o (λ (d : List ℕ × Meaning). IsMeaningOf vars d.1) → AreNames vars (map (numbered n) (option_to_list o))
declared_meant vars n None h = tt
declared_meant vars n (Some d) h = (meant vars n d.1 h, tt)

keeps_more : (r : Reading) (more : Effect) → Keeps r → is_some r.solved ≡ false → is_too_large (joined r more) ≡ false → Adds r.vars more → Keeps (joined r more)
keeps_more r more h e f a =
    let vars : List VarDecl = option_to_list more.var in
    let P : List ℕ × Meaning → Type 0 = λ d. IsMeaningOf r.vars d.1 in
    let Q : List ℕ × Meaning → Type 0 = λ d. IsMeaningOf (r.vars ++ vars) d.1 in
    record {
      scope = each_append Q r.scope (map (numbered (length r.arrays)) (option_to_list more.declared)) (each_weaker P Q (λ d k. meaning_stays r.vars vars d.1 k) r.scope h.scope)
          (declared_meant (r.vars ++ vars) (length r.arrays) more.declared a.declared);
      vars = each_append IsDeclaration r.vars vars h.vars (each_option IsDeclaration more.var a.var);
      constraints = each_append (IsConstraintOf (r.vars ++ vars)) r.constraints more.constraints
          (each_weaker (IsConstraintOf r.vars) (IsConstraintOf (r.vars ++ vars)) (constraint_stays r.vars vars) r.constraints h.constraints) a.constraints;
      output = each_append (IsOutputOf (r.vars ++ vars)) r.output (option_to_list more.output)
          (each_weaker (IsOutputOf r.vars) (IsOutputOf (r.vars ++ vars)) (output_stays r.vars vars) r.output h.output) (each_option (IsOutputOf (r.vars ++ vars)) more.output a.output);
      solved = first_goal (λ s. IsGoalOf (r.vars ++ vars) s.1) r.solved more.solved e a.solved;
      search = first_goal (λ s. IsSearch (length (r.vars ++ vars)) s.0) r.solved more.solved e a.search;
      constants = constants_joined r.constraints more.constraints r.solved more.solved r.constants e h.constants;
      kernels = omega (arith, sum_by-append kernels_of r.constraints more.constraints, h.kernels);
      fits = f;
    }

keeps_item : (laws : SetLaws) (text : List ℕ) (r : Reading) (item : ItemTree) → Keeps r → fault_of text r item.what ≡ None → Keeps (with_item text r item)
keeps_item laws text r item h e =
    let more : Effect = effect_of text r.scope (length r.vars) item.what in
    let p = passes text r item.what e in
    keeps_more r more h p.open_yet (or_parts (list_any has_long_row more.constraints) (is_too_large (joined r more)) p.limit).1 (adds laws text r item.what h.scope p)

-- ---- all items

some_item : ItemTree
some_item = record { from = 0; what = predicate_item [] }

keeps_front : (laws : SetLaws) (text : List ℕ) (items : List ItemTree) → AreLawful text items → (k : ℕ) → k ≤ length items → Keeps (reading_of text (take k items))
keeps_front laws text items h zero l = keeps_none
keeps_front laws text items h (suc k) l =
    let m : k < length items = omega arith in
    let item : ItemTree = get_or items k some_item in
    let one : reading_of text (take (suc k) items) ≡ with_item text (reading_of text (take k items)) item =
    ap (reading_of text) (take-suc items k some_item m) ∙ fold-append (with_item text) nothing (take k items) (item ∷ []) in
    subst Keeps (sym one) (keeps_item laws text (reading_of text (take k items)) item (keeps_front laws text items h k (omega arith)) (h k some_item m))

keeps_all : (laws : SetLaws) (text : List ℕ) (items : List ItemTree) → AreLawful text items → Keeps (reading_of text items)
keeps_all laws text items h = subst (λ xs. Keeps (reading_of text xs)) (take_all (length items) items (omega arith)) (keeps_front laws text items h (length items) (omega arith))

-- ---- the model

few_constants : (r : Reading) → is_too_large r ≡ false → length r.constants ≤ most_constants
few_constants r e =
    let vars : Bool = nat_lt most_vars (length r.vars) in
    let kernels : Bool = nat_lt most_kernels r.kernels in
    let constants : Bool = nat_lt most_constants (length r.constants) in
    ltb-false most_constants (length r.constants) (or_parts (vars || kernels) constants e).1

model_is_well_formed : (r : Reading) (asked : List Phase × Goal) → r.solved ≡ Some asked → HaveNumbers r.arrays r.constraints → Keeps r → IsWellFormed (model_with r asked)
model_is_well_formed r asked e numbers h =
    let same : r.constants ≡ fold add_once [] (flat_map constants_in r.constraints ++ goal_constants asked.1) =
    h.constants ∙ ap (λ o. fold add_once [] (flat_map constants_in r.constraints ++ solved_constants o)) e in
    let phases : IsSearch (length r.vars) asked.0 = subst (λ o. IfSome o (λ (s : List Phase × Goal). IsSearch (length r.vars) s.0)) e h.search in
    record {
      vars = All-from_recursion IsDeclaration r.vars h.vars;
      constraints = All-from_recursion (IsConstraintOf r.vars) r.constraints h.constraints;
      numbered = numbers;
      search = record { declared = all_declared (length r.vars) asked.0 phases.declared; front = phases.front; last = phases.last };
      objective = subst (λ o. IfSome o (λ (s : List Phase × Goal). IsGoalOf r.vars s.1)) e h.solved;
      outputs = All-from_recursion (IsOutputOf r.vars) r.output h.output;
      vars_fit = few_vars r h.fits;
      constants_fit = subst (λ (xs : List ℤ). length xs ≤ most_constants) same (few_constants r h.fits);
      kernels_fit = subst (λ (n : ℕ). n ≤ most_kernels) h.kernels (few_kernels r h.fits);
    }

pub well_formed : (laws : SetLaws) (text : List ℕ) (items : List ItemTree) (m : FznModel) → IsModelOf text items m → IsWellFormed m
well_formed laws text items m h =
    let r : Reading = reading_of text items in
    let model = h.is_model in
    subst IsWellFormed (sym model.is_model) (model_is_well_formed r model.asked model.solved (constraints_numbered text items) (keeps_all laws text items h.lawful))

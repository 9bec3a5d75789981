-- What a walk knows, step by step.
use Rattle.std.proofs.Common.{◌≡◌, ℕ, ℤ, ◌+◌, ◌-◌, ◌<◌, ◌^◌, ◌≢◌, Option, None, Some, Result, Ok, Err, Bool, true, false, List, [], ◌∷◌, ◌++◌, length, take, get_or, refl, sym, ap, subst, ◌∙◌, arith}
use Rattle.std.proofs.lemmas.List.{append-nil, append_assoc, take-append-le, take_more, same_from_push}
use Rattle.interval.specs.Boxes.{Bounds, low_of, high_of, put_of, IsInRange, IsProper}
use Rattle.std.specs.Prelude.{IfOk, IfSome, IfNone, MatchOption}
use Rattle.std.specs.List.{All}
use Rattle.guarded_tell.specs.declared.kernel.Kernel.{Kernel}
use Rattle.guarded_tell.specs.Kernels.{IsKernel}
use Rattle.fixpoint_laws.specs.Fixpoints.{IsClosed, IsGreatest}
use Rattle.constraint_model.specs.declared.model.FznModel.{FznModel}
use Rattle.branching.specs.declared.branch.Branching.{Branching}
use Rattle.branching.specs.Fronts.{left_by, right_by}
use Rattle.trailed_box.specs.Trailed.{Trailed, Left, left_of, IsOver}
use Rattle.moved_fixpoint.specs.Made.{IsMadeAt, IsMadeBy}
use Rattle.subproblems.specs.Cuts.{CanBeCut}
use Rattle.subproblem_walk.specs.declared.turns.Turn.{Turn}
use Rattle.subproblem_walk.specs.declared.turns.Address.{Address}
use Rattle.subproblem_walk.specs.declared.walk.Reached.{Reached}
use Rattle.subproblem_walk.specs.Turns.{side_of, IsTurn, AreTurnsTo}
use Rattle.subproblem_walk.specs.Nodes.{IsPartedAt}
use Rattle.trailed_box.specs.declared.trail.Part.{Part}
use Rattle.trailed_box.specs.declared.trailed.TrailedBox.{TrailedBox}
use Rattle.subproblem_walk.specs.declared.cutter.Subproblem.{Subproblem}
use Rattle.subproblem_walk.specs.declared.ends.End.{End}
use Rattle.subproblem_walk.specs.declared.walk.Walk.{Walk}
use Rattle.subproblem_walk.specs.Walks.{IsStep, AreSteps, end_of, IsEnd, IsEndAt, MayEndAt, IsEndFor, StandsOn, IsOnWay, IsLedTo, IsAt, IsBackAt, TakesTurn, IsReached, IsPathAt, IsAnswer}
use Rattle.subproblem_walk.proofs.TurnLemmas.{turns_append, no_turn, turn_first, steps_append, end_append, same_count, steps_take, step_at, leads_through, end_kept, end_leads, end_nowhere, led_path, path_through}

-- a box of as many variables can be cut too
pub can_again : (model : FznModel) (kernels : List Kernel) (b c : Bounds) → CanBeCut model kernels b → length c ≡ length b → IsInRange c → CanBeCut model kernels c
can_again model kernels b c can same range = record {
  search = can.search;
  in_range = range;
  long = subst (λ (n : ℕ). length model.vars < n) (sym same) can.long;
  fit = subst (λ (n : ℕ). All (IsKernel n) kernels) (sym same) can.fit;
}

-- a closed box with its first pair put as it is
pub first_put : (b : Bounds) → 0 < length b → b ≡ put_of b 0 (low_of b 0) (high_of b 0)
first_put [] l = absurd (omega arith)
first_put (x ∷ b) l = refl

-- a closed box is made of itself
pub made_of_itself : (kernels : List Kernel) (closed : Bounds) → IsClosed closed kernels → 0 < length closed → IsMadeAt kernels 0 closed
made_of_itself kernels closed h l = record {
  closed = closed;
  is_closed = h;
  in_box = l;
  low = low_of closed 0;
  high = high_of closed 0;
  is_put = first_put closed l;
  proper = h.proper;
}

-- what holds of both parts holds of the one on the side of a turn
pub on_side : (P : Bounds → Type 0) (turn : Bool) (left right : Bounds) → P left → P right → P (side_of turn left right)
on_side P false left right l r = l
on_side P true left right l r = r

-- the part on the side of a turn is made of the closed box by its pair
pub made_part : (model : FznModel) (kernels : List Kernel) (closed part : Bounds) (branching : Branching) (turn : Bool) (var : ℕ) (low high : ℤ) →
    IsClosed closed kernels → IsPartedAt model closed branching → var ≡ branching.pair → part ≡ put_of closed var low high →
    put_of closed var low high ≡ side_of turn (left_by closed branching) (right_by closed branching) → IsMadeAt kernels var part
made_part model kernels closed part branching turn var low high is_closed h e is side = record {
  closed = closed;
  is_closed = is_closed;
  in_box = subst (λ (n : ℕ). n < length closed) (sym e) h.fits.pair;
  low = low;
  high = high;
  is_put = is;
  proper = subst IsProper (sym (is ∙ side)) (on_side IsProper turn (left_by closed branching) (right_by closed branching) h.are_parts.first_part.proper h.are_parts.second_part.proper);
}

module _ (model : FznModel) (kernels : List Kernel) where
  -- a turn at the greatest closed box of a box is a step
  pub turn_step : (b : Bounds) (branching : Branching) (old new : Trailed) (before after : List Turn) (turn : Turn) → IsGreatest old.current b kernels →
      IsPartedAt model old.current branching → (t : TakesTurn branching old new before after turn) → IsStep model kernels b turn t.left
  turn_step b branching old new before after turn greatest parted t = record {
    greatest = subst (λ (x : Bounds). IsGreatest x b kernels) (sym t.base) greatest;
    parted = subst (λ (x : Bounds). IsPartedAt model x turn.branching) (sym t.base) (subst (IsPartedAt model old.current) (sym t.same) parted);
    taken =
        t.taken ∙ ap (λ (x : Bounds). side_of turn.goes_right (left_by x branching) (right_by x branching)) (sym t.base)
        ∙ ap (λ (x : Branching). side_of turn.goes_right (left_by t.left.base x) (right_by t.left.base x)) (sym t.same);
  }

  -- a turn at the box to which a walk went back
  pub turned : (start : Bounds) (branching : Branching) (old new : Trailed) (before after : List Turn) (turn : Turn) → IsBackAt model kernels start before old branching →
      TakesTurn branching old new before after turn → IsAt model kernels start after new
  turned start branching old new before after turn back t =
      let step = turn_step (end_of start old.stack) branching old new before after turn back.greatest back.parted t in
      let steps : AreSteps model kernels start (before ++ turn ∷ []) (old.stack ++ t.left ∷ []) =
      steps_append model kernels start before (turn ∷ []) old.stack (t.left ∷ []) back.steps (step, tt) in
      record {
        steps = subst (λ (ts : List Turn). AreSteps model kernels start ts new.stack) (sym t.turns) (subst (AreSteps model kernels start (before ++ turn ∷ [])) (sym t.stack) steps);
        current = t.current ∙ sym (end_append model kernels start old.stack (t.left ∷ [])) ∙ ap (end_of start) (sym t.stack);
      }

  -- turns on the way to a number, and one more
  pub turned_to : (depth number below rest next_depth next : ℕ) (branching : Branching) (old new : Trailed) (before after : List Turn) (turn : Turn) → AreTurnsTo depth number before below rest →
      0 < below → next_depth ≡ below - 1 → IsTurn (2 ^ (below - 1)) rest turn.goes_right next → TakesTurn branching old new before after turn → AreTurnsTo depth number after next_depth next
  turned_to depth number below rest next_depth next branching old new before after turn h some is first t =
      subst (λ (ts : List Turn). AreTurnsTo depth number ts next_depth next) (sym t.turns)
      (turns_append depth number before (turn ∷ []) below rest next_depth next h (turn_first below rest turn [] next_depth next next_depth next some is first (no_turn next_depth next)))

  -- the box to which a walk goes back
  pub back_at : (start : Bounds) (turns after : List Turn) (way : List Left) (k : ℕ) (turn : Turn) (old new : Trailed) (left : Left) → AreSteps model kernels start turns way →
      IsOver way old.stack → k < length turns → after ≡ take k turns → turn ≡ get_or turns k turn → take (k + 1) old.stack ≡ new.stack ++ left ∷ [] → left.base ≡ new.current →
      IsBackAt model kernels start after new turn.branching
  back_at start turns after way k turn old new left steps over l after_is turn_is stack base =
      let count = same_count model kernels start turns way steps in
      let in_way : k < length way = omega arith in
      let more : take (k + 1) old.stack ≡ take (k + 1) way = ap (take (k + 1)) over.1 ∙ take-append-le (k + 1) way over.0 (omega arith) in
      let split = same_from_push new.stack (take k way) left (get_or way k left) (sym stack ∙ more ∙ take_more way k left in_way) in
      let step = step_at model kernels k start turns way turn left steps l in
      let step_is : IsStep model kernels (end_of start new.stack) turn left =
      subst (λ (w : List Left). IsStep model kernels (end_of start w) turn left) (sym split.0)
      (subst (λ (x : Left). IsStep model kernels (end_of start (take k way)) turn x) (sym split.1)
      (subst (λ (x : Turn). IsStep model kernels (end_of start (take k way)) x (get_or way k left)) (sym turn_is) step)) in
      record {
        steps = subst (λ (ts : List Turn). AreSteps model kernels start ts new.stack) (sym after_is) (subst (AreSteps model kernels start (take k turns)) (sym split.0) (steps_take model kernels k start turns way steps));
        greatest = subst (λ (x : Bounds). IsGreatest x (end_of start new.stack) kernels) base step_is.greatest;
        parted = subst (λ (x : Bounds). IsPartedAt model x turn.branching) base step_is.parted;
      }

  -- a way that goes on from a part
  pub reached_on : (b : Bounds) (branching : Branching) (address rest : Address) (old middle new : Trailed) (before between after : List Turn) (turn : Turn) (reached : Reached) →
      old.current ≡ b → IsGreatest middle.current b kernels → IsPartedAt model middle.current branching → 0 < address.depth → rest.depth ≡ address.depth - 1 →
      IsTurn (2 ^ (address.depth - 1)) address.number turn.goes_right rest.number → middle.stack ≡ old.stack → (part : Trailed) → TakesTurn branching middle part before between turn →
      IsReached model kernels rest part new between after reached → IsReached model kernels address old new before after reached
  reached_on b branching address rest old middle new before between after turn reached at_b greatest parted some is first same part t r = record {
    turns = turn ∷ r.turns;
    way = t.left ∷ r.way;
    are_turns = r.are_turns ∙ ap (λ (ts : List Turn). ts ++ r.turns) t.turns ∙ append_assoc before (turn ∷ []) r.turns;
    is_way = r.is_way ∙ ap (λ (w : List Left). w ++ r.way) (t.stack ∙ ap (λ (w : List Left). w ++ t.left ∷ []) same) ∙ append_assoc old.stack (t.left ∷ []) r.way;
    steps = (
      turn_step old.current branching middle part before between turn (subst (λ (x : Bounds). IsGreatest middle.current x kernels) (sym at_b) greatest) parted t,
      subst (λ (x : Bounds). AreSteps model kernels x r.turns r.way) t.current r.steps,
    );
    to = turn_first address.depth address.number turn r.turns rest.depth rest.number reached.rest.depth reached.rest.number some is first r.to;
    ends = r.ends;
    end = subst (λ (x : Bounds). IsEndAt model kernels (end_of x r.way) new.current reached.end) t.current r.end;
  }

-- a whole way, from the start
pub record IsThere (model : FznModel) (kernels : List Kernel) (start : Bounds) (whole : Address) (turns : List Turn) (boxes : Trailed) (reached : Reached) : Type 0 where
  pub steps : AreSteps model kernels start turns boxes.stack
  pub to : AreTurnsTo whole.depth whole.number turns reached.rest.depth reached.rest.number
  pub end : IsEndAt model kernels (end_of start boxes.stack) boxes.current reached.end

-- so it is where a way was gone on from the end of another
pub there : (model : FznModel) (kernels : List Kernel) (start : Bounds) (whole rest : Address) (old new : Trailed) (before after : List Turn) (reached : Reached) →
    IsAt model kernels start before old → AreTurnsTo whole.depth whole.number before rest.depth rest.number → IsReached model kernels rest old new before after reached →
    IsThere model kernels start whole after new reached
there model kernels start whole rest old new before after reached at to r =
    let steps : AreSteps model kernels start (before ++ r.turns) (old.stack ++ r.way) =
    steps_append model kernels start before r.turns old.stack r.way at.steps (subst (λ (x : Bounds). AreSteps model kernels x r.turns r.way) at.current r.steps) in
    let end_is : end_of start new.stack ≡ end_of old.current r.way =
    ap (end_of start) r.is_way ∙ end_append model kernels start old.stack r.way ∙ ap (λ (x : Bounds). end_of x r.way) (sym at.current) in
    record {
      steps = subst (λ (ts : List Turn). AreSteps model kernels start ts new.stack) (sym r.are_turns) (subst (AreSteps model kernels start (before ++ r.turns)) (sym r.is_way) steps);
      to =
          subst (λ (ts : List Turn). AreTurnsTo whole.depth whole.number ts reached.rest.depth reached.rest.number) (sym r.are_turns)
          (turns_append whole.depth whole.number before r.turns rest.depth rest.number reached.rest.depth reached.rest.number to r.to);
      end = subst (λ (x : Bounds). IsEndAt model kernels x new.current reached.end) (sym end_is) r.end;
    }

-- what is popped of a stack that isn't empty
pub popped : (r : Option Part) (old new : List Left) (now : Bounds) → 0 < length old → IfNone r (old ≡ []) →
    IfSome r (λ p. old ≡ new ++ left_of now p.var p.low p.high ∷ []) → (left : Left) × (old ≡ new ++ left ∷ []) × (left.base ≡ now)
popped None old new now some none h = absurd (let e = ap (λ (ls : List Left). length ls) none in omega (arith, some, e))
popped (Some p) old new now some none h = (left_of now p.var p.low p.high, h, refl)

-- a box that isn't a part, above the depth of the parts
pub ends_above : (below : ℕ) (end : End) → (end ≡ End.Part → ⊥) → 0 < below → MayEndAt below end
ends_above below End.Part other h = absurd (other refl)
ends_above below End.Failed other h = h
ends_above below End.Fixed other h = h
ends_above below (End.Beaten cost) other h = h

module _ (model : FznModel) (kernels : List Kernel) (start : Bounds) (whole : Address) (walk : Walk) (boxes : Trailed) (reached : Reached)
    (t : IsThere model kernels start whole walk.turns.items boxes reached) (same : walk.end ≡ reached.end)
    (best : Option ℤ) (end_for : IsEndFor best reached.end) where
  -- the whole way stays known
  pub stands_there : StandsOn model kernels start walk boxes.stack
  stands_there = record {
    steps = t.steps;
    end = subst (IsEnd model kernels (end_of start boxes.stack)) (sym same) (end_kept model kernels (end_of start boxes.stack) boxes.current reached.end t.end);
  }

  -- so it does of the walk's own box
  pub way_there : length boxes.current ≡ length start → IsOnWay model kernels start walk boxes
  way_there l = record { way = boxes.stack; stands = stands_there; over = ([], sym (append-nil boxes.stack)); same_length = l }

  own_way : (own : Option TrailedBox) → MatchOption own ⊥ (λ b. b ≡ boxes) → length boxes.current ≡ length start → MatchOption own ⊥ (λ b. IsOnWay model kernels start walk b)
  own_way None h l = absurd h
  own_way (Some b) h l = subst (IsOnWay model kernels start walk) (sym h) (way_there l)

  -- the box at its end is the answer
  pub answer_there : (sub : Subproblem) → sub.boxes ≡ boxes → MayEndAt reached.rest.depth reached.end → IsLedTo reached.end reached.rest.number →
      IsMadeBy sub.changed kernels sub.boxes.current → (whole.depth ≢ 0 → sub.changed ≢ None) → IsAnswer model kernels start whole.depth whole.number best walk (Some sub)
  answer_there sub is ends led made told = record {
    path =
        subst (λ (e : End). IsPathAt model kernels whole.depth start whole.number e (Some sub.boxes.current)) (sym same)
        (led_path model kernels whole.depth whole.number reached.rest.number start reached.end (Some sub.boxes.current) led
        (leads_through model kernels whole.depth whole.number reached.rest.depth reached.rest.number start walk.turns.items boxes.stack (Some sub.boxes.current) t.steps t.to
        (end_leads model kernels reached.rest.depth reached.rest.number (end_of start boxes.stack) sub.boxes.current reached.end ends
        (subst (λ (x : Trailed). IsEndAt model kernels (end_of start boxes.stack) x.current reached.end) (sym is) t.end) led)));
    end_for = subst (IsEndFor best) (sym same) end_for;
    made = made;
    told = told;
    under = subst (λ (x : Trailed). StandsOn model kernels start walk x.stack) (sym is) stands_there;
    way = record { below = reached.rest.depth; rest = reached.rest.number; turns = t.to; ends = subst (MayEndAt reached.rest.depth) (sym same) ends };
  }

  -- or there is none
  pub answer_nowhere : length boxes.current ≡ length start → MatchOption walk.boxes ⊥ (λ own. own ≡ boxes) → MayEndAt reached.rest.depth reached.end →
      (IsLedTo reached.end reached.rest.number → ⊥) → IsAnswer model kernels start whole.depth whole.number best walk None
  answer_nowhere l is ends never = record {
    path =
        subst (λ (e : End). IsPathAt model kernels whole.depth start whole.number e None) (sym same)
        (path_through model kernels whole.depth whole.number reached.rest.depth reached.rest.number start walk.turns.items boxes.stack reached.end None t.steps t.to
        (end_nowhere model kernels reached.rest.depth reached.rest.number (end_of start boxes.stack) reached.end ends
        (end_kept model kernels (end_of start boxes.stack) boxes.current reached.end t.end) never));
    end_for = subst (IsEndFor best) (sym same) end_for;
    made = tt;
    told = λ some. tt;
    under = own_way walk.boxes is l;
    way = record { below = reached.rest.depth; rest = reached.rest.number; turns = t.to; ends = subst (MayEndAt reached.rest.depth) (sym same) ends };
  }

-- what is so of each result is so of one that there is
pub if_ok : {T E : Type 0} {P Q : T → Type 0} (r : Result T E) → ((x : T) → P x → Q x) → IfOk r P → IfOk r Q
if_ok (Ok x) f h = f x h
if_ok (Err e) f h = h

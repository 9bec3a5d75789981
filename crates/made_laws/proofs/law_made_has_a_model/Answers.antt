use Rattle.std.proofs.Common.{◌≤◌, ◌*◌, ℕ, length, refl, sym, subst}
use Rattle.std.specs.Prelude.{Some, flat_map}
use Rattle.std.specs.List.{range_with_len}
use Rattle.std.proofs.lemmas.List.FromFn.{length-map-range_with_len}
use Rattle.fzn_lexer.specs.Lexing.{tokens_from}
use Rattle.fzn_model.specs.Resolving.{model_with, IsModelWith}
use Rattle.fzn_model.specs.Effects.{Reading}
use Rattle.made_laws.specs.Models.{HasSolvedModel}
use Rattle.made_laws.proofs.Lines.{pieces_of, bytes_in, items_from, Stand}
use Rattle.made_laws.proofs.Cuts.{lines_lex, lines_stand}
use Rattle.made_laws.proofs.Readings.{lines_read}
use Rattle.made_laws.proofs.States.{reading, asked, variable_at}
use Rattle.made_laws.proofs.Orders.{order_is}
use Rattle.made_laws.proofs.Solved.{spaced_within, order_holds, all_hold}
use Rattle.made_laws.proofs.MadeTexts.{lines, lines_small, made_is, made_short, lines_mean, constraint_of, constraints, constraints_count}
use Rattle.made_model.specs.Made.{order}
use Rattle.made_laws.proofs.law_made_has_a_model.Goals as goal

last : ℕ → Reading
last n = reading (9 * n) n (constraints n) (4 * n) (Some (asked n))

lines_solved : (n : ℕ) → 2 ≤ n → n ≤ 2000 → length (flat_map bytes_in (lines n)) ≤ 67108864 → HasSolvedModel n (flat_map bytes_in (lines n))
unfolding last
lines_solved n two few short =
    let text = flat_map bytes_in (lines n) in
    let stand : Stand text 0 (lines n) = lines_stand (lines n) in
    let reads = lines_mean text n two few stand in
    record {
      short = short;
      tokens = tokens_from 0 (flat_map pieces_of (lines n));
      lexed = lines_lex (lines n) (lines_small n two few);
      items = items_from 0 (lines n);
      parsed = lines_read text 0 (lines n) stand;
      model = model_with (last n) (asked n);
      resolved = record {
        lawful = reads.lawful;
        is_model = subst (λ (r : Reading). IsModelWith r (model_with (last n) (asked n))) (sym reads.leaves) (record { asked = asked n; solved = refl; is_model = refl });
      };
      variables = length-map-range_with_len (variable_at (9 * n)) 0 n;
      kernels = constraints_count n;
      goal = refl;
      solved = record {
        within = spaced_within n;
        holds = all_hold _ (constraint_of n) (λ j. order_holds n (order n j).first (order n j).second (order n j).gap (order_is n j two)) (range_with_len 0 (4 * n));
      };
    }

pub returns : goal.returns
returns c =
    λ n two few. subst (λ text. HasSolvedModel n text) (sym (made_is n))
    (lines_solved n two few (subst (λ text. length text ≤ 67108864) (made_is n) (made_short n two few)))

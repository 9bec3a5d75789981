-- A text has one answer where no limit is set, whichever workers, lanes and parts search for it, and where the limits pin it.
use Rattle.std.proofs.Common.{◌≡◌, ℕ, List, sym, ap, subst, ◌∙◌}
use Rattle.constraint_model.specs.declared.model.FznModel.{FznModel}
use Rattle.constraint_model.specs.Searches.{IsSearchOf}
use Rattle.constraint_model.specs.WellFormed.{IsWellFormed}
use Rattle.command_line.specs.declared.words.Options.{Options}
use Rattle.fzn_print.specs.declared.answers.Answer.{Answer}
use Rattle.answer.specs.Finished.{IsFinished}
use Rattle.answer.specs.Answers.{IsAnswer}
use Rattle.answer.specs.Laws.{OneFinished, OneLimited, UnfinishedMarks}
use Rattle.fzn_print.specs.AnswerText.{answer_text}
use Rattle.made_model.specs.Made.{summary}
use Rattle.model_text.specs.Texts.{IsTextOf}
use Rattle.domain_text.specs.Domains.{IsDomainText, OneDomainText}
use Rattle.solver_top.specs.Answers.{search_options, AreDomainsOf, HasNoLimit, ArePinned, IsAnswerOf, IsAnswerWith, IsLineOf, known_objective, OneLimitedText, OneLimitedLine}
use Rattle.solver_top.proofs.KnownLaws.{known_is}

module _ (one : (text : List ℕ) (m n : FznModel) → IsTextOf text m → IsTextOf text n → m ≡ n) (finished : OneFinished)
    (searches : (text : List ℕ) (m : FznModel) → IsTextOf text m → IsSearchOf m) where
  -- the answers are one
  same_answer : (o p : Options) (text : List ℕ) (m n : FznModel) (a b : Answer) → HasNoLimit o → HasNoLimit p → o.all ≡ p.all → IsTextOf text m → n ≡ m → IsAnswerWith o m a → IsAnswerWith p n b → a ≡ b
  same_answer o p text m n a b none other all is same h g =
      let whole : IsFinished m p.all b = subst (λ k. IsFinished k p.all b) same (g.whole other.0 other.1) in
      let as_o : IsFinished m o.all b = subst (λ q. IsFinished m q b) (sym all) whole in
      finished m o.all a b (searches text m is) (h.whole none.0 none.1) as_o

  pub one_answer : (o p : Options) (text bytes others : List ℕ) → HasNoLimit o → HasNoLimit p → o.all ≡ p.all → IsAnswerOf o text bytes → IsAnswerOf p text others → bytes ≡ others
  one_answer o p text bytes others none other all h g =
      let same = one text g.model h.model g.is_model h.is_model in
      let answers = same_answer o p text h.model g.model h.answer g.answer none other all h.is_model same h.is_answer g.is_answer in
      h.printed ∙ ap (answer_text h.model) answers ∙ ap (λ m. answer_text m g.answer) (sym same) ∙ sym g.printed

  pub one_line : UnfinishedMarks → (o p : Options) (n : ℕ) (text bytes others : List ℕ) → HasNoLimit o → HasNoLimit p → o.all ≡ p.all → IsLineOf o n text bytes → IsLineOf p n text others → bytes ≡ others
  one_line marks o p n text bytes others none other all h g =
      let same = one text g.model h.model g.is_model h.is_model in
      let answers = same_answer o p text h.model g.model h.answer g.answer none other all h.is_model same h.is_answer g.is_answer in
      let objectives = known_is marks h.model o h.answer h.objective h.known ∙ ap (known_objective h.model.goal) answers ∙ ap (λ m. known_objective m.goal g.answer) (sym same)
      ∙ sym (known_is marks g.model p g.answer g.objective g.known) in
      h.printed ∙ ap (summary n) objectives ∙ sym g.printed

-- ---- under limits

module _ (one : (text : List ℕ) (m n : FznModel) → IsTextOf text m → IsTextOf text n → m ≡ n) (limited : OneLimited)
    (forms : (text : List ℕ) (m : FznModel) → IsTextOf text m → IsWellFormed m) where
  same_limited : (o p : Options) (text : List ℕ) (m n k : FznModel) (a b : Answer) → IsTextOf text m → ArePinned m o p → n ≡ m → k ≡ m → IsAnswerWith o n a → IsAnswerWith p k b → a ≡ b
  same_limited o p text m n k a b is pinned own its h g =
      limited m (search_options o) (search_options p) a b (forms text m is) pinned.alike pinned.first pinned.second
      (subst (λ x. IsAnswer x (search_options o) a) own h.is_answer) (subst (λ x. IsAnswer x (search_options p) b) its g.is_answer)

  pub one_limited : OneLimitedText
  one_limited m o p text bytes others is pinned h g =
      let own = one text h.model m h.is_model is in
      let its = one text g.model m g.is_model is in
      let answers = same_limited o p text m h.model g.model h.answer g.answer is pinned own its h.is_answer g.is_answer in
      h.printed ∙ ap (λ x. answer_text x h.answer) own ∙ ap (answer_text m) answers ∙ sym (ap (λ x. answer_text x g.answer) its) ∙ sym g.printed

  pub one_limited_line : UnfinishedMarks → OneLimitedLine
  one_limited_line marks m o p n text bytes others is pinned h g =
      let own = one text h.model m h.is_model is in
      let its = one text g.model m g.is_model is in
      let answers = same_limited o p text m h.model g.model h.answer g.answer is pinned own its h.is_answer g.is_answer in
      let objectives = known_is marks h.model o h.answer h.objective h.known ∙ ap (λ x. known_objective x.goal h.answer) own ∙ ap (known_objective m.goal) answers
      ∙ sym (ap (λ x. known_objective x.goal g.answer) its) ∙ sym (known_is marks g.model p g.answer g.objective g.known) in
      h.printed ∙ ap (summary n) objectives ∙ sym g.printed

-- the domains are one text
pub one_domains : (one : (text : List ℕ) (m n : FznModel) → IsTextOf text m → IsTextOf text n → m ≡ n) → OneDomainText
    → (text bytes others : List ℕ) → AreDomainsOf text bytes → AreDomainsOf text others → bytes ≡ others
one_domains one only text bytes others h g =
    let same = one text g.model h.model g.is_model h.is_model in
    only h.model bytes others h.printed (subst (λ m. IsDomainText m others) same g.printed)

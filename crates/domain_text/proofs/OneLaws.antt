-- The domains that are left are one mix, and where there is one some are left.
use Rattle.std.proofs.Common.{◌≡◌, inl, inr, sym, ap, ◌∙◌}
use Rattle.bit_domain.specs.Mixes.{Mix}
use Rattle.constraint_model.specs.declared.model.FznModel.{FznModel}
use Rattle.domain_drops.specs.Closed.{InsideMixOrder}
use Rattle.domain_laws.specs.Left.{AreLeft}
use Rattle.domain_text.specs.Domains.{OneDomainText, domain_text}

one_mix : InsideMixOrder → (model : FznModel) (m n : Mix) → AreLeft model m → AreLeft model n → m ≡ n
one_mix order model m n h g = order.equal m n (g.greatest m h.closed h.inside) (h.greatest n g.closed g.inside)

pub one_text : InsideMixOrder → OneDomainText
one_text order model bytes others (inl (m, h, _, is)) (inl (n, g, _, written)) = is ∙ ap (domain_text model) (one_mix order model m n h g) ∙ sym written
one_text order model bytes others (inl (m, h, _, is)) (inr (none, _, written)) = absurd (none m h.closed h.inside)
one_text order model bytes others (inr (none, _, is)) (inl (n, g, _, written)) = absurd (none n g.closed g.inside)
one_text order model bytes others (inr (none, _, is)) (inr (also, _, written)) = is ∙ sym written

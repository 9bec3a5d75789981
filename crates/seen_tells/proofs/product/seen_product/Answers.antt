-- What is seen of a product is seen of its kernel.
use Rattle.seen_tells.proofs.FewLaws.{few_seen}
use Rattle.seen_tells.proofs.NaturalLaws.{product_places, all_kept, few_of_kernel}
use Rattle.seen_tells.proofs.product.seen_product.Goals as goal

pub is_natural_product-requires-clause-x : goal.is_natural_product-requires-clause-x
is_natural_product-requires-clause-x c = (product_places c.args.k.now c.args.b.now c.args.x c.args.y c.args.z c.requires.kernel c.requires.proper c.requires.shape).first

pub is_natural_product-requires-clause-y : goal.is_natural_product-requires-clause-y
is_natural_product-requires-clause-y c = (product_places c.args.k.now c.args.b.now c.args.x c.args.y c.args.z c.requires.kernel c.requires.proper c.requires.shape).second

pub is_natural_product-requires-clause-z : goal.is_natural_product-requires-clause-z
is_natural_product-requires-clause-z c = (product_places c.args.k.now c.args.b.now c.args.x c.args.y c.args.z c.requires.kernel c.requires.proper c.requires.shape).product

pub is_natural_product-requires-clause-x_proper : goal.is_natural_product-requires-clause-x_proper
is_natural_product-requires-clause-x_proper c = (product_places c.args.k.now c.args.b.now c.args.x c.args.y c.args.z c.requires.kernel c.requires.proper c.requires.shape).first_proper

pub is_natural_product-requires-clause-y_proper : goal.is_natural_product-requires-clause-y_proper
is_natural_product-requires-clause-y_proper c = (product_places c.args.k.now c.args.b.now c.args.x c.args.y c.args.z c.requires.kernel c.requires.proper c.requires.shape).second_proper

pub is_natural_product-requires-clause-z_proper : goal.is_natural_product-requires-clause-z_proper
is_natural_product-requires-clause-z_proper c = (product_places c.args.k.now c.args.b.now c.args.x c.args.y c.args.z c.requires.kernel c.requires.proper c.requires.shape).product_proper

pub is_product_kept-requires-clause-z : goal.is_product_kept-requires-clause-z
is_product_kept-requires-clause-z c = (product_places c.args.k.now c.args.b.now c.args.x c.args.y c.args.z c.requires.kernel c.requires.proper c.requires.shape).product

pub is_factor_kept-requires-clause-z : goal.is_factor_kept-requires-clause-z
is_factor_kept-requires-clause-z c = (product_places c.args.k.now c.args.b.now c.args.x c.args.y c.args.z c.requires.kernel c.requires.proper c.requires.shape).product

pub is_factor_kept-requires-then-is_factor_kept-clause-z : goal.is_factor_kept-requires-then-is_factor_kept-clause-z
is_factor_kept-requires-then-is_factor_kept-clause-z c = (product_places c.args.k.now c.args.b.now c.args.x c.args.y c.args.z c.requires.kernel c.requires.proper c.requires.shape).product

pub few_tells-requires-clause-z : goal.few_tells-requires-clause-z
few_tells-requires-clause-z c = (product_places c.args.k.now c.args.b.now c.args.x c.args.y c.args.z c.requires.kernel c.requires.proper c.requires.shape).product

pub returns-then-is_factor_kept-2 : goal.returns-then-is_factor_kept-2
returns-then-is_factor_kept-2 c = record {
  kept = all_kept c.args.k.now c.args.b.now c.args.x c.args.y c.args.z c.requires.shape c.if-is_product_kept.ensures c.if-is_factor_kept.ensures c.if-is_factor_kept-2.ensures;
  rest = tt;
}

pub returns-else-is_product_kept : goal.returns-else-is_product_kept
returns-else-is_product_kept c =
    few_seen c.args.k.now c.args.b.now _ (few_of_kernel c.args.k.now c.args.b.now c.args.x c.args.y c.args.z c.few_tells.result c.requires.shape c.few_tells.ensures)

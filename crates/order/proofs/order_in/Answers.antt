-- `order::order_in` meets its contract: each part is what its reader says. Assumes nothing.
use Rattle.order.specs.Layout.{order_in}
use Rattle.order.proofs.order_in.Goals as goal

pub returns : goal.returns
unfolding order_in
returns c =
    let p = c in
    let l = p in
    rw (
      l.limit_by.ensures,
      p.limit_by-2.ensures,
      p.pair_at.ensures,
      c.pair_at-2.ensures,
      c.pair_at-3.ensures,
      c.pair_at-4.ensures,
      c.pair_at-5.ensures,
      l.le16-list.ensures.is,
      c.le32.ensures.is,
    )

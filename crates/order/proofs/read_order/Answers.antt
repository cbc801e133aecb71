-- `order::read_order` meets its contract: the test picks the answer. Assumes nothing.
use mathlib.Core.Path.{sym, ◌∙◌}
use Rattle.order.proofs.OrderLaws.{good_order_lem, order_bad, order_good}
use Rattle.order.proofs.read_order.Goals as goal

pub returns-then-not-good_order : goal.returns-then-not-good_order
returns-then-not-good_order c = sym (order_bad _ (sym c.good_order.ensures ∙ c.if-not-good_order.true))

pub order_in-requires : goal.order_in-requires
order_in-requires c = ((good_order_lem _).0 (sym c.good_order.ensures ∙ c.if-not-good_order.false)).least

pub returns : goal.returns
returns c = rw c.order_in.ensures (sym (order_good _ (sym c.good_order.ensures ∙ c.if-not-good_order.false)))

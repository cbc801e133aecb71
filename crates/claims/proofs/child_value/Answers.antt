-- `child_value` goes by the rule of the parent; of the root's children `interrupt-controller` is asked first. Assumes nothing.
use Rattle.claims.specs.Values.{child_value}
use Rattle.claims.proofs.ClaimLaws.{controller, no_controller}
use Rattle.claims.proofs.child_value.Goals as goal

pub returns-in-Reserve : goal.returns-in-Reserve
returns-in-Reserve c = rw c.in-Reserve.is c.reserved_value.ensures

pub returns-in-Soc : goal.returns-in-Soc
unfolding child_value
returns-in-Soc c = rw c.in-Soc.is c.getprop.ensures

pub returns-in-Some : goal.returns-in-Some
returns-in-Some c =
    controller _ _ _ _ c.getprop-in-Controllers.ensures _ c.in-Controllers.is _ _ _ c.in-Some.is _ c.getprop-in-Controllers-2.ensures

pub returns-in_default : goal.returns-in_default
returns-in_default c = no_controller _ _ _ _ c.getprop-in-Controllers.ensures _ c.in-Controllers.is _ _ c.in_default.is

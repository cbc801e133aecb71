use Rattle.startup.specs.Sources.{pair_claims}
use Rattle.startup.proofs.pair_claims.Goals as goal

pub returns : goal.returns
unfolding pair_claims
returns c = rw (c.pair_claim.ensures, c.pair_claim-2.ensures, c.pair_claim-3.ensures, c.pair_claim-4.ensures, c.pair_claim-5.ensures)

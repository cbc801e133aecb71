-- `wharfthrum_claim_late` makes the late claim on the map that it loads, and stores the map that the claim leaves. Assumes nothing.
use Rattle.service.proofs.Leaving.{left_in_answer, left_in_slots, left_in_memory}
use Rattle.service.proofs.wharfthrum_claim_late.Goals as goal

pub claim_late_in-answer-requires : goal.claim_late_in-answer-requires
claim_late_in-answer-requires c = rw c.load-loaded.ensures c.requires

pub returns : goal.returns
returns c =
    let loaded = c.load-loaded.ensures in
    let d = c.claim_late_in-answer in
    record {
      value = left_in_answer 4096 _ _ _ _ loaded d.new.map d.new.slots d.result d.ensures c.number.ensures c.unwrap_or.ensures;
      slots_after = left_in_slots 4096 _ _ _ _ loaded d.new.map d.new.slots d.result d.ensures;
      map_after = left_in_memory 4096 _ _ _ _ loaded d.new.map d.new.slots d.result d.ensures c.store.ensures;
    }

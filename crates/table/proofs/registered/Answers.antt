-- `registered` makes its map by our calls only, so it is a made map.
use Rattle.page.proofs.Laws.{page}
use Rattle.memory.proofs.MapLaws.{blank_made}
use Rattle.bootloader.proofs.ListLaws.{listed_made}
use Rattle.table.proofs.registered.Goals as goal

pub register_bootloader_areas-requires : goal.register_bootloader_areas-requires
register_bootloader_areas-requires c = rw c.empty.ensures (blank_made 4096)

pub returns : goal.returns
returns c =
    rw (c.register_bootloader_areas.ensures, c.empty.ensures) (listed_made 4096 _ _ page (blank_made 4096))

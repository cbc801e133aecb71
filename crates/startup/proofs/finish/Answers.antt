-- `finish` builds the areas, and counts the pages of the map and of the finished table.
use Rattle.numbers.proofs.Passed.{passed}
use Rattle.page.proofs.Laws.{page}
use Rattle.startup.proofs.ReportLaws.{finish_full, finish_done}
use Rattle.startup.proofs.finish.Goals as goal

pub returns-in_err-count : goal.returns-in_err-count
returns-in_err-count c =
    rw (passed c.from_residual.result c.from_residual.ensures.1)
    (finish_full 4096 _ _ _ _ _ _ c.build.ensures _ c.in_err-count.was)

pub returns : goal.returns
returns c =
    finish_done 4096 _ _ _ _ _ _ c.build.ensures page c.requires _ c.in_ok-count.was _ _ _ c.free_pages-free.ensures c.usable_pages-usable.ensures c.page_sheet.ensures

use Rattle.std.proofs.Common.{rules, ◌+◌, ◌-◌, ◌++◌, arith, length, take, sym, ap, ◌∙◌, subst, le_refl}
use Rattle.std.proofs.lemmas.Slice.{take-put_mid_below}
use Rattle.std.specs.Io.KnownBytes.{Consumes}
use Rattle.std.proofs.KnownBytes.{Consumes-trans}
use borrow.Rule.Slice.PartMut.{put_mid}
use Rattle.standard.proofs.Filling.{take_split, slice_range_put_mid}
use Rattle.standard.proofs.read_all.Goals as goal

pub loop-have-preserved : goal.loop-have-preserved
loop-have-preserved g c =
    let from = c.loop-have.have in
    let room = length c.loop-have.space - from in
    let within = c.loop-have.invariant.0 in
    let part = slice_range_put_mid from room c.in_ok-more.more c.loop-have.space c.read_some.new.space within c.in_ok-more.ensures.held.0 in
    let joined = take_split from (from + c.in_ok-more.more) c.loop-have.space (put_mid from room c.loop-have.space c.read_some.new.space) (omega arith) (take-put_mid_below _ _ _ _ _ (le_refl _) within) in
    (search rules, search rules, subst (Consumes _ _) (ap (λ l. take from c.loop-have.space ++ l) (sym part) ∙ joined) (Consumes-trans _ _ _ _ _ c.loop-have.invariant.2 c.in_ok-more.ensures.bytes.0))

use mathlib.Core.Path.{◌≡◌, sym, ◌∙◌}
use Prim.Native.Nat.{◌-◌}
use native.Mathlib.Omega.{arith}
use Rattle.memory.specs.Map.{Pass, begin, at, put, slots_of}
use Rattle.memory.proofs.PassLaws.{pass_absorbs, pass_passes}
use Rattle.memory.proofs.MapLaws.{inserted_full, inserted_room}
use Rattle.memory.proofs.MemoryMap.insert.Goals as goal

pub loop-index-init : goal.loop-index-init
unfolding begin
loop-index-init c =
    let e : c.args.self.now.size - 0 ≡ c.args.self.now.size = omega arith in
    (omega arith, omega (arith, c.requires), rw e)

pub loop-index-preserved-in-Some : goal.loop-index-preserved-in-Some
unfolding at put
loop-index-preserved-in-Some c =
    let l = c.loop-index in
    let s : Pass = record { new = l.new; slots = slots_of l.self; index = l.index } in
    let t = sym c.in-Some.is ∙ c.absorbed.ensures in
    (omega arith, omega arith, sym (pass_absorbs l.self.size s _ (omega arith) t) ∙ l.invariant.2)

pub loop-index-preserved : goal.loop-index-preserved
unfolding at
loop-index-preserved c =
    let l = c.loop-index in
    let s : Pass = record { new = l.new; slots = slots_of l.self; index = l.index } in
    let t = sym c.in-None.is ∙ c.absorbed.ensures in
    (omega arith, omega arith, sym (pass_passes l.self.size s (omega arith) t) ∙ l.invariant.2)

pub returns-then-self-ge512 : goal.returns-then-self-ge512
unfolding put
returns-then-self-ge512 c =
    let l = c.loop-index in
    let s : Pass = record { new = l.new; slots = slots_of l.self; index = l.index } in
    inserted_full _ _ s l.self.size (omega arith) l.invariant.2 c.requires (omega arith)

pub returns : goal.returns
unfolding put
returns c =
    let l = c.loop-index in
    let s : Pass = record { new = l.new; slots = slots_of l.self; index = l.index } in
    inserted_room _ _ s l.self.size (omega arith) l.invariant.2 (omega arith)

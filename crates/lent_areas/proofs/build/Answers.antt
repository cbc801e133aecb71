use Rattle.std.proofs.Common.{◌≡◌, ℕ, sym, ap, ◌∙◌, arith}
use lib.ListN.{length, replicate, length-replicate}
use Rattle.lent_areas.proofs.RowLaws.{laid, few_areas, never_refused, most, refuses, finishes}
use Rattle.lent_areas.proofs.build.Goals.{then-row-n, else-row-n}
use Rattle.lent_areas.proofs.build.Goals as goal

-- the table
full : length (replicate {A = ℕ} 1024 0) ≡ 1024
full = length-replicate {A = ℕ} 1024 0

pub returns-in_err-n : goal.returns-in_err-n
returns-in_err-n c = absurd (never_refused _ (few_areas c.requires _ _) _ full (sym c.in_err-n.was ∙ c.build.ensures.answer))

pub area_of-requires : goal.area_of-requires
area_of-requires c =
    let top = most _ (few_areas c.requires _ _) _ full (sym c.in_ok-n.was ∙ c.build.ensures.answer) in
    elim c.if-row-n.branch [
      | then-row-n w ↦ let end = rw w.answer-is at c.unwrap_or-i-end.ensures in omega (arith, top, end)
      | else-row-n w ↦ let end = rw w.answer-is at c.unwrap_or-i-end.ensures in omega (arith, top, end)
    ]

pub returns : goal.returns
returns c =
    elim c.if-row-n.branch [
      | then-row-n w ↦
          let end = rw w.answer-is at c.unwrap_or-i-end.ensures in
          let last : c.loop-i.i ≡ 0 = omega (arith, end) in
          let r = refuses _ (few_areas c.requires _ _) _ full (sym c.in_ok-n.was ∙ c.build.ensures.answer) c.args.row.now w.if-row-n.true in
          record { answer = w.answer-is ∙ r.0; areas = c.loop-i.invariant ∙ ap (laid c.args.row.now c.build.new.slots) last ∙ r.1 }
      | else-row-n w ↦
          let end = rw w.answer-is at c.unwrap_or-i-end.ensures in
          let last : c.loop-i.i ≡ c.in_ok-n.n = omega (arith, end) in
          let r = finishes _ (few_areas c.requires _ _) _ full (sym c.in_ok-n.was ∙ c.build.ensures.answer) c.args.row.now w.if-row-n.false c.build.ensures.table in
          record { answer = w.answer-is ∙ r.0; areas = c.loop-i.invariant ∙ ap (laid c.args.row.now c.build.new.slots) last ∙ r.1 }
    ]

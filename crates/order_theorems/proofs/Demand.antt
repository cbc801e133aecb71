-- Demand 3 over an order file: of all its sources together, whatever the lent slots. Assumes nothing.
use Rattle.std.specs.Prelude.{Option, ℕ, Ok}
use mathlib.Core.Path.{◌≡◌, sym, ◌∙◌, ap, ap₂}
use mathlib.Core.List.{List}
use mathlib.Core.Logic.{◌↔◌, ⊎_elim}
use Prim.Native.Nat.{ℕ, ◌*◌, ◌^◌, ◌≤◌}
use native.Mathlib.Nat.{le-mul_of_pos_right}
use lib.ListN.{length}
use borrow.Author.Tests.{le-leb}
use Rattle.page.specs.Round.{Page}
use Rattle.entry.specs.declared.MemoryEntry.{MemoryEntry}
use Rattle.entry.specs.declared.Claim.{Claim}
use Rattle.memory.specs.declared.MemoryMap.{MemoryMap}
use Rattle.listing.specs.Listing.{held}
use Rattle.areas.specs.declared.Interval.{Interval}
use Rattle.areas.specs.Interval.{Listed}
use Rattle.areas.specs.Areas.{free_of}
use Rattle.areas.specs.Shape.{Shape}
use Rattle.areas.specs.Table.{slots_in, answer_of, table_of, Builds}
use Rattle.areas.proofs.Lists.{le_or_lt}
use Rattle.demand3.specs.Rule.{Accepted, map_after, areas_after, Rule, SameClaims, SameLimits}
use Rattle.demand3.specs.Slots.{number_slot, SlotsRight}
use Rattle.demand3.proofs.Demand.{address_rule, areas_shape, any_order}
use Rattle.demand3.proofs.Slots.{build_slots}
use Rattle.sheet.specs.declared.PageSheet.{PageSheet}
use Rattle.sheet.specs.Sheet.{free_in, free_pages, usable_in, sheet_of, map_sheet}
use Rattle.page_count.specs.Pages.{free_at}
use Rattle.page_count.proofs.Reading.{same}
use Rattle.page_count.proofs.Counting.{count_same}
use Rattle.page_count.proofs.Claims.{FreeThere, free_at_reads}
use Rattle.page_count.proofs.PageCount.{free_counted}
use Rattle.order.specs.Layout.{order_in}
use Rattle.startup.specs.declared.Refusal.TheVariants.{TooManyAreas}
use Rattle.startup.specs.Report.{report_of, slots_after, reported}
use Rattle.order_theorems.specs.Rows.{file_claims, file_areas}
use Rattle.order_theorems.proofs.Rows.{done_exactly, done_writes, done_accepted}

-- ── The same registrations, in two orders ──
flip : {cs ds : List Claim} → SameClaims cs ds → SameClaims ds cs
flip e c = ((e c).1, (e c).0)

module _ (p : ℕ) (low high : Option ℕ) (g : Page p) where
  there : {cs ds : List Claim} (x : ℕ) → SameClaims cs ds → FreeThere p low high cs x → FreeThere p low high ds x
  there x e f =
      record {
        from = f.from;
        to = f.to;
        free = record { claim = f.free.claim; among = (e f.free.claim).0 f.free.among; is = f.free.is };
      }

  -- a page is Free by the one exactly when it is by the other
  free_alike : (cs ds : List Claim) → SameClaims cs ds → (i : ℕ) → free_at p low high cs i ≡ free_at p low high ds i
  free_alike cs ds e i =
      same (free_at p low high cs i) (free_at p low high ds i) (free_at_reads p low high cs i) (free_at_reads p low high ds i)
      (there (i * p) e, there (i * p) (flip e))

  -- so many pages reach past every address
  all_pages : 2 ^ 64 ≤ 2 ^ 64 * p
  all_pages = le-mul_of_pos_right (2 ^ 64) g.pos

  pages_alike : (cs ds : List Claim) → Accepted p cs → Accepted p ds → SameClaims cs ds
      → free_pages p low high (map_after p cs) ≡ free_pages p low high (map_after p ds)
  pages_alike cs ds a b e =
      free_counted p low high cs g a (2 ^ 64) all_pages
      ∙ count_same (2 ^ 64) (free_at p low high cs) (free_at p low high ds) (free_alike cs ds e)
      ∙ sym (free_counted p low high ds g b (2 ^ 64) all_pages)

-- the limits count only as they are rounded
pages_limits : (p : ℕ) (low high low' high' : Option ℕ) (m : MemoryMap) → SameLimits p low high low' high'
    → free_pages p low high m ≡ free_pages p low' high' m
unfolding free_pages
pages_limits p low high low' high' m e = ap (λ (limits : MemoryEntry). free_in p limits (free_of (held m))) e

sheets_alike : (p : ℕ) (low high low' high' : Option ℕ) (cs ds : List Claim) → Page p → Accepted p cs → Accepted p ds
    → SameLimits p low high low' high' → SameClaims cs ds
    → map_sheet p low high (map_after p cs) ≡ map_sheet p low' high' (map_after p ds)
unfolding map_sheet
sheets_alike p low high low' high' cs ds g a b limits e =
    ap₂ sheet_of (pages_alike p low high g cs ds a b e ∙ pages_limits p low high low' high' (map_after p ds) limits)
    (ap (usable_in p) (any_order p low high low' high' cs ds g a b limits e))

-- ── An order file ──
module _ (p : ℕ) (g : Page p) (s l : List ℕ) (n : ℕ) (sheet : PageSheet) (done : report_of p s l ≡ reported n sheet) where
  accepted : Accepted p (file_claims s)
  accepted = done_accepted p s l n sheet done

  -- the areas fit, since 3 is not given
  room : length (file_areas p s) ≤ slots_in l
  room =
      let d = (done_exactly p s l g n sheet).0 done in
      ⊎_elim (λ h. h) (λ h. absurd (d.0 TooManyAreas h)) (le_or_lt (length (file_areas p s)) (slots_in l))

  -- so the slots are their table
  table : slots_after p s l ≡ table_of (file_areas p s) l
  unfolding table_of
  table = let d = (done_exactly p s l g n sheet).0 done in done_writes p s l n sheet done ∙ rw (le-leb _ _ room, d.1)

  pub built : Builds p (map_after p (file_claims s)) (order_in s).low (order_in s).high l (slots_after p s l) (Ok n)
  unfolding answer_of
  built = let d = (done_exactly p s l g n sheet).0 done in record { answer = rw (le-leb _ _ room) (ap Ok d.1); table = table }

  -- demand 3: "An address lies in a listed area exactly when it is inside the limits .., some single Free registration .. and .. no .. other"
  pub file_address_rule : (x : ℕ) → Listed x (file_areas p s) ↔ Rule p (order_in s).low (order_in s).high (file_claims s) x
  file_address_rule = address_rule p (order_in s).low (order_in s).high (file_claims s) g accepted

  -- demand 3: "Areas ascend, are nonempty whole pages, and never touch."
  pub file_shape : Shape p (file_areas p s)
  file_shape = areas_shape p (order_in s).low (order_in s).high (file_claims s) g

  -- the same on the slots that the caller lent: the address rule of the numbers in the first n, which are nonempty whole pages, do not wrap,
  -- ascend and never touch
  pub file_slots : SlotsRight p (order_in s).low (order_in s).high (file_claims s) (number_slot (slots_after p s l)) n
  file_slots = build_slots p (order_in s).low (order_in s).high (file_claims s) g accepted built

  -- demand 3: "Deal the registrations of all sources together in any order .. If no call is refused, the finished areas are the same bytes"
  pub file_any_order : (low high : Option ℕ) (ds : List Claim) → SameLimits p (order_in s).low (order_in s).high low high → SameClaims (file_claims s) ds
      → Accepted p ds → slots_after p s l ≡ table_of (areas_after p low high ds) l
  file_any_order low high ds limits e a =
      table
      ∙ ap (λ (areas : List Interval). table_of areas l)
      (any_order p (order_in s).low (order_in s).high low high (file_claims s) ds g accepted a limits e)

-- demand 3, "the same bytes each time": also of two files whose sources deal them otherwise, and with them count and page sheet. The limits
-- are the same where they round to the same
pub files_alike : (p : ℕ) → Page p → (s t l : List ℕ) (n k : ℕ) (ss st : PageSheet) → report_of p s l ≡ reported n ss → report_of p t l ≡ reported k st
    → SameLimits p (order_in s).low (order_in s).high (order_in t).low (order_in t).high → SameClaims (file_claims s) (file_claims t)
    → (slots_after p s l ≡ slots_after p t l) × (report_of p s l ≡ report_of p t l)
files_alike p g s t l n k ss st x y limits e =
    let a = (done_exactly p s l g n ss).0 x in
    let b = (done_exactly p t l g k st).0 y in
    let fa = done_accepted p s l n ss x in
    let fb = done_accepted p t l k st y in
    let areas : file_areas p s ≡ file_areas p t =
    any_order p (order_in s).low (order_in s).high (order_in t).low (order_in t).high (file_claims s) (file_claims t) g fa fb limits e in
    let sheets : ss ≡ st =
    a.2
    ∙ sheets_alike p (order_in s).low (order_in s).high (order_in t).low (order_in t).high (file_claims s) (file_claims t) g fa fb limits e
    ∙ sym b.2 in
    let counts : n ≡ k = a.1 ∙ ap length areas ∙ sym b.1 in (
      table p g s l n ss x ∙ ap (λ (is : List Interval). table_of is l) areas ∙ sym (table p g t l k st y),
      x ∙ ap₂ reported counts sheets ∙ sym y,
    )

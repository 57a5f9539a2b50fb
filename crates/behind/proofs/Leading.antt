-- The best of all uses of a block, one after another.
use Prim.Native.Nat.{ℕ, suc, ◌+◌, ◌-◌, ◌≤◌, ◌<◌}
use native.Mathlib.Omega.{arith}
use mathlib.Core.Path.{◌≡◌, refl, sym, ◌∙◌, ap, ap₂}
use mathlib.Core.List.{List, map}
use Rattle.std.specs.Prelude.{Option, None}
use Rattle.model.specs.Blocks.{Use, Block, block_at, own_of, total, blocks_of}
use Rattle.model.specs.Behind.{Origin, step_into, uses_traced, traced, opening_row, origins, Behind, Missing, winner, best}
use Rattle.shows.specs.Copies.{Copy, number, copy_of}
use Rattle.shows.specs.Origins.{into}
use Rattle.shows.proofs.Choosing.{winner-none, winner-assoc, best-append, best-into}
use Rattle.shows.proofs.Origins.{uses-next}
use Rattle.verdicts.specs.Index.{use_at, uses_from}
use Rattle.blocks.specs.Loaded.{Loaded, UseRows}
use Rattle.blocks.proofs.Loaded.{uses_from-next}
use Rattle.copies.specs.Copies.{inner_base}
use Rattle.copies.proofs.Bases.{inner_base-begin, inner_base-on}
use Rattle.behind.specs.declared.Pair.{Pair}
use Rattle.behind.specs.declared.Lead.{Lead}
use Rattle.behind.specs.Leads.{step_of, UsesRow, part_best, parts_best, led_to, Tried, LeadsTo, BestLead}

pub uses-row : {xs t : List ℕ} {k first end : ℕ} → UseRows xs t k first end → (r : ℕ) → first ≤ r → r < end → UsesRow xs t k r
uses-row {first = first} {end = end} rows r x y = record { first = first; end = end; rows = rows; low = x; high = y }

module _ {xs t : List ℕ} (g : Loaded xs t) (c : Pair) {first end : ℕ} (rows : UseRows xs t c.block first end) where
  abbrev bs : List Block
  bs = blocks_of xs

  -- One part, and the others.
  parts_next : (base : ℕ) (met : List ℕ) (r : ℕ) → first ≤ r → r < end
      → parts_best xs t c base met r end ≡ winner (into (step_of t c.block r) (part_best xs t c base met r)) (parts_best xs t c base met (r + 1) end)
  parts_next base met r x y =
      let z : Copy = copy_of bs c.block base met in
      let s : ℕ = number z c.from in
      let v : ℕ = number z c.to in
      let p : ℕ = step_of t c.block r in
      let b : ℕ = inner_base xs t c.block base r in
      let u : Use = use_at xs bs r in
      let us : List Use = uses_from xs bs (r + 1) (end - (r + 1)) in
      let part : List Origin = origins s v (traced (opening_row xs) bs u.block b (map (number z) u.at)) in
      let n : suc p ≡ step_of t c.block (r + 1) = omega (arith, rows.begin) in
      let rest : List Origin = origins s v (uses_traced (total bs) (traced (opening_row xs) bs) (number z) (suc p) (b + total bs u.block) us) in
      ap (λ (us : List Use). best (origins s v (uses_traced (total bs) (traced (opening_row xs) bs) (number z) p b us))) (uses_from-next xs bs r end y)
      ∙ ap best (uses-next s v (total bs) (traced (opening_row xs) bs) (number z) p b u us)
      ∙ best-append (map (step_into p) part) rest
      ∙ ap₂ winner (best-into p part)
      (ap₂ (λ (q d : ℕ). best (origins s v (uses_traced (total bs) (traced (opening_row xs) bs) (number z) q d us))) n
      (inner_base-on g c.block base rows r x y))

  pub lead-begin : LeadsTo xs t c first end first None
  unfolding led_to winner
  lead-begin = record { lead = tt; best = λ base met s. refl }

  pub lead-on : (r : ℕ) (old new : Option Lead) → LeadsTo xs t c first end r old → first ≤ r → r < end → Tried xs t c r old new → LeadsTo xs t c first end (r + 1) new
  lead-on r old new l x y tried =
      record {
        lead = tried.lead;
        best = λ base met s.
            let rest : Behind = parts_best xs t c base met (r + 1) end in
            let here : Behind = into (step_of t c.block r) (part_best xs t c base met r) in
            l.best base met s
            ∙ ap (winner (led_to xs t c base met old)) (parts_next base met r x y)
            ∙ sym (winner-assoc (led_to xs t c base met old) here rest)
            ∙ ap (λ (a : Behind). winner a rest) (tried.won base met s);
      }

  pub lead-done : (r : ℕ) (b : Option Lead) → LeadsTo xs t c first end r b → end ≤ r → BestLead xs t c b
  unfolding uses_traced uses_from origins best
  lead-done r b l h =
      record {
        end = r;
        lead = l.lead;
        best = λ base met s. whole base met ∙ l.best base met s ∙ ap (winner (led_to xs t c base met b)) (none base met) ∙ winner-none (led_to xs t c base met b);
      }
    where
      none : (base : ℕ) (met : List ℕ) → parts_best xs t c base met r end ≡ Missing
      none base met = let z : end - r ≡ 0 = omega arith in rw z refl

      whole : (base : ℕ) (met : List ℕ)
          → best (origins (number (copy_of bs c.block base met) c.from) (number (copy_of bs c.block base met) c.to)
          (uses_traced (total bs) (traced (opening_row xs) bs) (number (copy_of bs c.block base met)) 1 (base + own_of bs c.block) (block_at bs c.block).uses))
          ≡ parts_best xs t c base met first end
      whole base met =
          let z : Copy = copy_of bs c.block base met in
          let p : 1 ≡ step_of t c.block first = omega (arith, rows.begin) in
          ap (λ (us : List Use). best (origins (number z c.from) (number z c.to) (uses_traced (total bs) (traced (opening_row xs) bs) (number z) 1 (base + own_of bs c.block) us))) rows.uses
          ∙ ap₂ (λ (q b : ℕ). best (origins (number z c.from) (number z c.to) (uses_traced (total bs) (traced (opening_row xs) bs) (number z) q b (uses_from xs bs first (end - first))))) p
          (inner_base-begin g c.block base rows (own_of bs c.block) refl)

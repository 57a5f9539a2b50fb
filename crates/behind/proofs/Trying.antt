-- A use of a block as a lead: it leads to the best link of the part that it makes, and of two leads the better one leads to the winner.
use Prim.Native.Nat.{ℕ, suc, ◌+◌, ◌≤◌, ◌<◌}
use native.Mathlib.Omega.{arith}
use native.Mathlib.Decide.{ℕ_discrete}
use mathlib.Core.Path.{◌≡◌, refl, sym, ◌∙◌, ap, ap₂}
use mathlib.Core.Logic.{◌≢◌, inl, inr}
use mathlib.Core.Bool.{Bool, true, false, false≢true}
use mathlib.Core.List.{List}
use Rattle.std.specs.Prelude.{Option, None, Some}
use lib.ListN.{length, get_or}
use Rattle.model.specs.Blocks.{Block, joins_of, own_of, blocks_of}
use Rattle.model.specs.Behind.{Origin, opening_row, depth_wins, Behind, Stands, Missing, winner, best}
use Rattle.basics.proofs.Choices.{eq_then, eq_else}
use Rattle.basics.proofs.Members.{mem_at}
use Rattle.shows.specs.Copies.{Part, Copy, meets, copy_of, Sound, IsPart}
use Rattle.shows.specs.Origins.{into}
use Rattle.shows.proofs.Locality.{part_sound}
use Rattle.shows.proofs.Choosing.{winner-none, depth-step, into-first, into-second}
use Rattle.shows.proofs.Origins.{part-unmet}
use Rattle.verdicts.specs.Index.{use_at}
use Rattle.blocks.specs.Loaded.{Loaded, IsBlock, UseRow, IsJoinAt}
use Rattle.blocks.proofs.Loaded.{use_row}
use Rattle.blocks.proofs.Meeting.{use_many, use_meets, use_apart}
use Rattle.copies.specs.Copies.{inner_base}
use Rattle.copies.proofs.Bases.{inner-part}
use Rattle.levels.specs.Levels.{level, level_at}
use Rattle.levels.specs.Tables.{IsLevel, join_cue, used_joins}
use Rattle.levels.proofs.Best.{join_meets}
use Rattle.behind.specs.declared.Pair.{Pair}
use Rattle.behind.specs.declared.Lead.{Lead}
use Rattle.behind.specs.Leads.{beats_level, step_of, MayLead, UsesRow, Led, IsLead, level_of, part_best, led_to, Tried}

-- What a level says of the best link.
level-none : (b : Behind) → level b ≡ 0 → b ≡ Missing
unfolding level
level-none Missing e = refl
level-none (Stands o) e = absurd (omega arith)

pub level-some : (b : Behind) (n : ℕ) → n ≡ level b → n ≢ 0 → (o : Origin) × (b ≡ Stands o) × (n ≡ suc (length o.path))
unfolding level
level-some Missing n e h = absurd (h e)
level-some (Stands o) n e h = (o, refl, e)

-- The part that the use of a row makes of a copy.
abbrev row_part : List ℕ → List ℕ → ℕ → ℕ → ℕ → Part
row_part xs t k base r = record { of = use_at xs (blocks_of xs) r; base = inner_base xs t k base r }

pub row-part : {xs t : List ℕ} {k r : ℕ} → Loaded xs t → (u : UsesRow xs t k r) (base : ℕ) (met : List ℕ) → IsPart (copy_of (blocks_of xs) k base met) (row_part xs t k base r)
row-part {xs} {t} {k} {r} g u base met = inner-part g k base u.rows r u.low u.high met

pub uses-use : {xs t : List ℕ} {k r : ℕ} → Loaded xs t → IsBlock xs k → UsesRow xs t k r → UseRow xs k r
uses-use {k = k} {r = r} g h u = use_row g k h r u.rows u.low u.high

module _ {xs t m : List ℕ} (g : Loaded xs t) (c : Pair) (may : MayLead xs m c) where
  abbrev bs : List Block
  bs = blocks_of xs

  abbrev z : ℕ → List ℕ → Copy
  z base met = copy_of bs c.block base met

  -- A use whose joins i and j meet the two cues: the level between these joins is that of the part's best link.
  module _ (r i j n : ℕ) (u : UsesRow xs t c.block r) (hi : i < used_joins xs r) (hj : j < used_joins xs r)
      (ei : get_or (use_at xs bs r).at i 0 ≡ c.from) (ej : get_or (use_at xs bs r).at j 0 ≡ c.to)
      (l : IsLevel xs (use_at xs bs r).block (join_cue (own_of bs (use_at xs bs r).block) i) (join_cue (own_of bs (use_at xs bs r).block) j) n) where
    part-level : (base : ℕ) (met : List ℕ) → Sound (z base met) → n ≡ level (part_best xs t c base met r)
    part-level base met s =
        let q : Part = row_part xs t c.block base r in
        let a : length q.of.at ≡ used_joins xs r = (uses-use g may.block u).good.arity in
        let p = l.at q.base (meets (z base met) q) (part_sound s q (row-part g u base met)) in
        rw (join_meets (z base met) q i (omega arith), join_meets (z base met) q j (omega arith), ei, ej) at p

  pub led-level : (r : ℕ) (b : Lead) → Led xs t c r b → (base : ℕ) (met : List ℕ) → Sound (z base met) → b.level ≡ level (part_best xs t c base met b.row)
  led-level r b l base met s =
      part-level b.row b.from b.to b.level l.row l.from-join l.to-join l.from-cue l.to-cue l.level base met s

  later : (r : ℕ) (o : Option Lead) → IsLead xs t c r o → IsLead xs t c (r + 1) o
  later r None l = tt
  later r (Some b) d =
      record {
        row = d.row;
        earlier = omega (arith, d.earlier);
        from-join = d.from-join;
        to-join = d.to-join;
        from-cue = d.from-cue;
        to-cue = d.to-cue;
        level = d.level;
        some = d.some;
      }

  -- No link comes from the part that the use of row r makes: the lead stays.
  kept_as : (r : ℕ) (o : Option Lead) → IsLead xs t c r o → ((base : ℕ) (met : List ℕ) → Sound (z base met) → part_best xs t c base met r ≡ Missing) → Tried xs t c r o o
  unfolding into
  kept_as r o l none =
      record {
        lead = later r o l;
        won = λ base met s.
            ap (λ (b : Behind). winner (led_to xs t c base met o) (into (step_of t c.block r) b)) (none base met s)
            ∙ winner-none (led_to xs t c base met o);
      }

  module _ (r : ℕ) (u : UsesRow xs t c.block r) (old : Option Lead) (l : IsLead xs t c r old) where
    -- One of the two cues is met by no join of the use.
    row : UseRow xs c.block r
    row = uses-use g may.block u

    pub unmet_from : (b joins i : ℕ) → b ≡ (use_at xs bs r).block → joins ≡ joins_of bs b → IsJoinAt xs r joins c.from i → joins ≤ i → Tried xs t c r old old
    unfolding best
    unmet_from b joins i eb ej p h =
        kept_as r old l (λ base met s. ap best
        (part-unmet (opening_row xs) bs c.block base met s _ _ (row_part xs t c.block base r) (row-part g u base met) c.from may.from
        (λ m. let (a, x, e) = mem_at c.from m in use_apart row eb ej p a h x e) (inl refl)))

    pub unmet_to : (b joins j : ℕ) → b ≡ (use_at xs bs r).block → joins ≡ joins_of bs b → IsJoinAt xs r joins c.to j → joins ≤ j → Tried xs t c r old old
    unfolding best
    unmet_to b joins j eb ej p h =
        kept_as r old l (λ base met s. ap best
        (part-unmet (opening_row xs) bs c.block base met s _ _ (row_part xs t c.block base r) (row-part g u base met) c.to may.to
        (λ m. let (a, x, e) = mem_at c.to m in use_apart row eb ej p a h x e) (inr refl)))

    -- Both are met: the level between the two joins decides.
    module _ (b joins i j n : ℕ) (eb : b ≡ (use_at xs bs r).block) (ej : joins ≡ joins_of bs b) (p : IsJoinAt xs r joins c.from i)
        (q : IsJoinAt xs r joins c.to j) (hi : i < joins) (hj : j < joins) (en : n ≡ level_at m b i j) where
      many : joins ≡ used_joins xs r
      many = use_many row eb ej p

      right : IsLevel xs (use_at xs bs r).block (join_cue (own_of bs (use_at xs bs r).block) i) (join_cue (own_of bs (use_at xs bs r).block) j) n
      right =
          let e : n ≡ level_at m (use_at xs bs r).block i j = rw eb at en in
          rw e (may.levels.at (use_at xs bs r).block i j row.lower (omega (arith, many)) (omega (arith, many)))

      abbrev new : Lead
      new = record { level = n; row = r; from = i; to = j }

      new-level : (base : ℕ) (met : List ℕ) → Sound (z base met) → n ≡ level (part_best xs t c base met r)
      new-level base met s =
          part-level r i j n u (omega (arith, many)) (omega (arith, many)) (use_meets row eb ej p hi) (use_meets row eb ej q hj) right base met s

      new-lead : n ≢ 0 → IsLead xs t c (r + 1) (Some new)
      new-lead h =
          record {
            row = u;
            earlier = omega arith;
            from-join = omega (arith, many);
            to-join = omega (arith, many);
            from-cue = use_meets row eb ej p hi;
            to-cue = use_meets row eb ej q hj;
            level = right;
            some = h;
          }

      step-earlier : (b : Lead) → Led xs t c r b → step_of t c.block b.row < step_of t c.block r
      step-earlier b d = omega (arith, d.earlier, d.row.low, d.row.rows.begin)

      -- Both have links: which of the two is better.
      both : (b : Lead) → Led xs t c r b → (base : ℕ) (met : List ℕ) → Sound (z base met) → n ≢ 0
          → (x : Origin) × (y : Origin) × (led_to xs t c base met (Some b) ≡ into (step_of t c.block b.row) (Stands x))
          × (part_best xs t c base met r ≡ Stands y) × (depth_wins (length y.path) (length x.path) ≡ depth_wins n b.level)
      unfolding led_to
      both b d base met s hn =
          let (x, ex, lx) = level-some (part_best xs t c base met b.row) b.level (led-level r b d base met s) d.some in
          let (y, ey, ly) = level-some (part_best xs t c base met r) n (new-level base met s) hn in
          (x, y, ap (into (step_of t c.block b.row)) ex, ey, sym (depth-step (length y.path) (length x.path)) ∙ sym (ap₂ depth_wins ly lx))

      better-won : (b : Lead) → Led xs t c r b → n ≢ 0 → depth_wins n b.level ≡ true → (base : ℕ) (met : List ℕ) → Sound (z base met)
          → winner (led_to xs t c base met (Some b)) (into (step_of t c.block r) (part_best xs t c base met r)) ≡ led_to xs t c base met (Some new)
      unfolding led_to
      better-won b d hn w base met s =
          let (x, y, ex, ey, f) = both b d base met s hn in
          ap₂ winner ex (ap (into (step_of t c.block r)) ey)
          ∙ into-second (step_of t c.block b.row) (step_of t c.block r) x y (f ∙ w)
          ∙ sym (ap (into (step_of t c.block r)) ey)

      worse_won : (b : Lead) → Led xs t c r b → n ≢ 0 → depth_wins n b.level ≡ false → (base : ℕ) (met : List ℕ) → Sound (z base met)
          → winner (led_to xs t c base met (Some b)) (into (step_of t c.block r) (part_best xs t c base met r)) ≡ led_to xs t c base met (Some b)
      worse_won b d hn w base met s =
          let (x, y, ex, ey, f) = both b d base met s hn in
          ap₂ winner ex (ap (into (step_of t c.block r)) ey)
          ∙ into-first (step_of t c.block b.row) (step_of t c.block r) x y (step-earlier b d) (f ∙ w)
          ∙ sym ex

      -- The test of the code.
      pub tried_better : (beats : Bool) → beats ≡ beats_level n (level_of old) → beats ≡ true → Tried xs t c r old (Some new)
      unfolding beats_level level_of led_to winner
      tried_better beats e f = go (ℕ_discrete n 0) old l e
        where
          go : Dec (n ≡ 0) → (o : Option Lead) → IsLead xs t c r o → beats ≡ beats_level n (level_of o) → Tried xs t c r o (Some new)
          go (yes x) o l e = absurd (false≢true (sym (eq_then n 0 _ _ x) ∙ sym e ∙ f))
          go (no x) None l e = record { lead = new-lead x; won = λ base met s. refl }
          go (no x) (Some b) l e =
              record { lead = new-lead x; won = better-won b l x (sym (eq_else n 0 _ _ x ∙ eq_else b.level 0 _ _ l.some) ∙ sym e ∙ f) }

      pub tried_worse : (beats : Bool) → beats ≡ beats_level n (level_of old) → beats ≡ false → Tried xs t c r old old
      unfolding beats_level level_of
      tried_worse beats e f = go (ℕ_discrete n 0) old l e
        where
          go : Dec (n ≡ 0) → (o : Option Lead) → IsLead xs t c r o → beats ≡ beats_level n (level_of o) → Tried xs t c r o o
          go (yes x) o l e = kept_as r o l (λ base met s. level-none (part_best xs t c base met r) (sym (new-level base met s) ∙ x))
          go (no x) None l e = absurd (false≢true (sym f ∙ e ∙ eq_else n 0 _ _ x ∙ eq_then 0 0 _ _ refl))
          go (no x) (Some b) l e =
              record { lead = later r (Some b) l; won = worse_won b l x (sym (eq_else n 0 _ _ x ∙ eq_else b.level 0 _ _ l.some) ∙ sym e ∙ f) }

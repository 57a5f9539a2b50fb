-- The list of a cue: the walk from its own copy gives just the list of the model.
use Prim.Native.Nat.{ℕ, ◌+◌, ◌≤◌, ◌<◌}
use native.Mathlib.Omega.{arith}
use mathlib.Core.Path.{◌≡◌, sym, ◌∙◌}
use mathlib.Core.Logic.{◌↔◌}
use mathlib.Core.List.{List}
use lib.ListN.{length, get_or}
use lib.Seq.{get_or-take}
use Rattle.model.specs.Limits.{max_joins}
use Rattle.model.specs.Blocks.{Link, Block, block_at, joins_of, own_of, total, blocks_of}
use Rattle.shows.specs.WellFormed.{Cue}
use Rattle.basics.proofs.Members.{get_d_mem, mem_at}
use Rattle.shows.proofs.Ranges.{Within, inner, join, links-within}
use Rattle.shows.specs.Copies.{Copy, number, all-links, Sound, Low}
use Rattle.shows.proofs.BlockAt.{links-at, own_of_at, joins_of-at}
use Rattle.neighbours.specs.declared.Ask.{Ask}
use Rattle.neighbours.specs.Picks.{there, Picked}
use Rattle.neighbours.specs.Near.{Near, Marks, RecordsReady}
use Rattle.neighbours.proofs.Tables.{mark_of_join}
use Rattle.copies.specs.declared.Frame.{Frame}
use Rattle.copies.specs.Copies.{met_of, framed, links_of}
use Rattle.lists.specs.Walks.{MayVisit, Walked}
use Rattle.lists.specs.Joins.{Met, MeetsJust, JoinsDone}
use Rattle.lists.specs.Answer.{MayAnswer, Answered}
use Rattle.neighbours.proofs.Picked.{both_ends, wanted-append}
use Rattle.lists.proofs.Filled.{gives-append}
use Rattle.neighbours.proofs.Near.{near_picked, picked_near, join_number, join_cue_lem}

module _ (q : Ask) (bs : List Block) (m : List ℕ) (copy : Frame) (c : ℕ) (s : List ℕ) (tab : RecordsReady q bs m copy.block c)
    (marks : Marks q m (block_at bs copy.block) c s) (cue : Cue (block_at bs copy.block) c) (sound : Sound (framed bs copy)) (low : Low (framed bs copy))
    (few : joins_of bs copy.block ≤ max_joins) where
  abbrev k : ℕ
  k = copy.block

  abbrev base : ℕ
  base = copy.base

  abbrev met : List ℕ
  met = copy.met

  abbrev z : Copy
  z = framed bs copy

  abbrev E : List Link
  E = links_of bs copy

  links-are : E ≡ all-links z
  links-are = links-at bs sound.good k base (met_of bs copy)

  -- What join j meets.
  join_is : (j : ℕ) → j < joins_of bs k → number z (own_of bs k + 1 + j) ≡ get_or met j 0
  join_is j h =
      rw (own_of_at bs k) (join_number q bs m k base (met_of bs copy) sound j) ∙ get_or-take (joins_of bs k) met j 0 h

  join_here : (j : ℕ) → j < joins_of bs k → Cue (block_at bs k) (own_of bs k + 1 + j)
  join_here j h = rw (own_of_at bs k) (join_cue_lem q bs m k base (met_of bs copy) sound j h)

  flag-near : (j : ℕ) → j < joins_of bs k → (get_or s j 0 ≡ 1) ↔ Near q m (block_at bs k) c (own_of bs k + 1 + j)
  flag-near j h =
      rw (own_of_at bs k, ← mark_of_join (block_at bs k).own j s)
      (marks.at ((block_at bs k).own + 1 + j) (omega arith, omega arith))

  -- The marked joins meet the linked cues up to base.
  meets-just : MeetsJust q E (number z c) base s (joins_of bs k) met
  meets-just =
      record {
        to = λ u o.
            rw (links-are, ← o.meets, ← join_is o.j o.within)
            (near_picked q bs m k base (met_of bs copy) sound c (own_of bs k + 1 + o.j) tab ((flag-near o.j o.within).0 o.flag));
        low = λ u o.
            let e : get_or (met_of bs copy) o.j 0 ≡ u = get_or-take (joins_of bs k) met o.j 0 o.within ∙ o.meets in
            rw e at (low (get_or (met_of bs copy) o.j 0) (get_d_mem (met_of bs copy) o.j (omega (arith, o.within, sound.fit.fits, joins_of-at bs k))));
        back = λ u h p. go u h p (both_ends q p.link (Within base (total bs k) (met_of bs copy))
            (links-within bs sound.good k base (met_of bs copy) (sound.fit.fits ∙ sym (joins_of-at bs k)) p.link p.member)).1;
      }
    where
      go : (u : ℕ) → u ≤ base → (p : Picked q E (number z c) u) → Within base (total bs k) (met_of bs copy) (there q p.link)
          → Met s (joins_of bs k) met u
      go u h p (inner x y) = absurd (omega (arith, p.to))
      go u h p (join i) =
          let (j, l, e) = mem_at (there q p.link) i in
          let w : j < joins_of bs k = omega (arith, sound.fit.fits, joins_of-at bs k) in
          let m' : get_or met j 0 ≡ u = sym (get_or-take (joins_of bs k) met j 0 w) ∙ e ∙ p.to in
          record {
            j = j;
            within = w;
            flag = (flag-near j w).1
                (picked_near q bs m k base (met_of bs copy) sound c (own_of bs k + 1 + j) tab cue (join_here j w)
                (rw (join_is j w, m') (rw links-are at p)));
            meets = m';
          }

pub answered : (q : Ask) (xs m : List ℕ) (z : Frame) (c joins g₁ g : ℕ) (s page p₁ after : List ℕ) → RecordsReady q (blocks_of xs) m z.block c
    → MayAnswer q xs z c page → Marks q m (block_at (blocks_of xs) z.block) c s → joins ≡ joins_of (blocks_of xs) z.block → joins ≤ max_joins
    → JoinsDone q s joins z.met page 0 p₁ g₁
    → Walked q xs (record { block = z.block; base = z.base; cue = c }) z.base p₁ g₁ (total (blocks_of xs) z.block) after g → Answered q xs z c page after g
answered q xs m z c joins g₁ g s page p₁ after tab may marks ej few done walked =
    record {
      gives = λ sound low.
          let bs : List Block = blocks_of xs in
          let e : 0 + z.base ≡ z.base = omega arith in
          let v : ℕ = number (framed bs z) c in
          let just : MeetsJust q (links_of bs z) v z.base s joins z.met =
          rw ej (meets-just q bs m z c s tab marks (omega (arith, may.low, may.high, own_of_at bs z.block)) sound low (omega arith)) in
          rw (wanted-append q v (links_of bs z) 0 z.base (total bs z.block), e)
          (gives-append q.room page 0 _ _ p₁ after g₁ g (done.all (links_of bs z) v z.base just) (walked.gives (met_of bs z) sound));
    }

pub may_visit_begin : (q : Ask) (xs : List ℕ) (z : Frame) (c g : ℕ) (page p₁ : List ℕ) → MayAnswer q xs z c page → length p₁ ≡ length page → g ≤ q.room + 1
    → MayVisit q xs (record { block = z.block; base = z.base; cue = c }) p₁ g
may_visit_begin q xs z c g page p₁ may l b =
    record {
      known = may.copy.known;
      low = may.low;
      high = omega (arith, may.high);
      small = may.copy.small;
      room = (omega (arith, may.room), may.room.1, b);
    }

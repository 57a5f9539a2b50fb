-- Where the walk begins: in the copy that owns the cue of a place. Every link at that cue stands in it or below, and a cue that is not above and not to be
-- seen there has no link with it.
use Prim.Native.Nat.{ℕ, zero, suc, ◌+◌, ◌-◌, ◌≤◌, ◌<◌}
use native.Mathlib.Omega.{arith}
use mathlib.Core.Path.{◌≡◌, refl, sym, ◌∙◌, ap, ap₂}
use mathlib.Core.Logic.{◌≢◌, ◌⊎◌, inl, inr}
use mathlib.Core.Bool.{Bool, true, false}
use mathlib.Core.List.{List, [], ◌∷◌, ◌++◌}
use lib.ListN.{length, get_or, take}
use lib.Seq.{take-suc, take-length}
use Rattle.model.specs.Choice.{if_true}
use Rattle.model.specs.Limits.{max_depth}
use Rattle.model.specs.Blocks.{Link, Use, Block, block_at, total, last_block, blocks_of}
use Rattle.model.specs.Behind.{Origin, traced, opening_row, show_traced, origins, Missing, best, behind}
use Rattle.basics.proofs.Members.{mem_at}
use Rattle.shows.specs.WellFormed.{Cue}
use Rattle.shows.specs.Copies.{Part, Copy, number, meets, copy_of, Sound, IsPart, InCopy, part-copy, part_at}
use Rattle.shows.specs.Origins.{into_all}
use Rattle.shows.proofs.Ranges.{Within, inner, join, links-within, part-range, cue_at-own, cue_at-join}
use Rattle.shows.proofs.BlockAt.{total-at, joins_of-at}
use Rattle.shows.proofs.Locality.{part_sound, numbered-cases}
use Rattle.shows.proofs.Trails.{part-at_part}
use Rattle.shows.proofs.Tracing.{traced-links}
use Rattle.shows.proofs.Choosing.{best-into}
use Rattle.shows.proofs.Origins.{Joins, origins-none, only_part}
use Rattle.blocks.specs.declared.Place.{Place}
use Rattle.blocks.specs.Loaded.{Loaded}
use Rattle.blocks.specs.Places.{block_on, UsesTo, Found}
use Rattle.blocks.proofs.Loaded.{loaded-show}
use Rattle.copies.specs.declared.Frame.{Frame}
use Rattle.copies.specs.Copies.{met_of, framed, CopyAt}
use Rattle.copies.specs.ByRows.{step_on, copy_on}
use Rattle.copies.proofs.ByRows.{top_sound, copy-suc, block-suc, step_is, step-bounds, part-use_is, own-bounds, cue-is, cue-numbered, end_after}
use Rattle.levels.specs.Tables.{Levels}
use Rattle.behind.specs.declared.Pair.{Pair}
use Rattle.behind.specs.Ways.{SeenAs, Leading, Reaches, MayWalk, source_of, target_of}
use Rattle.behind.proofs.Walking.{into_all-none, into_all-snoc, sound-as}

-- In a sound copy with an own cue of number w: a number v that is not above it and no cue of the block has no link there.
module _ (opening : ℕ → ℕ) (bs : List Block) (k base : ℕ) (met : List ℕ) (g : Sound (copy_of bs k base met)) where
  abbrev z : Copy
  z = copy_of bs k base met

  not_within : (v : ℕ) → ((d : ℕ) → Cue z.block d → number z d ≡ v → ⊥) → v ≤ base + z.block.own → Within base (total bs k) met v → ⊥
  not_within v unseen low (inner x y) = go (numbered-cases g v (omega (arith, total-at bs g.good k base met)))
    where
      go : ((c : ℕ) × (1 ≤ c) × (c ≤ z.block.own) × (number z c ≡ v)) ⊎ ((p : Part) × IsPart z p × InCopy (part-copy z p) v) → ⊥
      go (inl (c, a, b, e)) = unseen c (omega arith) e
      go (inr (p, i, h)) = omega (arith, h, part-range g.fit p i)
  not_within v unseen low (join m) =
      let (i, h, e) = mem_at v m in
      let own : ℕ = z.block.own in
      let q : own + 1 + i - own - 1 ≡ i = omega arith in
      unseen (own + 1 + i) (omega (arith, g.fit.fits)) (cue_at-join own base met (own + 1 + i) (omega arith) ∙ ap (λ (n : ℕ). get_or met n 0) q ∙ e)

  no_origins : (s t v : ℕ) → (v ≡ s) ⊎ (v ≡ t) → ((d : ℕ) → Cue z.block d → number z d ≡ v → ⊥) → v ≤ base + z.block.own
      → origins s t (traced opening bs k base met) ≡ []
  no_origins s t v e unseen low =
      origins-none s t (traced opening bs k base met)
      (λ l i h. ends l e h (links-within bs g.good k base met (g.fit.fits ∙ sym (joins_of-at bs k)) l (rw (traced-links opening bs k base met) at i)))
    where
      ends : (l : Link) → (v ≡ s) ⊎ (v ≡ t) → Joins s t l → Within base (total bs k) met l.from × Within base (total bs k) met l.to → ⊥
      ends l (inl f) h w = not_within v unseen low (rw (h.0 ∙ sym f) at w.0)
      ends l (inr f) h w = not_within v unseen low (rw (h.1 ∙ sym f) at w.1)

-- The way down to the copy that owns the cue of a place.
module _ {xs t rows : List ℕ} {q : Place} (g : Loaded xs t) (f : Found xs t rows q) (s v : ℕ) (e : (q.cue ≡ s) ⊎ (q.cue ≡ v)) where
  abbrev all : List Block
  all = blocks_of xs

  -- The copy at level l, and that the question is about what is below it.
  record Narrowed (l : ℕ) : Type 0 where
    base : ℕ
    met : List ℕ
    is : copy_on xs t rows l ≡ copy_of all (block_on xs rows l) base met
    sound : Sound (copy_of all (block_on xs rows l) base met)
    rest : behind xs s v ≡ into_all (take l f.path) (best (origins s v (traced (opening_row xs) all (block_on xs rows l) base met)))

  narrow_first : Narrowed 0
  unfolding copy_on block_on behind show_traced into_all
  narrow_first = record { base = 0; met = []; is = refl; sound = top_sound g; rest = refl }

  narrow_next : (l : ℕ) → l < q.depth → Narrowed l → Narrowed (suc l)
  narrow_next l h n =
      let k : ℕ = block_on xs rows l in
      let y : Copy = copy_of all k n.base n.met in
      let p : ℕ = step_on xs t rows l in
      let (low, high) = step-bounds g f l h in
      let part : Part = part_at y p in
      let next : copy_on xs t rows (suc l) ≡ part-copy y part = copy-suc xs t rows l ∙ ap (λ (z : Copy). part-copy z (part_at z p)) n.is in
      let there : InCopy (part-copy y part) q.cue = rw next at (cue-numbered g f (suc l) (omega arith)) in
      let b : part.of.block ≡ block_on xs rows (suc l) = ap (λ (u : Use). u.block) (part-use_is g f l h (omega arith)) ∙ sym (block-suc xs rows l) in
      let path : take (suc l) f.path ≡ take l f.path ++ p ∷ [] =
      take-suc f.path l 0 (omega (arith, f.depth)) ∙ ap (λ (i : ℕ). take l f.path ++ i ∷ []) (sym (step_is g f l h)) in
      let found : List Origin = origins s v (traced (opening_row xs) all part.of.block part.base (meets y part)) in
      record {
        base = part.base;
        met = meets y part;
        is = next ∙ ap (λ (b : ℕ). copy_of all b part.base (meets y part)) b;
        sound = sound-as (sym b) (part_sound n.sound part (part-at_part y p low high));
        rest =
            n.rest
            ∙ ap (λ (os : List Origin). into_all (take l f.path) (best os))
            (only_part (opening_row xs) all k n.base n.met n.sound s v p q.cue low high there e)
            ∙ ap (into_all (take l f.path)) (best-into p found)
            ∙ sym (into_all-snoc (take l f.path) p (best found))
            ∙ ap₂ into_all (sym path) (ap (λ (b : ℕ). best (origins s v (traced (opening_row xs) all b part.base (meets y part)))) b);
      }

  narrowed : (l : ℕ) → l ≤ q.depth → Narrowed l
  narrowed zero h = narrow_first
  narrowed (suc l) h = narrow_next l (omega arith) (narrowed l (omega arith))

  -- The frame that the code has of it.
  module _ (z : Frame) (at : CopyAt xs t rows q.depth z) where
    end : Narrowed q.depth
    end = narrowed q.depth (omega arith)

    framed_is : framed all z ≡ copy_of all (block_on xs rows q.depth) end.base end.met
    framed_is = sym (at.at f.path (sym f.depth) f.along) ∙ sym (end_after g f) ∙ end.is

    pub framed-sound : Sound (framed all z)
    framed-sound = rw framed_is end.sound

    framed-rest : behind xs s v ≡ into_all f.path (best (origins s v (traced (opening_row xs) all z.block z.base (met_of all z))))
    framed-rest =
        let p : take q.depth f.path ≡ f.path = ap (λ (n : ℕ). take n f.path) f.depth ∙ take-length f.path in
        let b : end.base ≡ z.base = sym (ap (λ (c : Copy). c.base) framed_is) in
        let m : end.met ≡ met_of all z = sym (ap (λ (c : Copy). c.met) framed_is) in
        end.rest
        ∙ ap₂ into_all p
        (ap₂ (λ (k i : ℕ). best (origins s v (traced (opening_row xs) all k i end.met))) (sym at.block) b
        ∙ ap (λ (w : List ℕ). best (origins s v (traced (opening_row xs) all z.block z.base w))) m)

    pub own-cue : Cue (block_at all z.block) q.own × (number (framed all z) q.own ≡ q.cue)
    own-cue =
        let y : copy_on xs t rows q.depth ≡ framed all z = end.is ∙ sym framed_is in
        let b : (1 ≤ q.own) × (q.own ≤ (block_at all z.block).own) = rw y at (own-bounds g f) in
        (omega arith, rw y at (cue-is g f))

    -- The rows lead along the path, each from the first use of its block on.
    leads : Leading xs t rows f.path
    leads = record { along = f.along; begin = λ l h. omega (arith, f.along.steps l h, step-bounds g f l (omega (arith, f.depth)), step_is g f l (omega (arith, f.depth))) }

    -- A number that is not seen there.
    pub unseen-none : (w : ℕ) → w ≤ q.cue → (w ≡ s) ⊎ (w ≡ v) → SeenAs xs z w 0 → behind xs s v ≡ Missing
    unfolding best
    unseen-none w low either seen =
        let (c, n) = own-cue in
        let own : ℕ = (block_at all z.block).own in
        let b : (1 ≤ q.own) × (q.own ≤ (block_at all z.block).own) = rw (end.is ∙ sym framed_is) at (own-bounds g f) in
        let h : w ≤ z.base + own = omega (arith, cue_at-own own z.base (met_of all z) q.own b.1) in
        framed-rest
        ∙ ap (λ (os : List Origin). into_all f.path (best os))
        (no_origins (opening_row xs) all z.block z.base (met_of all z) framed-sound s v w either (seen.unseen refl) h)
        ∙ into_all-none f.path

    -- And one that is.
    pub reaches : (c : Pair) → c.block ≡ z.block → number (framed all z) c.from ≡ s → number (framed all z) c.to ≡ v → Reaches xs t rows s v q.depth c
    reaches c k from to =
        record {
          path = f.path;
          depth = sym f.depth;
          leading = leads;
          block = k ∙ at.block;
          base = z.base;
          met = met_of all z;
          sound = sound-as k framed-sound;
          from = ap (λ (b : ℕ). number (copy_of all b z.base (met_of all z)) c.from) k ∙ from;
          to = ap (λ (b : ℕ). number (copy_of all b z.base (met_of all z)) c.to) k ∙ to;
          rest = framed-rest ∙ ap (λ (b : ℕ). into_all f.path (best (origins s v (traced (opening_row xs) all b z.base (met_of all z))))) (sym k);
        }

-- Every step leads to a lower block.
level-low : {xs rows : List ℕ} {n : ℕ} → UsesTo xs rows n → (l : ℕ) → l ≤ n → l + block_on xs rows l ≤ last_block (blocks_of xs)
unfolding block_on
level-low u zero h = omega arith
level-low u (suc l) h = omega (arith, level-low u l (omega arith), (u.at l (omega arith)).lower)

-- As the code begins: the cue of the place and a cue w that is not above it, leading inward or out.
module _ {xs t rows : List ℕ} {q : Place} (g : Loaded xs t) (f : Found xs t rows q) (z : Frame) (at : CopyAt xs t rows q.depth z) (inward : Bool) (w c : ℕ)
    (seen : SeenAs xs z w c) where
  abbrev bs : List Block
  bs = blocks_of xs

  pub not_seen : w ≤ q.cue → c ≡ 0 → behind xs (source_of inward q.cue w) (target_of inward q.cue w) ≡ Missing
  unfolding source_of target_of if_true
  not_seen low e = missing inward
    where
      missing : (inward : Bool) → behind xs (source_of inward q.cue w) (target_of inward q.cue w) ≡ Missing
      missing true = unseen-none g f w q.cue (inr refl) z at w low (inl refl) (rw e at seen)
      missing false = unseen-none g f q.cue w (inl refl) z at w low (inr refl) (rw e at seen)

  -- Both are cues of the copy's block.
  module _ (some : c ≢ 0) (start : Pair) (k : start.block ≡ z.block) (from : start.from ≡ source_of inward q.own c) (to : start.to ≡ target_of inward q.own c) where
    own_is : Cue (block_at bs z.block) q.own × (number (framed bs z) q.own ≡ q.cue)
    own_is = own-cue g f q.cue w (inl refl) z at

    pub starts : Reaches xs t rows (source_of inward q.cue w) (target_of inward q.cue w) q.depth start
    unfolding source_of target_of if_true
    starts = go inward from to
      where
        go : (inward : Bool) → start.from ≡ source_of inward q.own c → start.to ≡ target_of inward q.own c
            → Reaches xs t rows (source_of inward q.cue w) (target_of inward q.cue w) q.depth start
        go true from to = reaches g f w q.cue (inr refl) z at start k (ap (number (framed bs z)) from ∙ (seen.seen some).1) (ap (number (framed bs z)) to ∙ own_is.1)
        go false from to = reaches g f q.cue w (inl refl) z at start k (ap (number (framed bs z)) from ∙ own_is.1) (ap (number (framed bs z)) to ∙ (seen.seen some).1)

    pub may_start : {m : List ℕ} → Levels xs m z.block → max_depth ≤ length rows → MayWalk xs m rows q.depth start
    unfolding last_block source_of target_of if_true
    may_start right room =
        record {
          lead =
              record {
                block = rw k at.copy.known;
                levels = rw k right;
                from = cue-of inward start.from from;
                to = cue-of_to inward start.to to;
              };
          room = room;
          short = omega (arith, level-low f.along.uses q.depth (omega (arith, f.depth)), at.block, k, (loaded-show g).blocks);
        }
      where
        known : (d : ℕ) → Cue (block_at bs z.block) d → Cue (block_at bs start.block) d
        known d h = rw k h

        cue-of : (inward : Bool) (d : ℕ) → d ≡ source_of inward q.own c → Cue (block_at bs start.block) d
        cue-of true d e = rw e (known c (seen.seen some).0)
        cue-of false d e = rw e (known q.own own_is.0)

        cue-of_to : (inward : Bool) (d : ℕ) → d ≡ target_of inward q.own c → Cue (block_at bs start.block) d
        cue-of_to true d e = rw e (known q.own own_is.0)
        cue-of_to false d e = rw e (known c (seen.seen some).0)

-- What settled estimates tell: up, inside ever larger copies; down, in the whole show.
use Prim.Native.Nat.{ℕ, ◌+◌, ◌-◌, ◌≤◌, ◌<◌}
use native.Mathlib.Omega.{arith}
use mathlib.Core.Path.{◌≡◌, refl}
use mathlib.Core.List.{List}
use lib.ListN.{length, get_or}
use Rattle.model.specs.Blocks.{Block, block_at, blocks_of}
use Rattle.shows.specs.WellFormed.{Cue, GoodUse}
use Rattle.shows.specs.Accepted.{Show}
use Rattle.basics.proofs.Members.{get_d_mem}
use Rattle.shows.specs.Copies.{Part, Copy, number, copy_of, Sound, IsPart, InCopy, part-copy, show_copy}
use Rattle.shows.proofs.Ranges.{part-use}
use Rattle.shows.proofs.BlockAt.{joins_of-at}
use Rattle.shows.proofs.Locality.{sound-lower, Under, under_sound, part_of}
use Rattle.distances.specs.Walks.{Price}
use Rattle.distances.specs.Tells.{Join, met_by, InTable, ExactTable, FromPart}
use Rattle.distances.proofs.Closure.{Covered, at_told, At}
use Rattle.distances.proofs.Detours.{part_join, PartTold, up_told, BeginsFor, begins-at, begins-part, JoinsTold, down_told}
use Rattle.verdicts.specs.Index.{use_at}
use Rattle.blocks.specs.declared.Place.{Place}
use Rattle.blocks.proofs.Loaded.{loaded-show}
use Rattle.searches.specs.Starts.{Beginnings, Either}
use Rattle.searches.specs.Edges.{numbers, Only, SpreadIn, MaySettle}
use Rattle.searches.specs.Joins.{AtJoins, passed}
use Rattle.blocks.specs.Loaded.{IsBlock}
use Rattle.searches.specs.Knowing.{Known, HasTable}
use Rattle.searches.specs.Copies.{TellsInside, TellsWhole, kept_at, TellsJoins, Source, inner, here, FromKept}
use Rattle.searches.proofs.Settled.{labels, spread_estimates}
use Rattle.copies.proofs.ByRows.{top_sound}

module _ {inf : ℕ} {price : Price} {xs t work : List ℕ} (r : Known inf price xs t work) where
  abbrev bs : List Block
  bs = blocks_of xs

  abbrev top : Copy
  top = show_copy bs

  abbrev table : ℕ → ℕ → ℕ → ℕ → Type 0
  table = InTable inf (numbers work)

  show : Show xs
  show = loaded-show r.loaded

  exact : ExactTable price bs (length bs) table
  exact = r.exact

  module _ (k base : ℕ) (met : List ℕ) (u : Under top (copy_of bs k base met)) where
    abbrev y : Copy
    y = copy_of bs k base met

    sound : Sound y
    sound = under_sound (top_sound r.loaded) u

    -- In the copy of the cue itself.
    pub start-told : (own : ℕ) (d : List ℕ) → Cue (block_at bs k) own → SpreadIn inf price bs work k (Only own) d
        → TellsInside inf price y (number y own) d
    start-told own d c s v i =
        at_told price sound (length bs) (sound-lower sound) table exact inf {d = labels d} own c
        (spread_estimates bs show.good work k s) v i

    module _ (part : Part) (member : IsPart y part) where
      part-told : (s l : ℕ) (kept : List ℕ) → TellsJoins inf price (part-copy y part) s kept l
          → PartTold price y part inf s (kept_at kept l)
      part-told s l kept told i j =
          rw (part_join sound part member i j) at (told i j.0 (omega (arith, joins_of-at bs part.of.block, j.1)))

      -- Up: in the copy around a part.
      pub rise_told : (s l : ℕ) (kept d : List ℕ) → InCopy (part-copy y part) s → TellsJoins inf price (part-copy y part) s kept l
          → SpreadIn inf price bs work k (FromPart bs part.of (kept_at kept l)) d → TellsInside inf price y s d
      rise_told s l kept d inside told sp c i =
          up_told price sound (length bs) (sound-lower sound) table exact inf part member s inside (kept_at kept l)
          (part-told s l kept told)
          {d = labels d} (spread_estimates bs show.good work k sp) c i

      -- Down: in the part.
      met-cue : (i : ℕ) → Join bs part.of.block i → Cue (block_at bs k) (met_by part.of i)
      met-cue i j =
          let g : GoodUse bs (block_at bs k) part.of = part-use sound.fit part member in
          g.cues (met_by part.of i) (get_d_mem part.of.at (i - 1) (omega (arith, g.arity, j.0, j.1)))

      joins-told : (s : ℕ) (d : List ℕ) → TellsWhole inf price xs y s d
          → JoinsTold price top (part-copy y part) inf s (passed part.of d)
      joins-told s d told i a b =
          let j : Join bs part.of.block i = omega (arith, joins_of-at bs part.of.block) in
          rw (part_join sound part member i j) (told (met_by part.of i) (met-cue i j))

      pub sink_told : (S : Beginnings) (s : ℕ) (d e : List ℕ) → TellsWhole inf price xs y s d → BeginsFor price top (part-copy y part) inf s S
          → SpreadIn inf price bs work part.of.block
          (Either (AtJoins (block_at bs part.of.block) (passed part.of d)) S) e → TellsWhole inf price xs (part-copy y part) s e
      sink_told S s d e told begins sp c i =
          let below : Under top (part-copy y part) = part_of y u part member refl in
          down_told price (top_sound r.loaded) below inf s (passed part.of d) (joins-told s d told) begins (length bs)
          (sound-lower (under_sound (top_sound r.loaded) below)) table exact {d = labels e}
          (spread_estimates bs show.good work part.of.block sp) c i

    -- What estimates of the copy begin with on account of the cue s of a place.
    module _ (rows : List ℕ) (q : Place) (l : ℕ) (kept : List ℕ) (s : ℕ) where
      abbrev From : Beginnings
      From = Source xs rows q l kept

      begins-same : {S : Beginnings} → ((a x : ℕ) → S a x → From a x) → ((a x : ℕ) → From a x → S a x)
          → BeginsFor price top y inf s S
          → BeginsFor price top y inf s From
      begins-same {S} f g b =
          record { sound = λ a x i q l. b.sound a x i (g a x q) l; covers = λ n c m i w. carried (b.covers n c m i w) }
        where
          carried : {c n : ℕ} → Covered price y S c n → Covered price y From c n
          carried v =
              record {
                start = v.start;
                first = v.first;
                rest = v.rest;
                cue = v.cue;
                begins = f v.start v.first v.begins;
                walk = v.walk;
                weight = v.weight;
              }

      pub source_own : q.depth ≤ l → Cue (block_at bs k) q.own → number y q.own ≡ s → BeginsFor price top y inf s From
      source_own end c e =
          begins-same (λ a x b. here end b) (λ a x b. back a x b) (begins-at price (top_sound r.loaded) u inf s q.own c e)
        where
          back : (a x : ℕ) → From a x → At q.own a x
          back a x (inner h b) = absurd (omega arith)
          back a x (here h b) = b

      pub source_part : l < q.depth → (part : Part) → IsPart y part → part.of ≡ use_at xs bs (get_or rows l 0)
          → InCopy (part-copy y part) s
          → TellsJoins inf price (part-copy y part) s kept (l + 1) → BeginsFor price top y inf s From
      source_part less part member e inside told =
          begins-same (λ a x b. inner less (rw e at b)) (λ a x b. rw e (back a x b))
          (begins-part price (top_sound r.loaded) u inf s part member inside (kept_at kept (l + 1)) (part-told part member s (l + 1) kept told))
        where
          back : (a x : ℕ) → From a x → FromKept xs rows l kept a x
          back a x (inner h b) = b
          back a x (here h b) = absurd (omega arith)

-- With the numbers of all blocks, each block may be settled.
pub may_settle : {A : Type 0} {inf : ℕ} {values : List A → List ℕ} {price : Price} {xs t : List ℕ} {work : List A} {k : ℕ}
    → HasTable inf values price xs t work → IsBlock xs k → MaySettle xs t k work
may_settle r h = record { loaded = r.known.loaded; block = h; room = omega (arith, r.long) }

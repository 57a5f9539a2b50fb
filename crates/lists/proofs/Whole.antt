-- What is listed from a cue's own copy is the list of the model: all links of the show at the cue
-- are links of its copy, their labels all lie in the range that is asked for, and the page is
-- filled as the model says.
use Prim.Native.Nat.{ℕ, suc, ◌+◌, ◌-◌, ◌≤◌, ◌<◌, min}
use native.Mathlib.Omega.{arith}
use native.Mathlib.Decide.{dec_lt, dec_le}
use mathlib.Core.Path.{◌≡◌, refl, sym, ◌∙◌, ap}
use mathlib.Core.Logic.{◌⊎◌, inl, inr, ◌≢◌}
use mathlib.Core.Bool.{Bool, true, false}
use mathlib.Core.List.Memᴰ
use mathlib.Core.List.{List, [], ◌∷◌, ◌++◌, map, append-nil, Memᴰ}
use lib.ListN.{length, take}
use lib.Seq.{take_all}
use lib.Dec.{eqb, ltb}
use borrow.Author.Tests.{lt-ltb, le-ltb}
use Rattle.model.specs.Choice.{if_lt}
use Rattle.model.specs.Limits.{max_label, max_total}
use Rattle.model.specs.Paths.{number_in}
use Rattle.model.specs.Blocks.{Link, Block, block_at, joins_of, total, last_block, count, blocks_of}
use Rattle.model.specs.Unfolding.{cue_at, renamed, uses_links, links, show_links}
use Rattle.model.specs.Lists.{is_linked, range, keep, cues_after, is_out, is_into, overwrite}
use Rattle.shows.specs.Accepted.{Show}
use Rattle.shows.specs.WellFormed.{Good, more}
use Rattle.shows.specs.Lists.{Leads}
use Rattle.basics.proofs.Choices.{lt_then, lt_else, true_then, true_else}
use Rattle.basics.proofs.Members.{map-mem, range_length}
use Rattle.shows.proofs.AtBlock.{links-hit, links-skip}
use Rattle.shows.proofs.Ranges.{Within, inner, join, uses-copy, cue_at-own, links-within}
use Rattle.shows.specs.Copies.{Copy, number, extent, Sound, Low, InCopy, show_copy, after}
use Rattle.shows.proofs.BlockAt.{links-at, own_of_at, joins_of-at, total-at}
use Rattle.shows.proofs.Lists.{linked}
use Rattle.shows.proofs.Locality.{Under, under_link, link-under, under_numbered, show_sound, show_links_at, show_count}
use Rattle.shows.proofs.Trails.{Arrives, arrives}
use Rattle.blocks.specs.declared.Place.{Place}
use Rattle.blocks.specs.Loaded.{Loaded}
use Rattle.blocks.specs.Places.{Found}
use Rattle.blocks.proofs.Loaded.{loaded-show}
use Rattle.neighbours.specs.declared.Ask.{Ask}
use Rattle.model.specs.declared.Listed.{Listed}
use Rattle.neighbours.specs.Picks.{near_end, there, fits, picks, Picked, wants, wanted}
use Rattle.lists.specs.Pages.{Filled, Gives}
use Rattle.copies.specs.declared.Frame.{Frame}
use Rattle.copies.specs.Copies.{met_of, framed, links_of, CopyAt}
use Rattle.lists.specs.Answer.{linked_cues, labelled_cues, IsListed, MayAnswer, Answered}
use Rattle.basics.proofs.Keeping.{keep-short, keep_same}
use Rattle.neighbours.proofs.Picked.{both_ends, ends-here, picked, wanted-append, wanted-none, wanted-low, wanted-same}
use Rattle.lists.proofs.Filled.{puts-all}
use Rattle.neighbours.proofs.Near.{picked_in}

-- Every link of an unfolding has a label in the range of labels.
abbrev Labelled : Link → Type 0
Labelled l = (1 ≤ l.label) × (l.label ≤ max_label)

no_links : (k base : ℕ) (met : List ℕ) (l : Link) → Memᴰ l (links [] k base met) → ⊥
unfolding links
no_links k base met l i = Memᴰ.not-nil i

labels : (bs : List Block) → Good bs → (k base : ℕ) (met : List ℕ) (l : Link) → Memᴰ l (links bs k base met) → Labelled l
unfolding renamed
labels [] good k base met l i = absurd (no_links k base met l i)
labels (b ∷ earlier) (more ok good) k base met l i = go (labels earlier good) (eqb k (length earlier)) refl
  where
    own : Memᴰ l (map (renamed (cue_at b.own base met)) b.links) → Labelled l
    own j = let (o, n, e) = map-mem (renamed (cue_at b.own base met)) l b.links j in rw e (ok.links o n).label

    go : ((k base : ℕ) (met : List ℕ) (l : Link) → Memᴰ l (links earlier k base met) → Labelled l) → (t : Bool) → eqb k (length earlier) ≡ t → Labelled l
    go below false e = below k base met l (rw (links-skip b earlier k base met e) at i)
    go below true e = at (Memᴰ.append_cases (map (renamed (cue_at b.own base met)) b.links) (rw (links-hit b earlier k base met e) at i))
      where
        at : Memᴰ l (map (renamed (cue_at b.own base met)) b.links)
            ⊎ Memᴰ l (uses_links (total earlier) (links earlier) (cue_at b.own base met) (base + b.own) b.uses) → Labelled l
        at (inl j) = own j
        at (inr j) =
            let (p, n, o) = uses-copy (total earlier) (links earlier) (cue_at b.own base met) (base + b.own) b.uses l j in
            below p.of.block p.base (map (cue_at b.own base met) p.of.at) l o

-- So with all labels the links that are picked are those that lead out, or in.
pub record AllLabels (q : Ask) : Type 0 where
  pub lo : q.lo ≡ 1
  pub hi : q.hi ≡ max_label

fits_all : (q : Ask) → AllLabels q → (l : Link) → Labelled l → fits q l.label ≡ true
unfolding fits
fits_all q a l h = lt_else l.label q.lo _ _ (omega (arith, a.lo)) ∙ lt_else q.hi l.label _ _ (omega (arith, a.hi))

module _ (q : Ask) (a : AllLabels q) (E : List Link) (fit : (l : Link) → Memᴰ l E → Labelled l) (v u : ℕ) where
  bool_same : (s t : Bool) → (s ≡ true → t ≡ true) → (t ≡ true → s ≡ true) → s ≡ t
  bool_same true true f g = refl
  bool_same false false f g = refl
  bool_same true false f g = sym (f refl)
  bool_same false true f g = g refl

  picks-out : q.inward ≡ false → picks q E v u ≡ is_out E v u
  unfolding is_out near_end
  picks-out e = bool_same (picks q E v u) (is_linked E v u) (λ t. (linked E v u).1 (to ((picked q v u E).0 t))) (λ t. (picked q v u E).1 (from ((linked E v u).0 t)))
    where
      to : Picked q E v u → Leads E v u
      to p = (p.link, p.member, sym (true_else q.inward _ _ e) ∙ p.from, sym (true_else q.inward _ _ e) ∙ p.to)

      from : Leads E v u → Picked q E v u
      from (l, i, x, y) = record { link = l; member = i; label = fits_all q a l (fit l i); from = true_else q.inward _ _ e ∙ x; to = true_else q.inward _ _ e ∙ y }

  picks-in : q.inward ≡ true → picks q E v u ≡ is_into E v u
  unfolding is_into near_end
  picks-in e = bool_same (picks q E v u) (is_linked E u v) (λ t. (linked E u v).1 (to ((picked q v u E).0 t))) (λ t. (picked q v u E).1 (from ((linked E u v).0 t)))
    where
      to : Picked q E v u → Leads E u v
      to p = (p.link, p.member, sym (true_then q.inward _ _ e) ∙ p.to, sym (true_then q.inward _ _ e) ∙ p.from)

      from : Leads E u v → Picked q E v u
      from (l, i, x, y) = record { link = l; member = i; label = fits_all q a l (fit l i); from = true_then q.inward _ _ e ∙ y; to = true_then q.inward _ _ e ∙ x }

-- The cues asked for of all are those after n.
wanted-after : (q : Ask) (E : List Link) (v cues : ℕ) (test : ℕ → Bool) → ((u : ℕ) → picks q E v u ≡ test u)
    → wanted q E v 0 cues ≡ cues_after test cues q.after
unfolding cues_after wanted wants keep range
wanted-after q E v cues test same = go (dec_le q.after cues)
  where
    go : Dec (q.after ≤ cues) → wanted q E v 0 cues ≡ cues_after test cues q.after
    go (yes h) =
        let e : cues ≡ q.after + (cues - q.after) = omega arith in
        let z : 0 + q.after ≡ q.after = omega arith in
        ap (wanted q E v 0) e
        ∙ wanted-append q v E 0 q.after (cues - q.after)
        ∙ rw (wanted-low q v E 0 q.after (omega arith), z) refl
        ∙ keep_same (wants q E v) test (suc q.after) (cues - q.after) (λ u x y. lt_then q.after u _ _ (omega arith) ∙ same u)
    go (no h) =
        let e : cues - q.after ≡ 0 = omega arith in
        rw e (wanted-low q v E 0 cues (omega arith))

-- A cue's own copy: it is sound, the links of the show at the cue are its links, and they lead to
-- no cue behind it.
module _ (bs : List Block) (good : Good bs) (closed : joins_of bs (last_block bs) ≡ 0) (path : List ℕ) (c : ℕ)
    (has : number_in bs (last_block bs) 0 path c ≢ 0) (copy : Frame) (at : after (show_copy bs) path ≡ framed bs copy) where
  abbrev k : ℕ
  k = copy.block

  abbrev base : ℕ
  base = copy.base

  abbrev met : List ℕ
  met = met_of bs copy

  abbrev z : Copy
  z = framed bs copy

  there-is : Arrives bs good path c
  there-is = arrives bs good closed path c has

  pub copy-sound : Sound z
  copy-sound = rw at at there-is.sound

  pub copy-low : Low z
  copy-low = rw at at there-is.low

  copy-under : Under (show_copy bs) z
  copy-under = rw at at there-is.under

  pub copy-own : (1 ≤ c) × (c ≤ (block_at bs k).own)
  copy-own = rw at at there-is.own

  pub copy-number : number z c ≡ number_in bs (last_block bs) 0 path c
  copy-number = rw at at there-is.number_is

  number_is : number z c ≡ base + c
  number_is = cue_at-own (block_at bs k).own base met c copy-own.1

  numbered : InCopy z (number z c)
  numbered = rw number_is (omega (arith, copy-own), omega (arith, copy-own))

  within_count : base + total bs k ≤ count bs
  within_count =
      omega (
        arith,
        under_numbered (show_sound bs good closed) copy-under (base + extent z) (omega (arith, copy-own), omega arith),
        show_count bs good,
        total-at bs good k base met,
      )

  module _ (q : Ask) where
    down : (u : ℕ) → Picked q (show_links bs) (number z c) u → Picked q (links_of bs copy) (number z c) u
    down u p =
        picked_in p
        (rw (links-at bs good k base met)
        (under_link (show_sound bs good closed) copy-under p.link (rw (show_links_at bs good) at p.member)
        (ends-here q p.link (InCopy z) (rw p.from numbered))))

    up : (u : ℕ) → Picked q (links_of bs copy) (number z c) u → Picked q (show_links bs) (number z c) u
    up u p =
        picked_in p
        (rw (show_links_at bs good) (link-under (show_sound bs good closed) copy-under p.link (rw (links-at bs good k base met) at p.member)))

    behind : (u : ℕ) → base + total bs k < u → Picked q (show_links bs) (number z c) u → ⊥
    behind u h p = go (down u p)
      where
        fits : length met ≡ joins_of bs k
        fits = copy-sound.fit.fits ∙ sym (joins_of-at bs k)

        go : Picked q (links_of bs copy) (number z c) u → ⊥
        go d = at-end (both_ends q d.link (Within base (total bs k) met) (links-within bs good k base met fits d.link d.member)).1
          where
            at-end : Within base (total bs k) met (there q d.link) → ⊥
            at-end (inner x y) = omega (arith, d.to)
            at-end (join i) = omega (arith, d.to, copy-low (there q d.link) i)

    pub copy-list : wanted q (links_of bs copy) (number z c) 0 (base + total bs k) ≡ wanted q (show_links bs) (number z c) 0 (count bs)
    copy-list =
        let e : count bs ≡ base + total bs k + (count bs - (base + total bs k)) = omega (arith, within_count) in
        let o : 0 + (base + total bs k) ≡ base + total bs k = omega arith in
        let v : ℕ = number z c in
        sym
        (ap (wanted q (show_links bs) v 0) e
        ∙ wanted-append q v (show_links bs) 0 (base + total bs k) (count bs - (base + total bs k))
        ∙ ap (λ zs. wanted q (show_links bs) v 0 (base + total bs k) ++ zs)
        (rw o (wanted-none q v (show_links bs) (base + total bs k) (count bs - (base + total bs k)) (λ u x y p. behind u x p)))
        ∙ append-nil (wanted q (show_links bs) v 0 (base + total bs k))
        ∙ wanted-same q v (show_links bs) (links_of bs copy) 0 (base + total bs k) (λ u x y p. down u p) (λ u x y p. up u p))

    pub copy-cues : wanted q (links_of bs copy) (number z c) 0 (base + total bs k) ≡ wanted q (show_links bs) (number_in bs (last_block bs) 0 path c) 0 (count bs)
    copy-cues = copy-list ∙ ap (λ v. wanted q (show_links bs) v 0 (count bs)) copy-number

-- With all labels the cues asked for are the list of the model.
pub all-cues : (q : Ask) → AllLabels q → (bs : List Block) → Good bs → (v : ℕ) → wanted q (show_links bs) v 0 (count bs) ≡ linked_cues q.inward bs v q.after
unfolding linked_cues show_links
all-cues q all bs good v = go q.inward refl
  where
    fit : (l : Link) → Memᴰ l (show_links bs) → Labelled l
    fit l i = labels bs good (last_block bs) 0 [] l i

    go : (b : Bool) → q.inward ≡ b → wanted q (show_links bs) v 0 (count bs) ≡ linked_cues q.inward bs v q.after
    go true e =
        wanted-after q (show_links bs) v (count bs) (is_into (show_links bs) v) (λ u. picks-in q all (show_links bs) fit v u e) ∙ sym (true_then q.inward _ _ e)
    go false e =
        wanted-after q (show_links bs) v (count bs) (is_out (show_links bs) v) (λ u. picks-out q all (show_links bs) fit v u e) ∙ sym (true_else q.inward _ _ e)

-- The room does not matter to what is asked for.
module _ (inward : Bool) (lo hi n r s : ℕ) where
  abbrev one : Ask
  one = record { inward = inward; lo = lo; hi = hi; after = n; room = r }

  abbrev other : Ask
  other = record { inward = inward; lo = lo; hi = hi; after = n; room = s }

  picks-alike : (E : List Link) (v u : ℕ) → picks one E v u ≡ picks other E v u
  unfolding picks fits near_end
  picks-alike [] v u = refl
  picks-alike (l ∷ E) v u = rw (picks-alike E v u)

  pub room-alike : (E : List Link) (v size : ℕ) → wanted one E v 0 size ≡ wanted other E v 0 size
  unfolding wanted wants
  room-alike E v size = keep_same (wants one E v) (wants other E v) 1 size (λ u x y. rw (picks-alike E v u))

-- How long a list is.
wanted-short : (q : Ask) (E : List Link) (v size : ℕ) → length (wanted q E v 0 size) ≤ size
unfolding wanted
wanted-short q E v size = omega (arith, keep-short (wants q E v) (range 1 size), range_length 1 size)

-- The page that was filled.
module _ (room g : ℕ) (cues page after : List ℕ) (x : Gives room page 0 cues after g) (cap : room ≡ min (length page) max_total) (few : length cues ≤ max_total) where
  state : ◌≡◌ {A = Filled} (record { page = after; given = g }) (record { page = overwrite (take room cues) page; given = if_lt room (length cues) (room + 1) (length cues) })
  state = x.is ∙ puts-all room page cues (omega arith)

  page-is : after ≡ overwrite (take room cues) page
  page-is = ap (λ (s : Filled). s.page) state

  given_is : g ≡ if_lt room (length cues) (room + 1) (length cues)
  given_is = ap (λ (s : Filled). s.given) state

  is_listed_more : room < g → IsListed cues page after (record { written = room; more = true })
  is_listed_more h = go (dec_lt room (length cues))
    where
      go : Dec (room < length cues) → IsListed cues page after (record { written = room; more = true })
      go (yes l) =
          let e : room ≡ length page = omega arith in
          record { written = omega arith; more = sym (lt-ltb (length page) (length cues) (omega arith)); filled = rw e at page-is }
      go (no l) = absurd (omega (arith, given_is, lt_else room (length cues) (room + 1) (length cues) (omega arith)))

  is_listed_done : g ≤ room → IsListed cues page after (record { written = g; more = false })
  is_listed_done h = go (dec_lt room (length cues))
    where
      go : Dec (room < length cues) → IsListed cues page after (record { written = g; more = false })
      go (yes l) = absurd (omega (arith, given_is, lt_then room (length cues) (room + 1) (length cues) l))
      go (no l) =
          let e : g ≡ length cues = given_is ∙ lt_else room (length cues) (room + 1) (length cues) (omega arith) in
          record {
            written = omega arith;
            more = sym (le-ltb (length page) (length cues) (omega arith));
            filled = page-is ∙ ap (λ us. overwrite us page) (take_all room cues (omega arith) ∙ sym (take_all (length page) cues (omega arith)));
          }

  pub is_listed : (w : ℕ) → w ≡ min g room → IsListed cues page after (record { written = w; more = ltb room g })
  is_listed w e = go (dec_lt room g)
    where
      go : Dec (room < g) → IsListed cues page after (record { written = w; more = ltb room g })
      go (yes h) = let i : w ≡ room = omega arith in rw (i, lt-ltb room g h) (is_listed_more h)
      go (no n) = let i : w ≡ g = omega arith in rw (i, le-ltb room g (omega arith)) (is_listed_done (omega arith))

-- What the question starts from, and what it comes to.
module _ {xs t rows : List ℕ} (g : Loaded xs t) (place : Place) (found : Found xs t rows place) (z : Frame) (at : CopyAt xs t rows place.depth z)
    (q : Ask) (page : List ℕ) (cap : q.room ≡ min (length page) max_total) where
  abbrev bs : List Block
  bs = blocks_of xs

  show : Show xs
  show = loaded-show g

  has : number_in bs (last_block bs) 0 found.path place.own ≢ 0
  has e = omega (arith, found.number, found.some)

  here : after (show_copy bs) found.path ≡ framed bs z
  here = at.at found.path (sym found.depth) found.along

  pub may_answer_begin : MayAnswer q xs z place.own page
  may_answer_begin =
      let own : (1 ≤ place.own) × (place.own ≤ (block_at bs z.block).own) =
      copy-own bs show.good show.no_joins found.path place.own has z here in
      record { copy = at.copy; low = own.0; high = omega (arith, own_of_at bs z.block); room = (omega arith, omega arith, omega arith) }

  module _ (after : List ℕ) (n : ℕ) (answer : Answered q xs z place.own page after n) where
    abbrev cues : List ℕ
    cues = wanted q (show_links bs) place.cue 0 (count bs)

    given : Gives q.room page 0 cues after n
    given =
        rw (← found.number)
        (rw (copy-cues bs show.good show.no_joins found.path place.own has z here q) at
        (answer.gives (copy-sound bs show.good show.no_joins found.path place.own has z here)
        (copy-low bs show.good show.no_joins found.path place.own has z here)))

    few : length cues ≤ max_total
    unfolding count
    few = omega (arith, wanted-short q (show_links bs) place.cue (count bs), show.totals (last_block bs))

    pub listed_by : (w : ℕ) → w ≡ min n q.room → IsListed cues page after (record { written = w; more = ltb q.room n })
    listed_by w e = is_listed q.room n cues page after given cap few w e

-- The two questions: with all labels, and with some of them.
pub is_listed_all : {xs t : List ℕ} (inward : Bool) (n room v : ℕ) (page after : List ℕ) (r : Listed) → Loaded xs t
    → IsListed (wanted (record { inward = inward; lo = 1; hi = max_label; after = n; room = room }) (show_links (blocks_of xs)) v 0 (count (blocks_of xs))) page after r
    → IsListed (linked_cues inward (blocks_of xs) v n) page after r
is_listed_all {xs} inward n room v page after r g l =
    rw (all-cues (record { inward = inward; lo = 1; hi = max_label; after = n; room = room }) (record { lo = refl; hi = refl }) (blocks_of xs) (loaded-show g).good v) at l

pub is_listed_some : (bs : List Block) (lo hi room v : ℕ) (page after : List ℕ) (r : Listed)
    → IsListed (wanted (record { inward = false; lo = lo; hi = hi; after = 0; room = room }) (show_links bs) v 0 (count bs)) page after r
    → IsListed (labelled_cues lo hi bs v) page after r
unfolding labelled_cues
is_listed_some bs lo hi room v page after r l = rw (room-alike false lo hi 0 room 0 (show_links bs) v (count bs)) at l

-- Copies of one block are images of each other: the links of a copy are those of the block alone with its cues renamed, and walks inside
-- the copy are walks of the block alone.
use Prim.Native.Nat.{ℕ, suc, ◌+◌, ◌-◌, ◌≤◌, ◌<◌}
use native.Mathlib.Omega.{arith}
use native.Mathlib.Decide.{dec_lt}
use mathlib.Core.Path.{◌≡◌, refl, sym, ◌∙◌, ap, ap₂}
use mathlib.Core.Bool.{Bool, true, false}
use mathlib.Core.List.{List, [], ◌∷◌, ◌++◌, map, map-map, map-append, Memᴰ}
use lib.ListN.{length, get_or, length-map}
use lib.Dec.{eqb}
use Rattle.model.specs.Blocks.{Link, Use, Block, joins_of, sum_over, total}
use Rattle.model.specs.Unfolding.{cue_at, renamed, uses_links, links}
use Rattle.model.specs.Lists.{range}
use Rattle.model.specs.Summaries.{block_links}
use Rattle.shows.specs.WellFormed.{Cue, GoodUse, Good, more}
use Rattle.shows.proofs.AtBlock.{total-hit, total-skip, joins_of-hit, joins_of-skip, links-hit, links-skip}
use Rattle.distances.specs.Walks.{Walk, stop, step, Price, Linked}
use Rattle.distances.proofs.Walks.{next, lone, walk_carry}
use Rattle.basics.proofs.Members.{get_d_map_in, map-mem, mem_map, map_same, range_length, range-map}
use Rattle.basics.specs.Members.{Apart}
use Rattle.shows.proofs.Ranges.{cue_at-own, cue_at-join}
use Rattle.shows.specs.Copies.{Clear}
use Rattle.shows.proofs.Locality.{cue_at-apart}
use Rattle.distances.proofs.Fewest.{block-ends}

-- f moves the numbers of a range: it takes off d and puts on d'.
abbrev pub Moves : (ℕ → ℕ) → ℕ → ℕ → ℕ → ℕ → Type 0
Moves f d d' base size = (v : ℕ) → base < v → v ≤ base + size → f v + d ≡ v + d'

renamed-same : (f g h : ℕ → ℕ) (l : Link) → g l.from ≡ f (h l.from) → g l.to ≡ f (h l.to) → renamed g l ≡ renamed f (renamed h l)
unfolding renamed
renamed-same f g h l p q = λ i. record { from = p i; to = q i; label = l.label }

module _ (f : ℕ → ℕ) (d d' : ℕ) where
  -- A cue's number in the moved copy is its number moved.
  cue_at-moved : (own base base' : ℕ) (met : List ℕ) (c : ℕ) → 1 ≤ c → c ≤ own + length met → base' + d ≡ base + d' → Moves f d d' base own
      → cue_at own base' (map f met) c ≡ f (cue_at own base met c)
  cue_at-moved own base base' met c low high same moves = go (dec_lt own c)
    where
      go : Dec (own < c) → cue_at own base' (map f met) c ≡ f (cue_at own base met c)
      go (yes h) =
          cue_at-join own base' (map f met) c h ∙ get_d_map_in f met (c - own - 1) (omega arith) ∙ ap f (sym (cue_at-join own base met c h))
      go (no h) =
          let e : base' + c ≡ f (base + c) = omega (arith, moves (base + c) (omega arith) (omega arith)) in
          cue_at-own own base' (map f met) c (omega arith) ∙ e ∙ ap f (sym (cue_at-own own base met c (omega arith)))

  -- Every copy of every block of bs, moved, has its links renamed.
  abbrev Moved : List Block → Type 0
  Moved bs =
      (k base base' : ℕ) (met : List ℕ) → length met ≡ joins_of bs k → base' + d ≡ base + d' → Moves f d d' base (total bs k)
      → links bs k base' (map f met) ≡ map (renamed f) (links bs k base met)

  module _ (b : Block) (earlier : List Block) (below : Moved earlier) (number number' : ℕ → ℕ)
      (agree : (c : ℕ) → Cue b c → number' c ≡ f (number c)) where
    uses-moved : (us : List Use) (base base' : ℕ) → ((u : Use) → Memᴰ u us → GoodUse earlier b u) → base' + d ≡ base + d'
        → Moves f d d' base (sum_over (total earlier) us)
        → uses_links (total earlier) (links earlier) number' base' us ≡ map (renamed f) (uses_links (total earlier) (links earlier) number base us)
    unfolding uses_links sum_over
    uses-moved [] base base' ok same moves = refl
    uses-moved (u ∷ us) base base' ok same moves =
        ap₂ ◌++◌ first
        (uses-moved us (base + total earlier u.block) (base' + total earlier u.block) (λ w i. ok w (Memᴰ.tail i)) (omega arith)
        (λ v x y. moves v (omega arith) (omega arith)))
        ∙ sym (map-append (renamed f) (links earlier u.block base (map number u.at)) _)
      where
        good : GoodUse earlier b u
        good = ok u (Memᴰ.head refl)

        met : map number' u.at ≡ map f (map number u.at)
        met = map_same number' (λ c. f (number c)) u.at (λ c i. agree c (good.cues c i)) ∙ sym (map-map f number u.at)

        first : links earlier u.block base' (map number' u.at) ≡ map (renamed f) (links earlier u.block base (map number u.at))
        first =
            rw met
            (below u.block base base' (map number u.at) (length-map u.at number ∙ good.arity) same (λ v x y. moves v x (omega arith)))

  nil_moved : Moved []
  unfolding links
  nil_moved k base base' met fits same moves = refl

  pub links-moved : (bs : List Block) → Good bs → Moved bs
  links-moved [] good k base base' met fits same moves = nil_moved k base base' met fits same moves
  links-moved (b ∷ earlier) (more ok good) k base base' met fits same moves = go (links-moved earlier good) (eqb k (length earlier)) refl
    where
      go : Moved earlier → (t : Bool) → eqb k (length earlier) ≡ t
          → links (b ∷ earlier) k base' (map f met) ≡ map (renamed f) (links (b ∷ earlier) k base met)
      go below false e =
          rw (links-skip b earlier k base' (map f met) e, links-skip b earlier k base met e)
          (below k base base' met (fits ∙ joins_of-skip b earlier k e) same (rw (total-skip b earlier k e) at moves))
      go below true e =
          rw (links-hit b earlier k base' (map f met) e, links-hit b earlier k base met e)
          (ap₂ ◌++◌ owns
          (uses-moved b earlier below n n' agree b.uses (base + b.own) (base' + b.own) ok.uses (omega arith)
          (λ v x y. hits v (omega arith) (omega arith)))
          ∙ sym (map-append (renamed f) (map (renamed n) b.links) _))
        where
          n : ℕ → ℕ
          n = cue_at b.own base met

          n' : ℕ → ℕ
          n' = cue_at b.own base' (map f met)

          hits : Moves f d d' base (b.own + sum_over (total earlier) b.uses)
          hits = rw (total-hit b earlier k e) at moves

          joins : length met ≡ b.joins
          joins = fits ∙ joins_of-hit b earlier k e

          agree : (c : ℕ) → Cue b c → n' c ≡ f (n c)
          agree c h = cue_at-moved b.own base base' met c h.0 (omega (arith, h.1, joins)) same (λ v x y. hits v x (omega arith))

          owns : map (renamed n') b.links ≡ map (renamed f) (map (renamed n) b.links)
          owns =
              map_same (renamed n') (λ l. renamed f (renamed n l)) b.links
              (λ l i. renamed-same f n' n l (agree l.from (ok.links l i).from) (agree l.to (ok.links l i).to))
              ∙ sym (map-map (renamed f) (renamed n) b.links)

module _ (bs : List Block) (good : Good bs) (k base : ℕ) (met : List ℕ) (fits : length met ≡ joins_of bs k) where
  -- Where a cue of the block alone is in the copy: its joins, which are its last cues, where they meet.
  abbrev pub image : ℕ → ℕ
  image = cue_at (total bs k) base met

  image_meets : map image (range (suc (total bs k)) (joins_of bs k)) ≡ met
  image_meets = rw (← fits) (range-map image (suc (total bs k)) met (λ i h. at i h))
    where
      at : (i : ℕ) → i < length met → image (suc (total bs k) + i) ≡ get_or met i 0
      at i h =
          let e : suc (total bs k) + i - total bs k - 1 ≡ i = omega arith in
          cue_at-join (total bs k) base met (suc (total bs k) + i) (omega arith) ∙ ap (λ (j : ℕ). get_or met j 0) e

  -- The links of a copy are those of the block alone, renamed.
  pub copy-image : links bs k base met ≡ map (renamed image) (block_links bs k)
  unfolding block_links
  copy-image =
      ap (links bs k base) (sym image_meets)
      ∙ links-moved image 0 base bs good k 0 base (range (suc (total bs k)) (joins_of bs k)) (range_length (suc (total bs k)) (joins_of bs k))
      (omega arith) (λ v x y. omega (arith, cue_at-own (total bs k) base met v (omega arith)))

  -- c is a cue of the block alone.
  abbrev pub Alone : ℕ → Type 0
  Alone c = (1 ≤ c) × (c ≤ total bs k + joins_of bs k)

  module _ (price : Price) where
    -- A walk of the block alone is one of the copy.
    pub lower : {a c n : ℕ} → Walk (Linked price (block_links bs k)) c a n → Walk (Linked price (links bs k base met)) (image c) (image a) n
    unfolding renamed
    lower x = walk_carry image (λ u v w e. lone (at u v w e)) x
      where
        at : (u v w : ℕ) → Linked price (block_links bs k) u v w → Linked price (links bs k base met) (image u) (image v) w
        at u v w (l, i, x, y, o) = (renamed image l, rw copy-image (mem_map (renamed image) i), ap image x, ap image y, o)

    module _ (clear : Clear base (total bs k) met) (apart : Apart met) where
      -- Different cues of the block alone have different places in the copy.
      pub image_apart : (c e : ℕ) → Alone c → Alone e → image c ≡ image e → c ≡ e
      image_apart c e x y q =
          cue_at-apart (total bs k) base (total bs k) met clear (omega arith) apart c e (omega (arith, x, fits)) (omega (arith, y, fits)) q

      lift_link : (u v w : ℕ) → Linked price (links bs k base met) u v w
          → (l : Link) × Memᴰ l (block_links bs k) × (image l.from ≡ u) × (image l.to ≡ v) × price l.label w
      unfolding renamed
      lift_link u v w (l, i, x, y, o) =
          let (m, j, e) = map-mem (renamed image) l (block_links bs k) (rw copy-image at i) in
          (m, j, sym (ap (λ (q : Link). q.from) e) ∙ x, sym (ap (λ (q : Link). q.to) e) ∙ y, rw (ap (λ (q : Link). q.label) e) at o)

      -- A walk of the copy from the place of a cue is one of the block alone from that cue.
      pub lift : {v u n : ℕ} (a : ℕ) → Alone a → image a ≡ u → Walk (Linked price (links bs k base met)) v u n
          → (c : ℕ) × Alone c × (image c ≡ v) × Walk (Linked price (block_links bs k)) c a n
      lift a h e (stop p q) = (a, h, e ∙ p, stop refl q)
      lift {v} {u} {n} a h e (step t w m r x q) =
          let (l, i, f, g, o) = lift_link u t w r in
          let (starts, ends) = block-ends bs good k l i in
          let same : a ≡ l.from = image_apart a l.from h starts (e ∙ sym f) in
          let (c, k', s, y) = lift l.to ends g x in
          (c, k', s, next l.to w m (l, i, sym same, refl, o) y q)

      pub lifted : {a c n : ℕ} → Alone a → Alone c → Walk (Linked price (links bs k base met)) (image c) (image a) n
          → Walk (Linked price (block_links bs k)) c a n
      lifted {a} {c} h i x = let (e, j, s, y) = lift a h refl x in rw (image_apart e c j i s) at y

-- Numbers and places name each other: cue n of a copy has the place that `place_in` gives, the number of that place is n again, and no
-- other path and own cue has this number. A path is no longer than its block's number, and leads to the block that owns the cue.
use Prim.Native.Nat.{ℕ, suc, ◌+◌, ◌-◌, ◌≤◌, ◌<◌}
use native.Mathlib.Omega.{arith}
use native.Mathlib.Decide.{ℕ_discrete, dec_le}
use native.Mathlib.Nat.{zero-add, add-zero, add_assoc, sub-zero}
use mathlib.Core.Path.{◌≡◌, refl, sym, ◌∙◌, ap}
use mathlib.Core.Logic.{◌≢◌}
use mathlib.Core.Bool.{Bool, true, false}
use mathlib.Core.List.Memᴰ
use mathlib.Core.List.{List, [], ◌∷◌, Memᴰ}
use lib.ListN.{length}
use lib.Dec.{eqb}
use borrow.Author.Tests.{eqb-true, eqb-false, ne_eqb}
use Rattle.model.specs.Choice.{if_lt}
use Rattle.model.specs.Limits.{max_blocks, max_depth}
use Rattle.model.specs.Blocks.{Use, Block, no_block, block_at, own_of, sum_over, total, last_block, count}
use Rattle.model.specs.Paths.{Place, own_number, uses_number, copy_number, number_in, step_then, uses_place, place_in}
use Rattle.model.specs.Questions.{show_number}
use Rattle.shows.specs.WellFormed.{Good, more}
use Rattle.shows.specs.Numbering.{used_by, block_after, Located, Named, IsPlace, Numbered}
use Rattle.basics.proofs.Choices.{lt_then, lt_else, lt_same, eq_then, eq_else}
use Rattle.shows.proofs.AtBlock.{own_of_hit, own_of_skip, total-hit, total-skip, block_at_hit, block_at_skip, number_in_hit, number_in_skip, place_in_hit, place_in_skip}

-- Use number suc at of some uses is v, after so many cues of the uses before it: what a path and a number find there.
record Nth (size : ℕ → ℕ) (us : List Use) (at : ℕ) (v : Use) (before : ℕ) : Type 0 where
  member : Memᴰ v us
  fits : before + size v.block ≤ sum_over size us
  named : used_by us (suc at) ≡ v.block
  number : (below : ℕ → ℕ → List ℕ → ℕ → ℕ) (base : ℕ) (path : List ℕ) (c : ℕ)
      → uses_number size below base us (suc at) path c ≡ below v.block (base + before) path c
  place : (below : ℕ → ℕ → Place) (j n : ℕ) → 1 ≤ n → n ≤ size v.block
      → uses_place size below (suc j) (before + n) us ≡ step_then (suc (j + at)) (below v.block n)

module _ (size : ℕ → ℕ) (u : Use) (us : List Use) where
  -- The first use.
  nth-first : Nth size (u ∷ us) 0 u 0
  unfolding sum_over used_by uses_number uses_place
  nth-first =
      record {
        member = Memᴰ.head refl;
        fits = omega arith;
        named = eq_then 1 1 _ _ refl;
        number = λ below base path c. rw (add-zero, eq_then 1 1 (below u.block base path c) _ refl);
        place = λ below j n low high. rw (zero-add, add-zero) (lt_else (size u.block) n _ _ high);
      }

  -- A later one.
  nth-later : {at : ℕ} {v : Use} {before : ℕ} → Nth size us at v before → Nth size (u ∷ us) (suc at) v (size u.block + before)
  unfolding sum_over used_by uses_number uses_place
  nth-later {at} {v} {before} x =
      record {
        member = Memᴰ.tail x.member;
        fits = omega (arith, x.fits);
        named = eq_else (suc (suc at)) 1 _ _ (λ e. omega arith) ∙ rw less x.named;
        number = λ below base path c.
            eq_else (suc (suc at)) 1 _ _ (λ e. omega arith)
            ∙ rw (less, ← add_assoc base (size u.block) before) (x.number below (base + size u.block) path c);
        place = λ below j n low high.
            lt_then (size u.block) (size u.block + before + n) _ _ (omega arith)
            ∙ rw (rest n, moved j) (x.place below (suc j) n low high);
      }
    where
      less : suc (suc at) - 1 ≡ suc at
      less = omega arith

      rest : (n : ℕ) → size u.block + before + n - size u.block ≡ before + n
      rest n = omega arith

      moved : (j : ℕ) → j + suc at ≡ suc j + at
      moved j = omega arith

-- Cue n of some uses is cue rest of one of them.
record Falls (size : ℕ → ℕ) (us : List Use) (n : ℕ) : Type 0 where
  at : ℕ
  taken : Use
  before : ℕ
  nth : Nth size us at taken before
  rest : ℕ
  sum : n ≡ before + rest
  low : 1 ≤ rest
  high : rest ≤ size taken.block

-- Every number up to the sum falls into one of the uses.
falls : (size : ℕ → ℕ) (us : List Use) (n : ℕ) → 1 ≤ n → n ≤ sum_over size us → Falls size us n
unfolding sum_over
falls size [] n low high = absurd (omega arith)
falls size (u ∷ us) n low high = go (λ h. falls size us (n - size u.block) (omega arith) (omega arith)) (dec_le n (size u.block))
  where
    go : (size u.block < n → Falls size us (n - size u.block)) → Dec (n ≤ size u.block) → Falls size (u ∷ us) n
    go later (yes h) =
        record { at = 0; taken = u; before = 0; nth = nth-first size u us; rest = n; sum = omega arith; low = low; high = h }
    go later (no h) =
        let f : Falls size us (n - size u.block) = later (omega arith) in
        record {
          at = suc f.at;
          taken = f.taken;
          before = size u.block + f.before;
          nth = nth-later size u us f.nth;
          rest = f.rest;
          sum = omega (arith, f.sum);
          low = f.low;
          high = f.high;
        }

-- A position that has a number is that of one of the uses.
record Enters (size : ℕ → ℕ) (us : List Use) (p : ℕ) : Type 0 where
  at : ℕ
  taken : Use
  before : ℕ
  nth : Nth size us at taken before
  position : p ≡ suc at

-- Position 1 is that of the first use, any other is one among the later uses.
enters : (size : ℕ → ℕ) (below : ℕ → ℕ → List ℕ → ℕ → ℕ) (us : List Use) (base p : ℕ) (path : List ℕ) (c : ℕ)
    → uses_number size below base us p path c ≢ 0 → Enters size us p
unfolding uses_number
enters size below [] base p path c some = absurd (some refl)
enters size below (u ∷ us) base p path c some =
    go (enters size below us (base + size u.block) (p - 1) path c) (eqb p 1) refl
  where
    go : (uses_number size below (base + size u.block) us (p - 1) path c ≢ 0 → Enters size us (p - 1))
        → (t : Bool) → eqb p 1 ≡ t → Enters size (u ∷ us) p
    go later true e = record { at = 0; taken = u; before = 0; nth = nth-first size u us; position = eqb-true p 1 e }
    go later false e =
        let f : Enters size us (p - 1) = later (λ z. some (eq_else p 1 _ _ (eqb-false p 1 e) ∙ z)) in
        record {
          at = suc f.at;
          taken = f.taken;
          before = size u.block + f.before;
          nth = nth-later size u us f.nth;
          position = omega (arith, f.position);
        }

-- The number of an own cue, and that only the block's own cues have one.
own-number : (own base c : ℕ) → 1 ≤ c → c ≤ own → own_number own base c ≡ base + c
unfolding own_number
own-number own base c x y = lt_else c 1 _ _ x ∙ lt_else own c _ _ y

own_range : (own base c : ℕ) → own_number own base c ≢ 0 → (1 ≤ c) × (c ≤ own)
unfolding own_number
own_range own base c some = go (dec_le 1 c) (dec_le c own)
  where
    go : Dec (1 ≤ c) → Dec (c ≤ own) → (1 ≤ c) × (c ≤ own)
    go (yes x) (yes y) = (x, y)
    go (yes x) (no y) = absurd (some (lt_else c 1 _ _ x ∙ lt_then own c _ _ (omega arith)))
    go (no x) d = absurd (some (lt_then c 1 _ _ (omega arith)))

-- A copy of the first block of a list.
module _ (b : Block) (earlier : List Block) (k : ℕ) (e : eqb k (length earlier) ≡ true) where
  -- Its own cues.
  own-place : (c : ℕ) → c ≤ b.own → place_in (b ∷ earlier) k c ≡ record { path = []; block = k; own = c }
  own-place c h = place_in_hit b earlier k c e ∙ lt_else b.own c _ _ h

  copy-number : (base c : ℕ) → number_in (b ∷ earlier) k base [] c ≡ own_number b.own base c
  unfolding copy_number
  copy-number base c = number_in_hit b earlier k base [] c e

  -- Its uses.
  uses-number : (base p : ℕ) (path : List ℕ) (c : ℕ)
      → number_in (b ∷ earlier) k base (p ∷ path) c ≡ uses_number (total earlier) (number_in earlier) (base + b.own) b.uses p path c
  unfolding copy_number
  uses-number base p path c = number_in_hit b earlier k base (p ∷ path) c e

  module _ {at : ℕ} {v : Use} {before : ℕ} (x : Nth (total earlier) b.uses at v before) where
    -- The cues of one of them have the numbers, the places and the room that the use has in the copy.
    use_number : (base : ℕ) (path : List ℕ) (c : ℕ)
        → number_in (b ∷ earlier) k base (suc at ∷ path) c ≡ number_in earlier v.block (base + b.own + before) path c
    use_number base path c = uses-number base (suc at) path c ∙ x.number (number_in earlier) (base + b.own) path c

    use_place : (n : ℕ) → 1 ≤ n → n ≤ total earlier v.block
        → place_in (b ∷ earlier) k (b.own + before + n) ≡ step_then (suc at) (place_in earlier v.block n)
    use_place n low high =
        place_in_hit b earlier k (b.own + before + n) e
        ∙ lt_then b.own (b.own + before + n) _ _ (omega arith)
        ∙ rw rest (rw zero-add at (x.place (place_in earlier) 0 n low high))
      where
        rest : b.own + before + n - b.own ≡ before + n
        rest = omega arith

    use_fits : (n : ℕ) → n ≤ total earlier v.block → b.own + before + n ≤ total (b ∷ earlier) k
    use_fits n high = rw (total-hit b earlier k e) (omega (arith, x.fits))

-- A path and an own cue that have a number in a copy after base: which cue of the copy that is.
record Names (bs : List Block) (k base : ℕ) (path : List ℕ) (c : ℕ) : Type 0 where
  cue : ℕ
  number : number_in bs k base path c ≡ base + cue
  low : 1 ≤ cue
  high : cue ≤ total bs k
  path-back : (place_in bs k cue).path ≡ path
  own_back : (place_in bs k cue).own ≡ c

-- Whatever has a number names a cue.
abbrev AllNames : List Block → Type 0
AllNames bs = (k base : ℕ) (path : List ℕ) (c : ℕ) → number_in bs k base path c ≢ 0 → Names bs k base path c

-- No block, no number.
names-nil : AllNames []
unfolding number_in
names-nil k base path c some = absurd (some refl)

module _ (b : Block) (earlier : List Block) (below : AllNames earlier) (k base : ℕ) where
  -- A path that ends in the copy.
  names-own : (c : ℕ) → eqb k (length earlier) ≡ true → number_in (b ∷ earlier) k base [] c ≢ 0 → Names (b ∷ earlier) k base [] c
  names-own c e some =
      let (x, y) = own_range b.own base c (λ n. some (copy-number b earlier k e base c ∙ n)) in
      record {
        cue = c;
        number = copy-number b earlier k e base c ∙ own-number b.own base c x y;
        low = x;
        high = rw (total-hit b earlier k e) (omega arith);
        path-back = ap (λ (q : Place). q.path) (own-place b earlier k e c y);
        own_back = ap (λ (q : Place). q.own) (own-place b earlier k e c y);
      }

  -- A path that enters one of its uses.
  names_at : {at : ℕ} {v : Use} {before : ℕ} → Nth (total earlier) b.uses at v before → (path : List ℕ) (c : ℕ)
      → eqb k (length earlier) ≡ true → number_in (b ∷ earlier) k base (suc at ∷ path) c ≢ 0
      → Names (b ∷ earlier) k base (suc at ∷ path) c
  unfolding step_then
  names_at {at} {v} {before} x path c e some =
      go (below v.block (base + b.own + before) path c (λ n. some (use_number b earlier k e x base path c ∙ n)))
    where
      go : Names earlier v.block (base + b.own + before) path c → Names (b ∷ earlier) k base (suc at ∷ path) c
      go r =
          record {
            cue = b.own + before + r.cue;
            number = use_number b earlier k e x base path c ∙ r.number ∙ omega arith;
            low = omega (arith, r.low);
            high = use_fits b earlier k e x r.cue r.high;
            path-back = ap (λ (q : Place). q.path) placed ∙ ap (λ (t : List ℕ). suc at ∷ t) r.path-back;
            own_back = ap (λ (q : Place). q.own) placed ∙ r.own_back;
          }
        where
          placed : place_in (b ∷ earlier) k (b.own + before + r.cue) ≡ step_then (suc at) (place_in earlier v.block r.cue)
          placed = use_place b earlier k e x r.cue r.low r.high

  -- The position of that use is known from the number.
  names-use : (p : ℕ) (path : List ℕ) (c : ℕ) → eqb k (length earlier) ≡ true → number_in (b ∷ earlier) k base (p ∷ path) c ≢ 0
      → Names (b ∷ earlier) k base (p ∷ path) c
  names-use p path c e some =
      go (enters (total earlier) (number_in earlier) b.uses (base + b.own) p path c (λ n. some (uses-number b earlier k e base p path c ∙ n)))
    where
      go : Enters (total earlier) b.uses p → Names (b ∷ earlier) k base (p ∷ path) c
      go f = rw f.position (names_at f.nth path c e (rw f.position at some))

  -- A copy of an earlier block.
  names-later : (path : List ℕ) (c : ℕ) → eqb k (length earlier) ≡ false → number_in (b ∷ earlier) k base path c ≢ 0
      → Names (b ∷ earlier) k base path c
  names-later path c e some =
      let r : Names earlier k base path c = below k base path c (λ n. some (number_in_skip b earlier k base path c e ∙ n)) in
      record {
        cue = r.cue;
        number = number_in_skip b earlier k base path c e ∙ r.number;
        low = r.low;
        high = rw (total-skip b earlier k e) r.high;
        path-back = rw (place_in_skip b earlier k r.cue e) r.path-back;
        own_back = rw (place_in_skip b earlier k r.cue e) r.own_back;
      }

all-names : (bs : List Block) → AllNames bs
all-names [] k base path c some = names-nil k base path c some
all-names (b ∷ earlier) k base path c some = go (all-names earlier) path some (eqb k (length earlier)) refl
  where
    go : AllNames earlier → (path : List ℕ) → number_in (b ∷ earlier) k base path c ≢ 0 → (t : Bool) → eqb k (length earlier) ≡ t
        → Names (b ∷ earlier) k base path c
    go below [] some true e = names-own b earlier below k base c e some
    go below (p ∷ path) some true e = names-use b earlier below k base p path c e some
    go below [] some false e = names-later b earlier below k base [] c e some
    go below (p ∷ path) some false e = names-later b earlier below k base (p ∷ path) c e some

-- The other way round: the place of a number.
pub named : (bs : List Block) (k base : ℕ) (path : List ℕ) (c m : ℕ) → number_in bs k base path c ≡ m → m ≢ 0 → Named bs k base path c m
named bs k base path c m e some = rw e at (go (all-names bs k base path c (rw (sym e) at some)))
  where
    go : Names bs k base path c → Named bs k base path c (number_in bs k base path c)
    go r =
        rw r.number
        (record {
          low = omega (arith, r.low);
          high = omega (arith, r.high);
          path-back = rw back r.path-back;
          own_back = rw back r.own_back;
        })
      where
        back : base + r.cue - base ≡ r.cue
        back = omega arith

-- The uses of every block of a well-formed list name blocks of the list.
uses-known : (bs : List Block) → Good bs → (k : ℕ) (u : Use) → Memᴰ u (block_at bs k).uses → u.block < length bs
unfolding block_at no_block
uses-known [] good k u i = absurd (Memᴰ.not-nil i)
uses-known (b ∷ earlier) (more g gs) k u i = go (uses-known earlier gs k u) (eqb k (length earlier)) refl
  where
    go : (Memᴰ u (block_at earlier k).uses → u.block < length earlier) → (t : Bool) → eqb k (length earlier) ≡ t
        → u.block < suc (length earlier)
    go below true e = omega (arith, (g.uses u (rw (block_at_hit b earlier k e) at i)).lower)
    go below false e = omega (arith, below (rw (block_at_skip b earlier k e) at i))

-- A use that is not there counts as one of block 0.
used_by-below : (n : ℕ) (us : List Use) (p : ℕ) → ((u : Use) → Memᴰ u us → u.block < n) → 0 < n → used_by us p < n
unfolding used_by
used_by-below n [] p all h = h
used_by-below n (u ∷ us) p all h = go (used_by-below n us (p - 1) (λ v i. all v (Memᴰ.tail i)) h) (eqb p 1) refl
  where
    go : used_by us (p - 1) < n → (t : Bool) → eqb p 1 ≡ t → used_by (u ∷ us) p < n
    go below true e = rw (eq_then p 1 u.block (used_by us (p - 1)) (eqb-true p 1 e)) (all u (Memᴰ.head refl))
    go below false e = rw (eq_else p 1 u.block (used_by us (p - 1)) (eqb-false p 1 e)) below

-- A path goes on from the block of the use that it enters.
block_after-use : (bs : List Block) (k p j : ℕ) (path : List ℕ) → used_by (block_at bs k).uses p ≡ j
    → block_after bs k (p ∷ path) ≡ block_after bs j path
unfolding block_after
block_after-use bs k p j path e = ap (λ (i : ℕ). block_after bs i path) e

-- A path that begins in an earlier block stays among the earlier blocks.
block_after-skip : (b : Block) (earlier : List Block) → Good earlier → (k : ℕ) (path : List ℕ) → k < length earlier
    → block_after (b ∷ earlier) k path ≡ block_after earlier k path
unfolding block_after
block_after-skip b earlier good k [] l = refl
block_after-skip b earlier good k (p ∷ path) l =
    rw (block_at_skip b earlier k (ne_eqb k (length earlier) (λ e. omega arith)))
    (block_after-skip b earlier good (used_by (block_at earlier k).uses p) path
    (used_by-below (length earlier) (block_at earlier k).uses p (uses-known earlier good k) (omega arith)))

-- Every cue of every block has the place that is given for it.
abbrev AllLocated : List Block → Type 0
AllLocated bs = (k n : ℕ) → k < length bs → 1 ≤ n → n ≤ total bs k → Located bs k n (place_in bs k n)

module _ (b : Block) (earlier : List Block) (gs : Good earlier) (k : ℕ) where
  -- An earlier block's own cues, said of the whole list.
  owned-later : (q : Place) → q.block < length earlier → (1 ≤ q.own) × (q.own ≤ own_of earlier q.block)
      → (1 ≤ q.own) × (q.own ≤ own_of (b ∷ earlier) q.block)
  owned-later q l o = rw (own_of_skip b earlier q.block (ne_eqb q.block (length earlier) (λ e. omega arith))) o

  -- A cue of an earlier block.
  located-later : {n : ℕ} {q : Place} → eqb k (length earlier) ≡ false → k < length earlier → Located earlier k n q
      → Located (b ∷ earlier) k n q
  located-later {n} {q} e l r =
      record {
        number = λ base. number_in_skip b earlier k base q.path q.own e ∙ r.number base;
        depth = r.depth;
        leads = block_after-skip b earlier gs k q.path l ∙ r.leads;
        known = omega (arith, r.known);
        owned = owned-later q r.known r.owned;
      }

  module _ (e : eqb k (length earlier) ≡ true) where
    -- An own cue of the first block.
    located-own : (n : ℕ) → 1 ≤ n → n ≤ b.own → Located (b ∷ earlier) k n (record { path = []; block = k; own = n })
    unfolding block_after
    located-own n low high =
        record {
          number = λ base. copy-number b earlier k e base n ∙ own-number b.own base n low high;
          depth = omega arith;
          leads = refl;
          known = omega (arith, eqb-true k (length earlier) e);
          owned = (low, rw (own_of_hit b earlier k e) high);
        }

    -- A cue of one of its uses.
    located-use : {at : ℕ} {v : Use} {before n : ℕ} {q : Place} → Nth (total earlier) b.uses at v before → v.block < length earlier
        → Located earlier v.block n q → Located (b ∷ earlier) k (b.own + before + n) (step_then (suc at) q)
    unfolding step_then
    located-use {at} {v} {before} {n} {q} x l r =
        record {
          number = λ base. use_number b earlier k e x base q.path q.own ∙ r.number (base + b.own + before) ∙ omega arith;
          depth = omega (arith, r.depth, eqb-true k (length earlier) e);
          leads =
              block_after-use (b ∷ earlier) k (suc at) v.block q.path (rw (block_at_hit b earlier k e) x.named)
              ∙ block_after-skip b earlier gs v.block q.path l
              ∙ r.leads;
          known = omega (arith, r.known);
          owned = owned-later q r.known r.owned;
        }

-- The place that is given for a number is its place.
pub located : (bs : List Block) → Good bs → AllLocated bs
located [] good k n l low high = absurd (omega arith)
located (b ∷ earlier) (more g gs) k n l low high = go (located earlier gs) (eqb k (length earlier)) refl
  where
    go : AllLocated earlier → (t : Bool) → eqb k (length earlier) ≡ t → Located (b ∷ earlier) k n (place_in (b ∷ earlier) k n)
    go below false e =
        let h : k < length earlier = omega (arith, eqb-false k (length earlier) e) in
        rw (place_in_skip b earlier k n e) (located-later b earlier gs k e h (below k n h low (rw (total-skip b earlier k e) at high)))
    go below true e = choose (dec_le n b.own)
      where
        inside : Falls (total earlier) b.uses (n - b.own) → b.own < n → Located (b ∷ earlier) k n (place_in (b ∷ earlier) k n)
        inside f h =
            rw (whole, use_place b earlier k e f.nth f.rest f.low f.high)
            (located-use b earlier gs k e f.nth lower (below f.taken.block f.rest lower f.low f.high))
          where
            whole : n ≡ b.own + f.before + f.rest
            whole = omega (arith, f.sum)

            lower : f.taken.block < length earlier
            lower = (g.uses f.taken f.nth.member).lower

        choose : Dec (n ≤ b.own) → Located (b ∷ earlier) k n (place_in (b ∷ earlier) k n)
        choose (yes h) = rw (own-place b earlier k e n h) (located-own b earlier gs k e n low h)
        choose (no h) = inside (falls (total earlier) b.uses (n - b.own) (omega arith) (omega (arith, rw (total-hit b earlier k e) at high))) (omega arith)

-- A show with a cue has a block.
show_known : (bs : List Block) → 1 ≤ count bs → last_block bs < length bs
unfolding count last_block total
show_known [] h = absurd (omega arith)
show_known (b ∷ earlier) h = omega arith

-- In the show, numbers and places name each other.
pub numbering : (bs : List Block) → Good bs → Numbered bs
unfolding count
numbering bs good = record { each = each; range = λ path c. range path c (ℕ_discrete (number_in bs (last_block bs) 0 path c) 0) }
  where
    each : (n : ℕ) → 1 ≤ n → n ≤ count bs → IsPlace bs n (place_in bs (last_block bs) n)
    each n low high =
        record {
          located = r;
          number = rw zero-add at (r.number 0);
          only = λ path c e. only path c (named bs (last_block bs) 0 path c n e (λ z. omega arith));
        }
      where
        r : Located bs (last_block bs) n (place_in bs (last_block bs) n)
        r = located bs good (last_block bs) n (show_known bs (omega arith)) low high

        only : (path : List ℕ) (c : ℕ) → Named bs (last_block bs) 0 path c n
            → (path ≡ (place_in bs (last_block bs) n).path) × (c ≡ (place_in bs (last_block bs) n).own)
        only path c h = (sym (rw sub-zero at h.path-back), sym (rw sub-zero at h.own_back))

    range : (path : List ℕ) (c : ℕ) → Dec (number_in bs (last_block bs) 0 path c ≡ 0) → number_in bs (last_block bs) 0 path c ≤ count bs
    range path c (yes e) = omega arith
    range path c (no e) = rw zero-add at (named bs (last_block bs) 0 path c _ refl e).high

-- With at most 128 blocks no path of a cue is over 127 long, so that the length alone refuses no path that has a number.
pub never_too_deep : (bs : List Block) → Good bs → length bs ≤ max_blocks → (path : List ℕ) (c : ℕ)
    → show_number bs path c ≡ number_in bs (last_block bs) 0 path c
unfolding show_number last_block
never_too_deep bs good few path c = go (ℕ_discrete (number_in bs (last_block bs) 0 path c) 0)
  where
    n : ℕ
    n = number_in bs (last_block bs) 0 path c

    deep : IsPlace bs n (place_in bs (last_block bs) n) → length path ≤ last_block bs
    deep p = rw (p.only path c refl).0 p.located.depth

    go : Dec (n ≡ 0) → if_lt max_depth (length path) 0 n ≡ n
    go (yes e) = lt_same max_depth (length path) 0 n e
    go (no e) =
        lt_else max_depth (length path) 0 n (omega (arith, deep ((numbering bs good).each n (omega arith) ((numbering bs good).range path c))))

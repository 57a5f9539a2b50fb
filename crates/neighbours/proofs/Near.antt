-- What a block's own rows and the table say of a copy of it: which of its cues are linked, that
-- nothing inside is, and what the parts of the copy add to the list of a cue.
use Prim.Native.Nat.{ℕ, ◌+◌, ◌-◌, ◌/◌, ◌%◌, ◌≤◌, ◌<◌}
use native.Mathlib.Omega.{arith}
use mathlib.Core.Path.{◌≡◌, refl, sym, ◌∙◌, ap}
use mathlib.Core.Logic.{◌↔◌, ◌⊎◌, inl, inr}
use mathlib.Core.List.Memᴰ
use mathlib.Core.List.{List, [], Memᴰ}
use lib.ListN.{length, get_or, take, drop, length-take, length-drop, length-map}
use lib.Seq.{get_or-take}
use Rattle.std.proofs.lemmas.List.{get_or-drop}
use Rattle.model.specs.Limits.{max_joins, max_own}
use Rattle.model.specs.Blocks.{Link, Use, Block, block_at, joins_of, own_of, total}
use Rattle.model.specs.Unfolding.{renamed, links}
use Rattle.shows.specs.WellFormed.{Cue, GoodLink}
use Rattle.basics.proofs.Members.{get_d_mem, mem_at, map-mem, mem_map, get_d_map_in}
use Rattle.shows.proofs.Ranges.{Within, inner, join, parts_from-use, parts_from-of, Inside, uses-copy, links-within, number-own, part-use, arity, cue_at-own, cue_at-join}
use Rattle.shows.specs.Copies.{Part, Copy, number, own-links, part-links, all-links, meets, size, copy_of, Sound, IsPart, InCopy, part-copy}
use Rattle.shows.proofs.BlockAt.{total-at, links-at, joins_of-at, own_of_at}
use Rattle.shows.proofs.Locality.{part-own, not-inside, link-part, part-link, number-apart, part_sound, part-total, numbered-cases}
use Rattle.neighbours.specs.declared.Ask.{Ask}
use Rattle.neighbours.specs.Picks.{here, there, Picked, wanted}
use Rattle.neighbours.specs.Near.{Flag, Near, by-link, by-use, KnownOwn, Exact, RecordsReady}
use Rattle.neighbours.specs.Records.{record_size, inside_at, bits_at, record_at, HasRecord, bit_at, own_bit}
use Rattle.neighbours.proofs.Picked.{ends_there, both_ends, here-renamed, there-renamed, wanted-none, wanted-same}

-- The same link in another list.
pub picked_in : {q : Ask} {E F : List Link} {v u : ℕ} (p : Picked q E v u) → Memᴰ p.link F → Picked q F v u
picked_in p i = record { link = p.link; member = i; label = p.label; from = p.from; to = p.to }

label-renamed : (f : ℕ → ℕ) (l : Link) → (renamed f l).label ≡ l.label
unfolding renamed
label-renamed f l = refl

module _ (q : Ask) (bs : List Block) (m : List ℕ) (k base : ℕ) (met : List ℕ) (g : Sound (copy_of bs k base met)) where
  abbrev z : Copy
  z = copy_of bs k base met

  abbrev E : List Link
  E = all-links z

  -- A cue of the block that is an end of a link of a part is met by a join of the part.
  meets_at : (p : Part) → IsPart z p → (c : ℕ) → Cue (block_at bs k) c → Within p.base (size z p) (meets z p) (number z c)
      → (i : ℕ) × (i < length p.of.at) × (get_or p.of.at i 0 ≡ c)
  meets_at p i c h (inner x y) = absurd (not-inside g p (number z c) i (number-own g.fit c h) (x, y))
  meets_at p i c h (join j) =
      let (n, l, e) = mem_at (number z c) j in
      let s : n < length p.of.at = omega (arith, length-map p.of.at (number z)) in
      let o : Cue (block_at bs k) (get_or p.of.at n 0) = (part-use g.fit p i).cues (get_or p.of.at n 0) (get_d_mem p.of.at n s) in
      (n, s, number-apart g (get_or p.of.at n 0) c o h (sym (get_d_map_in (number z) p.of.at n s) ∙ e))

  -- What a join of a part meets.
  pub met_at : (p : Part) (i c : ℕ) → i < length p.of.at → get_or p.of.at i 0 ≡ c → get_or (meets z p) i 0 ≡ number z c
  met_at p i c h e = get_d_map_in (number z) p.of.at i h ∙ ap (number z) e

  pub joins_at : (p : Part) → IsPart z p → (i : ℕ) → i < length p.of.at → i < joins_of bs p.of.block
  joins_at p i n h = omega (arith, (part-use g.fit p i).arity)

  use_in : (p : Part) → IsPart z p → Memᴰ p.of (block_at bs k).uses
  use_in p i = parts_from-use (total bs) (base + (block_at bs k).own) (block_at bs k).uses p i

  exact-at : (c : ℕ) → RecordsReady q bs m k c → (p : Part) → IsPart z p → (i : ℕ) → i < length p.of.at → get_or p.of.at i 0 ≡ c → Exact q bs m p.of.block i
  exact-at c ready p o i h e = ready.table.exact p.of.block i (joins_at p o i h) ((ready.done.at p.of (use_in p o)).at i h e)

  -- Linked cues of the block.
  pub near_picked : (c d : ℕ) → RecordsReady q bs m k c → Near q m (block_at bs k) c d → Picked q E (number z c) (number z d)
  near_picked c d ready (by-link l i a x y) =
      record {
        link = renamed (number z) l;
        member = Memᴰ.append_left (part-links z) (mem_map (renamed (number z)) i);
        label = rw (label-renamed (number z) l) a;
        from = here-renamed q (number z) l ∙ ap (number z) x;
        to = there-renamed q (number z) l ∙ ap (number z) y;
      }
  near_picked c d ready (by-use u w i j x y a b f) =
      let (p, o, e) = parts_from-of (total bs) (base + (block_at bs k).own) (block_at bs k).uses u w in
      let s : Flag m p.of.block i j = rw e f in
      let x' : i < length p.of.at = rw e x in
      let y' : j < length p.of.at = rw e y in
      let t : Picked q (part-own z p) (get_or (meets z p) i 0) (get_or (meets z p) j 0) =
      ((exact-at c ready p o i x' (rw e a)).across p.base (meets z p) (part_sound g p o) j (joins_at p o j y')).0 s in
      let r : Picked q E (get_or (meets z p) i 0) (get_or (meets z p) j 0) = picked_in t (link-part g p o t.link t.member) in
      rw (met_at p i c x' (rw e a), met_at p j d y' (rw e b)) at r

  -- A link of a part that has the cue c as its end here: a join of the part meets it.
  here-met : (p : Part) (i : IsPart z p) (l : Link) → Memᴰ l (part-own z p) → (c : ℕ) → Cue (block_at bs k) c → here q l ≡ number z c
      → (n : ℕ) × (n < length p.of.at) × (get_or p.of.at n 0 ≡ c)
  here-met p i l j c h e =
      meets_at p i c h
      (rw e at (both_ends q l (Within p.base (size z p) (meets z p)) (links-within bs g.good p.of.block p.base (meets z p) (arity g.fit p i) l j)).0)

  there-met : (p : Part) (i : IsPart z p) (l : Link) → Memᴰ l (part-own z p) → (c : ℕ) → Cue (block_at bs k) c → there q l ≡ number z c
      → (n : ℕ) × (n < length p.of.at) × (get_or p.of.at n 0 ≡ c)
  there-met p i l j c h e =
      meets_at p i c h
      (rw e at (both_ends q l (Within p.base (size z p) (meets z p)) (links-within bs g.good p.of.block p.base (meets z p) (arity g.fit p i) l j)).1)

  pub picked_near : (c d : ℕ) → RecordsReady q bs m k c → Cue (block_at bs k) c → Cue (block_at bs k) d → Picked q E (number z c) (number z d) → Near q m (block_at bs k) c d
  unfolding renamed
  picked_near c d ready x y t = go (Memᴰ.append_cases (own-links z) t.member)
    where
      ends : (l : Link) → GoodLink (block_at bs k) l → Cue (block_at bs k) (here q l) × Cue (block_at bs k) (there q l)
      ends l o = both_ends q l (Cue (block_at bs k)) (o.from, o.to)

      go : Memᴰ t.link (own-links z) ⊎ Memᴰ t.link (part-links z) → Near q m (block_at bs k) c d
      go (inl i) =
          let (l, j, e) = map-mem (renamed (number z)) t.link (block_at bs k).links i in
          let (a, b) = ends l (g.fit.good.links l j) in
          by-link l j (rw e at t.label)
          (number-apart g (here q l) c a x (sym (here-renamed q (number z) l) ∙ (rw e at t.from)))
          (number-apart g (there q l) d b y (sym (there-renamed q (number z) l) ∙ (rw e at t.to)))
      go (inr i) =
          let (p, o, j) = uses-copy (total bs) (links bs) (number z) (base + (block_at bs k).own) (block_at bs k).uses t.link i in
          let (a, ah, ae) = here-met p o t.link j c x t.from in
          let (b, bh, be) = there-met p o t.link j d y t.to in
          let r : Picked q (part-own z p) (get_or (meets z p) a 0) (get_or (meets z p) b 0) =
          rw (met_at p a c ah ae, met_at p b d bh be) (picked_in t j) in
          by-use p.of (parts_from-use (total bs) (base + (block_at bs k).own) (block_at bs k).uses p o) a b ah bh ae be
          (((exact-at c ready p o a ah ae).across p.base (meets z p) (part_sound g p o) b (joins_at p o b bh)).1 r)

  -- A cue of the block that is linked to a number of a part is met by a join of the part, and
  -- linked to it there.
  pub picked_part : (p : Part) → IsPart z p → (u : ℕ) → Inside (total bs) p u → (v : ℕ) → Picked q E v u → Picked q (part-own z p) v u
  picked_part p i u h v t =
      picked_in t (part-link g p i t.link t.member (ends_there q t.link (λ w. Inside (total bs) p w) (rw t.to h)))

  pub part-picked : (p : Part) → IsPart z p → (u v : ℕ) → Picked q (part-own z p) v u → Picked q E v u
  part-picked p i u v t = picked_in t (link-part g p i t.link t.member)

  pub picked_met : (p : Part) → IsPart z p → (c u : ℕ) → Cue (block_at bs k) c → Picked q (part-own z p) (number z c) u
      → (n : ℕ) × (n < length p.of.at) × (get_or p.of.at n 0 ≡ c)
  picked_met p i c u h t = here-met p i t.link t.member c h t.from

  -- The cues that a part adds to the list of a cue of the block: those that the part lists itself,
  -- or none if it does not meet the cue, or the table says that there are none.
  pub wanted-part : (p : Part) → IsPart z p → (v : ℕ) → wanted q E v p.base (total bs p.of.block) ≡ wanted q (part-own z p) v p.base (total bs p.of.block)
  wanted-part p i v =
      wanted-same q v E (part-own z p) p.base (total bs p.of.block) (λ u x y t. picked_part p i u (x, y) v t) (λ u x y t. part-picked p i u v t)

  pub wanted-apart : (p : Part) → IsPart z p → (c : ℕ) → Cue (block_at bs k) c
      → ((n : ℕ) → n < length p.of.at → get_or p.of.at n 0 ≡ c → ⊥) → wanted q E (number z c) p.base (total bs p.of.block) ≡ []
  wanted-apart p i c h n =
      wanted-none q (number z c) E p.base (total bs p.of.block)
      (λ u x y t. let (a, l, e) = picked_met p i c u h (picked_part p i u (x, y) (number z c) t) in n a l e)

  pub wanted-clear : (p : Part) → IsPart z p → (c n : ℕ) → RecordsReady q bs m k c → n < length p.of.at → get_or p.of.at n 0 ≡ c
      → (Flag m p.of.block n inside_at → ⊥) → wanted q E (number z c) p.base (total bs p.of.block) ≡ []
  wanted-clear p i c n ready h e f =
      wanted-none q (number z c) E p.base (total bs p.of.block)
      (λ u x y t. (exact-at c ready p i n h e).inside p.base (meets z p) (part_sound g p i) f u x y
      (rw (met_at p n c h e) (picked_part p i u (x, y) (number z c) t)))

  -- Nothing inside is linked to a cue of the block: none of its own cues, and nothing in a part
  -- that meets it.
  pub nothing_inside : (c : ℕ) → RecordsReady q bs m k c → Cue (block_at bs k) c → ((d : ℕ) → 1 ≤ d → d ≤ (block_at bs k).own → Near q m (block_at bs k) c d → ⊥)
      → ((w : Use) → Memᴰ w (block_at bs k).uses → (n : ℕ) → n < length w.at → get_or w.at n 0 ≡ c → Flag m w.block n inside_at → ⊥)
      → (u : ℕ) → InCopy z u → Picked q E (number z c) u → ⊥
  nothing_inside c ready h own uses u r t = go (numbered-cases g u r)
    where
      go : ((d : ℕ) × (1 ≤ d) × (d ≤ (block_at bs k).own) × (number z d ≡ u)) ⊎ ((p : Part) × IsPart z p × InCopy (part-copy z p) u) → ⊥
      go (inl (d, a, b, e)) = own d a b (picked_near c d ready h (a, omega arith) (rw e t))
      go (inr (p, i, o)) =
          let s : Picked q (part-own z p) (number z c) u = picked_part p i u (omega (arith, o, part-total g p i)) (number z c) t in
          let (n, l, e) = picked_met p i c u h s in
          (exact-at c ready p i n l e).inside p.base (meets z p) (part_sound g p i)
          (λ f. uses p.of (parts_from-use (total bs) (base + (block_at bs k).own) (block_at bs k).uses p i) n l e f)
          u o.0 (omega (arith, o, part-total g p i)) (rw (met_at p n c l e) s)

  -- Join i is the cue behind the own ones and i joins.
  pub join_number : (i : ℕ) → number z ((block_at bs k).own + 1 + i) ≡ get_or met i 0
  join_number i =
      let e : (block_at bs k).own + 1 + i - (block_at bs k).own - 1 ≡ i = omega arith in
      rw e at (cue_at-join (block_at bs k).own base met ((block_at bs k).own + 1 + i) (omega arith))

  pub join_cue_lem : (i : ℕ) → i < joins_of bs k → Cue (block_at bs k) ((block_at bs k).own + 1 + i)
  join_cue_lem i h = omega (arith, joins_of-at bs k)

-- A record whose bits are the linked own cues of cue c.
pub known_own_near : (q : Ask) (bs : List Block) (m w : List ℕ) (at k c : ℕ) → RecordsReady q bs m k c → Cue (block_at bs k) c
    → ((d : ℕ) → 1 ≤ d → d ≤ (block_at bs k).own → (own_bit w (at + bits_at) d ≡ 1) ↔ Near q m (block_at bs k) c d) → KnownOwn q bs w at k c
known_own_near q bs m w at k c ready cue bits =
    record {
      own = λ base met g d x y.
          let h : d ≤ (block_at bs k).own = omega (arith, own_of_at bs k) in
          let num : number (copy_of bs k base met) d ≡ base + d = cue_at-own (block_at bs k).own base met d h in
          rw (links-at bs g.good k base met, ← num)
          (λ f. near_picked q bs m k base met g c d ready ((bits d x h).0 f), λ t. (bits d x h).1 (picked_near q bs m k base met g c d ready cue (x, omega arith) t));
    }

-- What makes a table right for join i of block k.
pub record Right (q : Ask) (bs : List Block) (m w : List ℕ) (k i : ℕ) : Type 0 where
  pub bits : (d : ℕ) → 1 ≤ d → d ≤ (block_at bs k).own → (own_bit w (record_at k i + bits_at) d ≡ 1) ↔ Near q m (block_at bs k) ((block_at bs k).own + 1 + i) d
  pub across : (j : ℕ) → j < joins_of bs k → Flag w k i j ↔ Near q m (block_at bs k) ((block_at bs k).own + 1 + i) ((block_at bs k).own + 1 + j)
  pub own : (Flag w k i inside_at → ⊥) → (d : ℕ) → 1 ≤ d → d ≤ (block_at bs k).own → Near q m (block_at bs k) ((block_at bs k).own + 1 + i) d → ⊥
  pub uses : (Flag w k i inside_at → ⊥) → (u : Use) → Memᴰ u (block_at bs k).uses → (n : ℕ) → n < length u.at
      → get_or u.at n 0 ≡ (block_at bs k).own + 1 + i → Flag m u.block n inside_at → ⊥

pub exact-join : (q : Ask) (bs : List Block) (m w : List ℕ) (k i : ℕ) → RecordsReady q bs m k ((block_at bs k).own + 1 + i) → i < joins_of bs k → Right q bs m w k i → Exact q bs w k i
exact-join q bs m w k i ready h r =
    record {
      across = λ base met g j l. rw (links-at bs g.good k base met, ← join_number q bs m k base met g i, ← join_number q bs m k base met g j)
          (λ f. near_picked q bs m k base met g (c i) (c j) ready ((r.across j l).0 f), λ t. (r.across j l).1 (picked_near q bs m k base met g (c i) (c j) ready (join_cue_lem q bs m k base met g i h) (join_cue_lem q bs m k base met g j l) t));
      inside = λ base met g n u x y t. nothing_inside q bs m k base met g (c i) ready (join_cue_lem q bs m k base met g i h)
          (r.own n) (r.uses n) u (omega (arith, total-at bs g.good k base met)) (rw (join_number q bs m k base met g i) (rw (links-at bs g.good k base met) at t));
      known = rw (own_of_at bs k) (known_own_near q bs m w (record_at k i) k (c i) ready (omega (arith, joins_of-at bs k)) r.bits);
    }
  where
    c : ℕ → ℕ
    c i = (block_at bs k).own + 1 + i

-- A table that agrees with it up to there is right too.
same_bit : (m w : List ℕ) (at d : ℕ) → get_or w (at + (d - 1) / 8) 0 ≡ get_or m (at + (d - 1) / 8) 0 → own_bit w at d ≡ own_bit m at d
unfolding own_bit
same_bit m w at d e = ap (λ (b : ℕ). bit_at b ((d - 1) % 8)) e

pub exact_same : (q : Ask) (bs : List Block) (m w : List ℕ) (k i : ℕ) → own_of bs k ≤ max_own → joins_of bs k ≤ max_joins
    → ((n : ℕ) → n < record_size → get_or w (record_at k i + n) 0 ≡ get_or m (record_at k i + n) 0) → Exact q bs m k i → Exact q bs w k i
exact_same q bs m w k i o b s x =
    record {
      across = λ base met g j l. rw (s j (omega arith)) (x.across base met g j l);
      inside = λ base met g f u. x.inside base met g (rw (s inside_at (omega arith)) at f) u;
      known = record { own = λ base met g d y z. rw (same_bit m w (record_at k i + bits_at) d (byte g d z)) (x.known.own base met g d y z) };
    }
  where
    byte : {base : ℕ} {met : List ℕ} → Sound (copy_of bs k base met) → (d : ℕ) → d ≤ own_of bs k
        → get_or w (record_at k i + bits_at + (d - 1) / 8) 0 ≡ get_or m (record_at k i + bits_at + (d - 1) / 8) 0
    byte g d z =
        let e : record_at k i + bits_at + (d - 1) / 8 ≡ record_at k i + (bits_at + (d - 1) / 8) = omega arith in
        rw e (s (bits_at + (d - 1) / 8) (omega arith))

-- A part of the table that is the record from `at` on.
pub known_own_part : (q : Ask) (bs : List Block) (m part : List ℕ) (at k c n : ℕ) → part ≡ take n (drop at m) → n ≡ record_size → own_of bs k ≤ max_own
    → KnownOwn q bs m at k c → KnownOwn q bs part 0 k c
unfolding own_bit
known_own_part q bs m part at k c n is e few known = record { own = λ base met g d x y. rw (bit d y) (known.own base met g d x y) }
  where
    bit : (d : ℕ) → d ≤ own_of bs k → own_bit part (0 + bits_at) d ≡ own_bit m (at + bits_at) d
    bit d y =
        let f : at + (0 + bits_at + (d - 1) / 8) ≡ at + bits_at + (d - 1) / 8 = omega arith in
        ap (λ (b : ℕ). bit_at b ((d - 1) % 8))
        (ap (λ (l : List ℕ). get_or l (0 + bits_at + (d - 1) / 8) 0) is
        ∙ get_or-take n (drop at m) (0 + bits_at + (d - 1) / 8) 0 (omega arith)
        ∙ get_or-drop at m (0 + bits_at + (d - 1) / 8) 0
        ∙ ap (λ (x : ℕ). get_or m x 0) f)

pub part_long : (m : List ℕ) (at n : ℕ) → n ≡ record_size → HasRecord m at → HasRecord (take n (drop at m)) 0
part_long m at n e room = omega (arith, length-take n (drop at m), length-drop at m)

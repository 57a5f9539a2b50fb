-- Estimates on a block's own cues: a walk inside a copy between two of the block's cues is a walk over the block's links and over the
-- walks between joins of the blocks it uses, in the block's own numbering. So estimates that no such edge improves bound every walk.
use Prim.Native.Nat.{ℕ, suc, ◌+◌, ◌*◌, ◌-◌, ◌≤◌, ◌<◌}
use native.Mathlib.Nat.{mul-le-mul_right}
use native.Mathlib.Omega.{arith}
use mathlib.Core.Path.{◌≡◌, refl, sym, ◌∙◌, ap}
use mathlib.Core.List.{List, Memᴰ}
use lib.ListN.{length, get_or, length-map}
use Rattle.model.specs.Blocks.{Link, joins_of, total}
use Rattle.model.specs.Unfolding.{cue_at, renamed, links}
use Rattle.model.specs.Lists.{range}
use Rattle.shows.specs.WellFormed.{Cue, GoodLink, GoodUse}
use Rattle.distances.specs.Walks.{Walk, stop, step, Price, Linked}
use Rattle.distances.proofs.Walks.{next, lone, walk_map, walk_carry, walk_lighter, walk_append, reweigh, edges, weighs_at_most}
use Rattle.distances.proofs.Chains.{walk_weaken}
use Rattle.distances.proofs.Pigeonhole.{shorten}
use Rattle.basics.proofs.Members.{get_d_mem, mem_at, map-mem, mem_map, get_d_map_in, range-mem, range_length}
use Rattle.shows.specs.Copies.{Part, Copy, number, all-links, meets, size, Sound, IsPart}
use Rattle.shows.proofs.Ranges.{parts_from-of, parts_from-use, number-own, part-use, arity, cue_at-join}
use Rattle.distances.proofs.Fewest.{Starts}
use Rattle.shows.proofs.BlockAt.{Lower}
use Rattle.shows.proofs.Locality.{link-part, part-clear, number-apart, meets-apart}
use Rattle.distances.proofs.Contraction.{Crossing, local, across, contracted, from-edge, own}
use Rattle.distances.proofs.Images.{lower, lifted}
use Rattle.distances.specs.Tells.{Join, met_by, Local, by-link, by-use, JoinWalk, ExactTable, Tells}

module _ (price : Price) {z : Copy} (g : Sound z) where
  -- A part's join i has the number of the cue that it meets.
  pub outlet : (p : Part) → IsPart z p → (i : ℕ) → Join z.blocks p.of.block i
      → cue_at (size z p) p.base (meets z p) (size z p + i) ≡ number z (met_by p.of i)
  outlet p m i h =
      let n : length p.of.at ≡ joins_of z.blocks p.of.block = (part-use g.fit p m).arity in
      let e : size z p + i - size z p - 1 ≡ i - 1 = omega arith in
      cue_at-join (size z p) p.base (meets z p) (size z p + i) (omega arith)
      ∙ ap (λ (k : ℕ). get_or (meets z p) k 0) e
      ∙ get_d_map_in (number z) p.of.at (i - 1) (omega arith)

  -- An edge between two cues of the block, and their numbers in the copy.
  pub record EdgeBetween (table : ℕ → ℕ → ℕ → ℕ → Type 0) (u v w : ℕ) : Type 0 where
    pub start : ℕ
    pub finish : ℕ
    pub start-cue : Cue z.block start
    pub finish_cue : Cue z.block finish
    pub start-at : number z start ≡ u
    pub finish_at : number z finish ≡ v
    pub edge : Local price table z.blocks z.block start finish w

  -- The place of a cue among those that a part's joins meet.
  pub join_at : (p : Part) → IsPart z p → (v : ℕ) → Memᴰ v (meets z p)
      → (i : ℕ) × Join z.blocks p.of.block i × Cue z.block (met_by p.of i) × (number z (met_by p.of i) ≡ v)
  join_at p m v j =
      let (i, h, e) = mem_at v j in
      let u : GoodUse z.blocks z.block p.of = part-use g.fit p m in
      let n : length (meets z p) ≡ length p.of.at = length-map p.of.at (number z) in
      let s : suc i - 1 ≡ i = omega arith in (
        suc i,
        (omega arith, omega (arith, u.arity)),
        u.cues (met_by p.of (suc i)) (get_d_mem p.of.at (suc i - 1) (omega arith)),
        (rw s (sym (get_d_map_in (number z) p.of.at i (omega arith)) ∙ e)),
      )

  to-edge : (u v w : ℕ) → Crossing price z u v w → EdgeBetween (JoinWalk price z.blocks) u v w
  unfolding renamed
  to-edge u v w (local (l, i, x, y, o)) =
      let (k, j, e) = map-mem (renamed (number z)) l z.block.links i in
      let q : GoodLink z.block k = g.fit.good.links k j in
      record {
        start = k.from;
        finish = k.to;
        start-cue = q.from;
        finish_cue = q.to;
        start-at = sym (ap (λ (r : Link). r.from) e) ∙ x;
        finish_at = sym (ap (λ (r : Link). r.to) e) ∙ y;
        edge = by-link k j refl refl (rw (ap (λ (r : Link). r.label) e) at o);
      }
  to-edge u v w (across p (m, x) (_, y) c) =
      let (i, hi, ci, ei) = join_at p m u x in
      let (j, hj, cj, ej) = join_at p m v y in
      let k : ℕ = p.of.block in
      let d : Walk (Linked price (links z.blocks k p.base (meets z p))) (cue_at (size z p) p.base (meets z p) (size z p + j))
      (cue_at (size z p) p.base (meets z p) (size z p + i)) w =
      rw (outlet p m i hi, outlet p m j hj, ei, ej) (walk_map (λ u v w e. e.1) c) in
      record {
        start = met_by p.of i;
        finish = met_by p.of j;
        start-cue = ci;
        finish_cue = cj;
        start-at = ei;
        finish_at = ej;
        edge = by-use p.of (parts_from-use (total z.blocks) (z.base + z.block.own) z.block.uses p m) i j hi hj
            (lifted z.blocks g.good k p.base (meets z p) (arity g.fit p m) price (part-clear g p m) (meets-apart g p m)
            (omega arith) (omega arith) d)
            refl refl;
      }

  -- From the number of a cue on, a walk over crossings is a walk over the block's cues.
  lower-walk : {v u n : ℕ} (a : ℕ) → Cue z.block a → number z a ≡ u → Walk (Crossing price z) v u n
      → (c : ℕ) × Cue z.block c × (number z c ≡ v) × Walk (Local price (JoinWalk price z.blocks) z.blocks z.block) c a n
  lower-walk a h e (stop p q) = (a, h, e ∙ p, stop refl q)
  lower-walk {v} {u} {n} a h e (step t w m r x q) =
      let y : EdgeBetween (JoinWalk price z.blocks) u t w = to-edge u t w r in
      let same : y.start ≡ a = number-apart g y.start a y.start-cue h (y.start-at ∙ sym e) in
      let (c, k, s, d) = lower-walk y.finish y.finish_cue y.finish_at x in
      (c, k, s, next y.finish w m (rw same at y.edge) d q)

  -- A walk inside the copy between two cues of the block is a walk over the block's links and its uses' rows.
  pub to-local : {a c n : ℕ} → Cue z.block a → Cue z.block c → Walk (Linked price (all-links z)) (number z c) (number z a) n
      → Walk (Local price (JoinWalk price z.blocks) z.blocks z.block) c a n
  to-local {a} {c} h k x =
      let (e, j, s, y) = lower-walk a h refl (contracted price g (number-own g.fit a h) (number-own g.fit c k) x) in
      rw (number-apart g e c j k s) at y

  of-edge : (u v w : ℕ) → Local price (JoinWalk price z.blocks) z.blocks z.block u v w
      → Walk (Linked price (all-links z)) (number z v) (number z u) w
  unfolding renamed
  of-edge u v w (by-link l i x y o) =
      lone (from-edge price g (number z u) (number z v) w
      (own (renamed (number z) l, mem_map (renamed (number z)) i, ap (number z) x, ap (number z) y, o)))
  of-edge u v w (by-use q m i j hi hj r x y) =
      let (p, n, f) = parts_from-of (total z.blocks) (z.base + z.block.own) z.block.uses q m in go p n f
    where
      go : (p : Part) → IsPart z p → p.of ≡ q → Walk (Linked price (all-links z)) (number z v) (number z u) w
      go p n f =
          let hi' : Join z.blocks p.of.block i = rw f hi in
          let hj' : Join z.blocks p.of.block j = rw f hj in
          let r' : JoinWalk price z.blocks p.of.block i j w = rw f r in
          let x' : met_by p.of i ≡ u = rw f x in
          let y' : met_by p.of j ≡ v = rw f y in
          rw (outlet p n i hi', outlet p n j hj', x', y') at
          (walk_weaken price (link-part g p n)
          (lower z.blocks g.good p.of.block p.base (meets z p) (arity g.fit p n) price r'))

  -- And back.
  pub of-local : {a c n : ℕ} → Walk (Local price (JoinWalk price z.blocks) z.blocks z.block) c a n
      → Walk (Linked price (all-links z)) (number z c) (number z a) n
  of-local x = walk_carry (number z) of-edge x

-- No edge improves an estimate; then no walk does.
abbrev pub Stable : (ℕ → ℕ → ℕ → Type 0) → (ℕ → ℕ) → Type 0
Stable W d = (u v w : ℕ) → W u v w → d v ≤ d u + w

pub along : {W : ℕ → ℕ → ℕ → Type 0} {d : ℕ → ℕ} {t s n : ℕ} → Stable W d → Walk W t s n → d t ≤ d s + n
along {d = d} h (stop p q) = omega (arith, ap d p)
along {d = d} h (step u w m r c e) = omega (arith, h _ u w r, along h c)

module _ (price : Price) {z : Copy} (g : Sound z) (limit : ℕ) (lower : Lower z.block.uses limit) (table : ℕ → ℕ → ℕ → ℕ → Type 0)
    (exact : ExactTable price z.blocks limit table) where
  lighten : (u v w : ℕ) → Local price (JoinWalk price z.blocks) z.blocks z.block u v w
      → (x : ℕ) × Local price table z.blocks z.block u v x × (x ≤ w)
  lighten u v w (by-link l i x y o) = (w, by-link l i x y o, omega arith)
  lighten u v w (by-use q m i j hi hj r x y) =
      let (n, e, h) = exact.covers q.block i j w (lower q m) hi hj r in (n, by-use q m i j hi hj e x y, h)

  to_row : (u v w : ℕ) → Local price table z.blocks z.block u v w → Local price (JoinWalk price z.blocks) z.blocks z.block u v w
  to_row u v w (by-link l i x y o) = by-link l i x y o
  to_row u v w (by-use q m i j hi hj r x y) = by-use q m i j hi hj (exact.sound q.block i j w (lower q m) hi hj r) x y

  -- Closure: estimates that are stable over the block's links and its uses' table bound every walk inside the copy.
  pub closure : {d : ℕ → ℕ} {a c n : ℕ} → Stable (Local price table z.blocks z.block) d → Cue z.block a → Cue z.block c
      → Walk (Linked price (all-links z)) (number z c) (number z a) n → d c ≤ d a + n
  closure {d} stable h k x = let (m, y, l) = walk_lighter lighten (to-local price g h k x) in omega (arith, along {d = d} stable y)

  -- Soundness: a walk over the block's links and its uses' table is a walk inside the copy.
  pub soundness : {a c n : ℕ} → Walk (Local price table z.blocks z.block) c a n
      → Walk (Linked price (all-links z)) (number z c) (number z a) n
  soundness x = of-local price g (walk_map to_row x)

-- Estimates d that a relaxation over W ends with, where begun a x says that it began with x at a: none is larger than what it began with,
-- no edge improves one, and each below inf is what it began with somewhere and a walk from there.
pub record Estimates (W : ℕ → ℕ → ℕ → Type 0) (In : ℕ → Type 0) (inf : ℕ) (begun : ℕ → ℕ → Type 0) (d : ℕ → ℕ) : Type 0 where
  pub fallen : (a x : ℕ) → In a → begun a x → d a ≤ x
  pub stable : Stable W d
  pub attained : (c : ℕ) → In c → d c < inf → (a x m : ℕ) × In a × begun a x × Walk W c a m × (d c ≡ x + m)

-- A walk of weight n to cue c of the copy is no lighter than what the estimates began with at some cue and a walk inside the copy from there.
pub record Covered (price : Price) (z : Copy) (begun : ℕ → ℕ → Type 0) (c n : ℕ) : Type 0 where
  pub start : ℕ
  pub first : ℕ
  pub rest : ℕ
  pub cue : Cue z.block start
  pub begins : begun start first
  pub walk : Walk (Linked price (all-links z)) (number z c) (number z start) rest
  pub weight : first + rest ≤ n

module _ (price : Price) {z : Copy} (g : Sound z) (limit : ℕ) (lower : Lower z.block.uses limit) (table : ℕ → ℕ → ℕ → ℕ → Type 0)
    (exact : ExactTable price z.blocks limit table) (inf : ℕ) where
  -- Over any links that have the copy's: final estimates are told, if what they began with is sound and covers every walk.
  pub estimates-told : {begun : ℕ → ℕ → Type 0} {d : ℕ → ℕ} → Estimates (Local price table z.blocks z.block) (Cue z.block) inf begun d
      → (E : List Link) (s : ℕ) → ((l : Link) → Memᴰ l (all-links z) → Memᴰ l E)
      → ((a x : ℕ) → Cue z.block a → begun a x → x < inf → Walk (Linked price E) (number z a) s x)
      → ((c n : ℕ) → Cue z.block c → Walk (Linked price E) (number z c) s n → Covered price z begun c n)
      → (c : ℕ) → Cue z.block c → Tells price E inf s (number z c) (d c)
  estimates-told {begun} {d} estimates E s all sound covers c h =
      record { reached = λ l. reached (estimates.attained c h l) l; least = λ n x. least n (covers c n h x) }
    where
      reached : (a x m : ℕ) × Cue z.block a × begun a x × Walk (Local price table z.blocks z.block) c a m × (d c ≡ x + m)
          → d c < inf → Walk (Linked price E) (number z c) s (d c)
      reached (a, x, m, k, b, y, e) l =
          reweigh (sym e) (walk_append (sound a x k b (omega arith)) (walk_weaken price all (soundness price g limit lower table exact y)))

      least : (n : ℕ) → Covered price z begun c n → d c ≤ n
      least n v =
          omega (
            arith,
            v.weight,
            estimates.fallen v.start v.first v.cue v.begins,
            closure price g limit lower table exact {d = d} estimates.stable v.cue h v.walk,
          )

-- Estimates that begin with 0 at one cue.
abbrev pub At : ℕ → ℕ → ℕ → Type 0
At s a x = (a ≡ s) × (x ≡ 0)

-- They cover every walk inside the copy from that cue.
pub at-covers : (price : Price) (z : Copy) (a : ℕ) → Cue z.block a → (c n : ℕ) → Walk (Linked price (all-links z)) (number z c) (number z a) n
    → Covered price z (At a) c n
at-covers price z a h c n x = record { start = a; first = 0; rest = n; cue = h; begins = (refl, refl); walk = x; weight = omega arith }

-- So they tell the least weights inside the copy from there.
pub at_told : (price : Price) {z : Copy} (g : Sound z) (limit : ℕ) → Lower z.block.uses limit → (table : ℕ → ℕ → ℕ → ℕ → Type 0)
    → ExactTable price z.blocks limit table → (inf : ℕ) {d : ℕ → ℕ} (a : ℕ) → Cue z.block a
    → Estimates (Local price table z.blocks z.block) (Cue z.block) inf (At a) d → (c : ℕ) → Cue z.block c
    → Tells price (all-links z) inf (number z a) (number z c) (d c)
at_told price {z} g limit lower table exact inf {d} a h estimates c k =
    estimates-told price g limit lower table exact inf estimates (all-links z) (number z a) (λ l i. i)
    (λ b x i e l. stop (ap (number z) (sym e.0)) e.1) (λ c n i x. at-covers price z a h c n x) c k

-- Where the cues are 1 .. cues and no link weighs more than most, every walk can be cut to one that weighs less than most for each cue.
module _ {price : Price} {E : List Link} {s t : ℕ} (cues most : ℕ) (starts : Starts E cues) (low : 1 ≤ t) (high : t ≤ cues)
    (light : (label w : ℕ) → price label w → w ≤ most) where
  pub walk_cut : (n : ℕ) → Walk (Linked price E) t s n → (m : ℕ) × Walk (Linked price E) t s m × (m ≤ (cues - 1) * most)
  walk_cut n c =
      let (m, d, l, k) = shorten (range 1 cues) (range-mem 1 cues t low (omega arith)) (walk_map (λ u v w e. (e, from u v w e)) c) in
      let b : m ≤ edges d * most = weighs_at_most most (λ u v w e. light e.0.label w e.4) d in
      let f : edges d ≤ cues - 1 = omega (arith, range_length 1 cues) in
      (m, d, omega (arith, mul-le-mul_right most f))
    where
      from : (u v w : ℕ) → Linked price E u v w → Memᴰ u (range 1 cues)
      from u v w e = rw (← e.2) (range-mem 1 cues e.0.from (starts e.0 e.1).0 (omega (arith, (starts e.0 e.1).1)))

  -- So an estimate of inf or more, if no such walk reaches that, says that there is no walk.
  pub told_none : {inf x : ℕ} → (cues - 1) * most < inf → Tells price E inf s t x → inf ≤ x → (n : ℕ) → Walk (Linked price E) t s n → ⊥
  told_none large told h n c = let (m, d, b) = walk_cut n c in omega (arith, told.least m d)

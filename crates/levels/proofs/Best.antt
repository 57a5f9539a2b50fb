-- The level of the best link between two cues of a copy is what the copy's links and uses make of none, one after another.
use Prim.Native.Nat.{ℕ, suc, ◌+◌, ◌-◌, ◌<◌}
use native.Mathlib.Omega.{arith}
use native.Mathlib.Decide.{ℕ_discrete, dec_lt}
use mathlib.Core.Path.{◌≡◌, refl, sym, ◌∙◌, ap}
use mathlib.Core.Logic.{◌⊎◌, inl, inr}
use mathlib.Core.Bool.{Bool, true, false, cond}
use mathlib.Core.List.Memᴰ
use mathlib.Core.List.{List, [], ◌∷◌, map, Memᴰ}
use lib.ListN.{length, get_or}
use lib.Dec.{eqb}
use Rattle.model.specs.Choice.{if_eq, if_true}
use Rattle.model.specs.Blocks.{Link, Use, Block, block_at, joins_of, own_of, blocks_of, total}
use Rattle.model.specs.Unfolding.{renamed}
use Rattle.model.specs.Behind.{Origin, Traced, step_into, traced, rows_traced, uses_traced, origins, depth_wins, Behind, Stands, Missing, winner, best, opening_row}
use Rattle.basics.proofs.Choices.{eq_then, eq_else, lt_then, lt_else, true_then, true_else}
use Rattle.basics.proofs.Members.{get_d_mem, get_d_map_in}
use Rattle.basics.specs.Members.{Apart}
use Rattle.shows.specs.WellFormed.{Cue, GoodLink}
use Rattle.shows.specs.Copies.{Part, parts_from, Copy, number, meets, copy_of, Sound, IsPart, part-copy}
use Rattle.shows.proofs.Ranges.{cue_at-join, parts_from-use, part-use}
use Rattle.shows.proofs.BlockAt.{own_of_at, lower-at}
use Rattle.shows.proofs.Locality.{number-apart, part_sound}
use Rattle.shows.specs.Origins.{into, own_row}
use Rattle.shows.proofs.Choosing.{winner-none, winner-assoc, best-append, best-into, depth-step, level-first, level-second}
use Rattle.shows.proofs.Origins.{Joins, origins-hit, origins-skip, uses-next, copy-origins, part-unmet, own-origins, parts-origins, part-origins}
use Rattle.levels.specs.Levels.{level, better_level, one_more, origins_in, position_of, level_at, link_level, links_level, use_level, uses_level}
use Rattle.levels.specs.Tables.{join_cue, Levels}

-- Where a cue stands among those that a use names.
pub position_found : (at : List ℕ) (c : ℕ) → position_of at c < length at → get_or at (position_of at c) 0 ≡ c
unfolding position_of
position_found [] c h = absurd (omega arith)
position_found (a ∷ at) c h = go h (position_found at c) (ℕ_discrete a c)
  where
    go : if_eq a c 0 (suc (position_of at c)) < suc (length at) → (position_of at c < length at → get_or at (position_of at c) 0 ≡ c) → Dec (a ≡ c)
        → get_or (a ∷ at) (if_eq a c 0 (suc (position_of at c))) 0 ≡ c
    go h below (yes e) = rw (eq_then a c 0 (suc (position_of at c)) e) e
    go h below (no n) =
        let f : suc (position_of at c) < suc (length at) = rw (eq_else a c 0 (suc (position_of at c)) n) at h in
        rw (eq_else a c 0 (suc (position_of at c)) n) (below (omega arith))

pub position_named : (at : List ℕ) (c : ℕ) → Memᴰ c at → position_of at c < length at
unfolding position_of
position_named [] c i = absurd (Memᴰ.not-nil i)
position_named (a ∷ at) c i = go (position_named at c) (Memᴰ.cases_cons i) (ℕ_discrete a c)
  where
    go : (Memᴰ c at → position_of at c < length at) → (c ≡ a) ⊎ Memᴰ c at → Dec (a ≡ c)
        → if_eq a c 0 (suc (position_of at c)) < suc (length at)
    go below d (yes e) = rw (eq_then a c 0 (suc (position_of at c)) e) (omega arith)
    go below (inl f) (no n) = absurd (n (sym f))
    go below (inr j) (no n) = rw (eq_else a c 0 (suc (position_of at c)) n) (let h = below j in omega arith)

pub position_is : (at : List ℕ) (c i : ℕ) → Apart at → i < length at → get_or at i 0 ≡ c → position_of at c ≡ i
position_is at c i d h e =
    let l : position_of at c < length at = position_named at c (rw e at (get_d_mem at i h)) in
    d (position_of at c) i l h (position_found at c l ∙ sym e)

-- Levels follow the winner, and a step makes them one more.
pub none_left : (n : ℕ) → better_level n 0 ≡ n
unfolding better_level
none_left n = eq_then 0 0 n _ refl

some_right : (n : ℕ) → better_level 0 (suc n) ≡ suc n
unfolding better_level
some_right n = eq_else (suc n) 0 _ _ (λ e. omega arith) ∙ eq_then 0 0 _ _ refl

both : (a b : ℕ) → better_level (suc a) (suc b) ≡ if_true (depth_wins b a) (suc b) (suc a)
unfolding better_level
both a b =
    eq_else (suc b) 0 _ _ (λ e. omega arith)
    ∙ eq_else (suc a) 0 _ _ (λ e. omega arith)
    ∙ ap (λ (t : Bool). if_true t (suc b) (suc a)) (depth-step b a)

pub level-winner : (a b : Behind) → level (winner a b) ≡ better_level (level a) (level b)
unfolding level winner
level-winner a Missing = ap level (winner-none a) ∙ sym (none_left (level a))
level-winner Missing (Stands y) = sym (some_right (length y.path))
level-winner (Stands x) (Stands y) = go (depth_wins (length y.path) (length x.path)) refl
  where
    go : (t : Bool) → depth_wins (length y.path) (length x.path) ≡ t
        → level (winner (Stands x) (Stands y)) ≡ better_level (suc (length x.path)) (suc (length y.path))
    go true h = ap level (level-second x y h) ∙ sym (both (length x.path) (length y.path) ∙ true_then _ _ _ h)
    go false h =
        let (o, e, l) = level-first x y h in
        ap level e ∙ ap suc l ∙ sym (both (length x.path) (length y.path) ∙ true_else _ _ _ h)

pub level-into : (p : ℕ) (a : Behind) → level (into p a) ≡ one_more (level a)
unfolding level into one_more step_into
level-into p Missing = sym (eq_then 0 0 0 _ refl)
level-into p (Stands o) = sym (eq_else (suc (length o.path)) 0 _ _ (λ e. omega arith))

level-if : (a b : ℕ) (p q : Behind) → level (if_eq a b p q) ≡ if_eq a b (level p) (level q)
unfolding if_eq
level-if a b p q = go (eqb a b)
  where
    go : (t : Bool) → level (cond t p q) ≡ cond t (level p) (level q)
    go true = refl
    go false = refl

-- A join of a part has the number of the cue that it meets.
pub join_meets : (z : Copy) (q : Part) (i : ℕ) → i < length q.of.at
    → number (part-copy z q) (join_cue (own_of z.blocks q.of.block) i) ≡ number z (get_or q.of.at i 0)
join_meets z q i h =
    let own : ℕ = (block_at z.blocks q.of.block).own in
    let e : join_cue own i - own - 1 ≡ i = omega arith in
    rw (own_of_at z.blocks q.of.block)
    (cue_at-join own q.base (meets z q) (join_cue own i) (omega arith) ∙ ap (λ (w : ℕ). get_or (meets z q) w 0) e ∙ get_d_map_in (number z) q.of.at i h)

-- Of a sound copy.
module _ (xs : List ℕ) (k base : ℕ) (met : List ℕ) (g : Sound (copy_of (blocks_of xs) k base met)) (x y : ℕ)
    (cx : Cue (block_at (blocks_of xs) k) x) (cy : Cue (block_at (blocks_of xs) k) y) where
  abbrev bs : List Block
  bs = blocks_of xs

  abbrev opening : ℕ → ℕ
  opening = opening_row xs

  abbrev z : Copy
  z = copy_of bs k base met

  abbrev s : ℕ
  s = number z x

  abbrev t : ℕ
  t = number z y

  -- One of its own links, and some of them.
  link-joins : (l : Link) → GoodLink z.block l → Joins s t (renamed (number z) l) → (l.from ≡ x) × (l.to ≡ y)
  unfolding renamed
  link-joins l ok h = (number-apart g l.from x ok.from cx h.0, number-apart g l.to y ok.to cy h.1)

  links-joins : (l : Link) → l.from ≡ x → l.to ≡ y → Joins s t (renamed (number z) l)
  unfolding renamed
  links-joins l e f = (ap (number z) e, ap (number z) f)

  -- The origin of the first link, if it is one from x to y.
  unfoldable pub here : ℕ → Link → Behind
  here r l = if_eq l.from x (if_eq l.to y (own_row r) Missing) Missing

  pub own-next : (r : ℕ) (l : Link) (ls : List Link) → GoodLink z.block l
      → best (origins s t (rows_traced (number z) r (l ∷ ls))) ≡ winner (here r l) (best (origins s t (rows_traced (number z) (suc r) ls)))
  unfolding rows_traced best here winner
  own-next r l ls ok = go (ℕ_discrete l.from x) (ℕ_discrete l.to y)
    where
      first : Traced
      first = record { origin = record { path = []; row = r }; link = renamed (number z) l }

      go : Dec (l.from ≡ x) → Dec (l.to ≡ y)
          → best (origins s t (first ∷ rows_traced (number z) (suc r) ls)) ≡ winner (here r l) (best (origins s t (rows_traced (number z) (suc r) ls)))
      go (yes a) (yes b) =
          rw (eq_then l.from x (if_eq l.to y (own_row r) Missing) Missing a, eq_then l.to y (own_row r) Missing b)
          (ap best (origins-hit s t first (rows_traced (number z) (suc r) ls) (links-joins l a b)))
      go (yes a) (no b) =
          rw (eq_then l.from x (if_eq l.to y (own_row r) Missing) Missing a, eq_else l.to y (own_row r) Missing b)
          (ap best (origins-skip s t first (rows_traced (number z) (suc r) ls) (λ h. b (link-joins l ok h).1)))
      go (no a) d =
          rw (eq_else l.from x (if_eq l.to y (own_row r) Missing) Missing a)
          (ap best (origins-skip s t first (rows_traced (number z) (suc r) ls) (λ h. a (link-joins l ok h).0)))

  level-here : (r : ℕ) (l : Link) → level (here r l) ≡ link_level l x y
  unfolding here link_level level
  level-here r l =
      level-if l.from x (if_eq l.to y (own_row r) Missing) Missing
      ∙ ap (λ (n : ℕ). if_eq l.from x n 0) (level-if l.to y (own_row r) Missing)

  links-level : (a : Behind) (r : ℕ) (ls : List Link) → ((l : Link) → Memᴰ l ls → GoodLink z.block l)
      → level (winner a (best (origins s t (rows_traced (number z) r ls)))) ≡ links_level ls x y (level a)
  unfolding rows_traced origins best links_level
  links-level a r [] ok = ap level (winner-none a)
  links-level a r (l ∷ ls) ok =
      let rest : Behind = best (origins s t (rows_traced (number z) (suc r) ls)) in
      ap (λ (b : Behind). level (winner a b)) (own-next r l ls (ok l (Memᴰ.head refl)))
      ∙ ap level (sym (winner-assoc a (here r l) rest))
      ∙ links-level (winner a (here r l)) (suc r) ls (λ w i. ok w (Memᴰ.tail i))
      ∙ ap (links_level ls x y) (level-winner a (here r l) ∙ ap (better_level (level a)) (level-here r l))

  -- The joins of a part that meet x and y.
  join_number : (q : Part) (c : ℕ) → position_of q.of.at c < length q.of.at
      → number (part-copy z q) (join_cue (own_of bs q.of.block) (position_of q.of.at c)) ≡ number z c
  join_number q c h = join_meets z q (position_of q.of.at c) h ∙ ap (number z) (position_found q.of.at c h)

  use_both : (m : List ℕ) (u : Use) → position_of u.at x < length u.at → position_of u.at y < length u.at
      → use_level m u x y ≡ one_more (level_at m u.block (position_of u.at x) (position_of u.at y))
  unfolding use_level
  use_both m u h l = lt_then _ _ _ _ h ∙ lt_then _ _ _ _ l

  -- A part says of x and y what its use does, where the levels of its block are right.
  part-level : (m : List ℕ) → Levels xs m k → (p : ℕ) (q : Part) → IsPart z q → q.of.block < k
      → level (into p (best (part-origins opening bs k base met g s t q))) ≡ use_level m q.of x y
  unfolding use_level best into level
  part-level m right p q i low = go (dec_lt (position_of q.of.at x) (length q.of.at)) (dec_lt (position_of q.of.at y) (length q.of.at))
    where
      u : Use
      u = q.of

      none : part-origins opening bs k base met g s t q ≡ [] → level (into p (best (part-origins opening bs k base met g s t q))) ≡ 0
      none e = rw e refl

      go : Dec (position_of u.at x < length u.at) → Dec (position_of u.at y < length u.at)
          → level (into p (best (part-origins opening bs k base met g s t q))) ≡ use_level m u x y
      go (yes h) (yes l) =
          let arity : length u.at ≡ joins_of bs u.block = (part-use g.fit q i).arity in
          let lev = (right.at u.block (position_of u.at x) (position_of u.at y) low (omega arith) (omega arith)).at q.base (meets z q) (part_sound g q i) in
          level-into p (best (part-origins opening bs k base met g s t q))
          ∙ ap one_more (sym (rw (join_number q x h, join_number q y l) at lev))
          ∙ sym (use_both m u h l)
      go (yes h) (no l) =
          none (part-unmet opening bs k base met g s t q i y cy (λ j. l (position_named u.at y j)) (inr refl))
          ∙ sym (lt_then _ _ _ _ h ∙ lt_else _ _ _ _ (omega arith))
      go (no h) d =
          none (part-unmet opening bs k base met g s t q i x cx (λ j. h (position_named u.at x j)) (inl refl))
          ∙ sym (lt_else _ _ _ _ (omega arith))

  -- And so some parts, the first of which stands for the p-th use.
  uses-level : (m : List ℕ) → Levels xs m k → (a : Behind) (p b : ℕ) (us : List Use) → ((q : Part) → Memᴰ q (parts_from (total bs) b us) → IsPart z q × (q.of.block < k))
      → level (winner a (best (origins s t (uses_traced (total bs) (traced opening bs) (number z) p b us)))) ≡ uses_level m us x y (level a)
  unfolding uses_traced origins best uses_level parts_from
  uses-level m right a p b [] ok = ap level (winner-none a)
  uses-level m right a p b (u ∷ us) ok =
      let q : Part = record { of = u; base = b } in
      let (i, low) = ok q (Memᴰ.head refl) in
      let here : Behind = into p (best (part-origins opening bs k base met g s t q)) in
      let rest : List Origin = origins s t (uses_traced (total bs) (traced opening bs) (number z) (suc p) (b + total bs u.block) us) in
      ap (λ (os : List Origin). level (winner a (best os))) (uses-next s t (total bs) (traced opening bs) (number z) p b u us)
      ∙ ap (λ (c : Behind). level (winner a c))
      (best-append (map (step_into p) (part-origins opening bs k base met g s t q)) rest
      ∙ ap (λ (c : Behind). winner c (best rest)) (best-into p (part-origins opening bs k base met g s t q)))
      ∙ ap level (sym (winner-assoc a here (best rest)))
      ∙ uses-level m right (winner a here) (suc p) (b + total bs u.block) us (λ w j. ok w (Memᴰ.tail j))
      ∙ ap (uses_level m us x y) (level-winner a here ∙ ap (better_level (level a)) (part-level m right p q i low))

  -- The level of the best link from x to y.
  pub copy-level : (m : List ℕ) → Levels xs m k
      → level (best (origins_in opening bs k base met x y)) ≡ uses_level m z.block.uses x y (links_level z.block.links x y 0)
  unfolding level winner
  copy-level m right =
      ap (λ (os : List Origin). level (best os)) (copy-origins opening bs k base met g s t)
      ∙ ap level (best-append (own-origins opening bs k base met g s t) (parts-origins opening bs k base met g s t))
      ∙ uses-level m right (best (own-origins opening bs k base met g s t)) 1 (base + z.block.own) z.block.uses
      (λ q j. (j, lower-at bs g.good k q.of (parts_from-use (total bs) (base + z.block.own) z.block.uses q j)))
      ∙ ap (uses_level m z.block.uses x y)
      (links-level Missing (suc (opening k)) z.block.links (λ l i. g.fit.good.links l i))

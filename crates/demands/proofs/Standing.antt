-- What holds of each use that stands while block k is unfolded: the copy that will be put in for it is the copy at the end of its path, and each cue of the
-- block that it names has there the number of the cue that the step makes of it. So the copy is what the step puts in, and the copies for the uses it leaves.
use Prim.Native.Nat.{ℕ, suc, ◌+◌, ◌-◌, ◌≤◌, ◌<◌}
use native.Mathlib.Omega.{arith}
use native.Mathlib.Decide.{dec_lt}
use native.Mathlib.Nat.{add-zero, add_assoc}
use mathlib.Core.Path.{◌≡◌, refl, sym, ◌∙◌, ap, ap₂}
use mathlib.Core.List.{List, [], ◌∷◌, ◌++◌, map, map-map, flat_map, Memᴰ}
use lib.ListN.{length, get_or, take, get_or-map}
use Rattle.model.specs.Choice.{if_lt}
use Rattle.model.specs.Blocks.{Link, Use, Block, block_at, joins_of, sum_over, total}
use Rattle.model.specs.Unfolding.{renamed, uses_links, links}
use Rattle.model.specs.Paths.{own_number, copy_number, number_in}
use Rattle.model.specs.Lists.{range}
use Rattle.basics.proofs.Members.{map_same}
use Rattle.shows.specs.WellFormed.{GoodLink, Good}
use Rattle.shows.specs.Copies.{Part, parts_from, Copy, number, own-links, all-links, extent, copy_of, part-copy, nth_use, part_at, after, Steps, ends, goes}
use Rattle.shows.specs.Numbering.{used_by, block_after}
use Rattle.shows.proofs.Ranges.{cue_at-own, cue_at-join}
use Rattle.shows.proofs.BlockAt.{good-at, total-at, links-at}
use Rattle.shows.proofs.Locality.{alone_copy}
use Rattle.shows.proofs.Trails.{after-snoc, number_in_at, number-after}
use Rattle.shows.proofs.TracedByPath.{used_is}
use Rattle.demands.specs.Replacement.{Node, Standing, own_nodes, nodes_of, nth, edge, standing, node_number, node_at, end_number, by_numbers}
use Rattle.demands.specs.Numbers.{node}
use Rattle.demands.proofs.Rearranging.{ranges_alike, range-parts}
use Rattle.demands.proofs.PutIn.{none, nth-own, nth-join, no_use, use_mem, stand, standing-at}
use Rattle.demands.proofs.Nodes.{node-back, end-own}

-- One step more at the end of a path.
steps-snoc : {z : Copy} {path : List ℕ} (p : ℕ) → Steps z path → 1 ≤ p → p ≤ length (after z path).block.uses → Steps z (path ++ (p ∷ []))
unfolding after
steps-snoc p ends x y = goes x y ends
steps-snoc p (goes a b s) x y = goes a b (steps-snoc p s x y)

block-snoc : (bs : List Block) (k : ℕ) (path : List ℕ) (p : ℕ) → block_after bs k (path ++ (p ∷ [])) ≡ used_by (block_at bs (block_after bs k path)).uses p
unfolding block_after
block-snoc bs k [] p = refl
block-snoc bs k (q ∷ path) p = block-snoc bs (used_by (block_at bs k).uses q) path p

module _ (bs : List Block) (k : ℕ) where
  -- The copy that will be put in for a use, and the cues of a copy.
  abbrev copy_for : Standing → Copy
  copy_for u = after (alone_copy bs k) u.path

  abbrev nodes_in : Copy → List Node
  nodes_in z = map (node_at bs k) (range (suc z.base) (extent z))

  -- What a use is to bring: all the links, and all the cues.
  abbrev pub links_for : Standing → List Link
  links_for u = all-links (copy_for u)

  abbrev pub cues_for : Standing → List Node
  cues_for u = nodes_in (copy_for u)

  -- Each step of the path is a use, and it leads to the block that the use names; what is at its end is a copy of that block, and its joins meet the cues'
  -- numbers.
  pub record Stands (u : Standing) : Type 0 where
    pub steps : Steps (alone_copy bs k) u.path
    pub leads : block_after bs k u.path ≡ u.block
    pub base : ℕ
    pub is : copy_for u ≡ copy_of bs u.block base (map (end_number bs k) u.met)
    pub known : u.block < length bs

module _ (bs : List Block) (good : Good bs) (k : ℕ) where
  -- The cue that no copy has has no number.
  none_number : end_number bs k none ≡ 0
  unfolding node_number after copy_number own_number if_lt
  none_number = end-own bs k [] 0 (omega arith) ∙ number_in_at bs good k 0 [] 0

  module _ {u : Standing} (s : Stands bs k u) where
    abbrev block : Block
    block = block_at bs u.block

    abbrev copy : Copy
    copy = copy_of bs u.block s.base (map (end_number bs k) u.met)

    abbrev cues : List Node
    cues = nodes_of block u

    -- The number that the own cues come to: the copies of the block's uses follow it.
    abbrev behind : ℕ
    behind = s.base + block.own

    -- The number of an own cue.
    own-number : (c : ℕ) → 1 ≤ c → c ≤ block.own → number_in bs k 0 u.path c ≡ number copy c
    own-number c x y =
        number-after bs good k 0 (range (suc (total bs k)) (joins_of bs k)) u.path c s.steps x (rw s.is y) ∙ ap (λ (z : Copy). number z c) s.is

    -- The number of every cue that the step makes of a cue of the block.
    pub cue-number : (c : ℕ) → 1 ≤ c → end_number bs k (nth cues c) ≡ number copy c
    unfolding node_number
    cue-number c x = go (dec_lt block.own c)
      where
        go : Dec (block.own < c) → end_number bs k (nth cues c) ≡ number copy c
        go (no h) =
            ap (end_number bs k) (nth-own block u c x (omega arith))
            ∙ end-own bs k u.path c (rw s.is (omega arith))
            ∙ own-number c x (omega arith)
        go (yes h) =
            ap (end_number bs k) (nth-join block u c h)
            ∙ sym (get_or-map (end_number bs k) u.met (c - block.own - 1) none)
            ∙ ap (get_or (map (end_number bs k) u.met) (c - block.own - 1)) none_number
            ∙ sym (cue_at-join block.own s.base (map (end_number bs k) u.met) c h)

    -- Its links.
    own-edges : map (by_numbers bs k) (map (edge cues) block.links) ≡ own-links copy
    unfolding by_numbers edge renamed
    own-edges = map-map (by_numbers bs k) (edge cues) block.links ∙ map_same _ _ block.links alike
      where
        alike : (l : Link) → Memᴰ l block.links → by_numbers bs k (edge cues l) ≡ renamed (number copy) l
        alike l i =
            let g : GoodLink block l = (good-at bs good u.block).links l i in
            ap₂ (λ (x y : ℕ). record { from = x; to = y; label = l.label }) (cue-number l.from g.from.0) (cue-number l.to g.to.0)

    -- Its own cues are those that their numbers name.
    own-node : (c : ℕ) → 1 ≤ c → c ≤ block.own → node u.path c ≡ node_at bs k (s.base + c)
    unfolding node_number
    own-node c x y = node-back bs k (node u.path c) (s.base + c) (own-number c x y ∙ cue_at-own block.own s.base _ c y) (omega arith)

    own-cues : own_nodes u.path block.own ≡ map (node_at bs k) (range (suc s.base) block.own)
    unfolding own_nodes
    own-cues = ranges_alike _ (node_at bs k) 1 (suc s.base) block.own (λ i l. moved i (own-node (1 + i) (omega arith) (omega arith)))
      where
        moved : (i : ℕ) {v : Node} → v ≡ node_at bs k (s.base + (1 + i)) → v ≡ node_at bs k (suc s.base + i)
        moved i e = let q : suc s.base + i ≡ s.base + (1 + i) = omega arith in rw q e

    -- Some uses of the block, the first of which is the p-th and has its copy after base.
    abbrev Follow : ℕ → ℕ → List Use → Type 0
    Follow p base us =
        (i : ℕ) → i < length us → part_at copy (p + i) ≡ record { of = get_or us i no_use; base = base + sum_over (total bs) (take i us) }

    follow_all : Follow 1 behind block.uses
    unfolding nth_use
    follow_all i l = let e : 1 + i - 1 ≡ i = omega arith in rw e

    -- The copies of some uses are those for the uses that the step makes of them.
    copy-new : (p : ℕ) → after (alone_copy bs k) (u.path ++ (p ∷ [])) ≡ part-copy copy (part_at copy p)
    copy-new p = after-snoc (alone_copy bs k) u.path p ∙ ap (λ (z : Copy). part-copy z (part_at z p)) s.is

    copies-new : {X : Type 0} (f : Copy → List X) (p base : ℕ) (us : List Use) → Follow p base us
        → flat_map (λ w. f (copy_for bs k w)) (standing cues u.path p us)
        ≡ flat_map (λ q. f (part-copy copy q)) (parts_from (total bs) base us)
    unfolding flat_map standing parts_from sum_over
    copies-new f p base [] h = refl
    copies-new f p base (w ∷ us) h =
        ap₂ ◌++◌ (ap f (copy-new p ∙ ap (part-copy copy) first)) (copies-new f (suc p) (base + total bs w.block) us rest)
      where
        first : part_at copy p ≡ record { of = w; base = base }
        first = rw (add-zero p, add-zero base) at (h 0 (omega arith))

        rest : Follow (suc p) (base + total bs w.block) us
        rest i l =
            let d : suc p + i ≡ p + suc i = omega arith in
            rw (d, add_assoc base (total bs w.block) _) (h (suc i) (omega arith))

    -- The links and the cues of those copies.
    parts-links : (base : ℕ) (us : List Use)
        → uses_links (total bs) (links bs) (number copy) base us ≡ flat_map (λ q. all-links (part-copy copy q)) (parts_from (total bs) base us)
    unfolding uses_links flat_map parts_from
    parts-links base [] = refl
    parts-links base (w ∷ us) = ap₂ ◌++◌ (links-at bs good w.block base (map (number copy) w.at)) (parts-links (base + total bs w.block) us)

    parts-cues : (base : ℕ) (us : List Use)
        → map (node_at bs k) (range (suc base) (sum_over (total bs) us)) ≡ flat_map (λ q. nodes_in bs k (part-copy copy q)) (parts_from (total bs) base us)
    unfolding range sum_over flat_map parts_from
    parts-cues base [] = refl
    parts-cues base (w ∷ us) =
        range-parts (node_at bs k) base (total bs w.block) (sum_over (total bs) us)
        ∙ ap₂ ◌++◌ (ap (λ (n : ℕ). map (node_at bs k) (range (suc base) n)) (total-at bs good w.block base (map (number copy) w.at)))
        (parts-cues (base + total bs w.block) us)

    -- So a use brings what the step puts in, and what the uses that it leaves are to bring.
    abbrev pub new : List Standing
    new = standing cues u.path 1 block.uses

    pub split_links : links_for bs k u
        ≡ map (by_numbers bs k) (map (edge cues) block.links) ++ flat_map (links_for bs k) new
    split_links =
        ap all-links s.is
        ∙ ap₂ ◌++◌ (sym own-edges)
        (parts-links behind block.uses ∙ sym (copies-new all-links 1 behind block.uses follow_all))

    pub split_cues : cues_for bs k u ≡ own_nodes u.path block.own ++ flat_map (cues_for bs k) new
    split_cues =
        ap (nodes_in bs k) s.is
        ∙ range-parts (node_at bs k) s.base block.own (sum_over (total bs) block.uses)
        ∙ ap₂ ◌++◌ (sym own-cues)
        (parts-cues behind block.uses ∙ sym (copies-new (nodes_in bs k) 1 behind block.uses follow_all))

    -- The joins of those copies meet the cues' numbers.
    met-new : (w : Use) → Memᴰ w block.uses → map (number copy) w.at ≡ map (end_number bs k) (map (nth cues) w.at)
    met-new w m =
        sym (map-map (end_number bs k) (nth cues) w.at
        ∙ map_same _ _ w.at (λ c i. cue-number c (((good-at bs good u.block).uses w m).cues c i).0))

    -- The paths of those uses lead to the blocks that they name.
    leads-new : (i : ℕ) → i < length block.uses → block_after bs k (u.path ++ ((1 + i) ∷ [])) ≡ (get_or block.uses i no_use).block
    leads-new i l =
        block-snoc bs k u.path (1 + i)
        ∙ ap (λ (j : ℕ). used_by (block_at bs j).uses (1 + i)) s.leads
        ∙ used_is block.uses (1 + i) (omega arith)
        ∙ ap (λ (q : Part). q.of.block) (follow_all i l)

    -- And each of those uses stands.
    pub new-stands : (w : Standing) → Memᴰ w new → Stands bs k w
    new-stands w m = let (i, l, e) = standing-at cues u.path 1 block.uses w m in rw e (go i l)
      where
        go : (i : ℕ) → i < length block.uses → Stands bs k (stand cues u.path (1 + i) (get_or block.uses i no_use))
        go i l =
            let w : Use = get_or block.uses i no_use in
            let base : ℕ = behind + sum_over (total bs) (take i block.uses) in
            let m : Memᴰ w block.uses = use_mem block.uses i l in
            record {
              steps = steps-snoc (1 + i) s.steps (omega arith) (rw s.is (omega arith));
              leads = leads-new i l;
              base = base;
              is = copy-new (1 + i) ∙ ap (part-copy copy) (follow_all i l) ∙ ap (copy_of bs w.block base) (met-new w m);
              known = ((good-at bs good u.block).uses w m).lower;
            }

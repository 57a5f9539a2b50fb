-- Cues by their numbers in block k: the cue that a number names has this number, and a cue that has a number is the one that the number names. What a link
-- leads from or to has a number too: a cue its own, and what a join of the block meets one after the total.
use Prim.Native.Nat.{ℕ, suc, ◌+◌, ◌-◌, ◌≤◌, ◌<◌}
use native.Mathlib.Omega.{arith}
use native.Mathlib.Decide.{ℕ_discrete, dec_lt}
use native.Mathlib.Nat.{zero-add, sub-zero}
use mathlib.Core.Path.{◌≡◌, refl, sym, ◌∙◌, ap, ap₂}
use mathlib.Core.List.Memᴰ
use mathlib.Core.List.Permᴰ
use mathlib.Core.List.{List, [], ◌∷◌, ◌++◌, map, map-id, map-map, Memᴰ, Permᴰ}
use lib.ListN.{length}
use Rattle.model.specs.Blocks.{Block, block_at, joins_of, total}
use Rattle.model.specs.Lists.{range}
use Rattle.basics.proofs.Choices.{lt_then, lt_else}
use Rattle.basics.proofs.Members.{map-mem, mem_map, range-bounds, range-mem}
use Rattle.shows.specs.WellFormed.{Good}
use Rattle.shows.specs.Copies.{after}
use Rattle.shows.specs.Numbering.{Named}
use Rattle.shows.proofs.Numbering.{located, named}
use Rattle.shows.proofs.Ranges.{Within, inner, join}
use Rattle.shows.proofs.Locality.{alone_copy}
use Rattle.demands.specs.Replacement.{Node, join_nodes, node_number, node_at, end_number}
use Rattle.demands.specs.Numbers.{node}
use Rattle.demands.proofs.Rearranging.{perm_mem, ranges_alike}

module _ (bs : List Block) (k : ℕ) where
  -- No number is over the total, and a cue that has a number is the one that it names.
  number-high : (v : Node) → node_number bs k v ≤ total bs k
  unfolding node_number
  number-high v = go (ℕ_discrete (node_number bs k v) 0)
    where
      go : Dec (node_number bs k v ≡ 0) → node_number bs k v ≤ total bs k
      go (yes e) = omega arith
      go (no e) = rw zero-add at (named bs k 0 v.path v.own _ refl e).high

  pub node-back : (v : Node) (n : ℕ) → node_number bs k v ≡ n → 1 ≤ n → v ≡ node_at bs k n
  unfolding node_number node_at
  node-back v n e low =
      let r : Named bs k 0 v.path v.own n = named bs k 0 v.path v.own n e (λ z. omega arith) in
      sym (ap₂ node (rw sub-zero at r.path-back) (rw sub-zero at r.own_back))

  pub number-back : Good bs → k < length bs → (n : ℕ) → 1 ≤ n → n ≤ total bs k → node_number bs k (node_at bs k n) ≡ n
  unfolding node_number node_at
  number-back good known n low high = rw zero-add at ((located bs good k n known low high).number 0)

  -- The number of an end: that of an own cue of a copy, and that of what a join meets.
  pub end-own : (path : List ℕ) (c : ℕ) → c ≤ (after (alone_copy bs k) path).block.own → end_number bs k (node path c) ≡ node_number bs k (node path c)
  unfolding end_number after
  end-own [] c h = lt_else (block_at bs k).own c _ _ h
  end-own (p ∷ path) c h = refl

  end-join : (c : ℕ) → (block_at bs k).own < c → end_number bs k (node [] c) ≡ total bs k + (c - (block_at bs k).own)
  unfolding end_number
  end-join c h = lt_then (block_at bs k).own c _ _ h

  pub join_numbers : map (end_number bs k) (join_nodes bs k) ≡ range (suc (total bs k)) (joins_of bs k)
  unfolding join_nodes joins_of
  join_numbers =
      map-map (end_number bs k) (node []) (range (suc own) (block_at bs k).joins)
      ∙ ranges_alike _ (λ (n : ℕ). n) (suc own) (suc (total bs k)) (block_at bs k).joins (λ i l. end-join (suc own + i) (omega arith) ∙ omega arith)
      ∙ map-id _
    where
      own : ℕ
      own = (block_at bs k).own

  -- One of the two it is.
  data IsEnd (v : Node) : Type 0 where
    a_cue : end_number bs k v ≡ node_number bs k v → IsEnd v
    a_join : v.path ≡ [] → (block_at bs k).own < v.own → end_number bs k v ≡ total bs k + (v.own - (block_at bs k).own) → IsEnd v

  is-end : (path : List ℕ) (c : ℕ) → IsEnd (node path c)
  unfolding end_number
  is-end [] c = go (dec_lt (block_at bs k).own c)
    where
      go : Dec ((block_at bs k).own < c) → IsEnd (node [] c)
      go (yes h) = a_join refl h (end-join c h)
      go (no h) = a_cue (lt_else (block_at bs k).own c _ _ (omega arith))
  is-end (p ∷ path) c = a_cue refl

  -- Where some cues are those that the numbers 1 to the total name, they are the cues that have a number,
  module _ {cues : List Node} (all : Permᴰ cues (map (node_at bs k) (range 1 (total bs k)))) where
    pub numbered-cue : (v : Node) → 1 ≤ node_number bs k v → Memᴰ v cues
    numbered-cue v low =
        let n : ℕ = node_number bs k v in
        rw (node-back v n refl low)
        (perm_mem (Permᴰ.symm all) (mem_map (node_at bs k) (range-mem 1 (total bs k) n low (omega (arith, number-high v)))))

    pub cue-numbered : Good bs → k < length bs → (v : Node) → Memᴰ v cues → 1 ≤ node_number bs k v
    cue-numbered good known v i =
        let (n, j, e) = map-mem (node_at bs k) v (range 1 (total bs k)) (perm_mem all i) in
        let h = range-bounds 1 (total bs k) n j in
        rw (e, number-back good known n h.0 (omega arith)) h.0

    -- and an end whose number is one of the block that stands alone is one of them, or what a join meets.
    pub end-in : (v : Node) → Within 0 (total bs k) (range (suc (total bs k)) (joins_of bs k)) (end_number bs k v) → Memᴰ v (cues ++ join_nodes bs k)
    unfolding join_nodes joins_of
    end-in v w = go w (is-end v.path v.own)
      where
        go : Within 0 (total bs k) (range (suc (total bs k)) (block_at bs k).joins) (end_number bs k v) → IsEnd v → Memᴰ v (cues ++ join_nodes bs k)
        go (inner x y) (a_cue e) = Memᴰ.append_left _ (numbered-cue v (omega arith))
        go (inner x y) (a_join p h e) = absurd (omega arith)
        go (join i) (a_cue e) = absurd (omega (arith, number-high v, range-bounds (suc (total bs k)) (block_at bs k).joins _ i))
        go (join i) (a_join p h e) =
            let high = range-bounds (suc (total bs k)) (block_at bs k).joins _ i in
            let q : v ≡ node [] v.own = ap (λ (path : List ℕ). node path v.own) p in
            rw q
            (Memᴰ.append_right cues
            (mem_map (node []) (range-mem (suc (block_at bs k).own) (block_at bs k).joins v.own h (omega (arith, high)))))

-- The unfolding by single steps, in any order. Document 01, "Unfolding": "a use is removed, a fresh copy of the block is put in, and the
-- copy's j-th join becomes the j-th cue named by the use. This goes on until only links remain." In the field's terms: derivations of a
-- hyperedge replacement grammar. What a step does is said anew here: no number, and nothing of the definitions of the unfolding.
use Rattle.std.specs.Prelude.{ℕ, suc, ◌+◌, ◌-◌, ◌≤◌, ◌<◌, ◌≡◌, true, false, ◌↔◌, length, get_or, eqb}
use mathlib.Core.List.{List, [], ◌∷◌, ◌++◌, map, Memᴰ, Permᴰ}
use Rattle.model.specs.Choice.{if_lt}
use Rattle.model.specs.Blocks.{Link, Use, Block, block_at, sum_over, total}
use Rattle.model.specs.Paths.{number_in, place_in}
use Rattle.model.specs.Lists.{range}

-- The graph on the way.

-- A cue: an own cue of a copy, and the path that leads to the copy. In the field's terms: a node of the derived graph, by its address.
pub record Node : Type 0 where
  pub path : List ℕ
  pub own : ℕ

-- A link from cue to cue.
pub record Edge : Type 0 where
  pub from : Node
  pub to : Node
  pub label : ℕ

-- A use that still stands: the path of the copy that will be put in, the block that it names, and the cues that its joins are to meet.
pub record Standing : Type 0 where
  pub path : List ℕ
  pub block : ℕ
  pub met : List Node

pub record Graph : Type 0 where
  pub cues : List Node
  pub links : List Edge
  pub uses : List Standing

-- A copy.

-- Its own cues, "1 to own".
unfoldable pub own_nodes : List ℕ → ℕ → List Node
own_nodes path own = map (λ (c : ℕ). record { path = path; own = c }) (range 1 own)

-- "cues 1 to own are its own; own + 1 to own + joins are its joins in order", and "the copy's j-th join becomes the j-th cue named by the
-- use": what the cues 1, 2, .. of block b are in the copy that is put in for a use.
unfoldable pub nodes_of : Block → Standing → List Node
nodes_of b u = own_nodes u.path b.own ++ u.met

-- The c-th of some cues, counted from 1; where there is none, one that no copy has.
unfoldable pub nth : List Node → ℕ → Node
nth cues c = get_or cues (c - 1) (record { path = []; own = 0 })

-- Its links, and its uses, the first of which is the p-th of the block: "the list of use positions (1 for the block's first use)".
unfoldable pub edge : List Node → Link → Edge
edge cues l = record { from = nth cues l.from; to = nth cues l.to; label = l.label }

unfoldable pub standing : List Node → List ℕ → ℕ → List Use → List Standing
standing cues path p [] = []
standing cues path p (u ∷ us) =
    record { path = path ++ (p ∷ []); block = u.block; met = map (nth cues) u.at } ∷ standing cues path (suc p) us

-- Steps.

-- "a use is removed, a fresh copy of the block is put in": any one of the uses that stand.
pub record Step (bs : List Block) (g h : Graph) : Type 0 where
  pub before : List Standing
  pub chosen : Standing
  pub after : List Standing
  pub stood : g.uses ≡ before ++ (chosen ∷ after)
  pub cues : h.cues ≡ g.cues ++ own_nodes chosen.path (block_at bs chosen.block).own
  pub links : h.links ≡ g.links ++ map (edge (nodes_of (block_at bs chosen.block) chosen)) (block_at bs chosen.block).links
  pub uses : h.uses
      ≡ (before ++ after)
      ++ standing (nodes_of (block_at bs chosen.block) chosen) chosen.path 1 (block_at bs chosen.block).uses

-- "This goes on": so many steps lead from one graph to another.
pub data Run (bs : List Block) : ℕ → Graph → Graph → Type 0 where
  stay : {g : Graph} → Run bs 0 g g
  then : {n : ℕ} {g h i : Graph} → Run bs n g h → Step bs h i → Run bs (suc n) g i

-- "of the last block": where it begins, one use of block k stands, the show's or any other's. What the joins of a block that stands alone meet, no copy
-- owns: it has the empty path and the cues own + 1 to own + joins, as inside the block. The show has no joins.
unfoldable pub join_nodes : List Block → ℕ → List Node
join_nodes bs k = map (λ (c : ℕ). record { path = []; own = c }) (range (suc (block_at bs k).own) (block_at bs k).joins)

unfoldable pub begin : List Block → ℕ → Graph
begin bs k = record { cues = []; links = []; uses = record { path = []; block = k; met = join_nodes bs k } ∷ [] }

-- "until only links remain": so many steps from the beginning, and no use stands.
pub record Ended (bs : List Block) (k n : ℕ) (g : Graph) : Type 0 where
  pub run : Run bs n (begin bs k) g
  pub over : g.uses ≡ []

-- How many copies are put in for a use of block k: its own, and those of its uses, "each use counted".
unfoldable pub copies : List Block → ℕ → ℕ
copies [] k = 0
copies (b ∷ earlier) k =
    elim (eqb k (length earlier)) [ true ↦ suc (sum_over (copies earlier) b.uses) | false ↦ copies earlier k ]

-- What is left of block k, "each cue known by its number".

-- The number of a cue, and the cue of a number.
unfoldable pub node_number : List Block → ℕ → Node → ℕ
node_number bs k v = number_in bs k 0 v.path v.own

unfoldable pub node_at : List Block → ℕ → ℕ → Node
node_at bs k n = record { path = (place_in bs k n).path; own = (place_in bs k n).own }

-- The number of what a link leads from or to: that of the cue; for what the joins of the block itself meet, in order, the numbers after its total.
unfoldable pub end_number : List Block → ℕ → Node → ℕ
end_number bs k v =
    elim v.path [
      | [] ↦ if_lt (block_at bs k).own v.own (total bs k + (v.own - (block_at bs k).own)) (node_number bs k v)
      | p ∷ path ↦ node_number bs k v
    ]

unfoldable pub by_numbers : List Block → ℕ → Edge → Link
by_numbers bs k e = record { from = end_number bs k e.from; to = end_number bs k e.to; label = e.label }

-- Whatever use is replaced at each step, it ends, and in the same graph, whose links are E: of the show, and of each block that stands alone.
pub record Unfolds (bs : List Block) (k : ℕ) (E : List Link) : Type 0 where
  -- A run has at most as many steps as there are copies; with fewer, a use stands and is replaced; with all of them, none stands.
  -- So there is a run to the end.
  pub bounded : {n : ℕ} {g : Graph} → Run bs n (begin bs k) g → n ≤ copies bs k
  pub goes_on_is : {n : ℕ} {g : Graph} → Run bs n (begin bs k) g → n < copies bs k → (h : Graph) × Step bs g h
  pub all : {n : ℕ} {g : Graph} → Run bs n (begin bs k) g → (g.uses ≡ []) ↔ (n ≡ copies bs k)
  pub ended : (g : Graph) × Ended bs k (copies bs k) g
  -- The number n names the cue that has the number n. Its cues are those that the numbers 1 to the total name, so each is there once. Its links
  -- lead from cue to cue, or from or to what its joins meet; and, each of these replaced by its number, they are E, as often as they stand there.
  -- (List.Permᴰ: one list is a rearrangement of the other.)
  pub named : (n : ℕ) → 1 ≤ n → n ≤ total bs k → node_number bs k (node_at bs k n) ≡ n
  pub cues : {n : ℕ} {g : Graph} → Ended bs k n g → Permᴰ g.cues (map (node_at bs k) (range 1 (total bs k)))
  pub links : {n : ℕ} {g : Graph} → Ended bs k n g → Permᴰ (map (by_numbers bs k) g.links) E
  pub ends-in : {n : ℕ} {g : Graph} → Ended bs k n g → (e : Edge) → Memᴰ e g.links
      → Memᴰ e.from (g.cues ++ join_nodes bs k) × Memᴰ e.to (g.cues ++ join_nodes bs k)

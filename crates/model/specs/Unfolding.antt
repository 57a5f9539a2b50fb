-- The unfolding. Document 01, "Unfolding": "a use is removed, a fresh copy of the block is put in, and the copy's j-th join becomes
-- the j-th cue named by the use." In the field's terms: the derived graph of the grammar, with each node known by its number.
-- That single replacement steps, in any order, lead to just these links is a theorem (crates/demands).
use Rattle.std.specs.Prelude.{ℕ, ◌+◌, ◌-◌, true, false, List, [], ◌∷◌, ◌++◌, map, length, get_or, eqb}
use Rattle.model.specs.Choice.{if_lt}
use Rattle.model.specs.Blocks.{Link, Use, Block, total, last_block}

-- The number of cue c in a copy. "a copy numbers its own cues first": they follow base. "A join has no number of its own; it has
-- that of the cue it meets": those are met.
unfoldable pub cue_at : ℕ → ℕ → List ℕ → ℕ → ℕ
cue_at own base met c = if_lt own c (get_or met (c - own - 1) 0) (base + c)

unfoldable pub renamed : (ℕ → ℕ) → Link → Link
renamed f l = record { from = f l.from; to = f l.to; label = l.label }

-- "then the cues of its uses in order": the links of the copies that stand for some uses, the first of which begins after base.
unfoldable pub uses_links : (ℕ → ℕ) → (ℕ → ℕ → List ℕ → List Link) → (ℕ → ℕ) → ℕ → List Use → List Link
uses_links size below number base [] = []
uses_links size below number base (u ∷ us) =
    below u.block base (map number u.at) ++ uses_links size below number (base + size u.block) us

-- The links of a copy of block k whose own cues follow base and whose joins meet met.
unfoldable pub links : List Block → ℕ → ℕ → List ℕ → List Link
links [] k base met = []
links (b ∷ earlier) k base met =
    elim (eqb k (length earlier)) [
      | true ↦ map (renamed (cue_at b.own base met)) b.links
          ++ uses_links (total earlier) (links earlier) (cue_at b.own base met) (base + b.own) b.uses
      | false ↦ links earlier k base met
    ]

-- "The unfolded show is what this leaves of the last block"; "The show's copy begins at 1."
unfoldable pub show_links : List Block → List Link
show_links bs = links bs (last_block bs) 0 []

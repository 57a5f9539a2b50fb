-- The ring show of document 01 by single steps: its blocks; a run of its steps, the second of two uses before the first; and the same of its block 1, which
-- stands alone. No cue has a number here, and nothing rests on a law.
use Prim.Native.Nat.{ℕ}
use mathlib.Core.Path.{refl}
use mathlib.Core.List.{List, [], ◌∷◌}
use Rattle.model.specs.Blocks.{Link, Use, Block, block_at, last_block}
use Rattle.model.specs.Lists.{range}
use Rattle.demands.specs.Replacement.{Node, Edge, Standing, Graph, own_nodes, nodes_of, nth, edge, standing, Step, stay, then, join_nodes, begin, Ended}
use Rattle.demands.specs.Numbers.{node}

-- Its blocks, the last first.
abbrev pub link-of : ℕ → ℕ → ℕ → Link
link-of from to label = record { from = from; to = to; label = label }

abbrev pub use_of : ℕ → List ℕ → Use
use_of block at = record { block = block; at = at }

abbrev pub bs : List Block
bs =
    record { joins = 0; own = 2; links = link-of 2 1 2 ∷ []; uses = use_of 1 (1 ∷ 2 ∷ []) ∷ [] }
    ∷ record { joins = 2; own = 1; links = []; uses = use_of 0 (1 ∷ 3 ∷ []) ∷ use_of 0 (2 ∷ 1 ∷ []) ∷ [] }
    ∷ record { joins = 2; own = 1; links = link-of 1 3 1 ∷ link-of 2 1 1 ∷ []; uses = [] } ∷ []

-- The five cues: of the show, of its copy of block 1, and of the two copies of block 0 in that.
abbrev pub a : Node
a = node [] 1

abbrev pub b : Node
b = node [] 2

abbrev pub c : Node
c = node (1 ∷ []) 1

abbrev pub d : Node
d = node (1 ∷ 1 ∷ []) 1

abbrev pub e : Node
e = node (1 ∷ 2 ∷ []) 1

abbrev pub from-to : Node → Node → ℕ → Edge
from-to u v label = record { from = u; to = v; label = label }

abbrev pub use_at_lem : List ℕ → ℕ → List Node → Standing
use_at_lem path block met = record { path = path; block = block; met = met }

-- The graph after one, two, three and four steps.
abbrev pub after-1 : Graph
after-1 = record { cues = a ∷ b ∷ []; links = from-to b a 2 ∷ []; uses = use_at_lem (1 ∷ []) 1 (a ∷ b ∷ []) ∷ [] }

abbrev pub after-2 : Graph
after-2 =
    record {
      cues = a ∷ b ∷ c ∷ [];
      links = from-to b a 2 ∷ [];
      uses = use_at_lem (1 ∷ 1 ∷ []) 0 (c ∷ b ∷ []) ∷ use_at_lem (1 ∷ 2 ∷ []) 0 (a ∷ c ∷ []) ∷ [];
    }

abbrev pub after-3 : Graph
after-3 =
    record {
      cues = a ∷ b ∷ c ∷ e ∷ [];
      links = from-to b a 2 ∷ from-to e c 1 ∷ from-to a e 1 ∷ [];
      uses = use_at_lem (1 ∷ 1 ∷ []) 0 (c ∷ b ∷ []) ∷ [];
    }

abbrev pub after-4 : Graph
after-4 =
    record {
      cues = a ∷ b ∷ c ∷ e ∷ d ∷ [];
      links = from-to b a 2 ∷ from-to e c 1 ∷ from-to a e 1 ∷ from-to d b 1 ∷ from-to c d 1 ∷ [];
      uses = [];
    }

-- The steps: the third one replaces the second of two uses.
pub step-1 : Step bs (begin bs (last_block bs)) after-1
unfolding join_nodes begin own_nodes nodes_of nth edge standing range block_at last_block
step-1 = record { before = []; chosen = use_at_lem [] 2 []; after = []; stood = refl; cues = refl; links = refl; uses = refl }

step-2 : Step bs after-1 after-2
unfolding own_nodes nodes_of nth edge standing range block_at
step-2 = record { before = []; chosen = use_at_lem (1 ∷ []) 1 (a ∷ b ∷ []); after = []; stood = refl; cues = refl; links = refl; uses = refl }

step-3 : Step bs after-2 after-3
unfolding own_nodes nodes_of nth edge standing range block_at
step-3 =
    record {
      before = use_at_lem (1 ∷ 1 ∷ []) 0 (c ∷ b ∷ []) ∷ [];
      chosen = use_at_lem (1 ∷ 2 ∷ []) 0 (a ∷ c ∷ []);
      after = [];
      stood = refl;
      cues = refl;
      links = refl;
      uses = refl;
    }

step-4 : Step bs after-3 after-4
unfolding own_nodes nodes_of nth edge standing range block_at
step-4 = record { before = []; chosen = use_at_lem (1 ∷ 1 ∷ []) 0 (c ∷ b ∷ []); after = []; stood = refl; cues = refl; links = refl; uses = refl }

pub ring-ended : Ended bs (last_block bs) 4 after-4
ring-ended = record { run = then (then (then (then stay step-1) step-2) step-3) step-4; over = refl }

-- Block 1 alone: its own cue, the cues of its two copies of block 0, and what its joins meet, which no copy owns.
abbrev pub own : Node
own = node [] 1

abbrev pub first : Node
first = node (1 ∷ []) 1

abbrev pub second : Node
second = node (2 ∷ []) 1

abbrev pub met-1 : Node
met-1 = node [] 2

abbrev pub met-2 : Node
met-2 = node [] 3

abbrev pub alone_1 : Graph
alone_1 = record { cues = own ∷ []; links = []; uses = use_at_lem (1 ∷ []) 0 (own ∷ met-2 ∷ []) ∷ use_at_lem (2 ∷ []) 0 (met-1 ∷ own ∷ []) ∷ [] }

abbrev pub alone_2 : Graph
alone_2 =
    record {
      cues = own ∷ second ∷ [];
      links = from-to second own 1 ∷ from-to met-1 second 1 ∷ [];
      uses = use_at_lem (1 ∷ []) 0 (own ∷ met-2 ∷ []) ∷ [];
    }

abbrev pub alone_3 : Graph
alone_3 =
    record {
      cues = own ∷ second ∷ first ∷ [];
      links = from-to second own 1 ∷ from-to met-1 second 1 ∷ from-to first met-2 1 ∷ from-to own first 1 ∷ [];
      uses = [];
    }

-- Its steps: the second one replaces the second of two uses.
alone_step_1 : Step bs (begin bs 1) alone_1
unfolding join_nodes begin own_nodes nodes_of nth edge standing range block_at
alone_step_1 = record { before = []; chosen = use_at_lem [] 1 (met-1 ∷ met-2 ∷ []); after = []; stood = refl; cues = refl; links = refl; uses = refl }

alone_step_2 : Step bs alone_1 alone_2
unfolding own_nodes nodes_of nth edge standing range block_at
alone_step_2 =
    record {
      before = use_at_lem (1 ∷ []) 0 (own ∷ met-2 ∷ []) ∷ [];
      chosen = use_at_lem (2 ∷ []) 0 (met-1 ∷ own ∷ []);
      after = [];
      stood = refl;
      cues = refl;
      links = refl;
      uses = refl;
    }

alone_step_3 : Step bs alone_2 alone_3
unfolding own_nodes nodes_of nth edge standing range block_at
alone_step_3 = record { before = []; chosen = use_at_lem (1 ∷ []) 0 (own ∷ met-2 ∷ []); after = []; stood = refl; cues = refl; links = refl; uses = refl }

pub alone_ended : Ended bs 1 3 alone_3
alone_ended = record { run = then (then (then stay alone_step_1) alone_step_2) alone_step_3; over = refl }
